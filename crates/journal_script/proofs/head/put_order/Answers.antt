use Rattle.std.proofs.Common.{subst, sym}
use Rattle.journal_script.{specs.Head.{Adds, order_meanings}, proofs.HeadLines.{adds_order, on_ok}}
use Rattle.journal_script.proofs.head.put_order.Goals as goal

pub returns-in-Moment : goal.returns-in-Moment
returns-in-Moment c =
    let old = c.args.head.now.items in
    let new = c.put_line.new.head.items in
    let site = c.args.site.now.name in
    on_ok c.put_line.result _ _
    (λ e. subst (λ o. Adds old new (order_meanings site o)) (sym c.in-Moment.is) (adds_order old new c.text.result.now site c.text.ensures.value c.text.ensures.named e))
    c.put_line.ensures
