use Rattle.std.proofs.Common.{codes, refl, subst}
use Rattle.ledger_model.specs.declared.settle.Settle.TheVariants.{Closing, Even}
use Rattle.journal_script.{specs.Head.{Adds, settle_meanings}, proofs.HeadLines.{adds_settle, on_ok}}
use Rattle.journal_script.proofs.head.put_settle.Goals as goal

pub returns-in-Closing : goal.returns-in-Closing
returns-in-Closing c =
    let old = c.args.head.now.items in
    let new = c.put_line.new.head.items in
    let site = c.args.site.now.name in
    on_ok c.put_line.result _ _
    (λ e. subst (λ r. Adds old new (settle_meanings site r)) c.in-Closing.ensures
    (adds_settle old new c.text.result.now site (codes "closing") Closing c.text.ensures.value c.text.ensures.named refl (record { plain = refl; short = refl }) e))
    c.put_line.ensures

pub returns-in-Even : goal.returns-in-Even
returns-in-Even c =
    let old = c.args.head.now.items in
    let new = c.put_line-in-Even.new.head.items in
    let site = c.args.site.now.name in
    on_ok c.put_line-in-Even.result _ _
    (λ e. subst (λ r. Adds old new (settle_meanings site r)) c.in-Even.ensures
    (adds_settle old new c.text-in-Even.result.now site (codes "even") Even c.text-in-Even.ensures.value c.text-in-Even.ensures.named refl (record { plain = refl; short = refl }) e))
    c.put_line-in-Even.ensures
