use Rattle.std.proofs.Common.{[], ◌∷◌, ◌++◌, ◌∙◌, ap, decimal, subst}
use Rattle.ledger_model.specs.Quarter.{IsPeriod}
use Rattle.script_lines.specs.LineMeaning.{sets_period}
use Rattle.journal_script.{specs.Head.{order_meanings, settle_meanings}, proofs.HeadLines.{adds_both, adds_period, on_ok}}
use Rattle.journal_script.proofs.head.put_site.Goals as goal

pub returns : goal.returns
returns c =
    let old = c.args.head.now.items in
    let timed = c.put_line.new.head.items in
    let ordered = c.put_order.new.head.items in
    let new = c.put_settle.new.head.items in
    let site = c.args.site.now in
    let orders = order_meanings site.name site.order in
    let rules = settle_meanings site.name site.period.rule in
    let period = adds_period old timed c.text.result.now c.format-seconds.result.now site.name site.period.length c.text.ensures.value c.text.ensures.named
    (c.format-seconds.ensures.text ∙ ap decimal (c.seconds.ensures.value ∙ c.length.ensures.value)) (subst IsPeriod c.length.ensures.value c.length.ensures.range) c.in_ok-put_line.ensures in
    on_ok c.put_settle.result _ _
    (λ settled. adds_both old timed new (sets_period site.name site.period.length ∷ []) (orders ++ rules) period
    (adds_both timed ordered new orders rules c.in_ok-put_order.ensures settled))
    c.put_settle.ensures
