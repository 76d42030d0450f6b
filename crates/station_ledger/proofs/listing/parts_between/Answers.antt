use Rattle.std.{proofs.Common.{List, sym, subst, ◌∙◌}, specs.Prelude.All, proofs.lemmas.Result.IfOk-weaker}
use Rattle.ledger_model.{specs.Energy.change_of, specs.Moment.IsMoment, specs.Parts.{Part, parts_by}, specs.Quarter.{IsPeriod, IsQuarterOf}}
use Rattle.station_ledger.proofs.Timely.{parts_own}
use Rattle.station_ledger.proofs.listing.parts_between.Goals as goal

-- the shares of two readings are the parts of their difference
pub returns-in-Even-clause-own : goal.returns-in-Even-clause-own
returns-in-Even-clause-own c =
    let period = c.args.period in let one = c.args.earlier in let other = c.args.later in
    let rule = sym c.in-Even.is ∙ c.rule.ensures in
    let since = subst IsMoment (c.nanos-since.ensures.value ∙ c.moment.ensures) c.nanos-since.ensures.range in
    let until = subst IsMoment (c.nanos-until.ensures.value ∙ c.moment-2.ensures) c.nanos-until.ensures.range in
    let own = parts_own period (one, other) (subst IsPeriod c.length.ensures.value c.length.ensures.range) since until in
    IfOk-weaker c.share_evenly.result _ _
    (λ parts is. subst (λ (ts : List Part). All (λ (t : Part). IsQuarterOf period.length t.0) ts)
    (sym (is ∙ (λ i. parts_by (rule i) (c.length.ensures.value i) (change_of (one, other))))) own)
    c.share_evenly.ensures
