use Rattle.std.proofs.Common.{ap, sym, ◌∙◌}
use Rattle.kept_desk.{specs.Entries.of_station, specs.Journal.Ledger}
use Rattle.kept_desk.proofs.way.Journalled.look.Goals as goal

pub returns-clause-own : goal.returns-clause-own
returns-clause-own g c =
    c.compare.ensures.own ∙ ap (of_station c.args.share.now.station) (sym (c.moment.ensures.moment ∙ ap (λ (j : Ledger). j.entries) c.compare.ensures.same.0))
