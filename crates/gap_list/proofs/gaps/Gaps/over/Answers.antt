use Rattle.std.proofs.Common.{ap, sym, subst}
use Rattle.ledger_model.{specs.BoardLaws.AreGaps, specs.Gaps.gaps, proofs.GapLemmas.gaps-AreGaps}
use Rattle.gap_list.proofs.gaps.Gaps.over.Goals as goal

pub returns-clause-missing : goal.returns-clause-missing
returns-clause-missing g c =
    subst (AreGaps _) (sym (ap gaps c.start-place.ensures.all)) (gaps-AreGaps _ c.start-place.ensures.rising)
