use Rattle.std.proofs.Common.{ap, rules}
use Rattle.kept_desk.proofs.Moves.{confirms}
use Rattle.kept_desk.proofs.steps.compare_receipt.Goals as goal

pub load-requires : goal.load-requires
load-requires c = (search rules, search rules, confirms _ _ _ (ap (λ m. m.0.is_journal) c.requires.reads) (ap (λ m. m.0.is_receipt) c.requires.reads))
