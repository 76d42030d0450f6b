use Rattle.std.proofs.Common.{ap, sym, rules}
use Rattle.kept_desk.{specs.Entries.{bytes_of, entry}, proofs.Moves.adds}
use Rattle.kept_desk.proofs.steps.append.Goals as goal

pub load-requires : goal.load-requires
load-requires g c = (
  search rules,
  search rules,
  adds _ _ _ _ (entry c.args.station c.args.note.now (bytes_of c.args.line) c.args.command.now) c.requires.entries
      (ap (λ m. m.0.is_journal) c.requires.joined) (ap (λ m. m.0.is_share) c.requires.joined) (sym (ap (λ m. m.0.station) c.requires.joined)),
)
