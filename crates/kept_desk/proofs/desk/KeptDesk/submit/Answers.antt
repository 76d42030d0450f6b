use Rattle.std.{proofs.Common.{ap, sym, subst, ◌∙◌}, specs.Prelude.slice_get}
use Rattle.site_desk.specs.Roster.{Roster}
use Rattle.kept_desk.{specs.Entries.bytes_of, specs.Speaking.SpeaksOf}
use Rattle.kept_desk.proofs.desk.KeptDesk.submit.Goals as goal

pub submit_by-requires : goal.submit_by-requires
submit_by-requires g c = λ at there. (
  c.requires.note,
  subst (λ name. SpeaksOf name (bytes_of c.args.line) c.args.command) (sym (c.self.invariant.names c.args.pass.now.station at there))
      (c.requires.speaks at (ap (λ (r : Roster). slice_get r.stations c.args.pass.now.station) (sym c.self.view_is) ∙ there)),
)
