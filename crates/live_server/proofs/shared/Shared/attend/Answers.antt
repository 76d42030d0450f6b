use Rattle.std.proofs.Common.{ap, slice_get, sym, ◌∙◌}
use Rattle.live_server.proofs.shared.Shared.attend.Goals as goal

pub finish-requires-after_bounds : goal.finish-requires-after_bounds
finish-requires-after_bounds g c κs lives =
    c.serve_session-end.ensures.answered c.requires.place
    (sym (ap (λ places. slice_get places c.args.pass.station) c.args.self.now.running.stations) ∙ c.requires.there)
