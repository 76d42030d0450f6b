use Rattle.std.proofs.Common.{◌≡◌, ◌≤◌, ◌+◌, [], vec_capacity, vec_len}
use Rattle.station_link.{specs.Attended.point, proofs.Attended.SoFar}
use Rattle.station_link.proofs.session.answer_all.Given as goal

-- the station stays, no turn makes more than one change or is more than one text, there is room, and the texts so far
abbrev pub invariant-loop-turn : goal.invariant-loop-turn
invariant-loop-turn g l = record {
  station : l.pass.station ≡ l.fn.pass.station;
  changes : l.pass.changes ≤ l.fn.pass.changes + l.turn;
  texts : l.texts ≤ l.turn;
  room : vec_capacity l.kept.seen ≡ 1_000_000;
  used : vec_len l.kept.seen ≤ l.turn;
  attended : SoFar g.D.Delivers.gives g.C.MomentSource.reads g.S.Read.remaining g.S.Write.contents (g.D.Delivers.stations l.desk)
      (point l.fn.pass l.fn.clock l.fn.socket []) (point l.pass l.clock l.socket l.kept.seen.items) l.texts;
}
