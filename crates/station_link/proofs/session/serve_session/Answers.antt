use Rattle.std.{proofs.Common.{[], refl, sym}, proofs.lemmas.List.Elements.All-nil}
use Rattle.station_link.{specs.Attended.IsAnswered, proofs.Attended.of_session}
use Rattle.station_link.proofs.session.serve_session.Goals as goal

pub returns-clause-answered : goal.returns-clause-answered
returns-clause-answered g c at there =
    of_session g.D.Delivers.gives g.C.MomentSource.reads g.S.Read.remaining g.S.Write.contents (g.D.Delivers.stations c.args.desk.now) _ _ _ _ at there
    (All-nil (IsAnswered g.D.Delivers.gives)) c.answer_all-ended.ensures.attended
