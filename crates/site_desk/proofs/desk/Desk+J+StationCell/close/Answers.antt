use Rattle.std.{proofs.Common.subst, proofs.lemmas.List.map-id}
use Rattle.site_desk.specs.Parts.{AreTied}
use Rattle.site_desk.proofs.desk.Desk+J+StationCell.close.Goals as goal

pub of-requires : goal.of-requires
of-requires g c = subst (λ cs. AreTied cs c.in-Ok.books.items) (map-id c.in-Ok.cells.items) c.in-Ok.ensures.tied
