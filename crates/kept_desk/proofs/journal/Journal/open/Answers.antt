use Rattle.std.{proofs.Common.{[], length, ap, sym, ◌∙◌, subst}, proofs.lemmas.List.Elements.All-nil}
use Rattle.kept_desk.{specs.declared.entry.Entry.Entry, specs.Held.Sits, specs.Rule.keeping, specs.Speaking.{AreSpoken, SpeaksOf}, proofs.Lines.none}
use Rattle.kept_desk.proofs.journal.Journal.open.Goals as goal

pub invariant_of-result : goal.invariant_of-result
invariant_of-result g c =
    let table = c.into_parts-table.ensures.table in
    let unused = c.into_parts-table.ensures.seat in
    let empty = ap (λ m. m.0.log) unused.me_is in
    record {
      is_named = table ∙ c.requires.table;
      sits = subst (λ t. Sits t c.into_parts-table.result.1.table_id) (sym table) unused.sits;
      me_is = unused.me_is ∙ ap (λ log. (keeping log 0, [])) (sym empty);
      written = none _ _ _ _ c.requires.before c.requires.empty empty;
      spoken = subst (AreSpoken g.K.Opening.name) (sym empty) (All-nil (λ (e : Entry). SpeaksOf (g.K.Opening.name e.station) e.line e.command));
    }
