use Rattle.std.proofs.Common.{◌≡◌, ◌<◌, ◌^◌, true, false, is_some, ap, sym, ◌∙◌, arith, subst}
use Rattle.key_index.{specs.Key.rank, specs.Entries.{from, filed_at, AreRising}}
use Rattle.event_chain.{specs.Table.row_of, specs.Flat.place_of, specs.Edits.place_at, specs.Placed.Index, proofs.Places.{found_at, place_at_row}}
use Rattle.event_chain.proofs.look_ups.locate.Goals as goal

pub unreachable-requires-in-None-get : goal.unreachable-requires-in-None-get
unreachable-requires-in-None-get c =
    let es = c.stored-stored.result.entries in let rows = c.args.table.now.rows in let row = c.in-Some.row in let key = c.args.key.now in
    let lt : key.seq < 2 ^ 31 = omega (arith, c.seq.ensures.value, c.seq.ensures.range) in
    let rising = subst (λ (x : Index). AreRising x.entries) (sym c.stored-stored.ensures.same) c.stored-stored.ensures.rising in
    let none = sym (ap (λ (x : Index). place_at rows x.entries key) c.stored-stored.ensures.same)
    ∙ place_at_row rows es key row (sym (c.in-Some.ensures.value ∙ ap (λ t. row_of t rows) c.tx.ensures)) lt
    ∙ ap (λ r. place_of r es) (ap (rank row.slot) (sym c.seq.ensures.value) ∙ sym c.new-at.ensures)
    ∙ sym (found_at c.new-at.result es rising) ∙ sym c.get-2.ensures ∙ c.in-None-get.is in
    let f : false ≡ true = ap is_some (sym none) ∙ c.requires in cc

pub returns : goal.returns
returns c = record {
  row = sym (c.in-Some.ensures.value ∙ ap (λ t. row_of t c.args.table.now.rows) c.tx.ensures);
  key_is = c.new-at.ensures ∙ ap (rank c.in-Some.row.slot) c.seq.ensures.value;
  slot = sym (found_at c.new-at.result c.args.places.now.stored.entries c.stored-stored.ensures.rising)
      ∙ sym (ap (λ (x : Index). filed_at c.new-at.result (from c.new-at.result x.entries)) c.stored-stored.ensures.same)
      ∙ sym c.get-2.ensures ∙ c.in-Some-get.is;
  number = omega (arith, c.seq.ensures.value, c.seq.ensures.range);
}
