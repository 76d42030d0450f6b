use Rattle.std.proofs.Common.{◌<◌, ◌^◌, sym, ap, ◌∙◌, subst, arith}
use Rattle.event_chain.{specs.Placed.carriers_of, specs.Edits.{IsStored, first_at, last_at}, proofs.Neighbours.{none_before, none_behind, before_stored, behind_stored, before_is, behind_is}}
use Rattle.key_index.specs.Key.{rank}
use Rattle.event_chain.proofs.around.sides_of.Goals as goal

pub last_at-sides-requires : goal.last_at-sides-requires
last_at-sides-requires c =
    let p = c.args.places.now in let d = c.args.direction in let slots = c.args.store.now.slots in let key = c.args.key.now in let row = c.in-Some.row in
    let lt : key.seq < 2 ^ 31 = omega (arith, c.seq.ensures.value, c.seq.ensures.range) in
    subst (IsStored slots) (sym c.carriers_around-found.ensures.before)
    (before_stored d c.args.table.now.rows p.stored.entries (carriers_of p d).entries slots c.requires.keyed c.requires.carry key row
    c.new-at.result (sym c.requires.row ∙ c.in-Some.is) lt (c.new-at.ensures ∙ ap (rank row.slot) c.seq.ensures.value))

pub first_at-sides-requires : goal.first_at-sides-requires
first_at-sides-requires c =
    let p = c.args.places.now in let d = c.args.direction in let slots = c.args.store.now.slots in let key = c.args.key.now in let row = c.in-Some.row in
    let lt : key.seq < 2 ^ 31 = omega (arith, c.seq.ensures.value, c.seq.ensures.range) in
    subst (IsStored slots) (sym c.carriers_around-found.ensures.behind)
    (behind_stored d c.args.table.now.rows p.stored.entries (carriers_of p d).entries slots c.requires.keyed c.requires.carry key row
    c.new-at.result (sym c.requires.row ∙ c.in-Some.is) lt (c.new-at.ensures ∙ ap (rank row.slot) c.seq.ensures.value))

pub returns-in-Some : goal.returns-in-Some
returns-in-Some c =
    let p = c.args.places.now in let d = c.args.direction in let slots = c.args.store.now.slots in let key = c.args.key.now in let row = c.in-Some.row in
    let lt : key.seq < 2 ^ 31 = omega (arith, c.seq.ensures.value, c.seq.ensures.range) in
    let row_is = sym c.requires.row ∙ c.in-Some.is in let rank_is = c.new-at.ensures ∙ ap (rank row.slot) c.seq.ensures.value in
    record {
      before = c.last_at-sides.ensures ∙ ap (last_at slots d) c.carriers_around-found.ensures.before
          ∙ sym (before_is d c.args.table.now.rows p.stored.entries (carriers_of p d).entries slots c.requires.keyed c.requires.carry key row c.new-at.result row_is lt rank_is);
      behind = c.first_at-sides.ensures ∙ ap (first_at slots d) c.carriers_around-found.ensures.behind
          ∙ sym (behind_is d c.args.table.now.rows p.stored.entries (carriers_of p d).entries slots c.requires.keyed c.requires.carry key row c.new-at.result row_is lt rank_is);
    }

pub returns-in-None : goal.returns-in-None
returns-in-None c =
    let p = c.args.places.now in let d = c.args.direction in let slots = c.args.store.now.slots in
    let row_is = sym c.requires.row ∙ c.in-None.is in
    record {
      before = sym (none_before d c.args.table.now.rows p.stored.entries (carriers_of p d).entries slots c.requires.keyed c.requires.carry c.args.key.now row_is);
      behind = sym (none_behind d c.args.table.now.rows p.stored.entries (carriers_of p d).entries slots c.requires.keyed c.requires.carry c.args.key.now row_is);
    }
