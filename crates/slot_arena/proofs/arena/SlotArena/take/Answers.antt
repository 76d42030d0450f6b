use Rattle.std.{proofs.Common.{◌≡◌, ℕ, ◌-◌, ◌<◌, ◌↔◌, List, Option, Some, None, length, get_or, set, refl, sym, ap, ◌∙◌, subst, arith, length-set}, proofs.lemmas.Bool.false≢true}
use Rattle.slot_arena.{specs.declared.slot.Slot.Slot, specs.declared.slot.Slot.TheVariants.{Free, Held}, specs.Arena.{value_at, held_count, IsFull}, specs.Free.{value_in, values_in, IsThreaded}, proofs.Rooms.holding_within, proofs.Threads.{first_links, threaded-take, shown_at, shown_length, shown_set}}
use Rattle.slot_arena.proofs.arena.SlotArena.take.Goals as goal

-- No slot is free exactly if the arena is full.
none_free : {X : Type 0} (row : List (Option (Slot X))) (slots : List (Option X)) (first spare : ℕ) → values_in row ≡ slots → IsThreaded row first spare → (spare ≡ 0) ↔ IsFull slots
none_free row slots first spare shows t =
    let held = ap held_count shows in let as_long = ap length shows in
    (λ none. omega (arith, shown_length row), λ full. omega (arith, shown_length row))

-- The id of a free slot has no value.
free_shows_none : {X : Type 0} (row : List (Option (Slot X))) (slots : List (Option X)) (first id next : ℕ)
    → values_in row ≡ slots → id ≡ first → get_or row first None ≡ Some (Free next) → (id < length slots) × (value_at slots id ≡ None)
free_shows_none row slots first id next shows same links =
    let as_long = ap length shows in (
      omega (arith, holding_within row first (Free next) links, shown_length row),
      ap (λ l. value_at l id) (sym shows) ∙ shown_at row id ∙ ap (λ i. value_in (get_or row i None)) same ∙ ap value_in links,
    )

pub returns-then-self-eq0-clause-full : goal.returns-then-self-eq0-clause-full
returns-then-self-eq0-clause-full g c =
    let a = c.self.inside in
    (λ _. (none_free a.places.row c.args.self.now a.first a.spare c.self.view_is c.self.invariant.threaded).0 c.if-self-eq0.true, λ _. refl)

pub hold-self-inside-requires : goal.hold-self-inside-requires
hold-self-inside-requires g c =
    let a = c.self.inside in let some : 0 < a.spare = omega (arith, c.if-self-eq0.false) in
    (sym c.self.invariant.places_at, first_links a.places.row a.first a.spare c.self.invariant.threaded some)

pub invariant_of-self : goal.invariant_of-self
invariant_of-self g c =
    let a = c.self.inside in let was = c.self.invariant in let held = c.hold-self-inside in let place = Some (Held c.args.value) in
    let some : 0 < a.spare = omega (arith, c.if-self-eq0.false) in
    record {
      places_at = held.ensures.row.0 ∙ was.places_at;
      lease_at = was.lease_at;
      lease_len = was.lease_len;
      lease_alloc = was.lease_alloc;
      count = ap length held.ensures.row.1 ∙ length-set a.places.row a.first place ∙ was.count;
      threaded = subst (λ row. IsThreaded row held.result (a.spare - 1)) (sym held.ensures.row.1)
          (threaded-take a.places.row a.first a.spare held.result c.args.value was.threaded some held.ensures.next);
    }

pub returns-clause-was_free : goal.returns-clause-was_free
returns-clause-was_free g c =
    let a = c.self.inside in let held = c.hold-self-inside in
    free_shows_none a.places.row c.args.self.now a.first c.new.result held.result c.self.view_is c.new.ensures held.ensures.next

pub returns-clause-numbered : goal.returns-clause-numbered
returns-clause-numbered g c =
    let a = c.self.inside in
    omega (arith, holding_within a.places.row a.first (Free c.hold-self-inside.result) c.hold-self-inside.ensures.next, c.self.invariant.threaded.few, c.new.ensures)

pub returns-clause-full : goal.returns-clause-full
returns-clause-full g c =
    let a = c.self.inside in
    (λ e. absurd (false≢true e), λ full. absurd (c.if-self-eq0.false ((none_free a.places.row c.args.self.now a.first a.spare c.self.view_is c.self.invariant.threaded).1 full)))

pub returns-clause-taken : goal.returns-clause-taken
returns-clause-taken g c =
    let a = c.self.inside in let held = c.hold-self-inside in let place = Some (Held c.args.value) in
    ap values_in held.ensures.row.1 ∙ shown_set a.places.row a.first place ∙ ap (λ slots. set slots a.first (Some c.args.value)) c.self.view_is
    ∙ ap (λ id. set c.args.self.now id (Some c.args.value)) (sym c.new.ensures)
