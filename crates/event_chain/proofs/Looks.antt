-- An event put in, marked or taken out: what is found of each key, and what is kept by key.
use Rattle.std.{proofs.lemmas.Grind.common_steps, proofs.Common.{◌≡◌, ℕ, ◌+◌, ◌<◌, ◌/◌, ◌^◌, Bool, true, false, not, cond, ◌&&◌, List, Option, Some, None, length, set, refl, sym, ap, ◌∙◌, subst, arith, inl, inr, ◌⊎◌, get_or-set_other, get_or-set_same}, proofs.lemmas.Bool.cases_eq, specs.Ordering.{eq_by_cmp, nat_cmp}, specs.Cmp.nat_cmp_total, specs.FinMap.{find, nat_cmp-IsAntisymmetric}}
use Rattle.slot_arena.specs.Arena.{value_at}
use Rattle.key_index.specs.Key.{rank}
use Rattle.ledger_model.{specs.Key.{KeyName, key_cmp}, specs.Content.Stored}
use Rattle.event_store.specs.Slots.{Held}
use Rattle.event_chain.{specs.declared.row.TableRow.TableRow, specs.Table.{TxRow, AreRising, AreApart, id_cmp, row_of}, specs.Flat.{EventPlace, place_of, event_at, number_at, look_in, look, flat}, specs.Kept.{is_end, IsSub, HasPlace, IsBare, IsKeyed, IsNew, IsNamed, IsLeft}, proofs.Decided.{key_test, id_test, denied}, proofs.Changes.{IsChange, change_here, change_other}, proofs.Flats.{find_flat, flat_rising}}

-- What a slot has of an event of this rank, if there is one.
abbrev pub held_in : ℕ → Option Stored → Option Held
held_in r None = None
held_in r (Some s) = Some (r, s)

-- The place of an event that passes a test, if there is one.
abbrev pub kept_at : (Stored → Bool) → ℕ → Option Stored → Option ℕ
kept_at test s0 None = None
kept_at test s0 (Some s) = cond (test s) (Some s0) None

-- The place of an event, if there is one.
abbrev pub slot_if : ℕ → Option Stored → Option ℕ
slot_if s0 None = None
slot_if s0 (Some s) = Some s0

-- What an event counts as a live one.
abbrev pub live_in : Option Stored → ℕ
live_in None = 0
live_in (Some s) = cond (not s.voided) 1 0

-- And as an end.
abbrev pub end_in : Option Stored → ℕ
end_in None = 0
end_in (Some s) = cond (not s.voided && is_end s.event.kind) 1 0

-- The event of a key before a change, its place and its slot. Its transaction may be new.
pub record IsPlace (rows : List TxRow) (es : List EventPlace) (slots : List (Option Held)) (key : KeyName) (row : TableRow) (r0 s0 : ℕ) (was : Option Stored) : Type 0 where
  pub keyed : IsKeyed rows es slots
  pub number : key.seq < 2 ^ 31
  pub rank_is : r0 ≡ rank row.slot key.seq
  pub at : place_of r0 es ≡ slot_if s0 was
  pub here : value_at slots s0 ≡ held_in r0 was
  pub within : s0 < length slots
  pub known : (row_of key.tx rows ≡ Some row) ⊎ IsNew rows key.tx row

-- A transaction that has a row with the slot, and a place.
pub record IsRow (rows : List TxRow) (es : List EventPlace) (tx : List ℕ) (slot : ℕ) : Type 0 where
  pub row : TableRow
  pub there : row_of tx rows ≡ Some row
  pub same : row.slot ≡ slot
  pub filled : HasPlace es slot

-- It has, or it has no row, and no place has the slot.
abbrev pub HasSlot : List TxRow → List EventPlace → List ℕ → ℕ → Type 0
HasSlot rows es tx slot = IsRow rows es tx slot ⊎ ((row_of tx rows ≡ None) × IsBare es slot)

-- The row of a transaction after a change of one of its events.
pub record IsTurned (rows new : List TxRow) (more : List EventPlace) (tx : List ℕ) (row : TableRow) (was now : Option Stored) : Type 0 where
  pub rising : AreRising new
  pub apart : AreApart new
  pub others : (q : List ℕ) → (q ≡ tx → ⊥) → row_of q new ≡ row_of q rows
  pub end : HasSlot new more tx row.slot
  pub live : (after : TableRow) → row_of tx new ≡ Some after → after.live + live_in was ≡ row.live + live_in now
  pub ends : (after : TableRow) → row_of tx new ≡ Some after → after.ends + end_in was ≡ row.ends + end_in now

-- What is so of a transaction's row is so of each row that is found.
only : (P : TableRow → Type 0) (o : Option TableRow) (a : TableRow) → o ≡ Some a → P a → (x : TableRow) → o ≡ Some x → P x
only P o a is p x at = let same : a ≡ x = cc in subst P same p

-- A transaction that stays, as the place is one of its own.
pub turned_named : (rows new : List TxRow) (es more : List EventPlace) (tx : List ℕ) (row after : TableRow) (r0 s0 : ℕ) (was now : Option Stored)
    → IsNamed rows new tx row after → AreRising new → AreApart new → IsChange nat_cmp r0 (Some s0) es more → r0 / 2 ^ 31 ≡ row.slot
    → after.live + live_in was ≡ row.live + live_in now → after.ends + end_in was ≡ row.ends + end_in now → IsTurned rows new more tx row was now
turned_named rows new es more tx row after r0 s0 was now named rising apart places home live ends =
    let found = change_here nat_cmp nat_cmp_total nat_cmp-IsAntisymmetric r0 (Some s0) es more places in
    record {
      rising = rising;
      apart = apart;
      others = named.others;
      end = inl (record { row = after; there = named.there; same = named.same; filled = record { rank = r0; place = s0; found = found; slot_is = home } });
      live = only (λ r. r.live + live_in was ≡ row.live + live_in now) (row_of tx new) after named.there live;
      ends = only (λ r. r.ends + end_in was ≡ row.ends + end_in now) (row_of tx new) after named.there ends;
    }

-- A transaction of which a voided event went.
pub turned_left : (rows new : List TxRow) (more : List EventPlace) (tx : List ℕ) (row : TableRow) (st : Stored) → IsLeft rows new more tx row → AreRising new → AreApart new
    → st.voided ≡ true → IsTurned rows new more tx row (Some st) None
turned_left rows new more tx row st left rising apart voided = grind (arith, common_steps)

-- The slot of a transaction before a change.
has_slot : {rows : List TxRow} {es : List EventPlace} {slots : List (Option Held)} {tx : List ℕ} {row : TableRow}
    → IsKeyed rows es slots → (row_of tx rows ≡ Some row) ⊎ IsNew rows tx row → HasSlot rows es tx row.slot
has_slot {tx = tx} {row = row} keyed known = elim known [
  | inl is ↦ inl (record { row = row; there = is; same = refl; filled = keyed.filled tx row is })
  | inr new ↦ inr (new.absent, (λ r s is home. let h = keyed.homes r s is in new.fresh h.tx h.row h.row_is (sym h.slot_is ∙ home)))
]

-- What is found of a transaction is what its slot's numbers say.
look_slot : (rows : List TxRow) (es : List EventPlace) (slots : List (Option Held)) (tx : List ℕ) (slot seq : ℕ) → HasSlot rows es tx slot
    → look_in es slots seq (row_of tx rows) ≡ event_at slots (number_at slot seq es)
look_slot rows es slots tx slot seq has = grind (arith, common_steps)

-- The event of a key whose transaction is known or new.
pub look_known : (rows : List TxRow) (es : List EventPlace) (slots : List (Option Held)) (key : KeyName) (row : TableRow) (r0 : ℕ) → IsKeyed rows es slots
    → (row_of key.tx rows ≡ Some row) ⊎ IsNew rows key.tx row → key.seq < 2 ^ 31 → r0 ≡ rank row.slot key.seq → look rows es slots key ≡ event_at slots (place_of r0 es)
look_known rows es slots key row r0 keyed known number is = grind (arith, common_steps, look_slot rows es slots key.tx row.slot key.seq (has_slot keyed known))

-- A slot has one event.
one_rank : (o : Option Held) (w : Option Stored) (r r0 : ℕ) (a : Stored) → o ≡ Some (r, a) → o ≡ held_in r0 w → r ≡ r0
one_rank o None r r0 a x y = cc
one_rank o (Some w) r r0 a x y = let e : (r, a) ≡ (r0, w) = cc in ap (λ (h : Held). h.0) e

-- What a place that is there has.
slot_held : (o : Option Stored) (s0 s : ℕ) → slot_if s0 o ≡ Some s → (st : Stored) × ((o ≡ Some st) × (s0 ≡ s))
slot_held o s0 s is = grind (arith, common_steps)

-- A transaction has one row.
one_slot : (o : Option TableRow) (a b : TableRow) → o ≡ Some a → o ≡ Some b → a.slot ≡ b.slot
one_slot o a b x y = let e : a ≡ b = cc in ap (λ (z : TableRow). z.slot) e

-- What is found is not absent.
no_row : (o : Option TableRow) (a : TableRow) → o ≡ Some a → o ≡ None → ⊥
no_row o a x y = cc

module _ {rows new : List TxRow} {es more : List EventPlace} {slots held : List (Option Held)} {key : KeyName} {row : TableRow} {r0 s0 : ℕ} {was now : Option Stored}
    (place : IsPlace rows es slots key row r0 s0 was) (turn : IsTurned rows new more key.tx row was now)
    (places : IsChange nat_cmp r0 (slot_if s0 now) es more) (slots_are : held ≡ set slots s0 (held_in r0 now)) where
  home : r0 / 2 ^ 31 ≡ row.slot
  home = omega (arith, place.rank_is, place.number)

  -- The slot is no other place's.
  pub own : (r : ℕ) → place_of r es ≡ Some s0 → r ≡ r0
  own r at = let h = place.keyed.homes r s0 at in one_rank (value_at slots s0) was r r0 h.stored h.held_is place.here

  -- Another slot has what it had.
  pub stays : (s : ℕ) → (s ≡ s0 → ⊥) → value_at held s ≡ value_at slots s
  stays s other = ap (λ xs. value_at xs s) slots_are ∙ get_or-set_other slots s0 s (held_in r0 now) None other

  -- This one has the event.
  pub held_here : value_at held s0 ≡ held_in r0 now
  held_here = ap (λ xs. value_at xs s0) slots_are ∙ get_or-set_same slots s0 (held_in r0 now) None place.within

  -- Another place is where it was.
  pub places_other : (r : ℕ) → (r ≡ r0 → ⊥) → place_of r more ≡ place_of r es
  places_other r other = change_other nat_cmp nat_cmp_total nat_cmp-IsAntisymmetric r0 (slot_if s0 now) es more places r other

  -- This one has the slot.
  pub place_here : place_of r0 more ≡ slot_if s0 now
  place_here = change_here nat_cmp nat_cmp_total nat_cmp-IsAntisymmetric r0 (slot_if s0 now) es more places

  -- The transaction's slot is no other one's.
  mine : (q : List ℕ) (other : TableRow) → row_of q rows ≡ Some other → other.slot ≡ row.slot → q ≡ key.tx
  mine q other is same = let at = place.keyed.filled q other is in elim (has_slot place.keyed place.known) [
    | inl old ↦ place.keyed.apart q key.tx other old.row is old.there (same ∙ sym old.same)
    | inr none ↦ absurd (none.1 at.rank at.place at.found (at.slot_is ∙ same))
  ]

  -- The event of a number whose place is another is the same.
  same_number : (t seq : ℕ) → (seq < 2 ^ 31 → rank t seq ≡ r0 → ⊥) → event_at held (number_at t seq more) ≡ event_at slots (number_at t seq es)
  same_number t seq other = grind (arith, common_steps, own, stays, places_other)

  -- The event of another number of the transaction is the same.
  same_here : (seq : ℕ) → (seq ≡ key.seq → ⊥) → look_in more held seq (row_of key.tx new) ≡ look_in es slots seq (row_of key.tx rows)
  same_here seq other = look_slot new more held key.tx row.slot seq turn.end ∙ same_number row.slot seq (λ lt e. let is = place.rank_is in other (omega arith))
      ∙ sym (look_slot rows es slots key.tx row.slot seq (has_slot place.keyed place.known))

  -- The event of another transaction is the same.
  same_there : (q : List ℕ) (seq : ℕ) → (q ≡ key.tx → ⊥) → look_in more held seq (row_of q new) ≡ look_in es slots seq (row_of q rows)
  same_there q seq other = ap (look_in more held seq) (turn.others q other) ∙ told (row_of q rows) refl where
    told : (o : Option TableRow) → row_of q rows ≡ o → look_in more held seq o ≡ look_in es slots seq o
    told None is = refl
    told (Some x) is = same_number x.slot seq (λ lt e. other (mine q x is (omega (arith, lt, e, home))))

  -- What is found of each key.
  look_change : (q : KeyName) → look new more held q ≡ cond (eq_by_cmp key_cmp q key) now (look rows es slots q)
  look_change q = elim (eq_by_cmp key_cmp q key) as (λ b. eq_by_cmp key_cmp q key ≡ b → look new more held q ≡ cond b now (look rows es slots q)) [
    | true ↦ λ e. ap (look new more held) ((key_test q key).0 e) ∙ grind (arith, common_steps, look_slot new more held key.tx row.slot key.seq turn.end, place_here, held_here)
    | false ↦ λ e. let other = denied _ (key_test q key) e in elim (eq_by_cmp id_cmp q.tx key.tx) as (λ b. eq_by_cmp id_cmp q.tx key.tx ≡ b → look new more held q ≡ look rows es slots q) [
      | false ↦ λ no. same_there q.tx q.seq (denied _ (id_test q.tx key.tx) no)
      | true ↦ λ yes. let is = (id_test q.tx key.tx).0 yes in
          ap (λ t. look_in more held q.seq (row_of t new)) is ∙ same_here q.seq (λ n. other (λ i. record { tx = is i; seq = n i })) ∙ sym (ap (λ t. look_in es slots q.seq (row_of t rows)) is)
    ] refl
  ] refl

  -- All events, with the key's event as it is now.
  pub flat_change : IsChange key_cmp key now (flat rows es slots) (flat new more held)
  flat_change = record {
    rises = λ _. flat_rising new more held turn.rising (places.rises place.keyed.ranks);
    found = λ q. find_flat q new more held turn.rising ∙ look_change q ∙ ap (cond (eq_by_cmp key_cmp q key) now) (sym (find_flat q rows es slots place.keyed.rising));
  }

  -- What was under the key.
  pub found_was : find key_cmp key (flat rows es slots) ≡ was
  found_was = find_flat key rows es slots place.keyed.rising ∙ look_known rows es slots key row r0 place.keyed place.known place.number place.rank_is
      ∙ ap (event_at slots) place.at ∙ grind (arith, common_steps, place.here)

  -- A row whose transaction has a place has its slot still.
  kept_row : (q : List ℕ) (old : TableRow) → row_of q rows ≡ Some old → HasPlace more old.slot → (x : TableRow) × ((row_of q new ≡ Some x) × (x.slot ≡ old.slot))
  kept_row q old is has =
      elim (eq_by_cmp id_cmp q key.tx) as (λ b. eq_by_cmp id_cmp q key.tx ≡ b → (x : TableRow) × ((row_of q new ≡ Some x) × (x.slot ≡ old.slot))) [
        | false ↦ λ e. (old, (turn.others q (denied _ (id_test q key.tx) e) ∙ is, refl))
        | true ↦ λ e. let id = (id_test q key.tx).0 e in let at : row_of key.tx rows ≡ Some old = sym (ap (λ k. row_of k rows) id) ∙ is in
            let same : old.slot ≡ row.slot = elim place.known [ inl k ↦ one_slot (row_of key.tx rows) old row at k | inr k ↦ absurd (no_row (row_of key.tx rows) old at k.absent) ] in
            elim turn.end [
              | inl a ↦ (a.row, (ap (λ k. row_of k new) id ∙ a.there, a.same ∙ sym same))
              | inr gone ↦ absurd (gone.1 has.rank has.place has.found (has.slot_is ∙ same))
            ]
      ] refl

  -- What is kept by key.
  pub keyed_change : IsKeyed new more held
  keyed_change = record {
    rising = turn.rising;
    apart = turn.apart;
    ranks = places.rises place.keyed.ranks;
    homes = λ r s is. elim (cases_eq r r0) [
      | inl same ↦ let st = slot_held now s0 s (sym place_here ∙ ap (λ k. place_of k more) (sym same) ∙ is) in let on = ap (λ k. k / 2 ^ 31) same ∙ home in elim turn.end [
        | inl a ↦ record {
          tx = key.tx;
          row = a.row;
          row_is = a.there;
          slot_is = on ∙ sym a.same;
          stored = st.0;
          held_is = ap (value_at held) (sym st.1.1) ∙ held_here ∙ ap (held_in r0) st.1.0 ∙ ap (λ k. Some (k, st.0)) (sym same);
        }
        | inr gone ↦ absurd (gone.1 r s is on)
      ]
      | inr other ↦ let at = sym (places_other r other) ∙ is in let h = place.keyed.homes r s at in
          let x = kept_row h.tx h.row h.row_is (record { rank = r; place = s; found = is; slot_is = h.slot_is }) in
          record { tx = h.tx; row = x.0; row_is = x.1.0; slot_is = h.slot_is ∙ sym x.1.1; stored = h.stored; held_is = stays s (λ e. other (own r (at ∙ ap Some e))) ∙ h.held_is }
    ];
    filled = λ q of is. elim (eq_by_cmp id_cmp q key.tx) as (λ b. eq_by_cmp id_cmp q key.tx ≡ b → HasPlace more of.slot) [
      | true ↦ λ e. let there = sym (ap (λ k. row_of k new) ((id_test q key.tx).0 e)) ∙ is in elim turn.end [
        | inl a ↦ subst (HasPlace more) (sym a.same ∙ one_slot (row_of key.tx new) a.row of a.there there) a.filled
        | inr gone ↦ absurd (no_row (row_of key.tx new) of there gone.0)
      ]
      | false ↦ λ e. let apart_ids = denied _ (id_test q key.tx) e in let was_there = sym (turn.others q apart_ids) ∙ is in let old = place.keyed.filled q of was_there in
          let found = places_other old.rank (λ k. apart_ids (mine q of was_there (sym old.slot_is ∙ ap (λ z. z / 2 ^ 31) k ∙ home))) ∙ old.found in
          record { rank = old.rank; place = old.place; found = found; slot_is = old.slot_is }
    ] refl;
  }

  -- The places of the events that pass a test.
  pub sub_change : (test : Stored → Bool) (sub after : List EventPlace) → IsSub test es slots sub → IsChange nat_cmp r0 (kept_at test s0 now) sub after → IsSub test more held after
  sub_change test sub after was_sub change = record {
    rising = change.rises was_sub.rising;
    each = λ r. elim (cases_eq r r0) [
      | inl same ↦ grind (arith, common_steps, place_here, held_here, change_here nat_cmp nat_cmp_total nat_cmp-IsAntisymmetric r0 (kept_at test s0 now) sub after change)
      | inr other ↦ grind (arith, common_steps, was_sub.each, own, stays, places_other, change_other nat_cmp nat_cmp_total nat_cmp-IsAntisymmetric r0 (kept_at test s0 now) sub after change)
    ];
  }
