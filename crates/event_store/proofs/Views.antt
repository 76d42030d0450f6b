-- What the slots of a store show, under edits of its arenas.
use Rattle.std.{proofs.lemmas.Grind.common_steps, proofs.Common.{arith, ◌≡◌, ℕ, zero, suc, ◌<◌, Bool, false, List, [], ◌∷◌, Option, Some, None, length, set, replicate, refl, sym, ap, ◌∙◌, subst, set-set, get_or-set_other, get_or-set_same, inl, inr}, proofs.lemmas.Bool.cases_eq}
use Rattle.slot_arena.specs.Arena.{value_at}
use Rattle.event_store.{specs.declared.event_slot.EventSlot.EventSlot, specs.Links.{chain, AreReadings, AreKept, AreOthersKept}, specs.Slots.{Held, voided_as, voided_at, readings_at, readings_in}, specs.Store.{slot_in, slots_in, new_slot, run_set, IsChained, AreChained}, proofs.Runs.{LinkRow, readings_kept, readings_other, chain_long}}
use Rattle.ledger_model.specs.Event.{EventContent}

-- The event slots of an arena.
abbrev Events : Type 0
Events = List (Option EventSlot)

-- What a slot shows, by its number.
pub slot_at : (links : LinkRow) (events : Events) (i : ℕ) → value_at (slots_in links events) i ≡ slot_in links (value_at events i)
slot_at links [] i = refl
slot_at links (e ∷ events) zero = refl
slot_at links (e ∷ events) (suc i) = slot_at links events i

-- A slot that was written.
pub slots_set : (links : LinkRow) (events : Events) (i : ℕ) (e : Option EventSlot) → slots_in links (set events i e) ≡ set (slots_in links events) i (slot_in links e)
slots_set links [] i e = refl
slots_set links (x ∷ events) zero e = refl
slots_set links (x ∷ events) (suc i) e = ap (λ (es : List (Option Held)). slot_in links x ∷ es) (slots_set links events i e)

-- No slot is held.
pub slots_free : (links : LinkRow) (n : ℕ) → slots_in links (replicate n None) ≡ replicate n None
slots_free links zero = refl
slots_free links (suc n) = ap (λ (es : List (Option Held)). None ∷ es) (slots_free links n)

-- Slots show the same where each of them does.
pub slots_same : (old new : LinkRow) (events : Events) → ((i : ℕ) → slot_in new (value_at events i) ≡ slot_in old (value_at events i)) → slots_in new events ≡ slots_in old events
slots_same old new [] same = refl
slots_same old new (e ∷ events) same = ap (λ (x : Option Held). x ∷ slots_in new events) (same 0) ∙ ap (λ (es : List (Option Held)). slot_in old e ∷ es) (slots_same old new events (λ i. same (suc i)))

-- A slot whose chain is kept shows the same.
chained_same : (old new : LinkRow) (slot : ℕ) (e : EventSlot)
    → AreReadings new slot e.first e.count e.last × (chain new e.first e.count ≡ chain old e.first e.count)
    → slot_in new (Some e) ≡ slot_in old (Some e)
chained_same old new slot e kept = ap (λ rs. Some (e.key, record { event = record { kind = e.kind; moment = e.moment; evse = e.evse; readings = rs }; voided = e.voided })) kept.1

-- One of them.
kept_slot : (old new : LinkRow) (i : ℕ) (e : Option EventSlot) → AreKept old new → IsChained old i e → slot_in new e ≡ slot_in old e
kept_slot old new i e kept run = grind (arith, common_steps, chained_same, readings_kept)

-- Where all links are kept, the slots show the same.
pub kept_same : (old new : LinkRow) (events : Events) → AreKept old new → AreChained events old → slots_in new events ≡ slots_in old events
kept_same old new events kept chained = slots_same old new events (λ i. kept_slot old new i (value_at events i) kept (chained i))

-- A slot stays chained.
pub kept_chained : (old new : LinkRow) (i : ℕ) (e : Option EventSlot) → AreKept old new → IsChained old i e → IsChained new i e
kept_chained old new i None kept run = tt
kept_chained old new i (Some e) kept run = (readings_kept old new i e.first e.count e.last kept run).0

-- A slot of another event shows the same, and stays chained.
pub other_slot : (old new : LinkRow) (owner i : ℕ) (e : Option EventSlot) → AreOthersKept owner old new → (i ≡ owner → ⊥) → IsChained old i e → (slot_in new e ≡ slot_in old e) × IsChained new i e
other_slot old new owner i None kept apart run = (refl, tt)
other_slot old new owner i (Some e) kept apart run = let r = readings_other old new owner i e.first e.count e.last kept apart run in (chained_same old new i e r, r.0)

-- The slots, one of them voided or not.
pub voided_slots : (links : LinkRow) (events : Events) (slots : List (Option Held)) (slot id : ℕ) (e : EventSlot) (voided : Bool)
    → id ≡ slot → value_at events id ≡ Some e → slots_in links events ≡ slots
    → slots_in links (set events id (Some (record e { voided = voided }))) ≡ voided_at slots slot voided
voided_slots links events slots slot id e voided is value view =
    slots_set links events id (Some (record e { voided = voided }))
    ∙ ap (λ (o : Option Held). set (slots_in links events) id (voided_as voided o)) (sym (slot_at links events id ∙ ap (slot_in links) value))
    ∙ ap (λ k. voided_at (slots_in links events) k voided) is ∙ ap (λ ss. voided_at ss slot voided) view

-- A slot that was emptied is free.
none_set : (events : Events) (i : ℕ) → value_at (set events i None) i ≡ None
none_set [] i = refl
none_set (e ∷ events) zero = refl
none_set (e ∷ events) (suc i) = none_set events i

-- What a store keeps when an event was taken out of it.
pub record IsOut (events gone : Events) (links new : LinkRow) (slot : ℕ) : Type 0 where
  pub chained : AreChained gone new
  pub shown : slots_in new gone ≡ set (slots_in links events) slot None

-- That is so.
pub taken_out : (events gone : Events) (links new : LinkRow) (slot id owner : ℕ) → id ≡ slot → owner ≡ slot
    → gone ≡ set events id None → AreChained events links → AreOthersKept owner links new → IsOut events gone links new slot
taken_out events gone links new slot id owner is own written chained kept =
    let bare : Events = set events slot None in
    let at : gone ≡ bare = written ∙ ap (λ k. set events k None) is in
    let each : (i : ℕ) → (slot_in new (value_at bare i) ≡ slot_in links (value_at bare i)) × IsChained new i (value_at bare i) = λ i.
    elim (cases_eq i slot) [
      | inl same ↦ subst (λ o. (slot_in new o ≡ slot_in links o) × IsChained new i o) (sym (ap (value_at bare) same ∙ none_set events slot)) (refl, tt)
      | inr other ↦ subst (λ o. (slot_in new o ≡ slot_in links o) × IsChained new i o)
          (sym (get_or-set_other events slot i None None other))
          (other_slot links new owner i (value_at events i) kept (λ e. other (e ∙ own)) (chained i))
    ] in
    subst (λ es. IsOut events es links new slot) (sym at) (record {
      chained = λ i. (each i).1;
      shown = slots_same links new bare (λ i. (each i).0) ∙ slots_set links events slot None;
    })

-- The readings of a slot.
pub slot_readings : (links : LinkRow) (events : Events) (slots : List (Option Held)) (slot id : ℕ) (e : EventSlot) → id ≡ slot
    → value_at events id ≡ Some e → slots_in links events ≡ slots → readings_at slots slot ≡ e.count
slot_readings links events slots slot id e is value view = grind (arith, common_steps, slot_at, chain_long)

-- What a store keeps when an event was put into it.
pub record IsIn (events more : Events) (links new : LinkRow) (slot key : ℕ) (event : EventContent) : Type 0 where
  pub chained : AreChained more new
  pub shown : slots_in new more ≡ set (slots_in links events) slot (Some (key, record { event = event; voided = false }))

-- That is so.
pub put_in : (events mid more : Events) (links new : LinkRow) (slot id first last count key : ℕ) (event : EventContent)
    → id ≡ slot → value_at events slot ≡ None → slot < length events → mid ≡ set events slot (Some (new_slot key event))
    → more ≡ set mid id (run_set (value_at mid id) first last count)
    → AreKept links new → AreReadings new slot first count last → chain new first count ≡ event.readings → AreChained events links → IsIn events more links new slot key event
put_in events mid more links new slot id first last count key event is free lt put set_is kept run readings chained =
    let e : EventSlot = record (new_slot key event) { first = first; last = last; count = count } in
    let full : Events = set events slot (Some e) in
    let fresh : value_at mid slot ≡ Some (new_slot key event) = ap (λ es. value_at es slot) put ∙ get_or-set_same events slot (Some (new_slot key event)) None lt in
    let at : more ≡ full = set_is ∙ ap (λ k. set mid k (run_set (value_at mid k) first last count)) is
    ∙ ap (λ o. set mid slot (run_set o first last count)) fresh ∙ ap (λ es. set es slot (Some e)) put
    ∙ set-set events slot (Some (new_slot key event)) (Some e) in
    let here : slot_in new (Some e) ≡ Some (key, record { event = event; voided = false }) =
    ap (λ rs. Some (key, record { event = record { kind = event.kind; moment = event.moment; evse = event.evse; readings = rs }; voided = false })) readings in
    subst (λ es. IsIn events es links new slot key event) (sym at) (record {
      chained = λ i. elim (cases_eq i slot) [
        | inl same ↦ subst (λ k. IsChained new k (value_at full k)) (sym same) (subst (IsChained new slot) (sym (get_or-set_same events slot (Some e) None lt)) run)
        | inr other ↦ subst (IsChained new i) (sym (get_or-set_other events slot i (Some e) None other)) (kept_chained links new i (value_at events i) kept (chained i))
      ];
      shown = slots_set new events slot (Some e) ∙ ap (λ ss. set ss slot (slot_in new (Some e))) (kept_same links new events kept chained) ∙ ap (λ o. set (slots_in links events) slot o) here;
    })
