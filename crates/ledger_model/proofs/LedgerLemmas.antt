-- What single steps of the ledger do.
use Rattle.std.{proofs.Common.{◌≡◌, ◌+◌, Bool, true, false, cond, [], ◌∷◌, Option, Some, None, refl, ap, sym, ◌∙◌, nat_le, is_eq}, specs.Ordering.eq_by_cmp, specs.Cmp.Equal-is, specs.FinMap.FinMap, proofs.lemmas.Cmp.tied_itself}
use Rattle.std.specs.FinMap as finite
use Rattle.ledger_model.{specs.declared.command.Command.TheVariants.{Void, Restore}, specs.declared.answer.Answer.Answer, specs.declared.answer.Answer.TheVariants.{Accepted, Refused}, specs.declared.answer.Refusal.Refusal, specs.declared.answer.Refusal.TheVariants.{AlreadyVoided, NotVoided, ChangesExhausted}, specs.Key.{KeyName, key_cmp}, specs.Limits.Bounds, specs.Content.{Content, Stored}, specs.Step.{step, answer_to_void, answer_to_voided, accepted_within_limit, content_after, marked_at}, specs.Laws.{IsAccepted, AreAccepted, left_by}, proofs.Keys.{key_total, exact_keys}}

-- an answer that is either a refusal or another, and is accepted, is the other
pub not_refused : (b : Bool) (why : Refusal) (other : Answer) → IsAccepted (cond b (Refused why) other) → (b ≡ false) × IsAccepted other
not_refused true why other h = absurd h
not_refused false why other h = (refl, h)

-- of two answers, one a refusal, the other is accepted
pub not_refused_else : (b : Bool) (why : Refusal) (other : Answer) → IsAccepted (cond b other (Refused why)) → (b ≡ true) × IsAccepted other
not_refused_else true why other h = (refl, h)
not_refused_else false why other h = absurd h

-- an accepted change is counted
pub counted : (limits : Bounds) (c : Content) → IsAccepted (accepted_within_limit limits c) → accepted_within_limit limits c ≡ Accepted (c.changes + 1)
counted limits c h = ap (λ b. cond b (Refused ChangesExhausted) (Accepted (c.changes + 1))) (not_refused (nat_le limits.changes c.changes) ChangesExhausted (Accepted (c.changes + 1)) h).0

-- what an accepted change of an event found: an event that was voided or not
pub record Found (limits : Bounds) (c : Content) (o : Option Stored) (voided : Bool) (answer : Answer) : Type 0 where
  pub stored : Stored
  pub found : o ≡ Some stored
  pub was : stored.voided ≡ voided
  pub left : IsAccepted (accepted_within_limit limits c)
  pub told : answer ≡ Accepted (c.changes + 1)

-- a void found an event that was not voided
pub found_live : (limits : Bounds) (c : Content) (o : Option Stored) → IsAccepted (answer_to_void limits c o) → Found limits c o false (answer_to_void limits c o)
found_live limits c None h = absurd h
found_live limits c (Some s) h =
    let parts = not_refused s.voided AlreadyVoided (accepted_within_limit limits c) h in
    record { stored = s; found = refl; was = parts.0; left = parts.1; told = ap (λ b. cond b (Refused AlreadyVoided) (accepted_within_limit limits c)) parts.0 ∙ counted limits c parts.1 }

-- a restoration or an erasure found one that was voided
pub found_voided : (limits : Bounds) (c : Content) (o : Option Stored) → IsAccepted (answer_to_voided limits c o) → Found limits c o true (answer_to_voided limits c o)
found_voided limits c None h = absurd h
found_voided limits c (Some s) h =
    let parts = not_refused_else s.voided NotVoided (accepted_within_limit limits c) h in
    record { stored = s; found = refl; was = parts.0; left = parts.1; told = ap (λ b. cond b (accepted_within_limit limits c) (Refused NotVoided)) parts.0 ∙ counted limits c parts.1 }

shadowed : {A : Type 0} (b : Bool) (x y z : A) → cond b x (cond b y z) ≡ cond b x z
shadowed true x y z = refl
shadowed false x y z = refl

-- what is inserted last at a key is there
pub inserted_twice : (m : FinMap key_cmp Stored) (key : KeyName) (s t : Stored) → finite.insert (finite.insert m key s) key t ≡ finite.insert m key t
inserted_twice m key s t = finite.same_map key_total exact_keys _ _ (λ q.
    finite.get-insert key_total (finite.insert m key s) key t q
    ∙ ap (cond (eq_by_cmp key_cmp q key) (Some t)) (finite.get-insert key_total m key s q)
    ∙ shadowed (eq_by_cmp key_cmp q key) (Some t) (Some s) (finite.get m q)
    ∙ sym (finite.get-insert key_total m key t q))

-- what is inserted is there
pub inserted_there : (m : FinMap key_cmp Stored) (key : KeyName) (s : Stored) → finite.get (finite.insert m key s) key ≡ Some s
inserted_there m key s = finite.get-insert key_total m key s key ∙ ap (λ o. cond (is_eq o) (Some s) (finite.get m key)) (tied_itself key_total key)

-- a value at a tied key is the value at the key
at_tied : (m : FinMap key_cmp Stored) (key q : KeyName) (s : Stored) (b : Bool) → finite.get m key ≡ Some s → eq_by_cmp key_cmp q key ≡ b → cond b (Some s) (finite.get m q) ≡ finite.get m q
at_tied m key q s true h e = sym h ∙ ap (finite.get m) (sym (exact_keys q key ((Equal-is (key_cmp q key)).0 e)))
at_tied m key q s false h e = refl

-- what is at a key may be inserted there
pub inserted_same : (m : FinMap key_cmp Stored) (key : KeyName) (s : Stored) → finite.get m key ≡ Some s → finite.insert m key s ≡ m
inserted_same m key s h = finite.same_map key_total exact_keys _ _ (λ q.
    finite.get-insert key_total m key s q ∙ at_tied m key q s (eq_by_cmp key_cmp q key) h refl)

-- the content after an accepted void, and after an accepted restoration
pub after_void : (limits : Bounds) (c : Content) (key : KeyName) (f : Found limits c (finite.get c.events key) false (answer_to_void limits c (finite.get c.events key)))
    → (step limits c (Void key)).0 ≡ record { events = finite.insert c.events key (record { event = f.stored.event; voided = true }); changes = c.changes + 1 }
after_void limits c key f = ap (content_after c (Void key)) f.told ∙ ap (λ o. record { events = marked_at c.events key true o; changes = c.changes + 1 }) f.found

pub after_restore : (limits : Bounds) (c : Content) (key : KeyName) (f : Found limits c (finite.get c.events key) true (answer_to_voided limits c (finite.get c.events key)))
    → (step limits c (Restore key)).0 ≡ record { events = finite.insert c.events key (record { event = f.stored.event; voided = false }); changes = c.changes + 1 }
after_restore limits c key f = ap (content_after c (Restore key)) f.told ∙ ap (λ o. record { events = marked_at c.events key false o; changes = c.changes + 1 }) f.found

module _ (limits : Bounds) (c : Content) (key : KeyName) where
  voided : Content
  voided = (step limits c (Void key)).0

  -- an accepted void, then an accepted restoration, gives the events back
  pub inverse : AreAccepted limits c (Void key ∷ Restore key ∷ []) → (left_by limits c (Void key ∷ Restore key ∷ [])).events ≡ c.events
  unfolding voided
  inverse h =
      let f = found_live limits c (finite.get c.events key) h.0 in
      let g = found_voided limits voided (finite.get voided.events key) h.1.0 in
      let s : Stored = record { event = f.stored.event; voided = true } in
      let t : Stored = record { event = f.stored.event; voided = false } in
      let once : voided.events ≡ finite.insert c.events key s = ap (λ (d : Content). d.events) (after_void limits c key f) in
      let found : Some g.stored ≡ Some s = sym g.found ∙ ap (λ m. finite.get m key) once ∙ inserted_there c.events key s in
      let stored : g.stored ≡ s = cc in
      let same : f.stored ≡ t = λ i. record { event = f.stored.event; voided = f.was i } in
      ap (λ (d : Content). d.events) (after_restore limits voided key g)
      ∙ (λ i. finite.insert (once i) key (record { event = (stored i).event; voided = false }))
      ∙ inserted_twice c.events key s t
      ∙ inserted_same c.events key t (f.found ∙ ap Some same)
