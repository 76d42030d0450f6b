-- Worlds, and what they have of one transaction of one station.
use Rattle.std.{proofs.Common.{◌≡◌, ℕ, ◌≤◌, Bool, true, false, cond, ◌||◌, List, [], ◌∷◌, ◌++◌, Option, None, Some, map, refl, sym, ap, subst, ◌∙◌, bytes_eq, arith}, proofs.lemmas.Bool.or_parts}
use Rattle.ledger_model.{specs.declared.command.Command.Command, specs.Content.empty_content, specs.Limits.Bounds, specs.Step.{answer, step}, specs.World.{Station, World, Happens, station_after, world_after}, proofs.ReachedContents.is_counted, proofs.SumsByTransaction.{one_text, same_text}}
use Rattle.script_ledgers.specs.Script.{is_among, new_station, station_named}
use Rattle.transaction_laws.{specs.Alone.{IsStepAlone, alone, changes_after}, specs.Transcript.is_own, proofs.AloneEvents.none_alone, proofs.LoneEntries.turned_text, proofs.LoneRuns.{no_fewer, not_own}, proofs.StepLemmas.enough_itself}
use Rattle.transaction_scripts.specs.LoneScripts.{only}

-- the names of stations
abbrev pub names : World → List (List ℕ)
names w = map (λ s. s.name) w

-- the first where the test holds, or else the second
abbrev pub Either : Bool → Type 0 → Type 0 → Type 0
Either true One Other = One
Either false One Other = Other

-- a name is among names once at most
abbrev pub NamedOnce : List ℕ → List (List ℕ) → Type 0
NamedOnce name [] = Unit {0}
NamedOnce name (x ∷ xs) = Either (bytes_eq name x) (is_among name xs ≡ false) (NamedOnce name xs)

pub names_after : (w : World) (h : Happens) → names (world_after w h) ≡ names w
names_after [] h = refl
names_after (s ∷ ss) h = by_case (bytes_eq h.0 s.name) (names_after ss h)
  where
    by_case : (b : Bool) → names (world_after ss h) ≡ names ss → names (cond b (station_after s h.1) s ∷ world_after ss h) ≡ s.name ∷ names ss
    by_case true rest = ap (λ l. s.name ∷ l) rest
    by_case false rest = ap (λ l. s.name ∷ l) rest

-- a station that is found has the name
pub name_found : (x : List ℕ) (w : World) (station : Station) → station_named x w ≡ Some station → x ≡ station.name
name_found x [] station e = cc e
name_found x (s ∷ ss) station e = by_case (bytes_eq x s.name) (one_text x s.name) (λ f. name_found x ss station f) e
  where
    by_case : (b : Bool) → (b ≡ true → x ≡ s.name) → (station_named x ss ≡ Some station → x ≡ station.name) → cond b (Some s) (station_named x ss) ≡ Some station → x ≡ station.name
    by_case true same later f = let is : s ≡ station = cc f in same refl ∙ ap (λ (t : Station). t.name) is
    by_case false same later f = later f

-- none is found where none has the name
pub none_among : (x : List ℕ) (w : World) → station_named x w ≡ None → is_among x (names w) ≡ false
none_among x [] e = refl
none_among x (s ∷ ss) e = by_case (bytes_eq x s.name) (λ f. none_among x ss f) e
  where
    by_case : (b : Bool) → (station_named x ss ≡ None → is_among x (names ss) ≡ false) → cond b (Some s) (station_named x ss) ≡ None → (b || is_among x (names ss)) ≡ false
    by_case true later f = cc f
    by_case false later f = later f

-- one name more, which none has
pub once_more : (name new : List ℕ) (xs : List (List ℕ)) → is_among new xs ≡ false → NamedOnce name xs → NamedOnce name (xs ++ new ∷ [])
once_more name new [] none once = by_case (bytes_eq name new)
  where
    by_case : (b : Bool) → Either b (is_among name [] ≡ false) (Unit {0})
    by_case true = refl
    by_case false = tt
once_more name new (x ∷ xs) none once =
    let parts = or_parts (bytes_eq new x) (is_among new xs) none in
    by_case (bytes_eq name x) (one_text name x) parts.0 (once_more name new xs parts.1) once
  where
    still_none : bytes_eq new x ≡ false → name ≡ x → (ys : List (List ℕ)) → is_among name ys ≡ false → is_among name (ys ++ new ∷ []) ≡ false
    still_none apart same [] none = ap (λ b. b || false) (ap (λ t. bytes_eq t new) same ∙ turned_text x new ∙ apart)
    still_none apart same (y ∷ ys) none = let parts = or_parts (bytes_eq name y) (is_among name ys) none in (λ i. parts.0 i || still_none apart same ys parts.1 i)

    by_case : (b : Bool) → (b ≡ true → name ≡ x) → bytes_eq new x ≡ false → (NamedOnce name xs → NamedOnce name (xs ++ new ∷ []))
        → Either b (is_among name xs ≡ false) (NamedOnce name xs) → Either b (is_among name (xs ++ new ∷ []) ≡ false) (NamedOnce name (xs ++ new ∷ []))
    by_case true same apart rest here = still_none apart (same refl) xs here
    by_case false same apart rest here = rest here

abbrev pub after_one : Happens → Option Station → Option Station
after_one h None = None
after_one h (Some s) = Some (cond (bytes_eq h.0 s.name) (station_after s h.1) s)

-- the station of a name after a command
pub named_after : (x : List ℕ) (w : World) (h : Happens) → station_named x (world_after w h) ≡ after_one h (station_named x w)
named_after x [] h = refl
named_after x (s ∷ ss) h = by_case (bytes_eq h.0 s.name) refl (bytes_eq x s.name) refl (named_after x ss h)
  where
    by_case : (b : Bool) → bytes_eq h.0 s.name ≡ b → (c : Bool) → bytes_eq x s.name ≡ c → station_named x (world_after ss h) ≡ after_one h (station_named x ss)
        → station_named x (cond b (station_after s h.1) s ∷ world_after ss h) ≡ after_one h (cond c (Some s) (station_named x ss))
    by_case true is true here rest = ap (λ b. cond b (Some (station_after s h.1)) (station_named x (world_after ss h))) here ∙ sym (ap (λ b. Some (cond b (station_after s h.1) s)) is)
    by_case false is true here rest = ap (λ b. cond b (Some s) (station_named x (world_after ss h))) here ∙ sym (ap (λ b. Some (cond b (station_after s h.1) s)) is)
    by_case true is false other rest = ap (λ b. cond b (Some (station_after s h.1)) (station_named x (world_after ss h))) other ∙ rest
    by_case false is false other rest = ap (λ b. cond b (Some s) (station_named x (world_after ss h))) other ∙ rest

module _ (name tx : List ℕ) where
  -- no more changes than the station of the name has counted
  abbrev pub AreFew : ℕ → World → Type 0
  AreFew n w = (st : Station) → station_named name w ≡ Some st → n ≤ st.content.changes

  pub grown : (s : Station) (command : Command) → s.content.changes ≤ (station_after s command).content.changes
  grown s command = no_fewer s.content command (answer s.limits s.content command) (λ accepted. (is_counted s.limits s.content command accepted).next)

  pub few_after : (n : ℕ) (w : World) (h : Happens) → AreFew n w → AreFew n (world_after w h)
  few_after n w h few st e = by_found (station_named name w) few (sym (named_after name w h) ∙ e)
    where
      by_found : (o : Option Station) → ((t : Station) → o ≡ Some t → n ≤ t.content.changes) → after_one h o ≡ Some st → n ≤ st.content.changes
      by_found None few f = cc f
      by_found (Some t) few f = at (bytes_eq h.0 t.name) (few t refl) f
        where
          at : (b : Bool) → n ≤ t.content.changes → Some (cond b (station_after t h.1) t) ≡ Some st → n ≤ st.content.changes
          at true less f = let is : station_after t h.1 ≡ st = cc f in let more = grown t h.1 in let same = ap (λ (u : Station). u.content.changes) is in omega (arith, less, more, same)
          at false less f = let is : t ≡ st = cc f in let same = ap (λ (u : Station). u.content.changes) is in omega (arith, less, same)

  -- the same where the station of the name takes the step
  pub few_own : (m : ℕ) (w : World) (command : Command) (station : Station) → station_named name w ≡ Some station
      → m ≤ (station_after station command).content.changes → AreFew m (world_after w (name, command))
  few_own m w command station found less st e =
      let is_name : name ≡ station.name = name_found name w station found in
      let own : bytes_eq name station.name ≡ true = subst (λ x. bytes_eq name x ≡ true) is_name (same_text name) in
      let told : Some (station_after station command) ≡ Some st =
      sym (ap (λ b. Some (cond b (station_after station command) station)) own) ∙ sym (ap (after_one (name, command)) found) ∙ sym (named_after name w (name, command)) ∙ e in
      let is : station_after station command ≡ st = cc in
      let same = ap (λ (u : Station). u.content.changes) is in omega (arith, less, same)

  abbrev pub only_some : ℕ → Option Station → Option Station
  only_some n None = None
  only_some n (Some s) = Some (only name tx n s)

  pub named_only : (n : ℕ) (x : List ℕ) (w : World) → station_named x (map (only name tx n) w) ≡ only_some n (station_named x w)
  named_only n x [] = refl
  named_only n x (s ∷ ss) = by_case (bytes_eq x s.name) (named_only n x ss)
    where
      by_case : (b : Bool) → station_named x (map (only name tx n) ss) ≡ only_some n (station_named x ss)
          → cond b (Some (only name tx n s)) (station_named x (map (only name tx n) ss)) ≡ only_some n (cond b (Some s) (station_named x ss))
      by_case true rest = refl
      by_case false rest = rest

  -- a station of another name has nothing
  pub only_other : (n : ℕ) (s : Station) → bytes_eq name s.name ≡ false → only name tx n s ≡ record s { content = empty_content }
  only_other n s other = ap (λ b. record s { content = cond b (alone tx n s.content) empty_content }) other

  pub only_own : (n : ℕ) (s : Station) → bytes_eq name s.name ≡ true → only name tx n s ≡ record s { content = alone tx n s.content }
  only_own n s own = ap (λ b. record s { content = cond b (alone tx n s.content) empty_content }) own

  -- a command on a station of another name
  pub skip_other : (n : ℕ) (x : List ℕ) (command : Command) → bytes_eq name x ≡ false → (w : World) → map (only name tx n) (world_after w (x, command)) ≡ map (only name tx n) w
  skip_other n x command other [] = refl
  skip_other n x command other (s ∷ ss) = by_case (bytes_eq x s.name) (one_text x s.name) (skip_other n x command other ss)
    where
      by_case : (b : Bool) → (b ≡ true → x ≡ s.name) → map (only name tx n) (world_after ss (x, command)) ≡ map (only name tx n) ss
          → map (only name tx n) (cond b (station_after s command) s ∷ world_after ss (x, command)) ≡ only name tx n s ∷ map (only name tx n) ss
      by_case true same rest =
          let apart : bytes_eq name s.name ≡ false = subst (λ y. bytes_eq name y ≡ false) (same refl) other in
          (λ i. (only_other n (station_after s command) apart ∙ sym (only_other n s apart)) i ∷ rest i)
      by_case false same rest = ap (λ l. only name tx n s ∷ l) rest

  -- where no station has the name
  none_after : (command : Command) (w : World) → is_among name (names w) ≡ false → world_after w (name, command) ≡ w
  none_after command [] none = refl
  none_after command (s ∷ ss) none =
      let parts = or_parts (bytes_eq name s.name) (is_among name (names ss)) none in
      (λ i. cond (parts.0 i) (station_after s command) s ∷ none_after command ss parts.1 i)

  none_only : (n m : ℕ) (w : World) → is_among name (names w) ≡ false → map (only name tx m) w ≡ map (only name tx n) w
  none_only n m [] none = refl
  none_only n m (s ∷ ss) none =
      let parts = or_parts (bytes_eq name s.name) (is_among name (names ss)) none in
      (λ i. (only_other m s parts.0 ∙ sym (only_other n s parts.0)) i ∷ none_only n m ss parts.1 i)

  names_only : (n : ℕ) (w : World) → names (map (only name tx n) w) ≡ names w
  names_only n [] = refl
  names_only n (s ∷ ss) = ap (λ l. s.name ∷ l) (names_only n ss)

  -- a command on the station of the name that is no line of the transaction
  pub skip_own : (n : ℕ) (command : Command) (station : Station) → is_own tx (command, answer station.limits station.content command) ≡ false
      → (w : World) → NamedOnce name (names w) → station_named name w ≡ Some station → map (only name tx n) (world_after w (name, command)) ≡ map (only name tx n) w
  skip_own n command station none [] once found = cc
  skip_own n command station fails (s ∷ ss) once found = by_case (bytes_eq name s.name) refl once found (skip_own n command station fails ss)
    where
      by_case : (b : Bool) → bytes_eq name s.name ≡ b → Either b (is_among name (names ss) ≡ false) (NamedOnce name (names ss)) → cond b (Some s) (station_named name ss) ≡ Some station
          → (NamedOnce name (names ss) → station_named name ss ≡ Some station → map (only name tx n) (world_after ss (name, command)) ≡ map (only name tx n) ss)
          → map (only name tx n) (cond b (station_after s command) s ∷ world_after ss (name, command)) ≡ only name tx n s ∷ map (only name tx n) ss
      by_case true own none found later =
          let is : s ≡ station = cc found in
          let no_line : is_own tx (command, answer s.limits s.content command) ≡ false =
          subst (λ (t : Station). is_own tx (command, answer t.limits t.content command) ≡ false) (sym is) fails in
          let same : alone tx n (step s.limits s.content command).0 ≡ alone tx n s.content = not_own s.limits s.limits (enough_itself s.limits) tx s.content n command no_line in
          let head : only name tx n (station_after s command) ≡ only name tx n s =
          only_own n (station_after s command) own ∙ ap (λ c. record s { content = c }) same ∙ sym (only_own n s own) in
          (λ i. head i ∷ map (only name tx n) (none_after command ss none i))
      by_case false other once found later = ap (λ l. only name tx n s ∷ l) (later once found)

  -- a line of the transaction
  pub own_world : (n : ℕ) (command : Command) (station : Station) → IsStepAlone station.limits station.limits station.content tx n command
      → (w : World) → NamedOnce name (names w) → station_named name w ≡ Some station
      → map (only name tx (changes_after n (answer station.limits station.content command))) (world_after w (name, command)) ≡ world_after (map (only name tx n) w) (name, command)
  own_world n command station one [] once found = cc
  own_world n command station one (s ∷ ss) once found = by_case (bytes_eq name s.name) refl once found (own_world n command station one ss)
    where
      by_case : (b : Bool) → bytes_eq name s.name ≡ b → Either b (is_among name (names ss) ≡ false) (NamedOnce name (names ss)) → cond b (Some s) (station_named name ss) ≡ Some station
          → (NamedOnce name (names ss) → station_named name ss ≡ Some station
          → map (only name tx (changes_after n (answer station.limits station.content command))) (world_after ss (name, command)) ≡ world_after (map (only name tx n) ss) (name, command))
          → map (only name tx (changes_after n (answer station.limits station.content command))) (cond b (station_after s command) s ∷ world_after ss (name, command))
          ≡ cond b (station_after (only name tx n s) command) (only name tx n s) ∷ world_after (map (only name tx n) ss) (name, command)
      by_case true own none found later =
          let k = changes_after n (answer station.limits station.content command) in
          let is : station ≡ s = cc found in
          let content : alone tx k (step s.limits s.content command).0 ≡ (step s.limits (alone tx n s.content) command).0 =
          subst (λ (t : Station). alone tx k (step t.limits t.content command).0 ≡ (step t.limits (alone tx n t.content) command).0) is (sym one.content) in
          let head : only name tx k (station_after s command) ≡ station_after (only name tx n s) command =
          only_own k (station_after s command) own ∙ ap (λ c. record s { content = c }) content ∙ sym (ap (λ t. station_after t command) (only_own n s own)) in
          let rest = ap (map (only name tx k)) (none_after command ss none) ∙ none_only n k ss none
          ∙ sym (none_after command (map (only name tx n) ss) (ap (is_among name) (names_only n ss) ∙ none)) in
          λ i. head i ∷ rest i
      by_case false other once found later =
          let k = changes_after n (answer station.limits station.content command) in
          λ i. (only_other k s other ∙ sym (only_other n s other)) i ∷ later once found i

  -- a new station has nothing
  pub only_new : (bounds : Bounds) (site new : List ℕ) → only name tx 0 (new_station bounds site new) ≡ new_station bounds site new
  only_new bounds site new = by_case (bytes_eq name new)
    where
      by_case : (b : Bool) → record (new_station bounds site new) { content = cond b (alone tx 0 empty_content) empty_content } ≡ new_station bounds site new
      by_case true = ap (λ c. record (new_station bounds site new) { content = c }) (none_alone tx)
      by_case false = refl
