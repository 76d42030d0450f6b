-- Chains of readings under edits of the arena that holds them.
use Rattle.std.{proofs.lemmas.Grind.common_steps, proofs.Common.{◌≡◌, ℕ, zero, suc, ◌+◌, ◌<◌, ◌≤◌, ◌++◌, Bool, false, true, List, [], ◌∷◌, Option, Some, None, is_some, cond, length, take, set, get_or, slice_get, ◌-◌, refl, sym, ap, ◌∙◌, subst, arith, length-set, get_or-set_other, get_or-set_same}, proofs.lemmas.List.Sums.sum_by-set}
use Rattle.slot_arena.specs.Arena.{value_at, held_count}
use Rattle.ledger_model.{specs.Event.MeterReading, specs.Deltas.last_reading}
use Rattle.event_store.{specs.declared.links.ReadingLink.ReadingLink, specs.Links.{reading_of, next_of, owner_of, left_of, chain, IsLink, IsRun, IsLast, AreReadings, AreKept, AreOthersKept}}

-- The links of an arena.
abbrev pub LinkRow : Type 0
LinkRow = List (Option ReadingLink)

-- A chain stays where its links are kept.
pub run_same : (old new : LinkRow) (owner first n : ℕ)
    → ((i : ℕ) → is_some (value_at old i) ≡ true → owner_of (value_at old i) ≡ owner → left_of (value_at old i) ≤ n → value_at new i ≡ value_at old i)
    → IsRun old owner first n → IsRun new owner first n × (chain new first n ≡ chain old first n)
run_same old new owner first zero same run = (tt, refl)
run_same old new owner first (suc n) same run =
    let here : value_at new first ≡ value_at old first = same first run.0.there run.0.owner_is (omega (arith, run.0.left_is)) in
    let rest = run_same old new owner (next_of (value_at old first)) n (λ i there is le. same i there is (omega arith)) run.1 in (
      subst (λ l. IsLink l owner (suc n) × IsRun new owner (next_of l) n) (sym here) (run.0, rest.0),
      ap (λ l. reading_of l ∷ chain new (next_of l) n) here ∙ ap (λ (rs : List MeterReading). reading_of (value_at old first) ∷ rs) rest.1,
    )

-- Where all links are kept, each chain is.
pub run_kept : (old new : LinkRow) (owner first n : ℕ) → AreKept old new → IsRun old owner first n → IsRun new owner first n × (chain new first n ≡ chain old first n)
run_kept old new owner first n kept run = run_same old new owner first n (λ i there _ _. kept i there) run

-- Where the links of all but one event are kept, another's chain is.
pub run_other : (old new : LinkRow) (owner other first n : ℕ) → AreOthersKept owner old new → (other ≡ owner → ⊥)
    → IsRun old other first n → IsRun new other first n × (chain new first n ≡ chain old first n)
run_other old new owner other first n kept apart run = run_same old new other first n (λ i there is _. kept i there (λ e. apart (sym is ∙ e))) run

-- The last link stays where it is kept, and its chain.
last_same : (old new : LinkRow) (owner first n last : ℕ)
    → (is_some (value_at old last) ≡ true → owner_of (value_at old last) ≡ owner → value_at new last ≡ value_at old last)
    → chain new first n ≡ chain old first n → IsLast old owner first n last → IsLast new owner first n last
last_same old new owner first n last same is ends = grind (arith, common_steps)

-- Where all links are kept, the readings of each event are.
pub readings_kept : (old new : LinkRow) (owner first n last : ℕ) → AreKept old new → AreReadings old owner first n last → AreReadings new owner first n last × (chain new first n ≡ chain old first n)
readings_kept old new owner first n last kept was = grind (arith, common_steps, run_kept, last_same)

-- Where the links of all but one event are kept, another's readings are.
pub readings_other : (old new : LinkRow) (owner other first n last : ℕ) → AreOthersKept owner old new → (other ≡ owner → ⊥)
    → AreReadings old other first n last → AreReadings new other first n last × (chain new first n ≡ chain old first n)
readings_other old new owner other first n last kept apart was =
    let r = run_other old new owner other first n kept apart was.run in
    (record { run = r.0; ends = last_same old new other first n last (λ there is. kept last there (λ e. apart (sym is ∙ e))) r.1 was.ends }, r.1)

-- What is there is in range.
pub there_within : {X : Type 0} (xs : List (Option X)) (i : ℕ) → is_some (value_at xs i) ≡ true → i < length xs
there_within [] i there = cc
there_within (x ∷ xs) zero there = omega arith
there_within (x ∷ xs) (suc i) there = omega (arith, there_within xs i there)

module _ {X : Type 0} where
  -- What a slot counts.
  abbrev pub one : Option X → ℕ
  one o = cond (is_some o) 1 0

  -- One more is held.
  pub count_put : (xs : List (Option X)) (i : ℕ) (x : X) → value_at xs i ≡ None → i < length xs → held_count (set xs i (Some x)) ≡ held_count xs + 1
  count_put xs i x free lt = omega (arith, sum_by-set one xs i (Some x) None lt, ap one free)

  -- One fewer is held.
  pub count_take : (xs : List (Option X)) (i : ℕ) → is_some (value_at xs i) ≡ true → held_count (set xs i None) + 1 ≡ held_count xs
  count_take xs i there = omega (arith, sum_by-set one xs i None None (there_within xs i there), ap (λ (b : Bool). cond {A = ℕ} b 1 0) there)

-- A link put into a free slot leaves all others.
pub put_kept : (links : LinkRow) (id : ℕ) (link : ReadingLink) → value_at links id ≡ None → AreKept links (set links id (Some link))
put_kept links id link free i there = grind (arith, common_steps)

-- Kept twice is kept.
pub kept_on : (old mid new : LinkRow) → AreKept old mid → AreKept mid new → AreKept old new
kept_on old mid new a b i there = b i (ap is_some (a i there) ∙ there) ∙ a i there

-- A link put in front of a chain.
pub put_run : (links : LinkRow) (id first n owner : ℕ) (link : ReadingLink) → value_at links id ≡ None → id < length links
    → link.owner ≡ owner → link.left ≡ suc n → link.next ≡ first → IsRun links owner first n
    → IsRun (set links id (Some link)) owner id (suc n) × (chain (set links id (Some link)) id (suc n) ≡ link.reading ∷ chain links first n)
put_run links id first n owner link free lt is left next run =
    let new = set links id (Some link) in
    let here : Some link ≡ value_at new id = sym (get_or-set_same links id (Some link) None lt) in
    let rest = run_kept links new owner first n (put_kept links id link free) run in (
      subst (λ l. IsLink l owner (suc n) × IsRun new owner (next_of l) n) here (record { there = refl; owner_is = is; left_is = left }, subst (λ k. IsRun new owner k n) (sym next) rest.0),
      ap (λ l. reading_of l ∷ chain new (next_of l) n) (sym here) ∙ ap (λ k. link.reading ∷ chain new k n) next ∙ ap (λ (rs : List MeterReading). link.reading ∷ rs) rest.1,
    )

-- The first link of a chain taken out.
pub give_run : (links : LinkRow) (owner first n : ℕ) → IsRun links owner first (suc n) → IsRun (set links first None) owner (next_of (value_at links first)) n
give_run links owner first n run =
    (run_same links (set links first None) owner (next_of (value_at links first)) n
    (λ i there is le. get_or-set_other links first i None None
    (λ same. let e : left_of (value_at links i) ≡ suc n = ap (λ k. left_of (value_at links k)) same ∙ run.0.left_is in absurd (omega arith))) run.1).0

-- The others are kept.
pub give_kept : (start links : LinkRow) (owner first n : ℕ) → IsRun links owner first (suc n) → AreOthersKept owner start links → AreOthersKept owner start (set links first None)
give_kept start links owner first n run kept i there apart = grind (arith, common_steps)

-- What is left when the first link of a chain was taken out.
pub record IsGiven (start links new : LinkRow) (owner next n : ℕ) : Type 0 where
  pub run : IsRun new owner next n
  pub kept : AreOthersKept owner start new
  pub held : held_count new + 1 ≡ held_count links
  pub same : length new ≡ length links

-- That is so.
pub give_step : (start links new : LinkRow) (owner here left n id : ℕ) (link : ReadingLink) → left ≡ suc n → id ≡ here
    → value_at links id ≡ Some link → new ≡ set links id None → IsRun links owner here left → AreOthersKept owner start links
    → IsGiven start links new owner link.next n
give_step start links new owner here left n id link up is value gone run kept = grind (arith, common_steps, give_run, give_kept, count_take)

-- All but the last of a list, and then the last.
front_last : (xs ys : List MeterReading) (x : MeterReading) (n : ℕ) → n + 1 ≡ length xs → x ≡ get_or xs n x → take n xs ++ (x ∷ ys) ≡ xs ++ ys
front_last [] ys x n long is = absurd (omega arith)
front_last (y ∷ []) ys x zero long is = ap (λ (z : MeterReading). z ∷ ys) is
front_last (y ∷ z ∷ xs) ys x zero long is = absurd (omega arith)
front_last (y ∷ xs) ys x (suc n) long is = ap (λ (zs : List MeterReading). y ∷ zs) (front_last xs ys x n (omega arith) is)

-- What there is when a link was put in front of a chain.
pub record IsPut (start links new : LinkRow) (owner first n : ℕ) (rest all : List MeterReading) : Type 0 where
  pub run : IsRun new owner first n
  pub whole : rest ++ chain new first n ≡ all
  pub kept : AreKept start new
  pub held : held_count new ≡ held_count links + 1
  pub same : length new ≡ length links

-- That is so.
pub put_step : (start links new : LinkRow) (id first n more owner : ℕ) (link : ReadingLink) (rest all : List MeterReading) (m : ℕ)
    → more ≡ suc n → m + 1 ≡ length rest → value_at links id ≡ None → id < length links → new ≡ set links id (Some link)
    → link.owner ≡ owner → link.left ≡ more → link.next ≡ first → link.reading ≡ get_or rest m link.reading
    → IsRun links owner first n → rest ++ chain links first n ≡ all → AreKept start links → IsPut start links new owner id more (take m rest) all
put_step start links new id first n more owner link rest all m up long free lt put is left next last run whole kept =
    let step = put_run links id first n owner link free lt is (left ∙ up) next run in
    subst (λ row. IsPut start links row owner id more (take m rest) all) (sym put) (subst (λ k. IsPut start links (set links id (Some link)) owner id k (take m rest) all) (sym up) (record {
      run = step.0;
      whole = ap (λ (rs : List MeterReading). take m rest ++ rs) step.1 ∙ front_last rest (chain links first n) link.reading m long last ∙ whole;
      kept = kept_on start links (set links id (Some link)) kept (put_kept links id link free);
      held = count_put links id link free lt;
      same = length-set links id (Some link);
    }))

-- The last of readings is that of the rest, if there is one.
pub last_more : (x y : MeterReading) (ys : List MeterReading) → last_reading (x ∷ y ∷ ys) ≡ last_reading (y ∷ ys)
last_more x y ys = grind (arith, common_steps)

-- A link put in front of a chain is its last one where there was none; else the last one stays.
pub put_last : (links new : LinkRow) (id first n more owner last end : ℕ) (link : ReadingLink) → more ≡ suc n
    → value_at links id ≡ None → id < length links → new ≡ set links id (Some link) → link.owner ≡ owner → link.left ≡ more
    → link.next ≡ first
    → (more ≡ 1 → end ≡ id) → (1 < more → end ≡ last) → IsRun links owner first n → IsLast links owner first n last → IsLast new owner id more end
put_last links new id first n more owner last end link up free lt put is left next only others run ends =
    subst (λ row. IsLast row owner id more end) (sym put) (subst (λ k. IsLast (set links id (Some link)) owner id k end) (sym up) (told n up run ends)) where
      whole : LinkRow
      whole = set links id (Some link)

      told : (m : ℕ) → more ≡ suc m → IsRun links owner first m → IsLast links owner first m last → IsLast whole owner id (suc m) end
      told zero one r e =
          let here : value_at whole id ≡ Some link = get_or-set_same links id (Some link) None lt in let at : end ≡ id = only one in grind (arith, common_steps)
      told (suc m) two r e =
          let at : end ≡ last = others (omega (arith, two)) in
          let step = put_run links id first (suc m) owner link free lt is (left ∙ two) next r in
          let kept : value_at whole last ≡ value_at links last = put_kept links id link free last e.0.there in
          subst (λ k. IsLink (value_at whole k) owner 1 × (last_reading (chain whole id (suc (suc m))) ≡ Some (reading_of (value_at whole k)))) (sym at) (
            subst (λ l. IsLink l owner 1) (sym kept) e.0,
            ap last_reading step.1 ∙ last_more link.reading (reading_of (value_at links first)) (chain links (next_of (value_at links first)) m) ∙ e.1 ∙ ap (λ l. Some (reading_of l)) (sym kept),
          )

-- A chain is as long as it is said to be.
pub chain_long : (links : LinkRow) (first n : ℕ) → length (chain links first n) ≡ n
chain_long links first zero = refl
chain_long links first (suc n) = ap suc (chain_long links (next_of (value_at links first)) n)
