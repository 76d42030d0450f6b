-- Entries by rising rank, as readings by rising rank.
use Rattle.std.{proofs.Common.{◌≡◌, ℕ, ◌*◌, ◌/◌, ◌^◌, ◌<◌, ◌≤◌, Bool, true, false, cond, not, ◌||◌, is_some, List, [], ◌∷◌, ◌++◌, Option, Some, None, map, drop, refl, sym, ap, subst, ◌∙◌, ⊎_elim, eqb, nat_lt, option_map, arith}, proofs.Math.Nat.div-mul-le_self, proofs.lemmas.Nat.le-div, proofs.lemmas.Bool.{cases_lt, cases_eq, eq-eqb, ne_eqb, lt-ltb, le-ltb, or_from, or_parts}}
use Rattle.key_index.{specs.declared.filed.Filed.Filed, specs.Entries.{Entry, below, from, filed_at, AreAbove, AreRising, first_of, last_of}, proofs.Orders.last_cons}
use Rattle.ledger_model.{specs.Event.MeterReading, specs.InTime.put_in_time}
use Rattle.reading_index.{specs.Ranks.owner_of, specs.Timed.{Timed, from_on, in_front, only_owned, owned, has_rank, with_rank, without}}

abbrev E : Type 0
E = Entry MeterReading

-- The ranks rise as the entries do.
behind_above : (n : ℕ) (es : List E) → AreAbove n es → AreAbove n (map with_rank es)
behind_above n [] above = tt
behind_above n (e ∷ es) above = (above.0, behind_above n es above.1)

pub ranked : (es : List E) → AreRising es → AreRising (map with_rank es)
ranked [] rising = tt
ranked (e ∷ es) rising = (behind_above e.0 es rising.0, ranked es rising.1)

-- An entry is put in at the place of its rank.
pub put_in : (r : ℕ) (f : Filed MeterReading) (es : List E) → map with_rank (below r es ++ (r, f) ∷ from r es) ≡ put_in_time (λ (t : Timed). t.0) (r, f.value) (map with_rank es)
put_in r f [] = refl
put_in r f (e ∷ es) =
    (elim (nat_lt e.0 r) as (λ b. map with_rank (cond b (e ∷ below r es) [] ++ (r, f) ∷ cond b (from r es) (e ∷ es))
    ≡ cond b (with_rank e ∷ put_in_time (λ (t : Timed). t.0) (r, f.value) (map with_rank es)) ((r, f.value) ∷ with_rank e ∷ map with_rank es)) [
      | true ↦ ap (λ ts. with_rank e ∷ ts) (put_in r f es)
      | false ↦ refl
    ])

cons_nil : {X : Type 0} (x : X) (xs : List X) → x ∷ xs ≡ [] → ⊥
cons_nil x xs e = cc

-- Nothing is filed under a rank that no reading has.
pub none_filed : (r : ℕ) (es : List E) → has_rank r (map with_rank es) ≡ false → filed_at r (from r es) ≡ None
none_filed r [] none = refl
none_filed r (e ∷ es) none =
    let parts = or_parts (eqb e.0 r) (has_rank r (map with_rank es)) none in
    ⊎_elim
    (λ (lt : e.0 < r). ap (λ b. filed_at r (cond b (from r es) (e ∷ es))) (lt-ltb e.0 r lt) ∙ none_filed r es parts.1)
    (λ (le : r ≤ e.0). ap (λ b. filed_at r (cond b (from r es) (e ∷ es))) (le-ltb e.0 r le) ∙ ap (λ b. cond b (Some e.1) None) parts.0)
    (cases_lt e.0 r)

-- No reading behind a rank has it.
none_behind : (r n : ℕ) (es : List E) → r ≤ n → AreAbove n es → has_rank r (map with_rank es) ≡ false
none_behind r n [] le above = refl
none_behind r n (e ∷ es) le above =
    or_from (eqb e.0 r) (has_rank r (map with_rank es)) (ne_eqb e.0 r (λ same. absurd (let up = above.0 in omega (arith, le, same, up)))) (none_behind r n es le above.1)

-- Something is filed under a rank exactly if a reading has it.
pub filed_rank : (r : ℕ) (es : List E) → AreRising es → is_some (filed_at r (from r es)) ≡ has_rank r (map with_rank es)
filed_rank r [] rising = refl
filed_rank r (e ∷ es) rising = ⊎_elim
    (λ (lt : e.0 < r).
    ap (λ b. is_some (filed_at r (cond b (from r es) (e ∷ es)))) (lt-ltb e.0 r lt) ∙ filed_rank r es rising.1
    ∙ sym (ap (λ b. b || has_rank r (map with_rank es)) (ne_eqb e.0 r (λ same. absurd (omega (arith, lt, same))))))
    (λ (le : r ≤ e.0). ap (λ b. is_some (filed_at r (cond b (from r es) (e ∷ es)))) (le-ltb e.0 r le) ∙ some_here (eqb e.0 r) ∙ ap (λ b. eqb e.0 r || b) (sym (none_behind r e.0 es le rising.0)))
    (cases_lt e.0 r)
  where
    some_here : (b : Bool) → is_some (cond b (Some e.1) None) ≡ (b || false)
    some_here true = refl
    some_here false = refl

-- Readings that are behind a rank are not of it.
without_behind : (r n : ℕ) (es : List E) → r ≤ n → AreAbove n es → without r (map with_rank es) ≡ map with_rank es
without_behind r n [] le above = refl
without_behind r n (e ∷ es) le above =
    ap (λ b. cond (not b) (with_rank e ∷ without r (map with_rank es)) (without r (map with_rank es))) (ne_eqb e.0 r (λ same. absurd (let up = above.0 in omega (arith, le, same, up))))
    ∙ ap (λ ts. with_rank e ∷ ts) (without_behind r n es le above.1)

-- The entry of a rank is taken out.
pub taken_out : (r : ℕ) (es : List E) → AreRising es → is_some (filed_at r (from r es)) ≡ true → map with_rank (below r es ++ drop 1 (from r es)) ≡ without r (map with_rank es)
taken_out r [] rising some = cc
taken_out r (e ∷ es) rising some = ⊎_elim
    (λ (lt : e.0 < r).
    let there : is_some (filed_at r (from r es)) ≡ true = sym (ap (λ b. is_some (filed_at r (cond b (from r es) (e ∷ es)))) (lt-ltb e.0 r lt)) ∙ some in
    ap (λ b. map with_rank (cond b (e ∷ below r es) [] ++ drop 1 (cond b (from r es) (e ∷ es)))) (lt-ltb e.0 r lt)
    ∙ ap (λ ts. with_rank e ∷ ts) (taken_out r es rising.1 there)
    ∙ sym (ap (λ b. cond (not b) (with_rank e ∷ without r (map with_rank es)) (without r (map with_rank es))) (ne_eqb e.0 r (λ same. absurd (omega (arith, lt, same))))))
    (λ (le : r ≤ e.0). ⊎_elim
    (λ (same : e.0 ≡ r).
    ap (λ b. map with_rank (cond b (e ∷ below r es) [] ++ drop 1 (cond b (from r es) (e ∷ es)))) (le-ltb e.0 r le)
    ∙ sym (ap (λ b. cond (not b) (with_rank e ∷ without r (map with_rank es)) (without r (map with_rank es))) (eq-eqb e.0 r same) ∙ without_behind r e.0 es le rising.0))
    (λ (apart : e.0 ≡ r → ⊥). absurd
    (no_some (sym (ap (λ b. is_some (filed_at r (cond b (from r es) (e ∷ es)))) (le-ltb e.0 r le) ∙ ap (λ b. is_some (cond b (Some e.1) None)) (ne_eqb e.0 r apart)) ∙ some)))
    (cases_eq e.0 r))
    (cases_lt e.0 r)
  where
    no_some : false ≡ true → ⊥
    no_some h = cc

-- Where nothing is filed under a rank, no reading has it.
pub none_out : (r : ℕ) (es : List E) → AreRising es → filed_at r (from r es) ≡ None → map with_rank es ≡ without r (map with_rank es)
none_out r [] rising none = refl
none_out r (e ∷ es) rising none = ⊎_elim
    (λ (lt : e.0 < r).
    ap (λ ts. with_rank e ∷ ts) (none_out r es rising.1 (sym (ap (λ b. filed_at r (cond b (from r es) (e ∷ es))) (lt-ltb e.0 r lt)) ∙ none))
    ∙ sym (ap (λ b. cond (not b) (with_rank e ∷ without r (map with_rank es)) (without r (map with_rank es))) (ne_eqb e.0 r (λ same. absurd (omega (arith, lt, same))))))
    (λ (le : r ≤ e.0). ⊎_elim
    (λ (same : e.0 ≡ r). absurd (some_none (sym (ap (λ b. filed_at r (cond b (from r es) (e ∷ es))) (le-ltb e.0 r le) ∙ ap (λ b. cond b (Some e.1) None) (eq-eqb e.0 r same)) ∙ none)))
    (λ (apart : e.0 ≡ r → ⊥).
    ap (λ ts. with_rank e ∷ ts) (sym (without_behind r e.0 es le rising.0))
    ∙ sym (ap (λ b. cond (not b) (with_rank e ∷ without r (map with_rank es)) (without r (map with_rank es))) (ne_eqb e.0 r apart)))
    (cases_eq e.0 r))
    (cases_lt e.0 r)
  where
    some_none : Some e.1 ≡ None → ⊥
    some_none h = cc

-- A greater rank has no lesser owner.
div_up : (m n k : ℕ) → 0 < k → m ≤ n → m / k ≤ n / k
div_up m n k some le = le-div (m / k) n k some (let cut : m / k * k ≤ m = div-mul-le_self m k in omega (arith, cut, le))

pub owner_up : (m n : ℕ) → m ≤ n → owner_of m ≤ owner_of n
owner_up m n le = div_up (m / 2 ^ 10 / 2 ^ 31) (n / 2 ^ 10 / 2 ^ 31) (2 ^ 62) (omega arith) (div_up (m / 2 ^ 10) (n / 2 ^ 10) (2 ^ 31) (omega arith) (div_up m n (2 ^ 10) (omega arith) le))

-- Behind a reading of a later owner none is of this one.
none_owned : (o n : ℕ) (es : List E) → o < owner_of n → AreAbove n es → owned o (map with_rank es) ≡ []
none_owned o n [] lt above = refl
none_owned o n (e ∷ es) lt above =
    ap (λ b. cond b (with_rank e ∷ owned o (map with_rank es)) (owned o (map with_rank es)))
    (ne_eqb (owner_of e.0) o (λ same. absurd (let up = owner_up n e.0 (let a = above.0 in omega (arith, a)) in omega (arith, up, lt, same))))
    ∙ none_owned o n es lt above.1

not_yet : (r : ℕ) (b : Bool) (e : Timed) (ts : List Timed) → e.0 < r → from_on r (cond b (e ∷ ts) ts) ≡ from_on r ts
not_yet r true e ts lt = ap (λ b. cond (not b) (e ∷ from_on r ts) (from_on r ts)) (lt-ltb e.0 r lt)
not_yet r false e ts lt = refl

-- The first reading of an owner from a rank on, which is of no lesser owner.
pub first_behind : (o r : ℕ) (es : List E) → o ≤ owner_of r → AreRising es → only_owned o (option_map with_rank (first_of (from r es))) ≡ first_of (from_on r (owned o (map with_rank es)))
first_behind o r [] low rising = refl
first_behind o r (e ∷ es) low rising =
    let ts = owned o (map with_rank es) in ⊎_elim
    (λ (lt : e.0 < r).
    ap (λ b. only_owned o (option_map with_rank (first_of (cond b (from r es) (e ∷ es))))) (lt-ltb e.0 r lt)
    ∙ first_behind o r es low rising.1
    ∙ ap first_of (sym (not_yet r (eqb (owner_of e.0) o) (with_rank e) ts lt)))
    (λ (le : r ≤ e.0). ap (λ b. only_owned o (option_map with_rank (first_of (cond b (from r es) (e ∷ es))))) (le-ltb e.0 r le) ∙ ⊎_elim
    (λ (same : owner_of e.0 ≡ o).
    ap (λ b. cond b (Some (with_rank e)) None) (eq-eqb (owner_of e.0) o same)
    ∙ sym (ap (λ b. first_of (from_on r (cond b (with_rank e ∷ ts) ts))) (eq-eqb (owner_of e.0) o same)
    ∙ ap (λ b. first_of (cond (not b) (with_rank e ∷ from_on r ts) (from_on r ts))) (le-ltb e.0 r le)))
    (λ (apart : owner_of e.0 ≡ o → ⊥).
    let up = owner_up r e.0 le in
    let later : o < owner_of e.0 = strictly (omega (arith, low, up)) apart in
    ap (λ b. cond b (Some (with_rank e)) None) (ne_eqb (owner_of e.0) o apart)
    ∙ sym (ap (λ b. first_of (from_on r (cond b (with_rank e ∷ ts) ts))) (ne_eqb (owner_of e.0) o apart) ∙ ap (λ l. first_of (from_on r l)) (none_owned o e.0 es later rising.0)))
    (cases_eq (owner_of e.0) o))
    (cases_lt e.0 r)
  where
    strictly : {m n : ℕ} → m ≤ n → (n ≡ m → ⊥) → m < n
    strictly {m} {n} le apart = ⊎_elim (λ (same : n ≡ m). absurd (apart same)) (λ (other : n ≡ m → ⊥). omega (arith, le, other)) (cases_eq n m)

-- Nothing is in front of a rank where all are from it on.
no_front : (r n o : ℕ) (es : List E) → r ≤ n → AreAbove n es → in_front r (owned o (map with_rank es)) ≡ []
no_front r n o [] le above = refl
no_front r n o (e ∷ es) le above = skip (eqb (owner_of e.0) o) ∙ no_front r n o es le above.1
  where
    skip : (b : Bool) → in_front r (cond b (with_rank e ∷ owned o (map with_rank es)) (owned o (map with_rank es))) ≡ in_front r (owned o (map with_rank es))
    skip true = ap (λ b. cond b (with_rank e ∷ in_front r (owned o (map with_rank es))) (in_front r (owned o (map with_rank es)))) (le-ltb e.0 r (let up = above.0 in omega (arith, up, le)))
    skip false = refl

in_front_on : (r : ℕ) (b : Bool) (e : Timed) (ts : List Timed) → e.0 < r → in_front r (cond b (e ∷ ts) ts) ≡ cond b (e ∷ in_front r ts) (in_front r ts)
in_front_on r true e ts lt = ap (λ b. cond b (e ∷ in_front r ts) (in_front r ts)) (lt-ltb e.0 r lt)
in_front_on r false e ts lt = refl

-- A last entry in front of a rank is below it, and above what is in front of all.
record IsLastBelow (r n : ℕ) (l : E) : Type 0 where
  under : l.0 < r
  over : n < l.0

last_below : (r n : ℕ) (e : E) (es : List E) (l : E) → AreAbove n (e ∷ es) → AreRising (e ∷ es) → e.0 < r → last_of (e ∷ below r es) ≡ Some l → IsLastBelow r n l
last_below r n e [] l above rising lt is = let same = unwrapped is in subst (IsLastBelow r n) same (record { under = lt; over = above.0 })
  where
    unwrapped : Some e ≡ Some l → e ≡ l
    unwrapped h = cc
last_below r n e (f ∷ es) l above rising lt is = ⊎_elim
    (λ (on : f.0 < r).
    let rest : IsLastBelow r e.0 l =
    last_below r e.0 f es l rising.0 rising.1 on (sym (last_cons e f (below r es)) ∙ sym (ap (λ b. last_of (e ∷ cond b (f ∷ below r es) [])) (lt-ltb f.0 r on)) ∙ is) in
    record { under = rest.under; over = let up = rest.over in let a = above.0 in omega (arith, up, a) })
    (λ (end : r ≤ f.0).
    let same = unwrapped (sym (ap (λ b. last_of (e ∷ cond b (f ∷ below r es) [])) (le-ltb f.0 r end)) ∙ is) in subst (IsLastBelow r n) same (record { under = lt; over = above.0 }))
    (cases_lt f.0 r)
  where
    unwrapped : Some e ≡ Some l → e ≡ l
    unwrapped h = cc

none_last : (ts : List Timed) → None ≡ last_of ts → ts ≡ []
none_last [] h = refl
none_last (t ∷ ts) h = absurd (never t ts h)
  where
    never : (t : Timed) (ts : List Timed) → None ≡ last_of (t ∷ ts) → ⊥
    never t [] h = cc
    never t (u ∷ us) h = never u us (h ∙ last_cons t u us)

some_last : (l t : Timed) (ts : List Timed) → Some l ≡ last_of ts → last_of (t ∷ ts) ≡ Some l
some_last l t [] h = cc
some_last l t (u ∷ us) h = last_cons t u us ∙ sym h

-- The last reading of an owner in front of a rank.
pub last_in_front : (r : ℕ) (es : List E) → AreRising es → only_owned (owner_of r) (option_map with_rank (last_of (below r es))) ≡ last_of (in_front r (owned (owner_of r) (map with_rank es)))
last_in_front r [] rising = refl
last_in_front r (e ∷ es) rising =
    let o = owner_of r in let ts = owned o (map with_rank es) in let own = eqb (owner_of e.0) o in ⊎_elim
    (λ (lt : e.0 < r).
    ap (λ b. only_owned o (option_map with_rank (last_of (cond b (e ∷ below r es) [])))) (lt-ltb e.0 r lt)
    ∙ step (below r es) refl (last_in_front r es rising.1) lt
    ∙ ap last_of (sym (in_front_on r own (with_rank e) ts lt)))
    (λ (le : r ≤ e.0).
    ap (λ b. only_owned o (option_map with_rank (last_of (cond b (e ∷ below r es) [])))) (le-ltb e.0 r le)
    ∙ sym (ap last_of (front_none own le)))
    (cases_lt e.0 r)
  where
    front_none : (b : Bool) → r ≤ e.0 → in_front r (cond b (with_rank e ∷ owned (owner_of r) (map with_rank es)) (owned (owner_of r) (map with_rank es))) ≡ []
    front_none true le = ap (λ b. cond b (with_rank e ∷ in_front r (owned (owner_of r) (map with_rank es))) (in_front r (owned (owner_of r) (map with_rank es)))) (le-ltb e.0 r le)
        ∙ no_front r e.0 (owner_of r) es le rising.0
    front_none false le = no_front r e.0 (owner_of r) es le rising.0

    alone : (b : Bool) → cond b (Some (with_rank e)) None ≡ last_of (cond b (with_rank e ∷ []) [])
    alone true = refl
    alone false = refl

    step : (fs : List E) → below r es ≡ fs → only_owned (owner_of r) (option_map with_rank (last_of fs)) ≡ last_of (in_front r (owned (owner_of r) (map with_rank es))) → e.0 < r
        → only_owned (owner_of r) (option_map with_rank (last_of (e ∷ fs)))
        ≡ last_of (cond (eqb (owner_of e.0) (owner_of r)) (with_rank e ∷ in_front r (owned (owner_of r) (map with_rank es))) (in_front r (owned (owner_of r) (map with_rank es))))
    step [] is rest lt =
        let none = none_last (in_front r (owned (owner_of r) (map with_rank es))) rest in
        alone (eqb (owner_of e.0) (owner_of r)) ∙ ap (λ ts. last_of (cond (eqb (owner_of e.0) (owner_of r)) (with_rank e ∷ ts) ts)) (sym none)
    step (f ∷ fs) is rest lt = with_last (last_of (f ∷ fs)) refl (ap (λ l. only_owned (owner_of r) (option_map with_rank l)) (last_cons e f fs)) rest
      where
        with_last : (l : Option E) → last_of (f ∷ fs) ≡ l → only_owned (owner_of r) (option_map with_rank (last_of (e ∷ f ∷ fs))) ≡ only_owned (owner_of r) (option_map with_rank l)
            → only_owned (owner_of r) (option_map with_rank l) ≡ last_of (in_front r (owned (owner_of r) (map with_rank es)))
            → only_owned (owner_of r) (option_map with_rank (last_of (e ∷ f ∷ fs)))
            ≡ last_of (cond (eqb (owner_of e.0) (owner_of r)) (with_rank e ∷ in_front r (owned (owner_of r) (map with_rank es))) (in_front r (owned (owner_of r) (map with_rank es))))
        with_last None last whole rest = absurd (never f fs last)
          where
            never : (f : E) (fs : List E) → last_of (f ∷ fs) ≡ None → ⊥
            never f [] h = cc
            never f (g ∷ gs) h = never g gs (sym (last_cons f g gs) ∙ h)
        with_last (Some l) last whole rest = ⊎_elim
            (λ (same : owner_of l.0 ≡ owner_of r).
            let found : Some (with_rank l) ≡ last_of (in_front r (owned (owner_of r) (map with_rank es))) =
            sym (ap (λ b. cond b (Some (with_rank l)) None) (eq-eqb (owner_of l.0) (owner_of r) same)) ∙ rest in
            whole ∙ ap (λ b. cond b (Some (with_rank l)) None) (eq-eqb (owner_of l.0) (owner_of r) same) ∙ sym (either (eqb (owner_of e.0) (owner_of r)) found))
            (λ (apart : owner_of l.0 ≡ owner_of r → ⊥).
            let at : IsLastBelow r e.0 l = placed l last in
            let none = none_last (in_front r (owned (owner_of r) (map with_rank es))) (sym (ap (λ b. cond b (Some (with_rank l)) None) (ne_eqb (owner_of l.0) (owner_of r) apart)) ∙ rest) in
            let up = owner_up e.0 l.0 (let o = at.over in omega (arith, o)) in let down = owner_up l.0 r (let u = at.under in omega (arith, u)) in
            let other : owner_of e.0 ≡ owner_of r → ⊥ = λ same. apart (omega (arith, up, down, same)) in
            whole ∙ ap (λ b. cond b (Some (with_rank l)) None) (ne_eqb (owner_of l.0) (owner_of r) apart)
            ∙ sym (ap (λ b. last_of (cond b (with_rank e ∷ in_front r (owned (owner_of r) (map with_rank es))) (in_front r (owned (owner_of r) (map with_rank es)))))
            (ne_eqb (owner_of e.0) (owner_of r) other)
            ∙ ap last_of none))
            (cases_eq (owner_of l.0) (owner_of r))
          where
            either : (b : Bool) → Some (with_rank l) ≡ last_of (in_front r (owned (owner_of r) (map with_rank es)))
                → last_of (cond b (with_rank e ∷ in_front r (owned (owner_of r) (map with_rank es))) (in_front r (owned (owner_of r) (map with_rank es)))) ≡ Some (with_rank l)
            either true found = some_last (with_rank l) (with_rank e) (in_front r (owned (owner_of r) (map with_rank es))) found
            either false found = sym found

            placed : (l : E) → last_of (f ∷ fs) ≡ Some l → IsLastBelow r e.0 l
            placed l last = found es rising.0 rising.1 is last
              where
                found : (es : List E) → AreAbove e.0 es → AreRising es → below r es ≡ f ∷ fs → last_of (f ∷ fs) ≡ Some l → IsLastBelow r e.0 l
                found [] above up is last = cc
                found (g ∷ gs) above up is last = ⊎_elim
                    (λ (on : g.0 < r). last_below r e.0 g gs l above up on (ap last_of (sym (ap (λ b. cond b (g ∷ below r gs) []) (lt-ltb g.0 r on)) ∙ is) ∙ last))
                    (λ (end : r ≤ g.0). absurd (cons_nil f fs (sym is ∙ ap (λ b. cond b (g ∷ below r gs) []) (le-ltb g.0 r end))))
                    (cases_lt g.0 r)
