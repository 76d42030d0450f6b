-- Entries in the order of their keys.
use Rattle.std.{proofs.Common.{◌≡◌, ℕ, zero, suc, ◌<◌, Bool, true, false, not, cond, T, ◌&&◌, List, [], ◌∷◌, length, get_or, Some, None, refl, sym, ap, subst, ◌∙◌, arith}, specs.declared.cmp.Ordering.Ordering, specs.declared.cmp.Ordering.TheVariants.{Less, Equal, Greater}, specs.Ordering.{is_lt, is_eq, ordering_reverse}, specs.FinMap.Entries.{below_all, find}}
use Rattle.ledger_model.{specs.Key.{KeyName, key_cmp}, specs.Content.{Entry, live}, specs.Entries.IsRising, proofs.Keys.key_total}

pub first : (a b : Bool) → T (a && b) → T a
first true b h = tt
first false b h = h

pub second : (a b : Bool) → T (a && b) → T b
second true b h = h
second false b h = absurd h

pub both : (a b : Bool) → T a → T b → T (a && b)
both true b g h = h
both false b g h = g

pub less : (o : Ordering) → T (is_lt o) → o ≡ Less
less Less h = refl
less Equal h = absurd h
less Greater h = absurd h

-- the other way round, a comparison is turned
pub turned : (a b : KeyName) (o : Ordering) → key_cmp a b ≡ o → key_cmp b a ≡ ordering_reverse o
turned a b o h = key_total.antisymm b a ∙ ap ordering_reverse h

-- the key of each later entry is greater
pub below_at : (x : KeyName) (es : List Entry) (i : ℕ) (d : Entry) → T (below_all key_cmp x es) → i < length es → key_cmp x (get_or es i d).0 ≡ Less
below_at x [] i d h lt = absurd (omega arith)
below_at x (e ∷ es) zero d h lt = less _ (first _ _ h)
below_at x (e ∷ es) (suc i) d h lt = below_at x es i d (second _ _ h) (omega arith)

-- a key below another is below all that the other is below
pub below_less : (x y : KeyName) (es : List Entry) → key_cmp x y ≡ Less → T (below_all key_cmp y es) → T (below_all key_cmp x es)
below_less x y [] p h = tt
below_less x y (e ∷ es) p h = both _ _ (subst (λ r. T (is_lt r)) (sym (key_total.trans x y e.0 p (less _ (first _ _ h)))) tt) (below_less x y es p (second _ _ h))

-- a key below all others is not in the map
pub find_below : (key : KeyName) (es : List Entry) → T (below_all key_cmp key es) → find key_cmp key es ≡ None
find_below key [] h = refl
find_below key (e ∷ es) h = ap (λ r. cond (is_eq r) (Some e.1) (find key_cmp key es)) (less _ (first _ _ h)) ∙ find_below key es (second _ _ h)

-- leaving out voided events keeps the order
pub below_live : (k : KeyName) (es : List Entry) → T (below_all key_cmp k es) → T (below_all key_cmp k (live es))
below_live k [] h = tt
below_live k (e ∷ es) h =
    let rest = below_live k es (second _ _ h) in
    elim e.1.voided as (λ b. T (below_all key_cmp k (cond (not b) (e ∷ live es) (live es)))) [ true ↦ rest | false ↦ both _ _ (first _ _ h) rest ]

pub live_rising : (es : List Entry) → IsRising es → IsRising (live es)
live_rising [] h = tt
live_rising (e ∷ es) h =
    let rest = live_rising es (second _ _ h) in
    elim e.1.voided as (λ b. IsRising (cond (not b) (e ∷ live es) (live es))) [ true ↦ rest | false ↦ both _ _ (below_live e.0 es (first _ _ h)) rest ]
