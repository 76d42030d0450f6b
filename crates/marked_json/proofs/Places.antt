-- What a place in a tree shows.
use Rattle.std.{proofs.Common.{◌≡◌, ◌≢◌, ℕ, Bool, true, eqb, get_or, take, drop, length, ◌-◌, ◌∙◌, List, [], ◌∷◌, Option, Some, None, option_map, refl, ap, arith, MatchOption, Bor}, proofs.lemmas.Bool.Decides.{nat_tests, Decides-eqb}, specs.Cmp.Lexicographic.pointwise, proofs.lemmas.Slice.Eq.slice_eq-Decides, proofs.lemmas.List.take_all}
use Rattle.serde_json.{specs.Data.Data, specs.View.items_of}
use Rattle.marked_json.specs.Reading.{behind_mark, list_of}

-- what `strip_prefix` gives at a mark
pub behind_mark-strip : (mark : ℕ) (bs : List ℕ) (r : Option (Bor (List ℕ)))
    → MatchOption r ((rest : List ℕ) → bs ≢ mark ∷ rest) (λ x. bs ≡ mark ∷ x.now) → option_map (λ s. s.now) r ≡ behind_mark mark bs
behind_mark-strip mark [] None h = refl
behind_mark-strip mark (c ∷ cs) None h = let e : (c ≡ mark → (⊥)) = λ e. h cs (ap (λ x. x ∷ cs) e) in grind (arith, nat_tests)
behind_mark-strip mark [] (Some x) h = absurd (cc h)
behind_mark-strip mark (c ∷ cs) (Some x) h = grind (arith, nat_tests)

-- the items of a view, as a list
pub list_of-items_of : (ds : List Data) → list_of (items_of ds) ≡ ds
list_of-items_of [] = refl
list_of-items_of (d ∷ ds) = ap (λ rest. d ∷ rest) (list_of-items_of ds)

-- a key is a name behind a mark
pub marked_key : (key name : List ℕ) (same : Bool) → get_or key 0 0 ≡ 36
    → same ≡ pointwise eqb (take (length key - 1) (drop 1 key)) name
    → (same ≡ true → key ≡ 36 ∷ name) × (key ≡ 36 ∷ name → same ≡ true)
marked_key [] name same first compared = absurd (cc)
marked_key (c ∷ cs) name same first compared =
    let rest : take (length (c ∷ cs) - 1) cs ≡ cs = take_all (length (c ∷ cs) - 1) cs (omega arith) in
    let decides = slice_eq-Decides Decides-eqb cs name same (compared ∙ ap (λ xs. pointwise eqb xs name) rest) in
    (λ yes. ap (λ x. x ∷ cs) first ∙ ap (λ xs. 36 ∷ xs) (decides.0 yes), λ is. decides.1 (ap (drop 1) is))
