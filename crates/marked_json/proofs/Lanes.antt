-- The first byte that passes a test, by the mask of a load.
use Rattle.std.{proofs.Common.{◌≡◌, ℕ, suc, ◌+◌, ◌*◌, ◌≤◌, ◌<◌, ◌||◌, Bool, true, false, not, cond, eqb, List, [], ◌∷◌, map, length, get_or, refl, ap, ap₂, ◌∙◌, arith, Some}, specs.List.prefix_len, proofs.lemmas.Simd.{trailing_mask_l, length-chunk, run_in_chunk_fails, run_in_chunk_stops}}
use Rattle.memchr.specs.Find.{IsFirstByte, is_byte2}
use lib.Bits.{bit_or}
use lib.Count.{count_trailing_zeros}
use lib.Lanes.{zip2, mask_l, top, chunk}

-- a lane that equals a byte has all bits
abbrev pub hit : ℕ → ℕ → ℕ
hit x a = cond (eqb x a) 255 0

top_of_hits : (p q : Bool) → top 7 (bit_or (cond p 255 0) (cond q 255 0)) ≡ (p || q)
top_of_hits true true = refl
top_of_hits true false = refl
top_of_hits false true = refl
top_of_hits false false = refl

pub hits : (a b : ℕ) (v : List ℕ) → map (top 7) (zip2 bit_or (map (λ x. hit x a) v) (map (λ x. hit x b) v)) ≡ map (is_byte2 a b) v
hits a b [] = refl
hits a b (x ∷ xs) = ap₂ (λ m ms. m ∷ ms) (top_of_hits (eqb x a) (eqb x b)) (hits a b xs)

some_passes : (p : ℕ → Bool) (v : List ℕ) → 0 < mask_l (map p v) → prefix_len (λ x. not (p x)) v < length v
some_passes p [] some = absurd (omega arith)
some_passes p (x ∷ xs) some = by_first (p x) (mask_l (map p xs)) _ some (some_passes p xs) where
  by_first : (b : Bool) (m n : ℕ) → 0 < cond b 1 0 + 2 * m → (0 < m → n < length xs) → cond (not b) (1 + n) 0 < suc (length xs)
  by_first true m n set more = omega arith
  by_first false m n set more = let less = more (omega arith) in omega arith

-- the first lane that passes is one of the lanes
pub near_in_lanes : (p : ℕ → Bool) (xs : List ℕ) (n k : ℕ) → n ≤ length xs → n ≤ 64 → 0 < mask_l (map p (chunk 0 n xs)) → k ≡ count_trailing_zeros 64 (mask_l (map p (chunk 0 n xs))) → k < n
near_in_lanes p xs n k room short some is =
    let v = chunk 0 n xs in
    let here : 0 + n ≤ length xs = omega arith in
    let long : length v ≡ n = length-chunk 0 n xs here in
    let counted : k ≡ prefix_len (λ x. not (p x)) v = is ∙ trailing_mask_l p 64 v (omega arith) some in
    omega (arith, some_passes p v some)

pub first_in_lanes : (p : ℕ → Bool) (xs : List ℕ) (n k : ℕ) → n ≤ length xs → n ≤ 64 → 0 < mask_l (map p (chunk 0 n xs))
    → k ≡ count_trailing_zeros 64 (mask_l (map p (chunk 0 n xs))) → IsFirstByte p xs (Some k)
first_in_lanes p xs n k room short some is =
    let v = chunk 0 n xs in
    let here : 0 + n ≤ length xs = omega arith in
    let long : length v ≡ n = length-chunk 0 n xs here in
    let counted : k ≡ prefix_len (λ x. not (p x)) v = is ∙ trailing_mask_l p 64 v (omega arith) some in
    let within : k < n = near_in_lanes p xs n k room short some is in
    let place : k ≡ 0 + k = omega arith in
    let fails : (j : ℕ) → j < k → p (get_or xs j 0) ≡ false = λ j below. run_in_chunk_fails p xs 0 n k 0 here counted j (omega arith) (omega arith) in (
      record { low = omega arith; high = omega arith; before = λ j low high yes. let no = fails j high in cc },
      ap (λ i. p (get_or xs i 0)) place ∙ run_in_chunk_stops p xs 0 n k 0 here counted within,
    )
