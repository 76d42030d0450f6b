-- The last byte of a text, and the carriage return that the end of a line drops.
use Rattle.std.{proofs.Common.{◌≡◌, ℕ, ◌-◌, Bool, true, false, cond, ◌&&◌, ◌==◌, ltb, List, [], ◌∷◌, ◌++◌, length, get_or, take, refl, sym, ap, ◌∙◌, arith, length-append, length-take}, specs.Io.BufRead.{ends_with_byte, strip_last}, proofs.lemmas.Bool.Decides.nat_tests, proofs.Math.Seq.get_or-append_seam}

-- the last byte, or this one if there is none
abbrev pub last : ℕ → List ℕ → ℕ
last d [] = d
last d (x ∷ xs) = last x xs

pub last_behind : (d : ℕ) (front : List ℕ) (b : ℕ) (back : List ℕ) → last d (front ++ b ∷ back) ≡ last b back
last_behind d [] b back = refl
last_behind d (x ∷ front) b back = last_behind x front b back

-- it is at the end
pub last_apart : (x : ℕ) (xs : List ℕ) → (front : List ℕ) × (x ∷ xs ≡ front ++ last x xs ∷ [])
last_apart x [] = ([], refl)
last_apart x (y ∷ xs) = let later = last_apart y xs in (x ∷ later.0, ap (λ l. x ∷ l) later.1)

at_end : (front : List ℕ) (c : ℕ) → get_or (front ++ c ∷ []) (length (front ++ c ∷ []) - 1) 0 ≡ c
at_end front c =
    let at : length (front ++ c ∷ []) - 1 ≡ length front = omega (arith, length-append front (c ∷ [])) in
    ap (λ k. get_or (front ++ c ∷ []) k 0) at ∙ get_or-append_seam front c [] 0

pub ends_so : (c x : ℕ) (xs : List ℕ) → ends_with_byte c (x ∷ xs) ≡ (last x xs == c)
ends_so c x xs =
    let end = last_apart x xs in
    let some : ltb 0 (length (x ∷ xs)) ≡ true = grind (arith, nat_tests) in
    let byte : get_or (x ∷ xs) (length (x ∷ xs) - 1) 0 ≡ last x xs = ap (λ l. get_or l (length l - 1) 0) end.1 ∙ at_end end.0 (last x xs) in
    (λ i. some i && (byte i == c))

-- a text that does not end with a carriage return stays
pub keeps_last : (x : ℕ) (xs : List ℕ) → (last x xs == 13) ≡ false → strip_last 13 (x ∷ xs) ≡ x ∷ xs
keeps_last x xs other = ap (λ b. cond b (take (length (x ∷ xs) - 1) (x ∷ xs)) (x ∷ xs)) (ends_so 13 x xs ∙ other)

-- a text that stays does not end with one
pub kept_last : (x : ℕ) (xs : List ℕ) → strip_last 13 (x ∷ xs) ≡ x ∷ xs → (last x xs == 13) ≡ false
kept_last x xs same = at (last x xs == 13) (sym (ap (λ b. cond b (take (length (x ∷ xs) - 1) (x ∷ xs)) (x ∷ xs)) (ends_so 13 x xs)) ∙ same)
  where
    at : (b : Bool) → cond b (take (length (x ∷ xs) - 1) (x ∷ xs)) (x ∷ xs) ≡ x ∷ xs → b ≡ false
    at true e = absurd (omega (arith, ap length e, length-take (length (x ∷ xs) - 1) (x ∷ xs)))
    at false e = refl
