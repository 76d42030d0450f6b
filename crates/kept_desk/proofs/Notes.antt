-- Bytes that begin with `#` and end with their one line feed are a comment line.
use Rattle.std.proofs.Common.{◌≡◌, ℕ, suc, ◌-◌, ◌+◌, ◌≤◌, List, [], ◌∷◌, ◌++◌, length, take, drop, get_or, refl, sym, ap, ◌∙◌, subst, arith, length-take}
use Rattle.kept_desk.specs.Entries.{IsComment}
use Rattle.script_lines.specs.Lines.{HasNoFeed}

-- the last byte apart
split_last : (x : ℕ) (xs : List ℕ) → x ∷ xs ≡ take (length xs) (x ∷ xs) ++ get_or (x ∷ xs) (length xs) 0 ∷ []
split_last x [] = refl
split_last x (y ∷ ys) = ap (λ l. x ∷ l) (split_last y ys)

pub comment_of : (bytes : List ℕ) (n : ℕ) → n ≡ length bytes → 2 ≤ n → n ≤ 262401 → get_or bytes 0 0 ≡ 35 → get_or bytes (n - 1) 0 ≡ 10 → HasNoFeed (take (n - 1 - 1) (drop 1 bytes)) → IsComment bytes
comment_of [] n is two most first feed none = absurd (omega (arith, is, two))
comment_of (b ∷ []) n is two most first feed none = absurd (omega (arith, is, two))
comment_of (b ∷ x ∷ xs) n is two most first feed none =
    let inner = take (length xs) (x ∷ xs) in
    let e1 : n - 1 - 1 ≡ length xs = omega (arith, is) in
    let e2 : n - 1 ≡ suc (length xs) = omega (arith, is) in
    let last : get_or (x ∷ xs) (length xs) 0 ≡ 10 = ap (λ k. get_or (b ∷ x ∷ xs) k 0) (sym e2) ∙ feed in
    record {
      said = inner;
      feedless = subst (λ k. HasNoFeed (take k (x ∷ xs))) e1 none;
      short = omega (arith, is, most, length-take (length xs) (x ∷ xs));
      is = (λ i. first i ∷ (x ∷ xs)) ∙ ap (λ l. 35 ∷ l) (split_last x xs ∙ ap (λ c. inner ++ c ∷ []) last);
    }
