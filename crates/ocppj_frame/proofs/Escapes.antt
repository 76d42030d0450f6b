-- How long texts are as JSON strings.
use Rattle.std.{proofs.Common.{◌≤◌, ◌*◌, ℕ, length, List, [], ◌∷◌, Bool, true, false, arith, length-append, ap}, specs.Prelude.{◌||◌, if◌then◌else◌, nat_lt, ◌==◌, encode_utf8}, specs.List.flat_map, specs.Str.{IsUtf8, chars, encode_utf8_all}, proofs.lemmas.Str.{length-encode, len_utf8_bounds, encodes-chars}}
use Rattle.ocppj_frame.specs.Reply.{escaped}

-- a character takes at most four bytes
pub length-encode-le : (c : ℕ) → length (encode_utf8 c) ≤ 4
length-encode-le c = omega (arith, length-encode c, len_utf8_bounds c)

-- one of two texts of at most six bytes has at most six bytes
either-le : (b : Bool) (xs ys : List ℕ) → length xs ≤ 6 → length ys ≤ 6 → length (if b then xs else ys) ≤ 6
either-le true xs ys left right = left
either-le false xs ys left right = right

-- a character takes at most six bytes in a JSON string
pub length-escaped-le : (c : ℕ) → length (escaped c) ≤ 6
length-escaped-le c =
    either-le (c == 34 || c == 92) _ _ (omega arith)
    (either-le (nat_lt c 32) _ (encode_utf8 c) (omega arith) (omega (arith, length-encode-le c)))

-- characters take at most six bytes each
pub length-flat_map_escaped-le : (cs : List ℕ) → length (flat_map escaped cs) ≤ 6 * length cs
length-flat_map_escaped-le [] = omega arith
length-flat_map_escaped-le (c ∷ cs) =
    omega (arith, length-append (escaped c) (flat_map escaped cs), length-escaped-le c, length-flat_map_escaped-le cs)

-- characters take at most four bytes each
length-encodes-le : (cs : List ℕ) → length (encode_utf8_all cs) ≤ 4 * length cs
length-encodes-le [] = omega arith
length-encodes-le (c ∷ cs) =
    omega (arith, length-append (encode_utf8 c) (encode_utf8_all cs), length-encode-le c, length-encodes-le cs)

-- a text has at most four bytes a character
pub length-le-chars : (bs : List ℕ) → IsUtf8 bs → length bs ≤ 4 * length (chars bs)
length-le-chars bs utf8 = omega (arith, length-encodes-le (chars bs), ap length (encodes-chars bs utf8))
