-- A folded id is an id as it is kept.
use Rattle.std.{proofs.Common.{◌≡◌, ◌<◌, ◌≤◌, ℕ, zero, suc, true, ◌&&◌, map, nat_lt, nat_le, List, [], ◌∷◌, length, refl, arith}, specs.List.list_all, specs.Char.to_ascii_lowercase, specs.Str.IsAscii, proofs.lemmas.Bool.{and_parts, and_from, lt-ltb, le-leb, ltb-true, leb-true}, proofs.lemmas.Bool.Decides.nat_tests, proofs.lemmas.List.length-map}
use Rattle.ledger_model.{specs.Ranges.most_id_characters, specs.TxId.{is_visible, folded_byte, folded, is_tx_id, IsFoldedId}}

visible-folded_byte : (c : ℕ) → is_visible c ≡ true → is_visible (folded_byte c) ≡ true
visible-folded_byte c h = grind (arith, nat_tests)

folded_byte-folded_byte : (c : ℕ) → folded_byte (folded_byte c) ≡ folded_byte c
folded_byte-folded_byte c = grind (arith, nat_tests)

pub visible-folded : (text : List ℕ) → list_all is_visible text ≡ true → list_all is_visible (folded text) ≡ true
visible-folded [] h = refl
visible-folded (c ∷ text) h =
    let parts = and_parts (is_visible c) (list_all is_visible text) h in
    and_from (is_visible (folded_byte c)) (list_all is_visible (folded text)) (visible-folded_byte c parts.0) (visible-folded text parts.1)

lower-folded_byte : (c : ℕ) → to_ascii_lowercase c ≡ folded_byte c
lower-folded_byte c = grind (arith, nat_tests)

-- std's lower case folds an id
pub lower-folded : (text : List ℕ) → map to_ascii_lowercase text ≡ folded text
lower-folded [] = refl
lower-folded (c ∷ text) = λ i. lower-folded_byte c i ∷ lower-folded text i

visible_below : (c : ℕ) → is_visible c ≡ true → c < 128
visible_below c h = grind (arith, nat_tests)

-- visible characters are ASCII
pub visible-IsAscii : (text : List ℕ) → list_all is_visible text ≡ true → IsAscii text
visible-IsAscii [] h i = omega arith
visible-IsAscii (c ∷ text) h zero = visible_below c (and_parts (is_visible c) (list_all is_visible text) h).0
visible-IsAscii (c ∷ text) h (suc i) = visible-IsAscii text (and_parts (is_visible c) (list_all is_visible text) h).1 i

folded-folded : (text : List ℕ) → folded (folded text) ≡ folded text
folded-folded [] = refl
folded-folded (c ∷ text) = λ i. folded_byte-folded_byte c i ∷ folded-folded text i

pub IsFoldedId-from_parts : (text : List ℕ) → 0 < length text → length text ≤ most_id_characters → list_all is_visible text ≡ true → IsFoldedId (folded text)
IsFoldedId-from_parts text some few visible =
    let long : length (folded text) ≡ length text = length-map text folded_byte in
    let some' : nat_lt 0 (length (folded text)) ≡ true = lt-ltb 0 (length (folded text)) (omega arith) in
    let few' : nat_le (length (folded text)) most_id_characters ≡ true = le-leb (length (folded text)) most_id_characters (omega arith) in
    record {
      valid = and_from (nat_lt 0 (length (folded text)) && nat_le (length (folded text)) most_id_characters)
          (list_all is_visible (folded text)) (and_from _ _ some' few') (visible-folded text visible);
      lower = folded-folded text;
    }

pub IsFoldedId-folded : (text : List ℕ) → is_tx_id text ≡ true → IsFoldedId (folded text)
IsFoldedId-folded text h =
    let parts = and_parts (nat_lt 0 (length text) && nat_le (length text) most_id_characters) (list_all is_visible text) h in
    let sizes = and_parts (nat_lt 0 (length text)) (nat_le (length text) most_id_characters) parts.0 in
    IsFoldedId-from_parts text (ltb-true 0 (length text) sizes.0) (leb-true (length text) most_id_characters sizes.1) parts.1
