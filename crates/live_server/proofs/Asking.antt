-- A name is text.
use Rattle.std.{proofs.Common.{◌≡◌, ℕ, ◌<◌, ◌&&◌, Bool, true, false, List, get_or, refl, arith}, specs.List.list_all, specs.Str.IsUtf8, proofs.lemmas.Bool.Decides.nat_tests, proofs.lemmas.List.Sums.AllPass-from_list_all, proofs.lemmas.Str.IsUtf8-from_ascii, proofs.lemmas.Str.Ascii.IsAscii-from_all}
use Rattle.ledger_model.specs.Name.{is_name, is_name_character}

name_byte : (c : ℕ) → is_name_character c ≡ true → c < 128
name_byte c is = grind (arith, nat_tests, is)

second : (a b : Bool) → (a && b) ≡ true → b ≡ true
second true b h = h
second false b h = cc h

name_text : (name : List ℕ) → list_all is_name_character name ≡ true → IsUtf8 name
name_text name all = IsUtf8-from_ascii name (IsAscii-from_all name (λ k d less. name_byte (get_or name k d) (AllPass-from_list_all is_name_character name all k d less)))

-- what is no text is no name
pub no_name : (name : List ℕ) → (IsUtf8 name → ⊥) → is_name name ≡ false
no_name name none = at (is_name name) refl
  where
    at : (is : Bool) → is_name name ≡ is → is ≡ false
    at true e = absurd (none (name_text name (second _ (list_all is_name_character name) e)))
    at false e = refl
