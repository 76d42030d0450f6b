-- What checks of members say.
use Rattle.std.{proofs.Common.{◌≡◌, ◌≢◌, ℕ, ◌≤◌, Bool, true, false, cond, List, [], ◌∷◌, ◌++◌, length, drop, Ok, Err, Option, None, Some, ℤ, pos, negsuc, ◌⊎◌, inl, inr, refl, sym, ap, subst, ◌∙◌, arith, rules, leb-true}, specs.Prelude.{◌&&◌, ◌==◌, if◌then◌else◌, nat_lt, neg_ℤ, unsigned_abs, slice_index, option_and_then}, specs.Char.is_ascii_digit, specs.Int.Signed.le_z, specs.List.list_all, specs.Option.ok_or, specs.Str.Parse.{IsNumeral, digits_value, without_leading_plus}, proofs.lemmas.Bool.{and_parts, and_from, cases_eq, ne_eqb, le-leb, lt-ltb, ltb-true}, proofs.lemmas.Str.Parse.{IsNumeralModel, numerals_by_value, without_leading_plus_none, not_in_digits}}
use Rattle.serde_json.specs.Data.{Data}
use Rattle.marked_json.specs.Reading.{field_of, is_object, number_of}
use Rattle.transaction_event.{specs.declared.fault.PayloadFault.PayloadFault, specs.declared.fault.PayloadFault.TheVariants.{Range, WrongType}, specs.Steps.{Checked, ◌>>=◌, checked_map}, specs.Member.{if_there, object_of, optional, required, required_of}, specs.Integer.{integer_of, integer_of_token, required_integer, within}}
use Rattle.event_laws.specs.Members.{Has, HasInteger, HasObject, IsInteger, MayHave}

-- ---- checks one after the other

-- What checks that pass one after the other gave.
pub bound : {A B : Type 0} (a : Checked A) (next : A → Checked B) (y : B) → (a >>= next) ≡ Ok y → (x : A) × ((a ≡ Ok x) × (next x ≡ Ok y))
bound (Ok x) next y e = (x, (refl, e))
bound (Err fault) next y e = absurd (cc e)

-- Checks that pass, one after the other.
pub binds : {A B : Type 0} (a : Checked A) (x : A) (next : A → Checked B) (y : B) → a ≡ Ok x → next x ≡ Ok y → (a >>= next) ≡ Ok y
binds a x next y e f = ap (λ c. c >>= next) e ∙ f

pub same_ok : {A : Type 0} (x y : A) → (let a : Checked A = Ok x in a) ≡ Ok y → x ≡ y
same_ok x y e = cc

pub same_some : {A : Type 0} (x y : A) → Some x ≡ Some y → x ≡ y
same_some x y e = cc

-- A test that was passed.
pub passed : {A : Type 0} (t : Bool) (x y : A) (fault : PayloadFault) → (if t then Ok x else Err fault) ≡ Ok y → (t ≡ true) × (x ≡ y)
passed true x y fault e = (refl, same_ok x y e)
passed false x y fault e = absurd (cc e)

pub there_is : {A : Type 0} (o : Option A) (fault : PayloadFault) (x : A) → ok_or o fault ≡ Ok x → o ≡ Some x
there_is None fault x e = absurd (cc e)
there_is (Some y) fault x e = ap Some (same_ok y x e)

-- ---- members

pub has_required : {A : Type 0} (read : Data → Option A) (name : List ℕ) (tree : Data) (x : A) → required read name tree ≡ Ok x → Has read name tree x
has_required {A} read name tree x e = go (field_of name tree) refl e
  where
    go : (member : Option Data) → field_of name tree ≡ member → required_of read member ≡ Ok x → Has read name tree x
    go None f e = absurd (cc e)
    go (Some member) f e = record { member = member; there = f; is = there_is (read member) WrongType x e }

pub required_has : {A : Type 0} (read : Data → Option A) (name : List ℕ) (tree : Data) (x : A) → Has read name tree x → required read name tree ≡ Ok x
required_has read name tree x h = ap (required_of read) h.there ∙ ap (λ v. ok_or v WrongType) h.is

may_have : {A : Type 0} (read : Data → Option A) (name : List ℕ) (tree member : Data) (v o : Option A) → field_of name tree ≡ Some member → read member ≡ v
    → checked_map Some (ok_or v WrongType) ≡ Ok o → MayHave read name tree o
may_have read name tree member None o f r e = absurd (cc e)
may_have read name tree member (Some x) o f r e = subst (MayHave read name tree) (same_ok (Some x) o e) (record { member = member; there = f; is = r })

pub has_optional : {A : Type 0} (read : Data → Option A) (name : List ℕ) (tree : Data) (o : Option A) → optional read name tree ≡ Ok o → MayHave read name tree o
has_optional {A} read name tree o e = go (field_of name tree) refl e
  where
    go : (member : Option Data) → field_of name tree ≡ member → if_there read member ≡ Ok o → MayHave read name tree o
    go None f e = subst (MayHave read name tree) (same_ok None o e) f
    go (Some member) f e = may_have read name tree member (read member) o f refl e

pub optional_has : {A : Type 0} (read : Data → Option A) (name : List ℕ) (tree : Data) (o : Option A) → MayHave read name tree o → optional read name tree ≡ Ok o
optional_has read name tree None h = ap (if_there read) h
optional_has read name tree (Some x) h = ap (if_there read) h.there ∙ ap (λ v. checked_map Some (ok_or v WrongType)) h.is

-- ---- objects

pub is_object_of : (tree found : Data) → object_of tree ≡ Some found → (is_object tree ≡ true) × (tree ≡ found)
is_object_of tree found e = go (is_object tree) refl e
  where
    go : (b : Bool) → is_object tree ≡ b → (if b then Some tree else None) ≡ Some found → (is_object tree ≡ true) × (tree ≡ found)
    go true is e = (is, same_some tree found e)
    go false is e = absurd (cc e)

pub object_of_is : (tree : Data) → is_object tree ≡ true → object_of tree ≡ Some tree
object_of_is tree is = ap (λ b. if b then Some tree else None) is

pub checked_object : (tree found : Data) (fault : PayloadFault) → ok_or (object_of tree) fault ≡ Ok found → (is_object tree ≡ true) × (tree ≡ found)
checked_object tree found fault e = is_object_of tree found (there_is (object_of tree) fault found e)

pub object_checked : (tree : Data) (fault : PayloadFault) → is_object tree ≡ true → ok_or (object_of tree) fault ≡ Ok tree
object_checked tree fault is = ap (λ o. ok_or o fault) (object_of_is tree is)

pub object_there : (name : List ℕ) (tree found : Data) → Has object_of name tree found → HasObject name tree found
object_there name tree found h =
    let o = is_object_of h.member found h.is in
    record { there = h.there ∙ ap Some o.1; is = subst (λ t. is_object t ≡ true) o.1 o.0 }

pub there_object : (name : List ℕ) (tree found : Data) → HasObject name tree found → Has object_of name tree found
there_object name tree found h = record { member = found; there = h.there; is = object_of_is found h.is }

-- ---- integers

digits_model : IsNumeralModel (λ ds. list_all is_ascii_digit ds ≡ true) (digits_value 10)
digits_model = numerals_by_value _ (search rules)

numeral_of : (ds : List ℕ) → (nat_lt 0 (length ds) && list_all is_ascii_digit ds) ≡ true → IsNumeral 10 ds
numeral_of ds e = let p = and_parts (nat_lt 0 (length ds)) (list_all is_ascii_digit ds) e in (ltb-true 0 (length ds) p.0, digits_model.to ds p.1)

of_numeral : (ds : List ℕ) → IsNumeral 10 ds → (nat_lt 0 (length ds) && list_all is_ascii_digit ds) ≡ true
of_numeral ds n = and_from (nat_lt 0 (length ds)) (list_all is_ascii_digit ds) (lt-ltb 0 (length ds) n.0) (digits_model.from ds n.1)

-- Digits have no sign.
no_sign : (ds : List ℕ) (sign : ℕ) → IsNumeral 10 ds → (sign ≤ 47) → slice_index ds 0 ≢ sign
no_sign ds sign n below = not_in_digits digits_model ds sign (digits_model.from ds n.1) (λ h. absurd (omega arith)) 0 n.0

-- The integer of a token, by whether it has a minus.
abbrev by_sign : List ℕ → Bool → Option ℤ
by_sign token signed =
    if nat_lt 0 (length (drop (if signed then 1 else 0) token)) && list_all is_ascii_digit (drop (if signed then 1 else 0) token)
    then Some (cond signed (neg_ℤ (pos (digits_value 10 (cond signed (drop 1 token) (without_leading_plus token))))) (pos (digits_value 10 (cond signed (drop 1 token) (without_leading_plus token)))))
    else None

by_sign_is : (token : List ℕ) → integer_of_token token ≡ by_sign token (slice_index token 0 == 45)
by_sign_is token = refl

given : {A : Type 0} (t : Bool) (x y : A) → (if t then Some x else None) ≡ Some y → (t ≡ true) × (x ≡ y)
given true x y e = (refl, same_some x y e)
given false x y e = absurd (cc e)

minus_written : (digits : List ℕ) (n : ℤ) → by_sign (45 ∷ digits) true ≡ Some n → IsInteger (45 ∷ digits) n
minus_written digits n e =
    let p = given (nat_lt 0 (length digits) && list_all is_ascii_digit digits) (neg_ℤ (pos (digits_value 10 digits))) n e in
    record { minus = 45 ∷ []; digits = digits; is = refl; numeral = numeral_of digits p.0; value = inr (refl, sym p.1) }

no_plus : (digits : List ℕ) → IsNumeral 10 digits → without_leading_plus digits ≡ digits
no_plus digits n = without_leading_plus_none digits (no_sign digits 43 n (omega arith))

plain_written : (token : List ℕ) (n : ℤ) → by_sign token false ≡ Some n → IsInteger token n
plain_written token n e =
    let p = given (nat_lt 0 (length token) && list_all is_ascii_digit token) (pos (digits_value 10 (without_leading_plus token))) n e in
    let numeral = numeral_of token p.0 in
    record { minus = []; digits = token; is = refl; numeral = numeral; value = inl (refl, sym (ap (λ ds. pos (digits_value 10 ds)) (sym (no_plus token numeral)) ∙ p.1)) }

integer_written : (token : List ℕ) (n : ℤ) → integer_of_token token ≡ Some n → IsInteger token n
integer_written [] n e = absurd (cc e)
integer_written (c ∷ cs) n e = go (cases_eq c 45)
  where
    go : (c ≡ 45) ⊎ (c ≡ 45 → ⊥) → IsInteger (c ∷ cs) n
    go (inl same) = subst (λ d. IsInteger (d ∷ cs) n) (sym same) (minus_written cs n (subst (λ d. integer_of_token (d ∷ cs) ≡ Some n) same e))
    go (inr apart) = plain_written (c ∷ cs) n (sym (ap (by_sign (c ∷ cs)) (ne_eqb c 45 apart)) ∙ e)

written_minus : (digits : List ℕ) → IsNumeral 10 digits → integer_of_token (45 ∷ digits) ≡ Some (neg_ℤ (pos (digits_value 10 digits)))
written_minus digits n = ap (λ b. if b then Some (neg_ℤ (pos (digits_value 10 digits))) else None) (of_numeral digits n)

written_plain : (digits : List ℕ) → IsNumeral 10 digits → integer_of_token digits ≡ Some (pos (digits_value 10 digits))
written_plain digits n =
    ap (by_sign digits) (ne_eqb (slice_index digits 0) 45 (no_sign digits 45 n (omega arith)))
    ∙ ap (λ b. if b then Some (pos (digits_value 10 (without_leading_plus digits))) else None) (of_numeral digits n)
    ∙ ap (λ ds. Some (pos (digits_value 10 ds))) (no_plus digits n)

written_integer : (token : List ℕ) (n : ℤ) → IsInteger token n → integer_of_token token ≡ Some n
written_integer token n i = go i.value
  where
    go : ((i.minus ≡ []) × (n ≡ pos (digits_value 10 i.digits))) ⊎ ((i.minus ≡ 45 ∷ []) × (n ≡ neg_ℤ (pos (digits_value 10 i.digits)))) → integer_of_token token ≡ Some n
    go (inl v) = ap integer_of_token (i.is ∙ ap (λ m. m ++ i.digits) v.0) ∙ written_plain i.digits i.numeral ∙ ap Some (sym v.1)
    go (inr v) = ap integer_of_token (i.is ∙ ap (λ m. m ++ i.digits) v.0) ∙ written_minus i.digits i.numeral ∙ ap Some (sym v.1)

pub has_integer : (name : List ℕ) (tree : Data) (n : ℤ) → Has integer_of name tree n → HasInteger name tree n
has_integer name tree n h = go (number_of h.member) refl h.is
  where
    go : (token : Option (List ℕ)) → number_of h.member ≡ token → option_and_then integer_of_token token ≡ Some n → HasInteger name tree n
    go None t e = absurd (cc e)
    go (Some token) t e = record { token = token; there = record { member = h.member; there = h.there; is = t }; is = integer_written token n e }

pub integer_has : (name : List ℕ) (tree : Data) (n : ℤ) → HasInteger name tree n → Has integer_of name tree n
integer_has name tree n h = record { member = h.there.member; there = h.there.there; is = ap (option_and_then integer_of_token) h.there.is ∙ written_integer h.token n h.is }

-- An integer of a range that begins at no negative number.
record IsFrom (least most : ℕ) (m : ℤ) : Type 0 where
  pub is : m ≡ pos (unsigned_abs m)
  pub low : least ≤ unsigned_abs m
  pub high : unsigned_abs m ≤ most

from_within : (a b : ℕ) (n m : ℤ) → within (pos a) (pos b) n ≡ Ok m → (n ≡ m) × IsFrom a b m
from_within a b (pos k) m e =
    let p = passed (le_z (pos a) (pos k) && le_z (pos k) (pos b)) (pos k) m Range e in
    let q = and_parts (le_z (pos a) (pos k)) (le_z (pos k) (pos b)) p.0 in
    (p.1, subst (IsFrom a b) p.1 (record { is = refl; low = leb-true a k q.0; high = leb-true k b q.1 }))
from_within a b (negsuc k) m e =
    let p = passed (le_z (pos a) (negsuc k) && le_z (negsuc k) (pos b)) (negsuc k) m Range e in absurd (cc p.0)

-- A natural number of the range that a member must be in.
pub record HasNatural (name : List ℕ) (tree : Data) (least most : ℕ) (m : ℤ) : Type 0 where
  pub there : HasInteger name tree (pos (unsigned_abs m))
  pub low : least ≤ unsigned_abs m
  pub high : unsigned_abs m ≤ most

pub has_natural : (name : List ℕ) (tree : Data) (a b : ℕ) (m : ℤ) → required_integer (pos a) (pos b) name tree ≡ Ok m → HasNatural name tree a b m
has_natural name tree a b m e =
    let n = bound (required integer_of name tree) (within (pos a) (pos b)) m e in
    let f = from_within a b n.0 m n.1.1 in
    record {
      there = subst (HasInteger name tree) (f.0 ∙ f.1.is) (has_integer name tree n.0 (has_required integer_of name tree n.0 n.1.0));
      low = f.1.low;
      high = f.1.high;
    }

pub natural_has : (name : List ℕ) (tree : Data) (a b k : ℕ) → HasInteger name tree (pos k) → a ≤ k → k ≤ b → required_integer (pos a) (pos b) name tree ≡ Ok (pos k)
natural_has name tree a b k h low high =
    binds (required integer_of name tree) (pos k) (within (pos a) (pos b)) (pos k) (required_has integer_of name tree (pos k) (integer_has name tree (pos k) h))
    (ap (λ t. let r : Checked ℤ = if t then Ok (pos k) else Err Range in r) (and_from (le_z (pos a) (pos k)) (le_z (pos k) (pos b)) (le-leb a k low) (le-leb k b high)))
