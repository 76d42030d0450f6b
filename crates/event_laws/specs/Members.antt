-- How JSON objects have members, whatever their order. A member that is null is absent.
use Rattle.std.{specs.Prelude.{◌≡◌, ◌⊎◌, ◌++◌, ℕ, List, [], ◌∷◌, true, Option, None, Some, ℤ, pos, neg_ℤ}, specs.Str.Parse.{IsNumeral, digits_value}}
use Rattle.serde_json.specs.Data.{Data}
use Rattle.marked_json.specs.Reading.{field_of, is_object, number_of}

-- The object has no member of this name.
abbrev pub Lacks : List ℕ → Data → Type 0
Lacks name tree = field_of name tree ≡ None

-- The object has a member of this name, and what `read` reads of it is this value.
pub record Has {A : Type 0} (read : Data → Option A) (name : List ℕ) (tree : Data) (value : A) : Type 0 where
  pub member : Data
  pub there : field_of name tree ≡ Some member
  pub is : read member ≡ Some value

-- The same of a member that may be absent.
abbrev pub MayHave : {A : Type 0} → (Data → Option A) → List ℕ → Data → Option A → Type 0
MayHave read name tree None = Lacks name tree
MayHave read name tree (Some value) = Has read name tree value

-- The object has a member of this name that is this object.
pub record HasObject (name : List ℕ) (tree member : Data) : Type 0 where
  pub there : field_of name tree ≡ Some member
  pub is : is_object member ≡ true

-- An integer as JSON writes it: digits, perhaps behind a `-`.
pub record IsInteger (token : List ℕ) (n : ℤ) : Type 0 where
  pub minus : List ℕ
  pub digits : List ℕ
  pub is : token ≡ minus ++ digits
  pub numeral : IsNumeral 10 digits
  pub value : ((minus ≡ []) × (n ≡ pos (digits_value 10 digits))) ⊎ ((minus ≡ 45 ∷ []) × (n ≡ neg_ℤ (pos (digits_value 10 digits))))

-- The object has a member of this name that is this integer.
pub record HasInteger (name : List ℕ) (tree : Data) (n : ℤ) : Type 0 where
  pub token : List ℕ
  pub there : Has number_of name tree token
  pub is : IsInteger token n
