-- An index in leaves, each a run of entries.
use Rattle.std.{specs.Prelude.{◌≡◌, ℕ, suc, ◌+◌, ◌/◌, ◌<◌, ◌≤◌, List, [], ◌∷◌, ◌++◌, length, take, drop, get_or, nat_le, if◌then◌else◌}, specs.Vec.{vec_len, vec_capacity}, specs.declared.vec.Vec.Vec}
use Rattle.key_index.specs.Entries.{Entry, AreAbove, AreBelow, AreRising}

-- Each of two vectors has room for the elements of both.
abbrev pub HaveRoom : {X Z : Type 0} → Vec X Z → Vec X Z → Type 0
HaveRoom v w = (vec_len v + vec_len w ≤ vec_capacity v) × (vec_len v + vec_len w ≤ vec_capacity w)

module _ {V : Type 0} where
  -- All entries, leaf by leaf.
  abbrev pub all_of : List (List (Entry V)) → List (Entry V)
  all_of [] = []
  all_of (leaf ∷ leaves) = leaf ++ all_of leaves

  -- No leaf is empty.
  abbrev pub AreFilled : List (List (Entry V)) → Type 0
  AreFilled [] = Unit {0}
  AreFilled (leaf ∷ leaves) = (0 < length leaf) × AreFilled leaves

  -- Each leaf is empty.
  abbrev pub AreEmpty : List (List (Entry V)) → Type 0
  AreEmpty [] = Unit {0}
  AreEmpty (leaf ∷ leaves) = (leaf ≡ []) × AreEmpty leaves

  -- The key of a leaf's first entry.
  abbrev pub first_key : List (Entry V) → ℕ
  first_key [] = 0
  first_key (e ∷ es) = e.0

  -- How many leaves in front begin at the key or before it.
  abbrev pub begun : ℕ → List (List (Entry V)) → ℕ
  begun key [] = 0
  begun key (leaf ∷ leaves) = if nat_le (first_key leaf) key then suc (begun key leaves) else 0

  -- The key is in this leaf, or belongs there: smaller keys are in front of the leaf, greater ones behind it.
  pub record Belongs (key : ℕ) (leaves : List (List (Entry V))) (at : ℕ) : Type 0 where
    pub within : at < length leaves
    pub front : AreBelow key (all_of (take at leaves))
    pub back : AreAbove key (all_of (drop (suc at) leaves))

  -- No two leaves side by side fit one.
  abbrev pub NoneFit : List (List (Entry V)) → Type 0
  NoneFit [] = Unit {0}
  NoneFit (leaf ∷ []) = Unit {0}
  NoneFit (leaf ∷ next ∷ leaves) = (128 < length leaf + length next) × NoneFit (next ∷ leaves)

  -- Leaves in use and leaves to spare: the first hold rising entries, the others none.
  pub record IsKept (leaves spare : List (List (Entry V))) : Type 0 where
    pub filled : AreFilled leaves
    pub rising : AreRising (all_of leaves)
    pub empty : AreEmpty spare

  -- Leaves with the entries of the old ones, and with room in the leaf where a key belongs; the other leaves are
  -- filled.
  pub record IsReady (old leaves : List (List (Entry V))) (key at : ℕ) : Type 0 where
    pub same : all_of leaves ≡ all_of old
    pub belongs : Belongs key leaves at
    pub room : length (get_or leaves at []) < 128
    pub front : AreFilled (take at leaves)
    pub back : AreFilled (drop (suc at) leaves)

  -- What an index keeps: its leaves, used and spare ones as many as its capacity needs, and the count of
  -- its entries.
  pub record IsIndex {Z : Type 0} (leaves spare : Vec (List (Entry V)) Z) (len capacity : ℕ) : Type 0 where
    pub kept : IsKept leaves.items spare.items
    pub room : HaveRoom leaves spare
    pub total : length leaves.items + length spare.items ≡ capacity / 64 + 2
    pub count : len ≡ length (all_of leaves.items)
    pub few : len ≤ capacity
