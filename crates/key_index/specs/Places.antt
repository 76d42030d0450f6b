-- Places in an index: where a key cuts it.
use Rattle.std.specs.Prelude.{◌≡◌, ℕ, suc, ◌<◌, ◌≤◌, List, [], ◌++◌, Some, length, take, drop, get_or}
use Rattle.key_index.{specs.declared.place.KeyPlace.KeyPlace, specs.Entries.{Entry, below, from, first_of, last_of}, specs.Leaves.all_of}

module _ {V : Type 0} where
  -- The entries in front of a place.
  abbrev pub in_front : ℕ → ℕ → List (List (Entry V)) → List (Entry V)
  in_front at i leaves = all_of (take at leaves) ++ take i (get_or leaves at [])

  -- The entries from a place on.
  abbrev pub on_from : ℕ → ℕ → List (List (Entry V)) → List (Entry V)
  on_from at i leaves = drop i (get_or leaves at []) ++ all_of (drop (suc at) leaves)

  -- The key belongs at this place: all smaller keys, and no other, are in front of it.
  pub record IsPlace (key : ℕ) (leaves : List (List (Entry V))) (place : KeyPlace) : Type 0 where
    pub leaf : place.leaf < length leaves
    pub entry : place.entry ≤ length (get_or leaves place.leaf [])
    pub front : in_front place.leaf place.entry leaves ≡ below key (all_of leaves)
    pub back : on_from place.leaf place.entry leaves ≡ from key (all_of leaves)

  -- The last entry of one list is before the key, and the first of another isn't.
  abbrev pub IsCutAt : ℕ → List (Entry V) → List (Entry V) → Type 0
  IsCutAt key xs ys = ((e : Entry V) → last_of xs ≡ Some e → e.0 < key) × ((e : Entry V) → first_of ys ≡ Some e → key ≤ e.0)
