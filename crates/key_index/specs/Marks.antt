-- The marks of entries, and how many entries have each.
use Rattle.std.{specs.Prelude.{◌≡◌, ℕ, zero, suc, Bool, if◌then◌else◌, List, [], ◌∷◌, length}, specs.List.filter}
use Rattle.key_index.{specs.declared.filed.Mark.Mark, specs.declared.filed.Mark.TheVariants.{Live, Imports, Exports, Names}, specs.declared.filed.Marks.Marks, specs.declared.counts.Counts.Counts, specs.Entries.Entry}

-- The mark is set.
abbrev pub has_mark : Mark → Marks → Bool
has_mark Live m = m.live
has_mark Imports m = m.imports
has_mark Exports m = m.exports
has_mark Names m = m.names

-- Counts a mark that is set.
abbrev pub weigh : Bool → ℕ
weigh b = if b then 1 else 0

-- How many have the mark.
abbrev pub count_of : Mark → Counts → ℕ
count_of Live c = c.live
count_of Imports c = c.imports
count_of Exports c = c.exports
count_of Names c = c.names

module _ {V : Type 0} where
  -- The entries that have the mark, in order.
  abbrev pub marked : Mark → List (Entry V) → List (Entry V)
  marked mark es = filter (λ e. has_mark mark e.1.marks) es

  -- So many entries have each mark.
  abbrev pub AreCounts : Counts → List (Entry V) → Type 0
  AreCounts counts es = (m : Mark) → count_of m counts ≡ length (marked m es)

  -- The entry, with these marks.
  abbrev pub with_marks : Marks → Entry V → Entry V
  with_marks marks e = (e.0, record { value = e.1.value; marks = marks })

  -- The entries, with these marks at a place.
  abbrev pub mark_at : Marks → ℕ → List (Entry V) → List (Entry V)
  mark_at marks i [] = []
  mark_at marks zero (e ∷ es) = with_marks marks e ∷ es
  mark_at marks (suc i) (e ∷ es) = e ∷ mark_at marks i es
