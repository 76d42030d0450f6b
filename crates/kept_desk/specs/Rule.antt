use Rattle.std.specs.Prelude.{◌≡◌, ℕ, ◌<◌, true, false, List, [], ◌++◌}
use mathlib.Core.Option.{some}
use lib.ListN.{get_elem?}
use Rattle.atomic_table.specs.Table.{State, Step, Me}
use Rattle.kept_desk.{specs.declared.entry.Entry.Entry, specs.declared.table.View.View, specs.Entries.of_station}
use Rattle.site_book.specs.Prefix.{IsPrefix}

-- What a seat knows is true. The journal's seat, the first, knows all entries; each station has at
-- most one share, which knows just that station's entries; a receipt knows the first entries.
pub record Fits (log : List Entry) (made : ℕ) (claimant : ℕ → ℕ) (by : ℕ) (v : View) : Type 0 where
  pub journal : v.is_journal ≡ true → (by ≡ 0) × (v.log ≡ log) × (v.made ≡ made)
  pub share : v.is_share ≡ true → (v.station < made) × (by ≡ claimant v.station) × (v.mine ≡ of_station v.station log)
  pub receipt : v.is_receipt ≡ true → IsPrefix v.seen log

-- The rule: there is one list of entries that all views fit, and each station's share is at one seat.
pub record Kept (views : List View) : Type 0 where
  pub log : List Entry
  pub made : ℕ
  pub claimant : ℕ → ℕ
  pub seats : (by : ℕ) (v : View) → get_elem? views by ≡ some v → Fits log made claimant by v

-- What is true of a journal's table between any two steps.
abbrev pub Tied : State (Unit {0}) View → Type 0
Tied s = Kept s.views

-- The journal's seat: all entries, and a number above those of all stations with a share.
abbrev pub keeping : List Entry → ℕ → View
keeping log made = record { is_journal = true; log = log; made = made; is_share = false; station = 0; mine = []; is_receipt = false; seen = [] }

-- A share's seat: its station, and that station's entries.
abbrev pub holding : ℕ → List Entry → View
holding station mine = record { is_journal = false; log = []; made = 0; is_share = true; station = station; mine = mine; is_receipt = false; seen = [] }

-- The journal's seat while it has taken in a share's.
abbrev pub joined : List Entry → ℕ → ℕ → List Entry → View
joined log made station mine = record { is_journal = true; log = log; made = made; is_share = true; station = station; mine = mine; is_receipt = false; seen = [] }

-- A seat without knowledge.
abbrev pub nobody : View
nobody = record { is_journal = false; log = []; made = 0; is_share = false; station = 0; mine = []; is_receipt = false; seen = [] }

-- A receipt's seat: the entries up to the one that it was given for.
abbrev pub knowing : List Entry → View
knowing seen = record { is_journal = false; log = []; made = 0; is_share = false; station = 0; mine = []; is_receipt = true; seen = seen }

-- The journal's seat while it has taken in a receipt's.
abbrev pub reading : List Entry → ℕ → List Entry → View
reading log made seen = record { is_journal = true; log = log; made = made; is_share = false; station = 0; mine = []; is_receipt = true; seen = seen }

-- A step on a table that has no slots.
abbrev At : Type 0
At = Step (Unit {0})

-- What a seat knows, and the slots that it holds: none.
abbrev Sat : Type 0
Sat = Me (Unit {0}) View

-- The journal and the share learn these entries, in one step.
abbrev pub Added : List Entry → At → Sat → ℕ → Sat → Type 0
Added es step v n w = w ≡ (joined (v.0.log ++ es) v.0.made v.0.station (v.0.mine ++ es), v.1)

-- The share now knows that its entries are just those of its station.
abbrev pub Compared : At → Sat → ℕ → Sat → Type 0
Compared step v n w = (w ≡ v) × (v.0.mine ≡ of_station v.0.station v.0.log)

-- The receipt now knows that its entries are the first of the journal's.
abbrev pub Confirmed : At → Sat → ℕ → Sat → Type 0
Confirmed step v n w = (w ≡ v) × IsPrefix v.0.seen v.0.log
