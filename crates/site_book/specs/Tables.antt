use Rattle.std.{specs.Prelude.{◌≡◌, ℕ, zero, suc, List, [], ◌∷◌, Option, Some, None, slice_get}, specs.Coded.{Coded, coded_list, coded_option}}
use Rattle.atomic_table.specs.Seated.{TableId, table_id_coded}

-- The table of each site, if no book has taken it yet.
abbrev pub Unopened : Type 0
Unopened = List (Option TableId)

-- Tables are kept as the list of their names.
abbrev pub unopened_code : Coded Unopened
unopened_code = coded_list (coded_option table_id_coded)

-- The site's table is there.
pub record HasTable (tables : Unopened) (site : ℕ) : Type 0 where
  pub table : TableId
  pub there : slice_get tables site ≡ Some (Some table)

-- Each table that is there is the one that this naming gives to its site.
abbrev pub NamedBy : (ℕ → TableId) → Unopened → Type 0
NamedBy naming tables = (site : ℕ) (table : TableId) → slice_get tables site ≡ Some (Some table) → table ≡ naming site

-- The name of no table.
abbrev pub no_table : TableId
no_table = record { words = 0; slots = 0; views_name = 0; atom = 0; block = 0; offset = 0; slot_names = [] }

-- The naming of tables that were just made: the names in the list.
abbrev pub names_of : Unopened → ℕ → TableId
names_of [] site = no_table
names_of (Some z ∷ tables) zero = z
names_of (None ∷ tables) zero = no_table
names_of (t ∷ tables) (suc site) = names_of tables site
