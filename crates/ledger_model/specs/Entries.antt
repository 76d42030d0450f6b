use Rattle.std.{specs.Prelude.{T, Bool, true, false, not, List, Option, None, Some}, specs.List.filter, specs.Ordering.eq_by_cmp, specs.FinMap.{is_sorted, find, put}}
use Rattle.ledger_model.{specs.declared.command.Command.Command, specs.declared.command.Command.TheVariants.{Deliver, Void, Restore, Erase}, specs.Key.{KeyName, key_cmp}, specs.Content.{Entry, Stored}}

-- The keys of entries rise strictly.
abbrev pub IsRising : List Entry → Type 0
IsRising es = T (is_sorted key_cmp es)

-- The entries with the event under this key marked as voided or not; the event was looked up
-- before.
abbrev pub entries_marked_at : List Entry → KeyName → Bool → Option Stored → List Entry
entries_marked_at es key voided None = es
entries_marked_at es key voided (Some stored) = put key_cmp key (record { event = stored.event; voided = voided }) es

-- The entries with the event under this key marked as voided or not.
abbrev pub entries_marked : List Entry → KeyName → Bool → List Entry
entries_marked es key voided = entries_marked_at es key voided (find key_cmp key es)

-- The entries without the one of this key.
abbrev pub entries_without : KeyName → List Entry → List Entry
entries_without key es = filter (λ e. not (eq_by_cmp key_cmp key e.0)) es

-- The entries after an accepted command.
abbrev pub entries_after : List Entry → Command → List Entry
entries_after es (Deliver key event) = put key_cmp key (record { event = event; voided = false }) es
entries_after es (Void key) = entries_marked es key true
entries_after es (Restore key) = entries_marked es key false
entries_after es (Erase key) = entries_without key es
