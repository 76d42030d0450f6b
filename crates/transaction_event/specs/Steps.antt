-- Checks one after another: the first fault is reported.
use Rattle.std.specs.Prelude.{List, [], ◌∷◌, Result, Ok, Err}
use Rattle.transaction_event.specs.declared.fault.PayloadFault.{PayloadFault}

-- What a check gives, or the first fault.
abbrev pub Checked : Type 0 → Type 0
Checked A = Result A PayloadFault

infixl 10 ◌>>=◌
-- One check, and then another on what it gives.
abbrev pub ◌>>=◌ : {A B : Type 0} → Checked A → (A → Checked B) → Checked B
Ok x >>= next = next x
Err fault >>= next = Err fault

-- A function of what a check gives.
abbrev pub checked_map : {A B : Type 0} → (A → B) → Checked A → Checked B
checked_map f (Ok x) = Ok (f x)
checked_map f (Err fault) = Err fault

-- One step for each item in turn, from what the steps before it gave.
unfoldable pub for_each : {A B : Type 0} → (B → A → Checked B) → B → List A → Checked B
for_each step so_far [] = Ok so_far
for_each step so_far (item ∷ items) = step so_far item >>= (λ next. for_each step next items)
