-- What was found stays found if readings are put behind those that were there.
use Rattle.std.{proofs.Common.{ℕ, ◌≡◌, ◌-◌, ◌≤◌, ◌++◌, List, All, Option, None, Some, get_or, length, take, drop, ap, sym, subst, ◌∙◌, arith, length-drop}, proofs.lemmas.List.{take-append-le, drop-append-le, length-append}, specs.Prelude.IfSome}
use Rattle.ledger_model.specs.Event.{MeterReading}
use Rattle.message_ahead.{specs.Ahead.{Extends, IsFound, Sends, with_readings}, specs.declared.found_event.FoundEvent.FoundEvent}

-- the readings between two places that were there are the same
same-range : (old more : List MeterReading) (first end : ℕ) → first ≤ end → end ≤ length old → take (end - first) (drop first (old ++ more)) ≡ take (end - first) (drop first old)
same-range old more first end order within =
    ap (take (end - first)) (drop-append-le first old more (omega (arith, order, within)))
    ∙ take-append-le (end - first) (drop first old) more (omega (arith, length-drop first old, order, within))

-- one event stays found
stays-found : (bytes : List ℕ) (old new : List MeterReading) → Extends old new → (f : FoundEvent) → IsFound bytes old f → IsFound bytes new f
stays-found bytes old new extends f found =
    let more = extends.0 in
    let grown = subst (λ rs. IsFound bytes rs f) (sym extends.1) in
    grown (
      found.0,
      found.1,
      (found.2.0, omega (arith, found.2.1, length-append old more)),
      subst (λ own. Sends (take (f.to - f.from) (drop f.from bytes)) f.station (with_readings f own)) (sym (same-range old more f.first f.end found.2.0 found.2.1)) found.3,
    )

-- all events stay found
pub all-stay-found : (bytes : List ℕ) (old new : List MeterReading) → Extends old new → (fs : List FoundEvent) → All (IsFound bytes old) fs → All (IsFound bytes new) fs
all-stay-found bytes old new extends fs all = λ k d below. stays-found bytes old new extends (get_or fs k d) (all k d below)

-- what follows for each value follows for the value that there is
pub if-some : {T : Type 0} {P Q : T → Type 0} (o : Option T) → ((x : T) → P x → Q x) → IfSome o P → IfSome o Q
if-some None implies is = is
if-some (Some x) implies is = implies x is
