-- What each command leaves for the sums to do.
use Rattle.std.{proofs.Common.{IfSome, ◌≡◌, ℕ, ◌+◌, ◌<◌, ◌≤◌, Bool, true, false, cond, List, Option, Some, None, length, refl, sym, ap, subst, ◌∙◌, arith}, specs.List.count_by, specs.FinMap.find}
use Rattle.std.specs.FinMap as finite
use Rattle.ledger_model.{specs.Entries.{IsRising, entries_after}, specs.declared.command.Command.Command, specs.declared.command.Command.TheVariants.{Deliver, Void, Restore, Erase}, specs.declared.order.Order.Order, specs.declared.order.Order.TheVariants.{Sequence, Moment}, specs.Content.{Entry, Stored, live}, specs.ByDirection.in_direction, specs.declared.by_direction.ByDirection.ByDirection, specs.Deltas.{IsOneMore, before_key, behind_key, most_for}, specs.Event.{EventContent, toward}, specs.declared.reading.Direction.Direction, specs.declared.reading.Direction.TheVariants.{Import, Export}, specs.Key.{KeyName, key_cmp}, specs.Limits.Bounds, specs.Ranges.most_event_readings, specs.Step.{marked, marked_at, events_after}, proofs.Callers.{delivered_more, restored_more, voided_less, erased_same, entries_after_is, voided_delivered, voided_restored, voided_voided, voided_erased}, proofs.LedgerLemmas.inserted_there}
use Rattle.event_chain.{specs.declared.answers.Found.TheVariants.{Live, Voided}, specs.Chains.{Chained, stored}, specs.Room.{found_of, readings_under}, specs.Sides.AreSides, specs.declared.around.Sides.Sides}
use Rattle.station_ledger.{specs.declared.by_moment.ByMoment.ByMoment, specs.declared.pairs.Way.Way, specs.declared.pairs.Way.TheVariants.{Coming, Going}, specs.declared.sums.Sums.Sums, specs.ByMoment.AreByMoment, specs.Kept.{CanDo, voided_in}, specs.Quarters.{HasEvent, readings_at}, specs.Sides.has_some, specs.Spent.{most_at, most_in_runs, most_spent, most_turned, most_under}, specs.Sums.{AreAllowed, AreSummed, AreTurning, order_in}, specs.Runs.by_way}

-- an event that was found
pub record IsFound (o : Option Stored) (voided : Bool) : Type 0 where
  pub event : Stored
  pub is : o ≡ Some event
  pub marked_is : event.voided ≡ voided

pub found : (o : Option Stored) (voided : Bool) → found_of o ≡ Some (cond voided Voided Live) → IsFound o voided
found None voided h = cc
found (Some s) voided h = record { event = s; is = refl; marked_is = grind (arith, h) }

-- Before a command at a key, and after it.
module _ (old new : Chained) (key : KeyName) where
  abbrev es : List Entry
  es = stored old

  up : IsRising es
  up = finite.entries_sorted old.events

  -- how an event is found among the entries
  listed : (o : Option Stored) → finite.get old.events key ≡ o → find key_cmp key es ≡ o
  listed o h = sym (finite.get-entries old.events key) ∙ h

  -- the entries after a command
  entries_then : (command : Command) → new.events ≡ events_after old.events command → stored new ≡ entries_after es command
  entries_then command is = ap finite.entries is ∙ entries_after_is old.events command

  -- what a delivery and a mark leave under the key
  pub delivered_there : (event : EventContent) → new.events ≡ events_after old.events (Deliver key event) → HasEvent key event new
  delivered_there event is = ap (λ m. finite.get m key) is ∙ inserted_there old.events key (record { event = event; voided = false })

  marked_there : (voided : Bool) {was : Bool} → new.events ≡ marked old.events key voided → (f : IsFound (finite.get old.events key) was)
      → finite.get new.events key ≡ Some (record { event = f.event.event; voided = voided })
  marked_there voided is f =
      ap (λ m. finite.get m key) (is ∙ ap (marked_at old.events key voided) f.is) ∙ inserted_there old.events key (record { event = f.event.event; voided = voided })

  module _ (place : ByDirection Sides) (has : Direction → Bool) (sums : Sums) (sides : (d : Direction) → AreSides d (has d) key es (in_direction d place)) (limits : new.limits ≡ old.limits) where
    -- the sums are those of the events before, and the event of the key comes or goes
    turns : {way : Way} {command : Command} (s : Stored) → new.events ≡ events_after old.events command → CanDo command old sums
        → IsOneMore (by_way way es (entries_after es command)) (by_way way (entries_after es command) es) (before_key key es) (key, s) (behind_key key es)
        → finite.get new.events key ≡ Some (record { event = s.event; voided = by_way way false true }) → length s.event.readings ≤ most_event_readings
        → ((d : Direction) → has d ≡ has_some (toward d s.event.readings)) → AreTurning way es new key place sums
    turns {way = way} {command = command} s is can one there few has_is = record {
      allowed = subst (λ l. AreAllowed (order_in sums) l es) (sym limits) can.before;
      turning = record {
        event = s;
        one = subst (λ l. IsOneMore (by_way way es l) (by_way way l es) (before_key key es) (key, s) (behind_key key es)) (sym (entries_then command is)) one;
        there = there;
        sides = λ d. subst (λ b. AreSides d b key es (in_direction d place)) (has_is d) (sides d);
        few = few;
      };
      summed = subst (λ l. AreSummed l es sums) (sym limits) can.summed;
    }

    -- a delivered event comes
    pub delivered : (event : EventContent) → new.events ≡ events_after old.events (Deliver key event) → CanDo (Deliver key event) old sums
        → ((d : Direction) → has d ≡ has_some (toward d event.readings)) → AreTurning Coming es new key place sums
    delivered event is can has_is =
        let there = delivered_there event is in
        turns {way = Coming} {command = Deliver key event} _ is can (delivered_more es key event up (listed None can.ready.0)) there
        (can.after.few_in_each key _ (ap (λ m. find key_cmp key (finite.entries m)) (sym is) ∙ sym (finite.get-entries new.events key) ∙ there)) has_is

    -- a restored event comes
    pub restored : new.events ≡ events_after old.events (Restore key) → CanDo (Restore key) old sums
        → ((d : Direction) → has d ≡ has_some (readings_at d old key)) → AreTurning Coming es new key place sums
    restored is can has_is =
        let f = found (finite.get old.events key) true can.ready in let here = listed (Some f.event) f.is in
        turns {way = Coming} {command = Restore key} _ is can (restored_more es key f.event up here f.marked_is) (marked_there false is f) (can.before.few_in_each key f.event here)
        (λ d. has_is d ∙ ap (λ o. has_some (readings_under d o)) f.is)

    -- a voided event goes
    pub voided : new.events ≡ events_after old.events (Void key) → CanDo (Void key) old sums
        → ((d : Direction) → has d ≡ has_some (readings_at d old key)) → AreTurning Going es new key place sums
    voided is can has_is =
        let f = found (finite.get old.events key) false can.ready in let here = listed (Some f.event) f.is in
        turns {way = Going} {command = Void key} f.event is can (voided_less es key f.event up here f.marked_is) (marked_there true is f) (can.before.few_in_each key f.event here)
        (λ d. has_is d ∙ ap (λ o. has_some (readings_under d o)) f.is)

  -- what each command may cost, by the order
  spent_at : {s : Stored} → finite.get new.events key ≡ Some s → most_at new key ≡ most_under (Some s)
  spent_at there = ap (λ o. most_for (length (readings_under Import o)) + most_for (length (readings_under Export o))) there

  pub delivered_spends : (order : Order) (event : EventContent) → new.events ≡ events_after old.events (Deliver key event)
      → most_turned order Coming new key es ≡ most_spent order old.events (Deliver key event)
  unfolding most_spent
  delivered_spends Sequence event is = spent_at (delivered_there event is)
  delivered_spends Moment event is = ap (λ m. most_in_runs key (finite.entries m)) is

  pub restored_spends : (order : Order) → new.events ≡ events_after old.events (Restore key) → IsFound (finite.get old.events key) true
      → most_turned order Coming new key es ≡ most_spent order old.events (Restore key)
  unfolding most_spent
  restored_spends Sequence is f = spent_at (marked_there false is f) ∙ sym (ap most_under f.is)
  restored_spends Moment is f = ap (λ m. most_in_runs key (finite.entries m)) is

  pub voided_spends : (order : Order) → new.events ≡ events_after old.events (Void key) → IsFound (finite.get old.events key) false
      → most_turned order Going new key es ≡ most_spent order old.events (Void key)
  unfolding most_spent
  voided_spends Sequence is f = spent_at (marked_there true is f) ∙ sym (ap most_under f.is)
  voided_spends Moment is f = refl

  -- the live events are the same after an erasure
  pub erased : new.events ≡ events_after old.events (Erase key) → IsFound (finite.get old.events key) true → live (stored new) ≡ live es
  erased is f = ap live (entries_then (Erase key) is) ∙ erased_same es key f.event up (listed (Some f.event) f.is) f.marked_is

  -- how many are voided, after each command
  counted : (command : Command) → new.events ≡ events_after old.events command → voided_in new ≡ count_by (λ (e : Entry). e.1.voided) (entries_after es command)
  counted command is = ap (count_by (λ (e : Entry). e.1.voided)) (entries_then command is)

  pub delivered_voided : (event : EventContent) → new.events ≡ events_after old.events (Deliver key event) → finite.get old.events key ≡ None → voided_in new ≡ voided_in old
  delivered_voided event is absent = counted (Deliver key event) is ∙ voided_delivered es key event up (listed None absent)

  pub restored_voided : new.events ≡ events_after old.events (Restore key) → IsFound (finite.get old.events key) true → voided_in new + 1 ≡ voided_in old
  restored_voided is f = ap (λ n. n + 1) (counted (Restore key) is) ∙ voided_restored es key f.event up (listed (Some f.event) f.is) f.marked_is

  pub voided_voided_more : new.events ≡ events_after old.events (Void key) → IsFound (finite.get old.events key) false → voided_in new ≡ voided_in old + 1
  voided_voided_more is f = counted (Void key) is ∙ voided_voided es key f.event up (listed (Some f.event) f.is) f.marked_is

  pub erased_voided : new.events ≡ events_after old.events (Erase key) → IsFound (finite.get old.events key) true → voided_in new + 1 ≡ voided_in old
  erased_voided is f = ap (λ n. n + 1) (counted (Erase key) is) ∙ voided_erased es key f.event up (listed (Some f.event) f.is) f.marked_is

-- a voided event is counted
pub some_voided : (old : Chained) (key : KeyName) → IsFound (finite.get old.events key) true → 0 < voided_in old
some_voided old key f = omega (arith, voided_restored (stored old) key f.event (finite.entries_sorted old.events) (listed old old key (Some f.event) f.is) f.marked_is)

-- The sums depend only on the live events, and so do the readings by moment.
timed_same : (limits : Bounds) (es new : List Entry) (b : Option ByMoment) → live new ≡ live es → IfSome b (AreByMoment limits es) → IfSome b (AreByMoment limits new)
timed_same limits es new None same h = tt
timed_same limits es new (Some b) same h = record {
  slots = record { each = λ tx. rw same (h.slots.each tx); number = rw same h.slots.number; room = h.slots.room };
  held = λ d tx row at. rw same (h.held d tx row at);
  spare = h.spare;
  in_order = h.in_order;
  few = rw same h.few;
  room = h.room;
  list_room = h.list_room;
}

pub summed_same : {limits : Bounds} {es : List Entry} (new : List Entry) {sums : Sums} → live new ≡ live es → AreSummed limits es sums → AreSummed limits new sums
summed_same {limits = limits} {es = es} new {sums = sums} same s = record {
  standing = record {
    each = λ tx. rw same (s.standing.each tx);
    rising = s.standing.rising;
    number = rw same s.standing.number;
    room = s.standing.room;
  };
  at_evses = record { all = s.at_evses.all; each = λ n le. rw same (s.at_evses.each n le) };
  by_quarter = record { rows = rw same s.by_quarter.rows; room = s.by_quarter.room };
  energies_are = λ d. rw same (s.energies_are d);
  counts = record {
    events = rw same s.counts.events;
    transactions = rw same s.counts.transactions;
    complete = rw same s.counts.complete;
    missing_are = rw same s.counts.missing_are;
  };
  timed = timed_same limits es new sums.by_moment same s.timed;
}

-- nor on how many are voided
pub summed_voided : {limits : Bounds} {es : List Entry} {sums : Sums} {n : ℕ} → AreSummed limits es sums → AreSummed limits es (record sums { figures = record sums.figures { voided = n } })
summed_voided s = assumption
