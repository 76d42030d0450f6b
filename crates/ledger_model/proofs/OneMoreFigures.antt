-- How figures and energies change with one more live event.
use Rattle.std.{proofs.Common.{◌≡◌, ℕ, ◌+◌, ◌==◌, Bool, true, false, cond, ◌&&◌, List, ◌∷◌, Option, Some, None, is_some, length, map, refl, sym, ap, ◌∙◌, arith}, specs.List.{filter, sum_by, count_by}, specs.FinMap.Entries.{find, put, length-put}, proofs.lemmas.List.{length-append, length-map}}
use Rattle.energy_flow.specs.Flow.{Energy, plus}
use Rattle.ledger_model.{specs.Periods.Periods, specs.declared.reading.Direction.Direction, specs.declared.command.Command.TheVariants.{Deliver, Void, Restore, Erase}, specs.Event.EventContent, specs.Key.{KeyName, key_cmp}, specs.Content.{Entry, Stored, live, transactions_of, has_transaction}, specs.Entries.{IsRising, entries_after, entries_without, entries_marked_at}, specs.declared.order.Order.Order, specs.Energy.{Pair, difference, energy_of_by, pairs, parts_of, parts_over}, specs.Parts.Part, specs.Evse.{evse_of, energy_at_by}, specs.Gaps.{missing, numbers_of}, specs.Complete.{is_complete, starts_and_ends}, specs.Deltas.{IsOneMore, came_by, flow_if, gone_by}, proofs.Keys.key_total, proofs.Cuts.{behind, cut, cut_at, in_front, map_put_old}, proofs.Transactions.transactions_added, proofs.FigureBounds.live_and_voided, proofs.OneMore.{live_else, by_transaction_sums, station_moved, transaction_moved, passed_sum, taken}, proofs.OrderLemmas.evse_sums, proofs.SumLemmas.sum_by-flat_map, specs.DeltaLaws.EnergiesMove, proofs.EnergyLemmas.same_energy, proofs.OneMoreByCommand.{delivered_more, restored_more, voided_less, erased_same}}

-- One event more is live.
pub events_more : (es more front : List Entry) (e : Entry) (back : List Entry) → IsOneMore es more front e back → length (live more) ≡ length (live es) + 1
events_more es more front e back one = omega (arith, ap length one.less_live, ap length one.more_live, length-append front back, length-append front (e ∷ back))

-- One transaction more has a live event, where the event's had none.
pub transactions_more : (es more front : List Entry) (e : Entry) (back : List Entry) → IsOneMore es more front e back
    → length (transactions_of (live more)) ≡ cond (has_transaction e.0.tx (live es)) (length (transactions_of (live es))) (length (transactions_of (live es)) + 1)
transactions_more es more front e back one =
    ap (λ l. length (transactions_of l)) one.more_live ∙ transactions_added front back e
    ∙ ap (λ l. cond (has_transaction e.0.tx l) (length (transactions_of l)) (length (transactions_of l) + 1)) (sym one.less_live)

-- What a transaction's live events count among the complete ones.
abbrev complete_by : List Entry → ℕ
complete_by l = cond (starts_and_ends (map (λ e. e.1.event.kind) l) && (missing (map (λ e. e.0.seq) l) == 0)) 1 0

-- How many are complete changes only by the event's transaction.
pub complete_more : (es more front : List Entry) (e : Entry) (back : List Entry) → IsOneMore es more front e back
    → count_by (λ tx. is_complete tx more) (transactions_of (live more)) + cond (is_complete e.0.tx es) 1 0
    ≡ count_by (λ tx. is_complete tx es) (transactions_of (live es)) + cond (is_complete e.0.tx more) 1 0
complete_more es more front e back one =
    by_transaction_sums (λ u. cond (is_complete u es) 1 0) (λ u. cond (is_complete u more) 1 0) es more front e back one
    (λ u apart. ap complete_by (live_else es more front e back u one apart)) (λ none. ap complete_by none) (λ none. ap complete_by none)

-- So does how many numbers are missing.
pub missing_more : (es more front : List Entry) (e : Entry) (back : List Entry) → IsOneMore es more front e back
    → sum_by (λ tx. missing (numbers_of tx more)) (transactions_of (live more)) + missing (numbers_of e.0.tx es)
    ≡ sum_by (λ tx. missing (numbers_of tx es)) (transactions_of (live es)) + missing (numbers_of e.0.tx more)
missing_more es more front e back one =
    by_transaction_sums (λ u. missing (numbers_of u es)) (λ u. missing (numbers_of u more)) es more front e back one
    (λ u apart. ap (λ l. missing (map (λ (x : Entry). x.0.seq) l)) (live_else es more front e back u one apart))
    (λ none. ap (λ l. missing (map (λ (x : Entry). x.0.seq) l)) none)
    (λ none. ap (λ l. missing (map (λ (x : Entry). x.0.seq) l)) none)

-- A sum over the parts of differences.
part_sums : (d : Direction) (f : Part → ℕ) (period : Periods) (es more front : List Entry) (e : Entry) (back : List Entry) → IsOneMore es more front e back
    → sum_by f (parts_over period (pairs d more)) + sum_by f (parts_over period (gone_by d front e back))
    ≡ sum_by f (parts_over period (pairs d es)) + sum_by f (parts_over period (came_by d front e back))
part_sums d f period es more front e back one =
    let all = station_moved d (λ p. sum_by f (parts_of period p)) es more front e back one in
    let over = sum_by-flat_map f (parts_of period) in
    omega (arith, all, over (pairs d more), over (gone_by d front e back), over (pairs d es), over (came_by d front e back))

-- A sum over those of a period.
quarter_sums : (d : Direction) (f : Part → ℕ) (period : Periods) (q : ℕ) (es more front : List Entry) (e : Entry) (back : List Entry) → IsOneMore es more front e back
    → sum_by f (filter (λ t. t.0 == q) (parts_over period (pairs d more))) + sum_by f (filter (λ t. t.0 == q) (parts_over period (gone_by d front e back)))
    ≡ sum_by f (filter (λ t. t.0 == q) (parts_over period (pairs d es))) + sum_by f (filter (λ t. t.0 == q) (parts_over period (came_by d front e back)))
quarter_sums d f period q es more front e back one =
    let test = λ (t : Part). t.0 == q in
    let all = part_sums d (λ t. taken (test t) (f t)) period es more front e back one in
    let passed = λ (ps : List Pair). passed_sum f test (parts_over period ps) in
    omega (arith, all, passed (pairs d more), passed (gone_by d front e back), passed (pairs d es), passed (came_by d front e back))

if_up : (b : Bool) (flow : Energy) → (flow_if b flow).up ≡ taken b flow.up
if_up true flow = refl
if_up false flow = refl

if_down : (b : Bool) (flow : Energy) → (flow_if b flow).down ≡ taken b flow.down
if_down true flow = refl
if_down false flow = refl

-- The energy of an EVSE: the transaction's is taken from where it was and brought to where it is.
pub energy_at_more : (order : Order) (d : Direction) (evse : ℕ) (es more front : List Entry) (e : Entry) (back : List Entry) → IsOneMore es more front e back
    → plus (energy_at_by order d evse more) (flow_if (evse_of e.0.tx es == evse) (energy_of_by order d e.0.tx es))
    ≡ plus (energy_at_by order d evse es) (flow_if (evse_of e.0.tx more == evse) (energy_of_by order d e.0.tx more))
energy_at_more order d evse es more front e back one =
    let was = evse_of e.0.tx es == evse in let is = evse_of e.0.tx more == evse in
    same_energy (plus (energy_at_by order d evse more) (flow_if was (energy_of_by order d e.0.tx es))) (plus (energy_at_by order d evse es) (flow_if is (energy_of_by order d e.0.tx more)))
    (ap (λ n. (energy_at_by order d evse more).up + n) (if_up was (energy_of_by order d e.0.tx es))
    ∙ evse_sums order d (λ p. (difference p).up) evse es more front e back one
    ∙ ap (λ n. (energy_at_by order d evse es).up + n) (sym (if_up is (energy_of_by order d e.0.tx more))))
    (ap (λ n. (energy_at_by order d evse more).down + n) (if_down was (energy_of_by order d e.0.tx es))
    ∙ evse_sums order d (λ p. (difference p).down) evse es more front e back one
    ∙ ap (λ n. (energy_at_by order d evse es).down + n) (sym (if_down is (energy_of_by order d e.0.tx more))))

-- How energies move.
pub energies_move : (d : Direction) (es more front : List Entry) (e : Entry) (back : List Entry) → IsOneMore es more front e back → EnergiesMove d es more front e back
energies_move d es more front e back one =
    let station = λ (f : Pair → ℕ). station_moved d f es more front e back one in
    let transaction = λ (f : Pair → ℕ). transaction_moved d f es more front e back one in
    record {
      station = same_energy _ _ (station (λ p. (difference p).up)) (station (λ p. (difference p).down));
      transaction = same_energy _ _ (transaction (λ p. (difference p).up)) (transaction (λ p. (difference p).down));
      quarter = λ period q. same_energy _ _ (quarter_sums d (λ t. t.1.up) period q es more front e back one) (quarter_sums d (λ t. t.1.down) period q es more front e back one);
      quarter_pairs = λ period q. part_sums d (λ t. cond (t.0 == q) 1 0) period es more front e back one;
      evse = λ order evse. energy_at_more order d evse es more front e back one;
    }

-- As many events are stored after a mark.
marked_length : (es : List Entry) (key : KeyName) (voided : Bool) (s : Stored) → IsRising es → find key_cmp key es ≡ Some s → length (entries_marked_at es key voided (find key_cmp key es)) ≡ length es
marked_length es key voided s rising there =
    let v : Stored = record { event = s.event; voided = voided } in
    let none : Entry → ℕ = λ e. 0 in
    ap (λ o. length (entries_marked_at es key voided o)) there ∙ sym (length-map (put key_cmp key v es) none)
    ∙ ap length (map_put_old key none v s es rising there refl) ∙ length-map es none

-- One event less is stored after an erasure.
erased_length : (es : List Entry) (key : KeyName) (s : Stored) → IsRising es → find key_cmp key es ≡ Some s → length (entries_without key es) + 1 ≡ length es
erased_length es key s rising there = omega (
  arith,
  ap length (cut key es rising).without,
  ap length (cut_at key s es rising there),
  length-append (in_front key es) (behind key es),
  length-append (in_front key es) ((key, s) ∷ behind key es),
)

-- A delivery of a new key leaves as many events voided.
pub voided_delivered : (es : List Entry) (key : KeyName) (event : EventContent) → IsRising es → find key_cmp key es ≡ None
    → count_by (λ e. e.1.voided) (entries_after es (Deliver key event)) ≡ count_by (λ e. e.1.voided) es
voided_delivered es key event rising absent =
    let long = length-put key_cmp key_total key (record { event = event; voided = false }) es rising ∙ ap (λ (o : Option Stored). cond (is_some o) (length es) (length es + 1)) absent in
    let one = events_more es (entries_after es (Deliver key event)) _ _ _ (delivered_more es key event rising absent) in
    omega (arith, long, one, live_and_voided es, live_and_voided (entries_after es (Deliver key event)))

-- A restoration leaves one event less voided.
pub voided_restored : (es : List Entry) (key : KeyName) (s : Stored) → IsRising es → find key_cmp key es ≡ Some s
    → s.voided ≡ true → count_by (λ e. e.1.voided) (entries_after es (Restore key)) + 1 ≡ count_by (λ e. e.1.voided) es
voided_restored es key s rising there voided =
    let one = events_more es (entries_after es (Restore key)) _ _ _ (restored_more es key s rising there voided) in
    omega (arith, marked_length es key false s rising there, one, live_and_voided es, live_and_voided (entries_after es (Restore key)))

-- A void leaves one event more voided.
pub voided_voided : (es : List Entry) (key : KeyName) (s : Stored) → IsRising es → find key_cmp key es ≡ Some s → s.voided ≡ false
    → count_by (λ e. e.1.voided) (entries_after es (Void key)) ≡ count_by (λ e. e.1.voided) es + 1
voided_voided es key s rising there live_now =
    let one = events_more (entries_after es (Void key)) es _ _ _ (voided_less es key s rising there live_now) in
    omega (arith, marked_length es key true s rising there, one, live_and_voided es, live_and_voided (entries_after es (Void key)))

-- An erasure leaves one event less voided.
pub voided_erased : (es : List Entry) (key : KeyName) (s : Stored) → IsRising es → find key_cmp key es ≡ Some s → s.voided ≡ true
    → count_by (λ e. e.1.voided) (entries_after es (Erase key)) + 1 ≡ count_by (λ e. e.1.voided) es
voided_erased es key s rising there voided =
    let same = ap length (erased_same es key s rising there voided) in
    omega (arith, erased_length es key s rising there, same, live_and_voided es, live_and_voided (entries_after es (Erase key)))
