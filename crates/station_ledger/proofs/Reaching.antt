-- What reached events are allowed to be, and what an accepted command reaches.
use Rattle.std.{proofs.Common.{◌≡◌, ℕ, suc, ◌+◌, ◌≤◌, List, [], ◌∷◌, Some, length, refl, sym, ap, subst, ◌∙◌, arith}, specs.FinMap.find}
use Rattle.ledger_model.{specs.declared.answer.Answer.TheVariants.Accepted, specs.declared.command.Command.Command, specs.declared.order.Order.Order, specs.Admissible.IsAdmissible, specs.Content.{Content, Entry, Stored, entries}, specs.Key.{KeyName, key_cmp}, specs.Laws.IsAccepted, specs.Limits.Bounds, specs.Ranges.{most_event_readings, most_events, most_readings, most_transactions}, specs.Step.{Reached, answer, content_after, events_after, step}, proofs.Callers.{AreEntries, AreKept-reached, figures_within, is_counted}, proofs.NumberLemmas.numbers-AreRising}
use Rattle.event_chain.specs.Chains.{Chained, stored}
use Rattle.station_ledger.{specs.declared.sums.Sums.Sums, specs.Kept.{CanDo, IsDone, IsKept, IsReady, content_in}, specs.Numbered.AreNumbered, specs.Sums.{AreAllowed, AreSummed, order_in}, proofs.Numbered.numbered, proofs.Timely.pairs_in_time}
use Rattle.std.specs.FinMap as finite

-- what is under a key has few readings
few_readings_at : (key : KeyName) (s : Stored) (es : List Entry) → AreEntries es → find key_cmp key es ≡ Some s → length s.event.readings ≤ most_event_readings
few_readings_at key s [] h is = cc
few_readings_at key s (e ∷ es) h is = grind (arith, few_readings_at key s es h.1, h.0.event.event.0, is)

module _ (order : Order) (limits : Bounds) (transactions : limits.transactions ≤ most_transactions) (events : limits.events ≤ most_events) (readings : limits.readings ≤ most_readings) where
  -- reached events are allowed
  pub allowed : (n : ℕ) (c : Content) → Reached limits n c → AreAllowed order limits (entries c)
  allowed n c reached =
      let kept = AreKept-reached limits n c reached in
      record {
        figures_within = figures_within order limits n c reached;
        readings_within = kept.readings;
        in_time = λ d. pairs_in_time order d (entries c) kept.in_range;
        in_range = kept.in_range;
        rising = λ tx. numbers-AreRising tx c;
        few_in_each = λ key s found. few_readings_at key s (entries c) kept.in_range found;
        most_transactions_within = transactions;
        most_events_within = events;
        most_readings_within = readings;
      }

-- an accepted command reaches its content
pub reached_next : (limits : Bounds) (c : Content) (n m : ℕ) (command : Command) → c.changes ≡ n → IsAdmissible command
    → Reached limits n c → answer limits c command ≡ Accepted m
    → Reached limits m (record { events = events_after c.events command; changes = m })
reached_next limits c n m command count may reached a =
    let counted : Accepted m ≡ Accepted (c.changes + 1) = sym a ∙ (is_counted limits c command (subst IsAccepted (sym a) tt)).next in
    let same : m ≡ c.changes + 1 = cc in let next : m ≡ suc n = omega (arith, same, count) in
    let after : Content = record { events = events_after c.events command; changes = m } in
    let taken : step limits c command ≡ (after, Accepted (suc n)) = λ i. (content_after c command (a i), (a ∙ ap Accepted next) i) in
    let P : ℕ → Type 0 = λ k. Reached limits k after in
    subst P (sym next) (c, command, (may, reached, taken))

-- What a ledger keeps is allowed, in range and summed.
module _ {limits : Bounds} {chains : Chained} {changes : ℕ} {sums : Sums} (k : IsKept limits chains changes sums) where
  pub kept_allowed : AreAllowed (order_in sums) chains.limits (stored chains)
  kept_allowed = subst (λ b. AreAllowed (order_in sums) b (stored chains)) (sym k.limits_are)
      (allowed (order_in sums) limits k.few_transactions k.few_events k.few_readings changes (content_in chains changes) k.reached)

  pub kept_numbered : AreNumbered (stored chains)
  kept_numbered = numbered (stored chains) (AreKept-reached limits changes (content_in chains changes) k.reached).in_range

  pub kept_summed : AreSummed chains.limits (stored chains) sums
  kept_summed = subst (λ b. AreSummed b (stored chains) sums) (sym k.limits_are) k.summed

  -- and so it is after an accepted command, which may be carried out
  module _ (command : Command) {m : ℕ} (may : IsAdmissible command) (a : answer limits (content_in chains changes) command ≡ Accepted m) where
    pub kept_next : Reached limits m (record { events = events_after chains.events command; changes = m })
    kept_next = reached_next limits (content_in chains changes) changes m command refl may k.reached a

    pub can_do : IsReady chains command → CanDo command chains sums
    can_do ready =
        let then = allowed (order_in sums) limits k.few_transactions k.few_events k.few_readings m (record { events = events_after chains.events command; changes = m }) kept_next in
        let after = subst (λ b. AreAllowed (order_in sums) b (finite.entries (events_after chains.events command))) (sym k.limits_are) then in
        assumption (ready, kept_allowed, after, kept_summed)

    pub kept_after : {new : Chained} {next : Sums} → IsDone command chains new sums next → IsKept limits new m next
    kept_after {new} {next} done =
        let same = done.limits ∙ k.limits_are in let summed = subst (λ b. AreSummed b (stored new) next) same done.summed in
        let reached = subst (Reached limits m) (sym (λ i. record { events = done.events i; changes = m })) kept_next in assumption (same, reached, summed)
