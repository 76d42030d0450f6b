-- A transaction with another standing, in all sums.
use Rattle.std.{proofs.Common.{◌≡◌, ℕ, ◌+◌, ◌-◌, ◌<◌, ◌≤◌, false, cond, List, Option, Some, None, is_some, length, sym, ap, subst, ◌∙◌, arith}, specs.Str.bytes_eq, specs.FinMap.find, specs.Ordering.eq_by_cmp, proofs.lemmas.Slice.Eq.bytes_eq-Decides, specs.Cmp.eq_by_cmp_equiv}
use Rattle.energy_flow.specs.Flow.{Energy, plus, minus, CanPlus, CanMinus}
use Rattle.ledger_model.{proofs.EnergyLemmas.same_energy, specs.declared.figures.Figures.Figures, specs.ByDirection.in_direction, specs.Content.{Entry, live, transactions_of}, specs.Energy.energy_of_by, specs.Evse.{energy_at_by, transactions_at}, specs.declared.order.Order.Order, specs.declared.reading.Direction.Direction, specs.declared.reading.Direction.TheVariants.{Import, Export}, specs.Limits.Bounds, specs.Ranges.greatest_evse}
use Rattle.transaction_map.{specs.Map.{Mapped, AreRising, id_cmp}, proofs.Rising.{equal_ids, id_total}, proofs.Found.{found_put, found_out, rising_put, rising_out, length_put, length_out}}
use Rattle.station_ledger.{specs.declared.standing.Standing.Standing, specs.declared.totals.EvseSum.EvseSum, specs.Standing.kept_of, specs.Moved.{one_in, flows_in, one_at, flows_at, IsMoved, sum_at, with_one, without_one, with_figures, without_figures, HasRoomAt, CountsAt, HaveRoom, DoCount}, specs.Sums.{AreStanding, AreEvseSums, AreCounts, AreAllowed, keep}, proofs.Moved.{live_kept, missing_kept, flow_in_kept, kept_same, at_most_one, flow_at_le}, proofs.Bounded.{at_evse_le, evse_le, few_energy, few_station, live_le, own_missing_le, own_within}}

-- what is found where a transaction's row was written or taken out
found_keep : (u tx : List ℕ) (o : Option Standing) (rows : List (List ℕ × Standing)) → find id_cmp u (keep tx o rows) ≡ cond (eq_by_cmp id_cmp u tx) o (find id_cmp u rows)
found_keep u tx None rows = found_out u tx rows
found_keep u tx (Some s) rows = found_put u tx s rows

-- ids that do not tie are different
apart_ids : (u tx : List ℕ) → eq_by_cmp id_cmp u tx ≡ false → bytes_eq u tx ≡ false
apart_ids u tx e = grind (arith, e, bytes_eq-Decides u tx, (eq_by_cmp_equiv id_total).refl tx)

module _ (order : Order) (limits : Bounds) (tx : List ℕ) (es new : List Entry) (moved : IsMoved order tx es new)
    (before : AreAllowed order limits es) (after : AreAllowed order limits new) (was is : Option Standing)
    (is_is : is ≡ kept_of order tx new) where
  module _ (kept : Mapped Standing) (standing : AreStanding order limits es kept) where
    pub place : find id_cmp tx kept.rows ≡ None → (is ≡ None → ⊥) → length kept.rows < kept.capacity
    place none some =
        let gone : one_in (kept_of order tx es) ≡ 0 = ap one_in (sym (standing.each tx) ∙ none) in
        let here : one_in (kept_of order tx new) ≡ 1 = ap one_in (sym is_is) ∙ grind (arith, some) in
        omega (arith, standing.number, standing.room, moved.transactions, gone, here, after.figures_within.transactions)

    pub stands : (next : Mapped Standing) → next.rows ≡ keep tx is kept.rows → next.capacity ≡ kept.capacity → AreStanding order limits new next
    stands next rows same = record {
      each = λ u. ap (find id_cmp u) rows ∙ found_keep u tx is kept.rows
          ∙ grind (arith, is_is, standing.each u, kept_same order u es new, moved.others u, apart_ids u tx, equal_ids u tx);
      rising = subst (λ rs. AreRising rs) (sym rows) (rises is);
      number = ap length rows ∙ counted is is_is;
      room = same ∙ standing.room;
    } where
      rises : (o : Option Standing) → AreRising (keep tx o kept.rows)
      rises None = rising_out tx kept.rows standing.rising
      rises (Some s) = rising_put tx s kept.rows standing.rising

      was_one : one_in (kept_of order tx es) ≡ cond (is_some (find id_cmp tx kept.rows)) 1 0
      was_one = ap one_in (sym (standing.each tx)) ∙ grind arith

      counted : (o : Option Standing) → o ≡ kept_of order tx new → length (keep tx o kept.rows) ≡ length (transactions_of (live new))
      counted None now = omega (arith, length_out tx kept.rows standing.rising, standing.number, moved.transactions, was_one, ap one_in now)
      counted (Some s) now = grind (arith, length_put tx s kept.rows standing.rising, standing.number, moved.transactions, was_one, ap one_in now)

  module _ (was_at : was ≡ kept_of order tx es) where
    flow_is : (d : Direction) → in_direction d (flows_in is) ≡ energy_of_by order d tx new
    flow_is d = ap (λ o. in_direction d (flows_in o)) is_is ∙ flow_in_kept order d tx new

    module _ (evses : List EvseSum) (sums : AreEvseSums order es evses) where
      room_for : (d : Direction) (n : ℕ) → CanPlus (energy_at_by order d n es) (in_direction d (flows_at n is))
      room_for d n =
          let here = evse_le order d n es in let all = few_station order d limits es before in let at = flow_at_le d n is in
          let own = own_within order d tx new in let then = few_energy order d limits new after in
          omega (arith, here, all, at, ap (λ (e : Energy). e.up) (flow_is d), ap (λ (e : Energy). e.down) (flow_is d), own, then, before.most_readings_within)

      pub room_at : (n : ℕ) → n ≤ greatest_evse → HasRoomAt n is (sum_at evses n)
      room_at n le = subst (HasRoomAt n is) (sym (sums.each n le)) (record {
        number = omega (arith, at_evse_le n es, before.figures_within.transactions, before.most_transactions_within, (at_most_one n is).2);
        energy = record { import = room_for Import n; export = room_for Export n };
      })

      -- what it was and what it is, at an EVSE
      ones : (n : ℕ) → length (transactions_at n new) + one_at n was ≡ length (transactions_at n es) + one_at n is
      ones n = ap (λ o. length (transactions_at n new) + one_at n o) was_at ∙ moved.at_evse n ∙ ap (λ o. length (transactions_at n es) + one_at n o) (sym is_is)

      flows : (d : Direction) (n : ℕ) → plus (energy_at_by order d n new) (in_direction d (flows_at n was)) ≡ plus (energy_at_by order d n es) (in_direction d (flows_at n is))
      flows d n = ap (λ o. plus (energy_at_by order d n new) (in_direction d (flows_at n o))) was_at ∙ moved.flow_at_evse d n
          ∙ ap (λ o. plus (energy_at_by order d n es) (in_direction d (flows_at n o))) (sym is_is)

      holds_for : (d : Direction) (n : ℕ) → CanMinus (plus (energy_at_by order d n es) (in_direction d (flows_at n is))) (in_direction d (flows_at n was))
      holds_for d n = record { up = omega (arith, ap (λ (e : Energy). e.up) (flows d n)); down = omega (arith, ap (λ (e : Energy). e.down) (flows d n)) }

      pub counts_at : (n : ℕ) → n ≤ greatest_evse → CountsAt n was (with_one n is (sum_at evses n))
      counts_at n le = subst (λ s. CountsAt n was (with_one n is s)) (sym (sums.each n le)) (record {
        number = omega (arith, ones n);
        energy = record { import = holds_for Import n; export = holds_for Export n };
      })

      left_at : (d : Direction) (n : ℕ) → minus (plus (energy_at_by order d n es) (in_direction d (flows_at n is))) (in_direction d (flows_at n was)) ≡ energy_at_by order d n new
      left_at d n = same_energy _ _ (omega (arith, ap (λ (e : Energy). e.up) (flows d n))) (omega (arith, ap (λ (e : Energy). e.down) (flows d n)))

      pub sums_stand : (next : List EvseSum) → length next ≡ greatest_evse + 1 → ((n : ℕ) → sum_at next n ≡ without_one n was (with_one n is (sum_at evses n))) → AreEvseSums order new next
      sums_stand next all each = record {
        all = all;
        each = λ n le.
            let one : (length (transactions_at n es) + one_at n is) - one_at n was ≡ length (transactions_at n new) = omega (arith, ones n) in
            each n ∙ ap (λ s. without_one n was (with_one n is s)) (sums.each n le)
            ∙ (λ i. record { transactions = one i; energy = record { import = left_at Import n i; export = left_at Export n i } });
      }

    module _ (f : Figures) (counts : AreCounts es f) where
      pub have_room : HaveRoom is f
      have_room = grind (arith, live_kept order tx new, live_le tx new, at_most_one 0 is, missing_kept order tx new, own_missing_le tx new)

      pub do_count : DoCount was (with_figures is f)
      do_count = grind arith

      pub counts_stand : (next : Figures) → next ≡ without_figures was (with_figures is f) → AreCounts new next
      counts_stand next same = grind arith
