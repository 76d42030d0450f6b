-- All sums after the pairs of one event came or went.
use Rattle.std.{proofs.Common.{◌≡◌, ℕ, List, Option, IfSome, sym, ap, subst, ◌∙◌, arith}, specs.FinMap.find}
use Rattle.energy_flow.specs.Flow.{Energy, plus}
use Rattle.ledger_model.{specs.ByDirection.{in_direction, in_each, plus_flows, minus_flows}, proofs.Directions.each_is, specs.declared.by_direction.ByDirection.ByDirection, specs.declared.reading.Direction.Direction, specs.declared.reading.Direction.TheVariants.{Import, Export}, specs.Content.Entry, specs.Energy.{energy_by, energy_of_by, flows_of_by}, specs.Key.KeyName, specs.Limits.Bounds}
use Rattle.event_chain.{specs.Chains.{Chained, stored}, specs.declared.around.Sides.Sides}
use Rattle.transaction_map.specs.Map.{id_cmp}
use Rattle.station_ledger.{specs.declared.pairs.Way.Way, specs.declared.standing.Standing.Standing, specs.declared.sums.Sums.Sums, specs.ByMoment.AreByMoment, specs.Moved.{CanExchange, IsExchanged, IsMoved, flows_in}, specs.Standing.{kept_of, kept_with}, specs.Sums.{AreAllowed, AreCounts, AreEvseSums, ArePairsMoved, AreQuarterRows, AreStanding, AreSummed, AreTurning, CanReplace, IsReplaced, order_in, order_of}, proofs.Bounded.{own_within, IsWithin}, proofs.Changes.turned_moved, proofs.Moved.flow_in_kept, proofs.Stands.{place, stands, room_at, counts_at, sums_stand, have_room, do_count, counts_stand}, proofs.Trades.exchanged_once}

-- The sums of events, in either order, and what they occur once the pairs of one event were moved, which comes or
-- goes.
pub record AreTurned (limits : Bounds) (tx : List ℕ) (es new : List Entry) (sums mid : Sums) (less more : ByDirection Energy) : Type 0 where
  pub moved : IsMoved (order_in sums) tx es new
  pub before : AreAllowed (order_in sums) limits es
  pub after : AreAllowed (order_in sums) limits new
  pub summed : AreSummed limits es sums
  pub energies : IsExchanged (order_in sums) tx es new less more
  pub pairs : ArePairsMoved sums mid

module _ {tx : List ℕ} {es : List Entry} {chains : Chained} {key : KeyName} {place : ByDirection Sides} {sums mid : Sums}
    {less more : ByDirection Energy} (tx_is : tx ≡ key.tx) (after : AreAllowed (order_in sums) chains.limits (stored chains))
    (energies : IsExchanged (order_in sums) key.tx es (stored chains) less more) (pairs : ArePairsMoved sums mid) where
  pub turned : {way : Way} → AreTurning way es chains key place sums → AreTurned chains.limits tx es (stored chains) sums mid less more
  turned {way = way} h =
      let moved = turned_moved tx_is (order_in sums) way h.turning in
      let own = subst (λ t. IsExchanged (order_in sums) t es (stored chains) less more) (sym tx_is) energies in assumption (moved, own)

module _ {limits : Bounds} {tx : List ℕ} {es new : List Entry} {sums mid : Sums} {less more : ByDirection Energy} (x : AreTurned limits tx es new sums mid less more) where
  -- what the pairs move of energies of which no more than the station's are in a direction
  exchange : {energies : ByDirection Energy} (was now : Direction → Energy) → ((d : Direction) → in_direction d energies ≡ was d)
      → ((d : Direction) → IsWithin (was d) (energy_by (order_in sums) d es))
      → ((d : Direction) → plus (now d) (in_direction d less) ≡ plus (was d) (in_direction d more)) → CanExchange energies less more × (minus_flows (plus_flows energies more) less ≡ in_each now)
  exchange was now is most moved =
      let all = λ (d : Direction).
      exchanged_once (order_in sums) d limits es x.before (now d) (in_direction d less) (in_direction d more) (is d) (most d) (moved d) (x.energies.up_few d) (x.energies.down_few d) in
      let imported = all Import in let exported = all Export in (
        record { room = record { import = imported.0.0; export = exported.0.0 }; holds = record { import = imported.0.1; export = exported.0.1 } },
        λ i. record { import = imported.1 i; export = exported.1 i },
      )

  -- the station's energies
  pub all_may : CanExchange mid.energies less more × (minus_flows (plus_flows mid.energies more) less ≡ in_each (λ d. energy_by (order_in sums) d new))
  all_may = exchange (λ d. energy_by (order_in sums) d es) (λ d. energy_by (order_in sums) d new) (λ d. ap (in_direction d) x.pairs.energies ∙ x.summed.energies_are d)
      (λ d. record { up = omega arith; down = omega arith }) x.energies.station

  -- the transaction's
  module _ {was : Option Standing} (was_is : was ≡ find id_cmp tx sums.kept.rows) {own : ByDirection Energy} (own_is : own ≡ flows_in was) where
    pub own_may : CanExchange own less more × (minus_flows (plus_flows own more) less ≡ flows_of_by (order_in sums) tx new)
    own_may = exchange (λ d. energy_of_by (order_in sums) d tx es) (λ d. energy_of_by (order_in sums) d tx new)
        (λ d. ap (in_direction d) own_is ∙ ap (λ o. in_direction d (flows_in o)) (was_is ∙ x.summed.standing.each tx) ∙ flow_in_kept (order_in sums) d tx es)
        (λ d. own_within (order_in sums) d tx es) x.energies.own

    -- what is kept of it, in all sums
    module _ {left : ByDirection Energy} (left_is : left ≡ minus_flows (plus_flows own more) less) {is : Option Standing} (is_with : is ≡ kept_with left tx new) where
      is_kept : is ≡ kept_of (order_in sums) tx new
      is_kept = is_with ∙ ap (λ e. kept_with e tx new) (left_is ∙ own_may.1)

      was_at : was ≡ kept_of (order_in sums) tx es
      was_at = was_is ∙ x.summed.standing.each tx

      kept_stands : AreStanding (order_in sums) limits es mid.kept
      kept_stands = subst (AreStanding (order_in sums) limits es) (sym x.pairs.kept) x.summed.standing

      evses_stand : AreEvseSums (order_in sums) es mid.evses.items
      evses_stand = let same = sym x.pairs.evses in subst (AreEvseSums (order_in sums) es) (λ i. (same i).items) x.summed.at_evses

      counts_were : AreCounts es mid.figures
      counts_were = subst (AreCounts es) (sym x.pairs.figures) x.summed.counts

      pub can_replace : {energies : ByDirection Energy} → CanReplace tx (record { was = was; is = is }) (record mid { energies = energies })
      can_replace = record {
        place = place (order_in sums) limits tx es new x.moved x.before x.after was is is_kept mid.kept kept_stands;
        all = evses_stand.all;
        room_at = room_at (order_in sums) limits tx es new x.moved x.before x.after was is is_kept was_at mid.evses.items evses_stand;
        counts_at = counts_at (order_in sums) limits tx es new x.moved x.before x.after was is is_kept was_at mid.evses.items evses_stand;
        room = have_room (order_in sums) limits tx es new x.moved x.before x.after was is is_kept was_at mid.figures counts_were;
        counts = do_count (order_in sums) limits tx es new x.moved x.before x.after was is is_kept was_at mid.figures counts_were;
      }

      pub replaced : {energies : ByDirection Energy} {next : Sums} → AreQuarterRows (order_in sums) limits new sums.period mid.quarters → IfSome mid.by_moment (AreByMoment limits new)
          → energies ≡ minus_flows (plus_flows mid.energies more) less
          → IsReplaced tx (record { was = was; is = is }) (record mid { energies = energies }) next → AreSummed limits new next
      replaced {next = next} rows timed all r =
          let same = sym (ap order_of r.by_moment ∙ x.pairs.order) in
          record {
            standing = subst (λ o. AreStanding o limits new next.kept) same
                (stands (order_in sums) limits tx es new x.moved x.before x.after was is is_kept mid.kept kept_stands next.kept r.kept r.room);
            at_evses = subst (λ o. AreEvseSums o new next.evses.items) same
                (sums_stand (order_in sums) limits tx es new x.moved x.before x.after was is is_kept was_at mid.evses.items evses_stand next.evses.items r.all r.evses);
            by_quarter = subst (λ o. AreQuarterRows o limits new next.period next.quarters) same
                (subst (λ p. AreQuarterRows (order_in sums) limits new p next.quarters) (sym (r.period ∙ x.pairs.period))
                (subst (AreQuarterRows (order_in sums) limits new sums.period) (sym r.quarters) rows));
            energies_are = λ d. ap (in_direction d) (r.energies ∙ all ∙ all_may.1) ∙ each_is (λ k. energy_by (order_in sums) k new) d ∙ ap (λ o. energy_by o d new) same;
            counts = counts_stand (order_in sums) limits tx es new x.moved x.before x.after was is is_kept was_at mid.figures counts_were next.figures r.figures;
            timed = subst (λ b. IfSome b (AreByMoment limits new)) (sym r.by_moment) timed;
          }
