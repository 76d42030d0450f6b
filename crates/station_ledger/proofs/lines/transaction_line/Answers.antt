use Rattle.std.proofs.Common.{◌≡◌, ◌<◌, IsSome, unwrap_or, refl, sym, ap, subst, ◌∙◌}
use Rattle.event_chain.specs.Chains.{stored}
use Rattle.ledger_model.{specs.Board.last_or_zero, specs.Evse.first_or_zero, specs.Gaps.numbers_of, specs.Ranges.sequence_end}
use Rattle.station_ledger.{specs.Lines.AreStationFlows, specs.Sums.order_in, proofs.BoardLines.own_flows, proofs.Numbered.{first_few, last_few}, proofs.TransactionLines.{first_is_or, last_is_or}, specs.Standing.standing_by, proofs.lines.transaction_line.Goals.After-unwrap_or-2}
use Rattle.station_ledger.proofs.lines.transaction_line.Goals as goal

pub unwrap-standing-requires : goal.unwrap-standing-requires
unwrap-standing-requires c = subst IsSome (sym (c.get.ensures ∙ c.requires.kept)) refl

-- what is kept is what was asked for, with its first and its last number
line : (c : After-unwrap_or-2) → (c.unwrap-standing.result ≡ standing_by (order_in c.args.sums.now) c.args.tx.now (stored c.args.chains.now))
    × (c.unwrap_or.result ≡ first_or_zero (numbers_of c.args.tx.now (stored c.args.chains.now))) × (c.unwrap_or-2.result ≡ last_or_zero (numbers_of c.args.tx.now (stored c.args.chains.now)))
line c =
    let ns = numbers_of c.args.tx.now (stored c.args.chains.now) in let kept = sym c.unwrap-standing.ensures ∙ c.get.ensures ∙ c.requires.kept in
    (cc, c.unwrap_or.ensures ∙ ap (λ o. unwrap_or o 0) c.first.ensures ∙ first_is_or ns, c.unwrap_or-2.ensures ∙ ap (λ o. unwrap_or o 0) c.last.ensures ∙ last_is_or ns)

-- numbers of stored events and a transaction's energy are in range
pub invariant_of-result : goal.invariant_of-result
invariant_of-result c =
    let es = stored c.args.chains.now in let tx = c.args.tx.now in let l = line (goal.at.invariant_of-result c).After-unwrap_or-2 in
    record {
      first_number = subst (λ n. n < sequence_end) (sym l.1) (first_few tx es c.requires.numbered);
      last_number = subst (λ n. n < sequence_end) (sym l.2) (last_few tx es c.requires.numbered);
      energy_in_range = subst AreStationFlows (ap (λ s. s.energy) (sym l.0)) (own_flows (order_in c.args.sums.now) c.args.chains.now.limits es c.requires.within tx);
    }

-- the standing is what is shown
pub returns : goal.returns
returns c =
    let l = line (goal.at.returns c).After-unwrap_or-2 in let s = l.0 in let first = l.1 in let last = l.2 in
    let events = c.from.ensures ∙ ap (λ t. t.live) s in let missing = c.from-2.ensures ∙ ap (λ t. t.missing) s in
    let gaps = c.of.ensures ∙ c.in_ok-gaps.ensures in
    λ i. record {
      tx = c.copied.ensures i;
      evse = (s i).evse;
      events = events i;
      first = first i;
      last = last i;
      complete = (s i).complete;
      missing = missing i;
      energy = (s i).energy;
      gaps = gaps i;
    }
