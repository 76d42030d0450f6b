use Rattle.std.{proofs.Common.{◌≡◌, ◌+◌, ◌-◌, ◌*◌, ◌/◌, ◌≤◌, ◌++◌, ◌∷◌, [], suc, ℕ, List, append_assoc, sym, ap, subst, ◌∙◌, arith}, proofs.Math.Nat.{div-mul-le_self, mul-le-mul_right}}
use Rattle.energy_flow.specs.Flow.{Energy, CanMinus, difference_of, minus}
use Rattle.ledger_model.specs.Parts.{Change, Part, level_at, shares_from}
use Rattle.quarter_table.{specs.Shares.come_by, proofs.Coming.{between_levels, come_later, come_within, level_by}}
use Rattle.quarter_table.proofs.shares.Change.put_shares.Goals as goal

pub loop-number-preserved : goal.loop-number-preserved
loop-number-preserved c =
    let number = c.loop-number.number in
    let come = c.loop-number.come in
    let change = c.args.self.now in
    let n = c.args.length in
    let last = (c.self.inside.until - 1) / 1_000_000_000 / c.from-seconds.result in
    let more = last - (number + 1) in
    let count : last - number ≡ suc more = omega (arith, c.loop-number-test.true) in
    let seconds : c.from-seconds.result ≡ n = search in
    let second = (number + 1) * n in
    let until : c.self.inside.until ≡ change.until = ap (λ (s : Change). s.until) c.self.view_is in
    let next : c.come_by-next.result ≡ come_by change second = c.come_by-next.ensures ∙ ap (λ s. come_by change ((number + 1) * s)) seconds in
    let ended : second ≤ last * n = mul-le-mul_right n (omega (arith, c.loop-number-test.true)) in
    let before : last * n ≤ (c.self.inside.until - 1) / 1_000_000_000 =
    omega (arith, div-mul-le_self ((c.self.inside.until - 1) / 1_000_000_000) c.from-seconds.result, ap (λ s. last * s) seconds) in
    let within : second ≤ change.until / 1_000_000_000 = omega (arith, ended, before, until) in
    let on : number * n ≤ second = mul-le-mul_right n (omega arith) in
    let less = c.loop-number.invariant.later second on in
    let quarter : c.unwrap-quarter.result ≡ number = grind (arith) in
    let flow : c.minus.result ≡ difference_of (level_by change come) (level_at change second) =
    c.minus.ensures ∙ ap (λ e. minus e come) next ∙ sym (between_levels change come (come_by change second) less (come_within change second within)) in
    let part : ℕ → Energy → List Part = λ q e. (q, e) ∷ [] in
    record {
      order = c.loop-number.invariant.order;
      whole = subst (CanMinus (difference_of change.earlier change.later)) (sym next) (come_within change second within);
      later = λ s le. subst (CanMinus (come_by change s)) (sym next) (come_later change second s le);
      left =
          ap (λ ps. ps ++ shares_from n change (number + 1) (level_by change c.come_by-next.result) more) (c.in_ok-push.ensures.items ∙ (λ i. c.loop-number.parts.items ++ part (quarter i) (flow i)))
          ∙ append_assoc c.loop-number.parts.items (part number (difference_of (level_by change come) (level_at change second))) (shares_from n change (number + 1) (level_by change c.come_by-next.result) more)
          ∙ (λ i. c.loop-number.parts.items ++ (part number (difference_of (level_by change come) (level_at change second)) ++ shares_from n change (number + 1) (level_by change (next i)) more))
          ∙ ap (λ m. c.loop-number.parts.items ++ shares_from n change number (level_by change come) m) (sym count)
          ∙ c.loop-number.invariant.left;
    }
