use Rattle.std.proofs.Common.{◌≡◌, ◌-◌, ◌*◌, ◌/◌, ◌<◌, ◌≤◌, ◌^◌, sym, ap, subst, ◌∙◌, arith}
use Rattle.energy_flow.specs.Flow.{Energy}
use Rattle.ledger_model.{specs.Parts.Change, specs.Ranges.greatest_reading}
use Rattle.quarter_table.proofs.Coming.{product_fits}
use Rattle.quarter_table.proofs.shares.Change.come_by.Goals as goal

-- levels are at most the greatest reading, and seconds at most a day's
pub share-requires-clause-up : goal.share-requires-clause-up
share-requires-clause-up c =
    let change = c.args.self.now in let was = c.self.invariant in
    let until = ap (λ (s : Change). s.until) c.self.view_is in
    let since = ap (λ (s : Change). s.since) c.self.view_is in
    let small : c.self.inside.flow.up ≤ greatest_reading = omega (arith, ap (λ (e : Energy). e.up) was.4, was.3) in
    let fits = product_fits change c.self.inside.flow.up c.args.second c.requires.shared small c.requires.second in
    let part : c.saturating_sub.result ≡ c.args.second - change.since / 1_000_000_000 = c.saturating_sub.ensures ∙ ap (λ n. c.args.second - n / 1_000_000_000) since in
    subst (λ n. c.self.inside.flow.up * n < 2 ^ 64) (sym part) fits

pub share-requires-clause-down : goal.share-requires-clause-down
share-requires-clause-down c =
    let change = c.args.self.now in let was = c.self.invariant in
    let since = ap (λ (s : Change). s.since) c.self.view_is in
    let small : c.self.inside.flow.down ≤ greatest_reading = omega (arith, ap (λ (e : Energy). e.down) was.4, was.2) in
    let fits = product_fits change c.self.inside.flow.down c.args.second c.requires.shared small c.requires.second in
    let part : c.saturating_sub.result ≡ c.args.second - change.since / 1_000_000_000 = c.saturating_sub.ensures ∙ ap (λ n. c.args.second - n / 1_000_000_000) since in
    subst (λ n. c.self.inside.flow.down * n < 2 ^ 64) (sym part) fits
