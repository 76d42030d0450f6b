use Rattle.std.{proofs.Common.{◌≡◌, ◌+◌, ◌-◌, ◌≤◌, ◌++◌, ◌∷◌, [], append-nil, append_assoc, length, sym, ap, ◌∙◌, arith}, proofs.lemmas.List.length-append}
use Rattle.reading_index.specs.declared.placed.PlacedReading.{PlacedReading}
use Rattle.station_ledger.specs.Listing.{placed_from}
use Rattle.station_ledger.proofs.listing.push_readings.Goals as goal

pub loop-reading-init : goal.loop-reading-init
loop-reading-init c =
    let was = c.args.listed.now.items in let none : length was - length was ≡ 0 = omega arith in
    (ap (λ p. was ++ placed_from c.args.key.now.seq p c.readings-left.result) none ∙ ap (λ rs. was ++ placed_from c.args.key.now.seq 0 rs) c.readings-left.ensures, omega arith)

pub loop-reading-preserved : goal.loop-reading-preserved
loop-reading-preserved c =
    let seq = c.args.key.now.seq in let was = c.args.listed.now.items in let done = c.loop-reading.listed.items in let new = c.push.new.self.items in
    let r = c.in-Some.reading in let rest = c.next.new.self in let p = length done - length was in
    let le : length was ≤ length done = c.loop-reading.invariant.1 in
    let place : c.len.result - c.len-start.result ≡ p = omega (arith, c.len.ensures, c.len-start.ensures) in
    let x : PlacedReading = record { number = seq; place = p; reading = r } in
    let items : new ≡ done ++ x ∷ [] = c.in_ok-push.ensures.items ∙ (λ i. done ++ record { number = c.seq.ensures.value i; place = place i; reading = r } ∷ []) in
    let long : length new ≡ length done + 1 = ap length items ∙ length-append done (x ∷ []) in
    let count : length new - length was ≡ p + 1 = omega (arith, le, long) in (
      ap (λ q. new ++ placed_from seq q rest) count
          ∙ ap (λ ls. ls ++ placed_from seq (p + 1) rest) items
          ∙ append_assoc done (x ∷ []) (placed_from seq (p + 1) rest)
          ∙ ap (λ rs. done ++ placed_from seq p rs) (sym c.in-Some.ensures.steps)
          ∙ c.loop-reading.invariant.0,
      omega (arith, le, long),
    )

pub returns : goal.returns
returns c =
    let seq = c.args.key.now.seq in let done = c.loop-reading.listed.items in
    sym (append-nil done) ∙ ap (λ rs. done ++ placed_from seq (length done - length c.args.listed.now.items) rs) (sym c.in_default.ensures.steps.0) ∙ c.loop-reading.invariant.0
