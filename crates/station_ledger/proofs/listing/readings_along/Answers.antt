use Rattle.std.{proofs.Common.{◌≡◌, ◌<◌, ◌++◌, ◌∷◌, length, ap, subst, ◌∙◌}, specs.Prelude.IfSome}
use Rattle.gap_list.specs.Walk.{left, StandsAt}
use Rattle.station_ledger.{specs.Listing.placed_from, specs.Numbered.AreNumbers, specs.Quarters.readings_at, proofs.Sharing.walked, proofs.Walks.first_and_rest}
use Rattle.station_ledger.proofs.listing.readings_along.Goals as goal

pub loop-place-preserved : goal.loop-place-preserved
loop-place-preserved g c =
    let ahead = g.W.NumberWalk.ahead in let walk = c.args.walk.now in let was = ahead walk c.in-Some.here in let n = c.number.result in
    let rest = left ahead walk c.next-place.result in
    let some : 0 < length was = subst (StandsAt ahead walk) c.in-Some.is c.loop-place.invariant.stands in
    let steps : was ≡ n ∷ rest = first_and_rest was rest n 0 some c.number.ensures c.next-place.ensures.rest in
    let tx = subst (λ o. IfSome o (λ k. k.tx ≡ c.copied.result)) c.unwrap-key.ensures c.new.ensures.tx ∙ c.copied.ensures in
    let seq = subst (λ o. IfSome o (λ k. k.seq ≡ n)) c.unwrap-key.ensures c.new.ensures.seq in
    let key : c.unwrap-key.result ≡ record { tx = c.args.tx.now; seq = n } = λ i. record { tx = tx i; seq = seq i } in
    record {
      listed = walked (λ m. placed_from m 0 (readings_at c.args.direction c.args.chains.now (record { tx = c.args.tx.now; seq = m })))
          (left ahead walk c.loop-place.place) rest n c.loop-place.listed.items c.push_readings.new.listed.items _
          (ap (left ahead walk) c.in-Some.is ∙ steps)
          (c.in_ok-push_readings.ensures ∙ ap (λ k. c.loop-place.listed.items ++ placed_from k.seq 0 (readings_at c.args.direction c.args.chains.now k)) key)
          c.loop-place.invariant.listed;
      stands = c.next-place.ensures.stands;
      few = (subst AreNumbers (ap (left ahead walk) c.in-Some.is ∙ steps) c.loop-place.invariant.few).1;
    }
