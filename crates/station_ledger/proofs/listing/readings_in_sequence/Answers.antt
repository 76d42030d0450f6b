use Rattle.std.{proofs.Common.{◌≡◌, ℕ, List, sym, ap, subst, ◌∙◌}, specs.Prelude.IfOk, specs.List.flat_map}
use Rattle.event_chain.specs.Chains.{stored}
use Rattle.ledger_model.specs.Content.{live_of}
use Rattle.reading_index.specs.declared.placed.PlacedReading.{PlacedReading}
use Rattle.station_ledger.{specs.Listing.placed_from, specs.Numbered.AreNumbers, specs.Quarters.readings_at, proofs.Numbered.live_numbered, proofs.Sharing.{numbers_each, read_along}}
use Rattle.station_ledger.proofs.listing.readings_in_sequence.Goals as goal

pub readings_along-requires : goal.readings_along-requires
readings_along-requires c = subst AreNumbers (sym c.walk.ensures) (numbers_each (live_of c.args.tx.now (stored c.args.chains.now)) (live_numbered c.args.tx.now (stored c.args.chains.now) c.requires))

pub returns : goal.returns
returns c =
    let reads : ℕ → List PlacedReading = λ n. placed_from n 0 (readings_at c.args.direction c.args.chains.now (record { tx = c.args.tx.now; seq = n })) in
    subst (λ rs. IfOk c.readings_along.result (λ listed. listed.items ≡ rs))
    (ap (flat_map reads) c.walk.ensures ∙ read_along (λ n rs. placed_from n 0 rs) c.args.direction c.args.tx.now c.args.chains.now)
    c.readings_along.ensures
