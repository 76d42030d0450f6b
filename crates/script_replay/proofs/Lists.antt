-- What lists of transactions show of a station's energies.
use Rattle.std.{proofs.Common.{◌≡◌, ℕ, ◌==◌, List, [], ◌∷◌, ◌++◌, refl, sym, ap, ◌∙◌}, specs.List.{filter, flat_map}, proofs.lemmas.Grind.flat_map-append}
use Rattle.energy_flow.specs.Flow.{Energy}
use Rattle.ledger_model.{specs.Content.{Entry, live, transactions_of}, specs.Energy.{Pair, energy_over, followed, pairs_by, parts_of, parts_over}, specs.Parts.{Part, energy_of_parts}, specs.Periods.Periods, specs.declared.order.Order.Order, specs.declared.reading.Direction.Direction, specs.declared.reading.Direction.TheVariants.{Import, Export}}
use Rattle.station_ledger.{specs.Listing.placed_by, proofs.Sharing.placed_readings}
use Rattle.script_replay.specs.Laws.{ListedPairsMakeEnergies, ListedPartsMakePeriods, listed_pairs}

-- the pairs of a list are those of the definition
pairs_are : (order : Order) (d : Direction) (tx : List ℕ) (es : List Entry) → listed_pairs (placed_by order d tx es) ≡ pairs_by order d tx es
pairs_are order d tx es = ap followed (placed_readings order d tx es)

pub pairs_make_energies : ListedPairsMakeEnergies
pairs_make_energies order period tx es = λ i. record { import = energy_over (sym (pairs_are order Import tx es) i); export = energy_over (sym (pairs_are order Export tx es) i) }

-- the parts of several transactions
parts_each : (period : Periods) (pairs : List ℕ → List Pair) (txs : List (List ℕ)) → parts_over period (flat_map pairs txs) ≡ flat_map (λ tx. parts_over period (pairs tx)) txs
parts_each period pairs [] = refl
parts_each period pairs (tx ∷ txs) = flat_map-append (parts_of period) (pairs tx) (flat_map pairs txs) ∙ ap (λ ts. parts_over period (pairs tx) ++ ts) (parts_each period pairs txs)

pub parts_make_periods : ListedPartsMakePeriods
parts_make_periods order period d quarter es =
    let energy : List Part → Energy = λ ts. energy_of_parts (filter (λ (t : Part). t.0 == quarter) ts) in let txs = transactions_of (live es) in
    ap energy (parts_each period (λ tx. pairs_by order d tx es) txs)
    ∙ ap (λ (f : List ℕ → List Part). energy (flat_map f txs)) (λ i tx. parts_over period (sym (pairs_are order d tx es) i))
