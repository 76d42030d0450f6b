-- Pairs of both directions, those of one after those of the other.
use Rattle.std.{proofs.Common.{ℕ, ◌≡◌, List, ◌++◌, length, refl, sym, ap, ◌∙◌, arith}, proofs.lemmas.List.append_assoc}
use Rattle.energy_flow.specs.Flow.{Energy}
use Rattle.ledger_model.{proofs.Directions.each_way, specs.Periods.Periods, specs.ByDirection.in_direction, specs.declared.reading.Direction.Direction, specs.declared.reading.Direction.TheVariants.{Import, Export}, specs.Board.Flowed, specs.Energy.Pair}
use Rattle.quarter_table.{specs.Table.Table, specs.Pairs.rows_of}
use Rattle.station_ledger.{specs.declared.pairs.Way.Way, specs.declared.pairs.Way.TheVariants.{Coming, Going}, specs.Quarters.{IsSumOf, DidMove, DidMoveBoth, MayMove, MayMoveBoth, both_length, both_quartered, quartered, rows_moved}, proofs.Rows.{room_fewer, rows_more, rows_less}, proofs.Walks.rows_moved-append}

regrouped : (period : Periods) (ps : Direction → List Pair) (others : List Flowed)
    → rows_of (both_quartered period ps ++ others) ≡ rows_of (quartered period Import (ps Import) ++ (quartered period Export (ps Export) ++ others))
regrouped period ps others = ap rows_of (append_assoc (quartered period Import (ps Import)) (quartered period Export (ps Export)) others)

module _ (period : Periods) (ps : Direction → List Pair) (t : Table) where
  -- the pairs of the first direction may come or go, and then those of the other
  pub may_first : (way : Way) → MayMoveBoth way period ps t → MayMove way period Import (ps Import) t
  may_first Coming has = room_fewer has (omega arith)
  may_first Going has = (quartered period Export (ps Export) ++ has.0, has.1 ∙ regrouped period ps has.0)

  pub may_second : (way : Way) {new : Table} {before after : ℕ} {import_flow : Energy} → MayMoveBoth way period ps t
      → DidMove way period Import (ps Import) t new before after import_flow → MayMove way period Export (ps Export) new
  may_second Coming has e = (quartered period Import (ps Import) ++ has.0, rows_more period Import has.0 (both_length ps) (length (ps Export)) has.1 refl e.sum e.quarters)
  may_second Going has e = (has.0, rows_less (quartered period Export (ps Export) ++ has.0) (has.1 ∙ regrouped period ps has.0) e.quarters)

module _ (way : Way) {period : Periods} (ps : Direction → List Pair) {t new last : Table} {before after end : ℕ} {import_flow export_flow : Energy} where
  pub did_both : DidMove way period Import (ps Import) t new before after import_flow → DidMove way period Export (ps Export) new last after end export_flow
      → DidMoveBoth way period ps t last before end (record { import = import_flow; export = export_flow })
  did_both a b = record {
    sums = each_way (λ d. IsSumOf (ps d) (in_direction d (record { import = import_flow; export = export_flow }))) a.sum b.sum;
    quarters = record {
      rows = b.quarters.rows ∙ ap (rows_moved way (quartered period Export (ps Export))) a.quarters.rows
          ∙ sym (rows_moved-append way (quartered period Import (ps Import)) (quartered period Export (ps Export)) t.rows);
      capacity = b.quarters.capacity ∙ a.quarters.capacity;
    };
    work = record { bound = omega (arith, a.work.bound, b.work.bound); grows = omega (arith, a.work.grows, b.work.grows) };
  }
