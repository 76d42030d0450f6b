use Rattle.std.proofs.Common.{ℕ, [], Some, ap, sym, subst}
use Rattle.key_index.{specs.Entries.AreRising, specs.declared.filed.Mark.TheVariants.Live}
use Rattle.key_index.specs.Index as keyed
use Rattle.event_chain.{specs.Placed.{index, marked_index}, proofs.Lists.{listed_same, listed_none}}
use Rattle.event_chain.proofs.place_index.PlaceIndex.open.Goals as goal

pub invariant_of-result : goal.invariant_of-result
invariant_of-result c = record {
  rising = subst (λ (x : keyed.Index ℕ). AreRising x.entries) (sym c.in_ok-open.ensures) tt;
  listed = listed_same (marked_index (Some Live) c.in_ok-open.field-0) (index [] c.args.events) c.in_ok-open-2.field-0
      _ (ap (marked_index (Some Live)) c.in_ok-open.ensures) c.in_ok-open-2.ensures (listed_none c.args.events);
}
