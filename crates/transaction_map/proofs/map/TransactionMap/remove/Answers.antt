use Rattle.std.proofs.Common.{arith, ap, sym, subst, length}
use Rattle.transaction_map.{specs.Map.AreRising, proofs.Found.{rising_out, within_out}}
use Rattle.transaction_map.proofs.map.TransactionMap.remove.Goals as goal

pub invariant_of-self : goal.invariant_of-self
invariant_of-self g c =
    let was = c.self.invariant in let rows = c.self.inside.rows.items in
    record {
      rising = subst AreRising (sym c.take_out.ensures.items) (rising_out c.args.tx.now rows was.rising);
      within = omega (arith, ap length c.take_out.ensures.items, within_out c.args.tx.now rows c.self.inside.capacity was.rising was.within);
      reserved = omega (arith, was.reserved, c.take_out.ensures.capacity);
      fits = was.fits;
    }
