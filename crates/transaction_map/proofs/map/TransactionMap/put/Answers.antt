use Rattle.std.{proofs.Common.{◌≡◌, ◌<◌, arith, ap, sym, subst, None, length}, specs.FinMap.find}
use Rattle.transaction_map.{specs.Map.{AreRising, id_cmp}, proofs.Found.{rising_put, within_put}}
use Rattle.transaction_map.proofs.map.TransactionMap.put.Goals as goal

pub invariant_of-self : goal.invariant_of-self
invariant_of-self g c =
    let was = c.self.invariant in let rows = c.self.inside.rows.items in
    let room : find id_cmp c.args.tx.now rows ≡ None → length rows < c.self.inside.capacity = rw (sym c.self.view_is) at c.requires in
    record {
      rising = subst AreRising (sym c.put_in.ensures.items) (rising_put c.args.tx.now c.args.value rows was.rising);
      within = omega (arith, ap length c.put_in.ensures.items, within_put c.args.tx.now c.args.value rows c.self.inside.capacity was.rising was.within room);
      reserved = omega (arith, was.reserved, c.put_in.ensures.capacity);
      fits = was.fits;
    }
