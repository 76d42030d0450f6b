use Rattle.std.proofs.Common.{arith, ap, sym, subst, length}
use Rattle.transaction_map.{specs.Map.AreRising, specs.Places.IsAt, proofs.Found.rising_put, proofs.Places.length_put}
use Rattle.transaction_map.proofs.map.TransactionMap.set_at.Goals as goal

pub write_at-requires : goal.write_at-requires
write_at-requires g c = subst (λ t. IsAt c.args.tx.now t.rows c.args.place) (sym c.self.view_is) c.requires

pub invariant_of-self : goal.invariant_of-self
invariant_of-self g c =
    let was = c.self.invariant in let rows = c.self.inside.rows.items in
    let at : IsAt c.args.tx.now rows c.args.place = subst (λ t. IsAt c.args.tx.now t.rows c.args.place) (sym c.self.view_is) c.requires in
    record {
      rising = subst AreRising (sym c.write_at.ensures.items) (rising_put c.args.tx.now c.args.value rows was.rising);
      within = omega (arith, ap length c.write_at.ensures.items, length_put c.args.tx.now c.args.value rows c.args.place at, was.within);
      reserved = omega (arith, was.reserved, c.write_at.ensures.capacity);
      fits = was.fits;
    }
