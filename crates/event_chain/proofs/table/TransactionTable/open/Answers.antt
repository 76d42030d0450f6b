use Rattle.std.proofs.Common.{◌≡◌, ◌+◌, ◌-◌, ◌∷◌, [], arith, ap, length, length-append, subst, sym}
use Rattle.event_chain.proofs.TableKept.{AreFrom, open_spare}
use Rattle.event_chain.proofs.table.TransactionTable.open.Goals as goal

pub loop-handed-preserved : goal.loop-handed-preserved
loop-handed-preserved c =
    let was = c.loop-handed.invariant in let n = c.args.capacity - 1 - c.loop-handed.handed in let lt = c.loop-handed-test.true in
    let next : c.args.capacity - c.loop-handed.handed ≡ n + 1 = omega arith in
    let last : c.args.capacity - (c.loop-handed.handed + 1) ≡ n = omega arith in
    let more = open_spare c.args.capacity n c.loop-handed.spare.items c.push_reserved.new.self.items c.push_reserved.ensures.items
    (omega arith) (subst (λ k. AreFrom k c.loop-handed.spare.items) next was.from) was.spare in
    record {
      spare = more.1;
      from = subst (λ k. AreFrom k c.push_reserved.new.self.items) (sym last) more.0;
      long = omega (arith, was.long, ap length c.push_reserved.ensures.items, length-append c.loop-handed.spare.items (n ∷ []));
      room = omega (arith, was.room, c.push_reserved.ensures.capacity);
    }
