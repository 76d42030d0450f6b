use Rattle.std.proofs.Common.{length, sym, ap, ◌∙◌, subst}
use Rattle.slot_arena.{specs.Free.{values_in, IsThreaded}, proofs.Fresh.{length-links, links_values}, proofs.Threads.threaded-new}
use Rattle.slot_arena.proofs.arena.SlotArena.with_capacity.Goals as goal

pub invariant_of-result : goal.invariant_of-result
invariant_of-result g c =
    let n = c.args.n in let X = g.row.T.Denot in let made = c.in_ok-start.ensures in let linked = c.link_all.ensures in
    record {
      places_at = linked.0 ∙ made.0;
      lease_at = made.2;
      lease_len = made.3;
      lease_alloc = made.4;
      count = ap length linked.1 ∙ length-links X 0 n;
      threaded = subst (λ row. IsThreaded row 0 n) (sym linked.1) (threaded-new X n c.requires);
    }

pub returns : goal.returns
returns g c = ap values_in c.link_all.ensures.1 ∙ links_values g.row.T.Denot 0 c.args.n
