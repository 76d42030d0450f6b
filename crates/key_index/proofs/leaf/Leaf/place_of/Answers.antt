use Rattle.std.{proofs.Common.{◌+◌, ◌-◌, ◌/◌, ◌<◌, ◌≤◌, length, get_or, subst, sym, arith}, proofs.lemmas.Bool.Decides.nat_tests}
use Rattle.key_index.{specs.Entries.AreRising, proofs.Orders.{place_more, place_less, below_within}}
use Rattle.key_index.proofs.leaf.Leaf.place_of.Goals as goal

pub loop-low-init : goal.loop-low-init
loop-low-init g c =
    let es = c.self.inside.entries.items in let all = below_within (g.K.Ranked.rank c.args.key) es in
    record { lower = omega arith; upper = omega (arith, all, c.len-high.ensures); within = omega (arith, c.len-high.ensures) }

pub loop-low-preserved-then-is_before : goal.loop-low-preserved-then-is_before
loop-low-preserved-then-is_before g c =
    let es = c.self.inside.entries.items in let key = g.K.Ranked.rank c.args.key in let e = c.index.result.now in let was = c.loop-low.invariant in
    let m = c.loop-low.low + (c.loop-low.high - c.loop-low.low) / 2 in
    let inside : m < length es = omega (arith, was.within, c.loop-low-test.true) in
    let small : e.0 < key = grind (arith, nat_tests, c.is_before.ensures, c.if-is_before.true) in
    let found : (get_or es m e).0 < key = subst (λ x. x.0 < key) c.index.ensures small in
    let more = place_more key es m e (subst AreRising (sym c.self.view_is) c.requires) inside found in
    record { lower = omega (arith, more); upper = was.upper; within = was.within }

pub loop-low-preserved : goal.loop-low-preserved
loop-low-preserved g c =
    let es = c.self.inside.entries.items in let key = g.K.Ranked.rank c.args.key in let e = c.index.result.now in let was = c.loop-low.invariant in
    let m = c.loop-low.low + (c.loop-low.high - c.loop-low.low) / 2 in
    let inside : m < length es = omega (arith, was.within, c.loop-low-test.true) in
    let great : key ≤ e.0 = grind (arith, nat_tests, c.is_before.ensures, c.if-is_before.false) in
    let found : key ≤ (get_or es m e).0 = subst (λ x. key ≤ x.0) c.index.ensures great in
    let less = place_less key es m e inside found in
    record { lower = was.lower; upper = less; within = omega (arith, inside) }
