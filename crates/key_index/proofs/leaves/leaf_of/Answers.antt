use Rattle.std.{proofs.Common.{◌+◌, ◌-◌, ◌/◌, ◌<◌, ◌≤◌, ◌≡◌, [], length, get_or, ap, subst, ◌∙◌, sym, arith}, proofs.lemmas.Bool.Decides.nat_tests}
use Rattle.key_index.{specs.Leaves.{first_key, begun}, proofs.Belonging.{begun_within, begun_more, begun_less, belongs_counted, filled_at, first_is, read_leaf}}
use Rattle.key_index.proofs.leaves.leaf_of.Goals as goal

pub loop-low-init : goal.loop-low-init
loop-low-init g c =
    let ls = c.args.leaves.now.items in let all = begun_within (g.K.Ranked.rank c.args.key) ls in
    record { lower = omega arith; upper = omega (arith, all, c.len-high.ensures); within = omega (arith, c.len-high.ensures) }

pub entry-requires : goal.entry-requires
entry-requires g c =
    let ls = c.args.leaves.now.items in let m = c.loop-low.low + (c.loop-low.high - c.loop-low.low) / 2 in
    let inside : m < length ls = omega (arith, c.loop-low.invariant.within, c.loop-low-test.true) in
    subst (λ leaf. 0 < length leaf) (sym (read_leaf ls m c.index.result.now inside c.index.ensures)) (filled_at ls m c.requires.1 inside)

pub loop-low-preserved-then-is_after : goal.loop-low-preserved-then-is_after
loop-low-preserved-then-is_after g c =
    let ls = c.args.leaves.now.items in let key = g.K.Ranked.rank c.args.key in let e = c.entry.result in let was = c.loop-low.invariant in
    let m = c.loop-low.low + (c.loop-low.high - c.loop-low.low) / 2 in
    let inside : m < length ls = omega (arith, was.within, c.loop-low-test.true) in
    let first : first_key (get_or ls m []) ≡ e.0 = ap first_key (sym (read_leaf ls m c.index.result.now inside c.index.ensures)) ∙ first_is c.index.result.now e c.entry.ensures in
    let great : key < e.0 = grind (arith, nat_tests, c.is_after.ensures, c.if-is_after.true) in
    let less = begun_less key ls m inside (omega (arith, first, great)) in
    record { lower = was.lower; upper = less; within = omega (arith, inside) }

pub loop-low-preserved : goal.loop-low-preserved
loop-low-preserved g c =
    let ls = c.args.leaves.now.items in let key = g.K.Ranked.rank c.args.key in let e = c.entry.result in let was = c.loop-low.invariant in
    let m = c.loop-low.low + (c.loop-low.high - c.loop-low.low) / 2 in
    let inside : m < length ls = omega (arith, was.within, c.loop-low-test.true) in
    let first : first_key (get_or ls m []) ≡ e.0 = ap first_key (sym (read_leaf ls m c.index.result.now inside c.index.ensures)) ∙ first_is c.index.result.now e c.entry.ensures in
    let small : e.0 ≤ key = grind (arith, nat_tests, c.is_after.ensures, c.if-is_after.false) in
    let more = begun_more key ls m c.requires.1 c.requires.2 inside (omega (arith, first, small)) in
    record { lower = omega (arith, more); upper = was.upper; within = was.within }

pub returns : goal.returns
returns g c =
    let ls = c.args.leaves.now.items in let key = g.K.Ranked.rank c.args.key in let was = c.loop-low.invariant in
    let is : c.saturating_sub.result ≡ begun key ls - 1 = omega (arith, was.lower, was.upper, c.loop-low-test.false, c.saturating_sub.ensures) in
    belongs_counted key ls c.saturating_sub.result c.requires.0 c.requires.1 c.requires.2 is
