use Rattle.std.{proofs.Common.{◌≡◌, ◌+◌, subst, sym, ap, ◌∙◌, arith}, proofs.lemmas.Bool.Decides.nat_tests, specs.Vec.vec_len}
use Rattle.key_index.{specs.Leaves.{all_of, AreFilled, AreEmpty}, specs.Entries.AreRising, proofs.Belonging.few_leaves, proofs.Edits.{joined, empty_more}}
use Rattle.key_index.proofs.leaves.reclaim.Goals as goal

pub unreachable-requires : goal.unreachable-requires
unreachable-requires g c =
    let none : vec_len c.args.spare.now ≡ 0 = grind (arith, nat_tests, c.is_empty.ensures, c.if-not-is_empty.false) in
    let few = few_leaves c.args.leaves.now.items c.in-None.ensures.none in
    omega (arith, few, c.requires.enough, none, c.args.spare.now.ok.0)

pub returns-clause-same : goal.returns-clause-same
returns-clause-same g c =
    let ls = c.args.leaves.now.items in let at = c.in-Some.at in
    ap all_of c.join-empty.ensures.items ∙ (joined ls at (at + 1) (omega arith) c.in-Some.ensures.fits.0 c.requires.kept.filled).0

pub returns-clause-kept : goal.returns-clause-kept
returns-clause-kept g c =
    let ls = c.args.leaves.now.items in let at = c.in-Some.at in let one = joined ls at (at + 1) (omega arith) c.in-Some.ensures.fits.0 c.requires.kept.filled in
    record {
      filled = subst AreFilled (sym c.join-empty.ensures.items) one.1;
      rising = subst AreRising (sym (ap all_of c.join-empty.ensures.items ∙ one.0)) c.requires.kept.rising;
      empty = subst AreEmpty (sym c.push_reserved.ensures.items) (empty_more c.args.spare.now.items c.join-empty.result c.requires.kept.empty c.join-empty.ensures.empty);
    }
