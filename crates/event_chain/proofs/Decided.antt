-- Tests of keys and ranks, and what they decide.
use Rattle.std.{proofs.lemmas.Grind.common_steps, proofs.Common.{arith, ◌≡◌, ℕ, Bool, true, false, List, sym, ◌∙◌}, specs.Bool.Decides, specs.Ordering.{eq_by_cmp, nat_cmp}, specs.Cmp.{IsTotalOrder, nat_cmp_total}, specs.Cmp.Lexicographic.nat_list_cmp_total, specs.FinMap.{IsAntisymmetric, nat_cmp-IsAntisymmetric, slice_cmp-IsAntisymmetric}, specs.declared.cmp.Ordering.Ordering}
use Rattle.ledger_model.{specs.Key.{KeyName, key_cmp}, proofs.Callers.{key_total, exact_keys}}
use Rattle.event_chain.specs.Table.{id_cmp}

-- A test by an order decides equality if its ties are equal.
pub tied : {K : Type 0} (R : K → K → Ordering) (o : IsTotalOrder R) (same : IsAntisymmetric R) (x y : K) → Decides (eq_by_cmp R x y) (x ≡ y)
tied R o same x y = grind (arith, common_steps)

-- The test of keys.
pub key_test : (x y : KeyName) → Decides (eq_by_cmp key_cmp x y) (x ≡ y)
key_test x y = tied key_cmp key_total exact_keys x y

-- The test of ids.
pub id_test : (x y : List ℕ) → Decides (eq_by_cmp id_cmp x y) (x ≡ y)
id_test x y = tied id_cmp nat_list_cmp_total (slice_cmp-IsAntisymmetric nat_cmp-IsAntisymmetric) x y

-- The test of ranks.
pub rank_test : (x y : ℕ) → Decides (eq_by_cmp nat_cmp x y) (x ≡ y)
rank_test x y = tied nat_cmp nat_cmp_total nat_cmp-IsAntisymmetric x y

-- A test of what does not hold is false.
pub not_so : {P : Type 0} (b : Bool) → Decides b P → (P → ⊥) → b ≡ false
not_so b d never = grind (arith, common_steps)

-- What a false test denies.
pub denied : {P : Type 0} (b : Bool) → Decides b P → b ≡ false → P → ⊥
denied b d e p = let f : false ≡ true = sym e ∙ d.1 p in cc

-- Tests of what holds together are one.
pub same_test : {P Q : Type 0} (a b : Bool) → Decides a P → Decides b Q → (P → Q) → (Q → P) → a ≡ b
same_test a b da db pq qp = grind (arith, common_steps)
