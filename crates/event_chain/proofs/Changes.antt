-- Lists by rising keys that differ under one key.
use Rattle.std.{proofs.lemmas.Grind.common_steps, proofs.Common.{arith, ◌≡◌, ℕ, ◌+◌, Bool, not, cond, T, List, [], ◌∷◌, Option, Some, None, is_some, length, refl, sym, ap, ◌∙◌}, specs.Bool.Decides, specs.List.filter, specs.Ordering.{is_eq, eq_by_cmp, nat_cmp}, specs.declared.cmp.Ordering.Ordering, specs.Cmp.{IsTotalOrder, nat_cmp_total, eq_by_cmp_equiv, alike_right}, specs.FinMap.{IsAntisymmetric, nat_cmp-IsAntisymmetric, find, is_sorted}, specs.FinMap.Entries.{below_all, find-put, find-where_key, is_sorted-put, is_sorted-where_key, length_without, same_entries}}
use Rattle.ledger_model.proofs.Callers.{first, second, less}
use Rattle.event_chain.{specs.Placed.{Index, index}, specs.Edits.{put_if, out}, proofs.Decided.{tied, not_so}}

turned : {A : Type 0} (b : Bool) (x y : A) → cond (not b) x y ≡ cond b y x
turned b x y = grind (arith, common_steps)

module _ {K X : Type 0} (R : K → K → Ordering) where
  -- A key in front of all others is not found.
  pub find_none : (k : K) (es : List (K × X)) → T (below_all R k es) → find R k es ≡ None
  find_none k [] h = refl
  find_none k (e ∷ es) h = ap (λ o. cond (is_eq o) (Some e.1) (find R k es)) (less _ (first _ _ h)) ∙ find_none k es (second _ _ h)

  module _ (test : (x y : K) → Decides (eq_by_cmp R x y) (x ≡ y)) (e : K × X) (es : List (K × X)) where
    -- The first of a list is found.
    pub find_first : find R e.0 (e ∷ es) ≡ Some e.1
    find_first = ap (λ b. cond b (Some e.1) (find R e.0 es)) ((test e.0 e.0).1 refl)

    never : (o : Option X) (x : X) → o ≡ Some x → o ≡ None → ⊥
    never o x a b = cc

    -- What is found behind it is found.
    pub find_rest : T (is_sorted R (e ∷ es)) → (q : K) (x : X) → find R q es ≡ Some x → find R q (e ∷ es) ≡ Some x
    find_rest up q x is = ap (λ b. cond b (Some e.1) (find R q es)) (not_so _ (test q e.0) (λ k. never (find R q es) x is (ap (λ r. find R r es) k ∙ find_none e.0 es (first _ _ up)))) ∙ is

-- How many there are.
abbrev pub one : {X : Type 0} → Option X → ℕ
one o = cond (is_some o) 1 0

-- A list has this under a key, and else what another has.
pub record IsChange {K X : Type 0} (R : K → K → Ordering) (k : K) (now : Option X) (es more : List (K × X)) : Type 0 where
  pub rises : T (is_sorted R es) → T (is_sorted R more)
  pub found : (q : K) → find R q more ≡ cond (eq_by_cmp R q k) now (find R q es)

module _ {K X : Type 0} (R : K → K → Ordering) (total : IsTotalOrder R) where
  -- What is found after a key was taken out.
  pub find_out : (q k : K) (es : List (K × X)) → find R q (filter (λ e. not (eq_by_cmp R k e.0)) es) ≡ cond (eq_by_cmp R q k) None (find R q es)
  find_out q k es =
      find-where_key R (λ x. not (eq_by_cmp R k x)) q (λ x t. ap (λ r. not (is_eq r)) (sym (alike_right total q x k t))) es
      ∙ turned (eq_by_cmp R k q) (find R q es) None ∙ ap (λ b. cond b None (find R q es)) ((eq_by_cmp_equiv total).symm k q)

  module _ (exact : IsAntisymmetric R) (k : K) (now : Option X) (es more : List (K × X)) (change : IsChange R k now es more) where
    -- What is found under the key.
    pub change_here : find R k more ≡ now
    change_here = change.found k ∙ ap (λ b. cond b now (find R k es)) ((tied R total exact k k).1 refl)

    -- What is found under another.
    pub change_other : (q : K) → (q ≡ k → ⊥) → find R q more ≡ find R q es
    change_other q other = change.found q ∙ ap (λ b. cond b now (find R q es)) (not_so _ (tied R total exact q k) other)

    module _ (up : T (is_sorted R es)) where
      twice : (b : Bool) (x : Option X) → cond b None (cond b now x) ≡ cond b None x
      twice b x = grind (arith, common_steps)

      -- Without the key the lists are the same.
      pub change_rest : filter (λ e. not (eq_by_cmp R k e.0)) more ≡ filter (λ e. not (eq_by_cmp R k e.0)) es
      change_rest = same_entries R total exact (filter (λ e. not (eq_by_cmp R k e.0)) more) (filter (λ e. not (eq_by_cmp R k e.0)) es)
          (is_sorted-where_key R (λ x. not (eq_by_cmp R k x)) more (change.rises up)) (is_sorted-where_key R (λ x. not (eq_by_cmp R k x)) es up) (λ q.
          find_out q k more ∙ ap (cond (eq_by_cmp R q k) None) (change.found q) ∙ twice (eq_by_cmp R q k) (find R q es) ∙ sym (find_out q k es))

      -- How long they are.
      pub change_length : length more + one (find R k es) ≡ length es + one now
      change_length = omega (arith, length_without R total k es up, length_without R total k more (change.rises up), ap length change_rest, ap (one {X = X}) change_here)

-- A place put in if a test says so.
pub change_put : (b : Bool) (r0 s0 : ℕ) (o : Option ℕ) (x y : Index) → y ≡ index (put_if b r0 s0 x.entries) x.capacity → find nat_cmp r0 x.entries ≡ None
    → cond b (Some s0) None ≡ o → IsChange nat_cmp r0 o x.entries y.entries
change_put b r0 s0 o x y is none now =
    grind (arith, common_steps, is_sorted-put nat_cmp nat_cmp_total r0 s0 x.entries, find-put {X = ℕ} nat_cmp nat_cmp_total, tied nat_cmp nat_cmp_total nat_cmp-IsAntisymmetric)

-- A place taken out.
pub change_out : (r0 : ℕ) (o : Option ℕ) (x y : Index) → y ≡ index (out r0 x.entries) x.capacity → None ≡ o → IsChange nat_cmp r0 o x.entries y.entries
change_out r0 o x y is now = grind (arith, common_steps, is_sorted-where_key nat_cmp (λ x. not (eq_by_cmp nat_cmp r0 x)) x.entries, find_out {X = ℕ} nat_cmp nat_cmp_total)

-- Places as they were.
pub change_same : (r0 : ℕ) (o : Option ℕ) (x y : Index) → y ≡ x → find nat_cmp r0 x.entries ≡ o → IsChange nat_cmp r0 o x.entries y.entries
change_same r0 o x y is now = grind (arith, common_steps, tied nat_cmp nat_cmp_total nat_cmp-IsAntisymmetric)
