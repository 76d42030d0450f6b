-- `lent` lends the value in one place, and the row follows what is written through it.
use mathlib.Core.Path.{◌≡◌, refl, sym, subst, ◌∙◌}
use Prim.Native.Nat.{ℕ, ◌+◌, ◌*◌, ◌<◌, ◌^◌}
use native.Mathlib.Omega.{arith}
use mathlib.Core.List.{List, [], ◌∷◌, ◌++◌}
use lib.ListN.{length, set, get_or, length-set}
use seplogic.Ra.Ura.{Ura}
use base.Fraction.{full_share}
use base.Logic.{ent, sep, id⊢, never, emp}
use base.Fml.{Lft, Fml, GName, ftrue, fsep, fat, flft}
use mir.Syntax.{Fn, named}
use mir.MapTy.{inst_fn}
use mir.Val.{Val, vptr}
use prog.Wp.{WpFn}
use contract.BorrowLft.{◌⊑◌}
use contract.Monad.{fact, fact_i}
use contract.Running.{tables}
use types.Logic.{Logic, sem}
use types.Kit.{‵, raw, prop, ◌⊛◌, some, later, await, pick, group, at_ret, ◌$◌, ◌∵◌, !, qed, by, move, drop, use0, use1, use2, split, split3, join, rewrite, regoal, fsplit, fsplit3, fjoin, fjoin3, fpack, feq_l, flt_i, flt_l, done}
use types.Part.{whole, sub}
use types.Run.{stop, fld, of_opd, addr, bin, size_lit, first, blocks, exec, returns, enter}
use types.ByLocal.{alloc_all, pass_all, free_all, look_at, get, get_in, take_at, give_at, through, sets, sets_last, env}
use denote.Builtin.{RefMutOf, usize}
use denote.Follow.{follows, Part, lends_Part}
use denote.Memory.{mem, cell_at, part_of}
use denote.RattleType.{owns}
use denote.Param.{layout}
use denote.RawPtr.{Ptr, block_ptr, in_a_block}
use denote.Ref.{MutBor, MutRef}
use denote.Signature.{plain, types_at}
use denote.Steps.{nothing, heard, opens}
use denote.Triple.Walked.{Stays, stay_dropped, walk_of, Goes-dropped, Goes-spent_ref}
use Rattle.core.{proofs.mem.Param.{El, R, el_x, args}, proofs.ptr.Rows.{times_below, one_below}}
use Rattle.std.{proofs.raw_atomic.Walks.{proved_at, leaves}, specs.Prelude.{Some, None}}
use Rattle.std_alloc.{proofs.RcSteps.{word, word-Good}, proofs.VecSteps.Shapes.after}
use Rattle.slot_arena.{specs.Place.Holds, specs.Owned.{place_at, places_at, owned_places}, specs.Lent.with_row, proofs.Rooms.{Row, First, Mark, PlaceValue, step_of, word_told, holding_within, others, taken_out, put_back}, proofs.block.Places.lent.Statement.statement}
use Rattle.slot_arena.specs.contracts.block.Places.lent as f
use Rattle.slot_arena.proofs.block.Places.lent.Code as code

module _ (E : El) (p : (Row E).Denot) (index rb ro : ℕ) (vs : List Val) (b o : ℕ) where
  -- The owner, where the place holds another value.
  abbrev changed : el_x E → (Row E).Denot
  changed w = with_row p (set p.row index (Some w))

  -- All of the owner but the value that is lent.
  abbrev kept : Fml
  kept = fsep (others E b o p.row index) (fsep ((Mark E).own_val (tt, tt) vs) (cell_at full_share (Row E).mir vs rb ro))

  -- The way back: the value, put among the rest, makes the owner again.
  way_back : {M : Type 1} {𝓤 : Ura M} (𝓛 : Logic 𝓤) → p.at ≡ block_ptr b o → index < length p.row → length p.row * step_of E < 2 ^ 63
      → (w : el_x E) → ent 𝓤 (sep 𝓤 (sem 𝓛 ((mem (R E)).own_at w b (index * step_of E + o))) (sem 𝓛 kept)) (sem 𝓛 ((mem (Row E)).own_at (changed w) rb ro))
  unfolding part_of
  way_back 𝓛 at_block within row_fits w = let row = (changed w).row in let still = sym (length-set p.row index (Some w)) in
      qed 𝓛 (‵ (place_at (R E) b (index * step_of E + o) (Some w)) ∷ ‵ kept ∷ []) ∵ move ! (1 ∷ []) $ fsplit3 ! $ move ! (3 ∷ 0 ∷ []) $
      use2 𝓛 (‵ (places_at (R E) b o row)) (put_back E 𝓛 b p.row index o (Some w) within) $
      flt_i ! (length row * step_of E) (2 ^ 63) (subst (λ n. n * step_of E < 2 ^ 63) still row_fits) $ fjoin ! $
      rewrite ! 0 (λ (at : Ptr). ‵ (owned_places (R E) at row)) (sym at_block) refl $ move ! (1 ∷ 0 ∷ []) $ fjoin ! $ move ! (1 ∷ 0 ∷ []) $ fjoin ! $
      fpack ! (List Val) (λ us. fsep (cell_at full_share (Row E).mir us rb ro) ((Row E).own_val (changed w) us)) vs $ done !

pub lent_spec : {M : Type 1} → statement M
lent_spec 𝓤 𝓛 𝓜 𝓡 wired T laws =
    let E : El = record { row = T; laws = laws } in let fn : Fn = inst_fn (args E) code.function in
    let ended = f.ended T in let params = ended.signature.params in let c = f.clauses T 𝓛 𝓜.mem 𝓡.returns in
    let borrowed = RefMutOf {n = 2} (0 ∷ []) tt (plain (λ _. Row E)) (λ _. tt) in let by_value = plain {n = 2} (λ _. First E) in let number = plain {n = 2} (λ _. usize) in
    let stays : Stays params ended.kept = (stay_dropped borrowed ended.kept.0, (stay_dropped by_value ended.kept.1.0, (stay_dropped number ended.kept.1.1.0, tt))) in
    let C = (tables 𝓤 𝓛.H 𝓜 𝓡 𝓡.env).C in let Λ = (tables 𝓤 𝓛.H 𝓜 𝓡 𝓡.env).Λ in
    proved_at 𝓛 ended stays c 𝓜 𝓡
    (Goes-spent_ref 𝓛 2 (0 ∷ []) tt (plain (λ _. Row E)), (Goes-dropped 𝓛 2 by_value ended.kept.1.0 (λ κs x w. refl), (Goes-dropped 𝓛 2 number ended.kept.1.1.0 (λ κs x w. refl), tt)))
    (f.Key.name (args E)) fn (code.unfolded 𝓤 𝓛.H 𝓜 𝓡 wired (T, tt)) (λ y are.
    let Post = (walk_of 𝓛 ended stays c).post y in
    let κ : Lft = y.0.0.0 in let κ₁ : Lft = y.0.0.1.0 in let q = y.0.1.0 in let q₁ = y.0.1.1.0 in let a = y.0.3 in let vss = y.0.4 in
    let self = a.0 in let start = a.1.0 in let index = a.1.1.0 in let p = self.now in let s = step_of E in
    let tokens = ‵ (flft κ₁ q₁) ⊛ ‵ ftrue in let rb = self.ref_ptr.0 in let ro = self.ref_ptr.1 in let γ = self.ghost_name in
    qed 𝓛 (((‵ (flft κ q) ⊛ tokens) ⊛ ‵ (owns (types_at params y.0.0) a vss)) ∷ (raw (fact 𝓤 (κ₁ ⊑ T.lives)) ⊛ raw (fact 𝓤 ((start.ptr ≡ p.at) × Holds p.row index))) ∷ []) ∵
    move ! (1 ∷ []) $ split ! $ drop ! $ heard ! _ (λ asked. split ! $ split ! $ move ! (2 ∷ []) $
    -- [what the parameters own; the borrow's token; the other tokens]
    fsplit ! $ fsplit3 ! $ feq_l ! (λ e0. move ! (2 ∷ []) $ fsplit ! $ word_told ! start.ptr vss.1.0 (λ e1. fsplit ! $ fsplit ! $ feq_l ! (λ e2. flt_l ! (λ index_fits. drop ! $
    regoal ! (λ (us : List Val × List Val × List Val). prop (WpFn 𝓤 𝓛.H C Λ fn (us.0 ++ (us.1 ++ (us.2 ++ []))) Post)) (λ j. (e0 j, e1 j, e2 j)) refl $
    -- [the owner's observation; its borrow; the borrow's token; the other tokens]
    enter ! C Λ fn _ Post $ alloc_all ! (λ l. pass_all ! refl ((tt, tt), (word-Good [] start.ptr, ((tt, record { fits = index_fits }), tt))) $
    opens ! tt (Row E) {h = p} rb ro (λ vs. move ! (1 ∷ []) $ fsplit ! $ move ! (1 ∷ []) $
    in_a_block ! p.at (λ at. owned_places (R E) at p.row) (id⊢ 𝓤 (never 𝓤)) (λ b o at_block. fsplit ! $ flt_l ! (λ row_fits.
    let x = asked.1.0 in let within = holding_within p.row index x asked.1.1 in let place = index * s + o in
    let size_fits : s < 2 ^ 64 = omega (arith, one_below (length p.row) s (2 ^ 63) (omega arith) row_fits) in
    let far_fits : index * s < 2 ^ 64 = omega (arith, times_below index (length p.row) s (2 ^ 63) (omega arith) row_fits) in
    take_at ! 2 $ rewrite ! 0 (λ (at : Ptr). ‵ (fat full_share (layout (First E)) (l 2) 0 (word at))) (asked.0 ∙ at_block) refl $ give_at ! 2 $
    first ! $ blocks ! $ sets ! (bin ! (get ! refl) (size_lit ! (record { fits = size_fits })) (record { fits = far_fits })) refl (tt, record { fits = far_fits }) $
    sets ! (bin ! (get_in ! (fld ! refl (stop !)) (sub ! 0 refl (whole !))) (get ! refl) tt) refl (tt, tt) $
    use1 𝓛 (‵ (place_at (R E) b place (get_or p.row index None)) ⊛ ‵ (others E b o p.row index)) (taken_out E 𝓛 b p.row index o within) $ split ! $
    rewrite ! 0 (λ (held : PlaceValue E). ‵ (place_at (R E) b place held)) asked.1.1 refl $
    sets_last ! (addr ! (through ! refl (stop !))) refl (tt, tt) $ exec ! C Λ (env fn.locals l) (after 1 fn.body) (at_ret (env fn.locals l) Post) $ sets ! (of_opd ! (get ! refl)) refl (tt, tt) $
    -- [the value; the other places; the mark; its cell; the open borrow, in three entries; the other tokens]
    let new = changed E p index rb ro vs b o in let rest = kept E p index rb ro vs b o in let way = way_back E p index rb ro vs b o 𝓛 at_block within row_fits in
    move ! (1 ∷ 2 ∷ 3 ∷ []) $ fjoin3 ! $ move ! (2 ∷ 3 ∷ 4 ∷ 1 ∷ 0 ∷ []) $ group ! 5 $
    use1 𝓛 (later (some (λ (δ : GName). raw (Part 𝓛 (Row E) (R E) new (named 0) κ q rb ro b place γ (sem 𝓛 rest) way x δ))))
    (lends_Part 𝓛 (Row E) (R E) new (named 0) κ q rb ro b place γ (sem 𝓛 rest) way ((Row E).coded.code p) ((Row E).coded.code p) x) $ await ! tt $ pick ! (λ δ.
    returns ! (look_at ! 0 refl) $ free_all ! refl $
    let r : MutBor (el_x E) = record { ref_ptr = (b, place); ghost_name = δ; now = x } in let Value = get_or p.row index None ≡ Some x in
    use1 𝓛 (‵ ((MutRef (named 0) κ (R E)).own_val r (vptr b place ∷ [])) ⊛ ‵ (flft κ q) ⊛ ‵ (follows (Row E) (R E) γ δ new)) (id⊢ 𝓤 _) $ split3 ! $
    -- [the reference; the borrow's token; what the owner follows; the other tokens]
    use0 𝓛 (raw (fact 𝓤 Value)) (fact_i 𝓤 Value (emp 𝓤) asked.1.1) $ move ! (3 ∷ 0 ∷ []) $ join ! $ move ! (1 ∷ 0 ∷ []) $ join ! $
    nothing ! $ nothing ! $ fjoin ! $ nothing ! $ fjoin ! $ nothing ! $ fjoin ! $ join ! $ move ! (1 ∷ 2 ∷ 0 ∷ []) $ join ! $ join ! $
    by ! (leaves 𝓛 ended stays c y (vptr b place) r (tt, (tt, (tt, tt))) (tt, (tt, (tt, tt)))))))))))))))
