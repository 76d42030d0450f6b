-- `put` writes a value into the bare room of one place.
use mathlib.Core.Path.{◌≡◌, refl, sym, subst, ◌∙◌}
use Prim.Native.Nat.{◌+◌, ◌*◌, ◌<◌, ◌^◌}
use native.Mathlib.Omega.{arith}
use mathlib.Core.List.{List, [], ◌∷◌, ◌++◌}
use lib.ListN.{length, set, get_or, length-set}
use base.Fraction.{full_share}
use base.Logic.{id⊢, never, emp}
use base.Fml.{Lft, ftrue, fat, flft}
use mir.Syntax.{Fn}
use mir.MapTy.{inst_fn}
use mir.Val.{Val, vptr, vunit}
use prog.Wp.{WpFn}
use contract.BorrowLft.{◌⊑◌}
use contract.Monad.{fact, fact_i}
use contract.Running.{tables}
use types.Kit.{‵, raw, prop, ◌⊛◌, at_ret, ◌$◌, ◌∵◌, !, qed, by, move, drop, use0, use1, use2, split, join, rewrite, regoal, fsplit, fsplit3, fjoin, fjoin3, feq_i, feq_l, flt_i, flt_l}
use types.Part.{whole, sub}
use types.Run.{init, stop, fld, unit_lit, of_opd, bin, size_lit, assigns_last, first, blocks, exec, returns, enter}
use types.ByLocal.{alloc_all, pass_all, free_all, look_at, get, get_in, take_at, give_at, through, sets, env}
use denote.Builtin.{usize}
use denote.RattleType.{owns}
use denote.Param.{layout}
use denote.RawPtr.{Ptr, in_a_block}
use denote.Signature.{plain, types_at}
use denote.Steps.{nothing, heard, opens, closes}
use denote.Triple.Walked.{Stays, stay_dropped, stay_ref, walk_of, Goes-dropped, Goes-ref}
use Rattle.core.{proofs.mem.Param.{El, R, args, elτ}, proofs.ptr.Rows.{times_below, one_below}}
use Rattle.core.proofs.ptr.Rows as rows
use Rattle.std.{proofs.raw_atomic.Walks.{proved_at, leaves}, specs.Prelude.{Some, None}}
use Rattle.std_alloc.{proofs.RawLayout.as_written, proofs.RcSteps.{word, word-Good}, proofs.VecSteps.Shapes.after}
use Rattle.slot_arena.{specs.Owned.{place_at, places_at, owned_places}, proofs.Rooms.{Row, First, PlaceValue, step_of, word_told, value_told, others, taken_out, put_back}, proofs.block.Places.put.Statement.statement}
use Rattle.slot_arena.specs.contracts.block.Places.put as f
use Rattle.slot_arena.proofs.block.Places.put.Code as code

pub put_spec : {M : Type 1} → statement M
put_spec 𝓤 𝓛 𝓜 𝓡 wired T laws =
    let E : El = record { row = T; laws = laws } in let fn : Fn = inst_fn (args E) code.function in
    let ended = f.ended T in let params = ended.signature.params in let c = f.clauses T 𝓛 𝓜.mem 𝓡.returns in
    let by_value = plain {n = 2} (λ _. First E) in let number = plain {n = 2} (λ _. usize) in let item = plain {n = 2} (λ _. R E) in
    let stays : Stays params ended.kept =
    (stay_ref (0 ∷ []) tt (plain (λ _. Row E)), (stay_dropped by_value ended.kept.1.0, (stay_dropped number ended.kept.1.1.0, (stay_dropped item ended.kept.1.1.1.0, tt)))) in
    let C = (tables 𝓤 𝓛.H 𝓜 𝓡 𝓡.env).C in let Λ = (tables 𝓤 𝓛.H 𝓜 𝓡 𝓡.env).Λ in
    proved_at 𝓛 ended stays c 𝓜 𝓡 (
      Goes-ref 𝓛 2 0 tt (plain (λ _. Row E)),
      (
        Goes-dropped 𝓛 2 by_value ended.kept.1.0 (λ κs x w. refl),
        (
          Goes-dropped 𝓛 2 number ended.kept.1.1.0 (λ κs x w. refl),
          (Goes-dropped 𝓛 2 item ended.kept.1.1.1.0 (λ κs x w. refl), tt),
        ),
      ),
    )
    (f.Key.name (args E)) fn (code.unfolded 𝓤 𝓛.H 𝓜 𝓡 wired (T, tt)) (λ y are.
    let Post = (walk_of 𝓛 ended stays c).post y in
    let κ : Lft = y.0.0.0 in let κ₁ : Lft = y.0.0.1.0 in let q = y.0.1.0 in let q₁ = y.0.1.1.0 in let a = y.0.3 in let vss = y.0.4 in
    let self = a.0 in let start = a.1.0 in let index = a.1.1.0 in let value = a.1.1.1.0 in let p = self.now in let s = step_of E in
    let tokens = ‵ (flft κ₁ q₁) ⊛ ‵ ftrue in let rb = self.ref_ptr.0 in let ro = self.ref_ptr.1 in
    let filled = set p.row index (Some value) in let new : (Row E).Denot = record { mark = p.mark; at = p.at; row = filled } in
    qed 𝓛 (((‵ (flft κ q) ⊛ tokens) ⊛ ‵ (owns (types_at params y.0.0) a vss))
    ∷ (raw (fact 𝓤 (κ₁ ⊑ T.lives)) ⊛ raw (fact 𝓤 ((start.ptr ≡ p.at) × (index < length p.row) × (get_or p.row index None ≡ None))))
    ∷ []) ∵
    move ! (1 ∷ []) $ split ! $ drop ! $ heard ! _ (λ asked. split ! $ split ! $ move ! (2 ∷ []) $
    -- [what the parameters own; the borrow's token; the other tokens]
    fsplit ! $ fsplit3 ! $ feq_l ! (λ e0. move ! (2 ∷ []) $ fsplit ! $ word_told ! start.ptr vss.1.0 (λ e1. fsplit ! $ fsplit ! $ feq_l ! (λ e2. flt_l ! (λ index_fits.
    fsplit ! $ value_told ! E value vss.1.1.1.0 (λ v e3 good. move ! (1 ∷ []) $ drop ! $ move ! (1 ∷ 2 ∷ 3 ∷ []) $
    regoal ! (λ (us : List Val × List Val × List Val × List Val). prop (WpFn 𝓤 𝓛.H C Λ fn (us.0 ++ (us.1 ++ (us.2 ++ (us.3 ++ [])))) Post)) (λ j. (e0 j, e1 j, e2 j, e3 j)) refl $
    -- [the owner's observation; its borrow; the borrow's token; what the value owns; the other tokens]
    enter ! C Λ fn _ Post $ alloc_all ! (λ l. pass_all ! refl ((tt, tt), (word-Good [] start.ptr, ((tt, record { fits = index_fits }), (good, tt)))) $
    opens ! tt (Row E) {h = p} rb ro (λ vs. move ! (1 ∷ []) $ fsplit ! $ move ! (1 ∷ []) $
    in_a_block ! p.at (λ at. owned_places (R E) at p.row) (id⊢ 𝓤 (never 𝓤)) (λ b o at_block. fsplit ! $ flt_l ! (λ row_fits.
    let within = asked.1 in let place = index * s + o in
    let size_fits : s < 2 ^ 64 = omega (arith, one_below (length p.row) s (2 ^ 63) (omega arith) row_fits) in
    let far_fits : index * s < 2 ^ 64 = omega (arith, times_below index (length p.row) s (2 ^ 63) (omega arith) row_fits) in
    take_at ! 2 $ rewrite ! 0 (λ (at : Ptr). ‵ (fat full_share (layout (First E)) (l 2) 0 (word at))) (asked.0 ∙ at_block) refl $ give_at ! 2 $
    first ! $ blocks ! $ sets ! (bin ! (get ! refl) (size_lit ! (record { fits = size_fits })) (record { fits = far_fits })) refl (tt, record { fits = far_fits }) $
    sets ! (bin ! (get_in ! (fld ! refl (stop !)) (sub ! 0 refl (whole !))) (get ! refl) tt) refl (tt, tt) $
    use1 𝓛 (‵ (place_at (R E) b place (get_or p.row index None)) ⊛ ‵ (others E b o p.row index)) (taken_out E 𝓛 b p.row index o within) $ split ! $
    rewrite ! 0 (λ (held : PlaceValue E). ‵ (place_at (R E) b place held)) asked.2 refl $ as_written ! (elτ E) b place $
    -- [the room; the other places; the mark; its cell; the open borrow, in three entries; what the value owns]
    sets ! (of_opd ! (get ! refl)) refl good $ assigns_last ! (of_opd ! (get ! refl)) (through ! refl (stop !)) (init ! 0 refl good) $
    exec ! C Λ (env fn.locals l) (after 1 fn.body) (at_ret (env fn.locals l) Post) $ sets ! (of_opd ! (unit_lit !)) refl (tt, tt) $
    move ! (0 ∷ 7 ∷ []) $ use2 𝓛 (‵ (place_at (R E) b place (Some value))) (rows.el_in (record { row = T; laws = laws }) 𝓛 full_share value b place v) $
    use2 𝓛 (‵ (places_at (R E) b o filled)) (put_back E 𝓛 b p.row index o (Some value) within) $
    flt_i ! (length filled * s) (2 ^ 63) (subst (λ n. n * s < 2 ^ 63) (sym (length-set p.row index (Some value))) row_fits) $ fjoin ! $
    rewrite ! 0 (λ (at : Ptr). ‵ (owned_places (R E) at filled)) (sym at_block) refl $ move ! (1 ∷ 0 ∷ []) $ fjoin ! $ move ! (1 ∷ 0 ∷ []) $ closes ! tt (Row E) new vs rb ro $
    returns ! (look_at ! 0 refl) $ free_all ! refl $
    -- [the owner's observation; its borrow; the borrow's token; the other tokens]
    feq_i ! (List Val) vss.0 (vptr rb ro ∷ []) e0 $ fjoin3 ! $ nothing ! $ nothing ! $ fjoin ! $ nothing ! $ fjoin ! $ nothing ! $ fjoin ! $ move ! (1 ∷ 0 ∷ []) $ fjoin ! $
    use0 𝓛 (raw (fact 𝓤 ((new.at ≡ p.at) × (new.row ≡ filled)))) (fact_i 𝓤 ((new.at ≡ p.at) × (new.row ≡ filled)) (emp 𝓤) (refl, refl)) $
    feq_i ! (List Val) (vunit ∷ []) (vunit ∷ []) refl $ join ! $ move ! (1 ∷ 0 ∷ []) $ join ! $ move ! (1 ∷ 2 ∷ 0 ∷ []) $ join ! $ join ! $
    by ! (leaves 𝓛 ended stays c y vunit tt (new, (tt, (tt, (tt, tt)))) (tt, (tt, (tt, (tt, tt))))))))))))))))
