-- `release` makes one block of its empty places, and hands it back with the allocator's leave.
use mathlib.Core.Path.{◌≡◌, refl, sym, ap, subst, ◌∙◌}
use Prim.Native.Nat.{ℕ, ◌*◌, ◌<◌, ◌^◌}
use native.Mathlib.Omega.{arith}
use mathlib.Core.List.{List, [], ◌∷◌, ◌++◌}
use lib.Dec.{T as T-of}
use lib.ListN.{replicate, length-replicate}
use base.Logic.{id⊢, never}
use base.Fml.{Lft, Incl-trans, ftrue, froom, flft}
use mir.Syntax.{Fn, ty_array, ty_unit, w64}
use mir.MapTy.{inst_fn}
use mir.Val.{Val, has_ty, WT, vint, vunit}
use prog.Capped.{capped_fits}
use prog.Memory.{align, capped}
use prog.Wp.{WpFn}
use contract.BorrowLft.{◌⊑◌}
use contract.Monad.{fact}
use contract.Running.{tables, tables_of}
use sound.WpLaws.{fm_of}
use types.Kit.{‵, raw, prop, ◌⊛◌, given, later, await, learn, group, at_ret, ◌$◌, ◌∵◌, !, qed, by, move, drop, use1, split, join, rewrite, regoal, fsplit, fsplit3, fjoin, feq_i, feq_l, flt_l}
use types.Part.{whole, sub}
use types.Run.{stop, fld, unit_lit, of_opd, and_then, no_more, bin, size_word, align_word, first, blocks, exec, returns, enter}
use types.ByLocal.{alloc_all, pass_all, free_all, look_at, get, get_in, is, sets, lands_last, env}
use denote.Builtin.{RefOf, usize}
use denote.RattleType.{RattleType, owns}
use denote.RawPtr.{Ptr, ptr_val, in_a_block}
use denote.Signature.{plain, types_at}
use denote.Steps.{nothing, heard}
use denote.Triple.Call.{calls_at_last}
use denote.Triple.Walked.{Stays, stay_dropped, walk_of, Goes-dropped}
use Rattle.core.{proofs.alloc.Calls.{Al, token, Gives, at_gives, Gives-goes, Gives-Gives, Goes-blank}, proofs.mem.Param.{El, R, elτ}, proofs.slots.Leases.{uncapped, block_ty, block_size, block_align, args, P}}
use Rattle.std.{proofs.raw_atomic.Walks.{proved_at, leaves}, specs.Prelude.None}
use Rattle.std_alloc.{proofs.RawLayout.as_raw, proofs.RcSteps.word-Good, proofs.VecSteps.Shapes.after}
use Rattle.slot_arena.{specs.Owned.{owned_places, owned_lease}, proofs.Rooms.{Row, First, PlaceValue, step_of, mark_told, word_told, room_of_row}, proofs.block.release.Statement.statement}
use Rattle.slot_arena.specs.contracts.block.Lease as lease
use Rattle.slot_arena.specs.contracts.block.release as f
use Rattle.slot_arena.proofs.block.release.Code as code

pub release_spec : {M : Type 1} → statement M
unfolding tables_of
release_spec 𝓤 𝓛 𝓜 𝓡 wired T W laws alloc_laws g d dd met md =
    let E : El = record { row = T; laws = laws } in let Z : Al = record { row = W; laws = alloc_laws; g = g; d = d; drops = dd } in let fn : Fn = inst_fn (args E Z) code.function in
    let ended = f.ended T W g d dd in let params = ended.signature.params in let c = f.clauses T W g d dd 𝓛 𝓜.mem 𝓡.returns in
    let Leave : RattleType = lease.the_row (R E) (P E Z) g in
    let handle = RefOf {n = 3} (0 ∷ []) tt (plain (λ _. P E Z)) (λ _. tt) in let by_value = plain {n = 3} (λ _. First E) in let number = plain {n = 3} (λ _. usize) in
    let owner = plain {n = 3} (λ _. Row E) in let leave = plain {n = 3} (λ _. Leave) in let kept = ended.kept in
    let stays : Stays params kept =
    (stay_dropped handle kept.0, (stay_dropped by_value kept.1.0, (stay_dropped number kept.1.1.0, (stay_dropped owner kept.1.1.1.0, (stay_dropped leave kept.1.1.1.1.0, tt))))) in
    let 𝓣 = tables_of 𝓤 𝓛.H 𝓜 (tables 𝓤 𝓛.H 𝓜 𝓡 𝓡.env) in let C = 𝓣.C in let Λ = 𝓣.Λ in
    proved_at 𝓛 ended stays c 𝓜 𝓡 (
      Goes-dropped 𝓛 3 handle kept.0 (λ κs x w. refl),
      (
        Goes-dropped 𝓛 3 by_value kept.1.0 (λ κs x w. refl),
        (
          Goes-dropped 𝓛 3 number kept.1.1.0 (λ κs x w. refl),
          (Goes-blank 𝓛 3 owner kept.1.1.1.0 (λ κs x w. tt), (Goes-blank 𝓛 3 leave kept.1.1.1.1.0 (λ κs x w. tt), tt)),
        ),
      ),
    )
    (f.Key.name (args E Z)) fn (code.unfolded 𝓤 𝓛.H 𝓜 𝓡 wired (T, (W, tt)) d dd) (λ y are.
    let Post = (walk_of 𝓛 ended stays c).post y in
    let κ : Lft = y.0.0.0 in let κ₁ : Lft = y.0.0.1.0 in let κ₂ : Lft = y.0.0.1.1.0 in let q = y.0.1.0 in let q₁ = y.0.1.1.0 in let q₂ = y.0.1.1.1.0 in let a = y.0.3 in let vss = y.0.4 in
    let self = a.0 in let start = a.1.0 in let len = a.1.1.0 in let p = a.1.1.1.0 in let lent = a.1.1.1.1.0 in let s = step_of E in
    let tokens = ‵ (flft κ₁ q₁) ⊛ ‵ (flft κ₂ q₂) ⊛ ‵ ftrue in
    let Asks = (p.at ≡ start.ptr) × (p.row ≡ replicate len None) × (lent.at ≡ start.ptr) × (lent.len ≡ len) × (lent.alloc ≡ self.now) in
    qed 𝓛 (((‵ (flft κ q) ⊛ tokens) ⊛ ‵ (owns (types_at params y.0.0) a vss)) ∷ (raw (fact 𝓤 (κ₁ ⊑ T.lives)) ⊛ raw (fact 𝓤 (κ₂ ⊑ W.lives)) ⊛ raw (fact 𝓤 Asks)) ∷ []) ∵
    move ! (1 ∷ []) $ split ! $ drop ! $ split ! $ heard ! _ (λ lives. heard ! _ (λ asked. split ! $ split ! $ move ! (2 ∷ []) $
    -- [what the parameters own; the handle's token; the other tokens]
    fsplit3 ! $ fsplit ! $ feq_l ! (λ e0. move ! (1 ∷ []) $ word_told ! start.ptr vss.1.0 (λ e1. move ! (1 ∷ []) $ fsplit3 ! $ fsplit ! $ feq_l ! (λ e2. flt_l ! (λ len_fits.
    fsplit ! $ mark_told ! E vss.1.1.1.0 (λ e3. move ! (1 ∷ []) $ fsplit ! $ fsplit ! $ mark_told ! E vss.1.1.1.1.0 (λ e4. move ! (1 ∷ []) $ drop ! $ move ! (1 ∷ []) $
    regoal ! (λ (us : List Val × List Val × List Val × List Val × List Val). prop (WpFn 𝓤 𝓛.H C Λ fn (us.0 ++ (us.1 ++ (us.2 ++ (us.3 ++ (us.4 ++ []))))) Post))
    (λ j. (e0 j, e1 j, e2 j, e3 j, e4 j)) refl $
    -- [the places; the lease; the handle; its token; the other tokens]
    enter ! C Λ fn _ Post $ alloc_all ! (λ l. pass_all ! refl ((tt, tt), (word-Good [] start.ptr, ((tt, record { fits = len_fits }), ((tt, (tt, tt)), ((tt, (tt, tt)), tt))))) $
    rewrite ! 0 (λ (at : Ptr × List (PlaceValue E)). ‵ (owned_places (R E) at.0 at.1)) (λ i. (asked.0 i, asked.1 i)) refl $
    in_a_block ! start.ptr (λ at. owned_places (R E) at (replicate len None)) (id⊢ 𝓤 (never 𝓤)) (λ b o at_block. fsplit ! $ flt_l ! (λ row_fits.
    let bytes_fit : len * s < 2 ^ 64 = let small : len * s < 2 ^ 63 = subst (λ n. n * s < 2 ^ 63) (length-replicate len None) row_fits in omega arith in
    let al : ℕ = capped (align (elτ E)) in let same = uncapped len s bytes_fit in
    let z : (Gives Z 𝓛 𝓜.mem 𝓡.returns).Ghost = at_gives Z 𝓛 𝓜.mem 𝓡.returns κ q self.ref_ptr self.now b o (len * s) al (block_ty E len) in
    rewrite ! 1 (λ (l : W.Denot × Ptr × ℕ). ‵ (owned_lease (R E) (token Z l.0) l.1 l.2)) (λ i. (asked.4 i, (asked.2 ∙ at_block) i, asked.3 i)) refl $
    use1 𝓛 (‵ (froom (ty_array (elτ E) len) b o)) (room_of_row E 𝓛 b len o) $ as_raw ! (ty_array (elτ E) len) b o $ first ! $ blocks ! $
    sets ! (is ! (of_opd ! (get_in ! (fld ! refl (stop !)) (sub ! 0 refl (whole !)))) (ap ptr_val at_block)) refl (tt, tt) $
    sets ! (is ! (bin ! (get ! refl) (size_word !) (record { fits = subst (λ (n : ℕ). n < 2 ^ 64) (sym same) bytes_fit })) (ap (vint w64) same)) refl (tt, record { fits = bytes_fit }) $
    group ! 4 $ use1 𝓛 (raw ((Gives Z 𝓛 𝓜.mem 𝓡.returns).pre z))
    (Gives-goes Z 𝓛 𝓜.mem 𝓡.returns κ q self.ref_ptr self.now (Incl-trans y.0.2.0 lives) b o (len * s) al (block_ty E len)
    (block_size E len bytes_fit) (block_align E len) bytes_fit (capped_fits (align (elτ E)))) $
    calls_at_last ! (fm_of 𝓤 𝓛.H 𝓛.laws 𝓣) (Gives Z 𝓛 𝓜.mem 𝓡.returns) (met.deallocate dd) z
    (and_then ! (get ! refl) (and_then ! (get ! refl) (and_then ! (get ! refl) (and_then ! (align_word !) (no_more !))))) (λ v.
    use1 𝓛 (later (given (v ≡ vunit) (‵ (flft κ q)))) (Gives-Gives Z 𝓛 𝓜.mem 𝓡.returns κ q self.ref_ptr self.now b o (len * s) al (block_ty E len) v) $ await ! tt $ learn ! (λ is_unit.
    -- [the handle's token; the other tokens]
    lands_last ! refl (subst (λ (w : Val). T-of (has_ty ty_unit w) × WT w) (sym is_unit) (tt, tt)) $ exec ! C Λ (env fn.locals l) (after 1 fn.body) (at_ret (env fn.locals l) Post) $
    sets ! (of_opd ! (unit_lit !)) refl (tt, tt) $ returns ! (look_at ! 0 refl) $ free_all ! refl $
    nothing ! $ feq_i ! (List Val) (vunit ∷ []) (vunit ∷ []) refl $ join ! $
    nothing ! $ nothing ! $ fjoin ! $ nothing ! $ fjoin ! $ nothing ! $ fjoin ! $ nothing ! $ fjoin ! $ nothing ! $ fjoin ! $ join ! $ move ! (1 ∷ 2 ∷ 0 ∷ []) $ join ! $ join ! $
    by ! (leaves 𝓛 ended stays c y vunit tt (tt, (tt, (tt, (tt, (tt, tt))))) (tt, (tt, (tt, (tt, (tt, tt))))))))))))))))))))
