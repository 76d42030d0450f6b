-- `reserve` cuts the new block into empty places, and keeps the allocator's leave to take it back.
use mathlib.Core.Path.{◌≡◌, refl, sym, ap, subst}
use mathlib.Core.Bool.{true, false}
use Prim.Native.Nat.{ℕ, ◌*◌, ◌<◌, ◌^◌}
use native.Mathlib.Omega.{arith}
use mathlib.Core.List.{List, [], ◌∷◌, ◌++◌}
use lib.Dec.{lit<}
use lib.ListN.{length, replicate, length-replicate}
use base.Logic.{emp}
use base.Fml.{Lft, Incl-trans, ftrue, flft}
use mir.Syntax.{Fn, Body, ty_array, w64}
use mir.MapTy.{inst_fn}
use mir.Val.{Val, vint, vstruct, vcons, vnil}
use prog.Capped.{capped_fits}
use prog.Memory.{align, capped}
use prog.Wp.{WpFn, Wp, after_seq, at_return}
use contract.BorrowLft.{◌⊑◌}
use contract.Monad.{fact, fact_i}
use contract.Running.{tables, tables_of}
use sound.WpLaws.{fm_of}
use types.Kit.{Post as After, any_q, ‵, raw, prop, ◌⊛◌, Sq, later, await, at_ret, ◌$◌, ◌∵◌, !, qed, by, move, drop, use0, use1, use2, use3, split, join, regoal, fsplit, fjoin, feq_l, flt_i, flt_l}
use types.Match.{live, vrt, in_variant}
use types.Part.{whole, agg}
use types.Run.{stop, fld, lit, of_opd, and_then, no_more, bin, size_word, align_word, first, switches_on, exec, returns, enter}
use types.ByLocal.{alloc_all, pass_all, free_all, look_at, get, get_in, get_tag, is, lands_as, sets, sets_last, env}
use denote.Builtin.{RefOf, usize}
use denote.Laws.{Is}
use denote.RattleType.{RattleType, owns}
use denote.Param.{layout}
use denote.RawPtr.{Ptr, block_ptr}
use denote.Signature.{plain, types_at}
use denote.Steps.{nothing, heard, owned}
use denote.Struct.Declared as Declared
use denote.Struct.Struct.{Struct, Struct-Makes}
use denote.Struct.Tuple.{Tuple}
use denote.Triple.Call.{calls_at}
use denote.Triple.Walked.{Stays, stay_dropped, walk_of, Goes-dropped}
use Rattle.core.{proofs.alloc.Calls.{Al, Answer-typed, Takes, at_takes, Answered, Takes-goes, Takes-gives, answers}, proofs.mem.Param.{El, R, elτ}, proofs.slots.Leases.{uncapped, block_ty, block_size, block_align, args, P}}
use Rattle.core.specs.contracts.alloc.AllocError as refusal
use Rattle.core.specs.contracts.result.Result as result
use Rattle.std.{proofs.raw_atomic.Walks.{proved_at, leaves}, specs.Prelude.{None, IfOk, Ok, Err}}
use Rattle.std_alloc.{proofs.RawLayout.as_written, proofs.RcSteps.{Good, first_Good, word-Good, word}, proofs.ResultValues.{ok_of, err_of}, proofs.VecSteps.Shapes.{after, head, arm_body}, specs.Vec.Ownership.FitsInBlock}
use Rattle.slot_arena.{specs.Owned.places_at, proofs.Rooms.{Row, First, Mark, step_of, mark, mark_made, word_made, three, three_made, row_of_room}, proofs.block.reserve.Statement.statement}
use Rattle.slot_arena.specs.contracts.block.Lease as lease
use Rattle.slot_arena.specs.contracts.block.reserve as f
use Rattle.slot_arena.proofs.block.reserve.Code as code

pub reserve_spec : {M : Type 1} → statement M
unfolding tables_of
reserve_spec 𝓤 𝓛 𝓜 𝓡 wired T W laws alloc_laws g d dd met md =
    let E : El = record { row = T; laws = laws } in let Z : Al = record { row = W; laws = alloc_laws; g = g; d = d; drops = dd } in let fn : Fn = inst_fn (args E Z) code.function in
    let ended = f.ended T W g d dd in let params = ended.signature.params in let c = f.clauses T W g d dd 𝓛 𝓜.mem 𝓡.returns in
    let Leave : RattleType = lease.the_row (R E) (P E Z) g in let Parts : RattleType = Tuple (First E ∷ Row E ∷ Leave ∷ []) in let Out : RattleType = result.the_row Parts refusal.the_row in
    let handle = RefOf {n = 3} (0 ∷ []) tt (plain (λ _. P E Z)) (λ _. tt) in let number = plain {n = 3} (λ _. usize) in let kept = ended.kept in
    let stays : Stays params kept = (stay_dropped handle kept.0, (stay_dropped number kept.1.0, tt)) in
    let 𝓣 = tables_of 𝓤 𝓛.H 𝓜 (tables 𝓤 𝓛.H 𝓜 𝓡 𝓡.env) in let C = 𝓣.C in let Λ = 𝓣.Λ in
    proved_at 𝓛 ended stays c 𝓜 𝓡 (Goes-dropped 𝓛 3 handle kept.0 (λ κs x w. refl), (Goes-dropped 𝓛 3 number kept.1.0 (λ κs x w. refl), tt))
    (f.Key.name (args E Z)) fn (code.unfolded 𝓤 𝓛.H 𝓜 𝓡 wired (T, (W, tt)) d dd) (λ y are.
    let Post = (walk_of 𝓛 ended stays c).post y in
    let κ : Lft = y.0.0.0 in let κ₁ : Lft = y.0.0.1.0 in let κ₂ : Lft = y.0.0.1.1.0 in let q = y.0.1.0 in let q₁ = y.0.1.1.0 in let q₂ = y.0.1.1.1.0 in let a = y.0.3 in let vss = y.0.4 in
    let self = a.0 in let len = a.1.0 in let s = step_of E in
    let tokens = ‵ (flft κ₁ q₁) ⊛ ‵ (flft κ₂ q₂) ⊛ ‵ ftrue in
    let Gives : Out.Denot → Type 0 = λ r. IfOk r (λ t. (t.1.at ≡ t.0.ptr) × (t.1.row ≡ replicate len None) × (t.2.at ≡ t.0.ptr) × (t.2.len ≡ len) × (t.2.alloc ≡ self.now)) in
    -- from [the answer; the handle's token; the other tokens], at the return
    let ends : (r : Out.Denot) (v : Val) → Gives r → Sq 𝓛 (‵ (Out.own_val r (v ∷ [])) ∷ ‵ (flft κ q) ∷ tokens ∷ []) (prop (Post v)) = λ r v gives.
    use0 𝓛 (raw (fact 𝓤 (Gives r))) (fact_i 𝓤 (Gives r) (emp 𝓤) gives) $ move ! (1 ∷ 0 ∷ []) $ join ! $
    nothing ! $ nothing ! $ fjoin ! $ nothing ! $ fjoin ! $ join ! $ move ! (1 ∷ 2 ∷ 0 ∷ []) $ join ! $ join ! $ by ! (leaves 𝓛 ended stays c y v r (tt, (tt, tt)) (tt, (tt, tt))) in
    qed 𝓛 (((‵ (flft κ q) ⊛ tokens) ⊛ ‵ (owns (types_at params y.0.0) a vss)) ∷ (raw (fact 𝓤 (κ₁ ⊑ T.lives)) ⊛ raw (fact 𝓤 (κ₂ ⊑ W.lives)) ⊛ raw (fact 𝓤 (FitsInBlock (R E) len))) ∷ []) ∵
    move ! (1 ∷ []) $ split ! $ drop ! $ split ! $ heard ! _ (λ lives. heard ! _ (λ asked. split ! $ split ! $ move ! (2 ∷ []) $
    -- [what the parameters own; the handle's token; the other tokens]
    fsplit ! $ fsplit ! $ feq_l ! (λ e0. move ! (1 ∷ []) $ fsplit ! $ fsplit ! $ feq_l ! (λ e1. flt_l ! (λ len_fits. drop ! $
    regoal ! (λ (us : List Val × List Val). prop (WpFn 𝓤 𝓛.H C Λ fn (us.0 ++ (us.1 ++ [])) Post)) (λ j. (e0 j, e1 j)) refl $
    -- [the handle; its token; the other tokens]
    enter ! C Λ fn _ Post $ alloc_all ! (λ l. pass_all ! refl ((tt, tt), ((tt, record { fits = len_fits }), tt)) $
    let small : len * s < 2 ^ 63 = asked.0 in let bytes_fit : len * s < 2 ^ 64 = omega arith in let En = env fn.locals l in
    let both : Body = head (after 2 fn.body) in let Then : After 𝓤 𝓛.H = any_q (after_seq 𝓤 𝓛.H (Wp 𝓤 𝓛.H C Λ En (after 3 fn.body) (at_return 𝓤 𝓛.H En Post)) (at_return 𝓤 𝓛.H En Post)) in
    let al : ℕ = capped (align (elτ E)) in let same = uncapped len s bytes_fit in let τ = block_ty E len in
    let z : (Takes Z 𝓛 𝓜.mem 𝓡.returns).Ghost = at_takes Z 𝓛 𝓜.mem 𝓡.returns κ q self.ref_ptr self.now (len * s) al τ in
    sets ! (is ! (bin ! (get ! refl) (size_word !) (record { fits = subst (λ (n : ℕ). n < 2 ^ 64) (sym same) bytes_fit })) (ap (vint w64) same)) refl (tt, record { fits = bytes_fit }) $
    use2 𝓛 (raw ((Takes Z 𝓛 𝓜.mem 𝓡.returns).pre z))
    (Takes-goes Z 𝓛 𝓜.mem 𝓡.returns κ q self.ref_ptr self.now (Incl-trans y.0.2.0 lives) (len * s) al τ (block_size E len bytes_fit) (block_align E len) bytes_fit (capped_fits (align (elτ E)))) $
    calls_at ! (fm_of 𝓤 𝓛.H 𝓛.laws 𝓣) (Takes Z 𝓛 𝓜.mem 𝓡.returns) (met.allocate dd) z (and_then ! (get ! refl) (and_then ! (get ! refl) (and_then ! (align_word !) (no_more !)))) (λ v.
    use1 𝓛 (later (raw (Answered Z 𝓛 𝓜.mem 𝓡.returns self.now τ v) ⊛ ‵ (flft κ q))) (Takes-gives Z 𝓛 𝓜.mem 𝓡.returns κ q self.ref_ptr self.now (len * s) al τ v) $ await ! tt $ split ! $
    answers Z ! 𝓜.mem 𝓡.returns self.now τ v
    -- a block came: [its room; the allocator's leave; the handle's token; the other tokens]
    (λ b o is_block.
    let at : Ptr = block_ptr b o in let start : (First E).Denot = record { ptr = at } in
    let places : (Row E).Denot = record { mark = record {}; at = at; row = replicate len None } in let lent : Leave.Denot = record { mark = record {}; at = at; len = len; alloc = self.now } in
    let made : Val = three (word at) mark mark in let typed : Good (layout Parts) made = (tt, ((tt, tt), ((tt, tt), ((tt, tt), tt)))) in let ok = first_Good (layout Parts) made typed in
    lands_as ! is_block refl (Answer-typed true b o) $ first ! $ switches_on ! (get_tag ! (vrt ! refl (fld ! refl (stop !))) (whole !)) $ exec ! C Λ En (arm_body 0 both) Then $
    sets ! (of_opd ! (get_in ! (vrt ! refl (fld ! refl (stop !))) (in_variant ! 0 0 refl refl (whole !)))) refl (tt, tt) $ sets ! (of_opd ! (get ! refl)) refl (tt, tt) $
    sets ! (agg ! (and_then ! (get ! refl) (no_more !))) refl (word-Good [] at) $
    sets ! (agg ! (no_more !)) refl (tt, tt) $ sets ! (agg ! (and_then ! (get ! refl) (no_more !))) refl (tt, (tt, tt)) $
    sets ! (agg ! (no_more !)) refl (tt, tt) $ sets ! (agg ! (and_then ! (get ! refl) (no_more !))) refl (tt, (tt, tt)) $
    sets ! (agg ! (and_then ! (get ! refl) (and_then ! (get ! refl) (and_then ! (get ! refl) (no_more !))))) refl typed $
    sets_last ! (agg ! (and_then ! (lit ! tt) (and_then ! (get ! refl) (no_more !)))) refl ok $
    exec ! C Λ En (after 3 fn.body) (at_ret En Post) $ sets ! (of_opd ! (get ! refl)) refl ok $
    move ! (1 ∷ []) $ use0 𝓛 (‵ ((Mark E).own_val (tt, tt) (mark ∷ []))) (mark_made E 𝓛) $ fjoin ! $ move ! (1 ∷ []) $
    as_written ! (ty_array (elτ E) len) b o $ use1 𝓛 (‵ (places_at (R E) b o places.row)) (row_of_room E 𝓛 b len o) $
    flt_i ! (length places.row * s) (2 ^ 63) (subst (λ n. n * s < 2 ^ 63) (sym (length-replicate len None)) small) $ fjoin ! $
    use0 𝓛 (‵ ((Mark E).own_val (tt, tt) (mark ∷ []))) (mark_made E 𝓛) $ fjoin ! $ word_made ! at $
    use3 𝓛 (‵ (Parts.own_val (start, places, lent) (made ∷ []))) (three_made 𝓛 (First E) (Row E) Leave start places lent (word at) mark mark) $
    use1 𝓛 (‵ (Out.own_val (Ok (start, places, lent)) (live 0 (vcons made vnil) ∷ []))) (ok_of 𝓛 Parts refusal.the_row (start, places, lent) made) $
    returns ! (look_at ! 0 refl) $ free_all ! refl $ ends (Ok (start, places, lent)) (live 0 (vcons made vnil)) (refl, refl, refl, refl, refl))
    -- none came: [nothing; the handle's token; the other tokens]
    (λ is_refusal.
    let Refusal : RattleType = Struct (Declared.shape refusal.the_type) in let none : Val = live 1 (vcons (vstruct vnil) vnil) in
    lands_as ! is_refusal refl (Answer-typed false 0 0) $ first ! $ switches_on ! (get_tag ! (vrt ! refl (fld ! refl (stop !))) (whole !)) $ exec ! C Λ En (arm_body 1 both) Then $
    sets ! (of_opd ! (get_in ! (vrt ! refl (fld ! refl (stop !))) (in_variant ! 1 0 refl refl (whole !)))) refl (tt, tt) $
    sets_last ! (agg ! (and_then ! (lit ! tt) (and_then ! (get ! refl) (no_more !)))) refl (tt, (record { fits = lit< tt }, (tt, tt))) $
    exec ! C Λ En (after 3 fn.body) (at_ret En Post) $ sets ! (of_opd ! (get ! refl)) refl (tt, (record { fits = lit< tt }, (tt, tt))) $
    owned ! Refusal (Is Refusal) (Struct-Makes 𝓛 (Declared.shape refusal.the_type) tt) tt (vstruct vnil ∷ []) (tt, (refl, tt)) $
    use1 𝓛 (‵ (Out.own_val (Err (record {})) (none ∷ []))) (err_of 𝓛 Parts refusal.the_row (record {}) (vstruct vnil)) $
    returns ! (look_at ! 0 refl) $ free_all ! refl $ ends (Err (record {})) none tt)))))))))
