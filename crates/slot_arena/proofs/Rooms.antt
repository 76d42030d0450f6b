-- What the walks of the six pointer functions share: words and marks read and made, and one place taken out of a row
-- and put back.
use mathlib.Core.Path.{◌≡◌, refl, sym, subst}
use Prim.Native.Nat.{ℕ, zero, suc, ◌+◌, ◌*◌, ◌<◌}
use native.Mathlib.Omega.{arith}
use native.Mathlib.Nat.{zero-mul, suc-mul}
use mathlib.Core.List.{List, [], ◌∷◌, ◌++◌}
use lib.ListN.{length, set, get_or, replicate}
use seplogic.Ra.Ura.{Ura}
use mir.Syntax.{ty_array}
use mir.Val.{Val, vstruct, vcons, vnil, of_list}
use base.Logic.{ent, sep, emp}
use base.Fml.{Fml, Lft, ftrue, fsep, froom}
use types.Logic.{Logic, sem}
use types.Kit.{Item, Goal, Seq, Step, step, ‵, ◌⊛◌, ◌$◌, ◌∵◌, !, qed, by, move, keep, drop, use1, use2, split, frame, fsplit, fjoin, fpick, fpack, feq_i, feq_l, rewrite, done}
use denote.RattleType.{RattleType, Valss}
use denote.Laws.{Is, shows}
use denote.Param.{param}
use denote.Param.Laws.{param_laws}
use denote.RawPtr.{Ptr, RawPtr, ptr_val}
use denote.Shadow.{makes_shadow}
use denote.Steps.{nothing, peeks}
use denote.Struct.Struct.{Shape, Struct, within}
use denote.Struct.Owning.{shape}
use denote.Struct.Declared as Declared
use denote.Struct.Tuple.{Tuple, tuple_type}
use Rattle.std.{specs.Prelude.{Option, Some, None}, specs.Mem.type_size}
use Rattle.core.proofs.mem.Param.{El, R, el_x, elτ, one}
use Rattle.std_alloc.proofs.RcSteps.{Good, word}
use Rattle.slot_arena.specs.Owned.{place_at, places_at, place_lent, places_lent}
use Rattle.slot_arena.specs.contracts.block.Places as places
use Rattle.slot_arena.specs.contracts.block.Start as start

module _ (E : El) where
  -- The owner of the places, as the logic sees the type.
  abbrev pub Row : RattleType
  Row = places.the_row (R E)

  -- The start of the block.
  abbrev pub First : RattleType
  First = start.the_row (R E)

  -- The one field of the owner and of the lease, which takes no bytes.
  abbrev pub Mark : RattleType
  Mark = Struct (shape (places.the_type (R E)))

  -- The bytes from one place to the next.
  abbrev pub step_of : ℕ
  step_of = type_size (R E)

  -- What one place holds.
  abbrev pub PlaceValue : Type 0
  PlaceValue = Option (el_x E)

-- A struct of one pointer.
abbrev one_pointer : Shape
one_pointer = record { name = []; args = []; types = []; fields = RawPtr ∷ [] }

-- Its type, as the logic sees it.
abbrev pub Word : RattleType
Word = Struct one_pointer

-- The machine value of a struct with one field that takes no bytes.
abbrev pub mark : Val
mark = vstruct (vcons (vstruct vnil) vnil)

-- A mark is made of nothing.
pub mark_made : (E : El) {M : Type 1} {𝓤 : Ura M} (𝓛 : Logic 𝓤) → ent 𝓤 (emp 𝓤) (sem 𝓛 ((Mark E).own_val (tt, tt) (mark ∷ [])))
mark_made E 𝓛 = let owned : Fml = (Mark E).own_val (tt, tt) (mark ∷ []) in
    makes_shadow 𝓛 owned (λ vss. (tt, ((λ uss. (tt, tt)), tt))) ((vstruct vnil ∷ [], tt), (refl, ((tt, (refl, tt)), tt)))

module _ {M : Type 1} {𝓤 : Ura M} {𝓛 : Logic 𝓤} {K : Type 0} {Γ : List (Item 𝓤)} {G : Goal 𝓤 𝓛.H} where
  -- Which machine value a struct of one pointer has.
  pub word_told : K → (p : Ptr) (vs : List Val) → (vs ≡ word p ∷ [] → Seq K 𝓛 Γ G) → Seq K 𝓛 (‵ (Word.own_val (p, tt) vs) ∷ Γ) G
  word_told t p vs rest = fpick t (λ vss. fsplit t $ feq_l t (λ whole. fsplit t $ feq_l t (λ part. drop t $
      rest (subst (λ (ws : List Val). vs ≡ vstruct (of_list (ws ++ [])) ∷ []) part whole))))

  -- A struct of one pointer is made.
  pub word_made : K → (p : Ptr) → Step K 𝓛 (‵ (Word.own_val (p, tt) (word p ∷ [])) ∷ Γ) G Γ G
  word_made t p = step (λ rest. nothing t $
      feq_i t (List Val) (ptr_val p ∷ []) (ptr_val p ∷ []) refl $ fjoin t $ feq_i t (List Val) (word p ∷ []) (word p ∷ []) refl $ fjoin t $
      fpack t (Valss (RawPtr ∷ [])) (within one_pointer (p, tt) (word p ∷ [])) (ptr_val p ∷ [], tt) $ rest)

  -- Which machine value a mark has.
  pub mark_told : K → (E : El) (vs : List Val) → (vs ≡ mark ∷ [] → Seq K 𝓛 Γ G) → Seq K 𝓛 (‵ ((Mark E).own_val (tt, tt) vs) ∷ Γ) G
  mark_told t E vs rest = fpick t (λ vss. fsplit t $ feq_l t (λ whole. fsplit t $ fpick t (λ uss. fsplit t $ feq_l t (λ part. drop t $ drop t $
      rest (subst (λ (ws : List Val). vs ≡ vstruct (of_list (ws ++ [])) ∷ []) part whole)))))

  -- What is owned of a value of the type parameter is one machine value of its type.
  pub value_told : K → (E : El) (x : el_x E) (vs : List Val)
      → ((v : Val) → vs ≡ v ∷ [] → Good (elτ E) v → Seq K 𝓛 (‵ (E.row.own_val x (v ∷ [])) ∷ Γ) G) → Seq K 𝓛 (‵ (E.row.own_val x vs) ∷ Γ) G
  value_told t E x vs rest = peeks t (param 0 E.row) (Is (param 0 E.row)) (shows 𝓛 (param 0 E.row)) x vs (λ is.
      let got = one E vs (((param_laws 0 E.row E.laws).lawful 𝓛).typed x vs is) in
      rewrite t 0 (λ (us : List Val). ‵ (E.row.own_val x us)) got.1 refl $ rest got.0 got.1 got.2)

-- The machine value of a tuple of three.
abbrev pub three : Val → Val → Val → Val
three u v w = vstruct (vcons u (vcons v (vcons w vnil)))

-- A tuple of three is made of its parts.
pub three_made : {M : Type 1} {𝓤 : Ura M} (𝓛 : Logic 𝓤) (R S T : RattleType) (x : R.Denot) (y : S.Denot) (z : T.Denot) (u v w : Val)
    → ent 𝓤 (sep 𝓤 (sem 𝓛 (R.own_val x (u ∷ []))) (sep 𝓤 (sem 𝓛 (S.own_val y (v ∷ []))) (sem 𝓛 (T.own_val z (w ∷ []))))) (sem 𝓛 ((Tuple (R ∷ S ∷ T ∷ [])).own_val (x, y, z) (three u v w ∷ [])))
three_made 𝓛 R S T x y z u v w = let parts = R ∷ S ∷ T ∷ [] in let whole = three u v w ∷ [] in
    qed 𝓛 (‵ (R.own_val x (u ∷ [])) ∷ ‵ (S.own_val y (v ∷ [])) ∷ ‵ (T.own_val z (w ∷ [])) ∷ []) ∵
    nothing ! $ move ! (3 ∷ 0 ∷ []) $ fjoin ! $ move ! (2 ∷ 0 ∷ []) $ fjoin ! $ move ! (1 ∷ 0 ∷ []) $ fjoin ! $ feq_i ! (List Val) whole whole refl $ fjoin ! $
    fpack ! (Valss parts) (within (Declared.shape (tuple_type parts)) (x, (y, (z, tt))) whole) (u ∷ [], (v ∷ [], (w ∷ [], tt))) $ done !

-- A place that holds a value is in the row.
pub holding_within : {X : Type 0} (row : List (Option X)) (i : ℕ) (x : X) → get_or row i None ≡ Some x → i < length row
holding_within [] i x e = cc
holding_within (place ∷ row) zero x e = omega arith
holding_within (place ∷ row) (suc i) x e = omega (arith, holding_within row i x e)

module _ (E : El) (block : ℕ) where
  -- The other places of a row, where one is taken out.
  abbrev pub others : ℕ → List (PlaceValue E) → ℕ → Fml
  others at [] i = ftrue
  others at (place ∷ row) zero = places_at (R E) block (at + step_of E) row
  others at (place ∷ row) (suc i) = fsep (place_at (R E) block at place) (others (at + step_of E) row i)

-- Where the next place is, counted from here and from there.
one_on : (i s at : ℕ) → i * s + (at + s) ≡ suc i * s + at
one_on i s at = omega (arith, suc-mul i s)

-- The first place is where the row begins.
no_on : (s at : ℕ) → at ≡ 0 * s + at
no_on s at = omega (arith, zero-mul s)

module _ (E : El) {M : Type 1} {𝓤 : Ura M} (𝓛 : Logic 𝓤) (block : ℕ) where
  open 𝓛 use {H}

  -- The bytes from one place to the next.
  abbrev s : ℕ
  s = step_of E

  -- One place.
  abbrev One : ℕ → PlaceValue E → Fml
  One = place_at (R E) block

  -- A row of them.
  abbrev All : ℕ → List (PlaceValue E) → Fml
  All = places_at (R E) block

  -- One place is taken out of a row.
  pub taken_out : (row : List (PlaceValue E)) (i at : ℕ) → i < length row
      → ent 𝓤 (sem 𝓛 (All at row)) (sep 𝓤 (sem 𝓛 (One (i * s + at) (get_or row i None))) (sem 𝓛 (others E block at row i)))
  taken_out [] i at lt = absurd (omega arith)
  taken_out (place ∷ row) zero at lt = qed 𝓛 (‵ (All at (place ∷ row)) ∷ []) ∵ fsplit ! $ rewrite ! 0 (λ (k : ℕ). ‵ (One k place)) (no_on s at) refl $ done !
  taken_out (place ∷ row) (suc i) at lt = qed 𝓛 (‵ (All at (place ∷ row)) ∷ []) ∵ fsplit ! $ move ! (1 ∷ []) $
      use1 𝓛 (‵ (One (i * s + (at + s)) (get_or row i None)) ⊛ ‵ (others E block (at + s) row i)) (taken_out row i (at + s) (omega arith)) $ split ! $
      rewrite ! 0 (λ (k : ℕ). ‵ (One k (get_or row i None))) (one_on i s at) refl $ move ! (2 ∷ 1 ∷ []) $ fjoin ! $ move ! (1 ∷ []) $ done !

  -- It is put back, with another content.
  pub put_back : (row : List (PlaceValue E)) (i at : ℕ) (new : PlaceValue E) → i < length row
      → ent 𝓤 (sep 𝓤 (sem 𝓛 (One (i * s + at) new)) (sem 𝓛 (others E block at row i))) (sem 𝓛 (All at (set row i new)))
  put_back [] i at new lt = absurd (omega arith)
  put_back (place ∷ row) zero at new lt = qed 𝓛 (‵ (One (0 * s + at) new) ∷ ‵ (others E block at (place ∷ row) 0) ∷ []) ∵
      rewrite ! 0 (λ (k : ℕ). ‵ (One k new)) (sym (no_on s at)) refl $ fjoin ! $ done !
  put_back (place ∷ row) (suc i) at new lt = qed 𝓛 (‵ (One (suc i * s + at) new) ∷ ‵ (others E block at (place ∷ row) (suc i)) ∷ []) ∵
      rewrite ! 0 (λ (k : ℕ). ‵ (One k new)) (sym (one_on i s at)) refl $ move ! (1 ∷ []) $ fsplit ! $ move ! (2 ∷ 1 ∷ []) $
      use2 𝓛 (‵ (All (at + s) (set row i new))) (put_back row i (at + s) new (omega arith)) $ move ! (1 ∷ 0 ∷ []) $ fjoin ! $ done !

  -- A row shows each of its places.
  pub place_shown : (κ : Lft) (row : List (PlaceValue E)) (i at : ℕ) → i < length row
      → ent 𝓤 (sem 𝓛 (places_lent (R E) block at row κ)) (sem 𝓛 (place_lent (R E) block (i * s + at) (get_or row i None) κ))
  place_shown κ [] i at lt = absurd (omega arith)
  place_shown κ (place ∷ row) zero at lt = qed 𝓛 (‵ (places_lent (R E) block at (place ∷ row) κ) ∷ []) ∵ fsplit ! $ keep ! (0 ∷ []) $
      rewrite ! 0 (λ (k : ℕ). ‵ (place_lent (R E) block k place κ)) (no_on s at) refl $ done !
  place_shown κ (place ∷ row) (suc i) at lt = qed 𝓛 (‵ (places_lent (R E) block at (place ∷ row) κ) ∷ []) ∵ fsplit ! $ keep ! (1 ∷ []) $
      use1 𝓛 (‵ (place_lent (R E) block (i * s + (at + s)) (get_or row i None) κ)) (place_shown κ row i (at + s) (omega arith)) $
      rewrite ! 0 (λ (k : ℕ). ‵ (place_lent (R E) block k (get_or row i None) κ)) (one_on i s at) refl $ done !

  -- Room for an array is a row of empty places.
  pub row_of_room : (n at : ℕ) → ent 𝓤 (H.room (ty_array (elτ E) n) block at) (sem 𝓛 (All at (replicate n None)))
  row_of_room zero at = qed 𝓛 (‵ (froom (ty_array (elτ E) 0) block at) ∷ []) ∵ drop ! $ done !
  row_of_room (suc n) at = qed 𝓛 (‵ (froom (ty_array (elτ E) (suc n)) block at) ∷ []) ∵
      use1 𝓛 (‵ (froom (elτ E) block at) ⊛ ‵ (froom (ty_array (elτ E) n) block (at + s))) (𝓛.laws.room_uncons (elτ E) n block at) $ split ! $
      use1 𝓛 (‵ (One at None)) (𝓛.laws.room-raw (elτ E) block at) $ frame ! $ by ! (row_of_room n (at + s))

  -- A row of empty places is room for an array.
  pub room_of_row : (n at : ℕ) → ent 𝓤 (sem 𝓛 (All at (replicate n None))) (H.room (ty_array (elτ E) n) block at)
  room_of_row zero at = 𝓛.laws.room_nil (elτ E) block at
  room_of_row (suc n) at = qed 𝓛 (‵ (One at None) ∷ ‵ (All (at + s) (replicate n None)) ∷ []) ∵ move ! (1 ∷ []) $
      use1 𝓛 (‵ (froom (ty_array (elτ E) n) block (at + s))) (room_of_row n (at + s)) $ move ! (1 ∷ []) $
      use1 𝓛 (‵ (froom (elτ E) block at)) (𝓛.laws.raw-room (elτ E) block at) $ by ! (𝓛.laws.room_cons (elτ E) n block at)
