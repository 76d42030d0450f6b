-- What a table keeps, under its edits.
use Rattle.std.{proofs.lemmas.Grind.common_steps, proofs.Common.{◌≡◌, ℕ, ◌+◌, ◌<◌, ◌≤◌, true, false, cond, List, [], ◌∷◌, ◌++◌, Option, Some, None, is_some, length, refl, sym, ap, ◌∙◌, subst, arith, inl, inr, length-append, option_map}, specs.Ordering.eq_by_cmp}
use Rattle.transaction_map.{proofs.Rising.same_id, proofs.Found.{put_cases, out_cases, rising_put, rising_out, length_put, length_out}}
use Rattle.event_chain.{specs.declared.row.TableRow.TableRow, specs.Table.{Table, TxRow, AreSlotted, IsFresh, id_cmp, row_of, with_row, without_row}, specs.TableKept.{AreSpare, IsTable}}
use Rattle.slot_arena.specs.Free.{IsApart}

-- The last of the slots to spare.
pub record IsLast (capacity slot : ℕ) (rows : List TxRow) (ss : List ℕ) : Type 0 where
  pub fresh : IsFresh slot rows
  pub below : slot < capacity
  pub none : IsApart slot ss
  pub rest : AreSpare capacity rows ss

-- A number is no element of the parts of a list that it is none of.
none_parts : (n s : ℕ) (ss : List ℕ) → IsApart n (ss ++ s ∷ []) → IsApart n ss × (n ≡ s → ⊥)
none_parts n s [] h = (tt, h.0)
none_parts n s (m ∷ ss) h = let rest = none_parts n s ss h.1 in ((h.0, rest.0), rest.1)

-- The slots to spare, with the last apart.
pub last_spare : (capacity slot : ℕ) (rows : List TxRow) (ss : List ℕ) → AreSpare capacity rows (ss ++ slot ∷ []) → IsLast capacity slot rows ss
last_spare capacity slot rows [] h = record { fresh = h.0; below = h.1.0; none = tt; rest = tt }
last_spare capacity slot rows (s ∷ ss) h =
    let rest = last_spare capacity slot rows ss h.1.1.1 in let none = none_parts s slot ss h.1.1.0 in
    record { fresh = rest.fresh; below = rest.below; none = ((λ e. none.1 (sym e)), rest.none); rest = (h.0, (h.1.0, (none.0, rest.rest))) }

-- A slot of none of them goes to the end.
none_more : (n s : ℕ) (ss : List ℕ) → IsApart n ss → (n ≡ s → ⊥) → IsApart n (ss ++ s ∷ [])
none_more n s [] h apart = (apart, tt)
none_more n s (m ∷ ss) h apart = (h.0, none_more n s ss h.1 apart)

-- One more slot to spare.
pub more_spare : (capacity slot : ℕ) (rows : List TxRow) (ss : List ℕ) → IsLast capacity slot rows ss → AreSpare capacity rows (ss ++ slot ∷ [])
more_spare capacity slot rows [] last = (last.fresh, (last.below, (tt, tt)))
more_spare capacity slot rows (s ∷ ss) last = (
  last.rest.0,
  (
    last.rest.1.0,
    (
      none_more s slot ss last.rest.1.1.0 (λ e. last.none.0 (sym e)),
      more_spare capacity slot rows ss (record { fresh = last.fresh; below = last.below; none = last.none.1; rest = last.rest.1.1.1 }),
    ),
  ),
)

-- Slots to spare, among other rows where each is as fresh.
pub spare_on : (capacity : ℕ) (rows new : List TxRow) (n : ℕ) (ss : List ℕ) → IsApart n ss
    → ((s : ℕ) → (n ≡ s → ⊥) → IsFresh s rows → IsFresh s new) → AreSpare capacity rows ss → AreSpare capacity new ss
spare_on capacity rows new n [] none turn h = tt
spare_on capacity rows new n (s ∷ ss) none turn h = (turn s none.0 h.0, (h.1.0, (h.1.1.0, spare_on capacity rows new n ss none.1 turn h.1.1.1)))

-- A slot that is no transaction's is none of those to spare where it is one's.
pub none_fresh : (capacity : ℕ) (tx : List ℕ) (row : TableRow) (rows : List TxRow) (ss : List ℕ) → row_of tx rows ≡ Some row → AreSpare capacity rows ss → IsApart row.slot ss
none_fresh capacity tx row rows [] there h = tt
none_fresh capacity tx row rows (s ∷ ss) there h = (h.0 tx row there, none_fresh capacity tx row rows ss there h.1.1.1)

-- A transaction put in with a slot that was to spare.
pub IsTable-add : (rows : List TxRow) (spare ss : List ℕ) (capacity slot : ℕ) (tx : List ℕ) (r : TableRow)
    → spare ≡ ss ++ slot ∷ [] → IsTable rows spare capacity → row_of tx rows ≡ None → r.slot ≡ slot
    → IsTable (with_row tx r rows) ss capacity
IsTable-add rows spare ss capacity slot tx r is table absent same = grind (arith, common_steps, last_spare, rising_put, put_cases, spare_on, length_put)

-- What is kept of a transaction changed, except for its slot.
pub IsTable-set : (rows : List TxRow) (ss : List ℕ) (capacity : ℕ) (tx : List ℕ) (old r : TableRow) → IsTable rows ss capacity
    → row_of tx rows ≡ Some old → r.slot ≡ old.slot → IsTable (with_row tx r rows) ss capacity
IsTable-set rows ss capacity tx old r table there same =
    let back : (q : List ℕ) (x : TableRow) → row_of q (with_row tx r rows) ≡ Some x → (y : TableRow) × ((row_of q rows ≡ Some y) × (x.slot ≡ y.slot)) = λ q x at. elim (put_cases q tx r x rows at) [
      | inl a ↦ (old, (ap (λ k. row_of k rows) a.0 ∙ there, ap (λ (z : TableRow). z.slot) a.1 ∙ same))
      | inr a ↦ (x, (a, refl))
    ] in
    record {
      rising = rising_put tx r rows table.rising;
      apart = λ q o x y at ay e. let a = back q x at in let b = back o y ay in table.apart q o a.0 b.0 a.1.0 b.1.0 (sym a.1.1 ∙ e ∙ b.1.1);
      below = λ q x at. let a = back q x at in subst (λ n. n < capacity) (sym a.1.1) (table.below q a.0 a.1.0);
      spare_are = spare_on capacity rows (with_row tx r rows) old.slot ss (none_fresh capacity tx old rows ss there table.spare_are)
          (λ s other was q x at e. let a = back q x at in was q a.0 a.1.0 (sym a.1.1 ∙ e)) table.spare_are;
      total = let n = length_put tx r rows table.rising ∙ ap (λ (o : Option TableRow). cond (is_some o) (length rows) (length rows + 1)) there in omega (arith, n, table.total);
      few = table.few;
    }

-- A transaction taken out, and its slot given back.
pub IsTable-remove : (rows : List TxRow) (ss : List ℕ) (capacity : ℕ) (tx : List ℕ) (r : TableRow) → IsTable rows ss capacity
    → row_of tx rows ≡ Some r → IsTable (without_row tx rows) (ss ++ r.slot ∷ []) capacity
IsTable-remove rows ss capacity tx r table there =
    let new : List TxRow = without_row tx rows in
    let gone : IsFresh r.slot new = λ q x at e. let o = out_cases q tx x rows at in
    let is = table.apart q tx x r o.1 there e in
    let f : false ≡ true = sym o.0 ∙ ap (λ k. eq_by_cmp id_cmp k tx) is ∙ same_id tx in cc in
    record {
      rising = rising_out tx rows table.rising;
      apart = λ q o x y at ay e. table.apart q o x y (out_cases q tx x rows at).1 (out_cases o tx y rows ay).1 e;
      below = λ q x at. table.below q x (out_cases q tx x rows at).1;
      spare_are = more_spare capacity r.slot new ss (record {
        fresh = gone;
        below = table.below tx r there;
        none = none_fresh capacity tx r rows ss there table.spare_are;
        rest = spare_on capacity rows new r.slot ss (none_fresh capacity tx r rows ss there table.spare_are) (λ s other was q x at e. was q x (out_cases q tx x rows at).1 e) table.spare_are;
      });
      total = let n = length_out tx rows table.rising in
          let one = ap (λ (o : Option TableRow). cond {A = ℕ} (is_some o) 1 0) there in omega (arith, n, one, table.total, length-append ss (r.slot ∷ []));
      few = table.few;
    }

-- Each of them is the number or above it.
abbrev pub AreFrom : ℕ → List ℕ → Type 0
AreFrom n [] = Unit {0}
AreFrom n (s ∷ ss) = (n ≤ s) × AreFrom n ss

-- A number is none of those above it.
none_from : (n : ℕ) (ss : List ℕ) → AreFrom (n + 1) ss → IsApart n ss
none_from n [] h = tt
none_from n (s ∷ ss) h = let le = h.0 in ((λ (e : n ≡ s). let f : n ≡ s = e in absurd (omega arith)), none_from n ss h.1)

-- One more behind those above it.
from_more : (n : ℕ) (ss : List ℕ) → AreFrom (n + 1) ss → AreFrom n (ss ++ n ∷ [])
from_more n [] h = (omega arith, tt)
from_more n (s ∷ ss) h = let le = h.0 in (omega arith, from_more n ss h.1)

-- The next slot of an empty table, below those that it has.
pub open_spare : (capacity n : ℕ) (ss new : List ℕ) → new ≡ ss ++ n ∷ [] → n < capacity → AreFrom (n + 1) ss → AreSpare capacity [] ss → AreFrom n new × AreSpare capacity [] new
open_spare capacity n ss new is lt above h = grind (arith, common_steps, from_more, more_spare, none_from)

-- The row whose slot is known.
pub slot_there : (o : Option TableRow) (n : ℕ) → option_map (λ (r : TableRow). r.slot) o ≡ Some n → (row : TableRow) × ((o ≡ Some row) × (n ≡ row.slot))
slot_there o n h = grind (arith, common_steps)

-- Such rows rise, each with a slot of its own.
pub slotted : (t : Table) (ss : List ℕ) → IsTable t.rows ss t.capacity → AreSlotted t
slotted t ss table = record { rising = table.rising; apart = table.apart; below = table.below; few = table.few }

-- Tables of equal parts.
pub table_of : (t : Table) (rows : List TxRow) (ss : List ℕ) (capacity : ℕ) → t.rows ≡ rows → t.capacity ≡ capacity → IsTable rows ss capacity → IsTable t.rows ss t.capacity
table_of t rows ss capacity rows_are capacity_is h = subst (λ n. IsTable t.rows ss n) (sym capacity_is) (subst (λ rs. IsTable rs ss capacity) (sym rows_are) h)

-- A table with a row written, whose slot is kept.
pub table_set : (t new : Table) (ss : List ℕ) (tx : List ℕ) (r : TableRow) → IsTable t.rows ss t.capacity → option_map (λ (x : TableRow). x.slot) (row_of tx t.rows) ≡ Some r.slot
    → new.rows ≡ with_row tx r t.rows → new.capacity ≡ t.capacity → IsTable new.rows ss new.capacity
table_set t new ss tx r table slot rows capacity = let old = slot_there (row_of tx t.rows) r.slot slot in
    table_of new (with_row tx r t.rows) ss t.capacity rows capacity (IsTable-set t.rows ss t.capacity tx old.0 r table old.1.0 old.1.1)
