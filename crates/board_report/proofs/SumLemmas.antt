-- The sums of lines by period.
use Rattle.std.{proofs.Common.{◌≡◌, ℕ, zero, suc, ◌+◌, ◌-◌, ◌<◌, ◌≤◌, ◌^◌, ◌⊎◌, inl, inr, cond, eqb, List, [], ◌∷◌, ◌++◌, map, length, take, get_or, append-nil, refl, sym, ap, subst, ◌∙◌, arith, ⊎_elim}, specs.List.sum_by, proofs.lemmas.List.Elements.{All-nil, All-cons}, specs.List.Sorted.{IsPermutation, IsNonDecreasingBy}, proofs.lemmas.Bool.{eq-eqb, ne_eqb, lt-ltb, le-ltb, cases_order, cases_eq}, proofs.lemmas.List.take_more, proofs.lemmas.Grind.flat_map-append, proofs.lemmas.List.Sums.sum_by-cons, proofs.lemmas.List.Sorted.{sum_by-IsPermutation, IsPermutation-sym}}
use Rattle.energy_flow.specs.Flow.{Energy}
use Rattle.ledger_model.{specs.Periods.Periods, specs.Board.{Board, Flowed, flows_under}, specs.ByDirection.{no_flows, plus_flows, CanPlusFlows}, specs.declared.by_direction.ByDirection.ByDirection, specs.Energy.{put_in, rising}, specs.Quarter.IsQuarterOf, specs.BoardLaws.{AreRising, IsIn}, proofs.Callers.{put_in-same, put_in-below, put_in-above, rising-AreRising, rising-IsIn}}
use Rattle.board_report.{specs.Lines.{quarter_sums, AreInOrder, put_line, CanLead}, specs.Sums.{AreQuartersOf, QuartersFit, station_quarters}}

-- one of the four sums of energies of both directions: it adds up by itself
pub record Part : Type 0 where
  pub measure : ByDirection Energy → ℕ
  pub plus_of : (a b : ByDirection Energy) → measure (plus_flows a b) ≡ measure a + measure b
  pub none_of : measure no_flows ≡ 0

abbrev pub up : Part
up = record { measure = λ f. f.import.up; plus_of = λ a b. refl; none_of = refl }

abbrev pub down : Part
down = record { measure = λ f. f.import.down; plus_of = λ a b. refl; none_of = refl }

abbrev pub export_up : Part
export_up = record { measure = λ f. f.export.up; plus_of = λ a b. refl; none_of = refl }

abbrev pub export_down : Part
export_down = record { measure = λ f. f.export.down; plus_of = λ a b. refl; none_of = refl }

-- energies that agree in each of them are the same
same_flows : (a b : ByDirection Energy) → ((p : Part) → p.measure a ≡ p.measure b) → a ≡ b
same_flows a b each =
    let up_is : a.import.up ≡ b.import.up = each up in
    let down_is : a.import.down ≡ b.import.down = each down in
    let export_up_is : a.export.up ≡ b.export.up = each export_up in
    let export_down_is : a.export.down ≡ b.export.down = each export_down in
    λ i. record { import = record { up = up_is i; down = down_is i }; export = record { up = export_up_is i; down = export_down_is i } }

-- no energies have nothing
pub part_none : (p : Part) → p.measure no_flows ≡ 0
part_none p = p.none_of

plus_none : (f : ByDirection Energy) → plus_flows f no_flows ≡ f
plus_none f = same_flows (plus_flows f no_flows) f (λ p. p.plus_of f no_flows ∙ (let none = part_none p in omega (arith, none)))

-- the periods of lines
abbrev pub numbers : List Flowed → List ℕ
numbers lines = map (λ (line : Flowed). line.0) lines

-- the energy of a period, with one line more
pub under-own : (x : Flowed) (xs : List Flowed) (q : ℕ) → x.0 ≡ q → flows_under q (x ∷ xs) ≡ plus_flows x.1 (flows_under q xs)
under-own x xs q e = rw (eq-eqb x.0 q e) refl

pub under-other : (x : Flowed) (xs : List Flowed) (q : ℕ) → (x.0 ≡ q → ⊥) → flows_under q (x ∷ xs) ≡ flows_under q xs
under-other x xs q apart = rw (ne_eqb x.0 q apart) refl

-- a period that no line is of has no energy
pub under-none : (q : ℕ) (xs : List Flowed) → (IsIn q (numbers xs) → ⊥) → flows_under q xs ≡ no_flows
under-none q [] none = refl
under-none q (x ∷ xs) none = under-other x xs q (λ e. none (inl (sym e))) ∙ under-none q xs (λ h. none (inr h))

-- the three cases of a line that is put in
put_same : (x l : Flowed) (ls : List Flowed) → x.0 ≡ l.0 → put_line x (l ∷ ls) ≡ (l.0, plus_flows x.1 l.1) ∷ ls
put_same x l ls e = rw (eq-eqb x.0 l.0 e) refl

put_below : (x l : Flowed) (ls : List Flowed) → x.0 < l.0 → put_line x (l ∷ ls) ≡ x ∷ l ∷ ls
put_below x l ls h = rw (ne_eqb x.0 l.0 (λ e. absurd (omega arith)), lt-ltb x.0 l.0 h) refl

put_above : (x l : Flowed) (ls : List Flowed) → l.0 < x.0 → put_line x (l ∷ ls) ≡ l ∷ put_line x ls
put_above x l ls h = rw (ne_eqb x.0 l.0 (λ e. absurd (omega arith)), le-ltb x.0 l.0 (omega arith)) refl

-- a number below rising ones is none of them
below_not_in : (n m : ℕ) (ms : List ℕ) → n < m → AreRising (m ∷ ms) → IsIn n (m ∷ ms) → ⊥
below_not_in n m [] less up (inl e) = absurd (omega arith)
below_not_in n m [] less up (inr h) = h
below_not_in n m (k ∷ ms) less up (inl e) = absurd (omega arith)
below_not_in n m (k ∷ ms) less up (inr h) = below_not_in n k ms (let a : m < k = up.0 in omega arith) up.1 h

tail_rises : (m : ℕ) (ms : List ℕ) → AreRising (m ∷ ms) → AreRising ms
tail_rises m [] rise = tt
tail_rises m (k ∷ ms) rise = rise.1

module _ (x : Flowed) (was is : ℕ → ByDirection Energy) (agree : (k : ℕ) → (x.0 ≡ k → ⊥) → is k ≡ was k) (here : is x.0 ≡ plus_flows x.1 (was x.0)) where
  abbrev lines : (ℕ → ByDirection Energy) → List ℕ → List Flowed
  lines e ks = map (λ k. (k, e k)) ks

  -- what is above the number keeps its energy
  above_same : (low : ℕ) (ms : List ℕ) → x.0 ≤ low → AreRising (low ∷ ms) → lines was ms ≡ lines is ms
  above_same low [] le up = refl
  above_same low (k ∷ ms) le up =
      let above : low < k = up.0 in
      let same : was k ≡ is k = sym (agree k (λ e. absurd (omega arith))) in
      λ i. (k, same i) ∷ above_same k ms (omega arith) up.1 i

  put_rising : (ks : List ℕ) → AreRising ks → ((IsIn x.0 ks → ⊥) → was x.0 ≡ no_flows) → put_line x (lines was ks) ≡ lines is (put_in x.0 ks)
  put_rising [] up none =
      let one : x.1 ≡ is x.0 = sym (here ∙ ap (plus_flows x.1) (none (λ h. h)) ∙ plus_none x.1) in
      λ i. (x.0, one i) ∷ []
  put_rising (m ∷ ms) up none = ⊎_elim
      (λ (e : x.0 ≡ m).
      let at : plus_flows x.1 (was m) ≡ is m = ap (λ k. plus_flows x.1 (was k)) (sym e) ∙ sym here ∙ ap is e in
      put_same x (m, was m) (lines was ms) e
      ∙ (λ i. (m, at i) ∷ above_same m ms (omega arith) up i)
      ∙ ap (lines is) (sym (put_in-same x.0 m ms e)))
      (λ (o : (x.0 < m) ⊎ (m < x.0)). ⊎_elim
      (λ (below : x.0 < m).
      let one : x.1 ≡ is x.0 = sym (here ∙ ap (plus_flows x.1) (none (below_not_in x.0 m ms below up)) ∙ plus_none x.1) in
      put_below x (m, was m) (lines was ms) below
      ∙ (λ i. (x.0, one i) ∷ above_same x.0 (m ∷ ms) (omega arith) (below, up) i)
      ∙ ap (lines is) (sym (put_in-below x.0 m ms below)))
      (λ (above : m < x.0).
      let apart : x.0 ≡ m → ⊥ = λ e. absurd (omega arith) in
      let first : was m ≡ is m = sym (agree m apart) in
      put_above x (m, was m) (lines was ms) above
      ∙ (λ i. (m, first i) ∷ put_rising ms (tail_rises m ms up) (λ no. none (λ h. ⊎_elim (λ (e : x.0 ≡ m). apart e) (λ (there : IsIn x.0 ms). no there) h)) i)
      ∙ ap (lines is) (sym (put_in-above x.0 m ms above)))
      o)
      (cases_order x.0 m)

-- a line put into the sums of lines gives the sums of one line more
pub sums_more : (x : Flowed) (xs : List Flowed) → put_line x (quarter_sums xs) ≡ quarter_sums (x ∷ xs)
sums_more x xs = put_rising x (λ k. flows_under k xs) (λ k. flows_under k (x ∷ xs)) (λ k apart. under-other x xs k apart) (under-own x xs x.0 refl)
    (rising (numbers xs)) (rising-AreRising (numbers xs)) (λ no. under-none x.0 xs (λ h. no ((rising-IsIn x.0 (numbers xs)).1 h)))

-- lines at the end have no more energy than all
under-more : (p : Part) (q : ℕ) (x : Flowed) (xs : List Flowed) → p.measure (flows_under q xs) ≤ p.measure (flows_under q (x ∷ xs))
under-more p q x xs = ⊎_elim
    (λ (e : x.0 ≡ q). omega (arith, ap p.measure (under-own x xs q e), p.plus_of x.1 (flows_under q xs)))
    (λ (o : x.0 ≡ q → ⊥). omega (arith, ap p.measure (under-other x xs q o)))
    (cases_eq x.0 q)

under-end : (p : Part) (q : ℕ) (front xs : List Flowed) → p.measure (flows_under q xs) ≤ p.measure (flows_under q (front ++ xs))
under-end p q [] xs = omega arith
under-end p q (y ∷ front) xs = omega (arith, under-end p q front xs, under-more p q y (front ++ xs))

-- lines at the end of lines in order are in order
order-tail : (x : Flowed) (xs : List Flowed) → AreInOrder (x ∷ xs) → AreInOrder xs
order-tail x [] order = tt
order-tail x (y ∷ xs) order = order.1

order-end : (front xs : List Flowed) → AreInOrder (front ++ xs) → AreInOrder xs
order-end [] xs order = order
order-end (y ∷ front) xs order = order-end front xs (order-tail y (front ++ xs) order)

-- no line is before the first
order-first : (x : Flowed) (xs : List Flowed) (k : ℕ) → AreInOrder (x ∷ xs) → IsIn k (numbers xs) → x.0 ≤ k
order-first x [] k order h = absurd h
order-first x (y ∷ xs) k order (inl e) = let low : x.0 ≤ y.0 = order.0 in omega arith
order-first x (y ∷ xs) k order (inr h) = let low : x.0 ≤ y.0 = order.0 in let rest : y.0 ≤ k = order-first y xs k order.1 h in omega arith

leads : (x : Flowed) (xs : List Flowed) (ks : List ℕ) → ((k : ℕ) → IsIn k ks → x.0 ≤ k) → ((k : ℕ) → x.0 ≡ k → CanPlusFlows x.1 (flows_under k xs)) → CanLead x (map (λ k. (k, flows_under k xs)) ks)
leads x xs [] low room = tt
leads x xs (k ∷ ks) low room = (low k (inl refl), room k)

-- the line before the last ones of lines in order can be added to their sums
pub can_lead : (front : List Flowed) (x : Flowed) (xs all : List Flowed) → front ++ (x ∷ xs) ≡ all → AreInOrder all → QuartersFit all → CanLead x (quarter_sums xs)
can_lead front x xs all parts order fit =
    let here : AreInOrder (x ∷ xs) = order-end front (x ∷ xs) (subst AreInOrder (sym parts) order) in
    leads x xs (rising (numbers xs))
    (λ k h. order-first x xs k here ((rising-IsIn k (numbers xs)).0 h))
    (λ k e.
    let own = under-own x xs k e in
    let room : (p : Part) → p.measure (flows_under k all) < 2 ^ 64 → p.measure x.1 + p.measure (flows_under k xs) < 2 ^ 64 =
    λ p few. omega (arith, ap p.measure own, p.plus_of x.1 (flows_under k xs), under-end p k front (x ∷ xs), ap (λ (ls : List Flowed). p.measure (flows_under k ls)) parts, few) in
    record {
      import = record { up = room up (fit.up k); down = room down (fit.down k) };
      export = record { up = room export_up (fit.export_up k); down = room export_down (fit.export_down k) };
    })

-- the last line, and what is before it
parted : (left : List Flowed) (k : ℕ) (x : Flowed) (after : List Flowed) → k + 1 ≡ length left → x ≡ get_or left k x → take k left ++ (x ∷ after) ≡ left ++ after
parted [] k x after some is = absurd (omega arith)
parted (y ∷ []) zero x after some is = ap (λ (z : Flowed). z ∷ after) is
parted (y ∷ z ∷ left) zero x after some is = absurd (omega arith)
parted (y ∷ left) (suc k) x after some is = ap (λ (ls : List Flowed). y ∷ ls) (parted left k x after (omega arith) is)

pub last_apart : (left : List Flowed) (x : Flowed) (after : List Flowed) → 0 < length left → x ≡ get_or left (length left - 1) x → take (length left - 1) left ++ (x ∷ after) ≡ left ++ after
last_apart left x after some is = parted left (length left - 1) x after (omega arith) is

-- lines that do not fall by number are in order
pub order_from_sort : (xs : List Flowed) → IsNonDecreasingBy (λ (line : Flowed). line.0) xs → AreInOrder xs
order_from_sort [] up = tt
order_from_sort (x ∷ []) up = tt
order_from_sort (x ∷ y ∷ xs) up = (up 0 1 x (omega arith) (omega arith), order_from_sort (y ∷ xs) (λ i j d le lt. up (suc i) (suc j) d (omega arith) (omega arith)))

-- how often a number is among those of lines
hit : ℕ → Flowed → ℕ
hit k line = cond (eqb line.0 k) 1 0

hits_if_in : (k : ℕ) (xs : List Flowed) → IsIn k (numbers xs) → 0 < sum_by (hit k) xs
unfolding hit
hits_if_in k [] h = absurd h
hits_if_in k (x ∷ xs) (inl e) = omega (arith, sum_by-cons (hit k) x xs, ap {B = ℕ} (λ b. cond b 1 0) (eq-eqb x.0 k (sym e)))
hits_if_in k (x ∷ xs) (inr h) = omega (arith, sum_by-cons (hit k) x xs, hits_if_in k xs h)

in_if_hits : (k : ℕ) (xs : List Flowed) → 0 < sum_by (hit k) xs → IsIn k (numbers xs)
unfolding hit
in_if_hits k [] h = absurd (omega arith)
in_if_hits k (x ∷ xs) h = ⊎_elim
    (λ (e : x.0 ≡ k). inl (sym e))
    (λ (o : x.0 ≡ k → ⊥). inr (in_if_hits k xs (omega (arith, sum_by-cons (hit k) x xs, ap {B = ℕ} (λ b. cond b 1 0) (ne_eqb x.0 k o)))))
    (cases_eq x.0 k)

in_permuted : (k : ℕ) (xs ys : List Flowed) → IsPermutation xs ys → IsIn k (numbers xs) → IsIn k (numbers ys)
in_permuted k xs ys same h = in_if_hits k ys (omega (arith, sum_by-IsPermutation (hit k) xs ys same, hits_if_in k xs h))

-- the energy of a period as a sum
at : (ByDirection Energy → ℕ) → ℕ → Flowed → ℕ
at part q line = cond (eqb line.0 q) (part line.1) 0

under_is : (p : Part) (q : ℕ) (xs : List Flowed) → p.measure (flows_under q xs) ≡ sum_by (at p.measure q) xs
unfolding at
under_is p q [] = part_none p
under_is p q (x ∷ xs) =
    let rest = under_is p q xs in
    let more = sum_by-cons (at p.measure q) x xs in
    ⊎_elim
    (λ (e : x.0 ≡ q). omega (arith, ap p.measure (under-own x xs q e), p.plus_of x.1 (flows_under q xs), rest, more, ap {B = ℕ} (λ b. cond b (p.measure x.1) 0) (eq-eqb x.0 q e)))
    (λ (o : x.0 ≡ q → ⊥). omega (arith, ap p.measure (under-other x xs q o), rest, more, ap {B = ℕ} (λ b. cond b (p.measure x.1) 0) (ne_eqb x.0 q o)))
    (cases_eq x.0 q)

-- the energies of a period do not depend on the order of lines
under_permuted : (q : ℕ) (xs ys : List Flowed) → IsPermutation xs ys → flows_under q ys ≡ flows_under q xs
under_permuted q xs ys same = same_flows (flows_under q ys) (flows_under q xs) (λ p. under_is p q ys ∙ sum_by-IsPermutation (at p.measure q) xs ys same ∙ sym (under_is p q xs))

-- no rising number is below the first
first_is_lowest : (n : ℕ) (ns : List ℕ) → AreRising (n ∷ ns) → (k : ℕ) → IsIn k (n ∷ ns) → n ≤ k
first_is_lowest n [] up k (inl e) = omega arith
first_is_lowest n [] up k (inr h) = absurd h
first_is_lowest n (m ∷ ns) up k (inl e) = omega arith
first_is_lowest n (m ∷ ns) up k (inr h) = let above : n < m = up.0 in let low : m ≤ k = first_is_lowest m ns up.1 k h in omega arith

pub above_first : (n : ℕ) (ns : List ℕ) → AreRising (n ∷ ns) → (k : ℕ) → IsIn k ns → n < k
above_first n [] up k h = absurd h
above_first n (m ∷ ns) up k h = let above : n < m = up.0 in let low : m ≤ k = first_is_lowest m ns up.1 k h in omega arith

behind_first : (n : ℕ) (ns : List ℕ) (k : ℕ) → n < k → IsIn k (n ∷ ns) → IsIn k ns
behind_first n ns k above (inl e) = absurd (omega arith)
behind_first n ns k above (inr h) = h

-- rising lists of the same numbers are the same
same_rising : (ms ns : List ℕ) → AreRising ms → AreRising ns → ((k : ℕ) → IsIn k ms → IsIn k ns) → ((k : ℕ) → IsIn k ns → IsIn k ms) → ms ≡ ns
same_rising [] [] up other to from = refl
same_rising [] (n ∷ ns) up other to from = absurd (from n (inl refl))
same_rising (m ∷ ms) [] up other to from = absurd (to m (inl refl))
same_rising (m ∷ ms) (n ∷ ns) up other to from =
    let not_below : n ≤ m = first_is_lowest n ns other m (to m (inl refl)) in
    let not_above : m ≤ n = first_is_lowest m ms up n (from n (inl refl)) in
    let first : m ≡ n = omega arith in
    let rest : ms ≡ ns = same_rising ms ns (tail_rises m ms up) (tail_rises n ns other)
    (λ k h. let above : m < k = above_first m ms up k h in behind_first n ns k (omega arith) (to k (inr h)))
    (λ k h. let above : n < k = above_first n ns other k h in behind_first m ms k (omega arith) (from k (inr h))) in
    λ i. first i ∷ rest i

same_energies : (e f : ℕ → ByDirection Energy) → ((k : ℕ) → e k ≡ f k) → (ks : List ℕ) → map {B = Flowed} (λ k. (k, e k)) ks ≡ map {B = Flowed} (λ k. (k, f k)) ks
same_energies e f same [] = refl
same_energies e f same (k ∷ ks) = λ i. (k, same k i) ∷ same_energies e f same ks i

-- sums do not depend on the order of lines
pub sums_permuted : (xs ys : List Flowed) → IsPermutation xs ys → quarter_sums ys ≡ quarter_sums xs
sums_permuted xs ys same =
    let back = IsPermutation-sym xs ys same in
    let keys : rising (numbers ys) ≡ rising (numbers xs) = same_rising (rising (numbers ys)) (rising (numbers xs)) (rising-AreRising (numbers ys)) (rising-AreRising (numbers xs))
    (λ k h. (rising-IsIn k (numbers xs)).1 (in_permuted k ys xs back ((rising-IsIn k (numbers ys)).0 h)))
    (λ k h. (rising-IsIn k (numbers ys)).1 (in_permuted k xs ys same ((rising-IsIn k (numbers xs)).0 h))) in
    same_energies (λ k. flows_under k ys) (λ k. flows_under k xs) (λ k. under_permuted k xs ys same) (rising (numbers ys))
    ∙ ap (λ (ks : List ℕ). map {B = Flowed} (λ k. (k, flows_under k xs)) ks) keys

-- nor does the condition on them
pub fit_permuted : (xs ys : List Flowed) → IsPermutation xs ys → QuartersFit xs → QuartersFit ys
fit_permuted xs ys same fit = record {
  up = λ q. subst (λ (e : ByDirection Energy). e.import.up < 2 ^ 64) (sym (under_permuted q xs ys same)) (fit.up q);
  down = λ q. subst (λ (e : ByDirection Energy). e.import.down < 2 ^ 64) (sym (under_permuted q xs ys same)) (fit.down q);
  export_up = λ q. subst (λ (e : ByDirection Energy). e.export.up < 2 ^ 64) (sym (under_permuted q xs ys same)) (fit.export_up q);
  export_down = λ q. subst (λ (e : ByDirection Energy). e.export.down < 2 ^ 64) (sym (under_permuted q xs ys same)) (fit.export_down q);
}

-- the periods of lines have the given length
line_own : (period : Periods) (xs : List Flowed) (k : ℕ) → AreQuartersOf period xs → IsIn k (numbers xs) → IsQuarterOf period.length k
line_own period [] k own h = absurd h
line_own period (x ∷ xs) k own (inl e) = subst (IsQuarterOf period.length) (sym e) (own 0 x (omega arith))
line_own period (x ∷ xs) k own (inr h) = line_own period xs k (λ n d lt. own (suc n) d (omega arith)) h

lines_own : (period : Periods) (e : ℕ → ByDirection Energy) (ks : List ℕ) → ((k : ℕ) → IsIn k ks → IsQuarterOf period.length k) → AreQuartersOf period (map {B = Flowed} (λ k. (k, e k)) ks)
lines_own period e [] each = All-nil (λ (line : Flowed). IsQuarterOf period.length line.0)
lines_own period e (k ∷ ks) each =
    All-cons (λ (line : Flowed). IsQuarterOf period.length line.0) (k, e k) (map {B = Flowed} (λ j. (j, e j)) ks) (each k (inl refl)) (lines_own period e ks (λ j h. each j (inr h)))

-- and so are those of their sums
pub sums_own : (period : Periods) (xs : List Flowed) → AreQuartersOf period xs → AreQuartersOf period (quarter_sums xs)
sums_own period xs own = lines_own period (λ k. flows_under k xs) (rising (numbers xs)) (λ k h. line_own period xs k own ((rising-IsIn k (numbers xs)).0 h))

-- the lines of one station more
pub stations_more : (stations : List (List ℕ × Board)) (k : ℕ) (s : List ℕ × Board) → k < length stations
    → s ≡ get_or stations k s → station_quarters (take (k + 1) stations) ≡ station_quarters (take k stations) ++ s.1.quarters
stations_more stations k s less is =
    ap station_quarters (take_more stations k s less ∙ ap (λ t. take k stations ++ t ∷ []) (sym is))
    ∙ flat_map-append (λ (t : List ℕ × Board). t.1.quarters) (take k stations) (s ∷ [])
    ∙ ap (λ ls. station_quarters (take k stations) ++ ls) (append-nil s.1.quarters)
