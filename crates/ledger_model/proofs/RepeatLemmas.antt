-- Readings that repeat others, by moment.
use Rattle.std.{proofs.Common.{◌≡◌, ℕ, ◌+◌, ◌-◌, ◌<◌, ◌≤◌, ◌⊎◌, inl, inr, Bool, true, false, cond, List, [], ◌∷◌, ◌++◌, Option, Some, None, refl, sym, ap, subst, ◌∙◌, ⊎_elim, bytes_eq, eqb, arith, append_assoc, ◌&&◌}, specs.Prelude.{nat_le, nat_lt}, specs.List.{filter, filter_map, flat_map, sum_by, AllByRecursion}, proofs.lemmas.Bool.{cases_Bool, cases_eq, eq-eqb, ltb-true, ne_eqb}, proofs.lemmas.Grind.flat_map-append, proofs.lemmas.List.map-append, proofs.lemmas.List.Elements.{filter-append, filter_map-append, recursion_from_All}, proofs.lemmas.List.Sums.sum_by-cons}
use Rattle.ledger_model.{specs.Periods.Periods, specs.declared.order.Order.TheVariants.Moment, specs.declared.reading.Direction.Direction, specs.declared.reading.Direction.TheVariants.{Import, Export}, specs.Content.{Entry, distinct, live, transactions_of}, specs.Deltas.{across, first_reading, last_reading, pairs_between}, specs.Energy.{Pair, energy_by, energy_in_by, energy_of_by, energy_over, energy_within, followed, pairs_by, parts_of, parts_over, readings_by, readings_of}, specs.Event.{MeterReading, same_direction, toward}, specs.Evse.{energy_at_by, evse_of, first_or_zero, transactions_at}, specs.InTime.{AreInTime, in_time}, specs.Key.KeyName, specs.Parts.{Part, longest_share, parts_by, shares, whole}, specs.Settling.settled_by, specs.declared.settle.Settle.Settle, specs.declared.settle.Settle.TheVariants.{Later, Closing, Even}, specs.ReadingOrder.{taken_when, IsOneReadingMore, IsRepeat}, proofs.EnergyLemmas.same_energy, proofs.InTimeLemmas.{AreFrom, AreUpTo, IsPutIn, in_time-rises, of_moment, none_earlier, one_put_in, rest_from, tail_rises}, proofs.OneMore.{passed_sum, taken}, proofs.Splices.{followed_sums, last_is}, proofs.SumLemmas.{sum_by-flat_map, sum_by-same}, proofs.SumsByTransaction.one_text, proofs.Transactions.ids}
use Rattle.energy_flow.specs.Flow.{difference_of}

none_or_some : {X : Type 0} (xs : List X) → (xs ≡ []) ⊎ (xs ≡ [] → ⊥)
none_or_some [] = inl refl
none_or_some (x ∷ xs) = inr (λ e. cc)

-- The reading at an end of others in time has their last or first moment if some have it; and what is true of all is true
-- of it.
record IsAt (P : MeterReading → Type 0) (m : ℕ) (o : Option MeterReading) : Type 0 where
  s : MeterReading
  is : o ≡ Some s
  moment : s.moment ≡ m
  so : P s

here : (m : ℕ) (r : MeterReading) (rs : List MeterReading) → r.moment ≡ m → of_moment taken_when m (r ∷ rs) ≡ [] → ⊥
here m r rs e none = let cons : of_moment taken_when m (r ∷ rs)
    ≡ r ∷ of_moment taken_when m rs = ap (λ b. cond b (r ∷ of_moment taken_when m rs) (of_moment taken_when m rs)) (eq-eqb r.moment m e) in differ (sym none ∙ cons)
  where
    differ : [] ≡ r ∷ of_moment taken_when m rs → ⊥
    differ e = cc

elsewhere : (m : ℕ) (r : MeterReading) (rs : List MeterReading) → (r.moment ≡ m → ⊥) → of_moment taken_when m (r ∷ rs) ≡ of_moment taken_when m rs
elsewhere m r rs apart = ap (λ b. cond b (r ∷ of_moment taken_when m rs) (of_moment taken_when m rs)) (ne_eqb r.moment m apart)

module _ (P : MeterReading → Type 0) (m : ℕ) where
  last_of : (rs : List MeterReading) → AreInTime taken_when rs → AreUpTo taken_when m rs → (of_moment taken_when m rs ≡ [] → ⊥) → AllByRecursion P rs → IsAt P m (last_reading rs)
  last_of [] up upto some all = absurd (some refl)
  last_of (r ∷ []) up upto some all = ⊎_elim
      (λ (e : r.moment ≡ m). record { s = r; is = refl; moment = e; so = all.0 })
      (λ (apart : r.moment ≡ m → ⊥). absurd (some (elsewhere m r [] apart)))
      (cases_eq r.moment m)
  last_of (r ∷ t ∷ ts) up upto some all =
      let rest : IsAt P m (last_reading (t ∷ ts)) = last_of (t ∷ ts) up.1 upto.1
      (⊎_elim
      (λ (e : r.moment ≡ m). here m t ts (let a : r.moment ≤ t.moment = up.0 in let b : t.moment ≤ m = upto.1.0 in omega (arith, a, b, e)))
      (λ (apart : r.moment ≡ m → ⊥). λ none. some (elsewhere m r (t ∷ ts) apart ∙ none))
      (cases_eq r.moment m)) all.1 in
      record { s = rest.s; is = sym (last_is (r ∷ t ∷ ts)) ∙ last_is (t ∷ ts) ∙ rest.is; moment = rest.moment; so = rest.so }

  first_of : (rs : List MeterReading) → AreInTime taken_when rs → AreFrom taken_when m rs → (of_moment taken_when m rs ≡ [] → ⊥) → AllByRecursion P rs → IsAt P m (first_reading rs)
  first_of [] up from some all = absurd (some refl)
  first_of (r ∷ rs) up from some all = ⊎_elim
      (λ (e : r.moment ≡ m). record { s = r; is = refl; moment = e; so = all.0 })
      (λ (apart : r.moment ≡ m → ⊥). absurd (some (elsewhere m r rs apart
      ∙ none_earlier taken_when m r.moment rs (let a : m ≤ r.moment = from.0 in lt_from m r.moment a apart) (rest_from taken_when r rs up))))
      (cases_eq r.moment m)
    where
      lt_from : (m n : ℕ) → m ≤ n → (n ≡ m → ⊥) → m < n
      lt_from m n le apart = omega (arith, le, apart)

parts_rise : (xs ys : List MeterReading) → AreInTime taken_when (xs ++ ys) → AreInTime taken_when xs × AreInTime taken_when ys
parts_rise [] ys up = (tt, up)
parts_rise (x ∷ []) ys up = (tt, tail_rises taken_when x ys up)
parts_rise (x ∷ y ∷ xs) ys up = let rest = parts_rise (y ∷ xs) ys up.1 in ((up.0, rest.0), rest.1)

parts_all : (P : MeterReading → Type 0) (xs ys : List MeterReading) → AllByRecursion P (xs ++ ys) → AllByRecursion P xs × AllByRecursion P ys
parts_all P [] ys all = (tt, all)
parts_all P (x ∷ xs) ys all = let rest = parts_all P xs ys all.1 in ((all.0, rest.0), rest.1)

-- A measure of a pair that depends on its levels and moments, and is nothing where both levels are one and both moments,
-- too.
module _ (g : ℕ → ℕ → ℕ → ℕ → ℕ) (none : (v m : ℕ) → g v v m m ≡ 0) where
  abbrev measure : Pair → ℕ
  measure p = g p.0.mwh p.1.mwh p.0.moment p.1.moment

  -- the reading behind one of the same level adds nothing, and the pair behind it is that behind the other
  behind_equal : (s r : MeterReading) (b : Option MeterReading) → s.mwh ≡ r.mwh → s.moment ≡ r.moment → sum_by measure (pairs_between (Some s) (r ∷ []) b) ≡ sum_by measure (across (Some s) b)
  behind_equal s r None level moment = rw (level, moment) (omega (arith, none r.mwh r.moment))
  behind_equal s r (Some t) level moment = rw (level, moment) (omega (arith, none r.mwh r.moment))

  front_equal : (l : Option MeterReading) (r t : MeterReading) → t.mwh ≡ r.mwh → t.moment ≡ r.moment → sum_by measure (pairs_between l (r ∷ []) (Some t)) ≡ sum_by measure (across l (Some t))
  front_equal None r t level moment = rw (level, moment) (omega (arith, none r.mwh r.moment))
  front_equal (Some s) r t level moment = rw (level, moment) (omega (arith, none r.mwh r.moment))

  put_in_sums : (r : MeterReading) (front back : List MeterReading)
      → sum_by measure (pairs_between (last_reading front) (r ∷ []) (first_reading back)) ≡ sum_by measure (across (last_reading front) (first_reading back))
      → sum_by measure (followed (front ++ r ∷ back)) ≡ sum_by measure (followed (front ++ back))
  put_in_sums r front back same = let all = followed_sums measure front (r ∷ []) back in omega (arith, all, same)

  repeat_sums : (r : MeterReading) (less more : List MeterReading) → AreInTime taken_when less → IsPutIn taken_when r less more
      → IsRepeat r less → sum_by measure (followed more) ≡ sum_by measure (followed less)
  repeat_sums r less more up put repeat =
      let P : MeterReading → Type 0 = λ s. s.moment ≡ r.moment → s.mwh ≡ r.mwh in
      let rise = parts_rise put.front put.back (subst (AreInTime taken_when) put.less_is up) in
      let all = parts_all P put.front put.back (subst (AllByRecursion P) put.less_is (recursion_from_All P less repeat.level)) in
      let there : of_moment taken_when r.moment (put.front ++ put.back) ≡ [] → ⊥ = λ none. repeat.there (ap (of_moment taken_when r.moment) put.less_is ∙ none) in
      ap (λ rs. sum_by measure (followed rs)) put.more_is
      ∙ put_in_sums r put.front put.back (⊎_elim
      (λ (empty : of_moment taken_when r.moment put.front ≡ []).
      let first : IsAt P r.moment (first_reading put.back) = first_of P r.moment put.back rise.1 put.late
      (λ none. there (filter-append (λ s. eqb s.moment r.moment) put.front put.back ∙ (λ i. empty i ++ none i))) all.1 in
      (λ i. sum_by measure (pairs_between (last_reading put.front) (r ∷ []) (first.is i)))
      ∙ front_equal (last_reading put.front) r first.s (first.so first.moment) first.moment
      ∙ sym (ap (λ o. sum_by measure (across (last_reading put.front) o)) first.is))
      (λ (some : of_moment taken_when r.moment put.front ≡ [] → ⊥).
      let last : IsAt P r.moment (last_reading put.front) = last_of P r.moment put.front rise.0 put.early some all.0 in
      (λ i. sum_by measure (pairs_between (last.is i) (r ∷ []) (first_reading put.back)))
      ∙ behind_equal last.s r (first_reading put.back) (last.so last.moment) last.moment
      ∙ sym (ap (λ o. sum_by measure (across o (first_reading put.back))) last.is))
      (none_or_some (of_moment taken_when r.moment put.front)))
      ∙ ap (λ rs. sum_by measure (followed rs)) (sym put.less_is)

same_or_apart : (d e : Direction) → (d ≡ e) ⊎ (same_direction d e ≡ false)
same_or_apart Import Import = inl refl
same_or_apart Import Export = inr refl
same_or_apart Export Import = inr refl
same_or_apart Export Export = inl refl

same_itself : (d : Direction) → same_direction d d ≡ true
same_itself Import = refl
same_itself Export = refl

-- A reading more among an event's, in its direction and in the other.
toward_more : (d : Direction) (xs ys : List MeterReading) (r : MeterReading) → toward d (xs ++ r ∷ ys) ≡ toward d xs ++ cond (same_direction d r.direction) (r ∷ toward d ys) (toward d ys)
toward_more d xs ys r = filter-append (λ (s : MeterReading). same_direction d s.direction) xs (r ∷ ys)

module _ (es more : List Entry) (key : KeyName) (r : MeterReading) (one : IsOneReadingMore es more key r) where
  abbrev was : Entry
  was = (key, record { event = one.event; voided = false })

  abbrev is_now : Entry
  is_now = (key, record { event = record one.event { readings = one.first ++ r ∷ one.last }; voided = false })

  ids_cut : (x : Entry) → ids (one.front ++ x ∷ one.back) ≡ ids one.front ++ ids (x ∷ one.back)
  ids_cut x = map-append (λ (e : Entry). e.0.tx) one.front (x ∷ one.back)

  pub transactions_stay : transactions_of (live more) ≡ transactions_of (live es)
  transactions_stay = ap transactions_of one.more_live ∙ ap distinct (ids_cut is_now ∙ sym (ids_cut was)) ∙ ap transactions_of (sym one.less_live)

  abbrev own : List ℕ → List Entry → List Entry
  own tx es = filter (λ (e : Entry). bytes_eq tx e.0.tx) es

  abbrev evse_named : Entry → Option ℕ
  evse_named e = e.1.event.evse

  abbrev evses_in : List ℕ → List Entry → List ℕ
  evses_in tx es = filter_map evse_named (own tx es)

  evse_stays : (tx : List ℕ) → evses_in tx (one.front ++ is_now ∷ one.back) ≡ evses_in tx (one.front ++ was ∷ one.back)
  evse_stays tx = cut is_now ∙ ap (λ ns. evses_in tx one.front ++ ns) (stays (bytes_eq tx key.tx)) ∙ sym (cut was)
    where
      cut : (x : Entry) → evses_in tx (one.front ++ x ∷ one.back) ≡ evses_in tx one.front ++ evses_in tx (x ∷ one.back)
      cut x = ap (filter_map evse_named) (filter-append (λ (e : Entry). bytes_eq tx e.0.tx) one.front (x ∷ one.back)) ∙ filter_map-append evse_named (own tx one.front) (own tx (x ∷ one.back))

      stays : (b : Bool) → filter_map evse_named (cond b (is_now ∷ own tx one.back) (own tx one.back)) ≡ filter_map evse_named (cond b (was ∷ own tx one.back) (own tx one.back))
      stays true = refl
      stays false = refl

  pub evses_stay : (tx : List ℕ) → evse_of tx more ≡ evse_of tx es
  evses_stay tx = ap (λ l. first_or_zero (evses_in tx l)) one.more_live ∙ ap first_or_zero (evse_stays tx) ∙ ap (λ l. first_or_zero (evses_in tx l)) (sym one.less_live)

  -- A transaction's readings by sequence: they stay, or the reading is among them.
  record HasOneMore (d : Direction) (tx : List ℕ) : Type 0 where
    before : List MeterReading
    behind : List MeterReading
    less_is : readings_of d tx es ≡ before ++ behind
    more_is : readings_of d tx more ≡ before ++ r ∷ behind

  abbrev told : Direction → List Entry → List MeterReading
  told d es = flat_map (λ (e : Entry). toward d e.1.event.readings) es

  cut_at : (d : Direction) (tx : List ℕ) (x : Entry)
      → told d (own tx (one.front ++ x ∷ one.back))
      ≡ told d (own tx one.front) ++ cond (bytes_eq tx x.0.tx) (toward d x.1.event.readings ++ told d (own tx one.back)) (told d (own tx one.back))
  cut_at d tx x =
      ap (told d) (filter-append (λ (e : Entry). bytes_eq tx e.0.tx) one.front (x ∷ one.back))
      ∙ flat_map-append (λ (e : Entry). toward d e.1.event.readings) (own tx one.front) (own tx (x ∷ one.back))
      ∙ ap (λ rs. told d (own tx one.front) ++ rs) (pushed (bytes_eq tx x.0.tx))
    where
      pushed : (b : Bool) → told d (cond b (x ∷ own tx one.back) (own tx one.back)) ≡ cond b (toward d x.1.event.readings ++ told d (own tx one.back)) (told d (own tx one.back))
      pushed true = refl
      pushed false = refl

  less_cut : (d : Direction) (tx : List ℕ) (b : Bool) → bytes_eq tx key.tx ≡ b
      → readings_of d tx es ≡ told d (own tx one.front) ++ cond b (toward d (one.first ++ one.last) ++ told d (own tx one.back)) (told d (own tx one.back))
  less_cut d tx b is =
      ap (λ l. told d (own tx l)) one.less_live ∙ cut_at d tx was
      ∙ (λ i. told d (own tx one.front) ++ cond (is i) (toward d (one.readings i) ++ told d (own tx one.back)) (told d (own tx one.back)))

  more_cut : (d : Direction) (tx : List ℕ) (b : Bool) → bytes_eq tx key.tx ≡ b
      → readings_of d tx more ≡ told d (own tx one.front) ++ cond b (toward d (one.first ++ r ∷ one.last) ++ told d (own tx one.back)) (told d (own tx one.back))
  more_cut d tx b is =
      ap (λ l. told d (own tx l)) one.more_live ∙ cut_at d tx is_now
      ∙ (λ i. told d (own tx one.front) ++ cond (is i) (toward d (one.first ++ r ∷ one.last) ++ told d (own tx one.back)) (told d (own tx one.back)))

  else_stays : (d : Direction) (tx : List ℕ) → bytes_eq tx key.tx ≡ false → readings_of d tx more ≡ readings_of d tx es
  else_stays d tx apart = more_cut d tx false apart ∙ sym (less_cut d tx false apart)

  other_way : (d : Direction) (tx : List ℕ) → bytes_eq tx key.tx ≡ true → same_direction d r.direction ≡ false → readings_of d tx more ≡ readings_of d tx es
  other_way d tx is apart =
      more_cut d tx true is
      ∙ ap (λ rs. told d (own tx one.front) ++ (rs ++ told d (own tx one.back)))
      (toward_more d one.first one.last r ∙ ap (λ b. toward d one.first ++ cond b (r ∷ toward d one.last) (toward d one.last)) apart
      ∙ sym (filter-append (λ (s : MeterReading). same_direction d s.direction) one.first one.last))
      ∙ sym (less_cut d tx true is)

  stands_there : (d : Direction) (tx : List ℕ) → bytes_eq tx key.tx ≡ true → same_direction d r.direction ≡ true → HasOneMore d tx
  stands_there d tx is same =
      let a = told d (own tx one.front) in let b = told d (own tx one.back) in let p = toward d one.first in let q = toward d one.last in
      record {
        before = a ++ p;
        behind = q ++ b;
        less_is = less_cut d tx true is
            ∙ ap (λ rs. a ++ (rs ++ b)) (filter-append (λ (s : MeterReading). same_direction d s.direction) one.first one.last)
            ∙ ap (λ rs. a ++ rs) (append_assoc p q b) ∙ sym (append_assoc a p (q ++ b));
        more_is = more_cut d tx true is
            ∙ ap (λ rs. a ++ (rs ++ b)) (toward_more d one.first one.last r ∙ ap (λ b. p ++ cond b (r ∷ q) q) same)
            ∙ ap (λ rs. a ++ rs) (append_assoc p (r ∷ q) b) ∙ sym (append_assoc a p (r ∷ (q ++ b)));
      }

  module _ (repeat : IsRepeat r (readings_by Moment r.direction key.tx es)) where
    -- Each sum over a transaction's pairs stays.
    pub sums_stay : (g : ℕ → ℕ → ℕ → ℕ → ℕ) (none : (v m : ℕ) → g v v m m ≡ 0) (d : Direction) (tx : List ℕ)
        → sum_by (measure g none) (pairs_by Moment d tx more) ≡ sum_by (measure g none) (pairs_by Moment d tx es)
    sums_stay g none d tx = ⊎_elim
        (λ (is : bytes_eq tx key.tx ≡ true). ⊎_elim
        (λ (way : d ≡ r.direction).
        let m : HasOneMore d tx = stands_there d tx is (ap (λ e. same_direction e r.direction) way ∙ same_itself r.direction) in
        let told_again : IsRepeat r (readings_by Moment d tx es) =
        subst (λ t. IsRepeat r (readings_by Moment d t es)) (sym (one_text tx key.tx is)) (subst (λ e. IsRepeat r (readings_by Moment e key.tx es)) (sym way) repeat) in
        let put : IsPutIn taken_when r (in_time taken_when (readings_of d tx es)) (in_time taken_when (readings_of d tx more)) =
        subst (λ rs. IsPutIn taken_when r (in_time taken_when rs) (in_time taken_when (readings_of d tx more))) (sym m.less_is)
        (subst (λ rs. IsPutIn taken_when r (in_time taken_when (m.before ++ m.behind)) (in_time taken_when rs)) (sym m.more_is) (one_put_in taken_when r m.before m.behind)) in
        repeat_sums g none r (in_time taken_when (readings_of d tx es)) (in_time taken_when (readings_of d tx more)) (in_time-rises taken_when (readings_of d tx es)) put told_again)
        (λ (apart : same_direction d r.direction ≡ false). ap (λ rs. sum_by (measure g none) (followed (in_time taken_when rs))) (other_way d tx is apart))
        (same_or_apart d r.direction))
        (λ (apart : bytes_eq tx key.tx ≡ false). ap (λ rs. sum_by (measure g none) (followed (in_time taken_when rs))) (else_stays d tx apart))
        (cases_Bool (bytes_eq tx key.tx))

    -- And each over those of several transactions.
    all_stay : (g : ℕ → ℕ → ℕ → ℕ → ℕ) (none : (v m : ℕ) → g v v m m ≡ 0) (d : Direction) (txs : List (List ℕ))
        → sum_by (measure g none) (flat_map (λ tx. pairs_by Moment d tx more) txs) ≡ sum_by (measure g none) (flat_map (λ tx. pairs_by Moment d tx es) txs)
    all_stay g none d txs =
        sum_by-flat_map (measure g none) (λ tx. pairs_by Moment d tx more) txs
        ∙ sum_by-same _ _ (sums_stay g none d) txs
        ∙ sym (sum_by-flat_map (measure g none) (λ tx. pairs_by Moment d tx es) txs)

    nothing : (v m : ℕ) → v - v ≡ 0
    nothing v m = omega arith

    pub transaction_stays : (d : Direction) (tx : List ℕ) → energy_of_by Moment d tx more ≡ energy_of_by Moment d tx es
    transaction_stays d tx = same_energy _ _ (sums_stay (λ a b m n. b - a) nothing d tx) (sums_stay (λ a b m n. a - b) nothing d tx)

    pub evse_energy_stays : (d : Direction) (evse : ℕ) → energy_at_by Moment d evse more ≡ energy_at_by Moment d evse es
    evse_energy_stays d evse =
        (λ i. energy_over (flat_map (λ tx. pairs_by Moment d tx more) (filter (λ tx. eqb (evses_stay tx i) evse) (transactions_stay i))))
        ∙ same_energy _ _ (all_stay (λ a b m n. b - a) nothing d (transactions_at evse es)) (all_stay (λ a b m n. a - b) nothing d (transactions_at evse es))

    pub station_stays : (d : Direction) → energy_by Moment d more ≡ energy_by Moment d es
    station_stays d =
        (λ i. energy_over (flat_map (λ tx. pairs_by Moment d tx more) (transactions_stay i)))
        ∙ same_energy _ _ (all_stay (λ a b m n. b - a) nothing d (transactions_of (live es))) (all_stay (λ a b m n. a - b) nothing d (transactions_of (live es)))

    -- What the parts of a difference in a period add up to.
    abbrev part_sum : (Part → ℕ) → Periods → ℕ → ℕ → ℕ → ℕ → ℕ → ℕ
    part_sum f period q a b m n = sum_by (λ t. taken (eqb t.0 q) (f t)) (parts_by period.rule period.length (record { since = m; until = n; earlier = a; later = b }))

    in_quarter : (f : Part → ℕ) (period : Periods) (q : ℕ) → ((v m : ℕ) → part_sum f period q v v m m ≡ 0) → (d : Direction) (txs : List (List ℕ))
        → sum_by f (filter (λ t. eqb t.0 q) (parts_over period (flat_map (λ tx. pairs_by Moment d tx more) txs)))
        ≡ sum_by f (filter (λ t. eqb t.0 q) (parts_over period (flat_map (λ tx. pairs_by Moment d tx es) txs)))
    in_quarter f period q none d txs = passed (flat_map (λ tx. pairs_by Moment d tx more) txs) ∙ all_stay (part_sum f period q) none d txs ∙ sym (passed (flat_map (λ tx. pairs_by Moment d tx es) txs))
      where
        passed : (ps : List Pair) → sum_by f (filter (λ t. eqb t.0 q) (parts_over period ps)) ≡ sum_by (measure (part_sum f period q) none) ps
        passed ps = passed_sum f (λ (t : Part). eqb t.0 q) (parts_over period ps) ∙ sum_by-flat_map (λ (t : Part). taken (eqb t.0 q) (f t)) (parts_of period) ps

    none_taken : (b : Bool) (n : ℕ) → n ≡ 0 → taken b n + 0 ≡ 0
    none_taken true n is = ap (λ m. m + 0) is
    none_taken false n is = refl

    -- Two readings of one moment and one level are parted into nothing.
    no_part : (f : Part → ℕ) → ((q v : ℕ) → f (q, difference_of v v) ≡ 0) → (period : Periods) (q v m : ℕ) → part_sum f period q v v m m ≡ 0
    no_part f same period q v m = by_rule period.rule
      where
        undivided : (rule : Settle) → sum_by (λ (t : Part). taken (eqb t.0 q) (f t)) (whole rule period.length (record { since = m; until = m; earlier = v; later = v })) ≡ 0
        undivided rule = sum_by-cons (λ (t : Part). taken (eqb t.0 q) (f t)) (settled_by rule period.length m, difference_of v v) []
            ∙ none_taken (eqb (settled_by rule period.length m) q) (f (settled_by rule period.length m, difference_of v v)) (same (settled_by rule period.length m) v)

        not_shared : (b : Bool) → nat_lt m m ≡ b → b ≡ false
        not_shared true is = absurd (let lt : m < m = ltb-true m m is in omega (arith, lt))
        not_shared false is = refl

        by_rule : (rule : Settle) → sum_by (λ (t : Part). taken (eqb t.0 q) (f t)) (parts_by rule period.length (record { since = m; until = m; earlier = v; later = v })) ≡ 0
        by_rule Later = undivided Later
        by_rule Closing = undivided Closing
        by_rule Even =
            ap (λ b. sum_by (λ (t : Part). taken (eqb t.0 q) (f t))
            (cond (b && nat_le (m - m) longest_share) (shares period.length (record { since = m; until = m; earlier = v; later = v }))
            (whole Even period.length (record { since = m; until = m; earlier = v; later = v }))))
            (not_shared (nat_lt m m) refl)
            ∙ undivided Even

    pub quarter_stays : (d : Direction) (period : Periods) (q : ℕ) → energy_in_by Moment d period q more ≡ energy_in_by Moment d period q es
    quarter_stays d period q =
        (λ i. energy_within period q (flat_map (λ tx. pairs_by Moment d tx more) (transactions_stay i)))
        ∙ same_energy _ _ (in_quarter (λ t. t.1.up) period q (no_part (λ t. t.1.up) (λ q v. nothing v v) period q) d (transactions_of (live es)))
        (in_quarter (λ t. t.1.down) period q (no_part (λ t. t.1.down) (λ q v. nothing v v) period q) d (transactions_of (live es)))
