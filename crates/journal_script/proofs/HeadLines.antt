-- The lines of a head, and what they add to it.
use Rattle.std.{proofs.Common.{◌≡◌, ℕ, ◌+◌, ◌^◌, ◌<◌, true, cond, List, [], ◌∷◌, ◌++◌, All, Err, None, Ok, OnOk, Result, Some, codes, decimal, flat_map, get_or, length, map, take, refl, sym, ap, subst, ◌∙◌, inl, inr, arith, append_assoc, append-nil}, specs.Io.BufRead.strip_last, proofs.lemmas.Bool.{le-leb, leb-true}, proofs.lemmas.List.{flat_map_more, get_or-map, map-append, take_more}, proofs.lemmas.List.Elements.{All-append, All-cons, All-nil}}
use Rattle.journal_script.{proofs.Whole.lines_apart, specs.Cuts.run_begins, specs.Restoring.run_line, specs.Head.{Adds, HasValues, limits_meaning, meanings_of}, proofs.HeadWords.{IsLine, IsWord, behind, is_word-decimal, is_word-name, number_read, plain_line, words_are, words_say}}
use Rattle.ledger_model.{specs.Limits.{AreBounds, Bounds}, specs.Name.is_name, specs.Quarter.IsPeriod, specs.declared.order.Order.TheVariants.Moment, specs.declared.settle.Settle.Settle}
use Rattle.script_ledgers.{specs.Drafts.site_name, specs.Script.is_period}
use Rattle.script_lines.{proofs.Cuts.cut-ended, specs.LineMeaning.{LineMeaning, ◌>>=◌, declares, line_meaning, limits_line, name, nothing, order_line, period_line, sets_limits, sets_order, sets_period, sets_settle, settle_line, settle_word, station_line}, specs.Lines.{lines_of, unended}, specs.Ranges.longest_line}
use Rattle.site_desk.specs.declared.plan.SitePlan.{SitePlan}

-- ---- lines and heads

one_line : (line : List ℕ) (says : LineMeaning) → IsLine line says → lines_of longest_line (line ++ 10 ∷ []) ≡ Some line ∷ []
one_line line says is =
    ap (lines_of longest_line) (sym (append-nil (line ++ 10 ∷ [])))
    ∙ cut-ended (unended longest_line) longest_line line [] is.feedless
    ∙ ap (λ b. cond b (Some (strip_last 13 line)) None ∷ []) (le-leb (length line) longest_line is.short)
    ∙ ap (λ l. Some l ∷ []) is.bare

-- a line adds what it says
adds_line : (old new line : List ℕ) (says : LineMeaning) → IsLine line says → HasValues says → new ≡ old ++ (line ++ 10 ∷ []) → Adds old new (says ∷ [])
adds_line old new line says is has e = record {
  whole = λ whole. inr (old ++ line, e ∙ sym (append_assoc old line (10 ∷ [])));
  lines = λ whole.
      ap meanings_of e
      ∙ ap (map line_meaning) (lines_apart longest_line old (line ++ 10 ∷ []) whole)
      ∙ map-append line_meaning (lines_of longest_line old) (lines_of longest_line (line ++ 10 ∷ []))
      ∙ ap (λ l. meanings_of old ++ map line_meaning l) (one_line line says is)
      ∙ ap (λ m. meanings_of old ++ m ∷ []) is.means;
  values = All-cons HasValues says [] has (All-nil HasValues);
}

-- the same, where its first word is written before the others
pub adds_words : (old new first rest : List ℕ) (says : LineMeaning) → IsLine (first ++ rest) says → HasValues says → new ≡ old ++ first ++ rest ++ 10 ∷ [] → Adds old new (says ∷ [])
adds_words old new first rest says is has e =
    adds_line old new (first ++ rest) says is has (e ∙ ap (λ l. l ++ 10 ∷ []) (append_assoc old first rest) ∙ append_assoc old (first ++ rest) (10 ∷ []))

-- what is added one behind the other
pub adds_both : (a b c : List ℕ) (xs ys : List LineMeaning) → Adds a b xs → Adds b c ys → Adds a c (xs ++ ys)
adds_both a b c xs ys first then = record {
  whole = λ whole. then.whole (first.whole whole);
  lines = λ whole. then.lines (first.whole whole) ∙ ap (λ l. l ++ ys) (first.lines whole) ∙ append_assoc (meanings_of a) xs ys;
  values = All-append HasValues xs ys first.values then.values;
}

-- the step of a loop that adds the lines of each element
pub adds_more : {X : Type 0} (f : X → List LineMeaning) (xs : List X) (i : ℕ) (x : X) (a b c : List ℕ) → i < length xs → x ≡ get_or xs i x
    → Adds a b (flat_map f (take i xs)) → Adds b c (f x) → Adds a c (flat_map f (take (i + 1) xs))
adds_more f xs i x a b c less is first then =
    subst (Adds a c)
    (flat_map_more f [] (take i xs) x ∙ ap (λ y. flat_map f (take i xs ++ y ∷ [])) is ∙ ap (flat_map f) (sym (take_more xs i x less)))
    (adds_both a b c (flat_map f (take i xs)) (f x) first then)

-- the first line of a run, and the mark at the end of a head
pub adds_begin : Adds [] run_begins (nothing ∷ [])
adds_begin = adds_line [] run_begins run_line nothing (plain_line run_line nothing refl (leb-true (length run_line) longest_line refl) refl) tt refl

pub adds_mark : (old new : List ℕ) → new ≡ old ++ codes "#\n" → Adds old new (nothing ∷ [])
adds_mark old new e = adds_line old new (codes "#") nothing (plain_line (codes "#") nothing refl (leb-true (length (codes "#")) longest_line refl) refl) tt e

-- ---- what the lines say

two : (w v : List ℕ) → IsWord w → IsWord v → All IsWord (w ∷ v ∷ [])
two w v h g = All-cons IsWord w (v ∷ []) h (All-cons IsWord v [] g (All-nil IsWord))

read_name : (word : List ℕ) → is_name word ≡ true → name word ≡ Some word
read_name word named = ap (λ b. cond b (Some word) None) named

limits_say : (a b c d : ℕ) → AreBounds a b c d → IsLine (codes "limits" ++ behind (decimal a ∷ decimal b ∷ decimal c ∷ decimal d ∷ [])) (sets_limits a b c d)
limits_say a b c d are =
    let la : a < 2 ^ 64 = omega (arith, are.most_transactions) in
    let lb : b < 2 ^ 64 = omega (arith, are.most_events) in
    let lc : c < 2 ^ 64 = omega (arith, are.most_readings) in
    let ld : d < 2 ^ 64 = omega (arith, are.most_changes) in
    let all : All IsWord (decimal a ∷ decimal b ∷ decimal c ∷ decimal d ∷ []) =
    All-cons IsWord (decimal a) (decimal b ∷ decimal c ∷ decimal d ∷ []) (is_word-decimal a la)
    (All-cons IsWord (decimal b) (decimal c ∷ decimal d ∷ []) (is_word-decimal b lb) (two (decimal c) (decimal d) (is_word-decimal c lc) (is_word-decimal d ld))) in
    let na = number_read a (omega (arith, are.some_transactions)) la in
    let nb = number_read b (omega (arith, are.some_events)) lb in
    let nc = number_read c (omega (arith, are.some_readings)) lc in
    let nd = number_read d (omega (arith, are.some_changes)) ld in
    words_say (codes "limits") (decimal a) (decimal b ∷ decimal c ∷ decimal d ∷ []) (sets_limits a b c d) refl all refl refl
    (ap limits_line (words_are 3 (decimal a) (decimal b ∷ decimal c ∷ decimal d ∷ []) refl all)
    ∙ (λ i. na i >>= (λ w. nb i >>= (λ x. nc i >>= (λ y. nd i >>= (λ z. sets_limits w x y z))))))

station_says : (site station : List ℕ) → is_name site ≡ true → is_name station ≡ true → IsLine (codes "station" ++ behind (site ∷ station ∷ [])) (declares site station)
station_says site station hs ht =
    let all = two site station (is_word-name site hs) (is_word-name station ht) in
    words_say (codes "station") site (station ∷ []) (declares site station) refl all refl refl
    (ap station_line (words_are 1 site (station ∷ []) refl all) ∙ (λ i. read_name site hs i >>= (λ s. read_name station ht i >>= (λ t. declares s t))))

period_says : (site : List ℕ) (n : ℕ) → is_name site ≡ true → 0 < n → n < 2 ^ 64 → IsLine (codes "period" ++ behind (site ∷ decimal n ∷ [])) (sets_period site n)
period_says site n hs some fits =
    let all = two site (decimal n) (is_word-name site hs) (is_word-decimal n fits) in
    words_say (codes "period") site (decimal n ∷ []) (sets_period site n) refl all refl refl
    (ap period_line (words_are 1 site (decimal n ∷ []) refl all) ∙ (λ i. read_name site hs i >>= (λ s. number_read n some fits i >>= (λ t. sets_period s t))))

order_says : (site : List ℕ) → is_name site ≡ true → IsLine (codes "order" ++ behind (site ∷ codes "moment" ∷ [])) (sets_order site Moment)
order_says site hs =
    let all = two site (codes "moment") (is_word-name site hs) (record { plain = refl; short = refl }) in
    words_say (codes "order") site (codes "moment" ∷ []) (sets_order site Moment) refl all refl refl
    (ap order_line (words_are 1 site (codes "moment" ∷ []) refl all) ∙ (λ i. read_name site hs i >>= (λ s. sets_order s Moment)))

settle_says : (site word : List ℕ) (rule : Settle) → is_name site ≡ true → IsWord word → settle_word word ≡ Some rule → IsLine (codes "settle" ++ behind (site ∷ word ∷ [])) (sets_settle site rule)
settle_says site word rule hs is reads =
    let all = two site word (is_word-name site hs) is in
    words_say (codes "settle") site (word ∷ []) (sets_settle site rule) refl all refl refl
    (ap settle_line (words_are 1 site (word ∷ []) refl all) ∙ (λ i. read_name site hs i >>= (λ s. reads i >>= (λ r. sets_settle s r))))

-- ---- what they add

pub adds_limits : (old new wa wb wc wd : List ℕ) (l : Bounds) → AreBounds l.transactions l.events l.readings l.changes
    → wa ≡ decimal l.transactions → wb ≡ decimal l.events → wc ≡ decimal l.readings → wd ≡ decimal l.changes
    → new ≡ old ++ codes "limits" ++ behind (wa ∷ wb ∷ wc ∷ wd ∷ []) ++ 10 ∷ [] → Adds old new (limits_meaning l ∷ [])
adds_limits old new wa wb wc wd l are a b c d e =
    let rest = behind (decimal l.transactions ∷ decimal l.events ∷ decimal l.readings ∷ decimal l.changes ∷ []) in
    adds_words old new (codes "limits") rest (limits_meaning l) (limits_say l.transactions l.events l.readings l.changes are) are
    (e ∙ (λ i. old ++ codes "limits" ++ behind (a i ∷ b i ∷ c i ∷ d i ∷ []) ++ 10 ∷ []))

-- the name of a site that is read
name_there : (sites : List SitePlan) (k : ℕ) (s : SitePlan) → k < length sites → s ≡ get_or sites k s → s.name ≡ site_name sites k
name_there sites k s less is = ap (λ (x : SitePlan). x.name) is ∙ sym (get_or-map (λ (x : SitePlan). x.name) sites k s [] less)

pub adds_station : (old new ws wt name : List ℕ) (sites : List SitePlan) (k : ℕ) (s : SitePlan) → k < length sites → s ≡ get_or sites k s
    → ws ≡ s.name → is_name ws ≡ true → wt ≡ name → is_name wt ≡ true
    → new ≡ old ++ codes "station" ++ behind (ws ∷ wt ∷ []) ++ 10 ∷ [] → Adds old new (declares (site_name sites k) name ∷ [])
adds_station old new ws wt name sites k s less is a hs b ht e =
    let site : ws ≡ site_name sites k = a ∙ name_there sites k s less is in
    let added : Adds old new (declares ws wt ∷ []) = adds_words old new (codes "station") (behind (ws ∷ wt ∷ [])) (declares ws wt) (station_says ws wt hs ht) tt e in
    subst (λ n. Adds old new (declares (site_name sites k) n ∷ [])) b (subst (λ n. Adds old new (declares n wt ∷ [])) site added)

-- one of the four lengths is one that a line may have
in_period : (n : ℕ) → IsPeriod n → (is_period n ≡ true) × (0 < n) × (n < 2 ^ 64)
in_period n is = at is
  where
    of : (k : ℕ) → n ≡ k → is_period k ≡ true → 0 < k → k < 2 ^ 64 → (is_period n ≡ true) × (0 < n) × (n < 2 ^ 64)
    of k e a b c = subst (λ x. (is_period x ≡ true) × (0 < x) × (x < 2 ^ 64)) (sym e) (a, b, c)

    at : IsPeriod n → (is_period n ≡ true) × (0 < n) × (n < 2 ^ 64)
    at (inl e) = of 300 e refl (omega arith) (omega arith)
    at (inr (inl e)) = of 900 e refl (omega arith) (omega arith)
    at (inr (inr (inl e))) = of 1_800 e refl (omega arith) (omega arith)
    at (inr (inr (inr e))) = of 3_600 e refl (omega arith) (omega arith)

pub adds_period : (old new ws wn site : List ℕ) (n : ℕ) → ws ≡ site → is_name ws ≡ true → wn ≡ decimal n → IsPeriod n
    → new ≡ old ++ codes "period" ++ behind (ws ∷ wn ∷ []) ++ 10 ∷ [] → Adds old new (sets_period site n ∷ [])
adds_period old new ws wn site n a hs b is e =
    let line : new ≡ old ++ codes "period" ++ behind (ws ∷ decimal n ∷ []) ++ 10 ∷ [] = e ∙ (λ i. old ++ codes "period" ++ behind (ws ∷ b i ∷ []) ++ 10 ∷ []) in
    let range = in_period n is in
    let added : Adds old new (sets_period ws n ∷ []) =
    adds_words old new (codes "period") (behind (ws ∷ decimal n ∷ [])) (sets_period ws n) (period_says ws n hs range.1 range.2) range.0 line in
    subst (λ x. Adds old new (sets_period x n ∷ [])) a added

pub adds_order : (old new ws site : List ℕ) → ws ≡ site → is_name ws ≡ true
    → new ≡ old ++ codes "order" ++ behind (ws ∷ codes "moment" ∷ []) ++ 10 ∷ [] → Adds old new (sets_order site Moment ∷ [])
adds_order old new ws site a hs e =
    let added : Adds old new (sets_order ws Moment ∷ []) = adds_words old new (codes "order") (behind (ws ∷ codes "moment" ∷ [])) (sets_order ws Moment) (order_says ws hs) tt e in
    subst (λ x. Adds old new (sets_order x Moment ∷ [])) a added

pub adds_settle : (old new ws site word : List ℕ) (rule : Settle) → ws ≡ site → is_name ws ≡ true → settle_word word ≡ Some rule → IsWord word
    → new ≡ old ++ codes "settle" ++ behind (ws ∷ word ∷ []) ++ 10 ∷ [] → Adds old new (sets_settle site rule ∷ [])
adds_settle old new ws site word rule a hs reads is e =
    let added : Adds old new (sets_settle ws rule ∷ []) = adds_words old new (codes "settle") (behind (ws ∷ word ∷ [])) (sets_settle ws rule) (settle_says ws word rule hs is reads) tt e in
    subst (λ x. Adds old new (sets_settle x rule ∷ [])) a added

-- what a fact gives where a call succeeded
pub on_ok : {A E : Type 0} (r : Result A E) (P Q : Type 0) → (P → Q) → OnOk r P → OnOk r Q
on_ok (Ok x) P Q f p = f p
on_ok (Err e) P Q f p = p
