-- Each step keeps the rule of a site's table, over any number of totals.
use Rattle.std.proofs.Common.{◌≡◌, ◌≢◌, ℕ, zero, suc, ◌+◌, ◌*◌, ◌%◌, ◌<◌, ◌≤◌, eqb, true, false, true≢false, List, [], ◌∷◌, ◌++◌, length, take, drop, set, get_or, refl, ap, sym, ◌∙◌, subst, ⊎_elim, arith, append-nil, length-append, eq-eqb, ne_eqb, MatchBool, take-append-drop}
use mathlib.Core.Option.{some, some-ne-none, some-injective}
use mathlib.Core.Logic.{dite}
use native.Mathlib.Decide.{ℕ_discrete}
use lib.ListN.{get_elem?}
use lib.Seq.{set-get_or}
use Rattle.atomic_table.{specs.Table.{State, Me, keeps, Allows, Splits, Joins}, proofs.Lists.{at_set, at_snoc, set_again}}
use Rattle.ledger_model.specs.Posts.{Post}
use Rattle.site_book.{specs.declared.table.View.View, specs.Prefix.IsPrefix, specs.Rule.{version_of, words_of, Fits, KeptAt, Kept, writing, seeing, looking}, proofs.Prefixes.{prefix_self, prefix_none, prefix_trans, prefix_shorter, prefix_whole, prefix_length, prefix_next}}

off : false ≡ true → ⊥
off e = true≢false (sym e)

-- One more number of a list that takes the place of another.
set-mixed : (i : ℕ) (new old : List ℕ) (a : ℕ) → i < length new → length new ≡ length old → a ≡ get_or new i 0
    → set (take i new ++ drop i old) i a ≡ take (suc i) new ++ drop (suc i) old
set-mixed i [] old a less same e = absurd (omega arith)
set-mixed i (x ∷ new) [] a less same e = absurd (omega arith)
set-mixed zero (x ∷ new) (y ∷ old) a less same e = ap (λ z. z ∷ old) e
set-mixed (suc i) (x ∷ new) (y ∷ old) a less same e = ap (λ zs. x ∷ zs) (set-mixed i new old a (omega arith) (omega arith) e)

take_whole : (xs : List ℕ) → take (length xs) xs ≡ xs
take_whole [] = refl
take_whole (x ∷ xs) = ap (λ ys. x ∷ ys) (take_whole xs)

drop_whole : (xs : List ℕ) → drop (length xs) xs ≡ []
drop_whole [] = refl
drop_whole (x ∷ xs) = drop_whole xs

-- An even version has no post under way.
even_none : (log pending : List Post) (version : ℕ) → length pending ≤ 1 → version ≡ version_of log pending → version % 2 ≡ 0 → pending ≡ []
even_none log [] version one is even = refl
even_none log (p ∷ []) version one is even = absurd (odd (length log) version is even)
  where
    odd : (n version : ℕ) → version ≡ 2 * n + 1 → version % 2 ≡ 0 → ⊥
    odd n version is even = omega arith
even_none log (p ∷ q ∷ rest) version one is even = absurd (omega arith)

module _ (T : List Post → List ℕ) (wide : ℕ) (len : (log : List Post) → length (T log) ≡ wide) where
  abbrev S : Type 0
  S = State (Unit {0}) View

  abbrev Rule : S → Type 0
  Rule s = Kept T s.words s.views

  abbrev Slots : Type 0
  Slots = List (ℕ × Unit {0})

  words_even : (log : List Post) (stored : ℕ) → words_of T log [] stored ≡ version_of log [] ∷ T log
  words_even log stored =
      ap (λ front. version_of log [] ∷ (take stored (T front) ++ drop stored (T log))) (append-nil log)
      ∙ ap (λ ns. version_of log [] ∷ ns) (take-append-drop stored (T log))

  -- the words as a post is opened
  words_open : (log : List Post) (post : Post) (stored : ℕ) (words : List ℕ) (n : ℕ) → words ≡ words_of T log [] stored → n ≡ 2 * length log + 1
      → set words 0 n ≡ words_of T log (post ∷ []) 0
  words_open log post stored words n is e =
      ap (λ ws. set ws 0 n) (is ∙ words_even log stored) ∙ ap (λ m. m ∷ T log) e

  -- the words as one more total is stored
  words_more : (log pending : List Post) (i word : ℕ) (words : List ℕ) (n : ℕ) → words ≡ words_of T log pending i → word ≡ suc i → i < wide → n ≡ get_or (T (log ++ pending)) i 0
      → set words word n ≡ words_of T log pending word
  words_more log pending i word words n is at less e =
      let more : set (take i (T (log ++ pending)) ++ drop i (T log)) i n ≡ take (suc i) (T (log ++ pending)) ++ drop (suc i) (T log)
      = set-mixed i (T (log ++ pending)) (T log) n (omega (arith, len (log ++ pending))) (len (log ++ pending) ∙ sym (len log)) e in
      ap (λ k. set words k n) at ∙ ap (λ ws. set ws (suc i) n) is ∙ ap (λ ns. version_of log pending ∷ ns) more ∙ ap (λ k. words_of T log pending k) (sym at)

  -- the words as the post is closed
  words_close : (log pending : List Post) (words : List ℕ) (n : ℕ) → words ≡ words_of T log pending wide → n ≡ version_of (log ++ pending) []
      → set words 0 n ≡ words_of T (log ++ pending) [] 0
  words_close log pending words n is e =
      let new : take wide (T (log ++ pending)) ≡ T (log ++ pending) = ap (λ k. take k (T (log ++ pending))) (sym (len (log ++ pending))) ∙ take_whole (T (log ++ pending)) in
      let none : drop wide (T log) ≡ [] = ap (λ k. drop k (T log)) (sym (len log)) ∙ drop_whole (T log) in
      ap (λ ws. set ws 0 n) is
      ∙ ap (λ ns. n ∷ (ns ++ drop wide (T log))) new
      ∙ ap (λ ns. n ∷ (T (log ++ pending) ++ ns)) none
      ∙ ap (λ ns. n ∷ ns) (append-nil (T (log ++ pending)))
      ∙ ap (λ m. m ∷ T (log ++ pending)) e
      ∙ sym (words_even (log ++ pending) 0)

  -- where one seat's view changes, the others still fit
  seats_stay : (log log' pending pending' : List Post) (stored stored' : ℕ) (views : List View) (id : ℕ) (w : View)
      → Fits T log' pending' stored' id w
      → ((by : ℕ) (v : View) → by ≢ id → Fits T log pending stored by v → Fits T log' pending' stored' by v)
      → ((by : ℕ) (v : View) → get_elem? views by ≡ some v → Fits T log pending stored by v)
      → (by : ℕ) (v : View) → get_elem? (set views id w) by ≡ some v → Fits T log' pending' stored' by v
  seats_stay log log' pending pending' stored stored' views id w mine others seats by v at = ⊎_elim
      (λ (t : (by ≡ id) × (w ≡ v)). subst (λ (x : ℕ × View). Fits T log' pending' stored' x.0 x.1) (λ i. (sym t.0 i, t.1 i)) mine)
      (λ (t : (by ≢ id) × (get_elem? views by ≡ some v)). others by v t.0 (seats by v t.1))
      (at_set views id by w v at)

  -- the rule at what the book's seat knows
  book_at : (words : List ℕ) (views : List View) (k : Kept T words views) (id : ℕ) (log old pending : List Post) (stored : ℕ) → get_elem? views id ≡ some (writing log old pending stored)
      → (id ≡ 0) × KeptAt T words views log pending stored
  book_at words views k id log old pending stored at =
      let mine = (k.holds.seats id (writing log old pending stored) at).writes refl in
      (mine.0, subst (λ (x : List Post × List Post × ℕ). KeptAt T words views x.0 x.1 x.2) (λ i. (sym mine.1 i, sym mine.2 i, sym mine.3 i)) k.holds)

  fits_writing : (log old pending : List Post) (stored id : ℕ) → id ≡ 0 → IsPrefix old log → Fits T log pending stored id (writing log old pending stored)
  fits_writing log old pending stored id first p = record {
    begins = prefix_self log;
    old = p;
    shorter = prefix_length old log p;
    writes = λ _. (first, refl, refl, refl);
    looks = λ e. absurd (off e);
  }

  fits_seeing : (log pending known old : List Post) (stored id : ℕ) → IsPrefix known log → IsPrefix old log → length old ≤ length known → Fits T log pending stored id (seeing known old)
  fits_seeing log pending known old stored id p q le = record {
    begins = p;
    old = q;
    shorter = le;
    writes = λ e. absurd (off e);
    looks = λ e. absurd (off e);
  }

  fits_looking : (log pending known : List Post) (stored id version : ℕ) (read : List ℕ) → IsPrefix known log
      → (version ≤ version_of log pending) × (version ≡ version_of log pending → pending ≡ [] → IsPrefix read (T log)) → Fits T log pending stored id (looking known version read)
  fits_looking log pending known stored id version read p l = record {
    begins = p;
    old = prefix_none log;
    shorter = omega arith;
    writes = λ e. absurd (off e);
    looks = λ e. l;
  }

  -- a reading seat's view fits posts that go on, under a version that rose
  later : (log log' pending pending' : List Post) (stored stored' by : ℕ) (v : View) → by ≢ 0 → IsPrefix log log' → version_of log pending < version_of log' pending'
      → Fits T log pending stored by v → Fits T log' pending' stored' by v
  later log log' pending pending' stored stored' by v apart on rose f = record {
    begins = prefix_trans v.log log log' f.begins on;
    old = prefix_trans v.old log log' f.old on;
    shorter = f.shorter;
    writes = λ e. absurd (apart (f.writes e).0);
    looks = λ e. let l = f.looks e in let below : v.version ≤ version_of log pending = l.0 in (omega (arith, below, rose), λ same _. absurd (omega (arith, below, rose, same)));
  }

  -- and one more total of the post under way
  beside : (log pending : List Post) (stored stored' by : ℕ) (v : View) → by ≢ 0 → Fits T log pending stored by v → Fits T log pending stored' by v
  beside log pending stored stored' by v apart f = record { begins = f.begins; old = f.old; shorter = f.shorter; writes = λ e. absurd (apart (f.writes e).0); looks = f.looks }

  -- a seat that is not the book's, where the book's is the first
  apart_from : (by id : ℕ) → by ≢ id → id ≡ 0 → by ≢ 0
  apart_from by id apart first e = apart (e ∙ sym first)

  -- the table as it is made
  pub begins : (words : List ℕ) → words ≡ 0 ∷ T [] → Kept T words (writing [] [] [] 0 ∷ [])
  begins words is = record {
    log = [];
    pending = [];
    stored = 0;
    holds = record { one = omega arith; words_are = is; seats = only };
  }
    where
      only : (by : ℕ) (v : View) → get_elem? (writing [] [] [] 0 ∷ []) by ≡ some v → Fits T [] [] 0 by v
      only zero v e = subst (Fits T [] [] 0 0) (some-injective _ _ e) (fits_writing [] [] [] 0 0 refl (prefix_none []))
      only (suc by) v e = absurd (some-ne-none v (sym e))

  -- the book opens a post
  pub opens : (slots id : ℕ) (log : List Post) (post : Post) (n : ℕ) → n ≡ 2 * length log + 1
      → Allows Rule slots id (writing log [] [] 0, []) 0 (λ _. n) (λ _ w. w ≡ (writing log [] (post ∷ []) 0, []))
  opens slots id log post n is s k deep at small =
      let b = book_at s.words s.views k id log [] [] 0 at in
      let w = writing log [] (post ∷ []) 0 in
      let rose : version_of log [] < version_of log (post ∷ []) = omega arith in (
        w,
        keeps,
        tt,
        record {
          log = log;
          pending = post ∷ [];
          stored = 0;
          holds = record {
            one = omega arith;
            words_are = words_open log post 0 s.words n b.1.words_are is;
            seats = seats_stay log log [] (post ∷ []) 0 0 s.views id w (fits_writing log [] (post ∷ []) 0 id b.0 (prefix_none log))
                (λ by v apart f. later log log [] (post ∷ []) 0 0 by v (apart_from by id apart b.0) (prefix_self log) rose f) b.1.seats;
          };
        },
        refl,
      )

  -- the book stores one total
  pub stores : (slots id : ℕ) (log pending : List Post) (i word n : ℕ) → word ≡ suc i → i < wide → n ≡ get_or (T (log ++ pending)) i 0
      → Allows Rule slots id (writing log [] pending i, []) word (λ _. n) (λ _ w. w ≡ (writing log [] pending word, []))
  stores slots id log pending i word n next less is s k deep at small =
      let b = book_at s.words s.views k id log [] pending i at in
      let w = writing log [] pending word in (
        w,
        keeps,
        tt,
        record {
          log = log;
          pending = pending;
          stored = word;
          holds = record {
            one = b.1.one;
            words_are = words_more log pending i word s.words n b.1.words_are next less is;
            seats = seats_stay log log pending pending i word s.views id w (fits_writing log [] pending word id b.0 (prefix_none log))
                (λ by v apart f. beside log pending i word by v (apart_from by id apart b.0) f) b.1.seats;
          };
        },
        refl,
      )

  -- the book closes the post
  pub closes : (slots id : ℕ) (log pending : List Post) (n : ℕ) → length pending ≡ 1 → n ≡ 2 * length log + 2
      → Allows Rule slots id (writing log [] pending wide, []) 0 (λ _. n) (λ _ w. w ≡ (writing (log ++ pending) [] [] 0, []))
  closes slots id log pending n one is s k deep at small =
      let b = book_at s.words s.views k id log [] pending wide at in
      let now = log ++ pending in
      let w = writing now [] [] 0 in
      let more : length now ≡ length log + 1 = length-append log pending ∙ ap (λ m. length log + m) one in
      let rose : version_of log pending < version_of now [] = omega (arith, more, one) in (
        w,
        keeps,
        tt,
        record {
          log = now;
          pending = [];
          stored = 0;
          holds = record {
            one = omega arith;
            words_are = words_close log pending s.words n b.1.words_are (omega (arith, more, is));
            seats = seats_stay log now pending [] wide 0 s.views id w (fits_writing now [] [] 0 id b.0 (prefix_none now))
                (λ by v apart f. later log now pending [] wide 0 by v (apart_from by id apart b.0) (record { rest = pending; is = refl }) rose f) b.1.seats;
          };
        },
        refl,
      )

  -- a load leaves the words, and the first is the version
  same_words : (words : List ℕ) (i : ℕ) → set words i (get_or words i 0) ≡ words
  same_words words i = set-get_or words i 0

  first_word : (words : List ℕ) (views : List View) (k : Kept T words views) → get_or words 0 0 ≡ version_of k.log k.pending
  first_word words views k = ap (λ ws. get_or ws 0 0) k.holds.words_are

  -- the rule after a load of a word that changes one view
  loaded : (s : S) (k : Rule s) (id i : ℕ) (w : View) → Fits T k.log k.pending k.stored id w → Kept T (set s.words i (get_or s.words i 0)) (set s.views id w)
  loaded s k id i w mine = record {
    log = k.log;
    pending = k.pending;
    stored = k.stored;
    holds = record {
      one = k.holds.one;
      words_are = same_words s.words i ∙ k.holds.words_are;
      seats = seats_stay k.log k.log k.pending k.pending k.stored k.stored s.views id w mine (λ by v apart f. f) k.holds.seats;
    };
  }

  -- a seat loads the version
  pub looks : (slots id : ℕ) (v : View) (kept : Slots) → v.writes ≡ false
      → Allows Rule slots id (v, kept) 0 (λ n. n) (λ n w. (w ≡ (looking v.log n [], kept)) × IsPrefix v.old v.log)
  looks slots id v kept reads s k deep at small =
      let n : ℕ = get_or s.words 0 0 in
      let is : n ≡ version_of k.log k.pending = first_word s.words s.views k in
      let f = k.holds.seats id v at in
      let w = looking v.log n [] in (
        w,
        keeps,
        tt,
        loaded s k id 0 w (fits_looking k.log k.pending v.log k.stored id n [] f.begins (omega (arith, is), λ _ _. prefix_none (T k.log))),
        (refl, prefix_shorter v.old v.log k.log f.old f.begins f.shorter),
      )

  -- the book loads the version
  pub recalls : (slots id : ℕ) (log old : List Post)
      → Allows Rule slots id (writing log old [] 0, []) 0 (λ n. n) (λ n w. (w ≡ (writing log [] [] 0, [])) × IsPrefix old log)
  recalls slots id log old s k deep at small =
      let b = book_at s.words s.views k id log old [] 0 at in
      let f = b.1.seats id (writing log old [] 0) at in
      let w = writing log [] [] 0 in (
        w,
        keeps,
        tt,
        record {
          log = log;
          pending = [];
          stored = 0;
          holds = record {
            one = omega arith;
            words_are = same_words s.words 0 ∙ b.1.words_are;
            seats = seats_stay log log [] [] 0 0 s.views id w (fits_writing log [] [] 0 id b.0 (prefix_none log)) (λ by v apart g. g) b.1.seats;
          };
        },
        (refl, f.old),
      )

  -- a word that holds a total, where no post is under way
  total_at : (words : List ℕ) (log pending : List Post) (stored i word : ℕ) → words ≡ words_of T log pending stored → pending ≡ [] → word ≡ suc i → get_or words word 0 ≡ get_or (T log) i 0
  total_at words log pending stored i word is none at =
      ap (λ k. get_or words k 0) at
      ∙ ap (λ ws. get_or ws (suc i) 0) (is ∙ ap (λ p. words_of T log p stored) none ∙ words_even log stored)

  -- a seat loads one total
  pub loads : (slots id : ℕ) (log : List Post) (version : ℕ) (read : List ℕ) (i word : ℕ) → length read ≡ i → i < wide → word ≡ suc i
      → Allows Rule slots id (looking log version read, []) word (λ n. n) (λ n w. w ≡ (looking log version (read ++ n ∷ []), []))
  loads slots id log version read i word count less next s k deep at small =
      let n : ℕ = get_or s.words word 0 in
      let f = k.holds.seats id (looking log version read) at in
      let l = f.looks refl in
      let w = looking log version (read ++ n ∷ []) in (
        w,
        keeps,
        tt,
        loaded s k id word w (fits_looking k.log k.pending log k.stored id version (read ++ n ∷ []) f.begins
            (l.0, λ same none. prefix_next 0 read (T k.log) i n (l.1 same none) count (omega (arith, len k.log, less)) (total_at s.words k.log k.pending k.stored i word k.holds.words_are none next))),
        refl,
      )

  -- what the second load of the version shows
  abbrev pub Shows : List Post → ℕ → List ℕ → ℕ → Me (Unit {0}) View → Type 0
  Shows log version read n w = MatchBool (eqb n version)
      ((w ≡ (seeing w.0.log [], [])) × IsPrefix log w.0.log × (read ≡ T w.0.log) × (n ≡ 2 * length w.0.log))
      (w ≡ (seeing log [], []))

  shows_same : (log log' : List Post) (version : ℕ) (read : List ℕ) (n : ℕ) → n ≡ version → IsPrefix log log' → read ≡ T log' → n ≡ 2 * length log' → Shows log version read n (seeing log' [], [])
  shows_same log log' version read n same p e c =
      let w : Me (Unit {0}) View = (seeing log' [], []) in
      let none : Me (Unit {0}) View = (seeing log [], []) in
      subst (λ b. MatchBool b ((w ≡ w) × IsPrefix log log' × (read ≡ T log') × (n ≡ 2 * length log')) (w ≡ none)) (sym (eq-eqb n version same)) (refl, p, e, c)

  shows_other : (log : List Post) (version : ℕ) (read : List ℕ) (n : ℕ) → n ≢ version → Shows log version read n (seeing log [], [])
  shows_other log version read n other =
      let w : Me (Unit {0}) View = (seeing log [], []) in
      subst (λ b. MatchBool b ((w ≡ w) × IsPrefix log log × (read ≡ T log) × (n ≡ 2 * length log)) (w ≡ w)) (sym (ne_eqb n version other)) refl

  -- a seat loads the version again
  pub checks : (slots id : ℕ) (log : List Post) (version : ℕ) (read : List ℕ) → version % 2 ≡ 0 → length read ≡ wide
      → Allows Rule slots id (looking log version read, []) 0 (λ n. n) (Shows log version read)
  checks slots id log version read even all s k deep at small =
      let n : ℕ = get_or s.words 0 0 in
      let is : n ≡ version_of k.log k.pending = first_word s.words s.views k in
      let f = k.holds.seats id (looking log version read) at in
      dite (ℕ_discrete n version)
      (λ (same : n ≡ version).
      let stands : version ≡ version_of k.log k.pending = sym same ∙ is in
      let none : k.pending ≡ [] = even_none k.log k.pending version k.holds.one stands even in
      let whole : read ≡ T k.log = prefix_whole read (T k.log) ((f.looks refl).1 stands none) (omega (arith, len k.log, all)) in
      let count : n ≡ 2 * length k.log = let e : n ≡ 2 * length k.log + 0 = is ∙ ap (λ p. version_of k.log p) none in omega (arith, e) in (
        seeing k.log [],
        keeps,
        tt,
        loaded s k id 0 (seeing k.log []) (fits_seeing k.log k.pending k.log [] k.stored id (prefix_self k.log) (prefix_none k.log) (omega arith)),
        shows_same log k.log version read n same f.begins whole count,
      ))
      (λ (other : n ≢ version). (
        seeing log [],
        keeps,
        tt,
        loaded s k id 0 (seeing log []) (fits_seeing k.log k.pending log [] k.stored id f.begins (prefix_none k.log) (omega arith)),
        shows_other log version read n other,
      ))

  -- another seat that knows the same
  pub shares : (id : ℕ) (v : View) → Splits {S = Unit {0}} Rule id v v (seeing v.log [])
  shares id v s k at =
      let f = k.holds.seats id v at in
      let w = seeing v.log [] in
      record {
        log = k.log;
        pending = k.pending;
        stored = k.stored;
        holds = record {
          one = k.holds.one;
          words_are = k.holds.words_are;
          seats = λ by u e. ⊎_elim
              (λ (was : get_elem? (set s.views id v) by ≡ some u). k.holds.seats by u (subst (λ vs. get_elem? vs by ≡ some u) (set_again s.views id v at) was))
              (λ (same : w ≡ u). subst (Fits T k.log k.pending k.stored by) same (fits_seeing k.log k.pending v.log [] k.stored by f.begins (prefix_none k.log) (omega arith)))
              (at_snoc (set s.views id v) w u by e);
        };
      }

  -- the rule after a join, where the seat that stays has the view b
  joined : (s : S) (k : Rule s) (id other : ℕ) (b : View) → Fits T k.log k.pending k.stored id b → Kept T s.words (set (set s.views id b) other (seeing [] []))
  joined s k id other b mine = record {
    log = k.log;
    pending = k.pending;
    stored = k.stored;
    holds = record {
      one = k.holds.one;
      words_are = k.holds.words_are;
      seats = seats_stay k.log k.log k.pending k.pending k.stored k.stored (set s.views id b) other (seeing [] [])
          (fits_seeing k.log k.pending [] [] k.stored other (prefix_none k.log) (prefix_none k.log) (omega arith)) (λ by v apart f. f)
          (seats_stay k.log k.log k.pending k.pending k.stored k.stored s.views id b mine (λ by v apart f. f) k.holds.seats);
    };
  }

  -- what the rule says of the seat that is spent
  theirs : (s : S) (k : Rule s) (id other : ℕ) (w b : View) → ¬ (other ≡ id) → get_elem? (set s.views id b) other ≡ some w → Fits T k.log k.pending k.stored other w
  theirs s k id other w b apart at = ⊎_elim
      (λ (t : (other ≡ id) × (b ≡ w)). absurd (apart t.0))
      (λ (t : (other ≢ id) × (get_elem? s.views other ≡ some w)). k.holds.seats other w t.1)
      (at_set s.views id other b w at)

  -- a seat takes in one that knows no more
  pub keeps_list : (id other : ℕ) (v w : View) → length w.log ≤ length v.log → Joins {S = Unit {0}} Rule id v other w (seeing v.log w.log) (seeing [] [])
  keeps_list id other v w le s k at apart there =
      let f = k.holds.seats id v at in
      let g = theirs s k id other w (seeing v.log w.log) apart there in
      joined s k id other (seeing v.log w.log) (fits_seeing k.log k.pending v.log w.log k.stored id f.begins g.begins le)

  -- a seat takes in one that knows as much or more
  pub grows_list : (id other : ℕ) (v w : View) → length v.log ≤ length w.log → Joins {S = Unit {0}} Rule id v other w (seeing w.log v.log) (seeing [] [])
  grows_list id other v w le s k at apart there =
      let f = k.holds.seats id v at in
      let g = theirs s k id other w (seeing w.log v.log) apart there in
      joined s k id other (seeing w.log v.log) (fits_seeing k.log k.pending w.log v.log k.stored id g.begins f.begins le)

  -- the book takes in another seat
  pub takes_in : (id other : ℕ) (log : List Post) (w : View) → Joins {S = Unit {0}} Rule id (writing log [] [] 0) other w (writing log w.log [] 0) (seeing [] [])
  takes_in id other log w s k at apart there =
      let b = book_at s.words s.views k id log [] [] 0 at in
      let rule : Kept T s.words s.views = record { log = log; pending = []; stored = 0; holds = b.1 } in
      let g = theirs s rule id other w (writing log w.log [] 0) apart there in
      joined s rule id other (writing log w.log [] 0) (fits_writing log w.log [] 0 id b.0 g.begins)

  -- the moves of the book and of a glance, at a seat that is known
  pub opens_as : (slots id : ℕ) (me : Me (Unit {0}) View) (post : Post) (n : ℕ) → me ≡ (writing me.0.log [] [] 0, []) → n ≡ 2 * length me.0.log + 1
      → Allows Rule slots id me 0 (λ _. n) (λ _ w. w ≡ (writing me.0.log [] (post ∷ []) 0, me.1))
  opens_as slots id me post n is next =
      subst (λ (m : Me (Unit {0}) View). Allows Rule slots id m 0 (λ _. n) (λ _ w. w ≡ (writing m.0.log [] (post ∷ []) 0, m.1))) (sym is) (opens slots id me.0.log post n next)

  pub stores_as : (slots id : ℕ) (me : Me (Unit {0}) View) (i word n : ℕ) → me ≡ (writing me.0.log [] me.0.pending i, []) → word ≡ suc i → i < wide → n ≡ get_or (T (me.0.log ++ me.0.pending)) i 0
      → Allows Rule slots id me word (λ _. n) (λ _ w. w ≡ (writing me.0.log [] me.0.pending word, me.1))
  stores_as slots id me i word n is next less total =
      subst (λ (m : Me (Unit {0}) View). Allows Rule slots id m word (λ _. n) (λ _ w. w ≡ (writing m.0.log [] m.0.pending word, m.1)))
      (sym is) (stores slots id me.0.log me.0.pending i word n next less total)

  pub closes_as : (slots id : ℕ) (me : Me (Unit {0}) View) (n : ℕ) → me ≡ (writing me.0.log [] me.0.pending wide, []) → length me.0.pending ≡ 1 → n ≡ 2 * length me.0.log + 2
      → Allows Rule slots id me 0 (λ _. n) (λ _ w. w ≡ (writing (me.0.log ++ me.0.pending) [] [] 0, me.1))
  closes_as slots id me n is one next =
      subst (λ (m : Me (Unit {0}) View). Allows Rule slots id m 0 (λ _. n) (λ _ w. w ≡ (writing (m.0.log ++ m.0.pending) [] [] 0, m.1))) (sym is) (closes slots id me.0.log me.0.pending n one next)

  pub recalls_as : (slots id : ℕ) (me : Me (Unit {0}) View) → me ≡ (writing me.0.log me.0.old [] 0, [])
      → Allows Rule slots id me 0 (λ n. n) (λ n w. (w ≡ (writing me.0.log [] [] 0, me.1)) × IsPrefix me.0.old me.0.log)
  recalls_as slots id me is =
      subst (λ (m : Me (Unit {0}) View). Allows Rule slots id m 0 (λ n. n) (λ n w. (w ≡ (writing m.0.log [] [] 0, m.1)) × IsPrefix m.0.old m.0.log)) (sym is) (recalls slots id me.0.log me.0.old)

  pub loads_as : (slots id : ℕ) (me : Me (Unit {0}) View) (i word : ℕ) → me ≡ (looking me.0.log me.0.version me.0.read, []) → length me.0.read ≡ i → i < wide → word ≡ suc i
      → Allows Rule slots id me word (λ n. n) (λ n w. w ≡ (looking me.0.log me.0.version (me.0.read ++ n ∷ []), me.1))
  loads_as slots id me i word is count less next =
      subst (λ (m : Me (Unit {0}) View). Allows Rule slots id m word (λ n. n) (λ n w. w ≡ (looking m.0.log m.0.version (m.0.read ++ n ∷ []), m.1)))
      (sym is) (loads slots id me.0.log me.0.version me.0.read i word count less next)

  pub checks_as : (slots id : ℕ) (me : Me (Unit {0}) View) → me ≡ (looking me.0.log me.0.version me.0.read, []) → me.0.version % 2 ≡ 0 → length me.0.read ≡ wide
      → Allows Rule slots id me 0 (λ n. n) (λ n w. MatchBool (eqb n me.0.version)
      ((w ≡ (seeing w.0.log [], me.1)) × IsPrefix me.0.log w.0.log × (me.0.read ≡ T w.0.log) × (n ≡ 2 * length w.0.log))
      (w ≡ (seeing me.0.log [], me.1)))
  checks_as slots id me is even all =
      subst (λ (m : Me (Unit {0}) View). Allows Rule slots id m 0 (λ n. n) (λ n w. MatchBool (eqb n m.0.version)
      ((w ≡ (seeing w.0.log [], m.1)) × IsPrefix m.0.log w.0.log × (m.0.read ≡ T w.0.log) × (n ≡ 2 * length w.0.log))
      (w ≡ (seeing m.0.log [], m.1)))) (sym is) (checks slots id me.0.log me.0.version me.0.read even all)

  pub takes_in_as : (id other : ℕ) (v w : View) → v ≡ writing v.log [] [] 0 → Joins {S = Unit {0}} Rule id v other w (writing v.log w.log [] 0) (seeing [] [])
  takes_in_as id other v w is = subst (λ (u : View). Joins {S = Unit {0}} Rule id u other w (writing u.log w.log [] 0) (seeing [] [])) (sym is) (takes_in id other v.log w)
