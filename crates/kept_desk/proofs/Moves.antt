-- Each step keeps the rule of a journal's table.
use Rattle.std.{proofs.Common.{◌≡◌, ◌≢◌, ℕ, zero, suc, ◌+◌, ◌<◌, ◌≤◌, eqb, true, false, true≢false, List, [], ◌∷◌, ◌++◌, length, set, refl, ap, sym, ◌∙◌, subst, ◌⊎◌, inl, inr, ⊎_elim, arith, append-nil, append_assoc, length-set, eq-eqb, ne_eqb, cond}, proofs.lemmas.List.Elements.filter-append}
use mathlib.Core.Option.{some, some-ne-none, some-injective}
use lib.ListN.{get_elem?}
use Rattle.atomic_table.{specs.Table.{Me, keeps, Allows, Splits, Joins}, proofs.Lists.at_set}
use Rattle.kept_desk.{specs.declared.entry.Entry.Entry, specs.declared.table.View.View, specs.Entries.of_station, specs.Rule.{Fits, Kept, Tied, keeping, holding, joined, nobody, knowing, reading}}
use Rattle.site_book.specs.Prefix.{IsPrefix}

off : false ≡ true → ⊥
off e = true≢false (sym e)

-- the seat of each station's share, where one station's is another now
abbrev placed : ℕ → ℕ → (ℕ → ℕ) → ℕ → ℕ
placed station seat claimant j = cond (eqb j station) seat (claimant j)

placed_here : (station seat : ℕ) (claimant : ℕ → ℕ) → placed station seat claimant station ≡ seat
placed_here station seat claimant = ap (λ b. cond b seat (claimant station)) (eq-eqb station station refl)

placed_else : (station seat : ℕ) (claimant : ℕ → ℕ) (j : ℕ) → j ≢ station → placed station seat claimant j ≡ claimant j
placed_else station seat claimant j apart = ap (λ b. cond b seat (claimant j)) (ne_eqb j station apart)

module _ where
  -- a view of a list with one more
  at_new : (l : List View) (a b : View) (j : ℕ) → get_elem? (l ++ a ∷ []) j ≡ some b → (get_elem? l j ≡ some b) ⊎ ((j ≡ length l) × (a ≡ b))
  at_new [] a b zero e = inr (refl, some-injective a b e)
  at_new [] a b (suc j) e = absurd (some-ne-none b (sym e))
  at_new (x ∷ xs) a b zero e = inl e
  at_new (x ∷ xs) a b (suc j) e = ⊎_elim (λ t. inl t) (λ t. inr (ap suc t.0, t.1)) (at_new xs a b j e)

  -- a station's entries, with one more of its own
  own_last : (station : ℕ) (log : List Entry) (e : Entry) → e.station ≡ station → of_station station (log ++ e ∷ []) ≡ of_station station log ++ e ∷ []
  own_last station log e same =
      filter-append (λ (x : Entry). eqb x.station station) log (e ∷ [])
      ∙ ap (λ b. of_station station log ++ cond b (e ∷ []) []) (eq-eqb e.station station same)

  -- and with one more of another station
  other_last : (station : ℕ) (log : List Entry) (e : Entry) → e.station ≢ station → of_station station (log ++ e ∷ []) ≡ of_station station log
  other_last station log e apart =
      filter-append (λ (x : Entry). eqb x.station station) log (e ∷ [])
      ∙ ap (λ b. of_station station log ++ cond b (e ∷ []) []) (ne_eqb e.station station apart)
      ∙ append-nil (of_station station log)

  module _ (F G : ℕ → View → Type 0) where
    -- where one seat's view changes, all views fit
    set_fits : (views : List View) (id : ℕ) (w : View) → G id w
        → ((by : ℕ) (v : View) → by ≢ id → F by v → G by v)
        → ((by : ℕ) (v : View) → get_elem? views by ≡ some v → F by v)
        → (by : ℕ) (v : View) → get_elem? (set views id w) by ≡ some v → G by v
    set_fits views id w mine others seats by v at = ⊎_elim
        (λ (t : (by ≡ id) × (w ≡ v)). subst (λ (x : ℕ × View). G x.0 x.1) (λ i. (sym t.0 i, t.1 i)) mine)
        (λ (t : (by ≢ id) × (get_elem? views by ≡ some v)). others by v t.0 (seats by v t.1))
        (at_set views id by w v at)

    -- where one seat's view is cut in two, all views fit
    new_fits : (views : List View) (id : ℕ) (left right : View) → G id left → G (length views) right
        → ((by : ℕ) (v : View) → by ≢ id → F by v → G by v)
        → ((by : ℕ) (v : View) → get_elem? views by ≡ some v → F by v)
        → (by : ℕ) (v : View) → get_elem? (set views id left ++ right ∷ []) by ≡ some v → G by v
    new_fits views id left right mine theirs others seats by v at = ⊎_elim
        (λ (t : get_elem? (set views id left) by ≡ some v). set_fits views id left mine others seats by v t)
        (λ (t : (by ≡ length (set views id left)) × (right ≡ v)). subst (λ (x : ℕ × View). G x.0 x.1) (λ i. (sym (t.0 ∙ length-set views id left) i, t.1 i)) theirs)
        (at_new (set views id left) right v by at)

  fits_nobody : (log : List Entry) (made : ℕ) (claimant : ℕ → ℕ) (id : ℕ) → Fits log made claimant id nobody
  fits_nobody log made claimant id = record { journal = λ e. absurd (off e); share = λ e. absurd (off e); receipt = λ e. absurd (off e) }

  fits_keeping : (log : List Entry) (made : ℕ) (claimant : ℕ → ℕ) (id : ℕ) (l : List Entry) (m : ℕ) → (id ≡ 0) × (l ≡ log) × (m ≡ made) → Fits log made claimant id (keeping l m)
  fits_keeping log made claimant id l m is = record { journal = λ e. is; share = λ e. absurd (off e); receipt = λ e. absurd (off e) }

  fits_holding : (log : List Entry) (made : ℕ) (claimant : ℕ → ℕ) (id station : ℕ) (mine : List Entry)
      → (station < made) × (id ≡ claimant station) × (mine ≡ of_station station log) → Fits log made claimant id (holding station mine)
  fits_holding log made claimant id station mine is = record { journal = λ e. absurd (off e); share = λ e. is; receipt = λ e. absurd (off e) }

  fits_joined : (log : List Entry) (made : ℕ) (claimant : ℕ → ℕ) (id : ℕ) (l : List Entry) (m station : ℕ) (mine : List Entry)
      → (id ≡ 0) × (l ≡ log) × (m ≡ made) → (station < made) × (id ≡ claimant station) × (mine ≡ of_station station log) → Fits log made claimant id (joined l m station mine)
  fits_joined log made claimant id l m station mine is has = record { journal = λ e. is; share = λ e. has; receipt = λ e. absurd (off e) }

  -- a seat that is not the share of the station fits where that share goes to another seat
  beside : (log : List Entry) (made : ℕ) (claimant : ℕ → ℕ) (station holder seat : ℕ) → holder ≡ claimant station
      → (by : ℕ) (v : View) → by ≢ holder → Fits log made claimant by v → Fits log made (placed station seat claimant) by v
  beside log made claimant station holder seat is by v apart f = record {
    journal = f.journal;
    share = λ e.
        let h = f.share e in
        (h.0, h.1 ∙ sym (placed_else station seat claimant v.station (λ same. apart (h.1 ∙ ap claimant same ∙ sym is))), h.2);
    receipt = f.receipt;
  }

  fits_knowing : (log : List Entry) (made : ℕ) (claimant : ℕ → ℕ) (id : ℕ) (seen : List Entry) → IsPrefix seen log → Fits log made claimant id (knowing seen)
  fits_knowing log made claimant id seen first = record { journal = λ e. absurd (off e); share = λ e. absurd (off e); receipt = λ e. first }

  fits_reading : (log : List Entry) (made : ℕ) (claimant : ℕ → ℕ) (id : ℕ) (l : List Entry) (m : ℕ) (seen : List Entry)
      → (id ≡ 0) × (l ≡ log) × (m ≡ made) → IsPrefix seen log → Fits log made claimant id (reading l m seen)
  fits_reading log made claimant id l m seen is first = record { journal = λ e. is; share = λ e. absurd (off e); receipt = λ e. first }

  -- entries that begin a list begin one with more
  begins_more : (seen log : List Entry) (e : Entry) → IsPrefix seen log → IsPrefix seen (log ++ e ∷ [])
  begins_more seen log e first = record { rest = first.rest ++ e ∷ []; is = sym (append_assoc seen first.rest (e ∷ [])) ∙ ap (λ l. l ++ e ∷ []) first.is }

  -- the table as it is made
  pub begins : Kept (keeping [] 0 ∷ [])
  begins = record { log = []; made = 0; claimant = λ _. 0; seats = only }
    where
      only : (by : ℕ) (v : View) → get_elem? (keeping [] 0 ∷ []) by ≡ some v → Fits [] 0 (λ _. 0) by v
      only zero v e = subst (Fits [] 0 (λ _. 0) 0) (some-injective _ _ e) (fits_keeping [] 0 (λ _. 0) 0 [] 0 (refl, refl, refl))
      only (suc by) v e = absurd (some-ne-none v (sym e))

  -- a share leaves what it knows to a new seat
  pub leaves : (id : ℕ) (v : View) → v.is_share ≡ true → Splits {S = Unit {0}} Tied id v nobody (holding v.station v.mine)
  leaves id v is s k at =
      let h = (k.seats id v at).share is in
      let n = length s.views in
      let to = placed v.station n k.claimant in
      record {
        log = k.log;
        made = k.made;
        claimant = to;
        seats = new_fits (Fits k.log k.made k.claimant) (Fits k.log k.made to) s.views id nobody (holding v.station v.mine)
            (fits_nobody k.log k.made to id)
            (fits_holding k.log k.made to n v.station v.mine (h.0, sym (placed_here v.station n k.claimant), h.2))
            (λ by u apart f. beside k.log k.made k.claimant v.station id n h.1 by u apart f)
            k.seats;
      }

  -- the journal gives a share back
  pub gives : (id : ℕ) (v : View) → v.is_journal ≡ true → v.is_share ≡ true → Splits {S = Unit {0}} Tied id v (keeping v.log v.made) (holding v.station v.mine)
  gives id v keeps_all is s k at =
      let f = k.seats id v at in
      let h = f.share is in
      let n = length s.views in
      let to = placed v.station n k.claimant in
      record {
        log = k.log;
        made = k.made;
        claimant = to;
        seats = new_fits (Fits k.log k.made k.claimant) (Fits k.log k.made to) s.views id (keeping v.log v.made) (holding v.station v.mine)
            (fits_keeping k.log k.made to id v.log v.made (f.journal keeps_all))
            (fits_holding k.log k.made to n v.station v.mine (h.0, sym (placed_here v.station n k.claimant), h.2))
            (λ by u apart g. beside k.log k.made k.claimant v.station id n h.1 by u apart g)
            k.seats;
      }

  -- the journal makes the share of a station that has none
  pub enlists : (id : ℕ) (v : View) (station : ℕ) → v.is_journal ≡ true → v.made ≤ station
      → Splits {S = Unit {0}} Tied id v (keeping v.log (station + 1)) (holding station (of_station station v.log))
  enlists id v station is fresh s k at =
      let j = (k.seats id v at).journal is in
      let n = length s.views in
      let to = placed station n k.claimant in
      record {
        log = k.log;
        made = station + 1;
        claimant = to;
        seats = new_fits (Fits k.log k.made k.claimant) (Fits k.log (station + 1) to) s.views id (keeping v.log (station + 1)) (holding station (of_station station v.log))
            (fits_keeping k.log (station + 1) to id v.log (station + 1) (j.0, j.1, refl))
            (fits_holding k.log (station + 1) to n station (of_station station v.log) (omega arith, sym (placed_here station n k.claimant), ap (of_station station) j.1))
            (λ by u apart f. record {
              journal = λ e. absurd (apart ((f.journal e).0 ∙ sym j.0));
              share = λ e.
                  let h = f.share e in
                  let below : u.station < k.made = h.0 in
                  let same : v.made ≡ k.made = j.2 in
                  (omega (arith, below, same, fresh), h.1 ∙ sym (placed_else station n k.claimant u.station (λ one. absurd (omega (arith, below, same, fresh, one)))), h.2);
              receipt = f.receipt;
            })
            k.seats;
      }

  -- the journal takes in what a share left
  pub takes_in : (id other : ℕ) (v w : View) → v.is_journal ≡ true → w.is_share ≡ true → Joins {S = Unit {0}} Tied id v other w (joined v.log v.made w.station w.mine) nobody
  takes_in id other v w is held s k at apart there =
      let both = joined v.log v.made w.station w.mine in
      let theirs : Fits k.log k.made k.claimant other w = ⊎_elim
      (λ (t : (other ≡ id) × (both ≡ w)). absurd (apart t.0))
      (λ (t : (other ≢ id) × (get_elem? s.views other ≡ some w)). k.seats other w t.1)
      (at_set s.views id other both w there) in
      let h = theirs.share held in
      let j = (k.seats id v at).journal is in
      let to = placed w.station id k.claimant in
      let F : ℕ → View → Type 0 = Fits k.log k.made k.claimant in
      let G : ℕ → View → Type 0 = Fits k.log k.made to in
      let H : ℕ → View → Type 0 = λ by u. by ≢ other → Fits k.log k.made to by u in
      record {
        log = k.log;
        made = k.made;
        claimant = to;
        seats = set_fits H G (set s.views id both) other nobody (fits_nobody k.log k.made to other) (λ by u ne f. f ne)
            (set_fits F H s.views id both
            (λ _. fits_joined k.log k.made to id v.log v.made w.station w.mine j (h.0, sym (placed_here w.station id k.claimant), h.2))
            (λ by u _ f ne. beside k.log k.made k.claimant w.station other id h.1 by u ne f)
            k.seats);
      }

  -- both learn one entry more
  pub adds : (slots id : ℕ) (me : Me (Unit {0}) View) (es : List Entry) (e : Entry) → es ≡ e ∷ [] → me.0.is_journal ≡ true → me.0.is_share ≡ true → e.station ≡ me.0.station
      → Allows Tied slots id me 0 (λ n. n) (λ _ w. w ≡ (joined (me.0.log ++ es) me.0.made me.0.station (me.0.mine ++ es), me.1))
  adds slots id me es e one is held own s k deep at small =
      let v = me.0 in
      let f = k.seats id v at in
      let j = f.journal is in
      let h = f.share held in
      let now = k.log ++ e ∷ [] in
      let w = joined (v.log ++ es) v.made v.station (v.mine ++ es) in (
        w,
        keeps,
        tt,
        record {
          log = now;
          made = k.made;
          claimant = k.claimant;
          seats = set_fits (Fits k.log k.made k.claimant) (Fits now k.made k.claimant) s.views id w
              (fits_joined now k.made k.claimant id (v.log ++ es) v.made v.station (v.mine ++ es)
              (j.0, (λ i. j.1 i ++ one i), j.2)
              (h.0, h.1, (λ i. h.2 i ++ one i) ∙ sym (own_last v.station k.log e own)))
              (λ by u apart g. record {
                journal = λ a. absurd (apart ((g.journal a).0 ∙ sym j.0));
                share = λ a.
                    let t = g.share a in
                    (t.0, t.1, t.2 ∙ sym (other_last u.station k.log e (λ same. apart (t.1 ∙ ap k.claimant (sym same ∙ own) ∙ sym h.1))));
                receipt = λ a. begins_more u.seen k.log e (g.receipt a);
              })
              k.seats;
        },
        refl,
      )

  -- a share's entries are its station's
  pub compares : (slots id : ℕ) (me : Me (Unit {0}) View) → me.0.is_journal ≡ true → me.0.is_share ≡ true
      → Allows Tied slots id me 0 (λ n. n) (λ _ w. (w ≡ me) × (me.0.mine ≡ of_station me.0.station me.0.log))
  compares slots id me is held s k deep at small =
      let f = k.seats id me.0 at in
      let j = f.journal is in
      let h = f.share held in (
        me.0,
        keeps,
        tt,
        record {
          log = k.log;
          made = k.made;
          claimant = k.claimant;
          seats = set_fits (Fits k.log k.made k.claimant) (Fits k.log k.made k.claimant) s.views id me.0 f (λ by u apart g. g) k.seats;
        },
        (refl, h.2 ∙ ap (of_station me.0.station) (sym j.1)),
      )

  -- the journal gives a receipt of all its entries
  pub receives : (id : ℕ) (v : View) → v.is_journal ≡ true → Splits {S = Unit {0}} Tied id v (keeping v.log v.made) (knowing v.log)
  receives id v is s k at =
      let j = (k.seats id v at).journal is in
      let n = length s.views in
      let F : ℕ → View → Type 0 = Fits k.log k.made k.claimant in
      record {
        log = k.log;
        made = k.made;
        claimant = k.claimant;
        seats = new_fits F F s.views id (keeping v.log v.made) (knowing v.log)
            (fits_keeping k.log k.made k.claimant id v.log v.made j)
            (fits_knowing k.log k.made k.claimant n v.log (record { rest = []; is = append-nil v.log ∙ j.1 }))
            (λ by u apart f. f)
            k.seats;
      }

  -- the journal takes in a receipt
  pub reads_receipt : (id other : ℕ) (v w : View) → v.is_journal ≡ true → w.is_receipt ≡ true → Joins {S = Unit {0}} Tied id v other w (reading v.log v.made w.seen) nobody
  reads_receipt id other v w is knows s k at apart there =
      let both = reading v.log v.made w.seen in
      let theirs : Fits k.log k.made k.claimant other w = ⊎_elim
      (λ (t : (other ≡ id) × (both ≡ w)). absurd (apart t.0))
      (λ (t : (other ≢ id) × (get_elem? s.views other ≡ some w)). k.seats other w t.1)
      (at_set s.views id other both w there) in
      let j = (k.seats id v at).journal is in
      let F : ℕ → View → Type 0 = Fits k.log k.made k.claimant in
      record {
        log = k.log;
        made = k.made;
        claimant = k.claimant;
        seats = set_fits F F (set s.views id both) other nobody (fits_nobody k.log k.made k.claimant other) (λ by u ne f. f)
            (set_fits F F s.views id both
            (fits_reading k.log k.made k.claimant id v.log v.made w.seen j (theirs.receipt knows))
            (λ by u _ f. f)
            k.seats);
      }

  -- a receipt's entries begin the journal's
  pub confirms : (slots id : ℕ) (me : Me (Unit {0}) View) → me.0.is_journal ≡ true → me.0.is_receipt ≡ true
      → Allows Tied slots id me 0 (λ n. n) (λ _ w. (w ≡ me) × IsPrefix me.0.seen me.0.log)
  confirms slots id me is knows s k deep at small =
      let f = k.seats id me.0 at in
      let j = f.journal is in (
        me.0,
        keeps,
        tt,
        record {
          log = k.log;
          made = k.made;
          claimant = k.claimant;
          seats = set_fits (Fits k.log k.made k.claimant) (Fits k.log k.made k.claimant) s.views id me.0 f (λ by u apart g. g) k.seats;
        },
        (refl, subst (IsPrefix me.0.seen) (sym j.1) (f.receipt knows)),
      )

  -- the journal parts with a receipt
  pub parts_with_receipt : (id : ℕ) (v : View) → v.is_journal ≡ true → Splits {S = Unit {0}} Tied id v (keeping v.log v.made) nobody
  parts_with_receipt id v is s k at =
      let j = (k.seats id v at).journal is in
      let F : ℕ → View → Type 0 = Fits k.log k.made k.claimant in
      record {
        log = k.log;
        made = k.made;
        claimant = k.claimant;
        seats = new_fits F F s.views id (keeping v.log v.made) nobody
            (fits_keeping k.log k.made k.claimant id v.log v.made j)
            (fits_nobody k.log k.made k.claimant (length s.views))
            (λ by u apart f. f)
            k.seats;
      }
