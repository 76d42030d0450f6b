use Rattle.std.proofs.Common.{◌≡◌, ◌+◌, ◌<◌, ◌≤◌, ◌++◌, append-nil, length, map, ◌∷◌, [], List, sym, ap, subst, ◌∙◌, arith}
use Rattle.key_index.specs.Entries.{AreRising}
use Rattle.reading_index.{specs.Ranks.{owner, owner_of}, specs.Timed.{Timed, TimedReadings, from_on, owned, placed_at}, proofs.Ranked.{owner_up, ranked}, proofs.Listed.{IsFirst, all_owned, filter-ranked, first_left, found_left, none_left, one_more, owner_of-first}, proofs.index.ReadingIndex.list.Goals.After-place_near-place-in-Some}
use Rattle.reading_index.proofs.index.ReadingIndex.list.Goals as goal

-- the first key is in front of all of its owner, and is its owner's
pub loop-entry-init : goal.loop-entry-init
loop-entry-init c =
    let o = owner c.args.slot c.args.direction in (
      ap (λ k. c.args.listed.now.items ++ map placed_at (from_on k (owned o c.args.self.now.entries))) c.first-from.ensures
          ∙ ap (λ ts. c.args.listed.now.items ++ map placed_at ts) (all_owned o c.args.self.now.entries),
      subst (λ k. o ≤ owner_of k) (sym c.first-from.ensures) (let is = owner_of-first o in omega (arith, is)),
    )

-- what was found is the owner's first from the key on
first_is : (c : After-place_near-place-in-Some) → IsFirst c.loop-entry.from c.in-Some.entry (owned (owner c.args.slot c.args.direction) c.args.self.now.entries)
first_is c =
    let o = owner c.args.slot c.args.direction in let es = c.self.inside.index.entries in
    let all = ap (λ (i : TimedReadings). i.entries) c.self.view_is in
    let rising = c.place_near-place.ensures.rising in
    first_left c.loop-entry.from c.in-Some.entry (owned o c.args.self.now.entries)
    (subst (λ (ts : List Timed). AreRising (owned o ts)) all (filter-ranked _ _ (ranked es rising)))
    (sym (found_left o c.owner-owner.result c.first-from.result c.loop-entry.from es _ c.at_or_after.result c.owned_by.result
    c.first-from.ensures c.owner-owner.ensures c.loop-entry.invariant.1 rising all c.at_or_after.ensures c.owned_by.ensures)
    ∙ c.in-Some.is)

pub loop-entry-smaller : goal.loop-entry-smaller
loop-entry-smaller c =
    let own = owned (owner c.args.slot c.args.direction) c.args.self.now.entries in
    let steps = ap length (first_is c).steps in
    let next : c.in-Some-next.next ≡ c.in-Some.entry.0 + 1 = c.in-Some-next.ensures in
    let left = ap (λ k. length (from_on k own)) next in
    let fewer : length (from_on c.in-Some-next.next own) < length (from_on c.loop-entry.from own) = omega (arith, steps, left) in
    fewer

pub loop-entry-preserved : goal.loop-entry-preserved
loop-entry-preserved c =
    let o = owner c.args.slot c.args.direction in let own = owned o c.args.self.now.entries in
    let first = first_is c in let low = c.loop-entry.invariant.1 in
    let next : c.in-Some-next.next ≡ c.in-Some.entry.0 + 1 = c.in-Some-next.ensures in
    let up = owner_up c.loop-entry.from (c.in-Some.entry.0 + 1) (let l = first.low in omega (arith, l)) in (
      ap (λ k. c.push.new.self.items ++ map placed_at (from_on k own)) next
          ∙ one_more c.loop-entry.from c.in-Some.entry c.loop-entry.listed.items c.push.new.self.items _ own first
          (c.in_ok-push.ensures.items ∙ (λ i. c.loop-entry.listed.items ++ record { number = c.number.ensures i; place = c.place.ensures i; reading = c.in-Some.entry.1 } ∷ []))
          c.loop-entry.invariant.0,
      subst (λ k. o ≤ owner_of k) (sym next) (omega (arith, low, up)),
    )

pub returns : goal.returns
returns c =
    let o = owner c.args.slot c.args.direction in let own = owned o c.args.self.now.entries in
    let none = found_left o c.owner-owner.result c.first-from.result c.loop-entry.from c.self.inside.index.entries
    _ c.at_or_after.result c.owned_by.result c.first-from.ensures c.owner-owner.ensures c.loop-entry.invariant.1
    c.place_near-place.ensures.rising (ap (λ (i : TimedReadings). i.entries) c.self.view_is) c.at_or_after.ensures
    c.owned_by.ensures in
    sym (append-nil c.loop-entry.listed.items)
    ∙ sym (ap (λ ts. c.loop-entry.listed.items ++ map placed_at ts) (none_left c.loop-entry.from own (sym none ∙ c.in_default.is)))
    ∙ c.loop-entry.invariant.0
