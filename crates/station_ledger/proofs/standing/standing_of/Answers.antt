use Rattle.std.{proofs.Common.{◌≡◌, ◌+◌, ◌-◌, ◌<◌, Some, slice_get, unwrap_or, sym, ap, ◌∙◌, arith}, proofs.lemmas.Bool.ne_eqb, proofs.lemmas.List.length-map}
use Rattle.ledger_model.{specs.Complete.{kinds_of, starts_and_ends, is_complete}, specs.Content.{Entry, live_of}, specs.Gaps.{numbers_of, missing}, proofs.NumberLemmas.numbers-AreRising}
use Rattle.event_chain.specs.Chains.{stored}
use Rattle.station_ledger.{specs.Standing.starts_and_ends_by, proofs.EndKinds.by_ends, proofs.EndNumbers.{fills, first_is, none_first, none_last, none_missing, some_missing, kept_some, kept_none}, proofs.standing.standing_of.Goals.{In-Some-Some, then-missing-eq0, else-missing-eq0, in_default-via-in-Some+in_default, in_default-via-in_default}}
use Rattle.station_ledger.proofs.standing.standing_of.Goals as goal

-- the numbers and what is missing fill the range
range : (c : In-Some-Some) → (c.in-Some-Some.first + c.standing-events.result.live + missing (numbers_of c.args.tx.now (stored c.args.chains.now)) ≡ c.in-Some-Some.last + 1)
    × (0 < c.standing-events.result.live)
range c =
    let tx = c.args.tx.now in let es = stored c.args.chains.now in let ns = numbers_of tx es in let e = c.standing-events.ensures in
    let first = sym e.first ∙ c.in-Some-Some.is-0 in let count = length-map (live_of tx es) (λ (x : Entry). x.0.seq) in
    let all = fills ns c.in-Some-Some.first c.in-Some-Some.last (numbers-AreRising tx (record { events = c.args.chains.now.events; changes = 0 })) first (sym e.last ∙ c.in-Some-Some.is-1) in
    (omega (arith, all, count, e.live), omega (arith, (first_is ns c.in-Some-Some.first first).1, count, e.live))

pub overflow_sub-missing-in-Some-Some : goal.overflow_sub-missing-in-Some-Some
overflow_sub-missing-in-Some-Some c = let r = range (goal.at.overflow_sub-missing-in-Some-Some c).In-Some-Some in omega (arith, r.0, r.1)

pub overflow_sub-missing-in-Some-Some-2 : goal.overflow_sub-missing-in-Some-Some-2
overflow_sub-missing-in-Some-Some-2 c = let r = range (goal.at.overflow_sub-missing-in-Some-Some-2 c).In-Some-Some in omega (arith, r.0, r.1)

pub overflow_sub-missing : goal.overflow_sub-missing
overflow_sub-missing c = let r = range (goal.at.overflow_sub-missing c).In-Some-Some in omega (arith, r.0, r.1)

pub returns-after-missing-eq0 : goal.returns-after-missing-eq0
returns-after-missing-eq0 c =
    let tx = c.args.tx.now in let es = stored c.args.chains.now in let ns = numbers_of tx es in let e = c.standing-events.ensures in
    let r = range (goal.at.returns-after-missing-eq0 c).In-Some-Some in
    let none : (c.in-Some-Some.last - c.in-Some-Some.first) - (c.standing-events.result.live - 1) ≡ missing ns = omega (arith, r.0, r.1) in
    let ends : starts_and_ends_by c.standing-events.result.first_kind c.standing-events.result.last_kind c.standing-events.result.ends ≡ starts_and_ends (kinds_of tx es) =
    (λ i. starts_and_ends_by (e.first_kind i) (e.last_kind i) (e.ends i)) ∙ by_ends (kinds_of tx es) in
    let head : c.in-Some-Some.first ≡ unwrap_or (slice_get ns 0) 0 = ap (λ o. unwrap_or o 0) (sym (sym e.first ∙ c.in-Some-Some.is-0)) in
    let complete : c.if-missing-eq0.result ≡ is_complete tx es = elim c.if-missing-eq0.branch [
      | then-missing-eq0 w ↦ w.result-is ∙ w.starts_and_ends.ensures ∙ ends ∙ none_missing (starts_and_ends (kinds_of tx es)) (missing ns) (sym none ∙ w.if-missing-eq0.true)
      | else-missing-eq0 w ↦ w.result-is
          ∙ ne_eqb ((c.in-Some-Some.last - c.in-Some-Some.first) - (c.standing-events.result.live - 1)) 0 w.if-missing-eq0.false
          ∙ some_missing (starts_and_ends (kinds_of tx es)) (missing ns) (λ z. w.if-missing-eq0.false (none ∙ z))
    ] in
    (λ i. Some (record { first = head i; live = e.live i; evse = e.evse i; complete = complete i; missing = none i; energy = c.args.energy }))
    ∙ kept_some c.args.energy tx es (omega (arith, r.1, e.live))

pub returns-in_default : goal.returns-in_default
returns-in_default c =
    let tx = c.args.tx.now in let es = stored c.args.chains.now in let ns = numbers_of tx es in let e = c.standing-events.ensures in
    let count = length-map (live_of tx es) (λ (x : Entry). x.0.seq) in
    elim c.in_default.branch [
      | in_default-via-in-Some+in_default w ↦ kept_none c.args.energy tx es (sym count ∙ none_last ns (sym e.last ∙ w.in_default.is-1))
      | in_default-via-in_default w ↦ kept_none c.args.energy tx es (sym count ∙ none_first ns (sym e.first ∙ w.in_default.is-0))
    ]
