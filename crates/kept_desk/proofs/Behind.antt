-- The boards of a site at one moment of the journal.
use Rattle.std.{proofs.Common.{◌≡◌, ◌≢◌, ℕ, ◌≤◌, ◌<◌, List, Option, Some, Result, Ok, Err, length, ap, sym, ◌∙◌, subst, arith, slice_get}, specs.Prelude.IfOk, proofs.lemmas.Option.slice_get_within}
use Rattle.kept_desk.{specs.declared.entry.Entry.Entry, specs.Entries.of_station, specs.Kept.{AreBoardsBehind, IsLeftFrom, IsLeftOwn, commands_of}}
use Rattle.ledger_model.{specs.Board.Board, specs.Content.Content, specs.Limits.Bounds}
use Rattle.site_desk.{specs.declared.roster.StationPlace.StationPlace, specs.Operator.AreNotedBoards, specs.Cell.IsInService}

pub behind : (first : ℕ → Content) (places : List StationPlace) (site : ℕ) (boards : List (List ℕ × Board)) (moment : List Entry)
    → length places ≤ 64 → AreNotedBoards (λ c. IsLeftOwn first moment c) places site boards
    → AreBoardsBehind first places site boards moment
behind first places site boards moment few all k p there here =
    let b = all k p there here in
    let c = b.cell in
    let stands = b.is.stands in
    let less = slice_get_within places k p there in
    let serves : IsInService c = λ out. absurd (omega (arith, out, less, few, stands.station)) in (
      b.board,
      b.there,
      record {
        content = c.content;
        left = subst (λ (x : Bounds × ℕ). IsLeftFrom x.0 (first x.1) c.content (commands_of (of_station x.1 moment))) (λ i. (stands.limits i, stands.station i)) (b.noted serves);
        name = b.is.name;
        shown = b.is.shown;
      },
    )

pub boards_behind : {X E : Type 0} (r : Result X E) (first : ℕ → Content) (places : List StationPlace) (site : ℕ)
    (boards : X → List (List ℕ × Board)) (moment : X → List Entry) (now : List StationPlace)
    → places ≡ now → length places ≤ 64
    → IfOk r (λ x. AreNotedBoards (λ c. IsLeftOwn first (moment x) c) places site (boards x)) → IfOk r (λ x. AreBoardsBehind first now site (boards x) (moment x))
boards_behind (Ok x) first places site boards moment now same few all = subst (λ ps. AreBoardsBehind first ps site (boards x) (moment x)) same (behind first places site (boards x) (moment x) few all)
boards_behind (Err e) first places site boards moment now same few all = tt
