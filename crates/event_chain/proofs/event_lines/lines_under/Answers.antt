use Rattle.std.proofs.Common.{◌++◌, ◌∷◌, [], ◌<◌, append_assoc, length, map, sym, ap, subst, ◌∙◌, arith}
use Rattle.event_chain.{specs.Edits.places_behind, specs.EventLines.line_at, specs.Flat.segment, proofs.Walks.{IsLeft, left_behind, left_first, on_from}, proofs.event_lines.lines_under.Goals.After-place_behind-place}
use Rattle.event_chain.proofs.event_lines.lines_under.Goals as goal

pub loop-place-init : goal.loop-place-init
loop-place-init c =
    let es = c.args.stored.now.entries in let line = line_at c.args.store.now.slots in
    let first = subst (λ o. IsLeft es o (segment c.args.slot es)) (sym c.first_place-place.ensures) (left_first es c.requires.rising c.args.slot) in
    (ap (λ ls. ls ++ map line (on_from es c.first_place-place.result)) c.new-lines.ensures.items ∙ ap (map line) first.left, first.found)

-- the places from the next one on are those behind this one
next : (c : After-place_behind-place) → IsLeft c.args.stored.now.entries c.place_behind-place.result (places_behind c.in-Some.at.0 c.args.stored.now.entries)
next c = let es = c.args.stored.now.entries in subst (λ o. IsLeft es o (places_behind c.in-Some.at.0 es)) (sym c.place_behind-place.ensures) (left_behind es c.requires.rising c.in-Some.at.0)

pub loop-place-preserved : goal.loop-place-preserved
loop-place-preserved c =
    let es = c.args.stored.now.entries in let line = line_at c.args.store.now.slots in let at = c.in-Some.at in let before = c.loop-place.lines.items in
    let rest = map line (on_from es c.place_behind-place.result) in (
      ap (λ ls. ls ++ rest) (c.in_ok-push.ensures.items ∙ ap (λ l. before ++ l ∷ []) c.line_of.ensures)
          ∙ append_assoc before (line at ∷ []) rest
          ∙ ap (λ ps. before ++ line at ∷ map line ps) (next c).left
          ∙ sym (ap (λ o. before ++ map line (on_from es o)) c.in-Some.is)
          ∙ c.loop-place.invariant.0,
      (next c).found,
    )

pub loop-place-smaller : goal.loop-place-smaller
loop-place-smaller c =
    let es = c.args.stored.now.entries in
    let rest = ap length (next c).left in let here = ap (λ o. length (on_from es o)) c.in-Some.is in
    let fewer : length (on_from es c.place_behind-place.result) < length (on_from es c.loop-place.place) = omega (arith, rest, here) in
    fewer
