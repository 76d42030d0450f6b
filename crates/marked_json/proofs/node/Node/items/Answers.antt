use Rattle.std.proofs.Common.{◌≡◌, ap, ◌∙◌, sym, map, option_map, Some}
use Rattle.serde_json.{specs.Find.as_array, specs.View.{view, items_view}}
use Rattle.marked_json.{specs.Reading.{list_of, node}, proofs.Places.list_of-items_of}
use Rattle.marked_json.proofs.node.Node.items.Goals as goal

pub returns : goal.returns
returns c =
    let items = c.in_ok-items.items.now.items in
    let was : Some (items_view items) ≡ as_array (node c.args.self) = ap (option_map (λ v. items_view v.now.items)) (sym c.in_ok-items.was) ∙ c.as_array.ensures in
    ap (λ vs. Some (map view vs)) c.as_slice.ensures.value ∙ ap Some (sym (list_of-items_of (map view items))) ∙ ap (option_map list_of) was
