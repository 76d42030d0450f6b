use Rattle.std.{proofs.Common.{◌≡◌, ◌∙◌, ℕ, List, Option, option_map, map, get_or, ap, sym}, proofs.Math.ListN.get_or-map}
use Rattle.serde_json.specs.Data.{Data}
use Rattle.marked_json.{specs.declared.wanted.Wanted.Wanted, specs.Reading.{node, field_of}, specs.Wanted.found}
use Rattle.transaction_event.proofs.request_members.RequestMembers.of.Goals as goal

-- one of the members that were found
one_of : (ws : List Wanted) (fields : List (Option Data)) → map found ws ≡ fields → (k : ℕ) (d : Wanted) (member : Option Data) → member ≡ found (get_or ws k d) → member ≡ get_or fields k (found d)
one_of ws fields e k d member is = is ∙ sym (get_or-map found ws k d) ∙ ap (λ fs. get_or fs k (found d)) e

pub returns-clause-found : goal.returns-clause-found
returns-clause-found c =
    let field = λ (name : List ℕ). field_of name (node c.args.request) in
    let ws = c.find.new.wanted in
    record {
      has_type = one_of ws _ c.find.ensures 0 c.index-wanted-0.result (option_map node c.found.result) c.found.ensures ∙ ap field c.new.ensures.name;
      has_timestamp = one_of ws _ c.find.ensures 1 c.index-wanted-1.result (option_map node c.found-2.result) c.found-2.ensures ∙ ap field c.new-2.ensures.name;
      has_reason = one_of ws _ c.find.ensures 2 c.index-wanted-2.result (option_map node c.found-3.result) c.found-3.ensures ∙ ap field c.new-3.ensures.name;
      has_number = one_of ws _ c.find.ensures 3 c.index-wanted-3.result (option_map node c.found-4.result) c.found-4.ensures ∙ ap field c.new-4.ensures.name;
      has_info = one_of ws _ c.find.ensures 4 c.index-wanted-4.result (option_map node c.found-5.result) c.found-5.ensures ∙ ap field c.new-5.ensures.name;
      has_evse = one_of ws _ c.find.ensures 5 c.index-wanted-5.result (option_map node c.found-6.result) c.found-6.ensures ∙ ap field c.new-6.ensures.name;
      has_token = one_of ws _ c.find.ensures 6 c.index-wanted-6.result (option_map node c.found-7.result) c.found-7.ensures ∙ ap field c.new-7.ensures.name;
      has_values = one_of ws _ c.find.ensures 7 c.index-wanted-7.result (option_map node c.found-8.result) c.found-8.ensures ∙ ap field c.new-8.ensures.name;
    }
