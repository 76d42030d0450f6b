use Rattle.std.proofs.Common.{ap, ◌∙◌, option_map, arith}
use Rattle.reading_index.{specs.Ranks.owner_of, specs.Timed.{TimedReadings, first_of, from_on, in_front, last_of, only_owned, owned, with_rank}, proofs.Ranked.{first_behind, last_in_front}}
use Rattle.reading_index.proofs.index.ReadingIndex.around.Goals as goal

pub returns-clause-before : goal.returns-clause-before
returns-clause-before c =
    let key = c.args.key in let es = c.self.inside.index.entries in
    c.owned_by-before.ensures ∙ ap (λ o. only_owned o (option_map with_rank c.before-2.result)) c.owner-owner.ensures ∙ ap (λ l. only_owned (owner_of key) (option_map with_rank l)) c.before-2.ensures
    ∙ last_in_front key es c.place_near-place.ensures.rising
    ∙ ap (λ (i : TimedReadings). last_of (in_front key (owned (owner_of key) i.entries))) c.self.view_is

pub returns-clause-behind : goal.returns-clause-behind
returns-clause-behind c =
    let key = c.args.key in let es = c.self.inside.index.entries in
    c.owned_by-behind.ensures ∙ ap (λ o. only_owned o (option_map with_rank c.at_or_after.result)) c.owner-owner.ensures
    ∙ ap (λ l. only_owned (owner_of key) (option_map with_rank l)) c.at_or_after.ensures
    ∙ first_behind (owner_of key) key es (omega arith) c.place_near-place.ensures.rising
    ∙ ap (λ (i : TimedReadings). first_of (from_on key (owned (owner_of key) i.entries))) c.self.view_is
