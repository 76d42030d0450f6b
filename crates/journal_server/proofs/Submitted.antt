-- What a desk that accepts nothing more answers.
use Rattle.std.proofs.Common.{◌≡◌, ℕ, List, [], Option, None, refl, subst, sym}
use Rattle.kept_desk.specs.declared.entry.Entry.{Entry}
use Rattle.ledger_model.{specs.declared.answer.Answer.Answer, specs.declared.answer.Answer.TheVariants.Refused, specs.declared.answer.Refusal.TheVariants.ChangesExhausted, specs.declared.command.Command.Command, specs.Content.Content}
use Rattle.site_desk.{specs.declared.roster.StationPlace.StationPlace, specs.Cell.Held}
use Rattle.station_link.specs.Answer.{IsSettled, IsSubmitted}
use Rattle.journal_server.specs.Served.{IsKeptAnswer}

-- at a station's place
pub settles_nothing : (at : StationPlace) (p : Held) (command : Command) (answer : Answer) (p' : Held) → answer ≡ Refused ChangesExhausted → p' ≡ p → IsSettled at p command answer p'
settles_nothing at p command answer p' exhausted same = subst (λ a. IsSettled at p command a p') (sym exhausted) (None, record { pass = same; untold = refl })

-- at a desk
pub nothing_more : (stations : List StationPlace) (p : Held) (command : Command) (answer : Answer) (p' : Held) → answer ≡ Refused ChangesExhausted → p' ≡ p → IsSubmitted stations p command answer p'
nothing_more stations p command answer p' exhausted same =
    subst (λ a. IsSubmitted stations p command a p') (sym exhausted) (record { settled = λ at there. (None, record { pass = same; untold = refl }); stranger = λ none. (refl, same) })

-- what comes with it
pub gives_nothing : (first : ℕ → Content) (number : ℕ) (at : StationPlace) (command : Command) (answer : Answer) (seen : Option (List Entry)) → answer ≡ Refused ChangesExhausted → seen ≡ None
    → IsKeptAnswer first number at command answer seen
gives_nothing first number at command answer seen exhausted none =
    let P : Answer → Option (List Entry) → Type 0 = λ a s. IsKeptAnswer first number at command a s in
    subst (λ a. P a seen) (sym exhausted) (subst (λ s. P (Refused ChangesExhausted) s) (sym none) ([], [], None, refl))
