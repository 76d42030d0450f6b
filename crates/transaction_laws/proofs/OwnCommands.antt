-- The commands of a transaction, one more at a time.
use Rattle.std.{proofs.Common.{◌≡◌, ℕ, ◌+◌, ◌<◌, Bool, true, false, cond, List, [], ◌∷◌, ◌++◌, map, filter, take, get_or, length, sym, ap, ◌∙◌, append-nil}, proofs.lemmas.List.map-append, proofs.lemmas.List.Elements.filter_more}
use Rattle.ledger_model.{specs.Admissible.key_of, specs.declared.command.Command.Command}
use Rattle.transaction_laws.specs.Alone.{belongs_to}

module _ (tx : List ℕ) (commands : List Command) (i : ℕ) (item : Command) (is : item ≡ get_or commands i item) (there : i < length commands) where
  abbrev pub own_up_to : ℕ → List Command
  own_up_to n = filter (λ command. belongs_to tx (key_of command)) (take n commands)

  one_more : (b : Bool) → belongs_to tx (key_of item) ≡ b → own_up_to (i + 1) ≡ own_up_to i ++ cond b (item ∷ []) []
  one_more b test =
      filter_more (λ command. belongs_to tx (key_of command)) commands i item there
      ∙ ap (λ c. own_up_to i ++ cond (belongs_to tx (key_of c)) (c ∷ []) []) (sym is)
      ∙ ap (λ t. own_up_to i ++ cond t (item ∷ []) []) test

  pub own_more : {X : Type 0} (now : X → Command) (old new : List X) (ref : X) → map now old ≡ own_up_to i → new ≡ old ++ ref ∷ [] → now ref ≡ item → belongs_to tx (key_of item) ≡ true
      → map now new ≡ own_up_to (i + 1)
  own_more now old new ref kept pushed same test =
      ap (map now) pushed ∙ map-append now old (ref ∷ []) ∙ (λ i. kept i ++ same i ∷ []) ∙ sym (one_more true test)

  pub other_more : {X : Type 0} (now : X → Command) (old new : List X) → map now old ≡ own_up_to i → new ≡ old → belongs_to tx (key_of item) ≡ false → map now new ≡ own_up_to (i + 1)
  other_more now old new kept same test = ap (map now) same ∙ kept ∙ sym (append-nil (own_up_to i)) ∙ sym (one_more false test)
