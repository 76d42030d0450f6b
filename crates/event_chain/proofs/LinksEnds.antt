-- Chains whose ends are written, and those beside.
use Rattle.std.{proofs.lemmas.Grind.common_steps, proofs.Common.{arith, ℕ, List, [], ◌∷◌, Option, Some, None, ◌∙◌}}
use Rattle.event_chain.{specs.Links.{links, written}, specs.LinkChain.{head_or, last_or, IsChain, IsBeside, AreSlots}, proofs.LinksWritten.{written_other, written_same, last_other, beside_parts}}
use Rattle.slot_arena.specs.Free.{AreApart}

-- A link to the slot before, written beside a chain, leaves it.
pub chain_prev_beside : (p n : List (Option ℕ)) (to link before : Option ℕ) (ss : List ℕ) (after : Option ℕ) → IsBeside to ss
    → IsChain (links p n) before ss after → IsChain (links (written p to link) n) before ss after
chain_prev_beside p n to link before [] after beside chain = tt
chain_prev_beside p n to link before (s ∷ ss) after beside chain = let parts = beside_parts to s ss beside in
    (written_other p to link s parts.0 ∙ chain.0, chain.1, chain_prev_beside p n to link (Some s) ss after parts.1 chain.2)

-- A link to the slot after, written beside a chain, leaves it.
pub chain_next_beside : (p n : List (Option ℕ)) (to link before : Option ℕ) (ss : List ℕ) (after : Option ℕ) → IsBeside to ss
    → IsChain (links p n) before ss after → IsChain (links p (written n to link)) before ss after
chain_next_beside p n to link before [] after beside chain = tt
chain_next_beside p n to link before (s ∷ ss) after beside chain = let parts = beside_parts to s ss beside in
    (chain.0, written_other n to link s parts.0 ∙ chain.1, chain_next_beside p n to link (Some s) ss after parts.1 chain.2)

-- The link of a chain's first slot is written: what comes before the chain is another.
pub chain_prev_first : (p n : List (Option ℕ)) (link before : Option ℕ) (ss : List ℕ) (after : Option ℕ) → AreApart ss
    → AreSlots (links p n) ss → IsChain (links p n) before ss after
    → IsChain (links (written p (head_or None ss) link) n) link ss after
chain_prev_first p n link before ss after apart slots chain = grind (arith, common_steps, written_same, chain_prev_beside)

-- The link of a chain's last slot is written: what comes after the chain is another.
pub chain_next_last : (p n : List (Option ℕ)) (link before : Option ℕ) (ss : List ℕ) (after : Option ℕ) → AreApart ss
    → AreSlots (links p n) ss → IsChain (links p n) before ss after
    → IsChain (links p (written n (last_or None ss) link)) before ss link
chain_next_last p n link before [] after apart slots chain = tt
chain_next_last p n link before (s ∷ []) after apart slots chain = (chain.0, written_same n s link slots.0.next, tt)
chain_next_last p n link before (s ∷ t ∷ ts) after apart slots chain =
    (chain.0, written_other n (last_or (Some t) ts) link s (last_other s (Some t) ts apart.0.0 apart.0.1) ∙ chain.1, chain_next_last p n link (Some s) (t ∷ ts) after apart.1 slots.1 chain.2)
