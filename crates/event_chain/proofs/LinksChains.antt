-- Chains put together, cut, and left as they are.
use Rattle.std.{proofs.lemmas.Grind.common_steps, proofs.Common.{arith, ◌≡◌, ℕ, ◌<◌, List, [], ◌∷◌, ◌++◌, Option, Some, None, length, refl, sym, ◌∙◌, subst}}
use Rattle.event_chain.{specs.Links.{Links, links, linked_in, linked_out, written, prev_of, next_of, IsSlot}, specs.LinkChain.{head_or, last_or, IsChain, IsBeside, AreSlots}, proofs.LinksWritten.{length-written, written_other, written_same, beside_parts}, proofs.LinksEnds.{chain_prev_beside, chain_next_beside, chain_prev_first, chain_next_last}}
use Rattle.slot_arena.specs.Free.{IsApart, AreApart}

-- The first slot of two lists.
pub head_append : (after : Option ℕ) (xs ys : List ℕ) → head_or after (xs ++ ys) ≡ head_or (head_or after ys) xs
head_append after xs ys = grind (arith, common_steps)

-- Two chains are one if the second goes on where the first ends.
pub chain_both : (l : Links) (before : Option ℕ) (xs ys : List ℕ) (after : Option ℕ) → IsChain l before xs (head_or after ys)
    → IsChain l (last_or before xs) ys after → IsChain l before (xs ++ ys) after
chain_both l before [] ys after a b = b
chain_both l before (x ∷ xs) ys after a b = (a.0, a.1 ∙ sym (head_append after xs ys), chain_both l (Some x) xs ys after a.2 b)

-- A chain, cut in two.
pub chain_parts : (l : Links) (before : Option ℕ) (xs ys : List ℕ) (after : Option ℕ) → IsChain l before (xs ++ ys) after
    → IsChain l before xs (head_or after ys) × IsChain l (last_or before xs) ys after
chain_parts l before [] ys after chain = (tt, chain)
chain_parts l before (x ∷ xs) ys after chain = let rest = chain_parts l (Some x) xs ys after chain.2 in
    ((chain.0, chain.1 ∙ head_append after xs ys, rest.0), rest.1)

-- Slots stay slots where there are as many links.
pub slots_kept : (l m : Links) (ss : List ℕ) → length m.prevs ≡ length l.prevs → length m.nexts ≡ length l.nexts → AreSlots l ss → AreSlots m ss
slots_kept l m [] p n slots = tt
slots_kept l m (s ∷ ss) p n slots = (record { prev = subst (λ k. s < k) (sym p) slots.0.prev; next = subst (λ k. s < k) (sym n) slots.0.next }, slots_kept l m ss p n slots.1)

-- Slots of two lists, together.
pub slots_both : (l : Links) (xs ys : List ℕ) → AreSlots l xs → AreSlots l ys → AreSlots l (xs ++ ys)
slots_both l [] ys a b = b
slots_both l (x ∷ xs) ys a b = (a.0, slots_both l xs ys a.1 b)

-- Slots of a list, in two parts.
pub slots_parts : (l : Links) (xs ys : List ℕ) → AreSlots l (xs ++ ys) → AreSlots l xs × AreSlots l ys
slots_parts l [] ys slots = (tt, slots)
slots_parts l (x ∷ xs) ys slots = let rest = slots_parts l xs ys slots.1 in ((slots.0, rest.0), rest.1)

-- A slot put in writes as many links as there are.
pub length-linked_in : (l : Links) (before : Option ℕ) (s : ℕ) (after : Option ℕ)
    → (length (linked_in l before s s after).prevs ≡ length l.prevs) × (length (linked_in l before s s after).nexts ≡ length l.nexts)
length-linked_in l before s after = grind (arith, common_steps, length-written)

-- A slot left out, too.
pub length-linked_out : (l : Links) (before after : Option ℕ) → (length (linked_out l before after).prevs ≡ length l.prevs) × (length (linked_out l before after).nexts ≡ length l.nexts)
length-linked_out l before after = (length-written l.prevs after before, length-written l.nexts before after)

-- A slot put in elsewhere leaves a chain.
pub chain_beside_in : (l : Links) (before : Option ℕ) (s : ℕ) (after b : Option ℕ) (zs : List ℕ) (a : Option ℕ) → IsBeside before zs → IsApart s zs → IsBeside after zs
    → IsChain l b zs a → IsChain (linked_in l before s s after) b zs a
chain_beside_in l before s after b zs a hb hs ha chain =
    let p1 = written l.prevs (Some s) before in let p2 = written p1 after (Some s) in let n1 = written l.nexts (Some s) after in
    chain_next_beside p2 n1 before (Some s) b zs a hb
    (chain_next_beside p2 l.nexts (Some s) after b zs a hs (chain_prev_beside p1 l.nexts after (Some s) b zs a ha (chain_prev_beside l.prevs l.nexts (Some s) before b zs a hs chain)))

-- A slot left out elsewhere leaves a chain.
pub chain_beside_out : (l : Links) (before after b : Option ℕ) (zs : List ℕ) (a : Option ℕ) → IsBeside before zs → IsBeside after zs → IsChain l b zs a → IsChain (linked_out l before after) b zs a
chain_beside_out l before after b zs a hb ha chain = grind (arith, common_steps, chain_next_beside, chain_prev_beside)

module _ (l : Links) (s : ℕ) where
  -- What is in front of a slot, once that is put in.
  pub chain_front_in : (front : List ℕ) (next after : Option ℕ) → AreApart front → AreSlots l front → IsApart s front → IsBeside after front
      → IsChain l None front next → IsChain (linked_in l (last_or None front) s s after) None front (Some s)
  chain_front_in front next after apart slots hs ha chain =
      let before = last_or None front in let p1 = written l.prevs (Some s) before in let p2 = written p1 after (Some s) in let n1 = written l.nexts (Some s) after in
      chain_next_last p2 n1 (Some s) None front next apart
      (slots_kept l (links p2 n1) front (length-written p1 after (Some s) ∙ length-written l.prevs (Some s) before) (length-written l.nexts (Some s) after) slots)
      (chain_next_beside p2 l.nexts (Some s) after None front next hs
      (chain_prev_beside p1 l.nexts after (Some s) None front next ha (chain_prev_beside l.prevs l.nexts (Some s) before None front next hs chain)))

  -- The slot that is put in.
  pub chain_slot_in : (before after : Option ℕ) → IsSlot l s → IsBeside before (s ∷ []) → IsBeside after (s ∷ [])
      → (prev_of (linked_in l before s s after) s ≡ before) × (next_of (linked_in l before s s after) s ≡ after)
  chain_slot_in before after slot hb ha = grind (arith, common_steps, written_other, written_same, beside_parts)

  -- What is behind a slot, once that is put in.
  pub chain_back_in : (back : List ℕ) (prev before : Option ℕ) → AreApart back → AreSlots l back → IsApart s back → IsBeside before back
      → IsChain l prev back None → IsChain (linked_in l before s s (head_or None back)) (Some s) back None
  chain_back_in back prev before apart slots hs hb chain =
      let after = head_or None back in let p1 = written l.prevs (Some s) before in let p2 = written p1 after (Some s) in let n1 = written l.nexts (Some s) after in
      chain_next_beside p2 n1 before (Some s) (Some s) back None hb
      (chain_next_beside p2 l.nexts (Some s) after (Some s) back None hs
      (chain_prev_first p1 l.nexts (Some s) prev back None apart (slots_kept l (links p1 l.nexts) back (length-written l.prevs (Some s) before) refl slots)
      (chain_prev_beside l.prevs l.nexts (Some s) before prev back None hs chain)))
