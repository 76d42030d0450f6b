-- Whole lists: a slot put in, left out, and lists beside.
use Rattle.std.proofs.Common.{ℕ, List, [], ◌∷◌, ◌++◌, Some, None, refl}
use Rattle.event_chain.{specs.Links.{Links, links, linked_in, linked_out, written, IsSlot}, specs.LinkChain.{head_or, last_or, IsChain, AreElsewhere, IsLinked}, proofs.LinksApart.{absent_parts, elsewhere_back, elsewhere_less, elsewhere_more, elsewhere_none, parts_elsewhere, apart_parts, apart_both}, proofs.LinksWritten.{last_beside, head_beside}, proofs.LinksEnds.{chain_prev_beside, chain_next_beside, chain_prev_first, chain_next_last}, proofs.LinksChains.{chain_both, chain_parts, slots_kept, slots_both, slots_parts, length-linked_in, length-linked_out, chain_beside_in, chain_beside_out, chain_front_in, chain_slot_in, chain_back_in}}
use Rattle.slot_arena.specs.Free.{IsApart}

-- A slot put in between the two parts of a list is there.
pub linked_with_slot : (l : Links) (front : List ℕ) (s : ℕ) (back : List ℕ) → IsSlot l s → IsApart s (front ++ back)
    → IsLinked l (front ++ back) → IsLinked (linked_in l (last_or None front) s s (head_or None back)) (front ++ s ∷ back)
linked_with_slot l front s back slot absent list =
    let before = last_or None front in let after = head_or None back in let m = linked_in l before s s after in let lens = length-linked_in l before s after in
    let apart = apart_parts front back list.apart in let slots = slots_parts l front back list.slots in let chain = chain_parts l None front back None list.chain in
    let free = absent_parts s front back absent in let front_after = head_beside back front (elsewhere_back front back apart.2) in
    let own = chain_slot_in l s before after slot (last_beside None front (s ∷ []) tt (elsewhere_more front s [] free.0 (elsewhere_none front)))
    (head_beside back (s ∷ []) (elsewhere_more back s [] free.1 (elsewhere_none back))) in
    record {
      chain = chain_both m None front (s ∷ back) None (chain_front_in l s front after after apart.0 slots.0 free.0 front_after chain.0)
          (own.0, own.1, chain_back_in l s back before before apart.1 slots.1 free.1 (last_beside None front back tt apart.2) chain.1);
      apart = apart_both front (s ∷ back) apart.0 (free.1, apart.1) (elsewhere_more front s back free.0 apart.2);
      slots = slots_kept l m (front ++ s ∷ back) lens.0 lens.1 (slots_both l front (s ∷ back) slots.0 (slot, slots.1));
    }

-- A slot left out of a list is gone from it.
pub linked_without_slot : (l : Links) (front : List ℕ) (s : ℕ) (back : List ℕ) → IsLinked l (front ++ s ∷ back) → IsLinked (linked_out l (last_or None front) (head_or None back)) (front ++ back)
linked_without_slot l front s back list =
    let before = last_or None front in let after = head_or None back in let m = linked_out l before after in let lens = length-linked_out l before after in
    let chain = chain_parts l None front (s ∷ back) None list.chain in let apart = apart_parts front (s ∷ back) list.apart in
    let slots = slots_parts l front (s ∷ back) list.slots in let front_back = elsewhere_less front s back apart.2 in
    let p1 = written l.prevs after before in
    let in_front : IsChain m None front after =
    chain_next_last p1 l.nexts after None front (Some s) apart.0 (slots_kept l (links p1 l.nexts) front lens.0 refl slots.0)
    (chain_prev_beside l.prevs l.nexts after before None front (Some s) (head_beside back front (elsewhere_back front back front_back)) chain.0) in
    let in_back : IsChain m before back None =
    chain_next_beside p1 l.nexts before after before back None (last_beside None front back tt front_back)
    (chain_prev_first l.prevs l.nexts before (Some s) back None apart.1.1 slots.1.1 chain.1.2) in
    record {
      chain = chain_both m None front back None in_front in_back;
      apart = apart_both front back apart.0 apart.1.1 front_back;
      slots = slots_kept l m (front ++ back) lens.0 lens.1 (slots_both l front back slots.0 slots.1.1);
    }

-- A slot put into a list leaves the lists of other slots.
pub linked_beside_in : (l : Links) (front : List ℕ) (s : ℕ) (back zs : List ℕ) → AreElsewhere (front ++ s ∷ back) zs
    → IsLinked l zs → IsLinked (linked_in l (last_or None front) s s (head_or None back)) zs
linked_beside_in l front s back zs elsewhere list =
    let before = last_or None front in let after = head_or None back in let cut = parts_elsewhere front (s ∷ back) zs elsewhere in let lens = length-linked_in l before s after in
    record {
      chain = chain_beside_in l before s after None zs None (last_beside None front zs tt cut.0) cut.1.0 (head_beside back zs cut.1.1) list.chain;
      apart = list.apart;
      slots = slots_kept l (linked_in l before s s after) zs lens.0 lens.1 list.slots;
    }

-- A slot left out of a list leaves the lists of other slots.
pub linked_beside_out : (l : Links) (front back zs : List ℕ) → AreElsewhere (front ++ back) zs → IsLinked l zs → IsLinked (linked_out l (last_or None front) (head_or None back)) zs
linked_beside_out l front back zs elsewhere list =
    let before = last_or None front in let after = head_or None back in let cut = parts_elsewhere front back zs elsewhere in let lens = length-linked_out l before after in
    record {
      chain = chain_beside_out l before after None zs None (last_beside None front zs tt cut.0) (head_beside back zs cut.1) list.chain;
      apart = list.apart;
      slots = slots_kept l (linked_out l before after) zs lens.0 lens.1 list.slots;
    }
