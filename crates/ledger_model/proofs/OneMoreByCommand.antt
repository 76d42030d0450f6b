-- The commands that make one more live event, or one less.
use Rattle.std.{proofs.Common.{◌≡◌, Bool, true, false, cond, not, List, [], ◌∷◌, ◌++◌, Some, None, sym, ap, ◌∙◌}, specs.Ordering.is_lt, specs.FinMap.Entries.{find, put}, proofs.lemmas.List.Elements.filter-append}
use Rattle.ledger_model.{specs.declared.command.Command.TheVariants.{Deliver, Void, Restore, Erase}, specs.Event.EventContent, specs.Key.{KeyName, key_cmp}, specs.Content.{Entry, Stored, live}, specs.Entries.{IsRising, entries_after, entries_marked_at}, specs.Deltas.{before_key, behind_key, IsOneMore}, proofs.Cuts.{at_key, behind, cut, in_front}, proofs.SumsByTransaction.filter_turned}

-- The live events of those in front of a key, some others, and those behind it.
live_parts : (key : KeyName) (es mid : List Entry) → live (in_front key es ++ (mid ++ behind key es)) ≡ before_key key es ++ (live mid ++ behind_key key es)
live_parts key es mid =
    filter-append (λ (e : Entry). not e.1.voided) (in_front key es) (mid ++ behind key es)
    ∙ ap (λ l. live (in_front key es) ++ l) (filter-append (λ (e : Entry). not e.1.voided) mid (behind key es))
    ∙ (λ i. filter_turned (λ (e : Entry). not e.1.voided) (λ e. is_lt (key_cmp e.0 key)) es i ++ (live mid ++ filter_turned (λ (e : Entry). not e.1.voided) (λ e. is_lt (key_cmp key e.0)) es i))

-- The live events: those in front of a key, that of the key, and those behind it.
pub live_cut : (key : KeyName) (es : List Entry) → IsRising es → live es ≡ before_key key es ++ (live (at_key key (find key_cmp key es)) ++ behind_key key es)
live_cut key es rising = ap live (cut key es rising).all ∙ live_parts key es (at_key key (find key_cmp key es))

-- The same, where that of the key is voided.
hidden : (key : KeyName) (s : Stored) (es : List Entry) → IsRising es → find key_cmp key es ≡ Some s → s.voided ≡ true → live es ≡ before_key key es ++ behind_key key es
hidden key s es rising there voided =
    live_cut key es rising ∙ ap (λ o. before_key key es ++ (live (at_key key o) ++ behind_key key es)) there
    ∙ ap (λ b. before_key key es ++ (cond (not b) ((key, s) ∷ []) [] ++ behind_key key es)) voided

-- The live events once an event is put under a key: those in front, it, and those behind.
live_put : (key : KeyName) (v : Stored) (es : List Entry) → IsRising es → live (put key_cmp key v es) ≡ before_key key es ++ (live ((key, v) ∷ []) ++ behind_key key es)
live_put key v es rising = ap live ((cut key es rising).with_put v) ∙ live_parts key es ((key, v) ∷ [])

-- An event marked anew under its key.
live_marked : (es : List Entry) (key : KeyName) (voided : Bool) (s : Stored) → IsRising es → find key_cmp key es ≡ Some s
    → live (entries_marked_at es key voided (find key_cmp key es)) ≡ before_key key es ++ (live ((key, record { event = s.event; voided = voided }) ∷ []) ++ behind_key key es)
live_marked es key voided s rising there = ap (λ o. live (entries_marked_at es key voided o)) there ∙ live_put key (record { event = s.event; voided = voided }) es rising

-- A delivered event that is new is one more live event.
pub delivered_more : (es : List Entry) (key : KeyName) (event : EventContent) → IsRising es → find key_cmp key es ≡ None
    → IsOneMore es (entries_after es (Deliver key event)) (before_key key es) (key, record { event = event; voided = false }) (behind_key key es)
delivered_more es key event rising absent = record {
  less_live = live_cut key es rising ∙ ap (λ o. before_key key es ++ (live (at_key key o) ++ behind_key key es)) absent;
  more_live = live_put key (record { event = event; voided = false }) es rising;
}

-- A restored event is one more live event.
pub restored_more : (es : List Entry) (key : KeyName) (s : Stored) → IsRising es → find key_cmp key es ≡ Some s → s.voided ≡ true
    → IsOneMore es (entries_after es (Restore key)) (before_key key es) (key, record { event = s.event; voided = false }) (behind_key key es)
restored_more es key s rising there voided = record { less_live = hidden key s es rising there voided; more_live = live_marked es key false s rising there }

-- An event that is voided was one more live event before.
pub voided_less : (es : List Entry) (key : KeyName) (s : Stored) → IsRising es → find key_cmp key es ≡ Some s → s.voided ≡ false
    → IsOneMore (entries_after es (Void key)) es (before_key key es) (key, s) (behind_key key es)
voided_less es key s rising there live_now = record {
  less_live = live_marked es key true s rising there;
  more_live = live_cut key es rising ∙ ap (λ o. before_key key es ++ (live (at_key key o) ++ behind_key key es)) there
      ∙ ap (λ b. before_key key es ++ (cond (not b) ((key, s) ∷ []) [] ++ behind_key key es)) live_now;
}

-- An erased event was voided, so the live events stay.
pub erased_same : (es : List Entry) (key : KeyName) (s : Stored) → IsRising es → find key_cmp key es ≡ Some s → s.voided ≡ true → live (entries_after es (Erase key)) ≡ live es
erased_same es key s rising there voided = ap live (cut key es rising).without ∙ live_parts key es [] ∙ sym (hidden key s es rising there voided)
