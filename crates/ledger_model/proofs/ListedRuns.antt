-- Steps and runs of the ledger on the list of its entries, which computes.
use Rattle.std.{proofs.Common.{◌≡◌, ℕ, ◌+◌, Bool, true, false, cond, not, ◌&&◌, List, [], ◌∷◌, Option, Some, None, refl, ap, sym, ◌∙◌, nat_le, nat_lt, length}, specs.Ordering.eq_by_cmp, specs.Cmp.eq_by_cmp_equiv, specs.FinMap.FinMap, proofs.lemmas.List.nil_from_length, specs.FinMap.Entries.{find, find-where_key, is_sorted-where_key, same_entries}}
use Rattle.std.specs.FinMap as finite
use Rattle.ledger_model.{specs.declared.command.Command.Command, specs.declared.command.Command.TheVariants.{Deliver, Void, Restore, Erase}, specs.declared.answer.Answer.Answer, specs.declared.answer.Answer.TheVariants.{Accepted, Repeat, Refused}, specs.declared.answer.Refusal.TheVariants.{ConflictingEvent, TooManyTransactions, EventsFull, ReadingsFull, NoSuchEvent, AlreadyVoided, NotVoided, ChangesExhausted}, specs.Key.{KeyName, key_cmp}, specs.Event.{EventContent, same_event}, specs.Limits.Bounds, specs.Content.{Content, Stored, Entry, entries, empty_content, transactions_of, has_transaction}, specs.Step.{step, answer, answer_to_deliver, answer_to_void, answer_to_voided, readings_stored, content_after, events_after, marked_at}, specs.Entries.{entries_marked_at, entries_without, entries_after}, specs.Laws.{answers, left_by}, proofs.Keys.{key_total, exact_keys}}

-- the entries in order, and the count of changes
abbrev pub Listed : Type 0
Listed = List Entry × ℕ

abbrev pub listed : Content → Listed
listed c = (entries c, c.changes)

-- the answers, as `Step` has them
abbrev told_changes : Bounds → Listed → Answer
told_changes limits l = cond (nat_le limits.changes l.1) (Refused ChangesExhausted) (Accepted (l.1 + 1))

abbrev told_deliver : Bounds → Listed → KeyName → EventContent → Option Stored → Answer
told_deliver limits l key event (Some stored) = cond (same_event stored.event event) Repeat (Refused ConflictingEvent)
told_deliver limits l key event None =
    cond (not (has_transaction key.tx l.0) && nat_le limits.transactions (length (transactions_of l.0))) (Refused TooManyTransactions)
    (cond (nat_le limits.events (length l.0)) (Refused EventsFull)
    (cond (nat_lt limits.readings (readings_stored l.0 + length event.readings)) (Refused ReadingsFull)
    (told_changes limits l)))

abbrev told_void : Bounds → Listed → Option Stored → Answer
told_void limits l None = Refused NoSuchEvent
told_void limits l (Some stored) = cond stored.voided (Refused AlreadyVoided) (told_changes limits l)

abbrev told_voided : Bounds → Listed → Option Stored → Answer
told_voided limits l None = Refused NoSuchEvent
told_voided limits l (Some stored) = cond stored.voided (told_changes limits l) (Refused NotVoided)

abbrev pub told : Bounds → Listed → Command → Answer
told limits l (Deliver key event) = told_deliver limits l key event (find key_cmp key l.0)
told limits l (Void key) = told_void limits l (find key_cmp key l.0)
told limits l (Restore key) = told_voided limits l (find key_cmp key l.0)
told limits l (Erase key) = told_voided limits l (find key_cmp key l.0)

told_voided_is : (limits : Bounds) (c : Content) (key : KeyName) → answer_to_voided limits c (finite.get c.events key) ≡ told_voided limits (listed c) (find key_cmp key (entries c))
told_voided_is limits c key = ap (answer_to_voided limits c) (finite.get-entries c.events key)
    ∙ elim (find key_cmp key (entries c)) as (λ o. answer_to_voided limits c o ≡ told_voided limits (listed c) o) [ None ↦ refl | Some stored ↦ refl ]

told_is : (limits : Bounds) (c : Content) (command : Command) → answer limits c command ≡ told limits (listed c) command
told_is limits c (Deliver key event) = ap (answer_to_deliver limits c key event) (finite.get-entries c.events key)
    ∙ elim (find key_cmp key (entries c)) as (λ o. answer_to_deliver limits c key event o ≡ told_deliver limits (listed c) key event o) [ None ↦ refl | Some stored ↦ refl ]
told_is limits c (Void key) = ap (answer_to_void limits c) (finite.get-entries c.events key)
    ∙ elim (find key_cmp key (entries c)) as (λ o. answer_to_void limits c o ≡ told_void limits (listed c) o) [ None ↦ refl | Some stored ↦ refl ]
told_is limits c (Restore key) = told_voided_is limits c key
told_is limits c (Erase key) = told_voided_is limits c key

turned : {A : Type 0} (b : Bool) (x y : A) → cond (not b) x y ≡ cond b y x
turned true x y = refl
turned false x y = refl

-- what is after an erasure
pub entries_removed : (m : FinMap key_cmp Stored) (key : KeyName) → finite.entries (finite.remove m key) ≡ entries_without key (finite.entries m)
entries_removed m key =
    let p = λ (x : KeyName). not (eq_by_cmp key_cmp key x) in
    same_entries key_cmp key_total exact_keys _ _ (finite.entries_sorted (finite.remove m key)) (is_sorted-where_key key_cmp p (finite.entries m) (finite.entries_sorted m)) (λ q.
    sym (finite.get-entries (finite.remove m key) q)
    ∙ finite.get-remove key_total m key q
    ∙ ap (cond (eq_by_cmp key_cmp q key) None) (finite.get-entries m q)
    ∙ ap (λ b. cond b None (find key_cmp q (finite.entries m))) ((eq_by_cmp_equiv key_total).symm q key)
    ∙ sym (turned (eq_by_cmp key_cmp key q) (find key_cmp q (finite.entries m)) None)
    ∙ sym (find-where_key key_cmp p q (λ x t. ap (λ (k : KeyName). not (eq_by_cmp key_cmp key k)) (sym (exact_keys q x t))) (finite.entries m)))

marked_is : (m : FinMap key_cmp Stored) (key : KeyName) (voided : Bool) (o : Option Stored) → finite.entries (marked_at m key voided o) ≡ entries_marked_at (finite.entries m) key voided o
marked_is m key voided None = refl
marked_is m key voided (Some stored) = finite.entries-insert key_total m key _

pub entries_after_is : (m : FinMap key_cmp Stored) (command : Command) → finite.entries (events_after m command) ≡ entries_after (finite.entries m) command
entries_after_is m (Deliver key event) = finite.entries-insert key_total m key _
entries_after_is m (Void key) = marked_is m key true (finite.get m key) ∙ ap (entries_marked_at (finite.entries m) key true) (finite.get-entries m key)
entries_after_is m (Restore key) = marked_is m key false (finite.get m key) ∙ ap (entries_marked_at (finite.entries m) key false) (finite.get-entries m key)
entries_after_is m (Erase key) = entries_removed m key

abbrev after : Listed → Command → Answer → Listed
after l command (Accepted n) = (entries_after l.0 command, n)
after l command Repeat = l
after l command (Refused why) = l

after_is : (c : Content) (command : Command) (a : Answer) → listed (content_after c command a) ≡ after (listed c) command a
after_is c command (Accepted n) = λ i. (entries_after_is c.events command i, n)
after_is c command Repeat = refl
after_is c command (Refused why) = refl

-- the list after a command, and the answer
abbrev stepped_by : Listed → Command → Answer → Listed × Answer
stepped_by l command a = (after l command a, a)

abbrev pub stepped : Bounds → Listed → Command → Listed × Answer
stepped limits l command = stepped_by l command (told limits l command)

stepped_is : (limits : Bounds) (c : Content) (command : Command) → ◌≡◌ {A = Listed × Answer} (listed (step limits c command).0, (step limits c command).1) (stepped limits (listed c) command)
stepped_is limits c command =
    (λ i. (after_is c command (answer limits c command) i, answer limits c command))
    ∙ ap (stepped_by (listed c) command) (told_is limits c command)

abbrev then_answers : Listed × Answer → (Listed → List Answer) → List Answer
then_answers p more = p.1 ∷ more p.0

-- the answers to a list of commands
abbrev pub told_all : Bounds → Listed → List Command → List Answer
told_all limits l [] = []
told_all limits l (command ∷ commands) = then_answers (stepped limits l command) (λ next. told_all limits next commands)

-- what a list of commands leaves
abbrev pub listed_left : Bounds → Listed → List Command → Listed
listed_left limits l [] = l
listed_left limits l (command ∷ commands) = listed_left limits (stepped limits l command).0 commands

pub told_all_is : (limits : Bounds) (c : Content) (commands : List Command) → answers limits c commands ≡ told_all limits (listed c) commands
told_all_is limits c [] = refl
told_all_is limits c (command ∷ commands) =
    ap (λ as'. (step limits c command).1 ∷ as') (told_all_is limits (step limits c command).0 commands)
    ∙ ap (λ p. then_answers p (λ next. told_all limits next commands)) (stepped_is limits c command)

pub listed_left_is : (limits : Bounds) (c : Content) (commands : List Command) → listed (left_by limits c commands) ≡ listed_left limits (listed c) commands
listed_left_is limits c [] = refl
listed_left_is limits c (command ∷ commands) =
    listed_left_is limits (step limits c command).0 commands
    ∙ ap (λ (p : Listed × Answer). listed_left limits p.0 commands) (stepped_is limits c command)

pub none_listed : entries empty_content ≡ []
none_listed = nil_from_length (entries empty_content) (sym (finite.len-entries finite.empty) ∙ finite.len-empty key_cmp Stored)

nothing : listed empty_content ≡ ([], 0)
nothing = λ i. (none_listed i, 0)

-- the answers to a list of commands, from the empty content
pub told_from_empty : (limits : Bounds) (commands : List Command) → answers limits empty_content commands ≡ told_all limits ([], 0) commands
told_from_empty limits commands = told_all_is limits empty_content commands ∙ ap (λ (l : Listed). told_all limits l commands) nothing

-- the entries that a list of commands leaves of the empty content
pub entries_from_empty : (limits : Bounds) (commands : List Command) → entries (left_by limits empty_content commands) ≡ (listed_left limits ([], 0) commands).0
entries_from_empty limits commands = ap (λ (l : Listed). l.0) (listed_left_is limits empty_content commands ∙ ap (λ (l : Listed). listed_left limits l commands) nothing)
