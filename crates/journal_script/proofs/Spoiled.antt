-- A line with a mark behind it changes nothing that a script shows of its stations.
use Rattle.std.{proofs.Common.{◌≡◌, ℕ, zero, suc, ◌<◌, Bool, true, false, cond, not, ◌&&◌, ◌||◌, ◌==◌, ltb, leb, List, [], ◌∷◌, ◌++◌, Option, None, Some, bytes_eq, length, get_or, ◌⊎◌, inl, inr, refl, sym, ap, subst, ◌∙◌, arith}, specs.Prelude.{⊤, codes, slice_index, Err, ◌^◌}, specs.Char.is_ascii_digit, specs.Io.BufRead.strip_last, specs.List.{list_all, position_or_len, before_first, after_first}, specs.Option.option_map_or, specs.Str.is_utf8, specs.Str.Parse.digits_value, proofs.lemmas.Bool.{true≢false, false≢true, eq-eqb, eqb-true, and_parts}, proofs.lemmas.Bool.Decides.nat_tests, proofs.lemmas.List.Sums.{passes_at_first, split_at_first}, proofs.lemmas.Slice.Eq.bytes_eq-Decides}
use Rattle.ledger_model.{specs.declared.order.Order.Order, specs.declared.order.Order.TheVariants.{Sequence, Moment}, specs.declared.settle.Settle.Settle, specs.declared.settle.Settle.TheVariants.{Later, Closing, Even}, specs.Name.{is_name, is_name_character}, specs.Ranges.most_name_characters, specs.World.Station}
use Rattle.marked_json.{specs.declared.fault.JsonFault.JsonFault, specs.Reading.marked_reading}
use Rattle.script_lines.{specs.declared.script_line.LineFault.TheVariants.{BadLine, DeclaredLate, PlanLimit}, specs.declared.script_line.Operation.Operation, specs.declared.script_line.TxList.TxList, specs.declared.script_line.TxList.TheVariants.{Events, Readings}, specs.LineMeaning.{LineMeaning, ◌>>=◌, nothing, fails, sets_limits, declares, sets_period, sets_order, sets_settle, tells, sends, delivers, commands, asks_energy, asks_export, asks_total, asks_board, lists, asks_meaning, marks, by_bytes, by_first_word, by_words, command_line, deliver_line, is_number, is_space, list_line, tx_id, limits_line, line_meaning, moment, msg_line, name, now_line, number, order_line, order_word, settle_line, settle_word, parted, period_line, question_line, station_line, words}, specs.Lines.ended, specs.Texts.fault_line}
use Rattle.script_lines.specs.declared.script_line.Operation.TheVariants as operation
use Rattle.script_ledgers.{proofs.Told.delivered_state, specs.Script.{KeepsSites, Script, are_limits, by_meaning, limited_to, line_step, sent_to, station_named, step_by}}
use Rattle.transaction_event.specs.Message.{Meaning, Ready, message}
use Rattle.journal_script.{proofs.LastByte.{keeps_last, last, last_apart, last_behind}, proofs.NotJson.{hash_not_read, s_not_read}, proofs.Unheard.{IsAnswered, answered_where_not_read}}

-- ---- a mark

-- a `#` is in the text
abbrev pub is_marked : List ℕ → Bool
is_marked [] = false
is_marked (b ∷ bs) = (b == 35) || is_marked bs

pub marked_behind : (front back : List ℕ) → is_marked (front ++ 35 ∷ back) ≡ true
marked_behind [] back = refl
marked_behind (b ∷ front) back = either (b == 35) (marked_behind front back)
  where
    either : (q : Bool) → is_marked (front ++ 35 ∷ back) ≡ true → (q || is_marked (front ++ 35 ∷ back)) ≡ true
    either true h = refl
    either false h = h

marked_part : (front back : List ℕ) → is_marked (front ++ 32 ∷ back) ≡ true → (is_marked front ≡ true) ⊎ (is_marked back ≡ true)
marked_part [] back h = inr h
marked_part (b ∷ front) back h = one (b == 35) h (marked_part front back)
  where
    one : (q : Bool) → (q || is_marked (front ++ 32 ∷ back)) ≡ true
        → (is_marked (front ++ 32 ∷ back) ≡ true → (is_marked front ≡ true) ⊎ (is_marked back ≡ true))
        → ((q || is_marked front) ≡ true) ⊎ (is_marked back ≡ true)
    one true h later = inl refl
    one false h later = later h

-- the two words are the text
parted_is : (text : List ℕ) (words : List ℕ × List ℕ) → parted text ≡ Some words → text ≡ words.0 ++ 32 ∷ words.1
parted_is text words e = at (ltb (position_or_len is_space text) (length text)) refl e
  where
    pair : List ℕ × List ℕ
    pair = (before_first is_space text, after_first is_space text)

    at : (b : Bool) → ltb (position_or_len is_space text) (length text) ≡ b → cond b (Some pair) None ≡ Some words → text ≡ words.0 ++ 32 ∷ words.1
    at false is f = cc f
    at true is f =
        let within : position_or_len is_space text < length text = grind (arith, nat_tests, is) in
        let space : get_or text (position_or_len is_space text) 0 ≡ 32 = eqb-true (get_or text (position_or_len is_space text) 0) 32 (passes_at_first is_space text 0 within) in
        let same : pair ≡ words = cc f in
        split_at_first is_space text 0 within
        ∙ ap (λ b. before_first is_space text ++ b ∷ after_first is_space text) space
        ∙ ap (λ (p : List ℕ × List ℕ). p.0 ++ 32 ∷ p.1) same

-- ---- the words of a text

-- a mark is in one of the words
abbrev AnyMarked : List (List ℕ) → Type 0
AnyMarked [] = ⊥
AnyMarked (word ∷ line) = (is_marked word ≡ true) ⊎ AnyMarked line

-- the last of the words ends with this byte
abbrev Ends : ℕ → List (List ℕ) → Type 0
Ends c [] = ⊥
Ends c (word ∷ []) = last 32 word ≡ c
Ends c (word ∷ next ∷ line) = Ends c (next ∷ line)

-- what holds of words where it holds of what they are parted from
parted_so : (P : List (List ℕ) → Type 0) (n : ℕ) (text : List ℕ) → P (text ∷ [])
    → ((ends : List ℕ × List ℕ) → parted text ≡ Some ends → P (ends.0 ∷ words (suc n) ends.1)) → P (words (suc (suc n)) text)
parted_so P n text whole cut = at (parted text) refl
  where
    at : (o : Option (List ℕ × List ℕ)) → parted text ≡ o → P (option_map_or (λ ends. ends.0 ∷ words (suc n) ends.1) o (text ∷ []))
    at None e = whole
    at (Some ends) e = cut ends e

marked_words : (n : ℕ) (text : List ℕ) → is_marked text ≡ true → AnyMarked (words n text)
marked_words zero text h = inl h
marked_words (suc zero) text h = inl h
marked_words (suc (suc n)) text h =
    parted_so AnyMarked n text (inl h) (λ ends e. behind ends (marked_part ends.0 ends.1 (ap is_marked (sym (parted_is text ends e)) ∙ h)) (λ there. marked_words (suc n) ends.1 there))
  where
    behind : (ends : List ℕ × List ℕ) → (is_marked ends.0 ≡ true) ⊎ (is_marked ends.1 ≡ true) → (is_marked ends.1 ≡ true → AnyMarked (words (suc n) ends.1)) → AnyMarked (ends.0 ∷ words (suc n) ends.1)
    behind ends (inl there) more = inl there
    behind ends (inr there) more = inr (more there)

last_part : (c : ℕ) (text : List ℕ) (ends : List ℕ × List ℕ) → last 32 text ≡ c → parted text ≡ Some ends → last 32 ends.1 ≡ c
last_part c text ends h e = sym (last_behind 32 ends.0 32 ends.1) ∙ ap (last 32) (sym (parted_is text ends e)) ∙ h

ends_behind : (c : ℕ) (word : List ℕ) (line : List (List ℕ)) → Ends c line → Ends c (word ∷ line)
ends_behind c word [] never = absurd never
ends_behind c word (next ∷ line) h = h

last_word : (c n : ℕ) (text : List ℕ) → last 32 text ≡ c → Ends c (words n text)
last_word c zero text h = h
last_word c (suc zero) text h = h
last_word c (suc (suc n)) text h = parted_so (Ends c) n text h (λ ends e. ends_behind c ends.0 (words (suc n) ends.1) (last_word c (suc n) ends.1 (last_part c text ends h e)))

-- ---- words that a mark spoils

second_false : (a b : Bool) → b ≡ false → (a && b) ≡ false
second_false true b e = e
second_false false b e = refl

no_name_byte : (b : ℕ) (t : List ℕ) (q : Bool) → (b == 35) ≡ q → (q || is_marked t) ≡ true
    → (is_marked t ≡ true → list_all is_name_character t ≡ false) → (is_name_character b && list_all is_name_character t) ≡ false
no_name_byte b t true e h more = ap (λ c. is_name_character c && list_all is_name_character t) (eqb-true b 35 e)
no_name_byte b t false e h more = second_false (is_name_character b) (list_all is_name_character t) (more h)

no_name_bytes : (t : List ℕ) → is_marked t ≡ true → list_all is_name_character t ≡ false
no_name_bytes [] h = absurd (false≢true h)
no_name_bytes (b ∷ t) h = no_name_byte b t (b == 35) refl h (no_name_bytes t)

no_name : (text : List ℕ) → is_marked text ≡ true → is_name text ≡ false
no_name text h = second_false (ltb 0 (length text) && leb (length text) most_name_characters) (list_all is_name_character text) (no_name_bytes text h)

not_named : (text : List ℕ) → is_marked text ≡ true → name text ≡ None
not_named text h = ap (λ b. cond b (Some text) None) (no_name text h)

all_last : (p : ℕ → Bool) (x : ℕ) (xs : List ℕ) → p x ≡ true → list_all p xs ≡ true → p (last x xs) ≡ true
all_last p x [] first rest = first
all_last p x (y ∷ xs) first rest = let both = and_parts (p y) (list_all p xs) rest in all_last p y xs both.0 both.1

-- ---- what such a line may mean

-- a line of this meaning leaves the sites, their periods, their orders and the stations
abbrev Idle : LineMeaning → Type 0
Idle nothing = ⊤
Idle (fails _) = ⊤
Idle (sets_limits _ _ _ _) = ⊤
Idle (declares _ _) = ⊥
Idle (sets_period _ _) = ⊥
Idle (sets_order _ _) = ⊥
Idle (sets_settle _ _) = ⊥
Idle (tells _) = ⊤
Idle (sends _ text) = IsAnswered text
Idle (delivers _ text) = IsAnswered text
Idle (commands _ _) = ⊥
Idle (asks_energy _) = ⊤
Idle (asks_export _) = ⊤
Idle (asks_total _) = ⊤
Idle (asks_board _) = ⊤
Idle (lists _ _ _) = ⊤
Idle (asks_meaning _) = ⊤
Idle (marks _) = ⊤

idle_if : (b : Bool) (m n : LineMeaning) → (b ≡ true → Idle m) → (b ≡ false → Idle n) → Idle (cond b m n)
idle_if true m n f g = f refl
idle_if false m n f g = g refl

-- a line that goes on from what a word is read as
idle_read : {A : Type 0} (word : Option A) (says : A → LineMeaning) → ((x : A) → Idle (says x)) → Idle (word >>= says)
idle_read None says all = tt
idle_read (Some x) says all = all x

idle_none : {A : Type 0} (word : Option A) (says : A → LineMeaning) → word ≡ None → Idle (word >>= says)
idle_none word says none = subst (λ o. Idle (o >>= says)) (sym none) tt

idle_limits : (line : List (List ℕ)) → Idle (limits_line line)
idle_limits (t ∷ e ∷ r ∷ c ∷ []) = idle_read (number t) _ (λ _. idle_read (number e) _ (λ _. idle_read (number r) _ (λ _. idle_read (number c) _ (λ _. tt))))
idle_limits _ = tt

idle_now : (line : List (List ℕ)) → Idle (now_line line)
idle_now (time ∷ []) = idle_read (moment time) _ (λ _. tt)
idle_now _ = tt

idle_question : (asks : List ℕ → LineMeaning) → ((place : List ℕ) → Idle (asks place)) → (line : List (List ℕ)) → Idle (question_line asks line)
idle_question asks all (place ∷ []) = idle_read (name place) _ all
idle_question asks all _ = tt

idle_station : (line : List (List ℕ)) → AnyMarked line → Idle (station_line line)
idle_station (site ∷ station ∷ []) (inl there) = idle_none (name site) _ (not_named site there)
idle_station (site ∷ station ∷ []) (inr (inl there)) = idle_read (name site) _ (λ _. idle_none (name station) _ (not_named station there))
idle_station (site ∷ station ∷ []) (inr (inr never)) = absurd never
idle_station [] there = tt
idle_station (a ∷ []) there = tt
idle_station (a ∷ b ∷ d ∷ line) there = tt

module _ (c : ℕ) (no_space : (32 == c) ≡ false) (no_digit : is_ascii_digit c ≡ false) (no_e : (101 == c) ≡ false)
    (no_t : (116 == c) ≡ false) (no_r : (114 == c) ≡ false) (no_g : (103 == c) ≡ false) (no_n : (110 == c) ≡ false)
    (no_text : (front : List ℕ) → (fault : JsonFault) × (marked_reading (front ++ c ∷ []) ≡ Err fault)) where
  not_empty : {P : Type 0} → 32 ≡ c → P
  not_empty e = absurd (true≢false (ap (λ x. 32 == x) e ∙ no_space))

  no_number : (text : List ℕ) → last 32 text ≡ c → number text ≡ None
  no_number [] h = not_empty h
  no_number (x ∷ xs) h = ap (λ b. cond (b && ltb (digits_value 10 (x ∷ xs)) (2 ^ 64)) (Some (digits_value 10 (x ∷ xs))) None) (none (list_all is_ascii_digit (x ∷ xs)) refl)
    where
      none : (b : Bool) → list_all is_ascii_digit (x ∷ xs) ≡ b → is_number (x ∷ xs) ≡ false
      none true e = let both = and_parts (is_ascii_digit x) (list_all is_ascii_digit xs) e in absurd (true≢false (sym (all_last is_ascii_digit x xs both.0 both.1) ∙ ap is_ascii_digit h ∙ no_digit))
      none false e =
          second_false (ltb 0 (length (x ∷ xs)))
          (list_all is_ascii_digit (x ∷ xs) && (not (slice_index (x ∷ xs) 0 == 48) || (length (x ∷ xs) == 1)))
          (ap (λ b. b && (not (slice_index (x ∷ xs) 0 == 48) || (length (x ∷ xs) == 1))) e)

  -- a text is no word of another last letter
  other : (text : List ℕ) → last 32 text ≡ c → (word : List ℕ) → (last 32 word == c) ≡ false → (b : Bool) → bytes_eq text word ≡ b → b ≡ false
  other text h word none true is = absurd (true≢false (sym (eq-eqb (last 32 word) c (ap (last 32) (sym ((bytes_eq-Decides text word).0 is)) ∙ h)) ∙ none))
  other text h word none false is = refl

  -- no word of another last letter than `e` and `t` names an order
  no_order : (text : List ℕ) → last 32 text ≡ c → order_word text ≡ None
  no_order text h =
      ap (λ b. cond b (Some Sequence) moment) (other text h (codes "sequence") no_e (bytes_eq text (codes "sequence")) refl)
      ∙ ap (λ b. cond b (Some Moment) None) (other text h (codes "moment") no_t (bytes_eq text (codes "moment")) refl)
    where
      moment : Option Order
      moment = cond (bytes_eq text (codes "moment")) (Some Moment) None

  -- no word of another last letter than `r`, `g` and `n` names a rule
  no_settle : (text : List ℕ) → last 32 text ≡ c → settle_word text ≡ None
  no_settle text h =
      ap (λ b. cond b (Some Later) closing) (other text h (codes "later") no_r (bytes_eq text (codes "later")) refl)
      ∙ ap (λ b. cond b (Some Closing) even) (other text h (codes "closing") no_g (bytes_eq text (codes "closing")) refl)
      ∙ ap (λ b. cond b (Some Even) None) (other text h (codes "even") no_n (bytes_eq text (codes "even")) refl)
    where
      even : Option Settle
      even = cond (bytes_eq text (codes "even")) (Some Even) None

      closing : Option Settle
      closing = cond (bytes_eq text (codes "closing")) (Some Closing) even

  idle_text : (name text : List ℕ) → last 32 text ≡ c → Idle (sends name text)
  idle_text name [] h = not_empty h
  idle_text name (x ∷ xs) h =
      let end = last_apart x xs in
      let same : x ∷ xs ≡ end.0 ++ c ∷ [] = end.1 ∙ ap (λ b. end.0 ++ b ∷ []) h in
      subst IsAnswered (sym same) (answered_where_not_read (end.0 ++ c ∷ []) (no_text end.0))

  idle_msg : (line : List (List ℕ)) → Ends c line → Idle (msg_line line)
  idle_msg (station ∷ text ∷ []) h = idle_read (name station) _ (λ at. idle_text at text h)
  idle_msg [] h = tt
  idle_msg (a ∷ []) h = tt
  idle_msg (a ∷ b ∷ d ∷ line) h = tt

  idle_deliver : (line : List (List ℕ)) → Ends c line → Idle (deliver_line line)
  idle_deliver (station ∷ text ∷ []) h = idle_read (name station) _ (λ at. idle_text at text h)
  idle_deliver [] h = tt
  idle_deliver (a ∷ []) h = tt
  idle_deliver (a ∷ b ∷ d ∷ line) h = tt

  idle_period : (line : List (List ℕ)) → Ends c line → Idle (period_line line)
  idle_period (site ∷ seconds ∷ []) h = idle_read (name site) _ (λ _. idle_none (number seconds) _ (no_number seconds h))
  idle_period [] h = tt
  idle_period (a ∷ []) h = tt
  idle_period (a ∷ b ∷ d ∷ line) h = tt

  idle_order : (line : List (List ℕ)) → Ends c line → Idle (order_line line)
  idle_order (site ∷ word ∷ []) h = idle_read (name site) _ (λ _. idle_none (order_word word) _ (no_order word h))
  idle_order [] h = tt
  idle_order (a ∷ []) h = tt
  idle_order (a ∷ b ∷ d ∷ line) h = tt

  idle_settle : (line : List (List ℕ)) → Ends c line → Idle (settle_line line)
  idle_settle (site ∷ word ∷ []) h = idle_read (name site) _ (λ _. idle_none (settle_word word) _ (no_settle word h))
  idle_settle [] h = tt
  idle_settle (a ∷ []) h = tt
  idle_settle (a ∷ b ∷ d ∷ line) h = tt

  idle_list : (what : TxList) (line : List (List ℕ)) → Idle (list_line what line)
  idle_list what (station ∷ tx ∷ []) = idle_read (name station) _ (λ _. idle_read (tx_id tx) _ (λ _. tt))
  idle_list what [] = tt
  idle_list what (a ∷ []) = tt
  idle_list what (a ∷ b ∷ d ∷ line) = tt

  idle_command : (what : Operation) (line : List (List ℕ)) → Ends c line → Idle (command_line what line)
  idle_command what (station ∷ tx ∷ seq ∷ []) h = idle_read (name station) _ (λ _. idle_none (number seq) _ (no_number seq h))
  idle_command what [] h = tt
  idle_command what (a ∷ []) h = tt
  idle_command what (a ∷ b ∷ []) h = tt
  idle_command what (a ∷ b ∷ d ∷ e ∷ line) h = tt

  -- the mark is not in the word `station`
  behind_station : (line : List ℕ × List ℕ) → bytes_eq line.0 (codes "station") ≡ true → (is_marked line.0 ≡ true) ⊎ (is_marked line.1 ≡ true) → is_marked line.1 ≡ true
  behind_station line is (inl there) = absurd (false≢true (ap is_marked (sym ((bytes_eq-Decides line.0 (codes "station")).0 is)) ∙ there))
  behind_station line is (inr there) = there

  idle_first : (text : List ℕ) (line : List ℕ × List ℕ) → last 32 text ≡ c → is_marked text ≡ true → parted text ≡ Some line → Idle (by_first_word line)
  idle_first text line h m e =
      let word = line.0 in
      let rest = line.1 in
      let end = last_part c text line h e in
      let there = marked_part word rest (ap is_marked (sym (parted_is text line e)) ∙ m) in
      idle_if (bytes_eq word (codes "msg")) _ _ (λ _. idle_msg (words 2 rest) (last_word c 2 rest end))
      (λ _. idle_if (bytes_eq word (codes "deliver")) _ _ (λ _. idle_deliver (words 2 rest) (last_word c 2 rest end))
      (λ _. idle_if (bytes_eq word (codes "asks")) _ _ (λ _. tt)
      (λ _. idle_if (bytes_eq word (codes "station")) _ _ (λ is. idle_station (words 2 rest) (marked_words 2 rest (behind_station line is there)))
      (λ _. idle_if (bytes_eq word (codes "limits")) _ _ (λ _. idle_limits (words 4 rest))
      (λ _. idle_if (bytes_eq word (codes "period")) _ _ (λ _. idle_period (words 2 rest) (last_word c 2 rest end))
      (λ _. idle_if (bytes_eq word (codes "order")) _ _ (λ _. idle_order (words 2 rest) (last_word c 2 rest end))
      (λ _. idle_if (bytes_eq word (codes "settle")) _ _ (λ _. idle_settle (words 2 rest) (last_word c 2 rest end))
      (λ _. idle_if (bytes_eq word (codes "now")) _ _ (λ _. idle_now (words 2 rest))
      (λ _. idle_if (bytes_eq word (codes "energy")) _ _ (λ _. idle_question asks_energy (λ _. tt) (words 1 rest))
      (λ _. idle_if (bytes_eq word (codes "export")) _ _ (λ _. idle_question asks_export (λ _. tt) (words 1 rest))
      (λ _. idle_if (bytes_eq word (codes "total")) _ _ (λ _. idle_question asks_total (λ _. tt) (words 1 rest))
      (λ _. idle_if (bytes_eq word (codes "board")) _ _ (λ _. idle_question asks_board (λ _. tt) (words 1 rest))
      (λ _. idle_if (bytes_eq word (codes "events")) _ _ (λ _. idle_list Events (words 2 rest))
      (λ _. idle_if (bytes_eq word (codes "readings")) _ _ (λ _. idle_list Readings (words 2 rest))
      (λ _. idle_if (bytes_eq word (codes "mark")) _ _ (λ _. idle_question marks (λ _. tt) (words 1 rest))
      (λ _. idle_if (bytes_eq word (codes "void")) _ _ (λ _. idle_command operation.Void (words 3 rest) (last_word c 3 rest end))
      (λ _. idle_if (bytes_eq word (codes "restore")) _ _ (λ _. idle_command operation.Restore (words 3 rest) (last_word c 3 rest end))
      (λ _. idle_if (bytes_eq word (codes "erase")) _ _ (λ _. idle_command operation.Erase (words 3 rest) (last_word c 3 rest end)) (λ _. tt)))))))))))))))))))

  idle_parted : (text : List ℕ) (o : Option (List ℕ × List ℕ)) → last 32 text ≡ c → is_marked text ≡ true → parted text ≡ o → Idle (o >>= by_first_word)
  idle_parted text None h m e = tt
  idle_parted text (Some line) h m e = idle_first text line h m e

  idle_bytes : (text : List ℕ) → last 32 text ≡ c → is_marked text ≡ true → Idle (by_bytes text)
  idle_bytes [] h m = tt
  idle_bytes (b ∷ text) h m =
      idle_if (b == 35) nothing (by_words (b ∷ text)) (λ _. tt)
      (λ _. idle_if (is_utf8 (b ∷ text)) (parted (b ∷ text) >>= by_first_word) (fails BadLine) (λ _. idle_parted (b ∷ text) (parted (b ∷ text)) h m refl) (λ _. tt))

  idle_line : (most : ℕ) (text : List ℕ) → (c == 13) ≡ false → last 32 text ≡ c → is_marked text ≡ true → Idle (line_meaning (ended most text))
  idle_line most [] no_return h m = not_empty h
  idle_line most (x ∷ xs) no_return h m = at (leb (length (x ∷ xs)) most)
    where
      at : (b : Bool) → Idle (line_meaning (cond b (Some (strip_last 13 (x ∷ xs))) None))
      at true = subst (λ l. Idle (line_meaning (Some l))) (sym (keeps_last x xs (ap (λ b. b == 13) h ∙ no_return))) (idle_bytes (x ∷ xs) h m)
      at false = tt

-- ---- what an idle line leaves

-- the sites, their periods, their orders and the stations stay
abbrev pub Stays : Script → Script → Type 0
Stays s t = (t.world ≡ s.world) × KeepsSites s t

stays_if : (s : Script) (b : Bool) (p q : Script × List ℕ) → Stays s p.0 → Stays s q.0 → Stays s (cond b p q).0
stays_if s true p q f g = f
stays_if s false p q f g = g

stays_answered : (s : Script) (station : Station) (meaning : Meaning) (reply : List ℕ) → meaning ≡ Ready reply → Stays s (by_meaning meaning station s).0
stays_answered s station meaning reply e = subst (λ m. Stays s (by_meaning m station s).0) (sym e) (refl, record { sites = refl; periods = refl; orders = refl })

stays_sent : (s : Script) (o : Option Station) (text : List ℕ) → IsAnswered text → Stays s (sent_to o s text).0
stays_sent s None text answered = (refl, record { sites = refl; periods = refl; orders = refl })
stays_sent s (Some station) text answered = stays_answered s station (message text s.moment) answered.0 (answered.1 s.moment)

stays_step : (s : Script) (m : LineMeaning) → Idle m → Stays s (step_by s m).0
stays_step s nothing idle = (refl, record { sites = refl; periods = refl; orders = refl })
stays_step s (fails _) idle = (refl, record { sites = refl; periods = refl; orders = refl })
stays_step s (sets_limits transactions events readings changes) idle =
    let set = record s { limits = record { transactions = transactions; events = events; readings = readings; changes = changes } } in
    stays_if s s.opened (s, fault_line DeclaredLate) (limited_to s transactions events readings changes) (refl, record { sites = refl; periods = refl; orders = refl })
    (stays_if s (are_limits transactions events readings changes) (set, []) (s, fault_line PlanLimit)
    (refl, record { sites = refl; periods = refl; orders = refl }) (refl, record { sites = refl; periods = refl; orders = refl }))
stays_step s (declares _ _) idle = absurd idle
stays_step s (sets_period _ _) idle = absurd idle
stays_step s (sets_order _ _) idle = absurd idle
stays_step s (sets_settle _ _) idle = absurd idle
stays_step s (tells _) idle = (refl, record { sites = refl; periods = refl; orders = refl })
stays_step s (sends name text) idle = stays_sent s (station_named name s.world) text idle
stays_step s (delivers name text) idle = subst (Stays s) (sym (delivered_state (station_named name s.world) s text)) (stays_sent s (station_named name s.world) text idle)
stays_step s (commands _ _) idle = absurd idle
stays_step s (asks_energy _) idle = (refl, record { sites = refl; periods = refl; orders = refl })
stays_step s (asks_export _) idle = (refl, record { sites = refl; periods = refl; orders = refl })
stays_step s (asks_total _) idle = (refl, record { sites = refl; periods = refl; orders = refl })
stays_step s (asks_board _) idle = (refl, record { sites = refl; periods = refl; orders = refl })
stays_step s (lists _ _ _) idle = (refl, record { sites = refl; periods = refl; orders = refl })
stays_step s (asks_meaning _) idle = (refl, record { sites = refl; periods = refl; orders = refl })
stays_step s (marks _) idle = (refl, record { sites = refl; periods = refl; orders = refl })

-- a line with a `#`, which ends with it or with the run's comment, changes nothing that is shown
pub spoiled : (s : Script) (most : ℕ) (front back : List ℕ) → (last 35 back ≡ 35) ⊎ (last 35 back ≡ 115) → Stays s (line_step s (ended most (front ++ 35 ∷ back))).0
spoiled s most front back (inl hash) =
    stays_step s (line_meaning (ended most (front ++ 35 ∷ back)))
    (idle_line 35 refl refl refl refl refl refl refl hash_not_read most (front ++ 35 ∷ back) refl (last_behind 32 front 35 back ∙ hash) (marked_behind front back))
spoiled s most front back (inr letter) =
    stays_step s (line_meaning (ended most (front ++ 35 ∷ back)))
    (idle_line 115 refl refl refl refl refl refl refl s_not_read most (front ++ 35 ∷ back) refl (last_behind 32 front 35 back ∙ letter) (marked_behind front back))
