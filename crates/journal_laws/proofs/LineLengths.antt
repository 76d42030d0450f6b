-- A line that asks for a command is shorter than a line may be.
use Rattle.std.{proofs.Common.{◌≡◌, ◌≢◌, ℕ, zero, suc, ◌+◌, ◌*◌, ◌^◌, ◌<◌, ◌≤◌, Bool, true, false, cond, not, List, [], ◌∷◌, ◌++◌, Option, None, Some, bytes_eq, length, get_or, inl, inr, refl, ap, ◌∙◌, arith, length-append}, specs.Prelude.{⊤, ◌&&◌, ◌||◌, ◌==◌, codes, slice_index, nat_lt, nat_le}, specs.Char.{digit_value, is_ascii_digit}, specs.List.{list_all, position_or_len, before_first, after_first}, specs.Option.option_map_or, specs.Str.is_utf8, specs.Str.Parse.{digits_value, digits_value_after}, proofs.Math.Nat.{mul-le-mul_left, pow-le-pow_right}, proofs.lemmas.Bool.{and_parts, cases_lt, eqb-true, leb-true, ltb-true}, proofs.lemmas.Bool.Decides.nat_tests, proofs.lemmas.List.Sums.{passes_at_first, split_at_first}, proofs.lemmas.Slice.Eq.bytes_eq-Decides, proofs.lemmas.Nat.pow-add, proofs.lemmas.Str.digit_value_digit}
use Rattle.kept_desk.specs.Speaking.{AsksFor, Says, Speaks}
use Rattle.ledger_model.{specs.Name.{is_name, is_name_character}, specs.Ranges.{most_id_characters, most_name_characters, sequence_end}, specs.TxId.{folded, is_tx_id, is_visible}, specs.declared.command.Command.Command}
use Rattle.ocppj_frame.{specs.Frame.{Frame, Called, Silence, Ready, frame}, specs.Ranges.longest_message}
use Rattle.script_lines.{specs.LineMeaning.{LineMeaning, ◌>>=◌, nothing, fails, asks_energy, asks_export, asks_total, asks_board, marks, by_bytes, by_first_word, by_words, command_line, deliver_line, is_number, is_space, key, limits_line, list_line, moment, msg_line, name, now_line, number, order_line, order_word, parted, period_line, question_line, settle_line, settle_word, station_line, tx_id, words}, specs.declared.script_line.LineFault.TheVariants.BadLine, specs.declared.script_line.Operation.Operation, specs.declared.script_line.TxList.TxList, specs.declared.script_line.TxList.TheVariants.{Events, Readings}}
use Rattle.script_lines.specs.declared.script_line.Operation.TheVariants as operation
use Rattle.transaction_event.{specs.Message.{Event, meaning_of}, specs.Request.Request}

-- The longest line: `deliver `, a name, a blank and a message.
abbrev pub longest_spoken : ℕ
longest_spoken = 262_201

-- A line of this many bytes with this meaning is short if it asks for a command.
abbrev Bounded : ℕ → LineMeaning → Type 0
Bounded n m = (name : List ℕ) (command : Command) → Says m name command → n ≤ longest_spoken

bounded_if : (n : ℕ) (b : Bool) (m k : LineMeaning) → (b ≡ true → Bounded n m) → (b ≡ false → Bounded n k) → Bounded n (cond b m k)
bounded_if n true m k f g = f refl
bounded_if n false m k f g = g refl

bounded_read : {A : Type 0} (n : ℕ) (word : Option A) (says : A → LineMeaning) → ((x : A) → word ≡ Some x → Bounded n (says x)) → Bounded n (word >>= says)
bounded_read n None says all = λ name command s. absurd s
bounded_read n (Some x) says all = all x refl

-- ---- lines that ask for no command

never_limits : (n : ℕ) (line : List (List ℕ)) → Bounded n (limits_line line)
never_limits n (t ∷ e ∷ r ∷ c ∷ []) =
    bounded_read n (number t) _ (λ _ _. bounded_read n (number e) _ (λ _ _. bounded_read n (number r) _ (λ _ _. bounded_read n (number c) _ (λ _ _ name command s. absurd s))))
never_limits n [] = λ name command s. absurd s
never_limits n (a ∷ []) = λ name command s. absurd s
never_limits n (a ∷ b ∷ []) = λ name command s. absurd s
never_limits n (a ∷ b ∷ d ∷ []) = λ name command s. absurd s
never_limits n (a ∷ b ∷ d ∷ e ∷ f ∷ line) = λ name command s. absurd s

never_now : (n : ℕ) (line : List (List ℕ)) → Bounded n (now_line line)
never_now n (time ∷ []) = bounded_read n (moment time) _ (λ _ _ name command s. absurd s)
never_now n [] = λ name command s. absurd s
never_now n (a ∷ b ∷ line) = λ name command s. absurd s

never_station : (n : ℕ) (line : List (List ℕ)) → Bounded n (station_line line)
never_station n (site ∷ station ∷ []) = bounded_read n (name site) _ (λ _ _. bounded_read n (name station) _ (λ _ _ name command s. absurd s))
never_station n [] = λ name command s. absurd s
never_station n (a ∷ []) = λ name command s. absurd s
never_station n (a ∷ b ∷ d ∷ line) = λ name command s. absurd s

never_period : (n : ℕ) (line : List (List ℕ)) → Bounded n (period_line line)
never_period n (site ∷ seconds ∷ []) = bounded_read n (name site) _ (λ _ _. bounded_read n (number seconds) _ (λ _ _ name command s. absurd s))
never_period n [] = λ name command s. absurd s
never_period n (a ∷ []) = λ name command s. absurd s
never_period n (a ∷ b ∷ d ∷ line) = λ name command s. absurd s

never_order : (n : ℕ) (line : List (List ℕ)) → Bounded n (order_line line)
never_order n (site ∷ word ∷ []) = bounded_read n (name site) _ (λ _ _. bounded_read n (order_word word) _ (λ _ _ name command s. absurd s))
never_order n [] = λ name command s. absurd s
never_order n (a ∷ []) = λ name command s. absurd s
never_order n (a ∷ b ∷ d ∷ line) = λ name command s. absurd s

never_settle : (n : ℕ) (line : List (List ℕ)) → Bounded n (settle_line line)
never_settle n (site ∷ word ∷ []) = bounded_read n (name site) _ (λ _ _. bounded_read n (settle_word word) _ (λ _ _ name command s. absurd s))
never_settle n [] = λ name command s. absurd s
never_settle n (a ∷ []) = λ name command s. absurd s
never_settle n (a ∷ b ∷ d ∷ line) = λ name command s. absurd s

never_list : (n : ℕ) (what : TxList) (line : List (List ℕ)) → Bounded n (list_line what line)
never_list n what (station ∷ tx ∷ []) = bounded_read n (name station) _ (λ _ _. bounded_read n (tx_id tx) _ (λ _ _ name command s. absurd s))
never_list n what [] = λ name command s. absurd s
never_list n what (a ∷ []) = λ name command s. absurd s
never_list n what (a ∷ b ∷ d ∷ line) = λ name command s. absurd s

never_question : (n : ℕ) (asks : List ℕ → LineMeaning) → ((place : List ℕ) → Bounded n (asks place)) → (line : List (List ℕ)) → Bounded n (question_line asks line)
never_question n asks all (place ∷ []) = bounded_read n (name place) _ (λ x _. all x)
never_question n asks all [] = λ name command s. absurd s
never_question n asks all (a ∷ b ∷ line) = λ name command s. absurd s

-- ---- words

-- Two words with a blank between them are the text.
pub parted_is : (text : List ℕ) (words : List ℕ × List ℕ) → parted text ≡ Some words → text ≡ words.0 ++ 32 ∷ words.1
parted_is text words e = at (nat_lt (position_or_len is_space text) (length text)) refl e
  where
    pair : List ℕ × List ℕ
    pair = (before_first is_space text, after_first is_space text)

    at : (b : Bool) → nat_lt (position_or_len is_space text) (length text) ≡ b → cond b (Some pair) None ≡ Some words → text ≡ words.0 ++ 32 ∷ words.1
    at false is f = cc f
    at true is f =
        let within : position_or_len is_space text < length text = grind (arith, nat_tests, is) in
        let space : get_or text (position_or_len is_space text) 0 ≡ 32 = eqb-true (get_or text (position_or_len is_space text) 0) 32 (passes_at_first is_space text 0 within) in
        let same : pair ≡ words = cc f in
        split_at_first is_space text 0 within
        ∙ ap (λ b. before_first is_space text ++ b ∷ after_first is_space text) space
        ∙ ap (λ (p : List ℕ × List ℕ). p.0 ++ 32 ∷ p.1) same

long_both : (text : List ℕ) (words : List ℕ × List ℕ) → parted text ≡ Some words → length text ≡ length words.0 + suc (length words.1)
long_both text words e = ap length (parted_is text words e) ∙ length-append words.0 (32 ∷ words.1)

-- What holds of words where it holds of what they are parted from.
parted_so : (P : List (List ℕ) → Type 0) (n : ℕ) (text : List ℕ) → P (text ∷ [])
    → ((ends : List ℕ × List ℕ) → parted text ≡ Some ends → P (ends.0 ∷ words (suc n) ends.1)) → P (words (suc (suc n)) text)
parted_so P n text whole cut = at (parted text) refl
  where
    at : (o : Option (List ℕ × List ℕ)) → parted text ≡ o → P (option_map_or (λ ends. ends.0 ∷ words (suc n) ends.1) o (text ∷ []))
    at None e = whole
    at (Some ends) e = cut ends e

given : {A : Type 0} (t : Bool) (x y : A) → cond t (Some x) None ≡ Some y → (t ≡ true) × (x ≡ y)
given true x y e = let same : x ≡ y = cc in (refl, same)
given false x y e = absurd (cc e)

short_name : (word n : List ℕ) → name word ≡ Some n → length word ≤ 48
short_name word n e =
    let is = given (is_name word) word n e in
    let sized = and_parts (nat_lt 0 (length word) && nat_le (length word) most_name_characters) (list_all is_name_character word) is.0 in
    leb-true (length word) most_name_characters (and_parts (nat_lt 0 (length word)) (nat_le (length word) most_name_characters) sized.0).1

short_id : (word : List ℕ) → is_tx_id word ≡ true → length word ≤ 36
short_id word is =
    let sized = and_parts (nat_lt 0 (length word) && nat_le (length word) most_id_characters) (list_all is_visible word) is in
    leb-true (length word) most_id_characters (and_parts (nat_lt 0 (length word)) (nat_le (length word) most_id_characters) sized.0).1

-- ---- numbers

-- Each digit behind a number multiplies it by ten.
grows : (n : ℕ) (ds : List ℕ) → n * 10 ^ length ds ≤ digits_value_after 10 n ds
grows n [] = omega arith
grows n (c ∷ cs) =
    let later = grows (n * 10 + digit_value c) cs in
    let one_more : suc (length cs) ≡ 1 + length cs = omega arith in
    let tens : n * 10 ^ length (c ∷ cs) ≡ n * (10 * 10 ^ length cs) = ap (λ k. n * 10 ^ k) one_more ∙ ap (λ p. n * p) (pow-add 10 1 (length cs)) in
    let more : 10 ^ length cs * (n * 10) ≤ 10 ^ length cs * (n * 10 + digit_value c) = mul-le-mul_left (10 ^ length cs) (omega arith) in
    omega (arith, later, more, tens)

few_behind : (d : ℕ) (ds : List ℕ) → 1 ≤ digit_value d → digits_value 10 (d ∷ ds) < 2 ^ 64 → length ds ≤ 19
few_behind d ds some small =
    elim (cases_lt 19 (length ds)) [
      | inl many ↦
          let first_digit : 0 * 10 + digit_value d ≡ digit_value d = omega arith in
          let same : digits_value 10 (d ∷ ds) ≡ digits_value_after 10 (digit_value d) ds = ap (λ n. digits_value_after 10 n ds) first_digit in
          let all = grows (digit_value d) ds in
          let some_ten : 0 < 10 = omega arith in
          let le : 20 ≤ length ds = omega (arith, many) in
          let big : 10 ^ 20 ≤ 10 ^ length ds = pow-le-pow_right some_ten le in
          let first : 10 ^ length ds * 1 ≤ 10 ^ length ds * digit_value d = mul-le-mul_left (10 ^ length ds) some in
          absurd (omega (arith, all, big, first, small, same))
      | inr few ↦ few
    ]

digit_from : (c : ℕ) → is_ascii_digit c ≡ true → digit_value c + 48 ≡ c
digit_from c is = digit_value_digit c (let low : 48 ≤ c = grind (arith, nat_tests, is) in let high : c ≤ 57 = grind (arith, nat_tests, is) in (low, high))

short_number : (word : List ℕ) (x : ℕ) → number word ≡ Some x → length word ≤ 20
short_number [] x e = omega arith
short_number (d ∷ ds) x e =
    let is = given (is_number (d ∷ ds) && nat_lt (digits_value 10 (d ∷ ds)) (2 ^ 64)) (digits_value 10 (d ∷ ds)) x e in
    let both = and_parts (is_number (d ∷ ds)) (nat_lt (digits_value 10 (d ∷ ds)) (2 ^ 64)) is.0 in
    let small = ltb-true (digits_value 10 (d ∷ ds)) (2 ^ 64) both.1 in
    let number_is = and_parts (nat_lt 0 (length (d ∷ ds))) (list_all is_ascii_digit (d ∷ ds) && (not (slice_index (d ∷ ds) 0 == 48) || length (d ∷ ds) == 1)) both.0 in
    let digits_are = and_parts (list_all is_ascii_digit (d ∷ ds)) (not (slice_index (d ∷ ds) 0 == 48) || length (d ∷ ds) == 1) number_is.1 in
    let digit = digit_from d (and_parts (is_ascii_digit d) (list_all is_ascii_digit ds) digits_are.0).0 in
    at (d == 48) refl (length (d ∷ ds) == 1) refl digits_are.1 digit small
  where
    at : (z : Bool) → (d == 48) ≡ z → (one : Bool) → (length (d ∷ ds) == 1) ≡ one → (not z || one) ≡ true → digit_value d + 48 ≡ d → digits_value 10 (d ∷ ds) < 2 ^ 64 → length (d ∷ ds) ≤ 20
    at z zero_is true one_is e digit small = let one = eqb-true (length (d ∷ ds)) 1 one_is in omega (arith, one)
    at true zero_is false one_is e digit small = absurd (cc e)
    at false zero_is false one_is e digit small =
        let other : d ≢ 48 = grind (arith, nat_tests, zero_is) in
        let few = few_behind d ds (omega (arith, digit, other)) small in
        omega (arith, few)

-- ---- lines that ask for a command

abbrev IsReady : Frame → Type 0
IsReady (Called id action payload) = ⊥
IsReady Silence = ⊥
IsReady (Ready reply) = ⊤

ready : (text : List ℕ) → nat_lt longest_message (length text) ≡ true → IsReady (frame text)
ready text is = rw is tt

no_event : (f : Frame) (id : List ℕ) (r : Request) → IsReady f → meaning_of 0 f ≡ Event id r → ⊥
no_event (Called id' action payload) id r is e = is
no_event Silence id r is e = is
no_event (Ready reply) id r is e = cc e

-- A message's text is no longer than a message may be.
short_text : (text : List ℕ) (command : Command) → AsksFor text command → length text ≤ longest_message
short_text text command asks = at (nat_lt longest_message (length text)) refl
  where
    at : (long : Bool) → nat_lt longest_message (length text) ≡ long → length text ≤ longest_message
    at true is = absurd (no_event (frame text) asks.id asks.request (ready text is) (asks.means 0))
    at false is = grind (arith, nat_tests, is)

bounded_msg : (n : ℕ) (rest : List ℕ) → n ≤ 8 + length rest → Bounded n (msg_line (words 2 rest))
bounded_msg n rest le = parted_so (λ line. Bounded n (msg_line line)) zero rest (λ name command s. absurd s) (λ ends e.
    bounded_read n (name ends.0) _ (λ at is own command says.
    let long = long_both rest ends e in
    let first = short_name ends.0 at is in
    let text = short_text ends.1 command says.1 in
    omega (arith, le, long, first, text)))

bounded_deliver : (n : ℕ) (rest : List ℕ) → n ≤ 8 + length rest → Bounded n (deliver_line (words 2 rest))
bounded_deliver n rest le = parted_so (λ line. Bounded n (deliver_line line)) zero rest (λ name command s. absurd s) (λ ends e.
    bounded_read n (name ends.0) _ (λ at is own command says.
    let long = long_both rest ends e in
    let first = short_name ends.0 at is in
    let text = short_text ends.1 command says.1 in
    omega (arith, le, long, first, text)))

bounded_command : (n : ℕ) (what : Operation) (rest : List ℕ) → n ≤ 8 + length rest → Bounded n (command_line what (words 3 rest))
bounded_command n what rest le = parted_so (λ line. Bounded n (command_line what line)) 1 rest (λ name command s. absurd s) (λ ends e.
    parted_so (λ line. Bounded n (command_line what (ends.0 ∷ line))) zero ends.1 (λ name command s. absurd s) (λ last f.
    bounded_read n (name ends.0) _ (λ at is.
    bounded_read n (number last.1) _ (λ seq counted.
    bounded_read n (key last.0 seq) _ (λ k keyed own command says.
    let long = long_both rest ends e in
    let longer = long_both ends.1 last f in
    let first = short_name ends.0 at is in
    let third = short_number last.1 seq counted in
    let id = short_id last.0 (and_parts (is_tx_id last.0) (nat_lt seq sequence_end) (given (is_tx_id last.0 && nat_lt seq sequence_end) (record { tx = folded last.0; seq = seq }) k keyed).0).0 in
    omega (arith, le, long, longer, first, third, id))))))

-- The first word, if it is this one, has its length.
word_long : (word this : List ℕ) → bytes_eq word this ≡ true → length word ≡ length this
word_long word this e = ap length ((bytes_eq-Decides word this).0 e)

bounded_first : (n : ℕ) (line : List ℕ × List ℕ) → n ≡ length line.0 + suc (length line.1) → Bounded n (by_first_word line)
bounded_first n line is =
    let word = line.0 in
    let rest = line.1 in
    bounded_if n (bytes_eq word (codes "msg")) _ _ (λ e. let long = word_long word (codes "msg") e in bounded_msg n rest (omega (arith, is, long)))
    (λ _. bounded_if n (bytes_eq word (codes "deliver")) _ _ (λ e. let long = word_long word (codes "deliver") e in bounded_deliver n rest (omega (arith, is, long)))
    (λ _. bounded_if n (bytes_eq word (codes "asks")) _ _ (λ _ name command s. absurd s)
    (λ _. bounded_if n (bytes_eq word (codes "station")) _ _ (λ _. never_station n (words 2 rest))
    (λ _. bounded_if n (bytes_eq word (codes "limits")) _ _ (λ _. never_limits n (words 4 rest))
    (λ _. bounded_if n (bytes_eq word (codes "period")) _ _ (λ _. never_period n (words 2 rest))
    (λ _. bounded_if n (bytes_eq word (codes "order")) _ _ (λ _. never_order n (words 2 rest))
    (λ _. bounded_if n (bytes_eq word (codes "settle")) _ _ (λ _. never_settle n (words 2 rest))
    (λ _. bounded_if n (bytes_eq word (codes "now")) _ _ (λ _. never_now n (words 2 rest))
    (λ _. bounded_if n (bytes_eq word (codes "energy")) _ _ (λ _. never_question n asks_energy (λ _ name command s. absurd s) (words 1 rest))
    (λ _. bounded_if n (bytes_eq word (codes "export")) _ _ (λ _. never_question n asks_export (λ _ name command s. absurd s) (words 1 rest))
    (λ _. bounded_if n (bytes_eq word (codes "total")) _ _ (λ _. never_question n asks_total (λ _ name command s. absurd s) (words 1 rest))
    (λ _. bounded_if n (bytes_eq word (codes "board")) _ _ (λ _. never_question n asks_board (λ _ name command s. absurd s) (words 1 rest))
    (λ _. bounded_if n (bytes_eq word (codes "events")) _ _ (λ _. never_list n Events (words 2 rest))
    (λ _. bounded_if n (bytes_eq word (codes "readings")) _ _ (λ _. never_list n Readings (words 2 rest))
    (λ _. bounded_if n (bytes_eq word (codes "mark")) _ _ (λ _. never_question n marks (λ _ name command s. absurd s) (words 1 rest))
    (λ _. bounded_if n (bytes_eq word (codes "void")) _ _ (λ e. let long = word_long word (codes "void") e in bounded_command n operation.Void rest (omega (arith, is, long)))
    (λ _. bounded_if n (bytes_eq word (codes "restore")) _ _ (λ e. let long = word_long word (codes "restore") e in bounded_command n operation.Restore rest (omega (arith, is, long)))
    (λ _. bounded_if n (bytes_eq word (codes "erase")) _ _ (λ e. let long = word_long word (codes "erase") e in bounded_command n operation.Erase rest (omega (arith, is, long)))
    (λ _ name command s. absurd s)))))))))))))))))))

bounded_parted : (text : List ℕ) (o : Option (List ℕ × List ℕ)) → parted text ≡ o → Bounded (length text) (o >>= by_first_word)
bounded_parted text None e = λ name command s. absurd s
bounded_parted text (Some line) e = bounded_first (length text) line (long_both text line e)

bounded_bytes : (text : List ℕ) → Bounded (length text) (by_bytes text)
bounded_bytes [] = λ name command s. absurd s
bounded_bytes (b ∷ text) =
    bounded_if (length (b ∷ text)) (b == 35) nothing (by_words (b ∷ text)) (λ _ name command s. absurd s)
    (λ _. bounded_if (length (b ∷ text)) (is_utf8 (b ∷ text)) (parted (b ∷ text) >>= by_first_word) (fails BadLine) (λ _. bounded_parted (b ∷ text) (parted (b ∷ text)) refl)
    (λ _ name command s. absurd s))

pub short_line : (name line : List ℕ) (command : Command) → Speaks name line command → length line ≤ longest_spoken
short_line name line command speaks = bounded_bytes line name command speaks.says
