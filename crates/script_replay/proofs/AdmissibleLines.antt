-- The commands that lines ask are admissible.
use Rattle.std.{proofs.Common.{◌≡◌, ℕ, Bool, true, false, cond, List, [], ◌∷◌, Option, None, Some, ltb-true, refl}, specs.Prelude.{◌&&◌, ◌==◌, nat_lt, codes}, specs.Str.{bytes_eq, is_utf8}, proofs.lemmas.Bool.and_parts}
use Rattle.ledger_model.{specs.Admissible.IsAdmissible, specs.Key.{KeyName, IsKeyName}, specs.Ranges.sequence_end, specs.TxId.{is_tx_id, folded}, proofs.Ids.IsFoldedId-folded}
use Rattle.script_lines.{specs.declared.script_line.LineFault.TheVariants.BadLine, specs.declared.script_line.Operation.Operation, specs.declared.script_line.TxList.TxList, specs.declared.script_line.TxList.TheVariants.{Events, Readings}, specs.Lines.Line, specs.LineMeaning.{LineMeaning, ◌>>=◌, nothing, fails, sets_limits, declares, sets_period, sets_order, sets_settle, tells, sends, delivers, commands, asks_energy, asks_export, asks_total, asks_board, lists, asks_meaning, marks, by_bytes, by_first_word, by_words, command_line, command_of, deliver_line, key, list_line, tx_id, limits_line, line_meaning, moment, msg_line, name, now_line, number, order_line, order_word, settle_line, settle_word, parted, period_line, question_line, station_line, words}}
use Rattle.script_lines.specs.declared.script_line.Operation.TheVariants as operation

-- a command that the line asks is admissible
abbrev pub IsFine : LineMeaning → Type 0
IsFine nothing = Unit {0}
IsFine (fails _) = Unit {0}
IsFine (sets_limits _ _ _ _) = Unit {0}
IsFine (declares _ _) = Unit {0}
IsFine (sets_period _ _) = Unit {0}
IsFine (sets_order _ _) = Unit {0}
IsFine (sets_settle _ _) = Unit {0}
IsFine (tells _) = Unit {0}
IsFine (sends _ _) = Unit {0}
IsFine (delivers _ _) = Unit {0}
IsFine (commands name command) = IsAdmissible command
IsFine (asks_energy _) = Unit {0}
IsFine (asks_export _) = Unit {0}
IsFine (asks_total _) = Unit {0}
IsFine (asks_board _) = Unit {0}
IsFine (lists _ _ _) = Unit {0}
IsFine (asks_meaning _) = Unit {0}
IsFine (marks _) = Unit {0}

either : (b : Bool) (x y : LineMeaning) → IsFine x → IsFine y → IsFine (cond b x y)
either true x y a c = a
either false x y a c = c

-- a line that goes on from what a word is read as
reads : {A : Type 0} (word : Option A) (says : A → LineMeaning) → ((x : A) → IsFine (says x)) → IsFine (word >>= says)
reads None says all = tt
reads (Some x) says all = all x

fine_limits : (line : List (List ℕ)) → IsFine (limits_line line)
fine_limits (t ∷ e ∷ r ∷ c ∷ []) = reads (number t) _ (λ _. reads (number e) _ (λ _. reads (number r) _ (λ _. reads (number c) _ (λ _. tt))))
fine_limits _ = tt

fine_station : (line : List (List ℕ)) → IsFine (station_line line)
fine_station (site ∷ station ∷ []) = reads (name site) _ (λ _. reads (name station) _ (λ _. tt))
fine_station _ = tt

fine_period : (line : List (List ℕ)) → IsFine (period_line line)
fine_period (site ∷ seconds ∷ []) = reads (name site) _ (λ _. reads (number seconds) _ (λ _. tt))
fine_period _ = tt

fine_order : (line : List (List ℕ)) → IsFine (order_line line)
fine_order (site ∷ word ∷ []) = reads (name site) _ (λ _. reads (order_word word) _ (λ _. tt))
fine_order _ = tt

fine_settle : (line : List (List ℕ)) → IsFine (settle_line line)
fine_settle (site ∷ word ∷ []) = reads (name site) _ (λ _. reads (settle_word word) _ (λ _. tt))
fine_settle _ = tt

fine_now : (line : List (List ℕ)) → IsFine (now_line line)
fine_now (time ∷ []) = reads (moment time) _ (λ _. tt)
fine_now _ = tt

fine_msg : (line : List (List ℕ)) → IsFine (msg_line line)
fine_msg (station ∷ text ∷ []) = reads (name station) _ (λ _. tt)
fine_msg _ = tt

fine_deliver : (line : List (List ℕ)) → IsFine (deliver_line line)
fine_deliver (station ∷ text ∷ []) = reads (name station) _ (λ _. tt)
fine_deliver _ = tt

fine_question : (asks : List ℕ → LineMeaning) → ((place : List ℕ) → IsFine (asks place)) → (line : List (List ℕ)) → IsFine (question_line asks line)
fine_question asks all (place ∷ []) = reads (name place) _ all
fine_question asks all _ = tt

fine_list : (what : TxList) (line : List (List ℕ)) → IsFine (list_line what line)
fine_list what (station ∷ tx ∷ []) = reads (name station) _ (λ at. reads (tx_id tx) _ (λ id. tt))
fine_list what _ = tt

fine_command_of : (what : Operation) (k : KeyName) → IsKeyName k → IsAdmissible (command_of what k)
fine_command_of operation.Void k is = is
fine_command_of operation.Restore k is = is
fine_command_of operation.Erase k is = is

fine_key : (what : Operation) (station tx : List ℕ) (seq : ℕ) → IsFine (key tx seq >>= (λ k. commands station (command_of what k)))
fine_key what station tx seq = at (is_tx_id tx && nat_lt seq sequence_end) (λ e. e)
  where
    at : (b : Bool) → (b ≡ true → (is_tx_id tx && nat_lt seq sequence_end) ≡ true) → IsFine (cond b (Some (record { tx = folded tx; seq = seq })) None >>= (λ k. commands station (command_of what k)))
    at true is =
        let p = and_parts (is_tx_id tx) (nat_lt seq sequence_end) (is refl) in
        fine_command_of what (record { tx = folded tx; seq = seq }) (record { id = IsFoldedId-folded tx p.0; number = ltb-true _ _ p.1 })
    at false is = tt

fine_command : (what : Operation) (line : List (List ℕ)) → IsFine (command_line what line)
fine_command what (station ∷ tx ∷ seq ∷ []) = reads (name station) _ (λ at. reads (number seq) _ (λ n. fine_key what at tx n))
fine_command what _ = tt

fine_words : (line : List ℕ × List ℕ) → IsFine (by_first_word line)
fine_words (word, rest) =
    either (bytes_eq word (codes "msg")) _ _ (fine_msg (words 2 rest))
    (either (bytes_eq word (codes "deliver")) _ _ (fine_deliver (words 2 rest))
    (either (bytes_eq word (codes "asks")) _ _ tt
    (either (bytes_eq word (codes "station")) _ _ (fine_station (words 2 rest))
    (either (bytes_eq word (codes "limits")) _ _ (fine_limits (words 4 rest))
    (either (bytes_eq word (codes "period")) _ _ (fine_period (words 2 rest))
    (either (bytes_eq word (codes "order")) _ _ (fine_order (words 2 rest))
    (either (bytes_eq word (codes "settle")) _ _ (fine_settle (words 2 rest))
    (either (bytes_eq word (codes "now")) _ _ (fine_now (words 2 rest))
    (either (bytes_eq word (codes "energy")) _ _ (fine_question asks_energy (λ _. tt) (words 1 rest))
    (either (bytes_eq word (codes "export")) _ _ (fine_question asks_export (λ _. tt) (words 1 rest))
    (either (bytes_eq word (codes "total")) _ _ (fine_question asks_total (λ _. tt) (words 1 rest))
    (either (bytes_eq word (codes "board")) _ _ (fine_question asks_board (λ _. tt) (words 1 rest))
    (either (bytes_eq word (codes "events")) _ _ (fine_list Events (words 2 rest))
    (either (bytes_eq word (codes "readings")) _ _ (fine_list Readings (words 2 rest))
    (either (bytes_eq word (codes "mark")) _ _ (fine_question marks (λ _. tt) (words 1 rest))
    (either (bytes_eq word (codes "void")) _ _ (fine_command operation.Void (words 3 rest))
    (either (bytes_eq word (codes "restore")) _ _ (fine_command operation.Restore (words 3 rest))
    (either (bytes_eq word (codes "erase")) _ _ (fine_command operation.Erase (words 3 rest)) tt))))))))))))))))))

fine_bytes : (bytes : List ℕ) → IsFine (by_bytes bytes)
fine_bytes [] = tt
fine_bytes (b ∷ bs) =
    either (b == 35) nothing (by_words (b ∷ bs)) tt
    (either (is_utf8 (b ∷ bs)) (parted (b ∷ bs) >>= by_first_word) (fails BadLine) (reads (parted (b ∷ bs)) by_first_word fine_words) tt)

pub fine_line : (line : Line) → IsFine (line_meaning line)
fine_line None = tt
fine_line (Some bytes) = fine_bytes bytes
