-- What a line of a script says (this product's profile).
use Rattle.std.{specs.Prelude.{ℕ, suc, Bool, not, ◌&&◌, ◌||◌, ◌==◌, ◌^◌, nat_lt, List, [], ◌∷◌, length, codes, slice_index, if◌then◌else◌, Option, None, Some}, specs.Char.is_ascii_digit, specs.List.{list_all, position_or_len, before_first, after_first}, specs.Option.option_map_or, specs.Result.result_ok, specs.Str.{bytes_eq, is_utf8}, specs.Str.Parse.digits_value}
use Rattle.ledger_model.{specs.declared.command.Command.Command, specs.declared.command.Command.TheVariants.{Void, Restore, Erase}, specs.declared.order.Order.Order, specs.declared.order.Order.TheVariants.{Sequence, Moment}, specs.declared.settle.Settle.Settle, specs.declared.settle.Settle.TheVariants.{Later, Closing, Even}, specs.Key.KeyName, specs.Name.is_name, specs.Ranges.sequence_end, specs.TxId.{is_tx_id, folded}}
use Rattle.reading_decimal.specs.Moment.{moment_reading}
use Rattle.script_lines.{specs.declared.script_line.LineFault.LineFault, specs.declared.script_line.LineFault.TheVariants.{LineTooLong, BadLine, DeclaredLate, PlanLimit, StationTwice, UnknownStation, UnknownSite, UnknownTransaction}, specs.declared.script_line.Operation.Operation, specs.declared.script_line.TxList.TxList, specs.declared.script_line.TxList.TheVariants.{Events, Readings}, specs.Lines.Line}
use Rattle.script_lines.specs.declared.script_line.Operation.TheVariants as operation

-- what a line says: nothing, a fault, the limits of the stations that follow, a station's declaration, the length of
-- a site's settlement periods, the order of its readings, the rule by which differences count in those periods, a
-- moment, a message of a station, the same with what becomes of it, a command on a station, a question for a station's
-- imported or exported energy or its figures, for a site's board, for a list of a transaction or for what a text asks
-- for, or a mark
pub data LineMeaning : Type 0 where
  nothing : LineMeaning
  fails : LineFault → LineMeaning
  sets_limits : ℕ → ℕ → ℕ → ℕ → LineMeaning
  declares : List ℕ → List ℕ → LineMeaning
  sets_period : List ℕ → ℕ → LineMeaning
  sets_order : List ℕ → Order → LineMeaning
  sets_settle : List ℕ → Settle → LineMeaning
  tells : ℕ → LineMeaning
  sends : List ℕ → List ℕ → LineMeaning
  delivers : List ℕ → List ℕ → LineMeaning
  commands : List ℕ → Command → LineMeaning
  asks_energy : List ℕ → LineMeaning
  asks_export : List ℕ → LineMeaning
  asks_total : List ℕ → LineMeaning
  asks_board : List ℕ → LineMeaning
  lists : TxList → List ℕ → List ℕ → LineMeaning
  asks_meaning : List ℕ → LineMeaning
  marks : List ℕ → LineMeaning

-- ---- words

-- a space
abbrev pub is_space : ℕ → Bool
is_space b = b == 32

-- the bytes before the first space and those after it; None if there is no space
abbrev pub parted : List ℕ → Option (List ℕ × List ℕ)
parted text = if nat_lt (position_or_len is_space text) (length text) then Some (before_first is_space text, after_first is_space text) else None

-- the words of a text, separated by single spaces; there are at most so many, and the last one is all
-- that is left
abbrev pub words : ℕ → List ℕ → List (List ℕ)
words (suc (suc n)) text = option_map_or (λ ends. ends.0 ∷ words (suc n) ends.1) (parted text) (text ∷ [])
words _ text = text ∷ []

-- ---- what words are read as

-- a name
abbrev pub name : List ℕ → Option (List ℕ)
name word = if is_name word then Some word else None

-- a number: `0`, or a digit 1 to 9 with digits after it
abbrev pub is_number : List ℕ → Bool
is_number text = nat_lt 0 (length text) && (list_all is_ascii_digit text && (not (slice_index text 0 == 48) || length text == 1))

-- the number that a word writes, if it is below 2^64
abbrev pub number : List ℕ → Option ℕ
number text = if is_number text && nat_lt (digits_value 10 text) (2 ^ 64) then Some (digits_value 10 text) else None

-- the moment that a word writes
abbrev pub moment : List ℕ → Option ℕ
moment word = result_ok (moment_reading word)

-- the order of readings that a word names
abbrev pub order_word : List ℕ → Option Order
order_word word =
    if bytes_eq word (codes "sequence") then Some Sequence
    else (if bytes_eq word (codes "moment") then Some Moment
    else None)

-- the rule of settling that a word names
abbrev pub settle_word : List ℕ → Option Settle
settle_word word =
    if bytes_eq word (codes "later") then Some Later
    else (if bytes_eq word (codes "closing") then Some Closing
    else (if bytes_eq word (codes "even") then Some Even
    else None))

-- a transaction's id, which is folded
abbrev pub tx_id : List ℕ → Option (List ℕ)
tx_id word = if is_tx_id word then Some (folded word) else None

-- the key of a transaction's id, which is folded, and a sequence number
abbrev pub key : List ℕ → ℕ → Option KeyName
key tx seq = if is_tx_id tx && nat_lt seq sequence_end then Some (record { tx = folded tx; seq = seq }) else None

-- the command of this operation on the event of this key
abbrev pub command_of : Operation → KeyName → Command
command_of operation.Void key = Void key
command_of operation.Restore key = Restore key
command_of operation.Erase key = Erase key

infixl 10 ◌>>=◌
-- in a line, `(← number word)` is the number that the word writes; if it writes none, the line is bad
abbrev pub ◌>>=◌ : {A : Type 0} → Option A → (A → LineMeaning) → LineMeaning
None >>= says = fails BadLine
Some read >>= says = says read

-- ---- the forms of lines, each by the words behind its first one

-- `limits <transactions> <events> <readings> <changes>`
abbrev pub limits_line : List (List ℕ) → LineMeaning
limits_line (transactions ∷ events ∷ readings ∷ changes ∷ []) = do sets_limits (← number transactions) (← number events) (← number readings) (← number changes)
limits_line _ = fails BadLine

-- `station <site> <station>`
abbrev pub station_line : List (List ℕ) → LineMeaning
station_line (site ∷ station ∷ []) = do declares (← name site) (← name station)
station_line _ = fails BadLine

-- `period <site> <seconds>`
abbrev pub period_line : List (List ℕ) → LineMeaning
period_line (site ∷ seconds ∷ []) = do sets_period (← name site) (← number seconds)
period_line _ = fails BadLine

-- `order <site> <word>`
abbrev pub order_line : List (List ℕ) → LineMeaning
order_line (site ∷ word ∷ []) = do sets_order (← name site) (← order_word word)
order_line _ = fails BadLine

-- `settle <site> <word>`
abbrev pub settle_line : List (List ℕ) → LineMeaning
settle_line (site ∷ word ∷ []) = do sets_settle (← name site) (← settle_word word)
settle_line _ = fails BadLine

-- `now <time>`
abbrev pub now_line : List (List ℕ) → LineMeaning
now_line (time ∷ []) = do tells (← moment time)
now_line _ = fails BadLine

-- `msg <station> <text>`
abbrev pub msg_line : List (List ℕ) → LineMeaning
msg_line (station ∷ text ∷ []) = do sends (← name station) text
msg_line _ = fails BadLine

-- `deliver <station> <text>`
abbrev pub deliver_line : List (List ℕ) → LineMeaning
deliver_line (station ∷ text ∷ []) = do delivers (← name station) text
deliver_line _ = fails BadLine

-- `void`, `restore` or `erase` with `<station> <transaction id> <seqNo>`
abbrev pub command_line : Operation → List (List ℕ) → LineMeaning
command_line what (station ∷ tx ∷ seq ∷ []) = do commands (← name station) (command_of what (← key tx (← number seq)))
command_line what _ = fails BadLine

-- `events` or `readings` with `<station> <transaction id>`
abbrev pub list_line : TxList → List (List ℕ) → LineMeaning
list_line what (station ∷ tx ∷ []) = do lists what (← name station) (← tx_id tx)
list_line what _ = fails BadLine

-- `energy`, `export` or `total` with `<station>`, `board <site>`, or `mark <word>`
abbrev pub question_line : (List ℕ → LineMeaning) → List (List ℕ) → LineMeaning
question_line asks (place ∷ []) = do asks (← name place)
question_line asks _ = fails BadLine

-- ---- a line

-- the first word says the form of the line, and how many words follow it: a message's text may have
-- spaces, a time may not; all behind `asks ` is its text, which may be empty
abbrev pub by_first_word : List ℕ × List ℕ → LineMeaning
by_first_word (word, rest) =
    if bytes_eq word (codes "msg") then msg_line (words 2 rest)
    else (if bytes_eq word (codes "deliver") then deliver_line (words 2 rest)
    else (if bytes_eq word (codes "asks") then asks_meaning rest
    else (if bytes_eq word (codes "station") then station_line (words 2 rest)
    else (if bytes_eq word (codes "limits") then limits_line (words 4 rest)
    else (if bytes_eq word (codes "period") then period_line (words 2 rest)
    else (if bytes_eq word (codes "order") then order_line (words 2 rest)
    else (if bytes_eq word (codes "settle") then settle_line (words 2 rest)
    else (if bytes_eq word (codes "now") then now_line (words 2 rest)
    else (if bytes_eq word (codes "energy") then question_line asks_energy (words 1 rest)
    else (if bytes_eq word (codes "export") then question_line asks_export (words 1 rest)
    else (if bytes_eq word (codes "total") then question_line asks_total (words 1 rest)
    else (if bytes_eq word (codes "board") then question_line asks_board (words 1 rest)
    else (if bytes_eq word (codes "events") then list_line Events (words 2 rest)
    else (if bytes_eq word (codes "readings") then list_line Readings (words 2 rest)
    else (if bytes_eq word (codes "mark") then question_line marks (words 1 rest)
    else (if bytes_eq word (codes "void") then command_line operation.Void (words 3 rest)
    else (if bytes_eq word (codes "restore") then command_line operation.Restore (words 3 rest)
    else (if bytes_eq word (codes "erase") then command_line operation.Erase (words 3 rest)
    else fails BadLine))))))))))))))))))

-- a line has a first word, and a space behind it
abbrev pub by_text : List ℕ → LineMeaning
by_text text = parted text >>= by_first_word

-- a line that is no comment has to be a text
abbrev pub by_words : List ℕ → LineMeaning
by_words bytes = if is_utf8 bytes then by_text bytes else fails BadLine

-- an empty line and a comment say nothing, whatever their bytes
abbrev pub by_bytes : List ℕ → LineMeaning
by_bytes [] = nothing
by_bytes (b ∷ bs) = if b == 35 then nothing else by_words (b ∷ bs)

-- what a line says; one that is too long is a fault
abbrev pub line_meaning : Line → LineMeaning
line_meaning None = fails LineTooLong
line_meaning (Some bytes) = by_bytes bytes

-- the name of a fault
abbrev pub fault_name : LineFault → List ℕ
fault_name LineTooLong = codes "LineTooLong"
fault_name BadLine = codes "BadLine"
fault_name DeclaredLate = codes "DeclaredLate"
fault_name PlanLimit = codes "PlanLimit"
fault_name StationTwice = codes "StationTwice"
fault_name UnknownStation = codes "UnknownStation"
fault_name UnknownSite = codes "UnknownSite"
fault_name UnknownTransaction = codes "UnknownTransaction"
