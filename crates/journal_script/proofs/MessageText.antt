-- What the line of a message says.
use Rattle.std.{proofs.Common.{◌≡◌, ◌≢◌, ℕ, ◌≤◌, true, false, ◌==◌, ◌+◌, ◌-◌, List, [], ◌∷◌, ◌++◌, Some, length, get_or, refl, sym, ap, subst, ◌∙◌, arith, length-append, Result, Ok, Err, IfOk}, specs.Prelude.codes, specs.Io.BufRead.strip_last, specs.List.list_all, specs.Str.IsUtf8, proofs.lemmas.Bool.false≢true, proofs.lemmas.List.Elements.{All-append, All-cons, All-nil}, proofs.lemmas.List.Sums.AllPass-from_list_all}
use Rattle.kept_desk.{specs.Entries.message_text, specs.Speaking.{AsksFor, Says, Speaks}, proofs.Written.short_name}
use Rattle.ledger_model.{specs.Name.is_name, specs.declared.command.Command.Command}
use Rattle.script_lines.{specs.LineMeaning.{line_meaning, sends}, specs.Lines.HasNoFeed, specs.Ranges.longest_line, proofs.MessageLines.{is_word_byte, msg_says, name_word}}
use Rattle.journal_script.{specs.Speaking.StandsAsItIs, proofs.LastByte.{keeps_last, kept_last, last, last_behind}}

word_feedless : (word : List ℕ) → list_all is_word_byte word ≡ true → HasNoFeed word
word_feedless word h = λ k d within e. let plain : is_word_byte (get_or word k d) ≡ true = AllPass-from_list_all is_word_byte word h k d within in false≢true (ap is_word_byte (sym e) ∙ plain)

space_feedless : HasNoFeed (32 ∷ [])
space_feedless = All-cons (λ b. b ≢ 10) 32 [] (λ e. cc e) (All-nil (λ b. b ≢ 10))

-- the line is in a script as it is
pub stands_in_script : (name text : List ℕ) → StandsAsItIs name text
    → HasNoFeed (message_text name text) × (strip_last 13 (message_text name text) ≡ message_text name text) × (length (message_text name text) ≤ longest_line)
stands_in_script name text stands =
    let feedless = λ (b : ℕ). b ≢ 10 in (
      All-append feedless (codes "msg ") (name ++ 32 ∷ text) (All-append feedless (codes "msg") (32 ∷ []) (word_feedless (codes "msg") refl) space_feedless)
          (All-append feedless name (32 ∷ text) (word_feedless name (name_word name stands.named)) (All-append feedless (32 ∷ []) text space_feedless stands.feedless)),
      keeps_last 109 (115 ∷ 103 ∷ 32 ∷ (name ++ 32 ∷ text)) (ap (λ b. b == 13) (last_behind 32 name 32 text) ∙ no_return text stands.bare),
      stands.short,
    )
  where
    no_return : (bytes : List ℕ) → strip_last 13 bytes ≡ bytes → (last 32 bytes == 13) ≡ false
    no_return [] bare = refl
    no_return (x ∷ xs) bare = kept_last x xs bare

pub line_stands : (name text line : List ℕ) → line ≡ message_text name text → StandsAsItIs name text → HasNoFeed line × (strip_last 13 line ≡ line) × (length line ≤ longest_line)
line_stands name text line is stands = subst (λ l. HasNoFeed l × (strip_last 13 l ≡ l) × (length l ≤ longest_line)) (sym is) (stands_in_script name text stands)

-- a line of a message that is one line speaks for what its text asks for
pub line_speaks : (name text line bytes : List ℕ) (command : Command) → bytes ≡ line → line ≡ message_text name text
    → is_name name ≡ true → IsUtf8 text → HasNoFeed bytes → strip_last 13 bytes ≡ bytes → length bytes ≤ longest_line
    → AsksFor text command → Speaks name line command
line_speaks name text line bytes command same is named utf8 feedless bare short asks =
    let says : line_meaning (Some bytes) ≡ sends name text = ap (λ l. line_meaning (Some l)) (same ∙ is) ∙ msg_says name text utf8 named in
    subst (λ l. Speaks name l command) same (record { feedless = feedless; bare = bare; short = short; says = subst (λ m. Says m name command) (sym says) (refl, asks) })

-- how long a message's line is
line_length : (name text : List ℕ) → length (message_text name text) ≡ length name + length text + 5
line_length name text = omega (arith, length-append name (32 ∷ text))

-- a text that is short, bare and without line feeds stands in a script as it is
pub stands_by_parts : (name text : List ℕ) → is_name name ≡ true → length text ≤ longest_line - 5 - length name → strip_last 13 text ≡ text → HasNoFeed text → StandsAsItIs name text
stands_by_parts name text named short bare feedless = record {
  named = named;
  feedless = feedless;
  bare = bare;
  short = omega (arith, line_length name text, short, short_name name named);
}

pub stands_short : (name text : List ℕ) → StandsAsItIs name text → length text ≤ longest_line - 5 - length name
stands_short name text stands = omega (arith, line_length name text, stands.short)

-- what cannot be asked of a result is kept by it
pub never_asked : {A E : Type 0} (S : Type 0) (P : A → Type 0) (r : Result A E) → (S → ⊥) → IfOk r (λ a. S → P a)
never_asked S P (Ok a) never = λ s. absurd (never s)
never_asked S P (Err e) never = tt
