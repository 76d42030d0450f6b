-- What a line that was written, or its front, adds to the text of a journal's entries.
use Rattle.std.{proofs.Common.{◌≡◌, ◌≢◌, ℕ, Bool, true, false, true≢false, List, [], ◌∷◌, ◌++◌, Option, Some, None, inl, refl, ap, sym, ◌∙◌, subst, append_assoc, append-nil}, specs.Io.KnownBytes.{Appends, append_known}, proofs.lemmas.List.Elements.{All-nil, All-push}, proofs.KnownBytes.{Appends-nil, Appends-trans}}
use Rattle.kept_desk.{specs.declared.entry.Entry.Entry, specs.Entries.{IsNote, entry, entry_text, line_text, text_of}, specs.Journal.{BeginsLine, IsWritten}}
use Rattle.ledger_model.specs.declared.command.Command.{Command}
use Rattle.script_lines.specs.Lines.{HasNoFeed}

-- the text with one entry more
text_push : (log : List Entry) (e : Entry) → text_of (log ++ e ∷ []) ≡ text_of log ++ entry_text e
text_push [] e = append-nil (entry_text e)
text_push (x ∷ log) e = ap (λ t. entry_text x ++ t) (text_push log e) ∙ sym (append_assoc (entry_text x) (text_of log) (entry_text e))

-- the text of a journal that is not broken is all that was written
whole_text : (broken : Bool) (before now : Option (List ℕ)) (buffer : List ℕ) (log : List Entry) → broken ≡ false → IsWritten broken before now buffer log
    → Appends before (append_known now buffer) (text_of log)
whole_text broken before now buffer log is w = subst (Appends before (append_known now buffer)) (ap (λ f. text_of log ++ f) (w.whole is) ∙ append-nil (text_of log)) w.appended

-- nothing is left in the buffer
append_none : (now : Option (List ℕ)) → append_known now [] ≡ now
append_none None = refl
append_none (Some bytes) = ap Some (append-nil bytes)

-- where nothing failed, the writer behind the buffer took the text
pub taken : (broken : Bool) (before now : Option (List ℕ)) (buffer : List ℕ) (log : List Entry) → broken ≡ false → IsWritten broken before now buffer log → Appends before now (text_of log)
taken broken before now buffer log is w =
    subst (λ n. Appends before n (text_of log)) (ap (append_known now) (w.handed_on is) ∙ append_none now) (whole_text broken before now buffer log is w)

-- no bytes begin each line
no_line : BeginsLine []
no_line = record { note = []; line = []; rest = line_text []; is_note = inl refl; no_feed = All-nil (λ b. b ≢ 10); is = refl }

-- a write that failed
pub cut : (broken : Bool) (before now next : Option (List ℕ)) (buffer left : List ℕ) (log : List Entry) (note line : List ℕ)
    → IsNote note → HasNoFeed line → broken ≡ false → IsWritten broken before now buffer log
    → (written : List ℕ) × Appends (append_known now buffer) (append_known next left) written × ((rest : List ℕ) × (note ++ line_text line ≡ written ++ rest)) → IsWritten true before next left log
cut broken before now next buffer left log note line may plain is w f = record {
  front = f.0;
  begins = record { note = note; line = line; rest = f.2.0; is_note = may; no_feed = plain; is = f.2.1 };
  notes = w.notes;
  lines = w.lines;
  whole = λ e. absurd (on e);
  handed_on = λ e. absurd (on e);
  appended = Appends-trans before (append_known now buffer) (append_known next left) (text_of log) f.0 (whole_text broken before now buffer log is w) f.1;
}
  where
    on : true ≡ false → ⊥
    on e = true≢false e

-- a line that was written
pub added : (broken : Bool) (before now next : Option (List ℕ)) (buffer left : List ℕ) (log : List Entry) (station : ℕ) (note line : List ℕ) (command : Command)
    → IsNote note → HasNoFeed line → broken ≡ false → IsWritten broken before now buffer log
    → (written : List ℕ) × Appends (append_known now buffer) (append_known next left) written × (written ≡ note ++ line_text line)
    → left ≡ [] → IsWritten false before next left (log ++ entry station note line command ∷ [])
added broken before now next buffer left log station note line command may plain is w f empty =
    let all = log ++ entry station note line command ∷ [] in
    let text : text_of log ++ f.0 ≡ text_of all ++ [] = ap (λ t. text_of log ++ t) f.2 ∙ sym (text_push log (entry station note line command)) ∙ sym (append-nil (text_of all)) in
    record {
      front = [];
      begins = no_line;
      notes = All-push (λ (e : Entry). IsNote e.note) log (entry station note line command) w.notes may;
      lines = All-push (λ (e : Entry). HasNoFeed e.line) log (entry station note line command) w.lines plain;
      whole = λ _. refl;
      handed_on = λ _. empty;
      appended = subst (Appends before (append_known next left)) text
          (Appends-trans before (append_known now buffer) (append_known next left) (text_of log) f.0 (whole_text broken before now buffer log is w) f.1);
    }

-- before any line
pub none : (before now : Option (List ℕ)) (buffer : List ℕ) (log : List Entry) → now ≡ before → buffer ≡ [] → log ≡ [] → IsWritten false before now buffer log
none before now buffer log same drained empty = subst (IsWritten false before now buffer) (sym empty) (record {
  front = [];
  begins = no_line;
  notes = All-nil (λ (e : Entry). IsNote e.note);
  lines = All-nil (λ (e : Entry). HasNoFeed e.line);
  whole = λ _. refl;
  handed_on = λ _. drained;
  appended = subst (λ n. Appends before n []) (sym (ap (append_known now) drained ∙ append_none now ∙ same)) (Appends-nil before);
})
