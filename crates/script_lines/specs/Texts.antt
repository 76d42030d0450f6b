-- The lines that answer a script's lines (this product's profile).
use Rattle.std.{specs.Prelude.{ℕ, List, [], ◌∷◌, ◌++◌, codes}, specs.Fmt.decimal}
use Rattle.ledger_model.{specs.declared.answer.Answer.Answer, specs.declared.answer.Answer.TheVariants.{Accepted, Repeat, Refused}, specs.Refusal.refusal_name}
use Rattle.script_lines.{specs.declared.script_line.LineFault.LineFault, specs.LineMeaning.fault_name}

-- a line with this text
abbrev pub ended_line : List ℕ → List ℕ
ended_line text = text ++ 10 ∷ []

-- `fault <name>`
abbrev pub fault_line : LineFault → List ℕ
fault_line fault = codes "fault " ++ (fault_name fault ++ 10 ∷ [])

-- `accepted <n>` or `refused <name>`; an operator's command never gets Repeat
abbrev pub answer_text : Answer → List ℕ
answer_text (Accepted n) = codes "accepted " ++ decimal n
answer_text Repeat = codes "repeat"
answer_text (Refused why) = codes "refused " ++ refusal_name why

-- `accepted <n> <reply>`, `repeat <reply>` or `refused <name> <reply>`
abbrev pub delivered_line : Answer → List ℕ → List ℕ
delivered_line answer reply = ended_line (answer_text answer ++ 32 ∷ reply)

-- `reply <reply>`
abbrev pub reply_line : List ℕ → List ℕ
reply_line reply = ended_line (codes "reply " ++ reply)
