-- What was written of an entry, part by part.
use Rattle.std.{proofs.Common.{◌≡◌, ◌≤◌, ℕ, true, ◌&&◌, nat_lt, nat_le, length, List, ◌∷◌, ◌++◌, Option, Result, Ok, Err, append_assoc, append-nil, sym, ap, ◌∙◌, [], subst}, specs.Io.KnownBytes.{Keeps, Appends}, specs.Prelude.codes, specs.List.list_all, specs.Result.IsErr, proofs.lemmas.Bool.{and_parts, leb-true}, proofs.KnownBytes.{Appends-trans, Appends-kept}}
use Rattle.kept_desk.specs.Entries.{line_text, message_text}
use Rattle.ledger_model.specs.Name.{is_name, is_name_character}
use Rattle.script_lines.specs.Writing.{WritesFront}

-- some bytes were written, and then these or their front
behind : {T E : Type 0} (line end two : List ℕ) (r : Result T E) → WritesFront r end two → WritesFront r (line ++ end) (line ++ two)
behind line end two (Ok x) is = ap (λ l. line ++ l) is
behind line end two (Err x) front = (front.0, ap (λ l. line ++ l) front.1 ∙ sym (append_assoc line two front.0))

pub ended : {T E : Type 0} (line end : List ℕ) (w0 w1 w2 : Option (List ℕ)) (r : Result T E)
    → (one : List ℕ) × Appends w0 w1 one × (one ≡ line)
    → (two : List ℕ) × Appends w1 w2 two × WritesFront r end two
    → (all : List ℕ) × Appends w0 w2 all × WritesFront r (line ++ end) all
ended line end w0 w1 w2 r first second = (
  line ++ second.0,
  Appends-trans w0 w1 w2 line second.0 (subst (Appends w0 w1) first.2 first.1) second.1,
  behind line end second.0 r second.2,
)

-- an error came before all of the first bytes were written
pub cut_short : {T E : Type 0} (line end : List ℕ) (w0 w1 : Option (List ℕ)) (r : Result T E) → IsErr r
    → (one : List ℕ) × Appends w0 w1 one × ((rest : List ℕ) × (line ≡ one ++ rest))
    → (all : List ℕ) × Appends w0 w1 all × WritesFront r (line ++ end) all
cut_short line end w0 w1 (Ok x) failed first = cc
cut_short line end w0 w1 (Err x) failed first = (first.0, first.1, (first.2.0 ++ end, ap (λ l. l ++ end) first.2.1 ∙ append_assoc first.0 first.2.0 end))

-- a flush that failed after the bytes were written
pub unflushed : (bytes : List ℕ) (w0 w1 w2 : Option (List ℕ)) → (written : List ℕ) × Appends w0 w1 written × (written ≡ bytes) → Keeps w1 w2
    → (written : List ℕ) × Appends w0 w2 written × ((rest : List ℕ) × (bytes ≡ written ++ rest))
unflushed bytes w0 w1 w2 first kept = (first.0, Appends-kept w0 w1 w2 _ first.1 kept, ([], sym first.2 ∙ sym (append-nil first.0)))

-- the same of a text that is made of both
pub ended_as : {T E : Type 0} (line end text : List ℕ) (w0 w1 w2 : Option (List ℕ)) (r : Result T E) → line ++ end ≡ text
    → (one : List ℕ) × Appends w0 w1 one × (one ≡ line)
    → (two : List ℕ) × Appends w1 w2 two × WritesFront r end two
    → (all : List ℕ) × Appends w0 w2 all × WritesFront r text all
ended_as line end text w0 w1 w2 r is first second = subst (λ t. (all : List ℕ) × Appends w0 w2 all × WritesFront r t all) is (ended line end w0 w1 w2 r first second)

pub cut_short_as : {T E : Type 0} (line end text : List ℕ) (w0 w1 : Option (List ℕ)) (r : Result T E) → line ++ end ≡ text → IsErr r
    → (one : List ℕ) × Appends w0 w1 one × ((rest : List ℕ) × (line ≡ one ++ rest))
    → (all : List ℕ) × Appends w0 w1 all × WritesFront r text all
cut_short_as line end text w0 w1 r is failed first = subst (λ t. (all : List ℕ) × Appends w0 w1 all × WritesFront r t all) is (cut_short line end w0 w1 r failed first)

-- a message's line, in front of its text and from there on
pub message_parts : (name text front bytes : List ℕ) → front ≡ codes "msg " ++ (name ++ 32 ∷ []) → bytes ≡ text → front ++ line_text bytes ≡ line_text (message_text name text)
message_parts name text front bytes front_is bytes_are =
    (λ i. front_is i ++ line_text (bytes_are i))
    ∙ ap (λ l. codes "msg " ++ l) (append_assoc name (32 ∷ []) (text ++ 10 ∷ []) ∙ sym (append_assoc name (32 ∷ text) (10 ∷ [])))

-- a name has few characters
pub short_name : (name : List ℕ) → is_name name ≡ true → length name ≤ 48
short_name name h =
    let sizes = and_parts (nat_lt 0 (length name) && nat_le (length name) 48) (list_all is_name_character name) h in
    leb-true (length name) 48 (and_parts (nat_lt 0 (length name)) (nat_le (length name) 48) sizes.0).1
