-- The marked text of a text. Both are bytes of UTF-8: all that is looked for is ASCII, and no byte of another character
-- is.
use Rattle.std.{specs.Prelude.{◌||◌, ◌==◌, ℕ, List, [], ◌∷◌, ◌++◌, drop, Bool, false, not, Option, Some, None, if◌then◌else◌, Result, Ok, Err}, specs.List.{prefix_len, take_while, find}}
use Rattle.marked_json.{specs.declared.fault.JsonFault.JsonFault, specs.declared.fault.JsonFault.TheVariants.{BadNumber, NumberAsKey}, specs.Number.{is_digit, is_number}}

-- where in a text a byte is
pub data BytePlace : Type 0 where
  outside : BytePlace
  in_number : BytePlace
  in_string : BytePlace
  after_backslash : BytePlace

-- a marked text, or the first fault
abbrev pub Marks : Type 0
Marks = Result (List ℕ) JsonFault

-- the bytes, and then the marked text
abbrev pub with_front : List ℕ → Marks → Marks
with_front front (Ok rest) = Ok (front ++ rest)
with_front front (Err fault) = Err fault

-- a digit or `-`
abbrev pub begins_number : ℕ → Bool
begins_number c = c == 45 || is_digit c

-- one of `0-9 + - . e E`
abbrev pub goes_on_number : ℕ → Bool
goes_on_number c = begins_number c || (c == 43 || (c == 46 || (c == 101 || c == 69)))

-- a space, a tab, a line feed or a carriage return
abbrev pub is_blank : ℕ → Bool
is_blank c = c == 32 || (c == 9 || (c == 10 || c == 13))

-- the byte is there, and is `:`
abbrev pub is_colon : Option ℕ → Bool
is_colon None = false
is_colon (Some c) = c == 58

-- the first byte that is no blank is `:`
abbrev pub is_before_colon : List ℕ → Bool
is_before_colon cs = is_colon (find (λ c. not (is_blank c)) cs)

-- a token as a string behind `#`, if it is a number and no key
abbrev pub marked_token : List ℕ → List ℕ → Marks → Marks
marked_token token rest more =
    if not (is_number token) then Err BadNumber
    else (if is_before_colon rest then Err NumberAsKey
    else with_front (34 ∷ 35 ∷ (token ++ 34 ∷ [])) more)

-- the byte c outside strings and numbers: `$` goes behind an opening quote, a number is the longest run, all else is
-- copied
abbrev pub marked_outside : ℕ → List ℕ → (BytePlace → Marks) → Marks
marked_outside c cs more =
    if c == 34 then with_front (34 ∷ 36 ∷ []) (more in_string)
    else (if begins_number c
    then marked_token (take_while goes_on_number (c ∷ cs)) (drop (prefix_len goes_on_number (c ∷ cs)) (c ∷ cs)) (more in_number)
    else with_front (c ∷ []) (more outside))

-- the byte c at a place, before cs; `more` marks cs from a place on
abbrev pub marked_byte : BytePlace → ℕ → List ℕ → (BytePlace → Marks) → Marks
marked_byte outside c cs more = marked_outside c cs more
marked_byte in_number c cs more = if goes_on_number c then more in_number else marked_outside c cs more
marked_byte in_string c cs more =
    with_front (c ∷ []) (if c == 34 then more outside else (if c == 92 then more after_backslash else more in_string))
marked_byte after_backslash c cs more = with_front (c ∷ []) (more in_string)

-- the text from a place on, marked
unfoldable pub marked : BytePlace → List ℕ → Marks
marked place [] = Ok []
marked place (c ∷ cs) = marked_byte place c cs (λ next. marked next cs)
