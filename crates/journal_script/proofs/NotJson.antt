-- A text whose last byte ends nothing in JSON is not read, with its numbers marked.
use Rattle.std.{proofs.Common.{◌≡◌, ℕ, Bool, true, false, not, ◌||◌, ◌==◌, cond, List, [], ◌∷◌, ◌++◌, drop, Ok, Err, refl, sym, ap, ◌∙◌, subst, append_assoc}, specs.Prelude.⊤, specs.List.{prefix_len, take_while}}
use Rattle.serde_json.specs.Read.{read}
use Rattle.marked_json.{specs.declared.fault.JsonFault.JsonFault, specs.declared.fault.JsonFault.TheVariants.{BadNumber, NumberAsKey, NotJson}, specs.Marking.{BytePlace, outside, in_number, in_string, after_backslash, Marks, with_front, begins_number, goes_on_number, is_before_colon, marked_token, marked_outside, marked_byte, marked}, specs.Number.is_number, specs.Reading.{marked_reading, tree_of, tree_or_fault}}
use Rattle.journal_script.proofs.NoTree.{IsStray, no_tree, stray_hash, stray_s}

-- the marked text, if there is one, ends with this byte
abbrev EndsSo : ℕ → Marks → Type 0
EndsSo c (Ok marks) = (front : List ℕ) × (marks ≡ front ++ c ∷ [])
EndsSo c (Err fault) = ⊤

-- nothing is left to mark
abbrev no_more : Marks
no_more = Ok []

any_place : (q s : Bool) → cond q no_more (cond s no_more no_more) ≡ no_more
any_place true s = refl
any_place false true = refl
any_place false false = refl

module _ (c : ℕ) (no_quote : (c == 34) ≡ false) (no_number : goes_on_number c ≡ false) where
  ends_behind : (front : List ℕ) (m : Marks) → EndsSo c m → EndsSo c (with_front front m)
  ends_behind front (Ok marks) (x, e) = (front ++ x, ap (λ l. front ++ l) e ∙ sym (append_assoc front x (c ∷ [])))
  ends_behind front (Err fault) h = tt

  ends_either : (b : Bool) (m n : Marks) → EndsSo c m → EndsSo c n → EndsSo c (cond b m n)
  ends_either true m n p q = p
  ends_either false m n p q = q

  ends_token : (token rest : List ℕ) (m : Marks) → EndsSo c m → EndsSo c (marked_token token rest m)
  ends_token token rest m h =
      let kept = with_front (34 ∷ 35 ∷ (token ++ 34 ∷ [])) m in
      ends_either (not (is_number token)) (Err BadNumber) (cond (is_before_colon rest) (Err NumberAsKey) kept) tt
      (ends_either (is_before_colon rest) (Err NumberAsKey) kept tt (ends_behind (34 ∷ 35 ∷ (token ++ 34 ∷ [])) m h))

  ends_outside : (x : ℕ) (xs : List ℕ) (more : BytePlace → Marks) → ((p : BytePlace) → EndsSo c (more p)) → EndsSo c (marked_outside x xs more)
  ends_outside x xs more h =
      let token = marked_token (take_while goes_on_number (x ∷ xs)) (drop (prefix_len goes_on_number (x ∷ xs)) (x ∷ xs)) (more in_number) in
      let copied = with_front (x ∷ []) (more outside) in
      ends_either (x == 34) (with_front (34 ∷ 36 ∷ []) (more in_string)) (cond (begins_number x) token copied) (ends_behind (34 ∷ 36 ∷ []) (more in_string) (h in_string))
      (ends_either (begins_number x) token copied
      (ends_token (take_while goes_on_number (x ∷ xs)) (drop (prefix_len goes_on_number (x ∷ xs)) (x ∷ xs)) (more in_number) (h in_number))
      (ends_behind (x ∷ []) (more outside) (h outside)))

  ends_byte : (place : BytePlace) (x : ℕ) (xs : List ℕ) (more : BytePlace → Marks) → ((p : BytePlace) → EndsSo c (more p)) → EndsSo c (marked_byte place x xs more)
  ends_byte outside x xs more h = ends_outside x xs more h
  ends_byte in_number x xs more h = ends_either (goes_on_number x) (more in_number) (marked_outside x xs more) (h in_number) (ends_outside x xs more h)
  ends_byte in_string x xs more h =
      let escaped = cond (x == 92) (more after_backslash) (more in_string) in
      ends_behind (x ∷ []) (cond (x == 34) (more outside) escaped)
      (ends_either (x == 34) (more outside) escaped (h outside) (ends_either (x == 92) (more after_backslash) (more in_string) (h after_backslash) (h in_string)))
  ends_byte after_backslash x xs more h = ends_behind (x ∷ []) (more in_string) (h in_string)

  begins_none : (b r : Bool) → (b || r) ≡ false → b ≡ false
  begins_none true r h = h
  begins_none false r h = refl

  copied_last : marked_outside c [] (λ p. Ok []) ≡ Ok (c ∷ [])
  copied_last =
      let begins : begins_number c ≡ false = begins_none (begins_number c) ((c == 43) || ((c == 46) || ((c == 101) || (c == 69)))) no_number in
      (λ i. cond (no_quote i) (with_front (34 ∷ 36 ∷ []) (Ok []))
      (cond (begins i) (marked_token (take_while goes_on_number (c ∷ [])) (drop (prefix_len goes_on_number (c ∷ [])) (c ∷ [])) (Ok [])) (with_front (c ∷ []) (Ok []))))

  ends_last : (place : BytePlace) → EndsSo c (marked place (c ∷ []))
  unfolding marked
  ends_last outside = subst (EndsSo c) (sym copied_last) ([], refl)
  ends_last in_number = subst (EndsSo c) (sym (ap (λ b. cond b (Ok []) (marked_outside c [] (λ p. Ok []))) no_number ∙ copied_last)) ([], refl)
  ends_last in_string = subst (EndsSo c) (ap (with_front (c ∷ [])) (sym (any_place (c == 34) (c == 92)))) ([], refl)
  ends_last after_backslash = ([], refl)

  ends_marked : (front : List ℕ) (place : BytePlace) → EndsSo c (marked place (front ++ c ∷ []))
  unfolding marked
  ends_marked [] place = ends_last place
  ends_marked (x ∷ front) place = ends_byte place x (front ++ c ∷ []) (λ next. marked next (front ++ c ∷ [])) (ends_marked front)

  module _ (stray : IsStray c) where
    no_tree_of : (m : Marks) → EndsSo c m → (fault : JsonFault) × (tree_of m ≡ Err fault)
    no_tree_of (Ok marks) (x, e) = (NotJson, ap tree_or_fault (ap read e ∙ no_tree c stray x))
    no_tree_of (Err fault) h = (fault, refl)

    pub not_read : (front : List ℕ) → (fault : JsonFault) × (marked_reading (front ++ c ∷ []) ≡ Err fault)
    not_read front = no_tree_of (marked outside (front ++ c ∷ [])) (ends_marked front outside)

pub hash_not_read : (front : List ℕ) → (fault : JsonFault) × (marked_reading (front ++ 35 ∷ []) ≡ Err fault)
hash_not_read = not_read 35 refl refl stray_hash

pub s_not_read : (front : List ℕ) → (fault : JsonFault) × (marked_reading (front ++ 115 ∷ []) ≡ Err fault)
s_not_read = not_read 115 refl refl stray_s
