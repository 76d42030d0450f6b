-- Lemmas on the bytes that one look at a reader gives.
use Rattle.std.{proofs.Common.{◌≡◌, ◌≢◌, Bool, ℕ, ◌+◌, ◌-◌, ◌<◌, ◌≤◌, min, List, [], ◌∷◌, ◌++◌, Result, Ok, Err, length, take, OnOk, OnErr, sym, ap, subst, ◌∙◌, arith, eqb-true, eq-eqb, take-take, length-take, length-take-le, get_or-take, zero-le, zero, suc, length-append, cond, eqb, false}, proofs.lemmas.Bool.false≢true, proofs.lemmas.List.{take_more, take_min}, proofs.lemmas.List.Elements.All-take, proofs.lemmas.Grind.{common_steps, get_or_default_zero}, proofs.Math.Seq.{take-append-add, take-append_seam}, specs.Result.is_ok, specs.declared.alloc.AllocError.AllocError}
use Rattle.memchr.specs.Find.{Nowhere, NoneBefore, Passes, is_byte}
use Rattle.script_lines.{specs.declared.fault.ReplayFault.ReplayFault, specs.declared.fault.ReplayFault.TheVariants.OutOfMemory, specs.declared.line_reader.piece.Piece.Piece, specs.declared.line_reader.piece.Piece.TheVariants.{Part, WholeLine}, specs.Lines.HasNoFeed, specs.Reading.TakesPiece}

-- the front of a list, cut at its length at most
pub take-min : (n : ℕ) (xs : List ℕ) → take (min (length xs) n) xs ≡ take n xs
take-min n xs = grind (arith, common_steps)

-- what still fits of a list that is kept up to n elements
pub kept_front : (n : ℕ) (xs ys : List ℕ) → length xs ≤ n → xs ++ take (min (length ys) (n - length xs)) ys ≡ take n (xs ++ ys)
kept_front n xs ys fits =
    let whole : length xs + (n - length xs) ≡ n = omega arith in
    ap (λ l. xs ++ l) (take-min (n - length xs) ys) ∙ sym (take-append-add xs ys (n - length xs)) ∙ ap (λ k. take k (xs ++ ys)) whole

-- an `extend_from_slice` by that much
pub kept_on_ok : {T E : Type 0} (r : Result T E) (new old added wanted : List ℕ) → new ≡ cond (is_ok r) (old ++ added) old → old ++ added ≡ wanted → OnOk r (new ≡ wanted)
kept_on_ok (Ok _) new old added wanted items e = items ∙ e
kept_on_ok (Err _) new old added wanted items e = tt

-- a front of bytes without a line feed has none
pub front_has_none : (n : ℕ) (xs : List ℕ) → HasNoFeed xs → HasNoFeed (take n xs)
front_has_none n xs none = All-take (λ b. b ≢ 10) n xs none

-- a search that found none
pub found_none : (xs : List ℕ) → Nowhere (Passes (is_byte 10) xs) 0 (length xs) → HasNoFeed xs
found_none xs nowhere k d k_in feed = nowhere k zero-le k_in (eq-eqb _ _ (sym (get_or_default_zero xs k d k_in) ∙ feed))

-- the bytes before the first line feed have none
pub none_before : (xs : List ℕ) (at : ℕ) → NoneBefore (Passes (is_byte 10) xs) 0 (length xs) at → HasNoFeed (take at xs)
none_before xs at first k d k_in feed =
    let k_at : k < at = omega (arith, length-take at xs) in
    let k_xs : k < length xs = omega (arith, length-take at xs) in
    first.before k zero-le k_at (eq-eqb _ _ (sym (get_or_default_zero xs k d k_xs) ∙ sym (get_or-take at xs k d k_at) ∙ feed))

-- the bytes through the first line feed
pub line_taken : (xs : List ℕ) (at : ℕ) → at < length xs → Passes (is_byte 10) xs at → take (at + 1) xs ≡ take at xs ++ 10 ∷ []
line_taken xs at at_in feed = take_more xs at 0 at_in ∙ ap (λ b. take at xs ++ b ∷ []) (eqb-true _ _ feed)

-- what is not empty has an element
pub nonempty : (n : ℕ) → false ≡ eqb n 0 → 0 < n
nonempty zero none = absurd (false≢true none)
nonempty (suc n) none = omega arith

-- a front is the front of its length
pub front_again : (m : ℕ) (xs : List ℕ) → take (length (take m xs)) xs ≡ take m xs
front_again m xs = ap (λ n. take n xs) (length-take m xs) ∙ take_min m xs

-- a line feed among the first m bytes is among all of them
pub line_in_front : (m at : ℕ) (xs : List ℕ) → at < length (take m xs) → Passes (is_byte 10) (take m xs) at
    → (length (take (at + 1) xs) ≡ at + 1) × (at + 1 ≤ m) × (take (at + 1) xs ≡ take at (take m xs) ++ 10 ∷ [])
line_in_front m at xs at_in feed =
    let long : at + 1 ≤ m = omega (arith, length-take m xs) in
    let longer : at + 1 ≤ length xs = omega (arith, length-take m xs) in
    (length-take-le (at + 1) xs longer, long, sym (take-take (at + 1) m xs long) ∙ line_taken (take m xs) at at_in feed)

-- all but the last byte of a line is what is before its line feed
pub but_last : (xs part : List ℕ) → xs ≡ part ++ 10 ∷ [] → HasNoFeed part → HasNoFeed (take (length xs - 1) xs)
but_last xs part e none =
    let count : length xs - 1 ≡ length part = omega (arith, ap length e, length-append part (10 ∷ [])) in
    subst HasNoFeed (sym (ap (λ n. take n xs) count ∙ ap (take (length part)) e ∙ take-append_seam part (10 ∷ []))) none

-- a part of a line, kept or refused
module _ (kept : Result (Unit {0}) AllocError) (result : Result Piece ReplayFault) (max_line_bytes room n : ℕ) (d : Bool) (bytes old new : List ℕ) (fits : length bytes ≤ room) where
  pub part_told : OnOk kept (result ≡ Ok (Part n d)) → OnErr kept (result ≡ Err OutOfMemory) → length bytes ≡ n → 0 < n → HasNoFeed bytes
      → OnOk kept (new ≡ take (max_line_bytes + 1) (old ++ bytes)) → TakesPiece max_line_bytes room result bytes old new
  part_told is refused count some none held = by_kept kept is refused held
    where
      by_kept : (kept : Result (Unit {0}) AllocError) → OnOk kept (result ≡ Ok (Part n d)) → OnErr kept (result ≡ Err OutOfMemory)
          → OnOk kept (new ≡ take (max_line_bytes + 1) (old ++ bytes)) → TakesPiece max_line_bytes room result bytes old new
      by_kept (Ok _) is refused held = subst (λ r. TakesPiece max_line_bytes room r bytes old new) (sym is) (count, some, omega (arith, count, fits), none, held)
      by_kept (Err _) is refused held = subst (λ r. TakesPiece max_line_bytes room r bytes old new) (sym refused) (omega (arith, count, some), fits, front_has_none (length bytes - 1) bytes none)

  -- a whole line, kept or refused
  pub line_told : (part : List ℕ) → OnOk kept (result ≡ Ok (WholeLine n d)) → OnErr kept (result ≡ Err OutOfMemory) → length bytes ≡ n → HasNoFeed part → bytes ≡ part ++ 10 ∷ []
      → OnOk kept (new ≡ take (max_line_bytes + 1) (old ++ part)) → TakesPiece max_line_bytes room result bytes old new
  line_told part is refused count none ends held = by_kept kept is refused held
    where
      by_kept : (kept : Result (Unit {0}) AllocError) → OnOk kept (result ≡ Ok (WholeLine n d)) → OnErr kept (result ≡ Err OutOfMemory)
          → OnOk kept (new ≡ take (max_line_bytes + 1) (old ++ part)) → TakesPiece max_line_bytes room result bytes old new
      by_kept (Ok _) is refused held = subst (λ r. TakesPiece max_line_bytes room r bytes old new) (sym is) (count, omega (arith, count, fits), (part, none, ends, held))
      by_kept (Err _) is refused held = subst (λ r. TakesPiece max_line_bytes room r bytes old new) (sym refused)
          (omega (arith, ap length ends, length-append part (10 ∷ [])), fits, but_last bytes part ends none)
