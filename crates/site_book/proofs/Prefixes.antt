-- Lists that begin another.
use Rattle.std.proofs.Common.{◌≡◌, ℕ, ◌<◌, ◌≤◌, List, [], ◌∷◌, ◌++◌, length, refl, ap, sym, ◌∙◌, arith, append_assoc, append-nil, length-append, get_or}
use Rattle.site_book.specs.Prefix.{IsPrefix}

module _ {A : Type 0} where
  -- each list begins with itself
  pub prefix_self : (xs : List A) → IsPrefix xs xs
  prefix_self xs = record { rest = []; is = append-nil xs }

  pub prefix_none : (xs : List A) → IsPrefix [] xs
  prefix_none xs = record { rest = xs; is = refl }

  pub prefix_trans : (xs ys zs : List A) → IsPrefix xs ys → IsPrefix ys zs → IsPrefix xs zs
  prefix_trans xs ys zs p q = record { rest = p.rest ++ q.rest; is = sym (append_assoc xs p.rest q.rest) ∙ (ap (λ w. w ++ q.rest) p.is ∙ q.is) }

  -- of two beginnings of one list the shorter begins the longer
  pub prefix_shorter : (xs ys zs : List A) → IsPrefix xs zs → IsPrefix ys zs → length xs ≤ length ys → IsPrefix xs ys
  prefix_shorter [] ys zs p q le = record { rest = ys; is = refl }
  prefix_shorter (x ∷ xs) [] zs p q le = absurd (omega arith)
  prefix_shorter (x ∷ xs) (y ∷ ys) [] p q le = absurd (cc (p.is))
  prefix_shorter (x ∷ xs) (y ∷ ys) (z ∷ zs) p q le =
      let heads : x ≡ y = cc (p.is, q.is) in
      let front : IsPrefix xs zs = record { rest = p.rest; is = cc (p.is) } in
      let other : IsPrefix ys zs = record { rest = q.rest; is = cc (q.is) } in
      let more = prefix_shorter xs ys zs front other (omega arith) in
      record { rest = more.rest; is = cc (heads, more.is) }

  -- a beginning as long as the whole is the whole
  pub prefix_whole : (xs ys : List A) → IsPrefix xs ys → length ys ≤ length xs → xs ≡ ys
  prefix_whole [] [] p le = refl
  prefix_whole [] (y ∷ ys) p le = absurd (omega arith)
  prefix_whole (x ∷ xs) [] p le = absurd (cc (p.is))
  prefix_whole (x ∷ xs) (y ∷ ys) p le =
      let front : IsPrefix xs ys = record { rest = p.rest; is = cc (p.is) } in
      let more = prefix_whole xs ys front (omega arith) in cc (p.is, more)

  pub prefix_length : (xs ys : List A) → IsPrefix xs ys → length xs ≤ length ys
  prefix_length xs ys p = omega (arith, sym (ap length p.is) ∙ length-append xs p.rest)

  -- a beginning with the next element is a beginning
  pub prefix_next : (d : A) (xs ys : List A) (i : ℕ) (x : A) → IsPrefix xs ys → length xs ≡ i → i < length ys → x ≡ get_or ys i d → IsPrefix (xs ++ x ∷ []) ys
  prefix_next d [] [] i x p at less e = absurd (omega arith)
  prefix_next d [] (y ∷ ys) i x p at less e =
      let here : x ≡ y = e ∙ ap (λ k. get_or (y ∷ ys) k d) (sym at) in
      record { rest = ys; is = ap (λ z. z ∷ ys) here }
  prefix_next d (z ∷ xs) [] i x p at less e = absurd (omega arith)
  prefix_next d (z ∷ xs) (y ∷ ys) i x p at less e =
      let front : IsPrefix xs ys = record { rest = p.rest; is = cc (p.is) } in
      let more = prefix_next d xs ys (length xs) x front refl (omega arith) (e ∙ ap (λ k. get_or (y ∷ ys) k d) (sym at)) in
      let heads : z ≡ y = cc (p.is) in
      record { rest = more.rest; is = cc (heads, more.is) }
