-- The loop that writes some bytes: what the writer has taken of them.
use Rattle.std.{proofs.Common.{◌≡◌, ℕ, ◌+◌, ◌-◌, List, ◌++◌, Option, take, drop, length, sym, ap, subst, arith, take_all, length-drop, take-append-drop}, proofs.Math.Seq.take-add, specs.Io.KnownBytes.{Keeps, Appends}, proofs.KnownBytes.{Appends-trans, Appends-kept}}

-- `&bytes[done..]`
rest_of : (bytes : List ℕ) (done : ℕ) → take (length bytes - done) (drop done bytes) ≡ drop done bytes
rest_of bytes done = take_all (length bytes - done) (drop done bytes) (omega (arith, length-drop done bytes))

module _ (bytes : List ℕ) (done : ℕ) (w0 w1 w2 : Option (List ℕ)) (so_far : Appends w0 w1 (take done bytes)) where
  -- a write took n bytes more
  pub took : (n : ℕ) → Appends w1 w2 (take n (take (length bytes - done) (drop done bytes))) → Appends w0 w2 (take (done + n) bytes)
  took n more =
      let front = ap (take n) (rest_of bytes done) in
      subst (Appends w0 w2) (sym (take-add done n bytes)) (Appends-trans w0 w1 w2 _ _ so_far (subst (Appends w1 w2) front more))

  -- a write failed
  pub stopped : Keeps w1 w2 → (written : List ℕ) × Appends w0 w2 written × ((rest : List ℕ) × (bytes ≡ written ++ rest))
  stopped kept = (take done bytes, Appends-kept w0 w1 w2 _ so_far kept, (drop done bytes, sym (take-append-drop done bytes)))

  -- a write took none
  pub took_none : (n : ℕ) → n ≡ 0 → Appends w1 w2 (take n (take (length bytes - done) (drop done bytes)))
      → (written : List ℕ) × Appends w0 w2 written × ((rest : List ℕ) × (bytes ≡ written ++ rest))
  took_none n none more = (
    take (done + n) bytes,
    took n more,
    (drop (done + n) bytes, sym (take-append-drop (done + n) bytes)),
  )
