-- Texts that are put together piece by piece.
use Rattle.std.proofs.Common.{◌≡◌, ℕ, List, ◌++◌, append_assoc, ap, ◌∙◌}

-- A piece that was put behind a text comes in front of those behind it.
pub in_front : (now before piece rest : List ℕ) → now ≡ before ++ piece → now ++ rest ≡ before ++ (piece ++ rest)
in_front now before piece rest is = ap (λ l. l ++ rest) is ∙ append_assoc before piece rest
