-- The order of keys.
use Rattle.std.{specs.Prelude.{◌≡◌, ℕ, ◌+◌, ◌*◌, ◌/◌, ◌%◌, ◌^◌, ◌<◌}, proofs.lemmas.Nat.{div-mul-add, mod-mul-add}}

-- A key's position among all keys: by the transaction's slot, then by the sequence number.
abbrev pub rank : ℕ → ℕ → ℕ
rank transaction number = transaction * 2 ^ 31 + number

-- A rank gives its slot back.
pub slot_back : (transaction number : ℕ) → number < 2 ^ 31 → rank transaction number / 2 ^ 31 ≡ transaction
slot_back transaction number lt = div-mul-add transaction (2 ^ 31) number lt

-- A rank gives its number back.
pub number_back : (transaction number : ℕ) → number < 2 ^ 31 → rank transaction number % 2 ^ 31 ≡ number
number_back transaction number lt = mod-mul-add transaction (2 ^ 31) number lt
