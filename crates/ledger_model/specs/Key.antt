use Rattle.std.{specs.Prelude.{ℕ, List, ◌<◌, refl}, specs.Ordering.{nat_cmp, ordering_then}, specs.Cmp.Lexicographic.slice_cmp, specs.declared.cmp.Ordering.Ordering, specs.Coded.{Coded, code_by, coded×, coded_list, coded_ℕ}}
use Rattle.ledger_model.{specs.Ranges.sequence_end, specs.TxId.IsFoldedId}

-- What identifies an event of a station: the folded id of its transaction, and its sequence number.
pub record KeyName : Type 0 where
  pub tx : List ℕ
  pub seq : ℕ

-- By the bytes of the transaction id, then by the sequence number.
abbrev pub key_cmp : KeyName → KeyName → Ordering
key_cmp a b = ordering_then (slice_cmp nat_cmp a.tx b.tx) (nat_cmp a.seq b.seq)

-- A key is stored as the pair of its parts.
abbrev pub key_code : Coded KeyName
key_code = code_by (List ℕ × ℕ) (coded× (coded_list coded_ℕ) coded_ℕ) (λ k. (k.tx, k.seq)) (λ p. record { tx = p.0; seq = p.1 }) (λ _. refl)

-- A key in range: an id as it is kept, and a sequence number.
pub record IsKeyName (key : KeyName) : Type 0 where
  pub id : IsFoldedId key.tx
  pub number : key.seq < sequence_end
