-- Keys are in a total order, and only equal keys tie.
use Rattle.std.{proofs.Common.{ℕ, List, ap}, specs.Ordering.nat_cmp, specs.Cmp.IsTotalOrder, specs.Cmp.Lexicographic.slice_cmp, specs.FinMap.IsAntisymmetric, proofs.lemmas.Cmp.{then_total, on_total, nat_list_cmp_total, nat_cmp_total}, proofs.lemmas.Map.Lookups.{exact_pairs, exact_bytes, exact_unsigned}}
use Rattle.ledger_model.specs.Key.{KeyName, key_cmp}

pub key_total : IsTotalOrder key_cmp
key_total = then_total (on_total (λ (k : KeyName). k.tx) nat_list_cmp_total) (on_total (λ (k : KeyName). k.seq) nat_cmp_total)

pub exact_keys : IsAntisymmetric key_cmp
exact_keys a b h = ap (λ (p : List ℕ × ℕ). record { tx = p.0; seq = p.1 }) (exact_pairs (slice_cmp nat_cmp) nat_cmp exact_bytes exact_unsigned (a.tx, a.seq) (b.tx, b.seq) h)
