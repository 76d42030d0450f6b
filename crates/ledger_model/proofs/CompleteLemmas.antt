-- A transaction is complete exactly if its four conditions hold.
use Rattle.std.{proofs.Common.{◌≡◌, ◌≢◌, ◌↔◌, ℕ, zero, suc, ◌<◌, ◌+◌, ◌-◌, true, List, [], ◌∷◌, Some, length, refl, sym, subst, arith, eqb}, specs.List.slice_get, proofs.lemmas.Bool.{and_parts, and_from, eqb-true, eq-eqb, false≢true}}
use Rattle.ledger_model.{specs.declared.kind.Kind.Kind, specs.declared.kind.Kind.TheVariants.{Started, Updated, Ended}, specs.Complete.{goes_on_and_ends, starts_and_ends, kinds_of, is_complete}, specs.Content.Entry, specs.Gaps.{numbers_of, missing}, specs.BoardLaws.AreComplete}

-- the last kind is Ended
goes_on-ends : (kind : Kind) (kinds : List Kind) → goes_on_and_ends (kind ∷ kinds) ≡ true → slice_get (kind ∷ kinds) (length kinds) ≡ Some Ended
goes_on-ends Ended [] h = refl
goes_on-ends Updated (k ∷ kinds) h = goes_on-ends k kinds h
goes_on-ends _ _ h = absurd (false≢true h)

-- all before the last are Updated
goes_on-updated : (kind : Kind) (kinds : List Kind) → goes_on_and_ends (kind ∷ kinds) ≡ true → (i : ℕ) → i < length kinds → slice_get (kind ∷ kinds) i ≡ Some Updated
goes_on-updated Updated (k ∷ kinds) h zero less = refl
goes_on-updated Updated (k ∷ kinds) h (suc i) less = goes_on-updated k kinds h i (omega arith)
goes_on-updated _ [] h i less = absurd (omega arith)
goes_on-updated _ _ h i less = absurd (false≢true h)

-- where the last is Ended and none before it is Started or Ended
goes_on-from : (kind : Kind) (kinds : List Kind) → slice_get (kind ∷ kinds) (length kinds) ≡ Some Ended
    → ((i : ℕ) → i < length kinds → slice_get (kind ∷ kinds) i ≢ Some Started)
    → ((i : ℕ) → i < length kinds → slice_get (kind ∷ kinds) i ≢ Some Ended) → goes_on_and_ends (kind ∷ kinds) ≡ true
goes_on-from Ended [] last starts ends = refl
goes_on-from _ [] last starts ends = absurd (cc)
goes_on-from Started (k ∷ kinds) last starts ends = absurd (starts 0 (omega arith) refl)
goes_on-from Ended (k ∷ kinds) last starts ends = absurd (ends 0 (omega arith) refl)
goes_on-from Updated (k ∷ kinds) last starts ends = goes_on-from k kinds last (λ i less. starts (suc i) (omega arith)) (λ i less. ends (suc i) (omega arith))

-- the kinds between are neither, where they are Updated
between_not : (kinds : List Kind) (kind : Kind) (rest : List Kind) (other : Kind) → Updated ≢ other → kinds ≡ Started ∷ kind ∷ rest → goes_on_and_ends (kind ∷ rest) ≡ true
    → (i : ℕ) → 0 < i → i + 1 < length kinds → slice_get kinds i ≢ Some other
between_not kinds kind rest other apart e h zero above below is = absurd (omega arith)
between_not kinds kind rest other apart e h (suc i) above below is =
    let few : suc i + 1 < length (Started ∷ kind ∷ rest) = subst (λ ks. suc i + 1 < length ks) e below in
    let updated : slice_get (kind ∷ rest) i ≡ Some Updated = goes_on-updated kind rest h i (omega arith) in
    let found : slice_get (kind ∷ rest) i ≡ Some other = subst (λ ks. slice_get ks (suc i) ≡ Some other) e is in
    apart (cc)

last_index : (n : ℕ) → suc (suc n) - 1 ≡ suc n
last_index n = omega arith

conditions-from : (kinds : List Kind) (count : ℕ) → starts_and_ends kinds ≡ true → count ≡ 0 → AreComplete kinds count
conditions-from (Started ∷ k ∷ kinds) count h none = record {
  lowest = refl;
  highest = subst (λ n. slice_get (Started ∷ k ∷ kinds) n ≡ Some Ended) (sym (last_index (length kinds))) (goes_on-ends k kinds h);
  no_start_between = between_not (Started ∷ k ∷ kinds) k kinds Started (λ e. absurd (cc)) refl h;
  no_end_between = between_not (Started ∷ k ∷ kinds) k kinds Ended (λ e. absurd (cc)) refl h;
  none_missing = none;
}
conditions-from _ count h none = absurd (false≢true h)

starts-from : (kinds : List Kind) (count : ℕ) → AreComplete kinds count → starts_and_ends kinds ≡ true
starts-from (Started ∷ k ∷ kinds) count c =
    goes_on-from k kinds (subst (λ n. slice_get (Started ∷ k ∷ kinds) n ≡ Some Ended) (last_index (length kinds)) c.highest)
    (λ i less. c.no_start_between (suc i) (omega arith) (omega arith))
    (λ i less. c.no_end_between (suc i) (omega arith) (omega arith))
starts-from (Started ∷ []) count c = absurd (cc (c.highest))
starts-from _ count c = absurd (cc (c.lowest))

pub complete-conditions : (tx : List ℕ) (es : List Entry) → (is_complete tx es ≡ true) ↔ AreComplete (kinds_of tx es) (missing (numbers_of tx es))
complete-conditions tx es = (
  λ h. let parts = and_parts (starts_and_ends (kinds_of tx es)) (eqb (missing (numbers_of tx es)) 0) h in
      conditions-from (kinds_of tx es) (missing (numbers_of tx es)) parts.0 (eqb-true (missing (numbers_of tx es)) 0 parts.1),
  λ c. and_from (starts_and_ends (kinds_of tx es)) (eqb (missing (numbers_of tx es)) 0) (starts-from (kinds_of tx es) (missing (numbers_of tx es)) c) (eq-eqb _ _ c.none_missing),
)
