use borrow.Author.Rules.{rules}
use Rattle.std.{proofs.Common.{◌≡◌, ◌≢◌, ◌≤◌, ◌∙◌, ℕ, List, Option, option_map, Result, Ok, Err, refl, sym, ap, ap₂, codes, FitsSigned, w8}, specs.Result.{MatchResult, IsErrAnd, IfOk, IfErr}, proofs.lemmas.Int.to_z-of_z, proofs.lemmas.Result.err_from_is_err_and}
use Rattle.serde_json.specs.Data.{Data}
use Rattle.ledger_model.specs.Ranges.{greatest_reading}
use Rattle.marked_json.specs.Reading.{node, number_of}
use Rattle.reading_decimal.{specs.declared.decimal.DecimalFault.DecimalFault, specs.Decimal.mwh_reading}
use Rattle.transaction_event.{specs.declared.fault.PayloadFault.PayloadFault, specs.declared.fault.PayloadFault.TheVariants.{Decimal, OutOfMemory}, specs.Member.{object_of, required, optional}, specs.Sampled.{decimal, sampled_mwh}, specs.Scale.{Scaling, scale_of}, specs.Steps.{Checked, ◌>>=◌}, proofs.AdmissibleRequests.mwh_in_range}
use Rattle.transaction_event.proofs.sampled.sampled_mwh.Goals as goal

-- the steps that are left, from the last on
abbrev of_token : Scaling → List ℕ → Checked ℕ
of_token scale token = decimal (mwh_reading token scale.multiplier scale.unit)

abbrev of_scale : Data → Scaling → Checked ℕ
of_scale sampled scale = required number_of (codes "value") sampled >>= of_token scale

abbrev of_measure : Data → Option Data → Checked ℕ
of_measure sampled measure = scale_of measure >>= of_scale sampled

abbrev measure_of : Data → Checked (Option Data)
measure_of sampled = optional object_of (codes "unitOfMeasure") sampled

step : {A B : Type 0} (next : A → Checked B) {m : Checked A} {x : Checked A} → x ≡ m → x >>= next ≡ m >>= next
step next e = ap (λ m. m >>= next) e

-- what the steps gave so far, and the rest of them, is the value
measured : (sampled : Data) (measure : Checked (Option Data)) → measure ≡ measure_of sampled → measure >>= of_measure sampled ≡ sampled_mwh sampled
unfolding sampled_mwh
measured sampled measure e = step (of_measure sampled) e

scaled : (sampled : Data) (measure : Option Data) (scale : Checked Scaling) → Ok measure ≡ measure_of sampled → scale ≡ scale_of measure → scale >>= of_scale sampled ≡ sampled_mwh sampled
scaled sampled measure scale e s = step (of_scale sampled) s ∙ measured sampled (Ok measure) e

named : (sampled : Data) (measure : Option Data) (scale : Scaling) (token : Checked (List ℕ)) → Ok measure ≡ measure_of sampled
    → Ok scale ≡ scale_of measure → token ≡ required number_of (codes "value") sampled
    → token >>= of_token scale ≡ sampled_mwh sampled
named sampled measure scale token e s t = step (of_token scale) t ∙ scaled sampled measure (Ok scale) e s

-- a reading whose faults are all mapped to `Decimal`
read_as_mapped : {Q : DecimalFault → PayloadFault → Type 0} (read : Result ℕ DecimalFault) (result : Checked ℕ)
    → MatchResult read (λ mwh. result ≡ Ok mwh) (λ fault. IsErrAnd result (Q fault))
    → ((fault : DecimalFault) (mapped : PayloadFault) → Q fault mapped → mapped ≡ Decimal) → result ≡ decimal read
read_as_mapped (Ok mwh) result e known = e
read_as_mapped (Err fault) result e known = let p = err_from_is_err_and result e in p.1 ∙ ap Err (known fault p.0 p.2)

in_range : (read : Result ℕ DecimalFault) → ((mwh : ℕ) → read ≡ Ok mwh → mwh ≤ greatest_reading) → IfOk (decimal read) (λ mwh. mwh ≤ greatest_reading)
in_range (Ok mwh) within = within mwh refl
in_range (Err fault) within = tt

tells_no_memory : (read : Result ℕ DecimalFault) → IfErr (decimal read) (λ fault. fault ≢ OutOfMemory)
tells_no_memory (Ok mwh) = tt
tells_no_memory (Err fault) = λ e. cc

pub returns-in_err-optional_object-clause-value : goal.returns-in_err-optional_object-clause-value
returns-in_err-optional_object-clause-value c =
    let p = err_from_is_err_and c.from_residual.result c.from_residual.ensures.1 in
    rw (p.1, p.2) (measured (node c.args.sampled) (Err c.in_err-optional_object.field-0.0) c.in_err-optional_object.ensures.value)

pub returns-in_err-scale-clause-value : goal.returns-in_err-scale-clause-value
returns-in_err-scale-clause-value c =
    let measure = option_map node c.in_ok-optional_object.field-0 in
    let p = err_from_is_err_and c.from_residual-in_err-scale.result c.from_residual-in_err-scale.ensures.1 in
    rw (p.1, p.2) (scaled (node c.args.sampled) measure (Err c.in_err-scale.field-0.0) c.in_ok-optional_object.ensures.value c.in_err-scale.ensures.value)

pub returns-in_err-token-clause-value : goal.returns-in_err-token-clause-value
returns-in_err-token-clause-value c =
    let measure = option_map node c.in_ok-optional_object.field-0 in
    let p = err_from_is_err_and c.from_residual-in_err-token.result c.from_residual-in_err-token.ensures.1 in
    rw (p.1, p.2) (named (node c.args.sampled) measure c.in_ok-scale.scale (Err c.in_err-token.field-0.0)
    c.in_ok-optional_object.ensures.value c.in_ok-scale.ensures.value c.in_err-token.ensures.value)

pub returns-clause-value : goal.returns-clause-value
returns-clause-value c =
    let measure = option_map node c.in_ok-optional_object.field-0 in
    let scale = c.in_ok-scale.scale in
    let told = named (node c.args.sampled) measure scale (Ok c.in_ok-token.token.now) c.in_ok-optional_object.ensures.value c.in_ok-scale.ensures.value c.in_ok-token.ensures.value in
    let fits : FitsSigned w8 c.multiplier.result = search rules in
    let read = simp to_z-of_z at c.mwh_of.ensures in
    read_as_mapped _ c.map_err.result c.map_err.ensures.cases (λ fault mapped is. search rules)
    ∙ ap decimal (read ∙ ap₂ (mwh_reading c.in_ok-token.token.now) c.multiplier.ensures.value c.unit.ensures.value) ∙ told

pub returns-clause-range : goal.returns-clause-range
returns-clause-range c =
    let fits : FitsSigned w8 c.multiplier.result = search rules in
    let read = simp to_z-of_z at c.mwh_of.ensures in
    rw (read_as_mapped _ c.map_err.result c.map_err.ensures.cases (λ fault mapped is. search rules))
    (in_range _ (λ mwh is. mwh_in_range c.in_ok-token.token.now c.multiplier.result c.unit.result mwh (sym read ∙ is)))

pub returns-clause-memory : goal.returns-clause-memory
returns-clause-memory c =
    rw (read_as_mapped _ c.map_err.result c.map_err.ensures.cases (λ fault mapped is. search rules)) (tells_no_memory _)
