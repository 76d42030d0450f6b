use Rattle.std.{proofs.Common.{◌≡◌, ◌∙◌, ℕ, ◌/◌, ◌%◌, ℤ, pos, unsigned_abs, to_z, of_z, List, [], ◌∷◌, ◌++◌, ap, ap₂, arith, rules, FitsSigned, w8, w16}, proofs.lemmas.Int.to_z-of_z}
use Rattle.reading_decimal.specs.MomentText.{two_digits}
use Rattle.reading_decimal.proofs.text.clock_text.Goals as goal

-- the digits of a part of a clock are those of the number that it is
part : (n : ℕ) (z : ℤ) (digits : ℕ) → z ≡ pos n → FitsSigned w8 z → digits ≡ unsigned_abs (to_z w8 (of_z w8 z)) → digits ≡ n
part n z digits is fits e = e ∙ ap unsigned_abs (to_z-of_z w8 z fits ∙ is)

pub returns : goal.returns
returns c =
    let clock = c.args.clock in
    let fits : FitsSigned w16 c.year.result = search rules in
    let year = c.unsigned_abs-year.ensures.value ∙ ap unsigned_abs (to_z-of_z w16 c.year.result fits ∙ c.year.ensures) in
    let month = part clock.date.month c.month.result c.unsigned_abs.result c.month.ensures (search rules) c.unsigned_abs.ensures.value in
    let day = part clock.date.day c.day.result c.unsigned_abs-2.result c.day.ensures (search rules) c.unsigned_abs-2.ensures.value in
    let hour = part clock.time.hour c.hour.result c.unsigned_abs-3.result c.hour.ensures (search rules) c.unsigned_abs-3.ensures.value in
    let minute = part clock.time.minute c.minute.result c.unsigned_abs-4.result c.minute.ensures (search rules) c.unsigned_abs-4.ensures.value in
    let second = part clock.time.second c.second.result c.unsigned_abs-5.result c.second.ensures (search rules) c.unsigned_abs-5.ensures.value in
    let after = λ (separator : ℕ) (t : List ℕ) (n : ℕ). t ++ separator ∷ two_digits n in
    let century = c.push_two.ensures ∙ ap₂ (λ (t : List ℕ) (n : ℕ). t ++ two_digits (n / 100)) c.new-text.ensures year in
    let years = c.push_two-2.ensures ∙ ap₂ (λ (t : List ℕ) (n : ℕ). t ++ two_digits (n % 100)) century year in
    let months = c.push_after.ensures ∙ ap₂ (after 45) years month in
    let days = c.push_after-2.ensures ∙ ap₂ (after 45) months day in
    let hours = c.push_after-3.ensures ∙ ap₂ (after 84) days hour in
    let minutes = c.push_after-4.ensures ∙ ap₂ (after 58) hours minute in
    let seconds = c.push_after-5.ensures ∙ ap₂ (after 58) minutes second in
    c.push.ensures.ascii (omega arith) ∙ ap (λ t. t ++ 90 ∷ []) seconds
