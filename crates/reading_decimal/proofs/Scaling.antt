-- Numbers times one power of ten and over another.
use Rattle.std.{proofs.Common.{◌≡◌, ℕ, ◌+◌, ◌-◌, ◌*◌, ◌/◌, ◌^◌, ◌<◌, ◌≤◌, None, ap, ◌∙◌, arith, lit<}, proofs.Math.Nat.{one-le-pow, mul-div_cancel, mul-div-mul_right}, proofs.lemmas.Nat.pow-add, proofs.lemmas.Bool.Decides.nat_tests}
use Rattle.reading_decimal.specs.Decimal.{within_register}

pub ten_pos : (k : ℕ) → 0 < 10 ^ k
ten_pos k = omega (arith, one-le-pow k 10 (lit< tt))

-- more tens above than below are a product
pub scale_up : (n up down : ℕ) → down ≤ up → n * 10 ^ up / 10 ^ down ≡ n * 10 ^ (up - down)
scale_up n up down h =
    let e : up ≡ up - down + down = omega arith in
    let p : n * 10 ^ up ≡ n * 10 ^ (up - down) * 10 ^ down = omega (arith, ap (λ k. n * k) (ap (λ k. 10 ^ k) e ∙ pow-add 10 (up - down) down)) in
    ap (λ k. k / 10 ^ down) p ∙ mul-div_cancel (n * 10 ^ (up - down)) (ten_pos down)

-- more tens below than above are a quotient
pub scale_down : (n up down : ℕ) → up ≤ down → n * 10 ^ up / 10 ^ down ≡ n / 10 ^ (down - up)
scale_down n up down h =
    let e : down ≡ down - up + up = omega arith in
    ap (λ k. n * 10 ^ up / k) (ap (λ k. 10 ^ k) e ∙ pow-add 10 (down - up) up) ∙ mul-div-mul_right n (10 ^ (down - up)) (ten_pos up)

-- a number that leaves 128 bits is above each reading
pub within_register-large : (n : ℕ) → 2 ^ 128 ≤ n → within_register n ≡ None
within_register-large n h = grind (arith, nat_tests)
