-- Where the steps of the marking cut a text, it may be cut.
use Rattle.std.{proofs.Common.{zero, add-one, ◌≡◌, ◌<◌, ℕ, suc, true, List, length, get_or, arith}, specs.List.prefix_len, specs.Str.{IsUtf8, IsCharBoundary}, proofs.lemmas.Bool.Decides.nat_tests, proofs.lemmas.Str.{IsCharBoundary-start, IsCharBoundary-after_ascii}, proofs.lemmas.List.Sums.{prefix_len_passes, prefix_len-le-length}}
use Rattle.marked_json.specs.Marking.{begins_number, goes_on_number}

token_ascii : (c : ℕ) → goes_on_number c ≡ true → c < 128
token_ascii c h = grind (arith, nat_tests)

pub number_ascii : (c : ℕ) → begins_number c ≡ true → c < 128
number_ascii c h = grind (arith, nat_tests)

-- the last byte of a number is ASCII
pub IsCharBoundary-token : (bs : List ℕ) (n : ℕ) → IsUtf8 bs → n ≡ prefix_len goes_on_number bs → IsCharBoundary bs n
IsCharBoundary-token bs zero u e = IsCharBoundary-start bs u
IsCharBoundary-token bs (suc k) u e =
    let bound = prefix_len-le-length goes_on_number bs in
    let within : k < length bs = omega arith in
    let passes : goes_on_number (get_or bs k 0) ≡ true = prefix_len_passes goes_on_number bs k 0 (omega arith) in
    let cut = IsCharBoundary-after_ascii bs k u within (token_ascii (get_or bs k 0) passes) in
    rw (← add-one) cut
