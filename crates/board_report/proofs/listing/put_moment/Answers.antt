use Rattle.std.{proofs.Common.{◌≡◌, ◌+◌, ◌%◌, ◌<◌, ◌≤◌, ◌^◌, length, ap, ◌∙◌, arith}, specs.Fmt.decimal, proofs.lemmas.Fmt.decimal_nonempty}
use Rattle.board_report.proofs.listing.put_moment.Goals as goal

-- a number has a digit
pub slice_bounds-extend_from_slice-count : goal.slice_bounds-extend_from_slice-count
slice_bounds-extend_from_slice-count c =
    let n = 1_000_000_000 + c.nanos-nanos.result % 1_000_000_000 in
    let some = decimal_nonempty n (omega arith) in
    let long : length c.as_bytes.result.now ≡ length (decimal n) = ap length (c.as_bytes.ensures.value ∙ c.format.ensures.text) in
    omega (arith, some, long)

pub slice_bounds-extend_from_slice-start : goal.slice_bounds-extend_from_slice-start
slice_bounds-extend_from_slice-start c = slice_bounds-extend_from_slice-count c
