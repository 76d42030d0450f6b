use Rattle.std.{proofs.Common.{ap, ap₂, ◌∙◌, ◌%◌, ◌^◌, map, arith}, proofs.lemmas.Simd.{zip2_splat, mask_l-mod}, proofs.lemmas.List.length-map}
use Rattle.memchr.specs.Find.{is_byte2}
use Rattle.marked_json.proofs.Lanes.{hit, hits}
use lib.Bits.{bit_or}
use lib.Lanes.{zip2, mask_l, top}
use Rattle.marked_json.proofs.marking.stops.Goals as goal

pub returns : goal.returns
returns c =
    let v = c.args.v in
    let long = c.fits-v.0 in
    ap (λ l. mask_l (map (top 7) l) % 2 ^ 64) (ap₂ (zip2 bit_or) (zip2_splat hit v 32 34 long) (zip2_splat hit v 32 92 long))
    ∙ ap (λ l. mask_l l % 2 ^ 64) (hits 34 92 v)
    ∙ mask_l-mod (map (is_byte2 34 92) v) 64 (omega (arith, length-map v (is_byte2 34 92)))
