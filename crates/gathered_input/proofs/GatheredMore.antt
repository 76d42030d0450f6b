-- One read more behind bytes that were gathered.
use Rattle.std.{proofs.Common.{◌≡◌, ◌≤◌, ◌+◌, ◌++◌, ◌∙◌, ℕ, List, Option, length, take, ap, sym, append_assoc}, proofs.lemmas.List.{take-append-le, length-take-le}, proofs.Math.Seq.take-append-add, proofs.KnownBytes.Consumes-trans, specs.Io.KnownBytes.Consumes}
use borrow.Rule.Slice.PartMut.{put_mid, post_of}

pub taken : (c m k : ℕ) (buf got : List ℕ) → c ≤ length buf → m ≤ length got → take (c + m) (put_mid c k buf got) ≡ take c buf ++ take m got
taken c m k buf got within some =
    ap (λ n. take (n + m) (put_mid c k buf got)) (sym (length-take-le c buf within))
    ∙ take-append-add (take c buf) (got ++ post_of c k buf) m
    ∙ ap (λ l. take c buf ++ l) (take-append-le m got (post_of c k buf) some)

pub gathered_more : (r0 r1 r2 : Option (List ℕ)) (c m k : ℕ) (buf got front more : List ℕ)
    → c ≤ length buf → m ≤ length got → take c buf ≡ front ++ more → Consumes r0 r1 more → Consumes r1 r2 (take m got)
    → (all : List ℕ) × Consumes r0 r2 all × (take (c + m) (put_mid c k buf got) ≡ front ++ all)
gathered_more r0 r1 r2 c m k buf got front more within some kept before now = (
  more ++ take m got,
  Consumes-trans r0 r1 r2 more (take m got) before now,
  taken c m k buf got within some ∙ ap (λ l. l ++ take m got) kept ∙ append_assoc front more (take m got),
)
