-- What holds of each of two lists, after the second was appended to the first, or not.
use Rattle.std.{proofs.Common.{◌≡◌, Bool, true, false, List, ◌++◌, All, sym, subst}, specs.Prelude.if◌then◌else◌, proofs.lemmas.List.Elements.All-append}

pub appended : {X : Type 0} (P : X → Type 0) (done : Bool) (old more now : List X) → now ≡ (if done then old ++ more else old) → All P old → All P more → All P now
appended P true old more now is h k = subst (All P) (sym is) (All-append P old more h k)
appended P false old more now is h k = subst (All P) (sym is) h
