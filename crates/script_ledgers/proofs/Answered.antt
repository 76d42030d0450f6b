-- What is known of a written answer, if the call succeeds.
use Rattle.std.{proofs.Common.{◌≡◌, ℕ, List, [], ◌++◌, Result, Ok, Err, sym, ap, ◌∙◌}, specs.Prelude.{IfOk, OnOk}}
use Rattle.script_ledgers.specs.Script.{Script}

-- if a call succeeds, what follows from what it ensures
pub ok_told : {T E : Type 0} (r : Result T E) (A B : Type 0) → (A → B) → OnOk r A → OnOk r B
ok_told (Ok x) A B f a = f a
ok_told (Err e) A B f a = tt

-- an answer that is written behind nothing
pub written_whole : {T E : Type 0} (r : Result T E) (s : Script) (text old new : List ℕ) (after : Script × List ℕ)
    → after ≡ (s, text) → old ≡ [] → OnOk r (new ≡ old ++ text) → OnOk r (after ≡ (s, new))
written_whole r s text old new after is empty told = ok_told r (new ≡ old ++ text) (after ≡ (s, new)) (λ e. is ∙ ap (λ l. (s, l)) (sym (e ∙ ap (λ l. l ++ text) empty))) told

-- if a call succeeds, what follows for its value from what it ensures
pub value_told : {T E : Type 0} (r : Result T E) (P Q : T → Type 0) → ((x : T) → P x → Q x) → IfOk r P → IfOk r Q
value_told (Ok x) P Q f p = f x p
value_told (Err e) P Q f p = p
