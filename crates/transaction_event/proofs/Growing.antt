-- Where more is needed among items, seen from the first of them.
use Rattle.std.proofs.Common.{◌≡◌, List, ◌∷◌, Ok, sym, subst, inl, inr}
use Rattle.transaction_event.{specs.Steps.Checked, specs.Growth.GrowsAmong}

-- more is needed at the first item
pub grows_here : {A B : Type 0} (step : B → A → Checked B) (Grows : B → A → Type 0) (so_far : B) (all items : List A) (item : A) → all ≡ item ∷ items
    → Grows so_far item → GrowsAmong step Grows so_far all
grows_here step Grows so_far all items item is here = subst (GrowsAmong step Grows so_far) (sym is) (inl here)

-- the first item passes, and more is needed at a later one
pub grows_later : {A B : Type 0} (step : B → A → Checked B) (Grows : B → A → Type 0) (so_far next : B) (all items : List A) (item : A) → all ≡ item ∷ items
    → step so_far item ≡ Ok next → GrowsAmong step Grows next items → GrowsAmong step Grows so_far all
grows_later step Grows so_far next all items item is passes later = subst (GrowsAmong step Grows so_far) (sym is) (inr (next, (passes, later)))
