-- What a walk over numbers has before it.
use Rattle.std.specs.Prelude.{ℕ, ◌<◌, List, [], Option, None, Some, length}

-- the numbers from a place on, none if there is no place
abbrev pub left : {W P : Type 0} → (W → P → List ℕ) → W → Option P → List ℕ
left ahead walk None = []
left ahead walk (Some place) = ahead walk place

-- the place, if there is one, is that of a number
abbrev pub StandsAt : {W P : Type 0} → (W → P → List ℕ) → W → Option P → Type 0
StandsAt ahead walk None = Unit {0}
StandsAt ahead walk (Some place) = 0 < length (ahead walk place)
