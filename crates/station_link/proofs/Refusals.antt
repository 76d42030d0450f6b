-- Whom a desk lets in and whom it refuses, of those that offer the subprotocol and name a station.
use Rattle.std.{proofs.Common.{◌≡◌, List, ℕ, Bool, true, false, None, Some, refl}, specs.List.list_any, specs.Str.bytes_eq}
use Rattle.site_desk.{specs.declared.roster.StationPlace.StationPlace, specs.Roster.IsNamed, specs.Cell.Held}
use Rattle.station_link.{specs.declared.ending.Why.TheVariants.{UnknownStation, TooManyPasses}, specs.declared.request.Seen.TheVariants.Request, specs.Request.{IsAdmitted, IsRefusal, refusal}}

-- some station has this name
abbrev pub is_known : List StationPlace → List ℕ → Bool
is_known stations name = list_any (λ p. bytes_eq name p.name) stations

-- a name that no station has
unknown : (stations : List StationPlace) (name : List ℕ) → is_known stations name ≡ false → refusal stations (Request true (Some name)) ≡ Some UnknownStation
unknown stations name e = rw e refl

not_false : (b : Bool) → (b ≡ false → ⊥) → b ≡ true
not_false true h = refl
not_false false h = absurd (h refl)

-- a name that some station has
known : (stations : List StationPlace) (name : List ℕ) → (is_known stations name ≡ false → ⊥) → refusal stations (Request true (Some name)) ≡ None
known stations name h = let e = not_false (is_known stations name) h in rw e refl

pub refuses_unknown : (stations : List StationPlace) (name : List ℕ) → is_known stations name ≡ false → IsRefusal stations (Request true (Some name)) UnknownStation
refuses_unknown stations name h = let r = unknown stations name h in rw r refl

pub refuses_full : (stations : List StationPlace) (name : List ℕ) → (is_known stations name ≡ false → ⊥) → IsRefusal stations (Request true (Some name)) TooManyPasses
refuses_full stations name h = let r = known stations name h in rw r refl

pub admits : (stations : List StationPlace) (name : List ℕ) (p : Held) → (is_known stations name ≡ false → ⊥)
    → IsNamed stations name p.station → p.changes ≡ 0 → IsAdmitted stations (Request true (Some name)) name p
admits stations name p h named fresh = record { allowed = known stations name h; asked = refl; named = named; fresh = fresh }
