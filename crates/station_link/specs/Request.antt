-- Which requests a desk lets in, by what a handshake saw.
use Rattle.std.{specs.Prelude.{◌≡◌, ◌≢◌, ℕ, List, ◌++◌, true, false, Option, None, Some, unwrap_or, if◌then◌else◌, codes}, specs.declared.result.Result.Result, specs.declared.result.Result.TheVariants.{Ok, Err}, specs.List.list_any, specs.Str.bytes_eq}
use Rattle.ledger_model.specs.Name.{is_name}
use Rattle.site_desk.{specs.declared.roster.StationPlace.StationPlace, specs.Roster.IsNamed, specs.Cell.Held}
use Rattle.station_link.{specs.declared.ending.Why.Why, specs.declared.ending.Why.TheVariants.{HandshakeFailed, UnknownStation, NotOcpp, OutOfMemory, TooManyPasses}, specs.declared.request.Seen.Seen, specs.declared.request.Seen.TheVariants.{Nothing, NoMemory, Request}}

-- A path is `/ocpp/` and this name, or is not such a path (this product's profile).
abbrev pub IsPathOf : List ℕ → Option (List ℕ) → Type 0
IsPathOf path (Some name) = path ≡ codes "/ocpp/" ++ name
IsPathOf path None = (name : List ℕ) → is_name name ≡ true → path ≢ codes "/ocpp/" ++ name

-- Why a request is refused, whatever passes were given out: no request was seen, the subprotocol was not offered, the
-- path names no station, in this order.
abbrev pub refusal : List StationPlace → Seen → Option Why
refusal stations Nothing = Some HandshakeFailed
refusal stations NoMemory = Some OutOfMemory
refusal stations (Request false station) = Some NotOcpp
refusal stations (Request true None) = Some UnknownStation
refusal stations (Request true (Some name)) = if list_any (λ p. bytes_eq name p.name) stations then None else Some UnknownStation

-- The reason for a request that gets no pass: why it is refused, or else that its station gave out all its
-- passes.
abbrev pub IsRefusal : List StationPlace → Seen → Why → Type 0
IsRefusal stations seen why = why ≡ unwrap_or (refusal stations seen) TooManyPasses

-- A request that is not refused gets a new pass of the station that it names.
pub record IsAdmitted (stations : List StationPlace) (seen : Seen) (name : List ℕ) (p : Held) : Type 0 where
  pub allowed : refusal stations seen ≡ None
  pub asked : seen ≡ Request true (Some name)
  pub named : IsNamed stations name p.station
  pub fresh : p.changes ≡ 0

-- A request asks for the station of this name, or is refused for this reason whatever stations there are.
abbrev pub IsAsked : Seen → Result (List ℕ) Why → Type 0
IsAsked seen (Ok name) = seen ≡ Request true (Some name)
IsAsked seen (Err why) = (stations : List StationPlace) → refusal stations seen ≡ Some why
