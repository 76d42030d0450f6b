-- The answer to a browser's request.
use Rattle.std.{specs.Prelude.{◌≡◌, ◌⊎◌, ◌++◌, ℕ, List, Option, None, Some, codes}, specs.List.{flat_map, position}, specs.Str.bytes_eq}
use Rattle.ledger_model.specs.Board.{Board}
use Rattle.running_desk.specs.Replied.{IsShownBoard}
use Rattle.live_server.{specs.declared.reply.Status.Status, specs.declared.reply.Status.TheVariants.{Found, Malformed, NotFound, NotAllowed, NoMemory}, specs.declared.request.Request.Request, specs.Responses.{html, plain, response_bytes, status_bytes}}
use Rattle.live_server.specs.declared.request.Request.TheVariants as request
use Rattle.site_desk.{specs.declared.plan.SitePlan.SitePlan, specs.declared.roster.StationPlace.StationPlace}
use Rattle.station_link.specs.Attended.{if_seen}

-- The answer shows the board of the site of this number, and what was seen of the desk's journal belongs to it.
pub record ShowsBoard {M : Type 0} (shows : ℕ → List (List ℕ × Board) → M → Type 0) (sites : List SitePlan) (places : List StationPlace) (site : ℕ) (bytes : List ℕ) (seen : Option M) : Type 0 where
  pub text : List ℕ
  pub shown : IsShownBoard shows sites places site text seen
  pub is : bytes ≡ response_bytes Found plain text

-- The answer has only this status, and nothing was seen.
abbrev pub IsStatus : {M : Type 0} → Status → List ℕ → Option M → Type 0
IsStatus status bytes seen = (bytes ≡ status_bytes status) × (seen ≡ None)

-- The answer to a request for the board of the site of this number, if there is one; 503 if there
-- is no memory for it, or if what is behind a lock is not as it should be.
abbrev pub IsBoardAnswer : {M : Type 0} → (ℕ → List (List ℕ × Board) → M → Type 0) → List SitePlan → List StationPlace → Option ℕ → List ℕ → Option M → Type 0
IsBoardAnswer shows sites places None bytes seen = IsStatus NotFound bytes seen
IsBoardAnswer shows sites places (Some site) bytes seen = ShowsBoard shows sites places site bytes seen ⊎ IsStatus NoMemory bytes seen

-- This was seen of the desk's journal with the boards of some site's stations.
abbrev pub IsSeenWithBoards : {M : Type 0} → (ℕ → List (List ℕ × Board) → M → Type 0) → M → Type 0
IsSeenWithBoards shows m = (site : ℕ) × (boards : List (List ℕ × Board)) × shows site boards m

-- The link to the board of a site of this name.
abbrev pub site_link : List ℕ → List ℕ
site_link name = codes "<li><a href=\"/board/" ++ (name ++ (codes "\">" ++ (name ++ codes "</a></li>\n")))

-- The page that lists the sites, in the plan's order.
abbrev pub sites_page : List SitePlan → List ℕ
sites_page sites = (codes "<!DOCTYPE html>\n<title>ocpp_board</title>\n<ul>\n" ++ flat_map (λ s. site_link s.name) sites) ++ codes "</ul>\n"

-- The answer to a request, and what was seen of the desk's journal with it: something with a board, nothing otherwise.
abbrev pub IsBrowsed : {M : Type 0} → (ℕ → List (List ℕ × Board) → M → Type 0) → List SitePlan → List StationPlace → Request → List ℕ → Option M → Type 0
IsBrowsed shows sites places request.Sites bytes seen = (bytes ≡ response_bytes Found html (sites_page sites)) × (seen ≡ None)
IsBrowsed shows sites places (request.Board name) bytes seen = IsBoardAnswer shows sites places (position (λ s. bytes_eq name s.name) sites) bytes seen
IsBrowsed shows sites places request.Elsewhere bytes seen = IsStatus NotFound bytes seen
IsBrowsed shows sites places request.NotAllowed bytes seen = IsStatus NotAllowed bytes seen
IsBrowsed shows sites places request.Malformed bytes seen = IsStatus Malformed bytes seen
IsBrowsed shows sites places request.Unfinished bytes seen = IsStatus Malformed bytes seen

-- An answer to a request, and what was seen with it was put behind what was seen before.
abbrev pub IsNoted : {M : Type 0} → (ℕ → List (List ℕ × Board) → M → Type 0) → List SitePlan → List StationPlace → Request → List ℕ → List M → List M → Type 0
IsNoted {M} shows sites places request bytes old new = (own : Option M) × IsBrowsed shows sites places request bytes own × (new ≡ old ++ if_seen own)
