-- The page that lists sites, link by link, and what was seen with an answer.
use Rattle.std.{proofs.Common.{◌≡◌, ℕ, ◌+◌, ◌<◌, List, [], ◌∷◌, ◌++◌, All, Option, None, Some, inl, inr, length, get_or, take, ap, subst, sym, ◌∙◌}, specs.List.{flat_map, position}, proofs.lemmas.List.{flat_map_more, take_more}, specs.Str.bytes_eq, proofs.lemmas.List.Elements.{All-cons, All-nil}}
use Rattle.ledger_model.specs.Board.{Board}
use Rattle.live_server.{specs.Browsing.{IsBoardAnswer, IsBrowsed, IsSeenWithBoards, site_link}, specs.declared.request.Request.Request}
use Rattle.live_server.specs.declared.request.Request.TheVariants as request
use Rattle.site_desk.{specs.declared.plan.SitePlan.SitePlan, specs.declared.roster.StationPlace.StationPlace}
use Rattle.station_link.specs.Attended.{if_seen}

abbrev link_of : SitePlan → List ℕ
link_of s = site_link s.name

-- one link more
pub one_link_more : (start : List ℕ) (sites : List SitePlan) (i : ℕ) (s : SitePlan) (name : List ℕ) → i < length sites → s ≡ get_or sites i s → name ≡ s.name
    → (start ++ flat_map link_of (take i sites)) ++ site_link name ≡ start ++ flat_map link_of (take (i + 1) sites)
one_link_more start sites i s name within at is =
    ap (λ (n : List ℕ). (start ++ flat_map link_of (take i sites)) ++ site_link n) is
    ∙ (flat_map_more link_of start (take i sites) s ∙ ap (λ (t : List SitePlan). start ++ flat_map link_of t) (ap (λ (x : SitePlan). take i sites ++ x ∷ []) at ∙ sym (take_more sites i s within)))

module _ {M : Type 0} (shows : ℕ → List (List ℕ × Board) → M → Type 0) (sites : List SitePlan) (places : List StationPlace) (bytes : List ℕ) (own : Option M) where
  nothing_seen : own ≡ None → All (IsSeenWithBoards shows) (if_seen own)
  nothing_seen is = subst (λ o. All (IsSeenWithBoards shows) (if_seen o)) (sym is) (All-nil (IsSeenWithBoards shows))

  of_board : (site : Option ℕ) → IsBoardAnswer shows sites places site bytes own → All (IsSeenWithBoards shows) (if_seen own)
  of_board None h = nothing_seen h.1
  of_board (Some site) h = elim h [
    | inl s ↦ subst (λ o. All (IsSeenWithBoards shows) (if_seen o)) (sym s.shown.seen_is)
        (All-cons (IsSeenWithBoards shows) s.shown.own [] (site, s.shown.boards, s.shown.shown) (All-nil (IsSeenWithBoards shows)))
    | inr n ↦ nothing_seen n.1
  ]

  -- what was seen with the answer to a request belongs to a board
  pub of_browsed : (asked : Request) → IsBrowsed shows sites places asked bytes own → All (IsSeenWithBoards shows) (if_seen own)
  of_browsed request.Sites h = nothing_seen h.1
  of_browsed (request.Board name) h = of_board (position (λ s. bytes_eq name s.name) sites) h
  of_browsed request.Elsewhere h = nothing_seen h.1
  of_browsed request.NotAllowed h = nothing_seen h.1
  of_browsed request.Malformed h = nothing_seen h.1
  of_browsed request.Unfinished h = nothing_seen h.1
