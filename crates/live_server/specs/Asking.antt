-- What a browser's bytes ask for (RFC 9112).
use Rattle.std.specs.Prelude.{◌≡◌, ◌≢◌, ℕ, false, List, ◌++◌, codes}
use Rattle.httparse.{specs.Grammar.{HasNoRequest, MayBecomeRequest, ReadsRequest, RequestHead}, specs.Spans.RequestOverflows}
use Rattle.ledger_model.specs.Name.{is_name}
use Rattle.live_server.{specs.declared.request.Request.Request, specs.declared.request.Request.TheVariants.{Unfinished, Malformed, NotAllowed, Sites, Board, Elsewhere}}

-- The path of the board of a site of this name.
abbrev pub board_path : List ℕ → List ℕ
board_path name = codes "/board/" ++ name

-- What a path asks for.
abbrev pub AsksAt : List ℕ → Request → Type 0
AsksAt path Unfinished = ⊥
AsksAt path Malformed = ⊥
AsksAt path NotAllowed = ⊥
AsksAt path Sites = path ≡ codes "/"
AsksAt path (Board name) = path ≡ board_path name
AsksAt path Elsewhere = (path ≢ codes "/") × ((name : List ℕ) → path ≡ board_path name → is_name name ≡ false)

-- The bytes begin with the head of a request of this kind.
pub record HasHead (bytes : List ℕ) (is : RequestHead → Type 0) : Type 0 where
  pub head : RequestHead
  pub rest : List ℕ
  pub reads : ReadsRequest bytes head rest
  pub so : is head

-- The request is a GET of this.
abbrev pub IsGet : Request → RequestHead → Type 0
IsGet request head = (head.method ≡ codes "GET") × AsksAt head.target request

-- What the bytes ask for: by the head of a request that they begin with; or there is none yet, or
-- there can be none with at most 64 header lines.
abbrev pub IsAskedBy : List ℕ → Request → Type 0
IsAskedBy bytes Unfinished = HasNoRequest bytes × MayBecomeRequest bytes
IsAskedBy bytes Malformed = RequestOverflows 64 bytes
IsAskedBy bytes NotAllowed = HasHead bytes (λ head. head.method ≢ codes "GET")
IsAskedBy bytes Sites = HasHead bytes (IsGet Sites)
IsAskedBy bytes (Board name) = HasHead bytes (IsGet (Board name))
IsAskedBy bytes Elsewhere = HasHead bytes (IsGet Elsewhere)
