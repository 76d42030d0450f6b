-- What a command at a station changes, and that its row stays tied.
use Rattle.std.proofs.Common.{◌≡◌, ◌≢◌, ℕ, ◌+◌, List, [], ◌∷◌, ◌++◌, Bool, IsTrue, set, refl, ap, sym, ◌∙◌, subst}
use Rattle.ledger_model.{specs.declared.answer.Answer.Answer, specs.declared.answer.Answer.TheVariants.{Accepted, Repeat, Refused}, specs.declared.command.Command.Command, specs.declared.figures.Figures.Figures, specs.declared.order.Order.Order, specs.Board.figures_by, specs.Content.{Content, entries}, specs.Posts.row_after, specs.Step.{answer, step, content_after}, proofs.PostLemmas.{row-push_same, row-push_other}, specs.Limits.Bounds}
use Rattle.station_ledger.{specs.Judged.IsJudged, specs.Ledger.Ledger}
use Rattle.site_book.{specs.Book.Book, proofs.Named.get_here}
use Rattle.site_desk.{specs.Cell.{Cell, Held, Knows, tally_of}, specs.Settle.{Tied, cell_after, counts_after, pass_after, posts_after}}

-- a judgement by a cell's ledger is one by the cell
pub judged_here : (limits limits' : Bounds) (content content' : Content) (command : Command) (a : Answer) → limits ≡ limits'
    → content ≡ content' → IsJudged limits content command a → IsJudged limits' content' command a
judged_here limits limits' content content' command a bounds contents j = record { answered = j.answered ∙ (λ i. answer (bounds i) (contents i) command); admissible = j.admissible }

-- a cell after an accepted command, by its parts
pub cell_changed : (c : Cell) (p : Held) (command : Command) (l : Ledger) (n v : ℕ)
    → l ≡ record { limits = c.limits; period = c.period; order = c.order; content = (step c.limits c.content command).0 }
    → answer c.limits c.content command ≡ Accepted n → v ≡ p.changes
    → ◌≡◌ {A = Cell} (record
    { station = c.station; site = c.site; row = c.row; limits = l.limits; period = l.period; order = l.order; content = l.content; counts = set c.counts p.slot (v + 1) })
    (cell_after c p command)
cell_changed c p command l n v left is count =
    let counts : set c.counts p.slot (v + 1) ≡ counts_after c.counts p (answer c.limits c.content command) = ap (λ k. set c.counts p.slot (k + 1)) count ∙ ap (counts_after c.counts p) (sym is) in
    λ i. record { station = c.station; site = c.site; row = c.row; limits = (left i).limits; period = (left i).period; order = (left i).order; content = (left i).content; counts = counts i }

-- the book after an accepted command's post
pub book_posted : (b b' : Book) (c : Cell) (a : Answer) (n row : ℕ) (f : Figures)
    → b' ≡ record b { posts = b.posts ++ (row, f) ∷ [] } → row ≡ c.row → f ≡ figures_by c.order (entries c.content) → a ≡ Accepted n
    → b' ≡ record b { posts = posts_after b.posts c a }
book_posted b b' c a n row f posted rows shown is =
    posted ∙ (λ i. record b { posts = b.posts ++ (rows i, shown i) ∷ [] }) ∙ (λ i. record b { posts = posts_after b.posts c (sym is i) })

-- the pass stays known
known_by : (c : Cell) (p : Held) (command : Command) (a : Answer) (work : ℕ) → Knows c (tally_of p)
    → Knows (record c { content = content_after c.content command a; counts = counts_after c.counts p a }) (tally_of (pass_after p a work))
known_by c p command (Accepted n) work k = record { station = k.station; count = get_here c.counts p.slot p.changes (p.changes + 1) k.count }
known_by c p command Repeat work k = record { station = k.station; count = k.count }
known_by c p command (Refused why) work k = record { station = k.station; count = k.count }

pub known_after : (c c' : Cell) (p p' : Held) (command : Command) (a : Answer) → c' ≡ cell_after c p command
    → p' ≡ pass_after p a p'.work → a ≡ answer c.limits c.content command → Knows c (tally_of p) → Knows c' (tally_of p')
known_after c c' p p' command a cells passes is k =
    let known = known_by c p command (answer c.limits c.content command) p'.work k in
    subst (λ d. Knows d (tally_of p')) (sym cells) (subst (λ q. Knows (cell_after c p command) (tally_of q)) (sym (passes ∙ ap (λ x. pass_after p x p'.work) is)) known)

-- the row stays tied
tied_by : (c : Cell) (b : Book) (content : Content) (counts : List ℕ) (command : Command) (a : Answer) → content ≡ content_after c.content command a → Tied c b
    → Tied (record c { content = content; counts = counts }) (record b { posts = posts_after b.posts (record c { content = content; counts = counts }) a })
tied_by c b content counts command (Accepted n) is t = row-push_same c.row (figures_by c.order (entries content)) b.posts
tied_by c b content counts command Repeat is t = t ∙ ap (λ d. figures_by c.order (entries d)) (sym is)
tied_by c b content counts command (Refused why) is t = t ∙ ap (λ d. figures_by c.order (entries d)) (sym is)

pub tied_after : (c c' : Cell) (p : Held) (b b' : Book) (command : Command) (a : Answer) → c' ≡ cell_after c p command
    → b' ≡ record b { posts = posts_after b.posts c' a } → a ≡ answer c.limits c.content command → Tied c b → Tied c' b'
tied_after c c' p b b' command a cells books is t =
    let now = cell_after c p command in
    let tied : Tied now (record b { posts = posts_after b.posts now (answer c.limits c.content command) }) = tied_by c b now.content now.counts command (answer c.limits c.content command) refl t in
    let posts : b' ≡ record b { posts = posts_after b.posts now (answer c.limits c.content command) } = books ∙ (λ i. record b { posts = posts_after b.posts (cells i) (is i) }) in
    subst (λ d. Tied d b') (sym cells) (subst (Tied now) (sym posts) tied)

-- the row of another station of the site stays tied
pub tied_beside : (other c : Cell) (b : Book) (a : Answer) → c.row ≢ other.row → Tied other b → Tied other (record b { posts = posts_after b.posts c a })
tied_beside other c b (Accepted n) apart t = row-push_other c.row other.row (figures_by c.order (entries c.content)) b.posts apart ∙ t
tied_beside other c b Repeat apart t = t
tied_beside other c b (Refused why) apart t = t

-- what a test of the row's figures shows
pub tied_told : (c : Cell) (b : Book) (r : Bool) (row : ℕ) (f h : Figures) (order : Order) (d : Content)
    → (IsTrue r → f ≡ h) × (f ≡ h → IsTrue r) → row ≡ c.row → f ≡ row_after row b.posts → order ≡ c.order → d ≡ c.content
    → h ≡ figures_by order (entries d)
    → (IsTrue r → Tied c b) × (Tied c b → IsTrue r)
tied_told c b r row f h order d test rows read ordered is shown =
    let first : f ≡ row_after c.row b.posts = read ∙ ap (λ n. row_after n b.posts) rows in
    let second : h ≡ figures_by c.order (entries c.content) = shown ∙ (λ i. figures_by (ordered i) (entries (is i))) in
    ((λ t. sym first ∙ test.0 t ∙ second), (λ e. test.1 (first ∙ e ∙ sym second)))
