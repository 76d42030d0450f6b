-- What a settled command means to a caller that does not know what was behind the locks.
use Rattle.std.{proofs.Common.{◌≡◌, ℕ, ◌+◌, ◌≤◌, [], ◌∷◌, ◌++◌, sum, get_or, List, None, Some, Ok, Err, ap, sym, ◌∙◌, subst, arith}, specs.Prelude.{Option, Result, IfOk}, proofs.lemmas.Option.get_or_from_slice_get}
use Rattle.ledger_model.{specs.Periods.Periods, specs.declared.answer.Answer.Answer, specs.declared.answer.Answer.TheVariants.{Accepted, Repeat, Refused}, specs.declared.answer.Refusal.TheVariants.{ConflictingEvent, TooManyTransactions, EventsFull, ReadingsFull, NoSuchEvent, AlreadyVoided, NotVoided, ChangesExhausted}, specs.declared.command.Command.Command, specs.declared.order.Order.Order, specs.Board.{Board, board_by, figures_by}, specs.Content.{Content, entries}, specs.Laws.IsAccepted, specs.Limits.Bounds, specs.Posts.row_after, specs.Step.{Reached, answer, step}}
use Rattle.site_book.specs.Book.{Book, Known, known}
use Rattle.site_desk.{specs.declared.roster.StationPlace.StationPlace, specs.Roster.{IsNamed, StandsAt}, specs.Submit.{IsAnswered, IsBoardOfName, IsBoardWithin, IsTaken, IsTakenAt, Submitted, TellsOf}, specs.Cell.{Cell, Held, Knows, tally_of}, specs.Settle.{Tied, cell_after, pass_after, posts_after, told_after}, proofs.Counts.{count_part, next_number}}
use Rattle.station_ledger.specs.Spent.{most_spent}

module _ (at : StationPlace) (number : ℕ) (c : Cell) (b : Book) (p : Held) (command : Command) (stands : StandsAt number at c) (site : b.site ≡ at.site)
    (reached : Reached c.limits c.content.changes c.content) (counted : sum c.counts ≡ c.content.changes) (knows : Knows c (tally_of p)) where
  -- at the place's limits
  reached_here : Reached at.limits c.content.changes c.content
  reached_here = subst (λ l. Reached l c.content.changes c.content) stands.limits reached

  answered_by : (a : Answer) (p' : Held) (told : Option Known) → a ≡ answer c.limits c.content command → p' ≡ p → told ≡ None → IsAnswered at p command a p' told
  answered_by a p' told is same untold = record {
    before = c.content;
    reached = reached_here;
    answered = ap (λ l. answer l c.content command) (sym stands.limits) ∙ sym is;
    unchanged = record { pass = same; untold = untold };
  }

  taken_at : (n : ℕ) (c' : Cell) (b' : Book) (told : Option Known) → Tied c b → Accepted n ≡ answer c.limits c.content command → c' ≡ cell_after c p command
      → b' ≡ record b { posts = b.posts ++ (c'.row, figures_by c'.order (entries c'.content)) ∷ [] } → told ≡ Some (known b'.site b'.posts) → IsTakenAt at c.content command n told
  taken_at n c' b' told tied is cells books told_is = record {
    answered = ap (λ l. answer l c.content command) (sym stands.limits) ∙ sym is;
    posts = b.posts;
    tied = ap (λ r. row_after r b.posts) (sym stands.row) ∙ tied ∙ ap (λ o. figures_by o (entries c.content)) stands.order;
    posted = told_is
        ∙ (λ i. Some (known (books i).site (books i).posts))
        ∙ (λ i. Some (known (site i) (b.posts ++ ((cells i).row, figures_by (cells i).order (entries (cells i).content)) ∷ [])))
        ∙ (λ i. Some (known at.site (b.posts ++ (stands.row i, figures_by (stands.order i) (entries (step (stands.limits i) c.content command).0)) ∷ [])));
  }

  taken_by : (n : ℕ) (p' : Held) (told : Option Known) → Accepted n ≡ answer c.limits c.content command → p' ≡ record p { changes = p.changes + 1; work = p'.work }
      → p'.work ≤ p.work + most_spent c.order c.content.events command → IsTakenAt at c.content command n told → IsTaken at p command n p' told
  taken_by n p' told is passes bound taken =
      let next = next_number c.limits c.content command n (sym is) in
      let part = count_part c.counts p.slot p.changes knows.count in
      record {
        before = c.content;
        count = c.content.changes;
        number = next;
        reached = reached_here;
        taken = taken;
        pass = passes;
        bound = subst (λ o. p'.work ≤ p.work + most_spent o c.content.events command) stands.order bound;
        enough = let more : p'.changes ≡ p.changes + 1 = ap (λ (q : Held). q.changes) passes in omega (arith, more, next, part, counted);
      }

  -- what the answer says about the cell's content
  pub tells_of : (a : Answer) (c' : Cell) (b' : Book) (told : Option Known) → (IsAccepted a → Tied c b) → a ≡ answer c.limits c.content command → c' ≡ cell_after c p command
      → b' ≡ record b { posts = posts_after b.posts c' a } → told ≡ told_after b' a → TellsOf at c.content command a told
  tells_of (Accepted n) c' b' told tied is cells books told_is = taken_at n c' b' told (tied tt) is cells books told_is
  tells_of Repeat c' b' told tied is cells books told_is = told_is
  tells_of (Refused why) c' b' told tied is cells books told_is = told_is

  pub submitted : (a : Answer) (c' : Cell) (b' : Book) (p' : Held) (told : Option Known) → (IsAccepted a → Tied c b)
      → a ≡ answer c.limits c.content command → c' ≡ cell_after c p command → p' ≡ pass_after p a p'.work
      → p'.work ≤ p.work + most_spent c.order c.content.events command → b' ≡ record b { posts = posts_after b.posts c' a } → told ≡ told_after b' a → Submitted at p command a p' told
  submitted (Accepted n) c' b' p' told tied is cells passes bound books told_is = taken_by n p' told is passes bound (taken_at n c' b' told (tied tt) is cells books told_is)
  submitted Repeat c' b' p' told tied is cells passes bound books told_is = answered_by Repeat p' told is passes told_is
  submitted (Refused ConflictingEvent) c' b' p' told tied is cells passes bound books told_is = answered_by (Refused ConflictingEvent) p' told is passes told_is
  submitted (Refused TooManyTransactions) c' b' p' told tied is cells passes bound books told_is = answered_by (Refused TooManyTransactions) p' told is passes told_is
  submitted (Refused EventsFull) c' b' p' told tied is cells passes bound books told_is = answered_by (Refused EventsFull) p' told is passes told_is
  submitted (Refused ReadingsFull) c' b' p' told tied is cells passes bound books told_is = answered_by (Refused ReadingsFull) p' told is passes told_is
  submitted (Refused NoSuchEvent) c' b' p' told tied is cells passes bound books told_is = answered_by (Refused NoSuchEvent) p' told is passes told_is
  submitted (Refused AlreadyVoided) c' b' p' told tied is cells passes bound books told_is = answered_by (Refused AlreadyVoided) p' told is passes told_is
  submitted (Refused NotVoided) c' b' p' told tied is cells passes bound books told_is = answered_by (Refused NotVoided) p' told is passes told_is
  submitted (Refused ChangesExhausted) c' b' p' told tied is cells passes bound books told_is = record { pass = passes; untold = told_is }

-- the board of a ledger
pub board_shown : {E : Type 0} (r : Result Board E) (limits : Bounds) (by period : Periods) (by_order order : Order) (content c : Content)
    → IfOk r (λ b. b ≡ board_by by_order by (entries content)) → by ≡ period → by_order ≡ order → content ≡ c
    → Reached limits c.changes c → IfOk r (IsBoardWithin limits period order)
board_shown (Ok b) limits by period by_order order content c shown same ordered is reached =
    record { content = c; reached = reached; shown = shown ∙ (λ i. board_by (ordered i) (same i) (entries (is i))) }
board_shown (Err e) limits by period by_order order content c shown same ordered is reached = tt

-- the board of a cell that is at the place of the station of this name
pub board_named : (places : List StationPlace) (name : List ℕ) (k : ℕ) (at : StationPlace) (c : Cell) (b : Board)
    → IsNamed places name k → at ≡ get_or places k at → StandsAt k at c → IsBoardWithin c.limits c.period c.order b
    → IsBoardOfName places name b
board_named places name k at c b named is stands within =
    let place : at ≡ named.place = is ∙ get_or_from_slice_get places k named.place at named.there in
    let limits = stands.limits ∙ ap (λ (p : StationPlace). p.limits) place in
    let period = stands.period ∙ ap (λ (p : StationPlace). p.period) place in
    let order = stands.order ∙ ap (λ (p : StationPlace). p.order) place in
    record {
      number = k;
      named = named;
      board = subst (λ l. IsBoardWithin l named.place.period named.place.order b) limits
          (subst (λ s. IsBoardWithin c.limits s named.place.order b) period (subst (λ o. IsBoardWithin c.limits c.period o b) order within));
    }

-- the board of a ledger, of just this content
pub board_of_content : {E : Type 0} (r : Result Board E) (by period : Periods) (by_order order : Order) (content c : Content)
    → IfOk r (λ b. b ≡ board_by by_order by (entries content)) → by ≡ period → by_order ≡ order → content ≡ c
    → IfOk r (λ b. b ≡ board_by order period (entries c))
board_of_content (Ok b) by period by_order order content c shown same ordered is = shown ∙ (λ i. board_by (ordered i) (same i) (entries (is i)))
board_of_content (Err e) by period by_order order content c shown same ordered is = tt
