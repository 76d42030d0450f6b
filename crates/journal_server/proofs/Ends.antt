-- What a server's script and its boards are, of what its desk was when it was closed.
use Rattle.std.{proofs.Common.{◌≡◌, ℕ, zero, suc, ◌<◌, ◌≤◌, Bool, List, [], ◌∷◌, ◌++◌, Option, None, Some, Result, Ok, Err, OnOk, IfOk, All, length, slice_get, refl, sym, ap, subst, ◌∙◌, arith}, specs.Prelude.{IsOk, ⊤}, specs.Io.KnownBytes.{Appends, append_known}, proofs.lemmas.List.Elements.{All-cons, All-head, All-nil, All-tail}, proofs.lemmas.List.length-map, proofs.lemmas.Option.slice_get_within}
use Rattle.board_report.{specs.Texts.board_text, specs.Closed.{boards_text, closed_site}}
use Rattle.kept_desk.{specs.declared.entry.Entry.Entry, specs.Entries.{of_station, text_of, IsNote}, specs.Journal.IsWritten, specs.Speaking.{AreSpoken, Speaks, SpeaksOf}, proofs.Fronts.entry_accepted, specs.Kept.{AreBoardsBehind, IsLeftFrom, commands_of}, specs.Opened.{AreFirst, content_or_empty, contents_of, names_of}}
use Rattle.journal_script.{proofs.HeadLaw.has_once, specs.Head.after, specs.Journals.{AreLeft, HasOnce, IsSpoken, station_name}, proofs.Boards.boards_are_those_of_cells, proofs.Journals.journals_are_scripts, specs.Restoring.Grows}
use Rattle.live_server.specs.Told.{Tells, operator_input}
use Rattle.site_book.specs.Prefix.{IsPrefix}
use Rattle.site_desk.{specs.declared.roster.StationPlace.StationPlace, specs.declared.plan.SitePlan.SitePlan, specs.declared.plan.StationPlan.StationPlan, specs.Plan.plan_fault, specs.Roster.{AreCellsOf, AreNewPlaces}, proofs.NewParts.{planned_names, planned_sites}, specs.Cell.Cell}
use Rattle.ledger_model.{specs.Content.Content, specs.Limits.Bounds}
use Rattle.journal_server.{specs.Left.Left, specs.Served.{AreAccepted, AreLeftFrom, Declares, IsEnded, IsItsScript, IsKeptAnswer, IsNewRun, IsToldOf, Leaves, TellsNew, TellsRestored, joined}}
use Rattle.script_lines.specs.Lines.{Line}

-- a name that is not empty is that of a station which the plan has
named_there : (stations : List StationPlan) (k : ℕ) → 0 < length (names_of stations k) → k < length stations
named_there [] k some = absurd (omega (arith, some))
named_there (s ∷ stations) zero some = omega arith
named_there (s ∷ stations) (suc k) some = let less = named_there stations k some in omega (arith, less)

name_is : (stations : List StationPlan) (k : ℕ) → names_of stations k ≡ station_name stations k
name_is [] k = refl
name_is (s ∷ stations) zero = refl
name_is (s ∷ stations) (suc k) = name_is stations k

-- the line of an entry speaks for its command on the station of its name
abbrev Own : List StationPlan → Entry → Type 0
Own stations e = SpeaksOf (names_of stations e.station) e.line e.command

-- lines that speak for stations of a plan, with what is in front of them
all_spoken : (stations : List StationPlan) (log : List Entry) → All (λ (e : Entry). IsNote e.note) log → AreSpoken (names_of stations) log → All (IsSpoken stations) log
all_spoken stations [] noted all = All-nil (IsSpoken stations)
all_spoken stations (e ∷ log) noted all =
    let own = All-head (Own stations) e log all in
    All-cons (IsSpoken stations) e log
    (record {
      there = named_there stations e.station own.some;
      speaks = subst (λ n. Speaks n e.line e.command) (name_is stations e.station) own.speaks;
      noted = All-head (λ (x : Entry). IsNote x.note) e log noted;
    })
    (all_spoken stations log (All-tail (λ (x : Entry). IsNote x.note) e log noted) (All-tail (Own stations) e log all))

boards_joined : (sites : List SitePlan) (stations : List StationPlan) (cells : List Cell) (n : ℕ) → boards_text sites stations cells n ≡ joined (λ k. board_text (closed_site sites stations cells k)) n
boards_joined sites stations cells zero = refl
boards_joined sites stations cells (suc n) = ap (λ l. l ++ board_text (closed_site sites stations cells n)) (boards_joined sites stations cells n)

-- the cell of a number among so many
cell_at : (cells : List Cell) (k : ℕ) → k < length cells → (c : Cell) × (slice_get cells k ≡ Some c)
cell_at [] k less = absurd (omega (arith, less))
cell_at (c ∷ cells) zero less = (c, refl)
cell_at (c ∷ cells) (suc k) less = cell_at cells k (omega (arith, less))

-- each line was accepted at the content to which the earlier lines of its station lead
all_accepted : (stations : List StationPlan) (firsts cells : List Cell) (log : List Entry) → AreLeftFrom stations firsts cells log → AreAccepted stations firsts log
all_accepted stations firsts cells log kept before e rest s f is at first =
    let less : e.station < length cells = subst (λ n. e.station < n) (sym kept.count) (slice_get_within stations e.station s at) in
    let there = cell_at cells e.station less in
    entry_accepted s.limits f.content there.0.content log before e rest is (kept.left e.station s f there.0 at first there.1)

pub its_script : (front : List ℕ) (sites : List SitePlan) (stations : List StationPlan) (firsts : List Cell) (before : Option (List ℕ)) (left : Left) (tells : List Entry → Type 0)
    → plan_fault sites stations ≡ None → AreCellsOf sites stations firsts → Leaves front sites stations firsts
    → IsEnded (names_of stations) (contents_of firsts) before sites stations left tells
    → IsItsScript front sites stations firsts before left tells
its_script front sites stations firsts before left tells none of_plan restored e =
    let once = has_once sites stations none in
    let log = e.written.log in
    let spoken = all_spoken stations log e.written.written.notes e.written.spoken in
    let kept : AreLeftFrom stations firsts e.cells log = record {
      count_first = of_plan.count;
      count = e.count;
      left = λ k s f c at first there.
          subst (λ (x : Bounds × Content). IsLeftFrom x.0 x.1 c.content (commands_of (of_station k log)))
          (λ i. (e.limits k s c at there i, ap content_or_empty first i)) (e.written.left k c there);
    } in
    let ends : AreLeft stations firsts e.cells log = record {
      count_first = of_plan.count;
      count = e.count;
      left = λ k s f c at first there. (kept.left k s f c at first there).left;
    } in
    let ended = journals_are_scripts front sites stations firsts e.cells log restored.whole once restored.shows spoken ends in
    record {
      log = log;
      written = e.written.written;
      cells = e.cells;
      opened = restored.shows;
      spoken = spoken;
      accepted = all_accepted stations firsts e.cells log kept;
      each = kept;
      given = λ k f first.
          let within = slice_get_within firsts k f first in
          let less : k < length e.cells = omega (arith, within, of_plan.count, e.count) in
          let there = cell_at e.cells k less in
          let counted = e.given k there.0 there.1 in
          let more = (e.written.left k there.0 there.1).counted in
          let held : (contents_of firsts k).changes ≡ f.content.changes = ap (λ (o : Content). o.changes) (ap content_or_empty first) in
          let long = length-map (of_station k log) (λ (x : Entry). x.command) in
          omega (arith, counted, more, held, long);
      texts = e.texts;
      browsed = e.browsed;
      told = e.told;
      ended = ended;
      shown = record {
        texts = λ k. board_text (closed_site sites stations e.cells k);
        is = e.is ∙ boards_joined sites stations e.cells (length sites);
        answers = λ site line less says. boards_are_those_of_cells (after (front ++ text_of log)) sites stations e.cells site line once ended less says;
      };
    }

none_past : (stations : List StationPlan) (k : ℕ) → slice_get stations k ≡ None → length stations ≤ k
none_past [] k e = omega arith
none_past (s ∷ stations) zero e = cc e
none_past (s ∷ stations) (suc k) e = let past = none_past stations k e in omega (arith, past)

-- the cells that a desk is opened over hold what they held
pub are_first : (sites : List SitePlan) (stations : List StationPlan) (cells parts : List Cell) (first : ℕ → Content)
    → AreCellsOf sites stations cells → first ≡ contents_of cells → parts ≡ cells → AreFirst first parts
are_first sites stations cells parts first of_plan named same k c at = (own (slice_get stations k) refl, sym (ap (λ f. f k) named ∙ ap content_or_empty there))
  where
    there : slice_get cells k ≡ Some c
    there = sym (ap (λ cs. slice_get cs k) same) ∙ at

    own : (s : Option StationPlan) → slice_get stations k ≡ s → c.station ≡ k
    own None e = absurd (omega (arith, none_past stations k e, slice_get_within cells k c there, of_plan.count))
    own (Some s) e = (of_plan.each k s c e there).station

-- what was written behind a head was written behind what was before it
written_behind : (broken : Bool) (before begun now : Option (List ℕ)) (buffer head : List ℕ) (log : List Entry)
    → Appends before begun head → IsWritten broken begun now buffer log → IsWritten broken (append_known before head) now buffer log
written_behind broken None begun now buffer head log begins w = record { front = w.front; begins = w.begins; notes = w.notes; lines = w.lines; whole = w.whole; handed_on = w.handed_on; appended = tt }
written_behind broken (Some bytes) None now buffer head log begins w = absurd begins
written_behind broken (Some bytes) (Some more) now buffer head log begins w = subst (λ b. IsWritten broken (Some b) now buffer log) begins w

pub script_behind : (front : List ℕ) (sites : List SitePlan) (stations : List StationPlan) (firsts : List Cell)
    (before begun : Option (List ℕ)) (head : List ℕ) (left : Left) (tells : List Entry → Type 0)
    → Appends before begun head → IsItsScript front sites stations firsts begun left tells → IsItsScript front sites stations firsts (append_known before head) left tells
script_behind front sites stations firsts before begun head left tells begins s = record {
  log = s.log;
  written = written_behind left.broken before begun left.now left.buffer head s.log begins s.written;
  cells = s.cells;
  opened = s.opened;
  spoken = s.spoken;
  accepted = s.accepted;
  each = s.each;
  given = s.given;
  texts = s.texts;
  browsed = s.browsed;
  told = s.told;
  ended = s.ended;
  shown = s.shown;
}

-- what holds of the further answers holds of the script
pub telling : (front : List ℕ) (sites : List SitePlan) (stations : List StationPlan) (firsts : List Cell) (before : Option (List ℕ)) (left : Left) (tells more : List Entry → Type 0)
    → ((log : List Entry) → tells log → more log) → IsItsScript front sites stations firsts before left tells → IsItsScript front sites stations firsts before left more
telling front sites stations firsts before left tells more on s = record {
  log = s.log;
  written = s.written;
  cells = s.cells;
  opened = s.opened;
  spoken = s.spoken;
  accepted = s.accepted;
  each = s.each;
  given = s.given;
  texts = s.texts;
  browsed = s.browsed;
  told = on s.log s.told;
  ended = s.ended;
  shown = s.shown;
}

-- what a console took behind a report
pub reported : {E : Type 0} (ended : Result (Unit {0}) E) (sites : List SitePlan) (stations : List StationPlan)
    (firsts : List Cell) (connections : Option ℕ) (rest before middle now : Option (List ℕ))
    → Grows before middle
    → (log : List Entry) → TellsNew ended stations (operator_input connections rest) middle now sites firsts log → TellsRestored ended connections before now rest sites stations firsts log
reported (Ok _) sites stations firsts connections rest before middle now grows log t = (middle, grows, t)
reported (Err _) sites stations firsts connections rest before middle now grows log t = t

-- the answers at a desk, by the list of its lines
pub ended_telling : {S E F : Type 0} (ended : Result (Unit {0}) E) (ran : Result S F) (handed : S → List (List Entry))
    (sites : List SitePlan) (stations : List StationPlan) (firsts : List Cell) (places : List StationPlace) (first : ℕ → Content)
    (coming : Option (List Line)) (before now : Option (List ℕ)) (log : List Entry)
    → AreNewPlaces sites stations places → first ≡ contents_of firsts → OnOk ended (IsOk ran) → IfOk ran (λ seen. All (λ m. IsPrefix m log) (handed seen))
    → IfOk ran (λ seen. Tells (IsKeptAnswer first) (AreBoardsBehind first places) sites places coming before now (handed seen))
    → OnOk ended (IsToldOf sites stations (contents_of firsts) log coming before now)
ended_telling (Ok _) (Ok s) handed sites stations firsts places first coming before now log placed same well begin tells =
    record {
      places = places;
      placed = placed;
      seen = handed s;
      begin = begin;
      tells = subst (λ f. Tells (IsKeptAnswer f) (AreBoardsBehind f places) sites places coming before now (handed s)) same tells;
    }
ended_telling (Ok _) (Err _) handed sites stations firsts places first coming before now log placed same well begin tells = cc well
ended_telling (Err _) ran handed sites stations firsts places first coming before now log placed same well begin tells = well

-- a desk at its close, by what is named, with the further answers
pub ended_as : (name name' : ℕ → List ℕ) (first first' : ℕ → Content) (before before' : Option (List ℕ)) (sites : List SitePlan)
    (stations : List StationPlan) (left : Left) (tells more : List Entry → Type 0)
    → name ≡ name' → first ≡ first' → before ≡ before' → ((log : List Entry) → tells log → more log)
    → IsEnded name first before sites stations left tells → IsEnded name' first' before' sites stations left more
ended_as name name' first first' before before' sites stations left tells more n f b on e =
    subst (λ x. IsEnded name' first' x sites stations left more) b
    (subst (λ x. IsEnded name' x before sites stations left more) f (subst (λ x. IsEnded x first before sites stations left more) n
    (record {
      cells = e.cells;
      seen = e.seen;
      written = e.written;
      texts = e.texts;
      browsed = e.browsed;
      told = on e.written.log e.told;
      given = e.given;
      count = e.count;
      limits = e.limits;
      is = e.is;
    })))

-- what holds of each of two lists together holds of each of the first, and of the second
pub all_front : {X : Type 0} (P : X → Type 0) (xs ys : List X) → All P (xs ++ ys) → All P xs
all_front P [] ys h = All-nil P
all_front P (x ∷ xs) ys h = All-cons P x xs (All-head P x (xs ++ ys) h) (all_front P xs ys (All-tail P x (xs ++ ys) h))

-- moments that begin a list, by what is handed out
pub begin_those : {S F : Type 0} (r : Result S F) (handed : S → List (List Entry)) (all : List (List Entry)) (log : List Entry)
    → IfOk r (λ s. all ≡ handed s) → All (λ m. IsPrefix m log) all → IfOk r (λ s. All (λ m. IsPrefix m log) (handed s))
begin_those (Ok s) handed all log same begin = subst (All (λ m. IsPrefix m log)) same begin
begin_those (Err _) handed all log same begin = same

-- a run by another name of its plan, without further answers
pub run_of_plan : (sites sites' : List SitePlan) (stations stations' : List StationPlan) (before : Option (List ℕ)) (left : Left)
    (tells : List SitePlan → List Cell → List Entry → Type 0)
    → sites ≡ sites' → stations ≡ stations'
    → IsNewRun sites stations before left tells → IsNewRun sites' stations' before left (λ read firsts log. ⊤)
run_of_plan sites sites' stations stations' before left tells same at r = record {
  head = r.head;
  read = r.read;
  firsts = r.firsts;
  declares = subst (λ x. Declares x r.read r.firsts) same r.declares;
  script = subst (λ x. IsItsScript r.head r.read x r.firsts (append_known before r.head) left (λ log. ⊤)) at (telling _ _ _ _ _ _ _ _ (λ log t. tt) r.script);
}
