-- What a journal's lines do to a script, one by one.
use Rattle.std.{proofs.Common.{◌≡◌, ℕ, ◌<◌, Bool, true, false, cond, List, [], ◌∷◌, ◌++◌, Option, None, Some, All, map, bytes_eq, length, leb, refl, sym, ap, subst, ◌∙◌, arith, append_assoc}, specs.Io.BufRead.strip_last, proofs.lemmas.Bool.Decides.nat_tests, proofs.lemmas.List.Elements.{All-head, All-tail}, proofs.lemmas.Slice.Eq.bytes_eq-Decides}
use Rattle.kept_desk.{specs.declared.entry.Entry.Entry, specs.Entries.{line_text, text_of}, specs.Speaking.{AsksFor, Says, Speaks}}
use Rattle.ledger_model.{specs.declared.command.Command.Command, specs.World.{Station, World, Happens, run, station_after, world_after}}
use Rattle.transaction_event.specs.Message.{Meaning, Event, message}
use Rattle.script_lines.{specs.LineMeaning.{LineMeaning, nothing, fails, sets_limits, declares, sets_period, sets_order, sets_settle, tells, sends, delivers, commands, asks_energy, asks_export, asks_total, asks_board, lists, asks_meaning, marks, line_meaning}, specs.Lines.{Line, ended, lines_of, unended}, specs.Ranges.longest_line, proofs.Cuts.cut-ended}
use Rattle.script_ledgers.{proofs.Told.delivered_state, specs.Script.{KeepsSites, Script, by_meaning, commanded_to, line_step, sent_to, station_named, step_by, script_after}}
use Rattle.site_desk.specs.declared.plan.StationPlan.{StationPlan}
use Rattle.journal_script.{specs.Journals.{IsSpoken, station_name}, proofs.Notes.{note_after, note_whole}, proofs.Whole.{after_both, lines_apart}}

-- ---- stations of a world

-- the world has a station of this name
abbrev pub Has : World → List ℕ → Type 0
Has w name = (s : Station) × (station_named name w ≡ Some s)

pub has_here : (s : Station) (w : World) (name : List ℕ) (b : Bool) → bytes_eq name s.name ≡ b → (b ≡ false → Has w name) → Has (s ∷ w) name
has_here s w name true e later = (s, ap (λ b. cond b (Some s) (station_named name w)) e)
has_here s w name false e later = let there = later refl in (there.0, ap (λ b. cond b (Some s) (station_named name w)) e ∙ there.1)

pub has_more : (s : Station) (w : World) (name : List ℕ) → Has w name → Has (s ∷ w) name
has_more s w name has = has_here s w name (bytes_eq name s.name) refl (λ _. has)

has_next : (s : Station) (w : World) (name : List ℕ) → Has (s ∷ w) name → bytes_eq name s.name ≡ false → Has w name
has_next s w name has e = (has.0, sym (ap (λ b. cond b (Some s) (station_named name w)) e) ∙ has.1)

same_name : (b : Bool) (s : Station) (command : Command) → (cond b (station_after s command) s).name ≡ s.name
same_name true s command = refl
same_name false s command = refl

-- a command takes no station away
has_after : (w : World) (h : Happens) (name : List ℕ) → Has w name → Has (world_after w h) name
has_after [] h name has = cc has.1
has_after (s ∷ w) h name has =
    let t : Station = cond (bytes_eq h.0 s.name) (station_after s h.1) s in
    has_here t (world_after w h) name (bytes_eq name t.name) refl
    (λ e. has_after w h name (has_next s w name has (ap (bytes_eq name) (sym (same_name (bytes_eq h.0 s.name) s h.1)) ∙ e)))

-- the station of a name has that name
named : (w : World) (name : List ℕ) (s : Station) → station_named name w ≡ Some s → name ≡ s.name
named [] name s e = cc e
named (x ∷ w) name s e = at (bytes_eq name x.name) refl e (λ f. named w name s f)
  where
    at : (b : Bool) → bytes_eq name x.name ≡ b → cond b (Some x) (station_named name w) ≡ Some s → (station_named name w ≡ Some s → name ≡ s.name) → name ≡ s.name
    at true is f later = let same : x ≡ s = cc f in (bytes_eq-Decides name x.name).0 is ∙ ap (λ y. y.name) same
    at false is f later = later f

-- ---- one line

-- a line takes the step of this command, and the plan stays
abbrev pub Takes : Script → Script → List ℕ → Command → Type 0
Takes s t name command = (t.world ≡ world_after s.world (name, command)) × KeepsSites s t

takes_meaning : (meaning : Meaning) (station : Station) (s : Script) (id : List ℕ) (command : Command) (text : List ℕ) (asks : AsksFor text command) → meaning ≡ Event asks.id asks.request
    → Takes s (by_meaning meaning station s).0 station.name command
takes_meaning meaning station s id command text asks is =
    subst (λ m. Takes s (by_meaning m station s).0 station.name command) (sym is)
    (ap (λ c. world_after s.world (station.name, c)) (sym asks.delivers), record { sites = refl; periods = refl; orders = refl })

takes_sent : (o : Option Station) (s : Script) (text : List ℕ) (command : Command) (station : Station) → o ≡ Some station → AsksFor text command → Takes s (sent_to o s text).0 station.name command
takes_sent o s text command station found asks =
    subst (λ p. Takes s (sent_to p s text).0 station.name command) (sym found) (takes_meaning (message text s.moment) station s asks.id command text asks (asks.means s.moment))

takes_commanded : (o : Option Station) (s : Script) (asked command : Command) (station : Station) → o ≡ Some station → asked ≡ command → Takes s (commanded_to o s asked).0 station.name command
takes_commanded o s asked command station found is =
    subst (λ p. Takes s (commanded_to p s asked).0 station.name command) (sym found) (ap (λ c. world_after s.world (station.name, c)) is, record { sites = refl; periods = refl; orders = refl })

takes_step : (s : Script) (meaning : LineMeaning) (name : List ℕ) (command : Command) (station : Station)
    → Says meaning name command → station_named name s.world ≡ Some station → Takes s (step_by s meaning).0 station.name command
takes_step s nothing name command station says found = absurd says
takes_step s (fails _) name command station says found = absurd says
takes_step s (sets_limits _ _ _ _) name command station says found = absurd says
takes_step s (declares _ _) name command station says found = absurd says
takes_step s (sets_period _ _) name command station says found = absurd says
takes_step s (sets_order _ _) name command station says found = absurd says
takes_step s (sets_settle _ _) name command station says found = absurd says
takes_step s (tells _) name command station says found = absurd says
takes_step s (sends at text) name command station says found = takes_sent (station_named at s.world) s text command station (ap (λ n. station_named n s.world) says.0 ∙ found) says.1
takes_step s (delivers at text) name command station says found =
    subst (λ t. Takes s t station.name command) (sym (delivered_state (station_named at s.world) s text))
    (takes_sent (station_named at s.world) s text command station (ap (λ n. station_named n s.world) says.0 ∙ found) says.1)
takes_step s (commands at asked) name command station says found = takes_commanded (station_named at s.world) s asked command station (ap (λ n. station_named n s.world) says.0 ∙ found) says.1
takes_step s (asks_energy _) name command station says found = absurd says
takes_step s (asks_export _) name command station says found = absurd says
takes_step s (asks_total _) name command station says found = absurd says
takes_step s (asks_board _) name command station says found = absurd says
takes_step s (lists _ _ _) name command station says found = absurd says
takes_step s (asks_meaning _) name command station says found = absurd says
takes_step s (marks _) name command station says found = absurd says

pub takes_line : (s : Script) (name line : List ℕ) (command : Command) → Speaks name line command → Has s.world name → Takes s (line_step s (Some line)).0 name command
takes_line s name line command speaks has =
    subst (λ n. Takes s (line_step s (Some line)).0 n command) (sym (named s.world name has.0 has.1))
    (takes_step s (line_meaning (Some line)) name command has.0 speaks.says has.1)

-- ---- all lines

-- the line of an entry, as it is cut
pub cut_entry : (name line : List ℕ) (command : Command) → Speaks name line command → ended longest_line line ≡ Some line
cut_entry name line command speaks =
    let short : leb (length line) longest_line ≡ true = grind (arith, nat_tests, speaks.short) in
    ap (λ b. cond b (Some (strip_last 13 line)) None) short ∙ ap Some speaks.bare

-- what entries ask
abbrev pub asked_in : List StationPlan → List Entry → List Happens
asked_in stations log = map (λ e. (station_name stations e.station, e.command)) log

module _ (stations : List StationPlan) where
  -- the lines of entries, with those in front of them
  abbrev log_lines : List Entry → List Line
  log_lines [] = []
  log_lines (e ∷ log) = lines_of longest_line e.note ++ (Some e.line ∷ log_lines log)

  cut_entries : (log : List Entry) → All (IsSpoken stations) log → lines_of longest_line (text_of log) ≡ log_lines log
  cut_entries [] all = refl
  cut_entries (e ∷ log) all =
      let spoken = All-head (IsSpoken stations) e log all in
      ap (lines_of longest_line) (append_assoc e.note (line_text e.line) (text_of log))
      ∙ lines_apart longest_line e.note (line_text e.line ++ text_of log) (note_whole e.note spoken.noted)
      ∙ ap (λ l. lines_of longest_line e.note ++ l) (cut-ended (unended longest_line) longest_line e.line (text_of log) spoken.speaks.feedless)
      ∙ (λ i. lines_of longest_line e.note ++ (cut_entry (station_name stations e.station) e.line e.command spoken.speaks i ∷ cut_entries log (All-tail (IsSpoken stations) e log all) i))

  said_alone : (s : Script) (log : List Entry) → All (IsSpoken stations) log → script_after s (log_lines log) ≡ script_after s (map (λ (e : Entry). Some e.line) log)
  said_alone s [] all = refl
  said_alone s (e ∷ log) all =
      let spoken = All-head (IsSpoken stations) e log all in
      let later = Some e.line ∷ log_lines log in
      after_both s (lines_of longest_line e.note) later
      ∙ ap (λ t. script_after t later) (note_after s e.note spoken.noted)
      ∙ said_alone (line_step s (Some e.line)).0 log (All-tail (IsSpoken stations) e log all)

  -- the text of entries takes a script where their lines take it
  pub takes_text : (s : Script) (log : List Entry) → All (IsSpoken stations) log → script_after s (lines_of longest_line (text_of log)) ≡ script_after s (map (λ (e : Entry). Some e.line) log)
  takes_text s log all = ap (script_after s) (cut_entries log all) ∙ said_alone s log all

  pub takes_lines : (s : Script) (log : List Entry) → All (IsSpoken stations) log → ((k : ℕ) → k < length stations → Has s.world (station_name stations k))
      → let t = script_after s (map (λ e. Some e.line) log) in (t.world ≡ run s.world (asked_in stations log)) × KeepsSites s t
  takes_lines s [] all has = (refl, record { sites = refl; periods = refl; orders = refl })
  takes_lines s (e ∷ log) all has =
      let spoken = All-head (IsSpoken stations) e log all in
      let name = station_name stations e.station in
      let step = takes_line s name e.line e.command spoken.speaks (has e.station spoken.there) in
      let next = (line_step s (Some e.line)).0 in
      let rest = takes_lines next log (All-tail (IsSpoken stations) e log all)
      (λ k less. subst (λ w. Has w (station_name stations k)) (sym step.0) (has_after s.world (name, e.command) (station_name stations k) (has k less))) in (
        rest.0 ∙ ap (λ w. run w (asked_in stations log)) step.0,
        record { sites = rest.1.sites ∙ step.1.sites; periods = rest.1.periods ∙ step.1.periods; orders = rest.1.orders ∙ step.1.orders },
      )
