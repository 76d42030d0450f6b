-- How the run of a server ends.
use Rattle.std.{proofs.Common.{◌≡◌, ◌∙◌, ℕ, Bool, false, true, List, [], ◌++◌, Option, Some, Result, Ok, Err, IfOk, IfSome, OnOk, ap, append_assoc, refl, subst, sym}, specs.Prelude.is_some, specs.Io.KnownBytes.Appends, proofs.KnownBytes.Appends-trans}
use Rattle.journal_server.{specs.declared.fault.JournalFault.JournalFault, specs.declared.run.Served.Served, specs.Left.{Left, left_of}, specs.Served.{IsNewRun, IsRestoredRun, IsToldOf, TellsNew, TellsRestored}, specs.Simulated.IsSimulatedRun, proofs.Ends.telling}
use Rattle.journal_script.specs.Restoring.{Grows}
use Rattle.kept_desk.specs.Opened.{contents_of}
use Rattle.live_server.specs.Told.{operator_input}
use Rattle.running_desk.{specs.Ordered.lines_in, specs.declared.fault.ServiceFault.ServiceFault}
use Rattle.site_desk.{specs.declared.plan.SitePlan.SitePlan, specs.declared.plan.StationPlan.StationPlan, specs.Cell.Held}
use Rattle.script_lines.specs.Writing.{WritesFront}
use Rattle.script_replay.specs.Whole.{HasOutput, Writes}
use Rattle.ocpp_board.{specs.declared.run.Ran.Ran, specs.Run.{IsJournalRun, IsServerEnd, IsUnwrittenRun}, specs.Serving.{EndsJournalled, EndsUnwritten}}

-- a front of bytes, behind others
front_behind : {T E : Type 0} (r : Result T E) (x bytes written : List ℕ) → WritesFront r bytes written → WritesFront r (x ++ bytes) (x ++ written)
front_behind (Ok _) x bytes written f = ap (λ l. x ++ l) f
front_behind (Err _) x bytes written f = (f.0, ap (λ l. x ++ l) f.1 ∙ sym (append_assoc x written f.0))

-- bytes that were written behind others
pub writes_then : {T E : Type 0} (r : Result T E) (a b c : Option (List ℕ)) (x y w : List ℕ) → Appends a b w → w ≡ x → Writes b c r y → Writes a c r (x ++ y)
writes_then r a b c x y w first is then = (x ++ then.0, Appends-trans a b c x then.0 (subst (Appends a b) is first) then.1, front_behind r x y then.0 then.2)

-- a front of bytes is a front of them with more behind
pub front_of_more : (x y written rest : List ℕ) → x ≡ written ++ rest → x ++ y ≡ written ++ (rest ++ y)
front_of_more x y written rest is = ap (λ l. l ++ y) is ∙ append_assoc written rest y

of_ok : {T E : Type 0} (r : Result T E) (t : T) (P : Type 0) → r ≡ Ok t → OnOk r P → P
of_ok (Ok _) t P is h = h
of_ok (Err _) t P is h = cc

-- what holds where a server ended well, holds where it was kept well
on_through : {E F : Type 0} (kept : Result (Unit {0}) E) (served : Result (Unit {0}) F) (P : Type 0) → OnOk kept (served ≡ Ok tt) → OnOk served P → OnOk kept P
on_through (Ok _) served P well h = of_ok served tt P well h
on_through (Err _) served P well h = well

-- the answers of a new run, by the end of what kept it
pub new_through : (kept : Result (Unit {0}) JournalFault) (served : Result (Unit {0}) ServiceFault) (sites : List SitePlan)
    (stations : List StationPlan) (before : Option (List ℕ)) (left : Left) (input told now : Option (List ℕ))
    → OnOk kept (served ≡ Ok tt)
    → IsNewRun sites stations before left (TellsNew served stations input told now) → IsNewRun sites stations before left (TellsNew kept stations input told now)
new_through kept served sites stations before left input told now well r = record {
  head = r.head;
  read = r.read;
  firsts = r.firsts;
  declares = r.declares;
  script = telling _ _ _ _ _ _ _ _ (λ log t. on_through kept served (IsToldOf r.read stations (contents_of r.firsts) log (lines_in input) told now) well t) r.script;
}

-- the answers of a restored run, by the end of what kept it
pub restored_through : (kept : Result (Unit {0}) JournalFault) (served : Result (Unit {0}) ServiceFault) (allows : Bool)
    (connections : Option ℕ) (input before : Option (List ℕ)) (left : Left) (told now : Option (List ℕ))
    → OnOk kept (served ≡ Ok tt)
    → IsRestoredRun allows input before left (TellsRestored served connections told now) → IsRestoredRun allows input before left (TellsRestored kept connections told now)
restored_through kept served allows connections input before left told now well r = record {
  read = r.read;
  last = r.last;
  rest = r.rest;
  reads = r.reads;
  listens = r.listens;
  whole = r.whole;
  marked = r.marked;
  kept = r.kept;
  no_listen = r.no_listen;
  sites = r.sites;
  stations = r.stations;
  firsts = r.firsts;
  script = telling _ _ _ _ _ _ _ _
      (λ log t. on_through kept served
      ((reported : Option (List ℕ)) × Grows told reported × IsToldOf r.sites r.stations (contents_of r.firsts) log (lines_in (operator_input connections r.rest)) reported now)
      well t) r.script;
}

-- the answers of a new run, at other names of its input and of what its outputs had before
pub new_run : {N T : Type 0} (r : Result (Served N T) JournalFault) (journals : N → Option (List ℕ))
    (consoles : T → Option (List ℕ)) (sites : List SitePlan) (stations : List StationPlan)
    (before before' input input' told told' : Option (List ℕ))
    → before ≡ before' → input ≡ input' → told ≡ told'
    → IfOk r (λ s. IsNewRun sites stations before (left_of journals s) (TellsNew s.ended stations input told (consoles s.console)))
    → IfOk r (λ s. (e : Result (Unit {0}) JournalFault) → OnOk e (s.ended ≡ Ok tt) → IsNewRun sites stations before' (left_of journals s) (TellsNew e stations input' told' (consoles s.console)))
new_run (Ok s) journals consoles sites stations before before' input input' told told' b i t is = λ e well.
    new_through e s.ended sites stations before' (left_of journals s) input' told' (consoles s.console) well
    (subst (λ (x : Option (List ℕ)). IsNewRun sites stations x (left_of journals s) (TellsNew s.ended stations input' told' (consoles s.console))) b
    (subst (λ (x : Option (List ℕ)). IsNewRun sites stations before (left_of journals s) (TellsNew s.ended stations x told' (consoles s.console))) i
    (subst (λ (x : Option (List ℕ)). IsNewRun sites stations before (left_of journals s) (TellsNew s.ended stations input x (consoles s.console))) t is)))
new_run (Err f) journals consoles sites stations before before' input input' told told' b i t is = is

-- the same of a restored run
pub restored_run : {N T : Type 0} (r : Result (Served N T) JournalFault) (journals : N → Option (List ℕ))
    (consoles : T → Option (List ℕ)) (allows : Bool) (connections : Option ℕ)
    (before before' input input' told told' : Option (List ℕ))
    → before ≡ before' → input ≡ input' → told ≡ told'
    → IfOk r (λ s. IsRestoredRun allows input before (left_of journals s) (TellsRestored s.ended connections told (consoles s.console)))
    → IfOk r (λ s. (e : Result (Unit {0}) JournalFault) → OnOk e (s.ended ≡ Ok tt) → IsRestoredRun allows input' before' (left_of journals s) (TellsRestored e connections told' (consoles s.console)))
restored_run (Ok s) journals consoles allows connections before before' input input' told told' b i t is = λ e well.
    restored_through e s.ended allows connections input' before' (left_of journals s) told' (consoles s.console) well
    (subst (λ (x : Option (List ℕ)). IsRestoredRun allows input' x (left_of journals s) (TellsRestored s.ended connections told' (consoles s.console))) b
    (subst (λ (x : Option (List ℕ)). IsRestoredRun allows x before (left_of journals s) (TellsRestored s.ended connections told' (consoles s.console))) i
    (subst (λ (x : Option (List ℕ)). IsRestoredRun allows input before (left_of journals s) (TellsRestored s.ended connections x (consoles s.console))) t is)))
restored_run (Err f) journals consoles allows connections before before' input input' told told' b i t is = is

-- the same of simulated stations, which write nothing to the console
pub simulated_run : {N T : Type 0} (r : Result (Served N T) JournalFault) (journals : N → Option (List ℕ)) (consoles : T → Option (List ℕ)) (stations : ℕ) (console : T) (before : Option (List ℕ))
    → consoles console ≡ before
    → IfOk r (λ s. IsSimulatedRun stations (left_of journals s) × (s.console ≡ console))
    → IfOk r (λ s. (e : Result (Unit {0}) JournalFault) → OnOk e (s.ended ≡ Ok tt) → (consoles s.console ≡ before) × IsSimulatedRun stations (left_of journals s))
simulated_run (Ok s) journals consoles stations console before b is = λ e well. (ap consoles is.1 ∙ b, is.0)
simulated_run (Err f) journals consoles stations console before b is = is

-- each of two facts of a good end
on_both : {T E : Type 0} (r : Result T E) (P Q : Type 0) → OnOk r (P × Q) → OnOk r P × OnOk r Q
on_both (Ok _) P Q h = h
on_both (Err _) P Q h = (h, h)

-- the run of a server without a journal
pub unwritten_run : {W N T C E : Type 0} (contents : W → Option (List ℕ)) (nowhere : N → Option (List ℕ))
    (consoles : T → Option (List ℕ)) (reports : E → Option (List ℕ)) (errors : E) (ran : Ran W C E)
    (served : Result (Served N T) JournalFault)
    (holds : Left → Result (Unit {0}) JournalFault → Option (List ℕ) → Type 0)
    → IfOk served (λ s. (e : Result (Unit {0}) JournalFault) → OnOk e (s.ended ≡ Ok tt) → holds (left_of nowhere s) e (consoles s.console))
    → EndsUnwritten contents consoles reports errors served ran → IsUnwrittenRun contents reports errors ran holds
unwritten_run contents nowhere consoles reports errors ran (Err fault) holds h is = (Err fault, is, h)
unwritten_run contents nowhere consoles reports errors ran (Ok s) holds h is = (is.0, is.1, at is.0 is.3)
  where
    at : (e : Result (Unit {0}) JournalFault) → OnOk e ((s.ended ≡ Ok tt) × HasOutput contents ran.ended.output (λ now. Appends (consoles s.console) now s.boards.items))
        → OnOk e ((left : Left) × (answered : Option (List ℕ)) × holds left e answered × (left.passes ≡ ran.passes.items)
        × HasOutput contents ran.ended.output (λ now. Appends answered now left.boards))
    at (Ok u) w = (left_of nowhere s, consoles s.console, h (Ok u) w.0, sym (λ i. (is.2 i).items), w.1)
    at (Err f) w = w

-- the run of a server without a journal that found no memory
pub unwritten_failed : {W C E : Type 0} (contents : W → Option (List ℕ)) (reports : E → Option (List ℕ)) (errors : E)
    (ran : Ran W C E) (fault : JournalFault) (holds : Left → Result (Unit {0}) JournalFault → Option (List ℕ) → Type 0)
    → IsServerEnd reports errors ran.ended (Err fault) → IsUnwrittenRun contents reports errors ran holds
unwritten_failed contents reports errors ran fault holds is = (Err fault, is, tt)

-- the run of a server with a journal
pub journal_run : {W C E : Type 0} (contents : W → Option (List ℕ)) (consoles : C → Option (List ℕ))
    (reports : E → Option (List ℕ)) (errors : E) (ran : Ran W C E) (served : Result (Served W C) JournalFault)
    (holds : Left → Result (Unit {0}) JournalFault → Option (List ℕ) → Type 0)
    → IfOk served (λ s. (e : Result (Unit {0}) JournalFault) → OnOk e (s.ended ≡ Ok tt) → holds (left_of contents s) e (consoles s.console))
    → EndsJournalled consoles reports errors served ran → IsJournalRun contents consoles reports errors ran holds
journal_run {W} contents consoles reports errors ran (Err fault) holds h is =
    let ended : Result (Unit {0}) JournalFault = Err fault in
    let P : Option W → Type 0 =
    λ o. IfSome o (λ x. (answered : Option (List ℕ))
    × holds (record { now = contents x; buffer = []; broken = false; boards = []; passes = ran.passes.items }) ended answered
    × OnOk ended (HasOutput consoles ran.console (λ now. Appends answered now []))) in
    record { ended = ended; end = is.0; buffer = []; broken = false; boards = []; journal = subst P (sym is.1) h; given = h }
journal_run {W} contents consoles reports errors ran (Ok s) holds h is =
    let P : Option W → List Held
    → Type 0 = λ o ps. IfSome o
    (λ x. (answered : Option (List ℕ))
    × holds (record {
      now = contents x;
      buffer = s.unwritten.items;
      broken = s.is_broken;
      boards = s.boards.items;
      passes = ps;
    }) is.0 answered
    × OnOk is.0 (HasOutput consoles ran.console (λ now. Appends answered now s.boards.items))) in
    let both = on_both is.0 (s.ended ≡ Ok tt) (HasOutput consoles ran.console (λ now. Appends (consoles s.console) now s.boards.items)) is.4 in
    record {
      ended = is.0;
      end = is.1;
      buffer = s.unwritten.items;
      broken = s.is_broken;
      boards = s.boards.items;
      journal = subst (λ o. P o ran.passes.items) (sym is.2) (subst (λ ps. P (Some s.journal) ps) (sym (λ i. (is.3 i).items)) (consoles s.console, h is.0 both.0, both.1));
      given = subst (λ (o : Option W). OnOk is.0 (is_some o ≡ true)) (sym is.2) (always is.0);
    }
  where
    always : (e : Result (Unit {0}) JournalFault) → OnOk e (true ≡ true)
    always (Ok u) = refl
    always (Err f) = tt
