-- A journal's text behind a script leaves what its entries leave.
use Rattle.std.{proofs.Common.{◌≡◌, ℕ, zero, suc, ◌<◌, List, [], ◌∷◌, ◌++◌, Some, map, length, true, refl, sym, ap, subst, ◌∙◌, arith}, proofs.lemmas.Slice.Eq.bytes_eq-Decides}
use Rattle.kept_desk.{specs.declared.entry.Entry.Entry, specs.Entries.text_of}
use Rattle.ledger_model.{specs.declared.command.Command.Command, specs.World.run}
use Rattle.script_lines.{specs.Lines.lines_of, specs.Ranges.longest_line}
use Rattle.script_ledgers.{specs.Drafts.{planned_world, site_name}, specs.Running.filled, specs.Script.{Script, new_station, start, script_after}}
use Rattle.site_desk.{specs.declared.plan.SitePlan.SitePlan, specs.declared.plan.StationPlan.StationPlan, specs.Cell.Cell}
use Rattle.journal_script.{specs.Journals.{JournalsAreScripts, station_name}, proofs.Contents.all_left, proofs.Steps.{Has, asked_in, has_here, has_more, takes_lines, takes_text}, proofs.Whole.{after_both, lines_apart}}

-- each station of a plan is found by its name
has_all : (sites : List SitePlan) (stations : List StationPlan) (cells : List Cell) → length cells ≡ length stations → (k : ℕ)
    → k < length stations → Has (filled (planned_world sites stations) cells) (station_name stations k)
has_all sites [] cells same k less = absurd (omega arith)
has_all sites (s ∷ stations) [] same k less = absurd (omega arith)
has_all sites (s ∷ stations) (c ∷ cells) same zero less =
    let first = record (new_station s.limits (site_name sites s.site) s.name) { content = c.content } in
    has_here first (filled (planned_world sites stations) cells) s.name true ((bytes_eq-Decides s.name s.name).1 refl) (λ e. cc e)
has_all sites (s ∷ stations) (c ∷ cells) same (suc k) less =
    let first = record (new_station s.limits (site_name sites s.site) s.name) { content = c.content } in
    has_more first (filled (planned_world sites stations) cells) (station_name stations k) (has_all sites stations cells (omega arith) k (omega arith))

pub journals_are_scripts : JournalsAreScripts
journals_are_scripts read sites stations firsts cells log whole once shows all left =
    let s = script_after start (lines_of longest_line read) in
    let after : script_after start (lines_of longest_line (read ++ text_of log)) ≡ script_after s (map (λ (e : Entry). Some e.line) log) =
    ap (script_after start) (lines_apart longest_line read (text_of log) whole)
    ∙ after_both start (lines_of longest_line read) (lines_of longest_line (text_of log))
    ∙ takes_text stations s log all in
    let has = λ (k : ℕ) (less : k < length stations). subst (λ w. Has w (station_name stations k)) (sym shows.world_is) (has_all sites stations firsts left.count_first k less) in
    let took = takes_lines stations s log all has in
    record {
      sites_are = ap (λ (t : Script). t.sites) after ∙ took.1.sites ∙ shows.sites_are;
      periods_are = ap (λ (t : Script). t.periods) after ∙ took.1.periods ∙ shows.periods_are;
      orders_are = ap (λ (t : Script). t.orders) after ∙ took.1.orders ∙ shows.orders_are;
      world_is = ap (λ (t : Script). t.world) after ∙ took.0 ∙ ap (λ w. run w (asked_in stations log)) shows.world_is ∙ all_left sites stations firsts cells log once.stations_once all left;
    }
