-- A script that is answered line by line, before and after its ledgers are opened.
use Rattle.std.{specs.Prelude.{ℕ, Bool, List, Option, None, Some, refl}, specs.Coded.{Coded, code_by, coded×, coded_bool, coded_list, coded_ℕ}}
use Rattle.ledger_model.specs.contracts.order.Order as orders
use Rattle.ledger_model.{specs.Periods.{Periods, periods_code}, specs.declared.order.Order.Order, specs.Content.Content, specs.Limits.Bounds, specs.World.Station}
use Rattle.script_ledgers.{specs.declared.opened_script.OpenedScript.OpenedScript, specs.declared.script_state.Declared.Declared, specs.Drafts.planned, specs.Running.{posts_in, running}, specs.Script.{Script, opened_script, start}}
use Rattle.site_book.specs.declared.naming.Naming.{Ghosts}
use Rattle.station_ledger.specs.Ledger.{bounds_code, content_code}

-- The state of a script, and how many posts were made in all.
pub record State : Type 0 where
  pub script : Script
  pub posts : ℕ

-- The script of opened ledgers.
abbrev pub script_of : {J : Type 0} {named : Ghosts J} → OpenedScript J named → Script
script_of o = running o.draft o.cells.items

-- How many posts were made in all.
abbrev pub posts_of : {J : Type 0} {named : Ghosts J} → OpenedScript J named → ℕ
posts_of o = posts_in o.books.items

-- The state with its ledgers opened. If there was no memory for them, there are none, and nothing is
-- said about the state.
abbrev pub opened_state : {J : Type 0} {named : Ghosts J} → Option (OpenedScript J named) → State
opened_state None = record { script = opened_script start; posts = 0 }
opened_state (Some o) = record { script = script_of o; posts = posts_of o }

-- The state: its declarations, until the ledgers are opened.
abbrev pub state_of : {J : Type 0} {named : Ghosts J} → Option Declared → Option (OpenedScript J named) → State
state_of None opened = opened_state opened
state_of (Some d) opened = record { script = planned d.draft; posts = 0 }

-- Stations, scripts and states are kept as the tuples of their parts.
abbrev pub station_code : Coded Station
station_code =
    code_by (List ℕ × (List ℕ × (Bounds × Content)))
    (coded× (coded_list coded_ℕ) (coded× (coded_list coded_ℕ) (coded× bounds_code content_code)))
    (λ s. (s.site, (s.name, (s.limits, s.content)))) (λ p. record { site = p.0; name = p.1.0; limits = p.1.1.0; content = p.1.1.1 })
    (λ _. refl)

abbrev pub script_code : Coded Script
script_code =
    code_by (Bounds × (List (List ℕ) × (List Periods × (List Order × (List Station × (Bool × ℕ))))))
    (coded× bounds_code (coded× (coded_list (coded_list coded_ℕ))
    (coded× (coded_list periods_code) (coded× (coded_list orders.the_row.coded) (coded× (coded_list station_code) (coded× coded_bool coded_ℕ))))))
    (λ s. (s.limits, (s.sites, (s.periods, (s.orders, (s.world, (s.opened, s.moment)))))))
    (λ p. record { limits = p.0; sites = p.1.0; periods = p.1.1.0; orders = p.1.1.1.0; world = p.1.1.1.1.0; opened = p.1.1.1.1.1.0; moment = p.1.1.1.1.1.1 })
    (λ _. refl)

abbrev pub state_code : Coded State
state_code = code_by (Script × ℕ) (coded× script_code coded_ℕ) (λ s. (s.script, s.posts)) (λ p. record { script = p.0; posts = p.1 }) (λ _. refl)
