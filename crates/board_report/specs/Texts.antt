-- The text of a board (this product's profile). Numbers are plain decimals, and energies are milliwatt-hours.
use Rattle.std.{specs.Prelude.{ℕ, Bool, List, [], ◌∷◌, ◌++◌, codes, if◌then◌else◌}, specs.List.flat_map, specs.Fmt.decimal}
use Rattle.energy_flow.specs.Flow.{Energy}
use Rattle.ledger_model.{specs.Periods.Periods, specs.declared.settle.Settle.Settle, specs.declared.settle.Settle.TheVariants.{Later, Closing, Even}, specs.declared.figures.Figures.Figures, specs.declared.order.Order.Order, specs.declared.order.Order.TheVariants.{Sequence, Moment}, specs.declared.by_direction.ByDirection.ByDirection, specs.Board.{Board, Flowed, Shown}, specs.Gaps.Gap}
use Rattle.reading_decimal.{specs.MomentText.text_of, specs.Quarter.quarter_start}
use Rattle.board_report.specs.Named.{NamedBoard}

-- A label, and a number behind it.
unfoldable pub field : List ℕ → ℕ → List ℕ
field label number = label ++ decimal number

-- A text, and a line feed behind it.
abbrev pub line : List ℕ → List ℕ
line text = text ++ 10 ∷ []

-- ` up=<n> down=<n>`
abbrev pub flow_fields : ℕ → ℕ → List ℕ
flow_fields up down = field (codes " up=") up ++ field (codes " down=") down

-- ` up=<n> down=<n> export_up=<n> export_down=<n>`
unfoldable pub flows_fields : ℕ → ℕ → ℕ → ℕ → List ℕ
flows_fields up down export_up export_down =
    field (codes " up=") up ++ (field (codes " down=") down
    ++ (field (codes " export_up=") export_up ++ field (codes " export_down=") export_down))

-- the same fields of energies
abbrev pub energy_fields : ByDirection Energy → List ℕ
energy_fields e = flows_fields e.import.up e.import.down e.export.up e.export.down

-- `energy up=<n> down=<n>`
abbrev pub energy_text : Energy → List ℕ
energy_text flow = codes "energy" ++ flow_fields flow.up flow.down

-- `export up=<n> down=<n>`
abbrev pub export_text : Energy → List ℕ
export_text flow = codes "export" ++ flow_fields flow.up flow.down

-- `total events=<n> voided=<n> transactions=<n> complete=<n> missing=<n> up=<n> down=<n> export_up=<n> export_down=<n>`
unfoldable pub total_text : Figures → List ℕ
total_text f =
    field (codes "total events=") f.events ++ (field (codes " voided=") f.voided
    ++ (field (codes " transactions=") f.transactions ++ (field (codes " complete=") f.complete
    ++ (field (codes " missing=") f.missing ++ flows_fields f.up f.down f.export_up f.export_down))))

-- The text of the first moment of a period of this length.
unfoldable pub start_text : Periods → ℕ → List ℕ
start_text period quarter = text_of (quarter_start period.length quarter)

-- `period <start> up=<n> down=<n> export_up=<n> export_down=<n>`
unfoldable pub quarter_line : Periods → Flowed → List ℕ
quarter_line period q = line (codes "period " ++ (start_text period q.0 ++ energy_fields q.1))

-- `evse <n> up=<n> down=<n> export_up=<n> export_down=<n>`
unfoldable pub evse_line : Flowed → List ℕ
evse_line e = line (field (codes "evse ") e.0 ++ energy_fields e.1)

-- `yes` or `no`
abbrev pub yes_or_no : Bool → List ℕ
yes_or_no is = if is then codes "yes" else codes "no"

-- ` evse=<n> events=<n> first=<n> last=<n>`
unfoldable pub events_fields : Shown → List ℕ
events_fields t =
    field (codes " evse=") t.evse ++ (field (codes " events=") t.events
    ++ (field (codes " first=") t.first ++ field (codes " last=") t.last))

-- ` complete=<yes or no> missing=<n>`
unfoldable pub completeness_fields : Shown → List ℕ
completeness_fields t = codes " complete=" ++ (yes_or_no t.complete ++ field (codes " missing=") t.missing)

-- `tx <id> evse=<n> events=<n> first=<n> last=<n> complete=<yes or no> missing=<n> up=<n> down=<n> export_up=<n> export_down=<n>`
unfoldable pub transaction_line : Shown → List ℕ
transaction_line t = line (codes "tx " ++ (t.tx ++ (events_fields t ++ (completeness_fields t ++ energy_fields t.energy))))

-- `gap <from>..<to>`
unfoldable pub gap_line : Gap → List ℕ
gap_line gap = line (field (codes "gap ") gap.0 ++ field (codes "..") gap.1)

-- A transaction's line, and those of its gaps.
unfoldable pub transaction_text : Shown → List ℕ
transaction_text t = transaction_line t ++ flat_map gap_line t.gaps

-- The lines of a station: its name, its total, its EVSEs, its periods, and its transactions, each with its gaps.
unfoldable pub station_text : List ℕ × Board → List ℕ
station_text s =
    line (codes "station " ++ s.0) ++ (line (total_text s.1.figures) ++ (flat_map evse_line s.1.evses
    ++ (flat_map (quarter_line s.1.period) s.1.quarters ++ flat_map transaction_text s.1.transactions)))

-- Nothing for readings by sequence, ` order=moment` for readings by moment.
abbrev pub order_field : Order → List ℕ
order_field Sequence = []
order_field Moment = codes " order=moment"

-- ` settle=closing` if differences count in the period that their later reading closes, ` settle=even` if they are
-- shared by time
abbrev pub settle_field : Settle → List ℕ
settle_field Later = []
settle_field Closing = codes " settle=closing"
settle_field Even = codes " settle=even"

-- `board <name> period=<seconds>`, the order of readings if it is not by sequence, and the rule of
-- settling if it is not by the later reading
unfoldable pub heading : List ℕ → Periods → Order → List ℕ
heading name period order = line (codes "board " ++ (name ++ (field (codes " period=") period.length ++ (order_field order ++ settle_field period.rule))))

-- The text of a site's board: its name with its settlement periods and its order of readings, its
-- total, its periods, its stations, and `end`.
abbrev pub board_text : NamedBoard → List ℕ
board_text b =
    heading b.name b.period b.order ++ (line (total_text b.figures) ++ (flat_map (quarter_line b.period) b.quarters
    ++ (flat_map station_text b.stations ++ line (codes "end"))))
