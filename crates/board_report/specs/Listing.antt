-- The texts of a transaction's events and readings (this product's profile). Energies and levels are milliwatt-hours.
use Rattle.std.{specs.Prelude.{ℕ, Bool, not, ◌+◌, ◌%◌, ◌==◌, List, [], ◌∷◌, ◌++◌, Option, None, Some, codes, drop, take, if◌then◌else◌}, specs.List.{count_by, flat_map}, specs.Fmt.decimal}
use Rattle.event_chain.specs.declared.event_lines.EventLine.{EventLine}
use Rattle.ledger_model.{specs.Energy.{difference, parts_of}, specs.Event.MeterReading, specs.Parts.Part, specs.Periods.Periods, specs.declared.kind.Kind.Kind, specs.declared.kind.Kind.TheVariants.{Started, Updated, Ended}}
use Rattle.reading_decimal.specs.MomentText.{text_of}
use Rattle.reading_index.specs.declared.placed.PlacedReading.{PlacedReading}
use Rattle.station_ledger.specs.declared.listing.TxListing.{TxListing}
use Rattle.board_report.specs.Texts.{field, flow_fields, energy_fields, line, order_field, settle_field, start_text}

-- The kind of an event.
abbrev pub kind_text : Kind → List ℕ
kind_text Started = codes "Started"
kind_text Updated = codes "Updated"
kind_text Ended = codes "Ended"

-- The nanoseconds of a moment behind its whole second, in nine digits: those of a thousand million more, without the
-- first.
abbrev pub nanos_text : ℕ → List ℕ
nanos_text moment = drop 1 (decimal (1_000_000_000 + moment % 1_000_000_000))

-- A moment as `2026-03-01T10:00:00Z`, or to the nanosecond as `2026-03-01T10:00:00.500000000Z`.
abbrev pub exact_text : ℕ → List ℕ
exact_text moment =
    if moment % 1_000_000_000 == 0 then text_of moment
    else take 19 (text_of moment) ++ 46 ∷ (nanos_text moment ++ 90 ∷ [])

-- ` live` or ` voided`
abbrev pub voided_text : Bool → List ℕ
voided_text voided = if voided then codes " voided" else codes " live"

-- `event <number> <kind> <moment> evse=<n> readings=<n> <live or voided>`
unfoldable pub event_line : EventLine → List ℕ
event_line e =
    line (field (codes "event ") e.number ++ (codes " " ++ (kind_text e.kind ++ (codes " " ++ (exact_text e.moment
    ++ (field (codes " evse=") e.evse ++ (field (codes " readings=") e.readings ++ voided_text e.voided)))))))

-- `events <station> <transaction> live=<n> voided=<n>`
unfoldable pub events_heading : List ℕ → List ℕ → List EventLine → List ℕ
events_heading name tx es =
    line (codes "events " ++ (name ++ (codes " " ++ (tx
    ++ (field (codes " live=") (count_by (λ e. not e.voided) es) ++ field (codes " voided=") (count_by (λ e. e.voided) es))))))

-- The list of a transaction's events.
abbrev pub events_text : List ℕ → List ℕ → TxListing → List ℕ
events_text name tx l = events_heading name tx l.events ++ (flat_map event_line l.events ++ line (codes "end"))

-- `import <number>.<place> <moment> <level>`, or the same with `export`
unfoldable pub reading_fields : List ℕ → PlacedReading → List ℕ
reading_fields word r = field word r.number ++ (field (codes ".") r.place ++ (codes " " ++ (exact_text r.reading.moment ++ field (codes " ") r.reading.mwh)))

-- `part <start of a period> up=<n> down=<n>`
unfoldable pub part_line : Periods → Part → List ℕ
part_line period t = line (codes "part " ++ (start_text period t.0 ++ flow_fields t.1.up t.1.down))

-- A reading's line, with what it and the one before show; behind it the parts of that.
unfoldable pub reading_text : List ℕ → Periods → Option MeterReading → PlacedReading → List ℕ
reading_text word period None r = line (reading_fields word r)
reading_text word period (Some before) r =
    let e = difference (before, r.reading) in
    line (reading_fields word r ++ flow_fields e.up e.down) ++ flat_map (part_line period) (parts_of period (before, r.reading))

-- The lines of readings in a row, behind the one before if there is one.
abbrev pub readings_behind : List ℕ → Periods → Option MeterReading → List PlacedReading → List ℕ
readings_behind word period before [] = []
readings_behind word period before (r ∷ rs) = reading_text word period before r ++ readings_behind word period (Some r.reading) rs

-- `readings <station> <transaction>`, the order of readings if it is not by sequence, the rule of settling if it is not
-- by the later reading, and the energies
unfoldable pub readings_heading : List ℕ → List ℕ → TxListing → List ℕ
readings_heading name tx l =
    line (codes "readings " ++ (name ++ (codes " " ++ (tx ++ (order_field l.order ++ (settle_field l.period.rule ++ energy_fields l.energy))))))

-- The list of a transaction's live readings: of the import register, and then of the export register.
abbrev pub readings_text : List ℕ → List ℕ → TxListing → List ℕ
readings_text name tx l =
    readings_heading name tx l
    ++ (readings_behind (codes "import ") l.period None l.imported ++ (readings_behind (codes "export ") l.period None l.exported ++ line (codes "end")))
