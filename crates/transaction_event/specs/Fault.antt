-- The faults of a payload by number and name.
use Rattle.std.specs.Prelude.{ℕ, List, codes}
use Rattle.transaction_event.{specs.declared.fault.PayloadFault.PayloadFault, specs.declared.fault.PayloadFault.TheVariants.{Format, Missing, WrongType, Range, TooManyReadings, Decimal, Moment, OutOfMemory}}

-- The number of a fault, from 1 to 8.
abbrev pub fault_number : PayloadFault → ℕ
fault_number Format = 1
fault_number Missing = 2
fault_number WrongType = 3
fault_number Range = 4
fault_number TooManyReadings = 5
fault_number Decimal = 6
fault_number Moment = 7
fault_number OutOfMemory = 8

-- The name of a fault, as it is printed.
abbrev pub fault_name : PayloadFault → List ℕ
fault_name Format = codes "Format"
fault_name Missing = codes "Missing"
fault_name WrongType = codes "WrongType"
fault_name Range = codes "Range"
fault_name TooManyReadings = codes "TooManyReadings"
fault_name Decimal = codes "Decimal"
fault_name Moment = codes "Moment"
fault_name OutOfMemory = codes "OutOfMemory"
