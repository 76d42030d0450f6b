-- What a fault prints.
use Rattle.std.specs.Prelude.{ℕ, List, codes}
use Rattle.marked_json.{specs.declared.fault.JsonFault.JsonFault, specs.declared.fault.JsonFault.TheVariants.{BadNumber, NumberAsKey, NotJson, OutOfMemory}}

-- the words of a fault
abbrev pub message_of : JsonFault → List ℕ
message_of BadNumber = codes "a number outside the grammar of JSON"
message_of NumberAsKey = codes "a number as a key"
message_of NotJson = codes "not JSON"
message_of OutOfMemory = codes "out of memory"
