-- The lines of an operator, as they are read.
use Rattle.std.specs.Prelude.{ℕ, List, Option}
use Rattle.script_lines.{specs.Lines.Line, specs.Reading.line_of}
use Rattle.running_desk.{specs.declared.orders.Orders.Orders, specs.Ordered.lines_in}

-- The lines of the reader's remaining bytes.
abbrev pub orders_coming : {I S R : Type 0} → (I → Option (List ℕ)) → Orders I S R → Option (List Line)
orders_coming remaining o = lines_in (remaining o.reader.input.now)

-- The line that was read last.
abbrev pub orders_last : {I S R : Type 0} → Orders I S R → Line
orders_last o = line_of o.end o.lines.max_line_bytes o.lines.held.items
