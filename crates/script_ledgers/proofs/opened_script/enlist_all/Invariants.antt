use Rattle.std.proofs.Common.{◌≡◌, ◌∷◌, [], length, map, take}
use Rattle.site_desk.specs.Cell.{Cell, new_tally}
use Rattle.script_ledgers.proofs.Enlisted.{turned}
use Rattle.script_ledgers.proofs.opened_script.enlist_all.Given as goal

abbrev pub invariant-loop-cell : goal.invariant-loop-cell
invariant-loop-cell l =
    (l.cell-items ≡ turned (λ (c : Cell). record c { counts = 0 ∷ [] }) l.cell-index l.fn.cells.items)
    × (l.tallies.items ≡ map (λ (c : Cell). new_tally c.station 0) (take l.cell-index l.fn.cells.items))
    × (l.cell-index-end ≡ length l.fn.cells.items)
