use Rattle.std.{proofs.Common.{ap, ◌∙◌, arith}, proofs.lemmas.List.take_all}
use Rattle.quarter_table.{specs.Pairs.{parts_toward, rows_with}, proofs.Several.part_more}
use Rattle.quarter_table.proofs.table.QuarterTable.try_share.Goals as goal

pub loop-part-preserved : goal.loop-part-preserved
loop-part-preserved c =
    part_more c.args.direction c.deref-part-items.result.now c.loop-part.part-index c.part-item.result c.args.self.now.rows c.loop-part.self.rows c.try_add.new.self.rows
    c.loop-part-test.true c.part-item.is c.loop-part.invariant c.in_ok-try_add.ensures.added

-- past the last part these are all
pub returns-clause-rows : goal.returns-clause-rows
returns-clause-rows c =
    let parts = c.deref-part-items.result.now in let d = c.args.direction in let rows = c.args.self.now.rows in
    c.loop-part.invariant
    ∙ ap (λ ts. rows_with (parts_toward d ts) rows) (take_all c.loop-part.part-index parts (omega (arith, c.loop-part-test.false)) ∙ c.deref-part-items.ensures.value ∙ c.in_ok-parts.ensures.parts)
