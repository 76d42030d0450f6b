use Rattle.std.proofs.Common.{◌∷◌, ◌∙◌, sym, ap, subst, length, take, ◌-◌, arith}
use Rattle.board_report.{specs.Lines.{put_line, CanLead}, proofs.SumLemmas.{can_lead, last_apart, sums_more}}
use Rattle.board_report.proofs.sums.falling_sums.Goals as goal

-- the last of what is left can be added
pub add_line-requires : goal.add_line-requires
add_line-requires c =
    let k = c.loop-left.invariant in
    let left = c.loop-left.left.now in
    subst (CanLead c.last-item.result) (sym k.1.1)
    (can_lead (take (length left - 1) left) c.last-item.result k.0 c.args.lines.now
    (last_apart left c.last-item.result k.0 (omega (arith, c.in-len1-up.len_at_least)) c.last-item.is ∙ k.1.0) c.requires.order
    c.requires.fit)

-- and gives the sums of one line more
pub loop-left-preserved : goal.loop-left-preserved
loop-left-preserved c =
    let k = c.loop-left.invariant in
    let left = c.loop-left.left.now in (
      c.last-item.result ∷ k.0,
      (
        last_apart left c.last-item.result k.0 (omega (arith, c.in-len1-up.len_at_least)) c.last-item.is ∙ k.1.0,
        c.in_ok-add_line.ensures ∙ ap (put_line c.last-item.result) k.1.1 ∙ sums_more c.last-item.result k.0,
      ),
    )
