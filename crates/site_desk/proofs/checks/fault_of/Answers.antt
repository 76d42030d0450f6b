use Rattle.site_desk.proofs.checks.fault_of.Goals as goal

pub returns-then-are_viewed-clause-whole : goal.returns-then-are_viewed-clause-whole
returns-then-are_viewed-clause-whole g c = record {
  all_passes = c.are_all_passes.ensures c.if-not-are_all_passes.false;
  all_viewers = c.if-viewers-given.false;
  whole = c.are_whole-is_whole.ensures c.if-is_whole.true;
  summed = c.are_summed.ensures c.if-are_summed.true;
  viewed = c.are_viewed.ensures c.if-are_viewed.true;
}
