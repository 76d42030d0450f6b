use Rattle.std.proofs.Common.{rules, length, take, ◌-◌}
use Rattle.gathered_input.proofs.GatheredMore.{gathered_more}
use Rattle.gathered_input.proofs.input.gather.Goals as goal

pub more-preserved : goal.more-preserved
more-preserved g c = (
  search (rules),
  search (rules),
  gathered_more (g.R.Read.remaining c.args.input.now) (g.R.Read.remaining c.more.input) (g.R.Read.remaining c.read.new.self)
      c.more.count c.in-Ok.more (length c.more.buf - c.more.count) c.more.buf c.read.new.buf (take c.args.first c.args.buf.now) c.more.invariant.2.0
      c.more.invariant.0 c.in-Ok.ensures.bound.0 c.more.invariant.2.2 c.more.invariant.2.1 c.in-Ok.ensures.bytes.0,
)

pub returns-then-more-lt-MUCH-clause-bytes : goal.returns-then-more-lt-MUCH-clause-bytes
returns-then-more-lt-MUCH-clause-bytes g c =
    gathered_more (g.R.Read.remaining c.args.input.now) (g.R.Read.remaining c.more.input) (g.R.Read.remaining c.read.new.self)
    c.more.count c.in-Ok.more (length c.more.buf - c.more.count) c.more.buf c.read.new.buf (take c.args.first c.args.buf.now) c.more.invariant.2.0
    c.more.invariant.0 c.in-Ok.ensures.bound.0 c.more.invariant.2.2 c.more.invariant.2.1 c.in-Ok.ensures.bytes.0
