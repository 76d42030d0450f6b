use Rattle.std.proofs.Common.{None, subst}
use Rattle.event_chain.{specs.Placed.Placed, proofs.MarkedIndexes.marked_rising}
use Rattle.key_index.specs.Entries.{AreRising}
use Rattle.event_chain.proofs.place_index.PlaceIndex.stored.Goals as goal

pub returns-clause-rising : goal.returns-clause-rising
returns-clause-rising c = subst (λ (x : Placed). AreRising x.stored.entries) c.self.view_is (marked_rising None c.self.inside.index.entries c.self.invariant.rising)
