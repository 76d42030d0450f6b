use Rattle.std.proofs.Common.{Some, subst}
use Rattle.key_index.{specs.declared.filed.Mark.TheVariants.Live, specs.Entries.AreRising}
use Rattle.event_chain.{specs.Lists.AreOwn, specs.Placed.Placed, proofs.MarkedIndexes.marked_rising}
use Rattle.event_chain.proofs.place_index.PlaceIndex.live.Goals as goal

pub returns-clause-rising : goal.returns-clause-rising
returns-clause-rising c = subst (λ (x : Placed). AreRising x.live.entries) c.self.view_is (marked_rising (Some Live) c.self.inside.index.entries c.self.invariant.rising)

pub returns-clause-own : goal.returns-clause-own
returns-clause-own c = subst (λ (x : Placed). AreOwn x.live.entries) c.self.view_is c.self.invariant.listed.own
