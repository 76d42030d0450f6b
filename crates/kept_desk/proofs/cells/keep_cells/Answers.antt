use Rattle.std.{proofs.Common.{◌≡◌, ◌+◌, [], ◌∷◌, ◌++◌, length, refl, ap, sym, ◌∙◌, arith}, proofs.lemmas.Iterator.Adapters.YieldsList-from_vec, proofs.lemmas.Iterator.Consumers.YieldsList-turn, proofs.lemmas.List.length_push, proofs.lemmas.Option.slice_get_read}
use Rattle.kept_desk.proofs.cells.keep_cells.Goals as goal

pub enlist-share-requires : goal.enlist-share-requires
enlist-share-requires g c =
    let items = c.args.cells.items in
    let gives = c.into_iter-cell-iterator.ensures.into_iter_gives in
    let turn = YieldsList-turn (YieldsList-from_vec items gives.0 (gives.1 ∙ c.args.cells.ok.0)) c.loop-cell.yielded
    _ c.loop-cell.yielded_by c.next.result c.next.new.self c.in-Some.cell c.in-Some.is c.next.ensures.steps in
    let own = c.requires.first (length c.loop-cell.yielded) c.in-Some.cell (slice_get_read items (length items) (length c.loop-cell.yielded) c.in-Some.cell refl turn.0 turn.1) in
    let shares = c.loop-cell.invariant.shares in
    omega (arith, shares, own.0, c.station.ensures)

pub new-requires-clause-first : goal.new-requires-clause-first
new-requires-clause-first g c =
    let items = c.args.cells.items in
    let gives = c.into_iter-cell-iterator.ensures.into_iter_gives in
    let turn = YieldsList-turn (YieldsList-from_vec items gives.0 (gives.1 ∙ c.args.cells.ok.0)) c.loop-cell.yielded
    _ c.loop-cell.yielded_by c.next.result c.next.new.self c.in-Some.cell c.in-Some.is c.next.ensures.steps in
    let own = c.requires.first (length c.loop-cell.yielded) c.in-Some.cell (slice_get_read items (length items) (length c.loop-cell.yielded) c.in-Some.cell refl turn.0 turn.1) in
    own.1 ∙ ap g.K.Opening.first (sym own.0)

pub loop-cell-preserved : goal.loop-cell-preserved
loop-cell-preserved g c =
    let items = c.args.cells.items in
    let gives = c.into_iter-cell-iterator.ensures.into_iter_gives in
    let turn = YieldsList-turn (YieldsList-from_vec items gives.0 (gives.1 ∙ c.args.cells.ok.0)) c.loop-cell.yielded
    _ c.loop-cell.yielded_by c.next.result c.next.new.self c.in-Some.cell c.in-Some.is c.next.ensures.steps in
    let own = c.requires.first (length c.loop-cell.yielded) c.in-Some.cell (slice_get_read items (length items) (length c.loop-cell.yielded) c.in-Some.cell refl turn.0 turn.1) in
    let more : c.enlist-share.new.self.shares ≡ c.station.result + 1 = ap (λ j. j.shares) c.enlist-share.ensures.journal in
    record {
      kept = c.in_ok-push.ensures.items ∙ (λ i. c.loop-cell.invariant.kept i ++ c.new.ensures i ∷ []);
      entries = ap (λ j. j.entries) c.enlist-share.ensures.journal ∙ c.loop-cell.invariant.entries;
      shares = omega (arith, more, own.0, c.station.ensures, length_push c.loop-cell.yielded c.in-Some.cell);
    }
