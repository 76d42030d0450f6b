use Rattle.std.{proofs.Common.{◌+◌, ◌<◌, ◌≤◌, length, take, arith, subst, refl, length-take, length-take-le}, specs.Io.KnownBytes.Consumes, specs.Io.BufRead.FillKeeps, proofs.BufReadLemmas.Consumes_shown}
use Rattle.script_lines.proofs.Pieces.{nonempty, front_again, found_none, none_before, line_in_front, part_told, line_told}
use Rattle.script_lines.proofs.line_reader.piece.read_piece.Goals as goal

pub returns-then-room-eq0-clause-takes : goal.returns-then-room-eq0-clause-takes
returns-then-room-eq0-clause-takes g c =
    let shown = c.in-Ok.shown.now in
    let rested = c.fill_buf.follows.lender-at-none in
    let filled = subst (FillKeeps _ (g.R.Read.remaining rested) (g.R.BufRead.consumable_len rested)) c.in-Ok.is c.fill_buf.follows.holds-at-none in
    let some = nonempty (length shown) c.if-is_empty.ensures in
    let moved = Consumes_shown _ _ _ _ shown 1 some c.in-Ok.ensures.front c.in-Ok.ensures.end filled.0 filled.1 c.consume.ensures.bytes in
    (take 1 shown, moved.0, (c.if-room-eq0.true, length-take-le 1 shown some))

pub returns-in-Some-clause-takes : goal.returns-in-Some-clause-takes
returns-in-Some-clause-takes g c =
    let shown = c.in-Ok.shown.now in
    let near = take c.min.result shown in
    let rested = c.fill_buf.follows.lender-at-none in
    let filled = subst (FillKeeps _ (g.R.Read.remaining rested) (g.R.BufRead.consumable_len rested)) c.in-Ok.is c.fill_buf.follows.holds-at-none in
    let at = c.in-Some.at in
    let feed = line_in_front c.min.result at shown c.in-Some.ensures.0.high c.in-Some.ensures.1 in
    let within : at + 1 ≤ length shown = omega (arith, length-take c.min.result shown, c.in-Some.ensures.0.high) in
    let moved = Consumes_shown _ _ _ _ shown (at + 1) within c.in-Ok.ensures.front c.in-Ok.ensures.end filled.0 filled.1 c.consume-in-Some.ensures.bytes in
    let fits : length (take (at + 1) shown) ≤ c.args.room = omega (arith, feed.0, feed.1, c.min.ensures) in
    let told = c.piece_where_kept.ensures in
    (take (at + 1) shown, moved.0, line_told _ _ _ _ _ _ _ _ _ fits (take at near) told.ok told.err feed.0 (none_before near at c.in-Some.ensures.0) feed.2 c.keep-kept.ensures)

pub returns-in-None-clause-takes : goal.returns-in-None-clause-takes
returns-in-None-clause-takes g c =
    let shown = c.in-Ok.shown.now in
    let near = take c.min.result shown in
    let rested = c.fill_buf.follows.lender-at-none in
    let filled = subst (FillKeeps _ (g.R.Read.remaining rested) (g.R.BufRead.consumable_len rested)) c.in-Ok.is c.fill_buf.follows.holds-at-none in
    let within : length near ≤ length shown = omega (arith, length-take c.min.result shown) in
    let moved = Consumes_shown _ _ _ _ shown (length near) within c.in-Ok.ensures.front c.in-Ok.ensures.end filled.0 filled.1 c.consume-in-None.ensures.bytes in
    let some = nonempty (length shown) c.if-is_empty.ensures in
    let long : 0 < length near = omega (arith, length-take c.min.result shown, c.min.ensures, c.if-room-eq0.false) in
    let fits : length near ≤ c.args.room = omega (arith, length-take c.min.result shown, c.min.ensures) in
    let told = c.piece_where_kept-in-None.ensures in
    (near, subst (Consumes _ _) (front_again c.min.result shown) moved.0, part_told _ _ _ _ _ _ _ _ _ fits told.ok told.err refl long (found_none near c.in-None.ensures) c.keep-kept-in-None.ensures)
