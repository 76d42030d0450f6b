use Rattle.std.proofs.Common.{◌≡◌, get_or}
use Rattle.marked_json.proofs.Places.{marked_key}
use Rattle.marked_json.proofs.node.is_marked.Goals as goal

pub returns-in-36 : goal.returns-in-36
returns-in-36 c =
    let first : get_or c.args.key.now 0 0 ≡ 36 = cc in
    marked_key c.args.key.now c.args.name.now c.eq.result first (cc)
