use Rattle.marked_json.proofs.Marks.{string_len-first_quote}
use Rattle.marked_json.proofs.marking.put_string.Goals as goal

pub returns-in-Some-clause-value : goal.returns-in-Some-clause-value
returns-in-Some-clause-value c =
    let first = c.in-Some.ensures.first in
    string_len-first_quote c.args.rest.now c.in-Some.stop first.0 c.if-rest-stop-eq34.true
