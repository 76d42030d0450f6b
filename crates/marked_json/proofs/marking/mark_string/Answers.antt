use Rattle.std.proofs.Common.{◌<◌, ◌+◌, ap, ◌∙◌, take, ◌++◌, arith}
use Rattle.marked_json.proofs.Marks.{completed-string, string_len-some_byte}
use Rattle.marked_json.proofs.marking.mark_string.Goals as goal

pub returns-clause-step : goal.returns-clause-step
returns-clause-step c =
    let inside = c.split_at.result.1.now in
    let count = c.put_string-count.result in
    let few = c.requires.few.0 in
    record {
      same =
          completed-string (take c.args.len c.args.out.now) (take (c.args.len + 2 + count) c.put_string-count.new.out) c.args.text.now
          inside c.args.at count c.requires.some c.requires.quote c.split_at.ensures.back c.put_string-count.ensures.value
          (c.put_string-count.ensures.put ∙ ap (λ xs. xs ++ take count inside) c.put_bytes.ensures.put);
      forward = omega arith;
      within = omega (arith, c.requires.some, c.put_string-count.ensures.within, c.split_at.ensures.back_len);
      few = (
        omega (arith, few),
        λ more _. let some : 0 < count = string_len-some_byte inside count (omega (arith, more, c.split_at.ensures.back_len)) c.put_string-count.ensures.value in omega (arith, few, some),
      );
    }
