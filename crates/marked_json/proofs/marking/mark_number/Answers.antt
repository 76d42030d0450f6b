use Rattle.std.{proofs.Common.{◌≡◌, ◌<◌, ◌≤◌, ◌+◌, ◌*◌, ap, sym, ◌++◌, ◌∷◌, [], ◌∙◌, false, true, take, drop, length, arith}, specs.List.prefix_len, proofs.lemmas.List.drop-drop}
use Rattle.marked_json.{specs.Number.is_number, specs.Marking.{is_before_colon, goes_on_number, marked, outside}, specs.Steps.completed, proofs.Marks.{completed-token_at, marked_token-bad, marked_token-key, marked_token-good, token_is_some, token_is_whole}}
use Rattle.marked_json.proofs.marking.mark_number.Goals as goal

pub returns-then-not-is_number-clause-err : goal.returns-then-not-is_number-clause-err
returns-then-not-is_number-clause-err c =
    let old = take c.args.len c.args.out.now in
    let token = c.split_at-2.result.0.now in
    let left = c.split_at-2.result.1.now in
    let count = c.token_len-count.result in
    let bad : is_number token ≡ false = cc in
    completed-token_at old c.args.text.now token left c.args.at count c.requires.some c.requires.begins
    (c.token_len-count.ensures.value ∙ ap (prefix_len goes_on_number) c.split_at.ensures.back)
    (c.split_at-2.ensures.front ∙ ap (take count) c.split_at.ensures.back)
    (c.split_at-2.ensures.back ∙ ap (drop count) c.split_at.ensures.back)
    ∙ marked_token-bad old token left (marked outside left) bad

pub returns-then-is_before_colon-clause-err : goal.returns-then-is_before_colon-clause-err
returns-then-is_before_colon-clause-err c =
    let old = take c.args.len c.args.out.now in
    let token = c.split_at-2.result.0.now in
    let left = c.split_at-2.result.1.now in
    let count = c.token_len-count.result in
    let good : is_number token ≡ true = cc in
    let key : is_before_colon left ≡ true = cc in
    completed-token_at old c.args.text.now token left c.args.at count c.requires.some c.requires.begins
    (c.token_len-count.ensures.value ∙ ap (prefix_len goes_on_number) c.split_at.ensures.back)
    (c.split_at-2.ensures.front ∙ ap (take count) c.split_at.ensures.back)
    (c.split_at-2.ensures.back ∙ ap (drop count) c.split_at.ensures.back)
    ∙ marked_token-key old token left (marked outside left) good key

pub returns-clause-step : goal.returns-clause-step
returns-clause-step c =
    let old = take c.args.len c.args.out.now in
    let token = c.split_at-2.result.0.now in
    let left = c.split_at-2.result.1.now in
    let count = c.token_len-count.result in
    let new = take (c.args.len + 3 + count) c.put_byte.new.out in
    let good : is_number token ≡ true = cc in
    let no_key : is_before_colon left ≡ false = cc in
    let long : length token ≡ count = c.split_at-2.ensures.front_len in
    let last : take (c.args.len + 3 + count) c.put_byte.new.out ≡ take ((c.args.len + 2 + count) + 1) c.put_byte.new.out =
    ap (λ n. take n c.put_byte.new.out) (let e : c.args.len + 3 + count ≡ (c.args.len + 2 + count) + 1 = omega arith in e) in
    let middle : take (c.args.len + 2 + count) c.put_bytes-2.new.out ≡ take (c.args.len + 2) c.put_bytes.new.out ++ token =
    ap (λ n. take (c.args.len + 2 + n) c.put_bytes-2.new.out) (sym long) ∙ c.put_bytes-2.ensures.put in
    let added : new ≡ ((old ++ 34 ∷ 35 ∷ []) ++ token) ++ 34 ∷ [] =
    last ∙ c.put_byte.ensures.put ∙ ap (λ xs. xs ++ 34 ∷ []) (middle ∙ ap (λ xs. xs ++ token) c.put_bytes.ensures.put) in
    let end : drop (c.args.at + count) c.args.text.now ≡ left = sym ((c.split_at-2.ensures.back ∙ ap (drop count) c.split_at.ensures.back) ∙ drop-drop count c.args.at c.args.text.now) in
    let is : count ≡ prefix_len goes_on_number (drop c.args.at c.args.text.now) = c.token_len-count.ensures.value ∙ ap (prefix_len goes_on_number) c.split_at.ensures.back in
    let some : 0 < count = token_is_some c.args.text.now c.args.at count c.requires.some c.requires.begins is in
    let few : 2 * c.args.len ≤ 5 * c.args.at = c.requires.few.1 c.requires.some c.requires.begins in
    record {
      same =
          ap (completed new) end
          ∙ marked_token-good old new token left (marked outside left) good no_key added
          ∙ sym (completed-token_at old c.args.text.now token left c.args.at count c.requires.some c.requires.begins is
          (c.split_at-2.ensures.front ∙ ap (take count) c.split_at.ensures.back)
          (c.split_at-2.ensures.back ∙ ap (drop count) c.split_at.ensures.back));
      forward = omega (arith, some);
      within = omega (arith, c.requires.some, c.token_len-count.ensures.within, c.split_at.ensures.back_len);
      few = (omega (arith, few, some), λ more begins. absurd (token_is_whole c.args.text.now c.args.at count is more begins));
    }
