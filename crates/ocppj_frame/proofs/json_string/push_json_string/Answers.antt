use Rattle.std.{proofs.Common.{◌≡◌, ◌∙◌, ◌∷◌, ◌++◌, [], sym, ap, length, arith, lit<, append_assoc, length-append}, specs.List.flat_map, specs.Str.chars, proofs.lemmas.Iterator.YieldsList-from_chars, proofs.lemmas.Iterator.Consumers.{YieldsList-turn, YieldsList-end}, proofs.lemmas.List.{flat_map_more, map-id}, proofs.lemmas.Str.length-encode}
use Rattle.ocppj_frame.{specs.Reply.escaped, proofs.Escapes.length-flat_map_escaped-le}
use Rattle.ocppj_frame.proofs.json_string.push_json_string.Goals as goal

pub push_escaped-requires : goal.push_escaped-requires
push_escaped-requires c =
    let turn = YieldsList-turn (YieldsList-from_chars c.args.text.now c.utf8.text cc) c.loop-character.yielded
    _ c.loop-character.yielded_by _ _ c.in-Some.character c.in-Some.is c.next.ensures.steps in
    omega (
      arith,
      c.requires.room,
      turn.0,
      ap length c.loop-character.invariant,
      length-append c.args.out.now.bytes (34 ∷ flat_map escaped c.loop-character.yielded),
      length-flat_map_escaped-le c.loop-character.yielded,
    )

pub loop-character-preserved : goal.loop-character-preserved
loop-character-preserved c =
    let old = c.args.out.now.bytes in let cs = c.loop-character.yielded in
    c.push_escaped.ensures ∙ ap (λ front. front ++ escaped c.in-Some.character) c.loop-character.invariant
    ∙ append_assoc old (34 ∷ flat_map escaped cs) (escaped c.in-Some.character) ∙ ap (λ l. old ++ l) (flat_map_more escaped (34 ∷ []) cs c.in-Some.character)

pub push-requires-2 : goal.push-requires-2
push-requires-2 c =
    let end = YieldsList-end (YieldsList-from_chars c.args.text.now c.utf8.text cc) c.loop-character.yielded _ c.loop-character.yielded_by _ _ c.in-None.is c.next.ensures.steps in (
      lit< tt,
      omega (
        arith,
        c.requires.room,
        end.1,
        length-encode 34,
        ap length c.loop-character.invariant,
        length-append c.args.out.now.bytes (34 ∷ flat_map escaped c.loop-character.yielded),
        length-flat_map_escaped-le c.loop-character.yielded,
      ),
    )

pub returns : goal.returns
returns c =
    let end = YieldsList-end (YieldsList-from_chars c.args.text.now c.utf8.text cc) c.loop-character.yielded _ c.loop-character.yielded_by _ _ c.in-None.is c.next.ensures.steps in
    let old = c.args.out.now.bytes in let cs = c.loop-character.yielded in
    let all : cs ≡ chars c.args.text.now = sym (map-id cs) ∙ end.0 in
    let bytes = c.push-2.ensures.ascii (lit< tt) ∙ ap (λ front. front ++ 34 ∷ []) c.loop-character.invariant ∙ append_assoc old (34 ∷ flat_map escaped cs) (34 ∷ []) in
    record {
      bytes = bytes ∙ ap (λ l. old ++ 34 ∷ (flat_map escaped l ++ 34 ∷ [])) all;
      len = omega (arith, end.1, ap length bytes, length-append old (34 ∷ flat_map escaped cs ++ 34 ∷ []), length-append (flat_map escaped cs) (34 ∷ []), length-flat_map_escaped-le cs);
    }
