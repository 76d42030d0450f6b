use Rattle.std.proofs.Common.{◌≡◌, ◌∙◌, ◌++◌, List, ℕ, ap, sym, append_assoc}
use Rattle.ocppj_frame.specs.Reply.{body_bytes}
use Rattle.ocppj_frame.proofs.body.push_body.Goals as goal

-- three texts put behind another in turn
put_in_turn : (old a b c x y z : List ℕ) → x ≡ old ++ a → y ≡ x ++ b → z ≡ y ++ c → z ≡ old ++ (a ++ (b ++ c))
put_in_turn old a b c x y z p q r = r ∙ ap (λ l. l ++ c) (q ∙ ap (λ l. l ++ b) p) ∙ append_assoc (old ++ a) b c ∙ append_assoc old a (b ++ c)

pub returns-in-Now-clause-bytes : goal.returns-in-Now-clause-bytes
returns-in-Now-clause-bytes c =
    put_in_turn c.args.out.now.bytes _ _ _ _ _ _ c.push_str-in-Now.ensures.bytes
    (c.push_str-in-Now-2.ensures.bytes ∙ ap (λ l. c.push_str-in-Now.new.self.bytes ++ l) c.as_str.ensures.value)
    c.push_str-in-Now-3.ensures.bytes
    ∙ ap (λ b. c.args.out.now.bytes ++ body_bytes b) (sym c.in-Now.is)

pub returns-in-Boot-clause-bytes : goal.returns-in-Boot-clause-bytes
returns-in-Boot-clause-bytes c =
    put_in_turn c.args.out.now.bytes _ _ _ _ _ _ c.push_str-in-Boot.ensures.bytes
    (c.push_str-in-Boot-2.ensures.bytes ∙ ap (λ l. c.push_str-in-Boot.new.self.bytes ++ l) c.as_str-in-Boot.ensures.value)
    c.push_str-in-Boot-3.ensures.bytes
    ∙ ap (λ b. c.args.out.now.bytes ++ body_bytes b) (sym c.in-Boot.is)
