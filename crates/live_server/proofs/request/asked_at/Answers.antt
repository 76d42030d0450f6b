use Rattle.std.{proofs.Common.{◌≡◌, ◌∙◌, drop, length, ap, subst, sym, arith}, specs.Str.IsUtf8}
use Rattle.live_server.proofs.Asking.{no_name}
use Rattle.live_server.proofs.request.asked_at.Goals as goal

pub returns-in_default-from_utf8 : goal.returns-in_default-from_utf8
returns-in_default-from_utf8 c =
    let said = c.in-Some.ensures.cases in (
      λ root. omega (arith, ap length root, said.2),
      λ name is.
          let same : name ≡ c.in-Some.name.now = sym (said.1 ∙ ap (drop 7) is) in
          no_name name (λ text. c.in_default-from_utf8.ensures.cases.0 (subst IsUtf8 same text)),
    )
