-- What commands that are each accepted leave of the empty content.
use Rattle.std.{proofs.Common.{◌≡◌, ℕ, zero, suc, ◌+◌, ◌<◌, ◌≤◌, false, List, [], ◌∷◌, ◌++◌, length, refl, ap, sym, subst, ◌∙◌, nat_le, arith}, proofs.lemmas.Bool.leb-false, specs.List.All, proofs.lemmas.List.length-append, proofs.lemmas.List.Elements.{All-nil, All-push}}
use Rattle.std.specs.FinMap as finite
use Rattle.ledger_model.{specs.declared.command.Command.Command, specs.declared.command.Command.TheVariants.{Deliver, Void, Restore, Erase}, specs.declared.answer.Answer.Answer, specs.declared.answer.Answer.TheVariants.Accepted, specs.declared.answer.Refusal.TheVariants.ChangesExhausted, specs.Limits.Bounds, specs.Content.{Content, empty_content}, specs.Admissible.IsAdmissible, specs.Step.{step, accepted_within_limit, content_after, Reached}, specs.Laws.{IsAccepted, AreAccepted, left_by, IsLeftByRun}, proofs.LedgerLemmas.{not_refused, found_live, found_voided}, proofs.Deliveries.{room, told}}

-- an accepted command is counted, below the limit of changes
pub record IsCounted (limits : Bounds) (c : Content) (a : Answer) : Type 0 where
  pub next : a ≡ Accepted (c.changes + 1)
  pub below : c.changes < limits.changes

below : (limits : Bounds) (c : Content) → nat_le limits.changes c.changes ≡ false → c.changes < limits.changes
below limits c h = leb-false limits.changes c.changes h

changes_left : (limits : Bounds) (c : Content) → IsAccepted (accepted_within_limit limits c) → c.changes < limits.changes
changes_left limits c h = below limits c (not_refused (nat_le limits.changes c.changes) ChangesExhausted (Accepted (c.changes + 1)) h).0

pub is_counted : (limits : Bounds) (c : Content) (command : Command) → IsAccepted (step limits c command).1 → IsCounted limits c (step limits c command).1
is_counted limits c (Deliver key event) h =
    let r = room limits c (key, event) h in
    record { next = ap (λ (p : Content × Answer). p.1) (told limits c (key, event) r); below = below limits c r.changes }
is_counted limits c (Void key) h =
    let f = found_live limits c (finite.get c.events key) h in
    record { next = f.told; below = changes_left limits c f.left }
is_counted limits c (Restore key) h =
    let f = found_voided limits c (finite.get c.events key) h in
    record { next = f.told; below = changes_left limits c f.left }
is_counted limits c (Erase key) h =
    let f = found_voided limits c (finite.get c.events key) h in
    record { next = f.told; below = changes_left limits c f.left }

-- the count after an accepted command
count_after : (limits : Bounds) (c : Content) (command : Command) (n : ℕ) → (step limits c command).1 ≡ Accepted n → (step limits c command).0.changes ≡ n
count_after limits c command n h = ap (λ a. (content_after c command a).changes) h

pub counts : (limits : Bounds) (n : ℕ) (c : Content) → Reached limits n c → c.changes ≡ n
counts limits zero c h = ap (λ (d : Content). d.changes) h
counts limits (suc n) c h =
    ap (λ (p : Content × Answer). p.0.changes) (sym h.2.2) ∙ count_after limits h.0 h.1 (suc n) (ap (λ (p : Content × Answer). p.1) h.2.2)

accepted_append : (limits : Bounds) (c : Content) (xs ys : List Command) → AreAccepted limits c xs → AreAccepted limits (left_by limits c xs) ys → AreAccepted limits c (xs ++ ys)
accepted_append limits c [] ys h k = k
accepted_append limits c (x ∷ xs) ys h k = (h.0, accepted_append limits (step limits c x).0 xs ys h.1 k)

left_by-append : (limits : Bounds) (c : Content) (xs ys : List Command) → left_by limits c (xs ++ ys) ≡ left_by limits (left_by limits c xs) ys
left_by-append limits c [] ys = refl
left_by-append limits c (x ∷ xs) ys = left_by-append limits (step limits c x).0 xs ys

-- the last command of a reached content was accepted
last_accepted : (limits : Bounds) (n : ℕ) (before c : Content) (command : Command)
    → ◌≡◌ {A = Content × Answer} (step limits before command) (c, Accepted (suc n)) → IsAccepted (step limits before command).1
last_accepted limits n before c command h = subst (λ (p : Content × Answer). IsAccepted p.1) (sym h) tt

-- a reached content is left by a run
pub run_of : (limits : Bounds) (n : ℕ) (c : Content) → Reached limits n c → (commands : List Command) × IsLeftByRun limits n c commands
run_of limits zero c h = ([], record { long = refl; admissible = All-nil IsAdmissible; accepted = tt; left = sym h })
run_of limits (suc n) c h =
    let r = run_of limits n h.0 h.2.1 in
    let last = h.1 ∷ [] in
    let told : AreAccepted limits h.0 last = (last_accepted limits n h.0 c h.1 h.2.2, tt) in (
      r.0 ++ last,
      record {
        long = omega (arith, length-append r.0 last, r.1.long);
        admissible = All-push IsAdmissible r.0 h.1 r.1.admissible h.2.0;
        accepted = accepted_append limits empty_content r.0 last r.1.accepted (subst (λ (d : Content). AreAccepted limits d last) (sym r.1.left) told);
        left = left_by-append limits empty_content r.0 last ∙ ap (λ (d : Content). (step limits d h.1).0) r.1.left ∙ ap (λ (p : Content × Answer). p.0) h.2.2;
      },
    )

-- what a run leaves of a reached content is reached
reached_further : (limits : Bounds) (n : ℕ) (c : Content) (commands : List Command) → Reached limits n c
    → All IsAdmissible commands → AreAccepted limits c commands → Reached limits (n + length commands) (left_by limits c commands)
reached_further limits n c [] h may a = let same : n ≡ n + 0 = omega arith in subst (λ m. Reached limits m c) same h
reached_further limits n c (command ∷ commands) h may a =
    let k = is_counted limits c command a.0 in
    let next : c.changes + 1 ≡ suc n = omega (arith, counts limits n c h) in
    let told : (step limits c command).1 ≡ Accepted (suc n) = k.next ∙ ap (λ m. Accepted m) next in
    let reached : Reached limits (suc n) (step limits c command).0 = (c, command, (may 0 command (omega arith), h, λ i. ((step limits c command).0, told i))) in
    let same : suc n + length commands ≡ n + suc (length commands) = omega arith in
    let rest : All IsAdmissible commands = λ k d lt. may (suc k) d (omega arith) in
    subst (λ m. Reached limits m (left_by limits (step limits c command).0 commands)) same (reached_further limits (suc n) (step limits c command).0 commands reached rest a.1)

pub reached_by : (limits : Bounds) (n : ℕ) (c : Content) (commands : List Command) → IsLeftByRun limits n c commands → Reached limits n c
reached_by limits n c commands h =
    let long : 0 + length commands ≡ n = omega (arith, h.long) in
    subst (λ (d : Content). Reached limits n d) h.left
    (subst (λ m. Reached limits m (left_by limits empty_content commands)) long (reached_further limits 0 empty_content commands refl h.admissible h.accepted))

pub few_changes : (limits : Bounds) (n : ℕ) (c : Content) → Reached limits n c → n ≤ limits.changes
few_changes limits zero c h = omega arith
few_changes limits (suc n) c h =
    let k = is_counted limits h.0 h.1 (last_accepted limits n h.0 c h.1 h.2.2) in
    omega (arith, k.below, counts limits n h.0 h.2.1)
