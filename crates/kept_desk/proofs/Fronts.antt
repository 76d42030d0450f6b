-- The entries of a front of a list, and the command that is behind it.
use Rattle.std.{proofs.Common.{◌≡◌, ℕ, zero, suc, ◌+◌, ◌<◌, eqb, cond, List, [], ◌∷◌, ◌++◌, length, refl, ap, sym, ◌∙◌, subst, arith, eq-eqb, length-append}, proofs.lemmas.List.map-append, proofs.lemmas.List.Elements.{All-nil, All-cons, All-head, All-tail, filter-append}, specs.Prelude.All}
use Rattle.kept_desk.{specs.declared.entry.Entry.Entry, specs.Entries.of_station, specs.Kept.{IsAcceptedBehind, IsLeftFrom, commands_of}}
use Rattle.ledger_model.{specs.declared.answer.Answer.Answer, specs.declared.answer.Answer.TheVariants.{Accepted, Repeat, Refused}, specs.declared.command.Command.Command, specs.Admissible.IsAdmissible, specs.Content.Content, specs.Laws.{AreAccepted, IsAccepted, left_by}, specs.Limits.Bounds, specs.Step.{answer, step}, proofs.Callers.is_counted}
use Rattle.site_desk.proofs.Counts.{one_more}

-- a list of accepted commands, cut in two
accepted_cut : (limits : Bounds) (c : Content) (xs ys : List Command) → AreAccepted limits c (xs ++ ys) → AreAccepted limits c xs × AreAccepted limits (left_by limits c xs) ys
accepted_cut limits c [] ys h = (tt, h)
accepted_cut limits c (x ∷ xs) ys h = let cut = accepted_cut limits (step limits c x).0 xs ys h.1 in ((h.0, cut.0), cut.1)

admissible_cut : (xs ys : List Command) → All IsAdmissible (xs ++ ys) → All IsAdmissible xs
admissible_cut [] ys h = All-nil IsAdmissible
admissible_cut (x ∷ xs) ys h = All-cons IsAdmissible x xs (All-head IsAdmissible x (xs ++ ys) h) (admissible_cut xs ys (All-tail IsAdmissible x (xs ++ ys) h))

counted_by : (limits : Bounds) (c : Content) (xs : List Command) → AreAccepted limits c xs → (left_by limits c xs).changes ≡ c.changes + length xs
counted_by limits c [] h = omega arith
counted_by limits c (x ∷ xs) h =
    let more : (step limits c x).0.changes ≡ c.changes + 1 = one_more limits c x (c.changes + 1) (is_counted limits c x h.0).next in
    let rest = counted_by limits (step limits c x).0 xs h.1 in
    omega (arith, more, rest)

accepted_as : (a : Answer) → IsAccepted a → (n : ℕ) × (a ≡ Accepted n)
accepted_as (Accepted n) h = (n, refl)
accepted_as Repeat h = absurd h
accepted_as (Refused why) h = absurd h

-- the command behind a front of accepted commands is accepted there
pub accepted_behind : (limits : Bounds) (first c : Content) (xs : List Command) (x : Command) (ys : List Command) → IsLeftFrom limits first c (xs ++ x ∷ ys)
    → (before : Content) × (n : ℕ) × IsLeftFrom limits first before xs × (answer limits before x ≡ Accepted n)
accepted_behind limits first c xs x ys l =
    let cut = accepted_cut limits first xs (x ∷ ys) l.accepted in
    let before = left_by limits first xs in
    let last = accepted_as (answer limits before x) cut.1.0 in
    (before, last.0, record { admissible = admissible_cut xs (x ∷ ys) l.admissible; accepted = cut.0; left = refl; counted = counted_by limits first xs cut.0 }, last.1)

own_of : (before : List Entry) (e : Entry) (rest : List Entry) → of_station e.station (before ++ e ∷ rest) ≡ of_station e.station before ++ e ∷ of_station e.station rest
own_of before e rest =
    filter-append (λ (x : Entry). eqb x.station e.station) before (e ∷ rest)
    ∙ ap (λ b. of_station e.station before ++ cond b (e ∷ of_station e.station rest) (of_station e.station rest)) (eq-eqb e.station e.station refl)

-- each entry of a list that was accepted is accepted at the content that its station's entries before it leave
pub entry_accepted : (limits : Bounds) (first c : Content) (log before : List Entry) (e : Entry) (rest : List Entry)
    → log ≡ before ++ e ∷ rest → IsLeftFrom limits first c (commands_of (of_station e.station log))
    → IsAcceptedBehind limits first (of_station e.station before) e.command
entry_accepted limits first c log before e rest is l =
    let own = of_station e.station before in
    let same : commands_of (of_station e.station log) ≡ commands_of own ++ e.command ∷ commands_of (of_station e.station rest) =
    ap (λ es. commands_of (of_station e.station es)) is ∙ ap commands_of (own_of before e rest) ∙ map-append (λ (x : Entry). x.command) own (e ∷ of_station e.station rest) in
    let got = accepted_behind limits first c (commands_of own) e.command (commands_of (of_station e.station rest)) (subst (IsLeftFrom limits first c) same l) in
    record { before = got.0; n = got.1; left = got.2; answered = got.3 }
