-- What one command more leaves of a station's first content.
use Rattle.std.{proofs.Common.{◌≡◌, ℕ, ◌+◌, List, [], ◌∷◌, ◌++◌, refl, ap, sym, ◌∙◌, subst, arith, length-append}, proofs.lemmas.List.map-append, proofs.lemmas.List.Elements.{All-nil, All-push}}
use Rattle.kept_desk.{specs.declared.entry.Entry.Entry, specs.Entries.entry, specs.Journal.OwnEntries, specs.Kept.{IsKeptCell, IsLeftFrom, commands_of}}
use Rattle.ledger_model.{specs.declared.command.Command.Command, specs.Admissible.IsAdmissible, specs.Content.Content, specs.Laws.{AreAccepted, IsAccepted, left_by}, specs.Limits.Bounds, specs.Step.{answer, step}, proofs.Callers.is_counted}
use Rattle.site_desk.{specs.Cell.{Cell, Held}, specs.Settle.cell_after, proofs.Counts.one_more}

-- commands that are accepted, behind others
pub accepted_append : (limits : Bounds) (c : Content) (xs ys : List Command) → AreAccepted limits c xs → AreAccepted limits (left_by limits c xs) ys → AreAccepted limits c (xs ++ ys)
accepted_append limits c [] ys h k = k
accepted_append limits c (x ∷ xs) ys h k = (h.0, accepted_append limits (step limits c x).0 xs ys h.1 k)

pub left_by-append : (limits : Bounds) (c : Content) (xs ys : List Command) → left_by limits c (xs ++ ys) ≡ left_by limits (left_by limits c xs) ys
left_by-append limits c [] ys = refl
left_by-append limits c (x ∷ xs) ys = left_by-append limits (step limits c x).0 xs ys

-- no command leaves what was there first
pub none_left : (limits : Bounds) (first c : Content) → c ≡ first → IsLeftFrom limits first c []
none_left limits first c same = record {
  admissible = All-nil IsAdmissible;
  accepted = tt;
  left = sym same;
  counted = let count : c.changes ≡ first.changes = ap (λ (d : Content). d.changes) same in omega (arith, count);
}

-- an accepted command more
pub left_more : (limits : Bounds) (first c : Content) (commands : List Command) (command : Command) → IsAdmissible command → IsAccepted (answer limits c command) → IsLeftFrom limits first c commands
    → IsLeftFrom limits first (step limits c command).0 (commands ++ command ∷ [])
left_more limits first c commands command may accepted l =
    let last = command ∷ [] in
    let told : AreAccepted limits c last = (accepted, tt) in
    let more : (step limits c command).0.changes ≡ c.changes + 1 = one_more limits c command (c.changes + 1) (is_counted limits c command accepted).next in
    record {
      admissible = All-push IsAdmissible commands command l.admissible may;
      accepted = accepted_append limits first commands last l.accepted (subst (λ (d : Content). AreAccepted limits d last) (sym l.left) told);
      left = left_by-append limits first commands last ∙ ap (λ (d : Content). (step limits d command).0) l.left;
      counted = omega (arith, more, l.counted, length-append commands last);
    }

-- the cell and its share after a command whose line was written
pub kept_more : (first : ℕ → Content) (c c' : Cell) (p : Held) (share share' : OwnEntries) (note line : List ℕ) (command : Command)
    → IsAdmissible command → IsAccepted (answer c.limits c.content command)
    → c' ≡ cell_after c p command → share' ≡ record share { entries = share.entries ++ entry share.station note line command ∷ [] } → IsKeptCell first c share → IsKeptCell first c' share'
kept_more first c c' p share share' note line command may accepted cells shares k =
    let now = cell_after c p command in
    let es = share.entries ++ entry share.station note line command ∷ [] in
    let with : OwnEntries = record share { entries = es } in
    let same : commands_of share.entries ++ command ∷ [] ≡ commands_of es = sym (map-append (λ (e : Entry). e.command) share.entries (entry share.station note line command ∷ [])) in
    let base : IsKeptCell first now with = record {
      station = k.station;
      left = subst (IsLeftFrom c.limits (first c.station) now.content) same (left_more c.limits (first c.station) c.content (commands_of share.entries) command may accepted k.left);
    } in
    subst (λ d. IsKeptCell first d share') (sym cells) (subst (IsKeptCell first now) (sym shares) base)
