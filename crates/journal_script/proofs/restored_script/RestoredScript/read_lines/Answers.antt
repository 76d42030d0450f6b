use Rattle.std.proofs.Common.{◌∙◌, false, ap, subst, sym, arith}
use Rattle.script_lines.{specs.declared.line_reader.LineEnd.TheVariants.Feed, specs.Reading.line_of}
use Rattle.journal_script.{specs.Place.place_of, specs.Reading.{Place, ReadsLine, held_line, read_line, read_on}, proofs.LinesRead.{Goes, goes_on, goes_same, goes_until, one_less}, proofs.Growing.grows_on}
use Rattle.journal_script.proofs.restored_script.RestoredScript.read_lines.Goals as goal

pub lines-preserved : goal.lines-preserved
lines-preserved g c =
    let a = c.args.self.now in
    let most = a.source.lines.max_line_bytes in
    let room = a.source.lines.room in
    let first = (place_of a).standing in
    let before = c.lines.self in
    let here = c.look.new.self in
    let next = c.next.new.self in
    let new = c.answer.new.self in
    let held = next.source.lines.held.items in
    let r0 = g.R.Read.remaining c.args.reader.now in
    let r1 = g.R.Read.remaining c.lines.reader in
    let r2 = g.R.Read.remaining c.look.new.reader in
    let r3 = g.R.Read.remaining c.next.new.reader in
    let looked = c.look.ensures.place in
    let goes = subst (λ (p : Place). Goes most room p.lines.room first p.standing r0 r2) (sym looked)
    (goes_same most room before.source.lines.room first (place_of before).standing r0 r1 c.lines.invariant.0 r2 c.look.ensures.reader) in
    let kept = ap (λ (p : Place). p.lines.max_line_bytes) looked ∙ c.lines.invariant.1 in
    let r = c.in_ok-next.ensures.takes in
    let more = c.in_ok-next.field-0 in
    let reads = subst (λ k. ReadsLine k here.source.lines.room next.source.lines.room more r.0 held) kept r.2 in
    let same = c.next.ensures.most ∙ kept in
    let line = ap (λ s. read_line s (held_line next.source.lines)) c.next.ensures.standing ∙ ap (λ k. read_line (place_of here).standing (line_of Feed k held)) same in
    let step = c.in_ok-answer.ensures.step in
    let on = goes_on most room here.source.lines.room first (place_of here).standing r0 r2 goes more next.source.lines.room r.0 held
    r3 reads r.1 (read_on (place_of next)).standing line c.if-not-branch.false in
    let less = one_less most here.source.lines.room next.source.lines.room more r.0 held reads in
    let seen = ap (λ (p : Place). p.lines.room) looked in (
      subst (λ (p : Place). Goes most room p.lines.room first p.standing r0 r3) (sym step) on,
      ap (λ (p : Place). p.lines.max_line_bytes) step ∙ same,
      omega (arith, c.in_ok-answer.ensures.posts, c.next.ensures.posts, c.look.ensures.posts, c.lines.invariant.2, seen, ap (λ (p : Place). p.lines.room) step, less),
      grows_on _ _ _ c.lines.invariant.3 c.in_ok-answer.ensures.grows,
    )

pub returns-then-not-branch-clause-reads : goal.returns-then-not-branch-clause-reads
returns-then-not-branch-clause-reads g c =
    let a = c.args.self.now in
    let most = a.source.lines.max_line_bytes in
    let room = a.source.lines.room in
    let first = (place_of a).standing in
    let before = c.lines.self in
    let here = c.look.new.self in
    let next = c.next.new.self in
    let held = next.source.lines.held.items in
    let r0 = g.R.Read.remaining c.args.reader.now in
    let r1 = g.R.Read.remaining c.lines.reader in
    let r2 = g.R.Read.remaining c.look.new.reader in
    let r3 = g.R.Read.remaining c.next.new.reader in
    let looked = c.look.ensures.place in
    let goes = subst (λ (p : Place). Goes most room p.lines.room first p.standing r0 r2) (sym looked)
    (goes_same most room before.source.lines.room first (place_of before).standing r0 r1 c.lines.invariant.0 r2 c.look.ensures.reader) in
    let kept = ap (λ (p : Place). p.lines.max_line_bytes) looked ∙ c.lines.invariant.1 in
    let r = c.in_ok-next.ensures.takes in
    let more = c.in_ok-next.field-0 in
    let reads = subst (λ k. ReadsLine k here.source.lines.room next.source.lines.room more r.0 held) kept r.2 in
    goes_until most room here.source.lines.room first (place_of here).standing r0 r2 goes more next.source.lines.room r.0 held r3
    reads r.1 (place_of next).standing c.next.ensures.standing c.if-not-branch.true
