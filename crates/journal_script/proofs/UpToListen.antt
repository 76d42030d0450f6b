-- A script that was read up to `listen`, and what its ledgers show then.
use Rattle.std.proofs.Common.{◌≡◌, ℕ, ◌||◌, Bool, true, false, List, [], ◌∷◌, ◌++◌, Option, refl, sym, ap, subst, ◌∙◌}
use Rattle.script_lines.{specs.Lines.{Line, lines_of}, specs.Ranges.longest_line}
use Rattle.script_ledgers.{specs.Drafts.Drafted, specs.Running.running, specs.Script.{Script, line_step, opened_script, script_after}}
use Rattle.site_desk.specs.Cell.{Cell}
use Rattle.journal_script.{specs.declared.left_out.LeftOut.LeftOut, specs.declared.restored.Restored.Restored, specs.Journals.Shows, specs.Reading.{IsLeft, Leaves, ReadsTo, Standing, begun, read_line, read_lines, standing}, specs.Restoring.{IsRestored, IsUnmarked, ReadsToListen, is_lost, is_marked, loses, marked_by}}

-- ---- ledgers

-- what a script leaves once its ledgers are opened
pub left_by : (s : Script) (d : Drafted) (cells : List Cell) (r : Restored) (told : LeftOut) → running d cells ≡ opened_script s
    → r.draft ≡ d → r.cells.items ≡ cells → r.has_lost ≡ told.has_lost → IsLeft (standing s told) r told.is_marked
left_by s d cells r told is draft same lost = record {
  shows =
      subst (λ (e : Drafted). Shows s e.sites e.stations r.cells.items) (sym draft)
      (subst (λ l. Shows s d.sites d.stations l) (sym same)
      (record {
        sites_are = sym (ap (λ (x : Script). x.sites) is);
        periods_are = sym (ap (λ (x : Script). x.periods) is);
        orders_are = sym (ap (λ (x : Script). x.orders) is);
        world_is = sym (ap (λ (x : Script). x.world) is);
      }));
  loses = lost;
  ends = refl;
}

-- ---- the whole script

read_script : (s : Standing) (lines : List Line) → (read_lines s lines).script ≡ script_after s.script lines
read_script s [] = refl
read_script s (line ∷ lines) = read_script (read_line s line) lines

read_marked : (s : Standing) (lines : List Line) → (read_lines s lines).marked ≡ marked_by s.marked lines
read_marked s [] = refl
read_marked s (line ∷ lines) = read_marked (read_line s line) lines

or_false : (b : Bool) → (b || false) ≡ b
or_false true = refl
or_false false = refl

or_assoc : (a b c : Bool) → ((a || b) || c) ≡ (a || (b || c))
or_assoc true b c = refl
or_assoc false b c = refl

read_lost : (s : Standing) (lines : List Line) → (read_lines s lines).lost ≡ (s.lost || loses s.script lines)
read_lost s [] = sym (or_false s.lost)
read_lost s (line ∷ lines) = read_lost (read_line s line) lines ∙ or_assoc s.lost (is_lost (line_step s.script line).1 line) (loses (line_step s.script line).0 lines)

module _ (r0 r1 : Option (List ℕ)) (r : Restored) (marked : Bool) (all : Leaves r0 r1 r marked) where
  pub restores : marked ≡ true → ReadsToListen r0 r1 (λ read. IsRestored read r)
  restores ended =
      let reads = all.reads in
      let left = all.left in
      let lines = lines_of longest_line reads.read in
      let ran = reads.runs.ran in (
        reads.read,
        reads.last,
        reads.consumed,
        reads.listens,
        record {
          whole = reads.runs.whole;
          marked = sym (ap (λ x. x.marked) ran ∙ read_marked begun lines) ∙ sym left.ends ∙ ended;
          no_listen = reads.runs.no_listen;
          loses = left.loses ∙ ap (λ x. x.lost) ran ∙ read_lost begun lines;
          shows = subst (λ x. Shows x r.draft.sites r.draft.stations r.cells.items) (ap (λ x. x.script) ran ∙ read_script begun lines) left.shows;
        },
      )

  pub refuses : marked ≡ false → ReadsToListen r0 r1 (λ read. IsUnmarked read)
  refuses ended =
      let reads = all.reads in
      let left = all.left in (
        reads.read,
        reads.last,
        reads.consumed,
        reads.listens,
        record {
          whole = reads.runs.whole;
          unmarked = sym (ap (λ x. x.marked) reads.runs.ran ∙ read_marked begun (lines_of longest_line reads.read)) ∙ sym left.ends ∙ ended;
          no_listen = reads.runs.no_listen;
        },
      )

-- what is left of a script that was read up to `listen`
pub leaves : (most : ℕ) (first last : Standing) (r0 r1 : Option (List ℕ)) (r : Restored) (marked : Bool) → most ≡ longest_line
    → first ≡ begun → ReadsTo most first last r0 r1 → IsLeft last r marked → Leaves r0 r1 r marked
leaves most first last r0 r1 r marked is begins reads left = record {
  standing = last;
  reads = subst (λ s. ReadsTo longest_line s last r0 r1) begins (subst (λ n. ReadsTo n first last r0 r1) is reads);
  left = left;
}
