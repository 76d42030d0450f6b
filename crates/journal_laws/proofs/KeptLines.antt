-- Lines that a script does not lose.
use Rattle.std.{proofs.Common.{◌≡◌, ◌≢◌, ℕ, Bool, true, false, cond, not, List, [], ◌∷◌, ◌++◌, Some, All, refl, ap, ◌∙◌}, specs.Prelude.{◌&&◌, ◌||◌, codes}, specs.Str.is_utf8, proofs.lemmas.List.Elements.{All-append, All-cons, All-nil}}
use Rattle.script_lines.{specs.LineMeaning.{fails, line_meaning}, specs.Lines.Line, specs.declared.script_line.LineFault.TheVariants.BadLine}
use Rattle.script_ledgers.{specs.Script.{Script, line_step, script_after}, proofs.Places.neither}
use Rattle.journal_script.specs.Restoring.{is_cut, is_lost, leaves_nothing, loses}

-- These lines lose nothing, and none is `listen`.
pub record Kept (s : Script) (lines : List Line) : Type 0 where
  pub loses_none : loses s lines ≡ false
  pub no_listen : All (λ line. line ≢ Some (codes "listen")) lines

loses_both : (s : Script) (one other : List Line) → loses s one ≡ false → loses (script_after s one) other ≡ false → loses s (one ++ other) ≡ false
loses_both s [] other e f = f
loses_both s (line ∷ one) other e f =
    let both = neither (is_lost (line_step s line).1 line) (loses (line_step s line).0 one) e in
    ap (λ b. b || loses (line_step s line).0 (one ++ other)) both.0 ∙ loses_both (line_step s line).0 one other both.1 f

pub kept_both : (s : Script) (one other : List Line) → Kept s one → Kept (script_after s one) other → Kept s (one ++ other)
kept_both s one other k l = record {
  loses_none = loses_both s one other k.loses_none l.loses_none;
  no_listen = All-append (λ line. line ≢ Some (codes "listen")) one other k.no_listen l.no_listen;
}

or_false : (b : Bool) → b ≡ false → (b || false) ≡ false
or_false b e = ap (λ x. x || false) e

pub kept_one : (s : Script) (line : Line) → is_lost (line_step s line).1 line ≡ false → line ≢ Some (codes "listen") → Kept s (line ∷ [])
kept_one s line kept other = record {
  loses_none = or_false (is_lost (line_step s line).1 line) kept;
  no_listen = All-cons (λ l. l ≢ Some (codes "listen")) line [] other (All-nil (λ l. l ≢ Some (codes "listen")));
}

pub kept_none : (s : Script) → Kept s []
kept_none s = record { loses_none = refl; no_listen = All-nil (λ l. l ≢ Some (codes "listen")) }

pub not_lost : (reply : List ℕ) (line : Line) → leaves_nothing reply ≡ false → is_lost reply line ≡ false
not_lost reply line e = ap (λ b. b && not (is_cut line)) e

-- The line `listen` says nothing that a script knows.
pub listen_fails : line_meaning (Some (codes "listen")) ≡ fails BadLine
listen_fails = at (is_utf8 (codes "listen"))
  where
    at : (b : Bool) → cond b (fails BadLine) (fails BadLine) ≡ fails BadLine
    at true = refl
    at false = refl
