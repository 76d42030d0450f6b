-- Answers to an operator's lines, piece by piece.
use Rattle.std.{proofs.Common.{◌≡◌, ℕ, Bool, true, false, List, [], ◌∷◌, ◌++◌, Option, None, Some, refl, sym, subst, ap, ◌∙◌, append-nil, append_assoc, cond, map}, specs.Prelude.{⊤, All}, specs.Io.KnownBytes.Appends, specs.List.flat_map, proofs.KnownBytes.{Appends-nil, Appends-trans}, proofs.lemmas.List.Concat.flat_map-append, proofs.lemmas.List.Elements.{All-append, All-cons, All-nil}, proofs.lemmas.List.map-append}
use Rattle.ledger_model.{specs.declared.answer.Answer.Answer, specs.declared.command.Command.Command, specs.Board.Board}
use Rattle.site_book.specs.Book.{Known}
use Rattle.script_lines.{specs.LineMeaning.line_meaning, specs.Lines.Line}
use Rattle.site_desk.{specs.declared.plan.SitePlan.SitePlan, specs.declared.roster.StationPlace.StationPlace}
use Rattle.running_desk.{specs.declared.orders.Came.Came, specs.Ordered.{AreAnswered, Comes, before_close, ends, is_close}, specs.Replied.IsReplyOrMemory, specs.Replies.{AddsReplies, AddsReply, Replied}}
use Rattle.running_desk.specs.declared.orders.Came.TheVariants as kind
use Rattle.station_link.specs.Attended.{if_seen}

-- of the lines that came first, those that were answered are in front of what is answered of those that come now
abbrev pub Stands : Option (List Line) → Option (List Line) → List Line → Type 0
Stands None now done = ⊤
Stands (Some all) None done = ⊥
Stands (Some all) (Some rest) done = before_close all ≡ done ++ before_close rest

module _ {M : Type 0} (gives : ℕ → StationPlace → Command → Answer → Option M → Type 0)
    (shows : ℕ → List (List ℕ × Board) → M → Type 0) (sites : List SitePlan) (places : List StationPlace) where
  -- a line with its answer
  abbrev Own : Replied M → Type 0
  Own l = IsReplyOrMemory gives shows sites places (line_meaning l.line) l.text l.seen

  -- what lines were answered
  abbrev texts : List (Replied M) → List ℕ
  texts lines = flat_map (λ l. l.text) lines

  -- the lines
  abbrev asked : List (Replied M) → List Line
  asked lines = map (λ l. l.line) lines

  -- what was seen with them
  abbrev seen_with : List (Replied M) → List M
  seen_with lines = flat_map (λ l. if_seen l.seen) lines

  -- lines were answered so far, and these are still to come
  pub record SoFar (first now : Option (List Line)) (w0 w1 : Option (List ℕ)) (handed : List M) : Type 0 where
    pub lines : List (Replied M)
    pub stands : Stands first now (asked lines)
    pub replies : All Own lines
    pub adds : Appends w0 w1 (texts lines)
    pub all : handed ≡ seen_with lines

  all_stand : (first : Option (List Line)) → Stands first first []
  all_stand None = tt
  all_stand (Some all) = refl

  -- none was answered
  pub nothing : (first now : Option (List Line)) (w : Option (List ℕ)) (handed : List M) → now ≡ first → handed ≡ [] → SoFar first now w w handed
  nothing first now w handed same none =
      record { lines = []; stands = subst (λ n. Stands first n []) (sym same) (all_stand first); replies = All-nil Own; adds = Appends-nil w; all = none }

  -- where a line ends the server, no line is answered any more
  none_left : (line : Line) (lines : List Line) → is_close line ≡ true → before_close (line ∷ lines) ≡ []
  none_left line lines closes = ap (λ t. cond t [] (line ∷ before_close lines)) closes

  -- and else it is, and then those behind it
  one_more : (line : Line) (lines : List Line) → is_close line ≡ false → before_close (line ∷ lines) ≡ line ∷ before_close lines
  one_more line lines goes = ap (λ t. cond t [] (line ∷ before_close lines)) goes

  -- the lines that were answered are all of those in front of `close`
  are_those : (came : Came) (line : Line) (first now next : Option (List Line)) (done : List Line) → Stands first now done → Comes now came line next → ends came line ≡ true → AreAnswered first done
  are_those came line None now next done s comes closes = tt
  are_those came line (Some all) None next done s comes closes = absurd s
  are_those came line (Some all) (Some rest) None done s comes closes = absurd comes
  are_those kind.Line line (Some all) (Some rest) (Some later) done s comes closes =
      sym (s ∙ ap (λ l. done ++ before_close l) comes ∙ ap (λ l. done ++ l) (none_left line later closes) ∙ append-nil done)
  are_those kind.LastLine line (Some all) (Some rest) (Some later) done s comes closes =
      sym (s ∙ ap (λ l. done ++ before_close l) comes.0 ∙ ap (λ l. done ++ l) (none_left line [] closes) ∙ append-nil done)
  are_those kind.End line (Some all) (Some rest) (Some later) done s comes closes =
      sym (s ∙ ap (λ l. done ++ before_close l) comes.0 ∙ append-nil done)

  -- what came ended the server
  pub ended : (came : Came) (line : Line) (first now next : Option (List Line)) (w0 w1 : Option (List ℕ)) (handed : List M)
      → SoFar first now w0 w1 handed → Comes now came line next → ends came line ≡ true
      → AddsReplies gives shows sites places first w0 w1 handed
  ended came line first now next w0 w1 handed so_far comes closes =
      record {
        lines = so_far.lines;
        those = are_those came line first now next (asked so_far.lines) so_far.stands comes closes;
        replies = so_far.replies;
        adds = so_far.adds;
        all = so_far.all;
      }

  -- one more line is in front of what comes next
  stands_more : (line : Line) (first now next : Option (List Line)) (done : List Line) → is_close line ≡ false → Stands first now done
      → Comes now kind.Line line next → Stands first next (done ++ line ∷ [])
  stands_more line None now next done goes s comes = tt
  stands_more line (Some all) None next done goes s comes = absurd s
  stands_more line (Some all) (Some rest) None done goes s comes = absurd comes
  stands_more line (Some all) (Some rest) (Some later) done goes s comes =
      s ∙ ap (λ l. done ++ before_close l) comes ∙ ap (λ l. done ++ l) (one_more line later goes) ∙ sym (append_assoc done (line ∷ []) (before_close later))

  -- the last line comes as a line does
  as_line : (line : Line) (now next : Option (List Line)) → Comes now kind.LastLine line next → Comes now kind.Line line next
  as_line line None next comes = tt
  as_line line (Some rest) None comes = comes
  as_line line (Some rest) (Some later) comes = comes.0 ∙ ap (λ l. line ∷ l) (sym comes.1)

  -- one line more was answered
  answered : (line : Line) (first now next : Option (List Line)) (w0 w1 w2 : Option (List ℕ)) (handed more : List M) (seen : Option M)
      → is_close line ≡ false → SoFar first now w0 w1 handed → Comes now kind.Line line next
      → AddsReply gives shows sites places line w1 w2 seen → more ≡ handed ++ if_seen seen → SoFar first next w0 w2 more
  answered line first now next w0 w1 w2 handed more seen goes so_far comes a kept =
      let own : Replied M = record { line = line; text = a.0; seen = seen } in
      let one : List (Replied M) = own ∷ [] in
      record {
        lines = so_far.lines ++ one;
        stands = subst (Stands first next) (sym (map-append (λ (l : Replied M). l.line) so_far.lines one)) (stands_more line first now next (asked so_far.lines) goes so_far.stands comes);
        replies = All-append Own so_far.lines one so_far.replies (All-cons Own own [] a.2 (All-nil Own));
        adds = subst (Appends w0 w2) (sym (flat_map-append (λ (l : Replied M). l.text) so_far.lines one))
            (Appends-trans w0 w1 w2 (texts so_far.lines) (texts one) so_far.adds (subst (Appends w1 w2) (sym (append-nil a.0)) a.1));
        all = kept ∙ ap (λ l. l ++ if_seen seen) so_far.all ∙ ap (λ l. seen_with so_far.lines ++ l) (sym (append-nil (if_seen seen)))
            ∙ sym (flat_map-append (λ (l : Replied M). if_seen l.seen) so_far.lines one);
      }

  -- what came was answered, and did not end the server
  pub goes_on : (came : Came) (line : Line) (first now next : Option (List Line)) (w0 w1 w2 : Option (List ℕ)) (handed more : List M) (seen : Option M)
      → ends came line ≡ false → SoFar first now w0 w1 handed → Comes now came line next
      → AddsReply gives shows sites places line w1 w2 seen → more ≡ handed ++ if_seen seen → SoFar first next w0 w2 more
  goes_on kind.Line line first now next w0 w1 w2 handed more seen goes so_far comes a kept = answered line first now next w0 w1 w2 handed more seen goes so_far comes a kept
  goes_on kind.LastLine line first now next w0 w1 w2 handed more seen goes so_far comes a kept = answered line first now next w0 w1 w2 handed more seen goes so_far (as_line line now next comes) a kept
  goes_on kind.End line first now next w0 w1 w2 handed more seen goes so_far comes a kept = cc

  -- no line is behind the last line
  none_behind : (line : Line) (first now next : Option (List Line)) (before done : List Line) → Stands first now before
      → Stands first next done → Comes now kind.LastLine line next → AreAnswered first done
  none_behind line None now next before done s0 s comes = tt
  none_behind line (Some all) None next before done s0 s comes = absurd s0
  none_behind line (Some all) (Some rest) None before done s0 s comes = absurd s
  none_behind line (Some all) (Some rest) (Some later) before done s0 s comes = sym (s ∙ ap (λ l. done ++ before_close l) comes.1 ∙ append-nil done)

  -- the last line was answered
  pub finished : (line : Line) (first now next : Option (List Line)) (w0 w1 w2 : Option (List ℕ)) (handed more : List M) (seen : Option M)
      → ends kind.LastLine line ≡ false → SoFar first now w0 w1 handed → Comes now kind.LastLine line next
      → AddsReply gives shows sites places line w1 w2 seen → more ≡ handed ++ if_seen seen → AddsReplies gives shows sites places first w0 w2 more
  finished line first now next w0 w1 w2 handed more seen goes so_far comes a kept =
      let done : SoFar first next w0 w2 more = answered line first now next w0 w1 w2 handed more seen goes so_far (as_line line now next comes) a kept in
      record {
        lines = done.lines;
        those = none_behind line first now next (asked so_far.lines) (asked done.lines) so_far.stands done.stands comes;
        replies = done.replies;
        adds = done.adds;
        all = done.all;
      }

  -- the same, of what a line is called
  pub ended_at : (came : Came) (own line : Line) (first now next : Option (List Line)) (w0 w1 : Option (List ℕ)) (handed : List M)
      → own ≡ line → SoFar first now w0 w1 handed → Comes now came line next → ends came own ≡ true
      → AddsReplies gives shows sites places first w0 w1 handed
  ended_at came own line first now next w0 w1 handed same so_far comes closes = ended came line first now next w0 w1 handed so_far comes (sym (ap (ends came) same) ∙ closes)

  pub goes_on_at : (came : Came) (own other line : Line) (first now next : Option (List Line)) (w0 w1 w2 : Option (List ℕ)) (handed more : List M) (seen : Option M)
      → own ≡ line → other ≡ line → ends came own ≡ false → SoFar first now w0 w1 handed → Comes now came line next
      → AddsReply gives shows sites places other w1 w2 seen → more ≡ handed ++ if_seen seen → SoFar first next w0 w2 more
  goes_on_at came own other line first now next w0 w1 w2 handed more seen same too goes so_far comes a kept =
      goes_on came line first now next w0 w1 w2 handed more seen (sym (ap (ends came) same) ∙ goes) so_far comes (subst (λ l. AddsReply gives shows sites places l w1 w2 seen) too a) kept

  pub finished_at : (came : Came) (own other line : Line) (first now next : Option (List Line)) (w0 w1 w2 : Option (List ℕ)) (handed more : List M) (seen : Option M)
      → came ≡ kind.LastLine → own ≡ line → other ≡ line → ends came own ≡ false → SoFar first now w0 w1 handed
      → Comes now came line next
      → AddsReply gives shows sites places other w1 w2 seen → more ≡ handed ++ if_seen seen → AddsReplies gives shows sites places first w0 w2 more
  finished_at came own other line first now next w0 w1 w2 handed more seen is same too goes so_far comes a kept =
      finished line first now next w0 w1 w2 handed more seen
      (subst (λ k. ends k line ≡ false) is (sym (ap (ends came) same) ∙ goes)) so_far (subst (λ k. Comes now k line next) is comes)
      (subst (λ l. AddsReply gives shows sites places l w1 w2 seen) too a) kept
