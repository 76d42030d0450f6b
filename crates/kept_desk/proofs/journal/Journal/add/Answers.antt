use Rattle.std.{proofs.Common.{◌≡◌, false, [], ◌∷◌, ◌++◌, ap, sym, ◌∙◌, subst}, proofs.lemmas.List.Elements.All-push}
use Rattle.kept_desk.{specs.declared.entry.Entry.Entry, specs.Entries.{bytes_of, entry}, specs.Journal.{IsWritten, OwnEntries}, specs.Rule.keeping, specs.Speaking.{AreSpoken, SpeaksOf}, proofs.Lines.{cut, added}}
use Rattle.kept_desk.proofs.journal.Journal.add.Goals as goal

pub invariant_of-self : goal.invariant_of-self
invariant_of-self g c =
    let i = c.self.invariant in
    record {
      is_named = i.is_named;
      sits = i.sits;
      me_is = i.me_is;
      written =
          cut _ _ _ _ _ _ c.self.inside.seat.me.0.log c.args.note.now (bytes_of c.args.line) c.requires.note c.requires.speaks.speaks.feedless c.if-self.false i.written
          c.in_err-write_entry.ensures.written;
      spoken = i.spoken;
    }

pub invariant_of-self-2 : goal.invariant_of-self-2
invariant_of-self-2 g c =
    let i = c.self.invariant in
    let log = c.self.inside.seat.me.0.log in
    let e = entry c.share.inside.station c.args.note.now (bytes_of c.args.line) c.args.command.now in
    let now = log ++ e ∷ [] in
    let grown : c.receive-seat.new.seat.me.0.log ≡ now = ap (λ m. m.0.log) (c.receive-seat.ensures.keeps ∙ ap (λ m. (keeping m.0.log m.0.made, [])) c.note_entry.ensures.keeps) in
    let made : c.self.inside.seat.me.0.made ≡ c.self.inside.shares = ap (λ m. m.0.made) i.me_is in
    record {
      is_named = i.is_named;
      sits = c.receive-seat.ensures.sits.0;
      me_is = c.receive-seat.ensures.keeps ∙ ap (λ m. (keeping m.0.log m.0.made, [])) c.note_entry.ensures.keeps ∙ (λ n. (keeping (sym grown n) (made n), []));
      written =
          subst (IsWritten false _ _ _) (sym grown)
          (added _ _ _ _ _ _ log c.share.inside.station c.args.note.now (bytes_of c.args.line) c.args.command.now c.requires.note c.requires.speaks.speaks.feedless c.if-self.false i.written
          c.in_ok-write_entry.ensures.written c.in_ok-write_entry.ensures.handed_on);
      spoken = subst (AreSpoken g.K.Opening.name) (sym grown) (All-push (λ (x : Entry). SpeaksOf (g.K.Opening.name x.station) x.line x.command) log e i.spoken
          (subst (λ n. SpeaksOf (g.K.Opening.name n) (bytes_of c.args.line) c.args.command.now) (sym (ap (λ (s : OwnEntries). s.station) c.share.view_is)) c.requires.speaks));
    }
