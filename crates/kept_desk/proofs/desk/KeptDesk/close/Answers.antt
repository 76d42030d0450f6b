use Rattle.std.{proofs.Common.{◌≡◌, Some, All, length, vec_len, vec_capacity, ap, sym, ◌∙◌, subst, arith}, specs.Prelude.slice_get, proofs.lemmas.List.map-id, proofs.lemmas.Option.slice_get_within}
use Rattle.kept_desk.{specs.Entries.of_station, specs.Journal.{IsWritten, Ledger}, specs.Kept.{IsKeptDesk, IsLeftFrom, commands_of}, proofs.Names.all_at}
use Rattle.ledger_model.specs.declared.command.Command.{Command}
use Rattle.site_desk.{specs.Cell.{Cell, IsInService}, specs.Close.{IsClosable, Saw}, specs.Parts.AreTied}
use Rattle.site_book.specs.Prefix.{IsPrefix}
use Rattle.kept_desk.proofs.desk.KeptDesk.close.Goals as goal

pub free_cells-requires-clause-none : goal.free_cells-requires-clause-none
free_cells-requires-clause-none g c = c.self.invariant.none

pub free_cells-requires-clause-room : goal.free_cells-requires-clause-room
free_cells-requires-clause-room g c = omega (arith, c.in-Ok.ensures.stations, c.self.invariant.room_for_all)

pub of-requires : goal.of-requires
of-requires g c = subst (λ cs. AreTied cs c.in-Ok.books.items) (map-id c.in-Ok.kept.items ∙ sym c.free_cells.ensures.cells) c.in-Ok.ensures.tied

pub returns-in-Ok-clause-kept : goal.returns-in-Ok-clause-kept
returns-in-Ok-clause-kept g c =
    let first = g.K.Opening.first in
    let kept = c.in-Ok.kept.items in
    let written = c.into_writer.ensures in
    let log = c.confirm_all.new.log.entries in
    record {
      log = log;
      written = subst (λ b. IsWritten b g.K.Opening.before (g.W.Write.contents c.into_writer.result.inner) c.into_writer.result.buf.items log) (sym c.is_broken-is_broken.ensures) written.written;
      spoken = written.spoken;
      begins = subst (λ (j : Ledger). All (λ m. IsPrefix m j.entries) c.args.moments.items) (sym c.confirm_all.ensures.log) c.confirm_all.ensures.first;
      left = λ k d at.
          let there : slice_get kept k ≡ Some d = ap (λ cs. slice_get cs k) (sym c.free_cells.ensures.cells ∙ sym (ap (λ e. e.cells) c.of.ensures)) ∙ at in
          let station = (c.in-Ok.ensures.whole.whole k d (ap (λ cs. slice_get cs k) (map-id kept) ∙ there)).placed.stands.station in
          let serves : IsInService d = λ out. let here = slice_get_within kept k d there in omega (arith, out, station, here, c.in-Ok.ensures.stations, c.self.invariant.few) in
          let own = all_at (λ (e : Cell). IsInService e → IsLeftFrom e.limits (first e.station) e.content (commands_of (of_station e.station c.into_inner-log.result.entries)))
          kept k d c.free_cells.ensures.left there serves in
          let moved = subst (λ (j : Ledger). IsLeftFrom d.limits (first d.station) d.content (commands_of (of_station d.station j.entries)))
          (sym (c.confirm_all.ensures.log ∙ c.free_cells.ensures.log)) own in
          subst (λ n. IsLeftFrom d.limits (first n) d.content (commands_of (of_station n log))) station moved;
    }

pub returns-in-Ok-clause-stations : goal.returns-in-Ok-clause-stations
returns-in-Ok-clause-stations g c = ap length (ap (λ e. e.cells) c.of.ensures ∙ c.free_cells.ensures.cells)
    ∙ sym c.in-Ok.kept.ok.0 ∙ c.in-Ok.ensures.stations ∙ ap (λ d. length d.stations) c.self.view_is

pub returns-in-Ok-clause-sites : goal.returns-in-Ok-clause-sites
returns-in-Ok-clause-sites g c = ap length (ap (λ e. e.books) c.of.ensures) ∙ c.in-Ok.ensures.sites ∙ ap (λ d. d.sites) c.self.view_is

pub returns-in-Ok-clause-whole : goal.returns-in-Ok-clause-whole
returns-in-Ok-clause-whole g c =
    let cells = ap (λ e. e.cells) c.of.ensures ∙ c.free_cells.ensures.cells ∙ sym (map-id c.in-Ok.kept.items) in
    let books = ap (λ e. e.books) c.of.ensures in
    let passes = c.args.passes.items in let viewers = c.args.viewers.items in
    subst (λ d. IsClosable d.stations d.viewers c.of.result.cells c.of.result.books passes viewers) c.self.view_is
    (subst (λ bs. IsClosable c.self.inside.desk.stations c.self.inside.desk.viewers c.of.result.cells bs passes viewers) (sym books)
    (subst (λ cs. IsClosable c.self.inside.desk.stations c.self.inside.desk.viewers cs c.in-Ok.books.items passes viewers) (sym cells) c.in-Ok.ensures.whole))

pub returns-in-Ok-clause-seen : goal.returns-in-Ok-clause-seen
returns-in-Ok-clause-seen g c = subst (λ bs. All (Saw bs) c.args.viewers.items) (sym (ap (λ e. e.books) c.of.ensures)) c.in-Ok.ensures.seen

pub invariant_of-result : goal.invariant_of-result
invariant_of-result g c = subst (λ d. IsKeptDesk g.K.Opening.name d.stations (vec_len c.self.inside.spare) (vec_capacity c.self.inside.spare)) (sym c.in-Err.ensures.desk) c.self.invariant
