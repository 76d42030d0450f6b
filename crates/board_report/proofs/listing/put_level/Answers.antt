use Rattle.std.{specs.Fmt.decimal, proofs.Common.{◌≡◌, ◌++◌, ℕ, List, codes, ap, ◌∙◌}, proofs.lemmas.Result.on_ok_weaker}
use Rattle.board_report.{specs.Listing.{exact_text, reading_fields}, specs.Texts.field, proofs.Pieces.in_front}
use Rattle.board_report.proofs.listing.put_level.Goals as goal

-- the pieces of the line, one behind the other
pub returns-clause-text : goal.returns-clause-text
unfolding reading_fields field
returns-clause-text c =
    let r = c.args.shown.now in
    let word = c.args.word.now in
    let t0 = c.args.text.now.items in
    let t1 = c.put_field.new.text.items in
    let t2 = c.put_field-2.new.text.items in
    let t3 = c.extend_from_slice.new.self.items in
    let t4 = c.put_moment.new.text.items in
    let t5 = c.extend_from_slice-2.new.self.items in
    let t6 = c.write.new.text.items in
    let sp : List ℕ = codes " " in
    let f1 = field word r.number in
    let f2 = field (codes ".") r.place in
    let f4 = exact_text r.reading.moment in
    let f5 = decimal r.reading.mwh in
    let s1 : t1 ≡ t0 ++ f1 = c.in_ok-put_field.ensures ∙ ap (λ n. t0 ++ field word n) c.from.ensures in
    let s2 : t2 ≡ t1 ++ f2 = c.in_ok-put_field-2.ensures in
    let s3 : t3 ≡ t2 ++ sp = c.in_ok-extend_from_slice.ensures.items in
    let s4 : t4 ≡ t3 ++ f4 = c.in_ok-put_moment.ensures ∙ ap (λ m. t3 ++ exact_text m) c.moment.ensures in
    let s5 : t5 ≡ t4 ++ sp = c.in_ok-extend_from_slice-2.ensures.items in
    on_ok_weaker c.write.result
    (λ wrote.
    let is : t6 ≡ t5 ++ f5 = wrote ∙ ap (λ n. t5 ++ decimal n) c.level.ensures.value in
    is
    ∙ in_front t5 t4 sp (f5) s5
    ∙ in_front t4 t3 f4 (sp ++ (f5)) s4
    ∙ in_front t3 t2 sp (f4 ++ (sp ++ (f5))) s3
    ∙ in_front t2 t1 f2 (sp ++ (f4 ++ (sp ++ (f5)))) s2
    ∙ in_front t1 t0 f1 (f2 ++ (sp ++ (f4 ++ (sp ++ (f5))))) s1) c.write.ensures.text
