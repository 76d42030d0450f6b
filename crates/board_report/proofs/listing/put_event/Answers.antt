use Rattle.std.proofs.Common.{◌≡◌, ◌++◌, ◌∷◌, [], ℕ, List, append_assoc, codes, ap, ◌∙◌}
use Rattle.board_report.{specs.Listing.{event_line, exact_text, kind_text, voided_text}, specs.Texts.field, proofs.Pieces.in_front}
use Rattle.board_report.proofs.listing.put_event.Goals as goal

-- the pieces of the line, one behind the other
pub returns : goal.returns
unfolding event_line
returns c =
    let e = c.args.shown.now in
    let t0 = c.args.text.now.items in
    let t1 = c.put_field.new.text.items in
    let t2 = c.extend_from_slice.new.self.items in
    let t3 = c.extend_from_slice-2.new.self.items in
    let t4 = c.extend_from_slice-3.new.self.items in
    let t5 = c.put_moment.new.text.items in
    let t6 = c.put_field-2.new.text.items in
    let t7 = c.put_field-3.new.text.items in
    let t8 = c.extend_from_slice-4.new.self.items in
    let sp : List ℕ = codes " " in
    let f1 = field (codes "event ") e.number in
    let f3 = kind_text e.kind in
    let f5 = exact_text e.moment in
    let f6 = field (codes " evse=") e.evse in
    let f7 = field (codes " readings=") e.readings in
    let f8 = voided_text e.voided in
    let s1 : t1 ≡ t0 ++ f1 = c.in_ok-put_field.ensures ∙ ap (λ n. t0 ++ field (codes "event ") n) c.from.ensures in
    let s2 : t2 ≡ t1 ++ sp = c.in_ok-extend_from_slice.ensures.items in
    let s3 : t3 ≡ t2 ++ f3 = c.in_ok-extend_from_slice-2.ensures.items ∙ ap (λ bs. t2 ++ bs) (c.as_bytes.ensures.value ∙ c.kind_text.ensures) in
    let s4 : t4 ≡ t3 ++ sp = c.in_ok-extend_from_slice-3.ensures.items in
    let s5 : t5 ≡ t4 ++ f5 = c.in_ok-put_moment.ensures in
    let s6 : t6 ≡ t5 ++ f6 = c.in_ok-put_field-2.ensures ∙ ap (λ n. t5 ++ field (codes " evse=") n) (c.from-2.ensures ∙ c.number.ensures.value) in
    let s7 : t7 ≡ t6 ++ f7 = c.in_ok-put_field-3.ensures in
    let s8 : t8 ≡ t7 ++ f8 = c.in_ok-extend_from_slice-4.ensures.items ∙ ap (λ bs. t7 ++ bs) (c.as_bytes-2.ensures.value ∙ c.voided_text.ensures) in
    let whole : t8 ≡ t0 ++ (f1 ++ (sp ++ (f3 ++ (sp ++ (f5 ++ (f6 ++ (f7 ++ (f8)))))))) =
    s8
    ∙ in_front t7 t6 f7 (f8) s7
    ∙ in_front t6 t5 f6 (f7 ++ (f8)) s6
    ∙ in_front t5 t4 f5 (f6 ++ (f7 ++ (f8))) s5
    ∙ in_front t4 t3 sp (f5 ++ (f6 ++ (f7 ++ (f8)))) s4
    ∙ in_front t3 t2 f3 (sp ++ (f5 ++ (f6 ++ (f7 ++ (f8))))) s3
    ∙ in_front t2 t1 sp (f3 ++ (sp ++ (f5 ++ (f6 ++ (f7 ++ (f8)))))) s2
    ∙ in_front t1 t0 f1 (sp ++ (f3 ++ (sp ++ (f5 ++ (f6 ++ (f7 ++ (f8))))))) s1 in
    c.in_ok-push.ensures.items ∙ ap (λ l. l ++ 10 ∷ []) whole ∙ append_assoc t0 (f1 ++ (sp ++ (f3 ++ (sp ++ (f5 ++ (f6 ++ (f7 ++ (f8)))))))) (10 ∷ [])
