use Rattle.std.proofs.Common.{cond, ◌++◌, sym, ap, ◌∙◌}
use Rattle.board_report.specs.Texts.{board_text}
use Rattle.site_desk.specs.declared.plan.SitePlan.{SitePlan}
use Rattle.script_lines.{specs.declared.script_line.LineFault.TheVariants.UnknownSite, specs.Texts.fault_line}
use Rattle.script_ledgers.{specs.Script.{order_named, period_named, shown_site, stations_of}, specs.State.script_of, proofs.Answered.ok_told, proofs.Places.{none_placed, some_placed}}
use Rattle.script_ledgers.proofs.opened_script.OpenedScript.put_board.Goals as goal

pub returns-in_ok-reply-in-Some-clause-text : goal.returns-in_ok-reply-in-Some-clause-text
returns-in_ok-reply-in-Some-clause-text g c =
    let s = c.args.self.now in
    let there = some_placed {X = SitePlan} (λ x. x.name) c.args.name.now s.draft.sites c.in-Some.site (sym c.site.ensures ∙ c.in-Some.is) in
    let text = board_text (shown_site c.args.name.now (order_named (script_of s) c.args.name.now) (period_named (script_of s) c.args.name.now) (stations_of c.args.name.now (script_of s).world)) in
    c.in_ok-reply-in-Some.ensures.text ∙ sym (ap (λ b. cond b text (fault_line UnknownSite)) there.among)

pub returns-in-None-clause-text : goal.returns-in-None-clause-text
returns-in-None-clause-text g c =
    let s = c.args.self.now in
    let none = none_placed {X = SitePlan} (λ x. x.name) c.args.name.now s.draft.sites (sym c.site.ensures ∙ c.in-None.is) in
    let text = board_text (shown_site c.args.name.now (order_named (script_of s) c.args.name.now) (period_named (script_of s) c.args.name.now) (stations_of c.args.name.now (script_of s).world)) in
    ok_told c.put_fault.result _ _ (λ h. h ∙ ap (λ l. l ++ fault_line UnknownSite) c.requires ∙ sym (ap (λ b. cond b text (fault_line UnknownSite)) none)) c.put_fault.ensures
