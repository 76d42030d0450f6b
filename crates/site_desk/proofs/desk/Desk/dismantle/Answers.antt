use Rattle.std.{proofs.Common.{◌≡◌, ◌<◌, length, map, slice_get, ap, sym, ◌∙◌, subst, arith}, specs.Prelude.{All, vec_len}}
use Rattle.site_desk.{specs.Close.Saw, specs.Parts.IsTied, specs.Roster.IsDesk}
use Rattle.site_desk.proofs.desk.Desk.dismantle.Goals as goal

pub give_back_viewers-requires-clause-numbers : goal.give_back_viewers-requires-clause-numbers
give_back_viewers-requires-clause-numbers g c = λ site b at. (c.in-None.ensures.whole.summed site b (ap (λ bs. slice_get bs site) c.deref-3.ensures.value ∙ at)).number

pub give_back_viewers-requires-clause-viewed : goal.give_back_viewers-requires-clause-viewed
give_back_viewers-requires-clause-viewed g c =
    λ k v at. subst (λ n. v.site < n) (ap length c.deref-3.ensures.value) (c.in-None.ensures.whole.viewed k v (ap (λ vs. slice_get vs k) c.deref-5.ensures.value ∙ at))

pub returns-in-None-clause-tied : goal.returns-in-None-clause-tied
returns-in-None-clause-tied g c = λ k d at.
    subst (λ bs. IsTied bs d) (c.deref-3.ensures.value ∙ sym c.give_back_viewers.ensures.same)
    (c.in-None.ensures.whole.whole k d (ap (λ cs. slice_get (map g.C.HasCell.cell cs) k) c.deref-2.ensures.value ∙ at)).tied

pub returns-in-None-clause-seen : goal.returns-in-None-clause-seen
returns-in-None-clause-seen g c = subst (λ bs. All (Saw bs) c.args.viewers.items) (sym c.give_back_viewers.ensures.same) c.give_back_viewers.ensures.seen

pub invariant_of-result : goal.invariant_of-result
invariant_of-result g c =
    let cells : vec_len c.lock_up.new.locked ≡ vec_len c.self.inside.cells = omega (arith, c.lock_up.ensures.all, c.unlock.ensures.none, c.unlock.ensures.all, c.into_inner-cells.result.no_cells) in
    let books : vec_len c.lock_up-in-Some.new.locked ≡ vec_len c.self.inside.books =
    omega (arith, c.lock_up-in-Some.ensures.all, c.unlock-2.ensures.none, c.unlock-2.ensures.all, c.into_inner-cells.result.no_books) in
    subst (λ n. IsDesk c.self.inside.places.items n (vec_len c.lock_up-in-Some.new.locked)) (sym cells)
    (subst (λ n. IsDesk c.self.inside.places.items (vec_len c.self.inside.cells) n) (sym books) c.self.invariant)
