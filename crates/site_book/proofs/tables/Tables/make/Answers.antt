use Rattle.std.proofs.Common.{◌≡◌, ◌+◌, [], ◌∷◌, ◌++◌, length, Some, ap, sym, ◌∙◌, subst, length-append}
use Rattle.site_book.{specs.Tables.{Unopened, HasTable}, proofs.Named.has-more}
use Rattle.site_book.proofs.tables.Tables.make.Goals as goal

pub loop-preserved : goal.loop-preserved
loop-preserved c =
    let i = c.loop.invariant in
    let items : c.push.new.self.items ≡ c.loop.tables.items ++ Some c.in_ok-new.field-0 ∷ [] = c.in_ok-push.ensures.items in
    record {
      count = ap length items ∙ length-append c.loop.tables.items (Some c.in_ok-new.field-0 ∷ []) ∙ ap (λ n. n + 1) i.count;
      tables = λ site less. subst (λ ts. HasTable ts site) (sym {A = Unopened} items) (has-more c.loop.tables.items c.in_ok-new.field-0 c.loop.counter i.count i.tables site less);
    }
