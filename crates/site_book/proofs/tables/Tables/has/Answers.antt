use Rattle.std.{proofs.Common.{IsTrue, sym, ◌∙◌, subst}, proofs.lemmas.Bool.false≢true}
use Rattle.site_book.{specs.Tables.HasTable, proofs.Named.{has-read, has-past}}
use Rattle.site_book.proofs.tables.Tables.has.Goals as goal

pub returns-in-Some : goal.returns-in-Some
returns-in-Some c =
    let found = c.in-Some.ensures.lookup in
    let here = has-read c.deref.result.now c.args.site c.in-Some.table.now found.3.0 found.1 in
    let same = c.deref.ensures.value ∙ c.self.view_is in
    let told = subst (λ b. (IsTrue b → HasTable c.deref.result.now c.args.site) × (HasTable c.deref.result.now c.args.site → IsTrue b)) (sym c.is_some.ensures) here in
    subst (λ ts. (IsTrue c.is_some.result → HasTable ts c.args.site) × (HasTable ts c.args.site → IsTrue c.is_some.result)) same told

pub returns-in-None : goal.returns-in-None
returns-in-None c =
    let past = c.in-None.ensures.lookup in
    let same = c.deref.ensures.value ∙ c.self.view_is in
    ((λ t. absurd (false≢true t)), (λ has. absurd (has-past c.deref.result.now c.args.site past.3 (subst (λ ts. HasTable ts c.args.site) (sym same) has))))
