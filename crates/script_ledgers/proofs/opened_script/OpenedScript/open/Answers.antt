use Rattle.std.proofs.Common.{true, length, ap, sym, subst}
use Rattle.site_desk.specs.Parts.{AreApart, AreNewBooks, AreNewCells, AreTied}
use Rattle.script_ledgers.{specs.Drafts.planned, proofs.Opened.{no_posts, none_given, opened_running, opened_world}}
use Rattle.script_ledgers.proofs.opened_script.OpenedScript.open.Goals as goal

pub enlist_all-requires : goal.enlist_all-requires
enlist_all-requires g c =
    none_given c.plan.result.now.sites.items c.plan.result.now.stations.items c.into_vec-cells.result.items
    (subst (AreNewCells c.plan.result.now.sites.items c.plan.result.now.stations.items) (sym c.into_vec-cells.ensures) c.in-Ok.ensures.cells)

pub invariant_of-result : goal.invariant_of-result
invariant_of-result g c =
    let d = c.args.draft in
    let old = c.into_vec-cells.result.items in
    let books = c.into_vec.result.items in
    let told = c.in-Ok.ensures in
    let v = c.into_vec-cells.ensures in
    let w = c.into_vec.ensures in
    let new = subst (λ l. AreNewCells l d.stations old) c.plan.ensures.sites
    (subst (λ l. AreNewCells c.plan.result.now.sites.items l old) c.plan.ensures.stations
    (subst (AreNewCells c.plan.result.now.sites.items c.plan.result.now.stations.items) (sym v) told.cells)) in
    let made = subst (λ l. AreNewBooks l (length d.sites) books) c.plan.ensures.stations
    (subst (λ l. AreNewBooks c.plan.result.now.stations.items (length l) books) c.plan.ensures.sites
    (subst (AreNewBooks c.plan.result.now.stations.items (length c.plan.result.now.sites.items)) (sym w) told.books)) in
    let tied = subst (λ l. AreTied l books) (sym v) (subst (AreTied c.in-Ok.field-0.cells) (sym w) told.tied) in
    let apart = subst AreApart (sym v) told.apart in
    let given = c.in_ok-tallies-in-Ok.ensures in
    record { running = opened_running d.sites d.stations old books c.enlist_all.new.cells.items c.in_ok-tallies-in-Ok.tallies.items c.plan.ensures.is new made tied apart given.cells given.tallies }

pub returns-in-Ok-clause-script : goal.returns-in-Ok-clause-script
returns-in-Ok-clause-script g c =
    let d = c.args.draft in
    let old = c.into_vec-cells.result.items in
    let books = c.into_vec.result.items in
    let told = c.in-Ok.ensures in
    let v = c.into_vec-cells.ensures in
    let w = c.into_vec.ensures in
    let new = subst (λ l. AreNewCells l d.stations old) c.plan.ensures.sites
    (subst (λ l. AreNewCells c.plan.result.now.sites.items l old) c.plan.ensures.stations
    (subst (AreNewCells c.plan.result.now.sites.items c.plan.result.now.stations.items) (sym v) told.cells)) in
    let made = subst (λ l. AreNewBooks l (length d.sites) books) c.plan.ensures.stations
    (subst (λ l. AreNewBooks c.plan.result.now.stations.items (length l) books) c.plan.ensures.sites
    (subst (AreNewBooks c.plan.result.now.stations.items (length c.plan.result.now.sites.items)) (sym w) told.books)) in
    let tied = subst (λ l. AreTied l books) (sym v) (subst (AreTied c.in-Ok.field-0.cells) (sym w) told.tied) in
    let apart = subst AreApart (sym v) told.apart in
    let given = c.in_ok-tallies-in-Ok.ensures in
    ap (λ x. record (planned d) { opened = true; world = x })
    (opened_world d.sites d.stations old books c.enlist_all.new.cells.items c.in_ok-tallies-in-Ok.tallies.items c.plan.ensures.is new made tied apart given.cells given.tallies)

pub returns-in-Ok-clause-none : goal.returns-in-Ok-clause-none
returns-in-Ok-clause-none g c =
    let d = c.args.draft in
    let old = c.into_vec-cells.result.items in
    let books = c.into_vec.result.items in
    let told = c.in-Ok.ensures in
    let v = c.into_vec-cells.ensures in
    let w = c.into_vec.ensures in
    let new = subst (λ l. AreNewCells l d.stations old) c.plan.ensures.sites
    (subst (λ l. AreNewCells c.plan.result.now.sites.items l old) c.plan.ensures.stations
    (subst (AreNewCells c.plan.result.now.sites.items c.plan.result.now.stations.items) (sym v) told.cells)) in
    let made = subst (λ l. AreNewBooks l (length d.sites) books) c.plan.ensures.stations
    (subst (λ l. AreNewBooks c.plan.result.now.stations.items (length l) books) c.plan.ensures.sites
    (subst (AreNewBooks c.plan.result.now.stations.items (length c.plan.result.now.sites.items)) (sym w) told.books)) in
    let tied = subst (λ l. AreTied l books) (sym v) (subst (AreTied c.in-Ok.field-0.cells) (sym w) told.tied) in
    let apart = subst AreApart (sym v) told.apart in
    let given = c.in_ok-tallies-in-Ok.ensures in
    no_posts d.sites d.stations old books c.enlist_all.new.cells.items c.in_ok-tallies-in-Ok.tallies.items c.plan.ensures.is new made tied apart given.cells given.tallies
