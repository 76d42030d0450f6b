use Rattle.std.proofs.Common.{[], ◌∷◌}
use Rattle.script_ledgers.specs.Drafts.{site_name}
use Rattle.script_lines.specs.LineMeaning.{declares}
use Rattle.journal_script.{specs.Head.limits_meaning, proofs.HeadLines.{adds_both, adds_station, on_ok}}
use Rattle.journal_script.proofs.head.put_station.Goals as goal

pub returns : goal.returns
returns c =
    let old = c.args.head.now.items in
    let limited = c.put_limits.new.head.items in
    let new = c.put_line.new.head.items in
    let sites = c.args.sites.now in
    let station = c.args.station.now in
    on_ok c.put_line.result _ _
    (λ e. adds_both old limited new (limits_meaning station.limits ∷ []) (declares (site_name sites station.site) station.name ∷ []) c.in_ok-put_limits.ensures
    (adds_station limited new c.text.result.now c.text-2.result.now station.name sites station.site c.index-sites-station.result c.requires c.index-sites-station.is
    c.text.ensures.value c.text.ensures.named c.text-2.ensures.value c.text-2.ensures.named e))
    c.put_line.ensures
