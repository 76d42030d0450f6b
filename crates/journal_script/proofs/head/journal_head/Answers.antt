use Rattle.std.proofs.Common.{◌∙◌, ap, arith, length, subst, take_all}
use Rattle.journal_script.{specs.Cuts.run_begins, specs.Head.{Adds, site_meanings, sites_meanings, station_meanings, stations_meanings}, proofs.HeadLaw.head_is, proofs.HeadLines.adds_more}
use Rattle.journal_script.proofs.head.journal_head.Goals as goal

pub loop-station-preserved : goal.loop-station-preserved
loop-station-preserved c =
    adds_more (station_meanings c.as_slice-sites.result.now) c.as_slice-station-items.result.now c.loop-station.station-index c.station-item.result run_begins
    c.loop-station.head.items c.put_station.new.head.items c.loop-station-test.true c.station-item.is c.loop-station.invariant c.in_ok-put_station.ensures

pub loop-site-preserved : goal.loop-site-preserved
loop-site-preserved c =
    adds_more site_meanings c.as_slice-sites.result.now c.loop-site.site-index c.site-item.result c.loop-station.head.items c.loop-site.head.items
    c.put_site.new.head.items c.loop-site-test.true c.site-item.is c.loop-site.invariant c.in_ok-put_site.ensures

pub returns : goal.returns
returns c =
    let sites = c.args.plan.now.sites.items in
    let stations = c.args.plan.now.stations.items in
    let front = c.loop-station.head.items in
    let all = c.loop-site.head.items in
    let slice = c.as_slice-sites.result.now in
    let of_stations : Adds run_begins front (stations_meanings sites stations) =
    subst (λ xs. Adds run_begins front (stations_meanings xs stations)) c.as_slice-sites.ensures.value
    (subst (λ xs. Adds run_begins front (stations_meanings slice xs))
    (take_all c.loop-station.station-index c.as_slice-station-items.result.now c.loop-station-test.false ∙ c.as_slice-station-items.ensures.value) c.loop-station.invariant) in
    let of_sites : Adds front all (sites_meanings sites) =
    subst (λ xs. Adds front all (sites_meanings xs)) (take_all c.loop-site.site-index slice c.loop-site-test.false ∙ c.as_slice-sites.ensures.value) c.loop-site.invariant in
    head_is sites stations front all c.extend_from_slice.new.self.items c.requires.faultless c.requires.in_order
    (omega (arith, c.as_slice-sites.ensures.fits, ap length c.as_slice-sites.ensures.value))
    (omega (arith, c.as_slice-station-items.ensures.fits, ap length c.as_slice-station-items.ensures.value))
    of_stations of_sites c.in_ok-extend_from_slice.ensures.items
