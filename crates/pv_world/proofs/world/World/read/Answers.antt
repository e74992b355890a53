-- An item is read at the site that the catalog names.
use Rattle.std.proofs.Common.{◌≡◌, sym, ap, subst}
use Rattle.pv_protocol.specs.Report.{reading_at, down}
use Rattle.pv_protocol.specs.Shown.{shown}
use Rattle.pv_protocol.specs.State.{Site}
use Rattle.pv_protocol.specs.World.{site_at}
use Rattle.pv_world.proofs.SiteLemmas.{cell-stands, no-cell, owns-item, same-site}
use Rattle.pv_world.specs.Readings.{reading_in}
use Rattle.pv_world.proofs.world.World.read.Goals as goal

pub read-requires : goal.read-requires
read-requires c =
    let some = c.requires.stands in
    owns-item c.args.self.now.catalog c.site_of.result.0 c.in-Some.cell.now (site_at some.0 c.site_of.result.0) c.args.item.0
    (cell-stands c.args.self.now some.0 some.1 c.site_of.result.0 c.in-Some.cell.now (sym c.in-Some.ensures)) c.site_of.ensures

pub returns-in-Some : goal.returns-in-Some
returns-in-Some c = λ is declared stands found.
    let n = c.site_of.result.0 in
    let catalog = c.args.self.now.catalog in
    let item = c.args.item.0 in
    subst (λ m. reading_in m c.read.result ≡ reading_at m (site_at is m).running item (shown catalog (site_at is m).records item))
    (same-site catalog.items item n declared c.site_of.ensures found)
    (c.read.ensures catalog n (site_at is n) (cell-stands c.args.self.now is stands n c.in-Some.cell.now (sym c.in-Some.ensures)))

pub returns-in-None : goal.returns-in-None
returns-in-None c = λ is declared stands found.
    let n = c.site_of.result.0 in
    let catalog = c.args.self.now.catalog in
    let item = c.args.item.0 in
    subst (λ m. down m ≡ reading_at m (site_at is m).running item (shown catalog (site_at is m).records item))
    (same-site catalog.items item n declared c.site_of.ensures found)
    (sym (ap (λ (site : Site). reading_at n site.running item (shown catalog site.records item)) (no-cell c.args.self.now is stands n (sym c.in-None.ensures))))
