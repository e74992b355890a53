-- The parts of all sites are a plan, since each item is at one of the sites.
use Rattle.std.proofs.Common.{◌<◌, List, sym, subst, arith}
use Rattle.std.specs.List.{All}
use Rattle.pv_base.specs.Catalog.{Item}
use Rattle.pv_model.specs.Check.{Part, IsPlan}
use Rattle.pv_check.proofs.PlanLemmas.{parts_among-plan}
use Rattle.pv_check.proofs.checking.parts_of.Goals as goal

pub returns : goal.returns
returns c = λ program are.
    let items = c.args.catalog.now.items in
    let homes : All (λ (item : Item). item.site < c.loop-site.site) items = λ k d within. omega (arith, c.loop-site-test.false, c.sites-site-end.ensures.homes k d within) in
    subst (λ (parts : List Part). IsPlan program items parts) (sym c.loop-site.invariant)
    (parts_among-plan program items c.args.wants.now c.loop-site.site c.requires homes are)
