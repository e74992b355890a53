use Rattle.std.proofs.Common.{◌≡◌, ◌∙◌, ℕ, suc, ◌+◌, ◌∷◌, ◌++◌, [], List, replicate, sym, ap, subst, arith}
use Rattle.pv_protocol.specs.World.{first_site}
use Rattle.pv_world.specs.Stands.{StandForSites, StandsForSite}
use Rattle.pv_world.specs.declared.cell.Cell.{Cell}
use Rattle.pv_world.proofs.BeginLemmas.{stands-for-opening, stands-push}
use Rattle.pv_world.proofs.world.World.new.Goals as goal

pub loop-site-preserved : goal.loop-site-preserved
loop-site-preserved c =
    let catalog = c.args.catalog.now in
    let site = c.loop-site.site in
    let cell = c.in_ok-open.field-0 in
    let next : suc site ≡ site + 1 = omega arith in
    let here : site ≡ 0 + site = omega arith in
    record {
      count = c.push_reserved.ensures.len ∙ ap (λ (n : ℕ). n + 1) c.loop-site.invariant.count;
      room = omega (arith, c.push_reserved.ensures.capacity, c.loop-site.invariant.room);
      stand =
          subst (λ (cells : List Cell). StandForSites catalog 0 cells (replicate (site + 1) first_site)) (sym c.push_reserved.ensures.items)
          (subst (λ (n : ℕ). StandForSites catalog 0 (c.loop-site.cells.items ++ cell ∷ []) (replicate n first_site)) next
          (stands-push catalog 0 site c.loop-site.cells.items cell c.loop-site.invariant.stand
          (subst (λ (n : ℕ). StandsForSite catalog n cell first_site) here c.in_ok-open.ensures)));
    }

pub returns-clause-stands : goal.returns-clause-stands
returns-clause-stands c =
    let catalog = c.args.catalog.now in
    let all : c.loop-site.site ≡ catalog.sites = omega (arith, c.sites-site-end.ensures.count) in
    stands-for-opening (record { alloc = c.args.alloc; catalog = c.in_ok-copy.field-0; cells = c.loop-site.cells; mail = c.in_ok-new.field-0; order = c.new-2.result; room = c.in_ok-new-2.field-0; spare = c.new-4.result })
    catalog c.args.sent_limit c.in_ok-copy.ensures
    (subst (λ (n : ℕ). StandForSites catalog 0 c.loop-site.cells.items (replicate n first_site)) all c.loop-site.invariant.stand)
    c.in_ok-new.ensures c.new-2.ensures.items c.setup_is_in_range.ensures
