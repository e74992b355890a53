use Rattle.std.proofs.Common.{◌<◌, subst, arith}
use Rattle.std.specs.Prelude.{All}
use Rattle.pv_base.specs.Catalog.{Item}
use Rattle.pv_site.proofs.opening.setup_is_in_range.Goals as goal

pub returns : goal.returns
returns c = record {
  sites = omega (arith, c.sites.ensures.count, c.sites.ensures.bound);
  items = omega (arith, c.len.ensures.count, c.len.ensures.bound);
  least = omega (arith, c.journal.ensures.limit, c.journal.ensures.least);
  journal = omega (arith, c.journal.ensures.limit, c.journal.ensures.most);
  homes = subst (λ sites. All (λ (item : Item). item.site < sites) c.args.catalog.now.items) c.sites.ensures.count c.sites.ensures.homes;
  values = c.len.ensures.values;
  apart = omega arith;
  held = omega arith;
}
