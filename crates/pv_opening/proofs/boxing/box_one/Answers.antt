use Rattle.std.proofs.Common.{◌<◌, ap, sym, subst, ◌∙◌}
use Rattle.pv_cell.specs.Box.{course_site}
use Rattle.pv_cell.specs.Opens.{AreFresh}
use Rattle.pv_opening.proofs.boxing.box_one.Goals as goal
use Rattle.pv_protocol.specs.Sound.{IsSetupInRange}
use Rattle.pv_site.specs.SiteState.{setup_of}

pub new-requires-clause-me : goal.new-requires-clause-me
new-requires-clause-me g c =
    let opened = c.requires.site.0.1 in
    let me = ap (λ site. site.me) opened.site in
    let catalog = ap (λ site. site.catalog) opened.site in
    (sym me, subst (λ n. n < c.args.site.catalog.sites) (sym me) (subst (λ its. c.args.me.0 < its.sites) (sym catalog) c.requires.me))

pub new-requires-clause-catalog : goal.new-requires-clause-catalog
new-requires-clause-catalog g c =
    let opened = c.requires.site.0.1 in
    subst (λ its. IsSetupInRange (setup_of its)) (sym (ap (λ site. site.catalog) opened.site)) c.setup_is_in_range.ensures

pub new-requires-clause-ready : goal.new-requires-clause-ready
new-requires-clause-ready g c = c.requires.site.2

pub new-requires-clause-opened : goal.new-requires-clause-opened
new-requires-clause-opened g c =
    let found = c.requires.site in
    c.new_sites_fit_boxes.ensures.opened found.0.0 c.args.me.0 c.args.catalog.now c.args.site found.1 found.0.1

pub new-requires-clause-sites : goal.new-requires-clause-sites
new-requires-clause-sites g c =
    let same = sym (ap (λ site. site.catalog.sites) c.requires.site.0.1.site) in
    let are = c.requires.ends.sites_are in
    (are.0 ∙ same, are.1 ∙ same)

pub new-requires-clause-clients : goal.new-requires-clause-clients
new-requires-clause-clients g c = c.requires.ends.clients_are

pub new-requires-clause-fresh : goal.new-requires-clause-fresh
new-requires-clause-fresh g c = c.requires.ends.fresh

pub returns-clause-new : goal.returns-clause-new
returns-clause-new g c =
    let found = c.requires.site in
    let holds = c.in_ok-new.ensures.holds in
    let empty = c.in_ok-new.ensures.empty in
    let opened = found.0.1 in
    record {
      is_box = c.in_ok-new.ensures.is_box;
      is_new = record {
        site = ap course_site holds.0 ∙ c.new_sites_fit_boxes.ensures.first found.0.0 c.args.me.0 c.args.catalog.now c.args.site found.1 opened;
        history = (empty.0, empty.1, empty.3, empty.2);
        fresh = subst AreFresh (sym holds.1) c.requires.ends.fresh;
      };
      site_is = holds.0;
      number = ap (λ site. site.me) (holds.0 ∙ opened.site);
      catalog_is = ap (λ site. site.catalog) (holds.0 ∙ opened.site);
    }
