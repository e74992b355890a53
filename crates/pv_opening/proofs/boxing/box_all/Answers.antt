use Rattle.std.proofs.Common.{◌≡◌, ◌+◌, length, rules, ap, refl, sym, subst, ◌∙◌, arith}
use Rattle.std.proofs.lemmas.List.{length_push}
use Rattle.pv_opening.proofs.BoxLemmas.{BoxedFrom, boxed-all, boxed-more, boxed-none, begin-left, ends-stand, have-some, none-more, one-more, popped, rows-left, rows-less, site-new, site-number}
use Rattle.pv_opening.specs.Boxing.{AreBoxed, HaveEach}
use Rattle.pv_opening.specs.Opened.{IsNewBox}
use Rattle.pv_opening.proofs.boxing.box_all.Goals as goal

pub loop-site-init : goal.loop-site-init
loop-site-init g c = (
  ap (λ l. length l + length c.args.sites.items) c.new-boxes.ensures.items ∙ none-more (length c.args.sites.items),
  λ n x there. there,
  subst (λ n. HaveEach n c.args.rows) (sym c.requires.sites.0) c.requires.rows.count,
  (λ n x there. there, λ n x there. there, λ n x there. there, λ n x there. there),
  boxed-none g.L.Log.model c.args.catalog.now c.args.sites.items c.args.rows c.new-boxes.result.items c.new-boxes.ensures.items,
)

pub take_last-ends-requires : goal.take_last-ends-requires
take_last-ends-requires g c =
    let before = c.loop-site.sites.items in
    let after = c.pop.new.self.items in
    let site = c.in-Some.site in
    let is = popped before after site c.pop.result c.pop.ensures.items c.in-Some.is in
    have-some (length after) c.loop-site.rows
    (subst (λ n. HaveEach n c.loop-site.rows) (one-more before after site is (length after) refl) c.loop-site.invariant.2)

pub overflow_cast-me : goal.overflow_cast-me
overflow_cast-me g c =
    let all = c.args.sites.items in
    let before = c.loop-site.sites.items in
    let after = c.pop.new.self.items in
    let site = c.in-Some.site in
    let is = popped before after site c.pop.result c.pop.ensures.items c.in-Some.is in
    let at = c.len.ensures ∙ c.pop.new.self.ok.0 in
    let within = site-number g.L.Log.model c.args.catalog.now all c.args.rows c.len.result before after site is (sym at) c.loop-site.invariant.1 c.requires.sites in
    let few = c.setup_is_in_range.ensures.sites in
    omega (arith, within, few)

pub box_one-requires-clause-me : goal.box_one-requires-clause-me
box_one-requires-clause-me g c =
    let all = c.args.sites.items in
    let before = c.loop-site.sites.items in
    let after = c.pop.new.self.items in
    let site = c.in-Some.site in
    let is = popped before after site c.pop.result c.pop.ensures.items c.in-Some.is in
    let at = c.len.ensures ∙ c.pop.new.self.ok.0 in
    site-number g.L.Log.model c.args.catalog.now all c.args.rows c.len.result before after site is (sym at) c.loop-site.invariant.1 c.requires.sites

pub box_one-requires-clause-site : goal.box_one-requires-clause-site
box_one-requires-clause-site g c =
    let all = c.args.sites.items in
    let before = c.loop-site.sites.items in
    let after = c.pop.new.self.items in
    let site = c.in-Some.site in
    let is = popped before after site c.pop.result c.pop.ensures.items c.in-Some.is in
    let at = c.len.ensures ∙ c.pop.new.self.ok.0 in
    site-new g.L.Log.model c.args.catalog.now all c.args.rows c.len.result before after site is (sym at) c.loop-site.invariant.1 c.requires.sites

pub box_one-requires-clause-ends : goal.box_one-requires-clause-ends
box_one-requires-clause-ends g c =
    let before = c.loop-site.sites.items in
    let after = c.pop.new.self.items in
    let site = c.in-Some.site in
    let is = popped before after site c.pop.result c.pop.ensures.items c.in-Some.is in
    let n = length after in
    let have = subst (λ m. HaveEach m c.loop-site.rows) (one-more before after site is n refl) c.loop-site.invariant.2 in
    let ends = c.take_last-ends in
    c.requires.rows.new n ends.result (ends-stand n c.args.rows c.loop-site.rows ends.new.self ends.result ends.ensures have c.loop-site.invariant.3)

pub loop-site-preserved : goal.loop-site-preserved
loop-site-preserved g c =
    let kept = c.loop-site.invariant in
    let all = c.args.sites.items in
    let before = c.loop-site.sites.items in
    let after = c.pop.new.self.items in
    let site = c.in-Some.site in
    let is = popped before after site c.pop.result c.pop.ensures.items c.in-Some.is in
    let n = length after in
    let less = one-more before after site is n refl in
    let rows = c.loop-site.rows in
    let ends = c.take_last-ends in
    let have = subst (λ m. HaveEach m rows) less kept.2 in
    let stand = ends-stand n c.args.rows rows ends.new.self ends.result ends.ensures have kept.3 in
    let boxes = c.loop-site.boxes.items in
    let new = c.in_ok-new.new in
    let at = c.len.ensures ∙ c.pop.new.self.ok.0 in
    let fresh = subst (λ m. IsNewBox g.L.Log.model c.args.catalog.now m site new) at c.in_ok-new.ensures.new in
    let grown = ap (λ l. length l) c.in_ok-push.ensures.items ∙ length_push boxes new in
    let sum = kept.0 in (
      omega (arith, less, grown, sum),
      begin-left before after site is all kept.1,
      rows-less n c.args.rows rows ends.new.self ends.result ends.ensures have,
      rows-left n c.args.rows rows ends.new.self ends.result ends.ensures have kept.3,
      subst (λ l. BoxedFrom g.L.Log.model c.args.catalog.now all c.args.rows n l) (sym c.in_ok-push.ensures.items)
          (boxed-more g.L.Log.model c.args.catalog.now all c.args.rows n before after site is refl kept.1 c.requires.sites boxes new ends.result fresh
          c.in_ok-new.ensures.ends stand kept.4),
    )

pub returns : goal.returns
returns g c =
    let kept = c.loop-site.invariant in
    let all = c.args.sites.items in
    let boxes = c.loop-site.boxes.items in
    let none = sym c.loop-site.sites.ok.0 ∙ c.in_default.ensures.cases.0 in
    subst (λ l. AreBoxed g.L.Log.model c.args.catalog.now all c.args.rows l) (search rules)
    (boxed-all g.L.Log.model c.args.catalog.now all c.args.rows boxes (subst (λ n. length boxes + n ≡ length all) none kept.0)
    (subst (λ n. BoxedFrom g.L.Log.model c.args.catalog.now all c.args.rows n boxes) none kept.4))
