-- The site's own ring is looked at, and then those between it and one site after another.
use Rattle.std.proofs.Common.{◌<◌, length, sym, subst, ◌∙◌, arith}
use Rattle.pv_cell.specs.Together.{Brought}
use Rattle.pv_opening.specs.Opened.{HasRing}
use Rattle.pv_rings.proofs.EachLemmas.{get_or-any}
use Rattle.pv_cluster.proofs.LookLemmas.{own-first, with-more}
use Rattle.pv_cluster.proofs.StillLemmas.{all-self, all-trans, one-still, still-linked}
use Rattle.pv_cluster.proofs.looking.look_at_site.Goals as goal

pub look_at_own-requires-clause-places : goal.look_at_own-requires-clause-places
look_at_own-requires-clause-places g c =
    let at = c.args.at in
    let x = c.index_mut.result.now in
    let all = c.args.boxes.now.items in
    let same = sym c.index_mut.ensures.value in (
      subst (λ box. at < length box.ends.sites_in.items) same (subst (λ n. at < n) (sym (c.requires.linked.ins at x c.requires.at)) c.requires.at),
      subst (λ box. at < length box.ends.sites_out.items) same (subst (λ n. at < n) (sym (c.requires.linked.outs at x c.requires.at)) c.requires.at),
    )

pub look_at_own-requires-clause-ring : goal.look_at_own-requires-clause-ring
look_at_own-requires-clause-ring g c =
    let at = c.args.at in
    subst (λ box. HasRing at at box box) (sym c.index_mut.ensures.value) (c.requires.linked.rings at at c.index_mut.result.now c.requires.at c.requires.at)

pub loop-before-init : goal.loop-before-init
loop-before-init g c =
    let at = c.args.at in
    let all = c.args.boxes.now.items in
    let x = c.index_mut.result.now in (
      one-still all all at x c.look_at_own.new.one (all-self all) c.requires.at c.index_mut.ensures.value c.look_at_own.ensures.still,
      own-first at all (λ any. subst (λ box. Brought at at box box) (c.index_mut.ensures.value ∙ get_or-any all at any x c.requires.at) c.look_at_own.ensures.brought),
    )

pub look_between-requires-clause-linked : goal.look_between-requires-clause-linked
look_between-requires-clause-linked g c = still-linked c.args.boxes.now.items c.loop-before.boxes.items c.loop-before.invariant.0 c.requires.linked

pub look_between-requires-clause-places : goal.look_between-requires-clause-places
look_between-requires-clause-places g c =
    (c.loop-before-test.true, subst (λ n. c.args.at < n) c.loop-before.invariant.0.0 c.requires.at)

pub loop-before-preserved : goal.loop-before-preserved
loop-before-preserved g c =
    let kept = c.loop-before.invariant in
    let old = c.args.boxes.now.items in
    let mid = c.loop-before.boxes.items in (
      all-trans old mid c.look_between.new.boxes.items kept.0 c.look_between.ensures.still,
      with-more old mid kept.0 c.requires.linked c.args.at c.requires.at c.loop-before.before c.loop-before-test.true kept.1 c.look_between.ensures.on
          c.look_between.ensures.back,
    )

pub returns-clause-still : goal.returns-clause-still
returns-clause-still g c = c.loop-before.invariant.0

pub returns-clause-own : goal.returns-clause-own
returns-clause-own g c = c.loop-before.invariant.1.own

pub returns-clause-on : goal.returns-clause-on
returns-clause-on g c = λ k any less. let done = c.loop-before-test.false in c.loop-before.invariant.1.on k any (omega (arith, less, done))

pub returns-clause-back : goal.returns-clause-back
returns-clause-back g c = λ k any less. let done = c.loop-before-test.false in c.loop-before.invariant.1.back k any (omega (arith, less, done))
