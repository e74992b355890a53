-- One site after another is looked at.
use Rattle.std.proofs.Common.{◌≡◌, ◌<◌, subst, ◌∙◌, arith}
use Rattle.pv_cluster.proofs.LookLemmas.{brought-more}
use Rattle.pv_cluster.proofs.StillLemmas.{all-self, all-trans, still-linked}
use Rattle.pv_cluster.proofs.looking.look_at_sites.Goals as goal
use Rattle.pv_cluster.specs.Looks.{AreBroughtTo}

pub loop-at-init : goal.loop-at-init
loop-at-init g c = (c.len-count.ensures ∙ c.args.boxes.now.ok.0, omega arith, all-self c.args.boxes.now.items, λ from to any less other. absurd (omega (arith, less)))

pub look_at_site-requires-clause-linked : goal.look_at_site-requires-clause-linked
look_at_site-requires-clause-linked g c = still-linked c.args.boxes.now.items c.loop-at.boxes.items c.loop-at.invariant.2 c.requires

pub look_at_site-requires-clause-at : goal.look_at_site-requires-clause-at
look_at_site-requires-clause-at g c =
    subst (λ n. c.loop-at.at < n) (c.loop-at.invariant.0 ∙ c.loop-at.invariant.2.0) c.loop-at-test.true

pub loop-at-preserved : goal.loop-at-preserved
loop-at-preserved g c =
    let kept = c.loop-at.invariant in
    let old = c.args.boxes.now.items in
    let mid = c.loop-at.boxes.items in
    let less = c.loop-at-test.true in (
      kept.0,
      omega (arith, less),
      all-trans old mid c.look_at_site.new.boxes.items kept.2 c.look_at_site.ensures.still,
      brought-more old mid kept.2 c.requires c.loop-at.at (subst (λ n. c.loop-at.at < n) kept.0 less) kept.3
          (record { own = c.look_at_site.ensures.own; on = c.look_at_site.ensures.on; back = c.look_at_site.ensures.back }),
    )

pub returns-clause-still : goal.returns-clause-still
returns-clause-still g c = c.loop-at.invariant.2

pub returns-clause-brought : goal.returns-clause-brought
returns-clause-brought g c =
    let kept = c.loop-at.invariant in
    let few = kept.1 in
    let done = c.loop-at-test.false in
    let all : c.loop-at.at ≡ c.len-count.result = omega (arith, few, done) in
    subst (λ n. AreBroughtTo n c.args.boxes.now.items) (all ∙ kept.0) kept.3
