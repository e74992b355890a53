use Rattle.std.proofs.Common.{◌+◌, sym, subst, arith}
use Rattle.pv_crew.specs.Dealing.{AreEmpty}
use Rattle.pv_crew.proofs.DealingLemmas.{empty-first, empty-more}
use Rattle.pv_crew.proofs.dealing.empty_rounds.Goals as goal

pub loop-worker-init : goal.loop-worker-init
loop-worker-init g c = (omega arith, empty-first c.args.sites c.new-rounds.result.items c.new-rounds.ensures.items)

pub loop-worker-preserved : goal.loop-worker-preserved
loop-worker-preserved g c =
    let kept = c.loop-worker.invariant in
    let at = c.loop-worker.worker in
    let round = c.empty_round-round in (
      let less = c.loop-worker-test.true in omega arith,
      subst (λ l. AreEmpty c.args.sites (at + 1) l) (sym c.in_ok-push.ensures.items)
          (empty-more c.args.sites at c.loop-worker.rounds.items round.result kept.1 round.ensures.from round.ensures.seats),
    )

pub returns : goal.returns
returns g c =
    let kept = c.loop-worker.invariant in
    let few = kept.0 in
    let done = c.loop-worker-test.false in
    subst (λ n. AreEmpty c.args.sites n c.loop-worker.rounds.items) (omega arith) kept.1
