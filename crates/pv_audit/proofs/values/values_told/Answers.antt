-- One transaction of the order after another, up to the last.
use Rattle.std.proofs.Common.{refl}
use Rattle.std.proofs.lemmas.Result.{err_from_is_err_and}
use Rattle.pv_audit.specs.RunView.{limit_of}
use Rattle.pv_audit.proofs.SoFarLemmas.{so-far-start, so-far-more, so-far-limit, so-far-after, so-far-within}
use Rattle.pv_audit.proofs.values.values_told.Goals as goal

pub loop-txn-init : goal.loop-txn-init
loop-txn-init c = so-far-start c.args.catalog.now c.args.begun.now c.args.outcomes.now c.args.txns.now c.in_ok-values.values.items c.in_ok-values.ensures

pub loop-txn-preserved : goal.loop-txn-preserved
loop-txn-preserved c =
    so-far-more c.args.catalog.now c.args.begun.now c.args.outcomes.now c.args.txns.now c.loop-txn.txn-index _ _ c.loop-txn.values.items c.run_one.new.values.items
    c.loop-txn-test.true refl c.loop-txn.invariant c.in_ok-run_one.ensures.count c.in_ok-run_one.ensures.run

pub returns-in_err-run_one-clause-limit : goal.returns-in_err-run_one-clause-limit
returns-in_err-run_one-clause-limit c = λ told can is.
    let p = err_from_is_err_and c.from_residual-in_err-run_one.result c.from_residual-in_err-run_one.ensures.1 in
    rw (p.1, p.2)
    (so-far-limit c.args.catalog.now c.args.begun.now c.args.outcomes.now c.args.txns.now c.loop-txn.txn-index _ _ c.loop-txn.values.items (limit_of c.in_err-run_one.field-0.0)
    c.loop-txn-test.true refl c.loop-txn.invariant c.in_err-run_one.ensures.limit told can is)

pub returns-clause-values : goal.returns-clause-values
returns-clause-values c = λ told can is.
    so-far-after c.args.catalog.now c.args.begun.now c.args.outcomes.now c.args.txns.now c.loop-txn.txn-index c.loop-txn.values.items c.loop-txn-test.false c.loop-txn.invariant
    told can is

pub returns-clause-within : goal.returns-clause-within
returns-clause-within c = λ told can is.
    so-far-within c.args.catalog.now c.args.begun.now c.args.outcomes.now c.args.txns.now c.loop-txn.txn-index c.loop-txn.values.items c.loop-txn-test.false c.loop-txn.invariant
    told can is
