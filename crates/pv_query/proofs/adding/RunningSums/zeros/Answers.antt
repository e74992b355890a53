-- As many zeros as there are assignments.
use Rattle.std.proofs.Common.{◌≡◌, ◌≤◌, ◌^◌, ◌%◌, ◌*◌, length, arith, pow_mono}
use Rattle.pv_base.specs.declared.limits.TheConstants.{HELD_NAMES}
use Rattle.pv_query.proofs.SumLemmas.{sums-none}
use Rattle.pv_query.proofs.adding.RunningSums.zeros.Goals as goal

pub returns-clause-zeros : goal.returns-clause-zeros
returns-clause-zeros c =
    let few : 2 ^ length c.args.txns.now ≤ 2 ^ HELD_NAMES = pow_mono (let few : length c.args.txns.now ≤ HELD_NAMES = c.requires.few in few) in
    let whole : (1 * 2 ^ length c.args.txns.now) % 2 ^ 64 ≡ 2 ^ length c.args.txns.now = omega (arith, few) in
    sums-none c.args.txns.now ((1 * 2 ^ length c.args.txns.now) % 2 ^ 64) c.in_ok-vec.field-0.items whole (c.in_ok-vec.ensures.items_if_clones_equal (λ y same. same))
