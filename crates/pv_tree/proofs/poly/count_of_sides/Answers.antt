-- Both nodes together name at most twice what each of them may.
use Rattle.std.proofs.Common.{arith}
use Rattle.pv_base.specs.declared.limits.TheConstants.{HELD_NAMES}
use Rattle.pv_cases.proofs.CountLemmas.{both-few, same-count}
use Rattle.pv_tree.proofs.poly.count_of_sides.Goals as goal

pub overflow_cast-result : goal.overflow_cast-result
overflow_cast-result g c =
    let few = both-few HELD_NAMES c.requires.few_aborted c.requires.few_committed c.in_ok-txns.txns.items c.in_ok-txns.ensures in
    omega (arith, few, c.len.ensures, c.in_ok-txns.txns.ok.0)

pub returns-clause-count : goal.returns-clause-count
returns-clause-count g c txns are =
    omega (arith, same-count txns c.in_ok-txns.txns.items are c.in_ok-txns.ensures, c.len.ensures, c.in_ok-txns.txns.ok.0)

pub returns-clause-few : goal.returns-clause-few
returns-clause-few g c =
    let few = both-few HELD_NAMES c.requires.few_aborted c.requires.few_committed c.in_ok-txns.txns.items c.in_ok-txns.ensures in
    omega (arith, few, c.len.ensures, c.in_ok-txns.txns.ok.0)
