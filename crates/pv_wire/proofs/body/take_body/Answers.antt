-- Each kind has what it has, or nothing.
use Rattle.std.proofs.Common.{◌≡◌, arith}
use Rattle.std.proofs.lemmas.Bool.Decides.{nat_tests}
use Rattle.pv_wire.proofs.BodyLemmas.{ask_passes, yes_passes}
use Rattle.pv_wire.proofs.body.take_body.Goals as goal

pub returns-then-kind-eq5-clause-passes : goal.returns-then-kind-eq5-clause-passes
returns-then-kind-eq5-clause-passes c = yes_passes c.args.kind c.args.txn c.args.take.now c.if-kind-eq5.true

pub returns-clause-passes : goal.returns-clause-passes
returns-clause-passes c =
    let eight : c.args.kind ≡ 8 = grind (arith, nat_tests) in
    ask_passes c.args.kind c.args.txn c.args.take.now eight
