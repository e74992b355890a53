use Rattle.std.proofs.Common.{subst}
use Rattle.pv_base.specs.Polyvalue.{IsCanonical}
use Rattle.pv_cases.proofs.PolyvalueFacts.{some-met}
use Rattle.pv_poly.proofs.poly.Poly.at.Goals as goal

pub unreachable-requires : goal.unreachable-requires
unreachable-requires g c =
    some-met c.args.self.now c.as_slice-case-items.result.now c.args.yes.now c.loop-case.case-index
    (subst IsCanonical c.self.view_is c.self.invariant.canonical) c.loop-case.invariant c.loop-case-test.false
