use Rattle.pv_post.specs.Ends.{IsPair}
use Rattle.pv_post_tests.proofs.tests.a_ring_has_256_places.Given as goal

abbrev pub invariant-loop-number : goal.invariant-loop-number
invariant-loop-number g l = IsPair l.out l.inlet
