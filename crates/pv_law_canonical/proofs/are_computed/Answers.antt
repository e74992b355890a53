-- The example computes.
use Rattle.std.proofs.Common.{refl}
use Rattle.pv_base.specs.Canonical.{canonical_cases}
use Rattle.pv_law_canonical.proofs.are_computed.Goals as goal

pub returns : goal.returns
unfolding canonical_cases
returns c = refl
