-- The example computes.
use Rattle.std.proofs.Common.{refl}
use Rattle.pv_base.specs.Canonical.{canonical_cases}
use Rattle.pv_law_compaction.proofs.examples.it_is_worked_out.Goals as goal
use Rattle.pv_protocol.specs.Shown.{shown_within}

pub returns : goal.returns
unfolding canonical_cases shown_within
returns c = refl
