use Rattle.std.proofs.Common.{rules}
use Rattle.pv_show.proofs.FoundLemmas.{begins-not}
use Rattle.pv_show.proofs.look.begins_in_two_areas.Goals as goal

pub returns-then-branch-lt8-clause-begins : goal.returns-then-branch-lt8-clause-begins
returns-then-branch-lt8-clause-begins g c = λ bytes is. begins-not bytes (search rules)
