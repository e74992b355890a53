-- The list has what the reads so far name.
use Rattle.std.proofs.Common.{[], take}
use Rattle.pv_base.specs.Polyvalue.{names}
use Rattle.pv_model.specs.Alternatives.{all_cases}
use Rattle.pv_cases.specs.Names.{Adds}
use Rattle.pv_split.proofs.outcomes.named_in.Given as goal

abbrev pub invariant-loop-read : goal.invariant-loop-read
invariant-loop-read l = Adds (names (all_cases (take l.read-index l.reads))) [] l.txns.items
