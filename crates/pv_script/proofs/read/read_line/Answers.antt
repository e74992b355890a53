-- An event is the last of the events.
use Rattle.pv_script.specs.TakesLine.{happened}
use Rattle.pv_script.proofs.read.read_line.Goals as goal

pub returns-in_ok-push-in-Ok-Some-clause-takes : goal.returns-in_ok-push-in-Ok-Some-clause-takes
returns-in_ok-push-in-Ok-Some-clause-takes c =
    let declares = rw c.in-Ok-Some.field-0-is at c.in-Ok-Some.ensures.declares in
    let plan = rw c.in-Ok-Some.field-0-is at c.in-Ok-Some.ensures.plan in
    happened c.in-Ok-Some.event declares.0 declares.1 plan c.in_ok-push-in-Ok-Some.ensures.items
