use Rattle.pv_script.specs.ScheduleView.{event_of}
use Rattle.pv_world.proofs.HappenLemmas.{steps-failed, steps-made}
use Rattle.pv_world.proofs.world.World.step.Goals as goal

pub returns : goal.returns
returns c is stands =
    steps-made c.args.self.now c.happen.new.self c.new-lines.result.items c.happen.new.lines (event_of c.args.event.now) is c.in_ok-happen.field-0 c.new-lines.ensures.items
    (c.in_ok-happen.ensures is stands)

pub returns-in_err-happen : goal.returns-in_err-happen
returns-in_err-happen c is stands =
    let error = c.in_err-happen.field-0.0 in
    steps-failed (Unit {0}) c.args.self.now c.happen.new.self c.new-lines.result.items c.happen.new.lines.items (event_of c.args.event.now) is c.from_residual.result error
    c.from_residual.ensures.1 (c.in_err-happen.ensures is stands)
