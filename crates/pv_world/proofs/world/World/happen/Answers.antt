use Rattle.std.proofs.Common.{sym, subst}
use Rattle.pv_protocol.specs.Run.{transitions_of}
use Rattle.pv_script.specs.ScheduleView.{event_of}
use Rattle.pv_site.specs.SiteState.{setup_of}
use Rattle.pv_world.proofs.EventLemmas.{made-event}
use Rattle.pv_world.proofs.HappenLemmas.{no-pump}
use Rattle.pv_world.specs.Steps.{MakesTransitions}
use Rattle.pv_world.proofs.world.World.happen.Goals as goal

pub returns-in-Pump : goal.returns-in-Pump
returns-in-Pump c is stands =
    let world = c.args.self.now in
    subst (λ event. MakesTransitions world c.pump.new.self c.args.lines.now.items c.pump.new.lines.items is (transitions_of (setup_of world.catalog) is (event_of event)) c.pump.result)
    (sym c.in-Pump.is) (c.pump.ensures is stands)

pub returns-in_default : goal.returns-in_default
returns-in_default c is stands =
    made-event c.args.self.now c.happen_once.new.self c.args.lines.now.items c.happen_once.new.lines.items is stands (event_of c.args.event.now) c.happen_once.result
    c.requires.event (no-pump c.args.event.now c.in_default.not-Pump) (c.happen_once.ensures is stands)
