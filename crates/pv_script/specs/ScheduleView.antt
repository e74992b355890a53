-- What is read, as the plain data of the definitions.
use Rattle.std.specs.Prelude.{map}
use Rattle.pv_base.specs.Catalog.{Declared}
use Rattle.pv_model.specs.Check.{IsPlan}
use Rattle.pv_model.specs.Events as model
use Rattle.pv_script.specs.declared.schedule.Event.{Event}
use Rattle.pv_script.specs.declared.schedule.Event.TheVariants.{Submit, Deliver, Pump, Lose, Drop, Tick, Stop, Start, Arm, Mend, Checkpoint, Sent, Report, Total}
use Rattle.pv_script.specs.declared.schedule.Schedule.{Schedule}

abbrev pub event_of : Event → model.Event
event_of (Submit site query text program plan) = model.submit site.0 query text.items program
event_of (Deliver n) = model.deliver n
event_of (Pump most) = model.pump most
event_of (Lose n) = model.lose n
event_of (Drop site) = model.drop site.0
event_of (Tick site) = model.tick site.0
event_of (Stop site) = model.stop site.0
event_of (Start site) = model.start site.0
event_of (Arm site k mode stop) = model.arm site.0 k mode stop
event_of (Mend site) = model.mend site.0
event_of (Checkpoint site) = model.checkpoint site.0
event_of Sent = model.sent
event_of Report = model.report
event_of Total = model.total

abbrev pub schedule_of : Schedule → model.Schedule
schedule_of schedule = record { catalog = schedule.catalog; events = map event_of schedule.events.items }

-- A request has the plan of its program over the catalog.
abbrev pub HasPlan : Declared → Event → Type 0
HasPlan catalog (Submit site query text program plan) = IsPlan program catalog.items plan.parts.items
HasPlan catalog _ = Unit {0}
