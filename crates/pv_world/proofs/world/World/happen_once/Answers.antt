use Rattle.std.proofs.Common.{arith, refl, ap, subst}
use Rattle.pv_protocol.specs.Attempt.{begun}
use Rattle.pv_protocol.specs.WellFormed.{IsWellFormed}
use Rattle.pv_script.specs.ScheduleView.{event_of}
use Rattle.pv_site.specs.SiteState.{setup_of}
use Rattle.pv_world.proofs.DeliverLemmas.{orderly}
use Rattle.pv_world.proofs.EventLemmas.{reached-ticked}
use Rattle.pv_world.proofs.HappenLemmas.{begun-armed, begun-mended, comes-delivered, comes-dropped, comes-lost, comes-packed, comes-rearmed, comes-reported, comes-sent, comes-started, comes-stopped, comes-submitted, comes-ticked, comes-to-nothing, comes-totalled}
use Rattle.pv_world.proofs.StandLemmas.{cells-count}
use Rattle.pv_world.proofs.world.World.happen_once.Goals as goal

pub returns-in-Submit : goal.returns-in-Submit
returns-in-Submit c is stands =
    comes-submitted c.args.self.now c.submit.new.self c.args.lines.now.items c.submit.new.lines.items is (event_of c.args.event.now) c.submit.result _ _ _ _
    (ap event_of c.in-Submit.is) (c.submit.ensures is stands)

pub returns-in-Deliver : goal.returns-in-Deliver
returns-in-Deliver c is stands =
    comes-delivered c.args.self.now c.deliver.new.self c.args.lines.now.items c.deliver.new.lines.items is (event_of c.args.event.now) c.deliver.result _
    (ap event_of c.in-Deliver.is) (c.deliver.ensures is stands)

pub returns-in-Lose : goal.returns-in-Lose
returns-in-Lose c is stands =
    comes-lost c.args.self.now c.lose.new.self c.args.lines.now.items c.lose.new.lines.items is (event_of c.args.event.now) c.lose.result _
    (ap event_of c.in-Lose.is) (c.lose.ensures is stands.stands)

pub returns-in-Drop : goal.returns-in-Drop
returns-in-Drop c is stands =
    let world = c.args.self.now in
    comes-dropped world c.args.lines.now.items is stands.stands (event_of c.args.event.now) (tt {0}) (record world { mail = c.drop_to.new.self }) c.in-Drop.site.0
    (ap event_of c.in-Drop.is) refl refl refl c.drop_to.ensures

pub give-requires : goal.give-requires
give-requires c =
    let world = c.args.self.now in
    let is = c.requires.stands.0 in
    let stands = c.requires.stands.1 in
    let laws = c.reached_worlds_are_lawful.ensures (setup_of world.catalog) in
    let there = subst (λ event. IsWellFormed world.catalog (event_of event)) c.in-Tick.is c.requires.event in
    record {
      is = is;
      stands = stands.stands;
      site = there;
      fits = tt;
      replayable = (laws is stands.range stands.reached).replayable;
      after = (laws _ stands.range (reached-ticked (setup_of world.catalog) is stands.reached c.in-Tick.site.0 there)).replayable;
    }

pub returns-in-Tick : goal.returns-in-Tick
returns-in-Tick c is stands =
    let world = c.args.self.now in
    let lawful = c.reached_worlds_are_lawful.ensures _ is stands.range stands.reached in
    comes-ticked world c.give.new.self c.args.lines.now.items c.give.new.lines.items is (event_of c.args.event.now) c.give.result _
    (ap event_of c.in-Tick.is) (c.give.ensures is stands.stands (orderly world is stands lawful))

pub returns-in-Stop : goal.returns-in-Stop
returns-in-Stop c is stands =
    comes-stopped c.args.self.now c.stop.new.self c.args.lines.now.items c.stop.new.lines.items is (event_of c.args.event.now) c.stop.result _
    (ap event_of c.in-Stop.is) (c.stop.ensures is stands)

pub returns-in-Start : goal.returns-in-Start
returns-in-Start c is stands =
    comes-started c.args.self.now c.start.new.self c.args.lines.now.items c.start.new.lines.items is (event_of c.args.event.now) c.start.result _
    (ap event_of c.in-Start.is) (c.start.ensures is stands)

pub returns-in-Checkpoint : goal.returns-in-Checkpoint
returns-in-Checkpoint c is stands =
    comes-packed c.args.self.now c.checkpoint.new.self c.args.lines.now.items c.checkpoint.new.lines.items is (event_of c.args.event.now) c.checkpoint.result _
    (ap event_of c.in-Checkpoint.is) (c.checkpoint.ensures is stands)

pub returns-in_ok-push_sent-in-Sent : goal.returns-in_ok-push_sent-in-Sent
returns-in_ok-push_sent-in-Sent c is stands =
    let world = c.args.self.now in
    comes-sent world world c.args.lines.now.items c.push_sent.new.lines.items is (event_of c.args.event.now) (tt {0})
    (ap event_of c.in-Sent.is) stands.stands (record { catalog = refl; limit = refl }) (c.in_ok-push_sent-in-Sent.ensures is stands.stands)

pub returns-in_ok-push_report-in-Report : goal.returns-in_ok-push_report-in-Report
returns-in_ok-push_report-in-Report c is stands =
    let world = c.args.self.now in
    let lawful = c.reached_worlds_are_lawful.ensures _ is stands.range stands.reached in
    comes-reported world world c.args.lines.now.items c.push_report.new.lines.items is (event_of c.args.event.now) (tt {0})
    (ap event_of c.in-Report.is) stands.stands (record { catalog = refl; limit = refl })
    (c.in_ok-push_report-in-Report.ensures is stands.stands lawful.outcomes lawful.memories)

pub returns-in_ok-push_total-in-Total : goal.returns-in_ok-push_total-in-Total
returns-in_ok-push_total-in-Total c is stands =
    let world = c.args.self.now in
    comes-totalled world world c.args.lines.now.items c.push_total.new.lines.items is (event_of c.args.event.now) (tt {0})
    (ap event_of c.in-Total.is) stands.stands (record { catalog = refl; limit = refl }) (c.in_ok-push_total-in-Total.ensures is stands.stands)

pub index_mut-requires : goal.index_mut-requires
index_mut-requires c =
    let world = c.args.self.now in
    let stands = c.requires.stands in
    let well = subst (λ event. IsWellFormed world.catalog (event_of event)) c.in-Arm.is c.requires.event in
    omega (arith, cells-count world stands.0 stands.1.stands, world.cells.ok.0, well.0)

pub arm-requires : goal.arm-requires
arm-requires c = (subst (λ event. IsWellFormed c.args.self.now.catalog (event_of event)) c.in-Arm.is c.requires.event).1

pub returns-in-Arm : goal.returns-in-Arm
returns-in-Arm c is stands =
    let world = c.args.self.now in
    let well = subst (λ event. IsWellFormed world.catalog (event_of event)) c.in-Arm.is c.requires.event in
    comes-rearmed world c.args.lines.now.items is stands.stands (event_of c.args.event.now) (tt {0}) c.in-Arm.site.0 well.0
    c.index_mut.result.now c.index_mut.ensures.value c.arm.new.self _ (λ site own. c.arm.ensures world.catalog c.in-Arm.site.0 site own)
    (begun-armed (setup_of world.catalog) is (event_of c.args.event.now) c.in-Arm.site.0 c.in-Arm.k c.in-Arm.mode c.in-Arm.stop (ap event_of c.in-Arm.is))

pub index_mut-requires-in-Mend : goal.index_mut-requires-in-Mend
index_mut-requires-in-Mend c =
    let world = c.args.self.now in
    let stands = c.requires.stands in
    let well = subst (λ event. IsWellFormed world.catalog (event_of event)) c.in-Mend.is c.requires.event in
    omega (arith, cells-count world stands.0 stands.1.stands, world.cells.ok.0, well)

pub returns-in-Mend : goal.returns-in-Mend
returns-in-Mend c is stands =
    let world = c.args.self.now in
    let well = subst (λ event. IsWellFormed world.catalog (event_of event)) c.in-Mend.is c.requires.event in
    comes-rearmed world c.args.lines.now.items is stands.stands (event_of c.args.event.now) (tt {0}) c.in-Mend.site.0 well
    c.index_mut-in-Mend.result.now c.index_mut-in-Mend.ensures.value c.mend.new.self _ (λ site own. c.mend.ensures world.catalog c.in-Mend.site.0 site own)
    (begun-mended (setup_of world.catalog) is (event_of c.args.event.now) c.in-Mend.site.0 (ap event_of c.in-Mend.is))

pub returns-in-Pump : goal.returns-in-Pump
unfolding begun
returns-in-Pump c is stands =
    let world = c.args.self.now in
    comes-to-nothing world c.args.lines.now.items is stands.stands (event_of c.args.event.now) (tt {0})
    (ap (λ event. begun (setup_of world.catalog) is (event_of event)) c.in-Pump.is)
