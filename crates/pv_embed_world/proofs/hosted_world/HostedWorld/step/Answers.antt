-- What a step makes of the world and of what is kept, for each history of it, and what it leaves.
use Rattle.std.proofs.Common.{◌≡◌, Option, Ok, Err, Some, None, IfSome, ap, sym, subst}
use Rattle.pv_script.specs.ScheduleView.{event_of}
use Rattle.pv_world.specs.declared.world.World.{World}
use Rattle.pv_embed_world.specs.World.{Hosted, HasRun, Leaves, Steps}
use Rattle.pv_embed_world.specs.WorldView.{hosted_of, IsOver}
use Rattle.pv_embed_world.proofs.StepLemmas.{ended, ended-leaves, leaves-up, refused, refused-leaves, stepped}
use Rattle.pv_embed_world.proofs.hosted_world.HostedWorld.step.Goals as goal

pub returns-in-Err : goal.returns-in-Err
returns-in-Err c =
    let inside = c.self.inside in
    let line = c.args.line.now in
    let fault = c.in-Err.fault in
    let new : Hosted = record (hosted_of inside) { world = Some c.in-Some.world } in
    let why = c.in-Err.ensures.read in
    let same : new ≡ hosted_of inside = ap (λ (o : Option World). record (hosted_of inside) { world = o }) (sym c.in-Some.is) in (
      subst (λ (old : Hosted). Leaves {X = Unit {0}} old new line old.world (Err fault)) c.self.view_is
          (leaves-up (hosted_of inside) line c.in-Some.world c.in-Some.is new (Err fault) (refused-leaves (hosted_of inside) line c.in-Some.world c.in-Some.is new fault why same)),
      λ events taken has.
          (subst (λ (old : Hosted). HasRun old events taken → Steps old new events taken line {X = Unit {0}} old.world (Err fault)) c.self.view_is
          (λ has. refused (hosted_of inside) events taken line c.in-Some.world c.in-Some.is new fault why same)) has,
    )

pub returns-in-Ok-advance : goal.returns-in-Ok-advance
returns-in-Ok-advance c =
    let inside = c.self.inside in
    let line = c.args.line.now in
    let event = event_of c.in-Ok.event in
    let new : Hosted = record (hosted_of inside) { world = Some c.advance.new.world; kept = c.advance.new.kept } in
    let over = subst (λ (o : Option World). IfSome o (IsOver inside)) c.in-Some.is c.self.invariant.world in
    let says = c.in-Ok.ensures.read.0 in (
      subst (λ (old : Hosted). Leaves {X = Unit {0}} old new line old.world (Ok tt)) c.self.view_is
          (leaves-up (hosted_of inside) line c.in-Some.world c.in-Some.is {X = Unit {0}} new (Ok tt) tt),
      λ events taken has.
          (subst (λ (old : Hosted). HasRun old events taken → Steps old new events taken line {X = Unit {0}} old.world (Ok tt)) c.self.view_is
          (λ has.
          stepped (hosted_of inside) events taken line c.in-Some.world c.in-Some.is over.catalog over.limit has event says c.advance.new.world c.advance.new.kept
          c.in-Ok-advance.ensures)) has,
    )

pub returns : goal.returns
returns c =
    let inside = c.self.inside in
    let line = c.args.line.now in
    let event = event_of c.in-Ok.event in
    let fault = c.in-Err-advance.fault in
    let new : Hosted = record (hosted_of inside) { world = None; kept = c.advance.new.kept } in
    let over = subst (λ (o : Option World). IfSome o (IsOver inside)) c.in-Some.is c.self.invariant.world in
    let says = c.in-Ok.ensures.read.0 in (
      subst (λ (old : Hosted). Leaves {X = Unit {0}} old new line old.world (Err fault)) c.self.view_is
          (leaves-up (hosted_of inside) line c.in-Some.world c.in-Some.is new (Err fault)
          (ended-leaves (hosted_of inside) line c.in-Some.world c.in-Some.is c.advance.new.world c.advance.new.kept event over.stands.0 fault
          (c.in-Err-advance.ensures over.stands.0 over.stands.1))),
      λ events taken has.
          (subst (λ (old : Hosted). HasRun old events taken → Steps old new events taken line {X = Unit {0}} old.world (Err fault)) c.self.view_is
          (λ has.
          ended (hosted_of inside) events taken line c.in-Some.world c.in-Some.is over.catalog over.limit has event says c.advance.new.world c.advance.new.kept fault
          c.in-Err-advance.ensures)) has,
    )
