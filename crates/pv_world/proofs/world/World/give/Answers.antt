use Rattle.std.proofs.Common.{arith, refl, sym, subst}
use Rattle.std.proofs.lemmas.List.{length-set}
use Rattle.pv_protocol.specs.Attempt.{given}
use Rattle.pv_protocol.specs.World.{site_at}
use Rattle.pv_script.specs.declared.line.Line.TheVariants.{Down}
use Rattle.pv_site.specs.Given.{input_in}
use Rattle.pv_site.specs.SiteState.{setup_of}
use Rattle.pv_world.proofs.ChangeLemmas.{Ends, ends-come, kept-stands, own-stands, own-takes, with_cell}
use Rattle.pv_world.proofs.GiveLemmas.{given-down, stays-down}
use Rattle.pv_world.proofs.GiveSteps.{AfterSite, StepOf, broke-ends, step-answered, step-comes, step-placed, step-spelled, step-stands}
use Rattle.pv_world.proofs.StandLemmas.{cells-count}
use Rattle.pv_world.specs.Cells.{HasStepped}
use Rattle.pv_world.proofs.world.World.give.Goals as goal

pub index_mut-requires : goal.index_mut-requires
index_mut-requires c =
    let world = c.args.self.now in
    omega (arith, cells-count world c.requires.is c.requires.stands, world.cells.ok.0, c.requires.site)

pub step-requires : goal.step-requires
step-requires c = own-takes c.args.self.now c.args.site.0 c.args.input c.requires c.index_mut.result.now c.index_mut.ensures.value

pub follow-requires-clause-site : goal.follow-requires-clause-site
follow-requires-clause-site c =
    let world = c.args.self.now in
    omega (arith, cells-count world c.requires.is c.requires.stands, length-set world.cells.items c.args.site.0 c.step.new.self, c.requires.site)

pub follow-requires-clause-spelled : goal.follow-requires-clause-spelled
follow-requires-clause-spelled c =
    let world = c.args.self.now in
    let cell = c.index_mut.result.now in
    let own = own-stands world c.requires.is c.requires.stands c.args.site.0 c.requires.site cell c.index_mut.ensures.value in
    step-spelled world c.requires.is c.requires.stands c.args.site.0 c.requires.site cell c.index_mut.ensures.value c.step.new.self (input_in c.args.input)
    c.in_ok-step.field-0 (c.in_ok-step.ensures (site_at c.requires.is c.args.site.0) own) c.in-Made.step c.in-Made.is

pub returns-in-Made : goal.returns-in-Made
returns-in-Made c is stands orderly =
    let world = c.args.self.now in
    let cell = c.index_mut.result.now in
    let at = c.index_mut.ensures.value in
    let own = own-stands world is stands c.args.site.0 c.requires.site cell at in
    let input = input_in c.args.input in
    let stepped = c.in_ok-step.ensures (site_at is c.args.site.0) own in
    step-comes world is stands c.args.site.0 c.requires.site cell at c.step.new.self input c.in_ok-step.field-0 stepped c.in-Made.step c.in-Made.is
    c.follow.new.self c.args.lines.now.items c.follow.new.lines.items c.follow.result
    (c.follow.ensures
    (AfterSite world is stands c.args.site.0 c.requires.site cell at c.step.new.self input c.in_ok-step.field-0 stepped c.in-Made.step c.in-Made.is)
    (StepOf world is stands c.args.site.0 c.requires.site cell at c.step.new.self input c.in_ok-step.field-0 stepped c.in-Made.step c.in-Made.is)
    (step-stands world is stands c.args.site.0 c.requires.site cell at c.step.new.self input c.in_ok-step.field-0 stepped c.in-Made.step c.in-Made.is)
    (step-answered world is stands c.args.site.0 c.requires.site cell at c.step.new.self input c.in_ok-step.field-0 stepped c.in-Made.step c.in-Made.is)
    (step-placed world is stands c.args.site.0 c.requires.site cell at c.step.new.self input c.in_ok-step.field-0 stepped c.in-Made.step c.in-Made.is orderly))

pub returns-in_ok-push-in-Broke : goal.returns-in_ok-push-in-Broke
returns-in_ok-push-in-Broke c is stands orderly =
    let world = c.args.self.now in
    let cell = c.index_mut.result.now in
    let own = own-stands world is stands c.args.site.0 c.requires.site cell c.index_mut.ensures.value in
    let begun = given (setup_of world.catalog) is c.args.site.0 (input_in c.args.input) (site_at is c.args.site.0).running in
    let end = broke-ends world is stands c.args.site.0 c.requires.site cell c.index_mut.ensures.value c.step.new.self (input_in c.args.input)
    c.in_ok-step.field-0 (c.in_ok-step.ensures (site_at is c.args.site.0) own) c.in-Broke.stops c.in-Broke.is in
    ends-come world _ c.args.lines.now.items c.push.new.self.items begun c.broken_line.result c.in_ok-push-in-Broke.field-0
    (subst (Ends (with_cell world c.args.site.0 c.step.new.self) begun) (sym c.broken_line.ensures) end)
    (record { catalog = refl; limit = refl }) c.in_ok-push-in-Broke.ensures.items

pub returns-in_ok-push-in-Down : goal.returns-in_ok-push-in-Down
returns-in_ok-push-in-Down c is stands orderly =
    let world = c.args.self.now in
    let cell = c.index_mut.result.now in
    let own = own-stands world is stands c.args.site.0 c.requires.site cell c.index_mut.ensures.value in
    let site = site_at is c.args.site.0 in
    let down = stays-down world.catalog c.args.site.0 cell c.step.new.self site site.running (input_in c.args.input)
    (subst (HasStepped world.catalog c.args.site.0 cell c.step.new.self site site.running (input_in c.args.input)) c.in-Down.is
    (c.in_ok-step.ensures site own)) in
    ends-come world _ c.args.lines.now.items c.push-in-Down.new.self.items (given (setup_of world.catalog) is c.args.site.0 (input_in c.args.input) site.running)
    (Down c.args.site) c.in_ok-push-in-Down.field-0
    (record {
      next = is;
      ends = given-down world.catalog is c.args.site.0 (input_in c.args.input) down.down;
      stands = kept-stands world is stands c.args.site.0 c.requires.site cell c.index_mut.ensures.value c.step.new.self down.same;
    })
    (record { catalog = refl; limit = refl }) c.in_ok-push-in-Down.ensures.items
