use Rattle.std.proofs.Common.{ℕ, Err, sym, subst}
use Rattle.pv_base.specs.Catalog.{Declared}
use Rattle.pv_disk.specs.MemLaws.{mem_model}
use Rattle.pv_ckpt.specs.CkptModel.{ckpt_model}
use Rattle.pv_site.specs.Given.{IsGivenFor, input_in}
use Rattle.pv_site.specs.Steps.{Steps}
use Rattle.pv_site.specs.declared.error.StepError.{StepError}
use Rattle.pv_world.proofs.CellLemmas.{can-fall, has-broken, has-stepped, is-up, not-down-now}
use Rattle.pv_world.proofs.cell.Cell.step.Goals as goal
use Rattle.pv_world.specs.Cells.{HasStepped}
use Rattle.pv_world.specs.Stands.{StandsForSite}
use Rattle.pv_world.specs.declared.cell.Cell.{Cell}
use Rattle.pv_world.specs.declared.cell.Cell.TheVariants.{Up}
use Rattle.pv_world.specs.declared.cell.Stepped.TheVariants.{Broke, Made}

pub returns-in-Ok : goal.returns-in-Ok
returns-in-Ok c = λ is stands.
    subst (λ (cell : Cell). StandsForSite c.args.catalog.now c.args.site.0 cell is
    → HasStepped c.args.catalog.now c.args.site.0 cell (Up c.take.new.self) is is.running (input_in c.args.input) (Made c.in-Ok.step))
    (sym c.in-Up.is)
    (λ up. has-stepped c.args.catalog.now c.args.site.0 c.in-Up.up is up c.armed_logs.ensures.intact c.armed_logs.ensures.appends c.take.new.self
    (input_in c.args.input) c.in-Ok.step c.in-Ok.ensures.step c.in-Ok.ensures.ready c.in-Ok.ensures.spelled)
    stands

pub take-requires-clause-ready : goal.take-requires-clause-ready
take-requires-clause-ready c =
    let up = is-up c.args.catalog.now c.args.site.0 c.args.self.now c.in-Up.up c.requires.is c.in-Up.is c.requires.stands in
    up.ready

pub take-requires-clause-input : goal.take-requires-clause-input
take-requires-clause-input c =
    let up = is-up c.args.catalog.now c.args.site.0 c.args.self.now c.in-Up.up c.requires.is c.in-Up.is c.requires.stands in
    subst (λ (me : ℕ). IsGivenFor me c.in-Up.up.catalog c.args.input) (sym up.me)
    (subst (λ (declared : Declared). IsGivenFor c.args.site.0 declared c.args.input) (sym up.catalog) c.requires.fits)

pub fall-requires : goal.fall-requires
fall-requires c =
    let up = is-up c.args.catalog.now c.args.site.0 c.args.self.now c.in-Up.up c.requires.is c.in-Up.is c.requires.stands in
    can-fall c.args.catalog.now c.args.site.0 c.in-Up.up c.requires.is up c.armed_logs.ensures.intact c.armed_logs.ensures.appends c.take.new.self
    (input_in c.args.input) c.length-length.result c.length-length.ensures
    (subst (λ (e : StepError). Steps (ckpt_model mem_model) c.in-Up.up c.take.new.self c.in-Up.up.running (input_in c.args.input) (Err e))
    c.in-Err-Fault.field-0-is c.in-Err-Fault.ensures.step)
    c.requires.replayable c.requires.after

pub returns-in_ok-fall-in-Err-Fault : goal.returns-in_ok-fall-in-Err-Fault
returns-in_ok-fall-in-Err-Fault c = λ is stands.
    subst (λ (cell : Cell). StandsForSite c.args.catalog.now c.args.site.0 cell is
    → HasStepped c.args.catalog.now c.args.site.0 cell c.fall.new.self is is.running (input_in c.args.input) (Broke c.in_ok-fall-in-Err-Fault.field-0))
    (sym c.in-Up.is)
    (λ up. has-broken c.args.catalog.now c.args.site.0 c.in-Up.up is up c.armed_logs.ensures.intact c.armed_logs.ensures.appends c.take.new.self
    (input_in c.args.input) c.fall.new.self c.in_ok-fall-in-Err-Fault.field-0
    (subst (λ (e : StepError). Steps (ckpt_model mem_model) c.in-Up.up c.take.new.self c.in-Up.up.running (input_in c.args.input) (Err e))
    c.in-Err-Fault.field-0-is c.in-Err-Fault.ensures.step)
    c.in_ok-fall-in-Err-Fault.ensures)
    stands

pub unreachable-requires : goal.unreachable-requires
unreachable-requires c =
    let up = is-up c.args.catalog.now c.args.site.0 c.args.self.now c.in-Up.up c.requires.is c.in-Up.is c.requires.stands in
    not-down-now c.args.catalog.now c.args.site.0 c.in-Up.up c.requires.is up c.take.new.self (input_in c.args.input)
    (subst (λ (e : StepError). Steps (ckpt_model mem_model) c.in-Up.up c.take.new.self c.in-Up.up.running (input_in c.args.input) (Err e))
    c.in-Err-Down.field-0-is c.in-Err-Down.ensures.step)
