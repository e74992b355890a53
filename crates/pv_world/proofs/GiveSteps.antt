-- What comes of a step of a site that is given something to do.
use Rattle.std.proofs.Common.{◌≡◌, ℕ, ◌<◌, Bool, List, refl, sym, ap, subst, ◌∙◌}
use Rattle.std.specs.Prelude.{All, get_or, Result}
use Rattle.std.proofs.lemmas.List.{get_or-set_same}
use Rattle.pv_protocol.specs.Arms.{attempted, broken_line}
use Rattle.pv_protocol.specs.Attempt.{given, of_step}
use Rattle.pv_protocol.specs.Lines as protocol
use Rattle.pv_protocol.specs.State as state
use Rattle.pv_protocol.specs.State.{Input, Running}
use Rattle.pv_protocol.specs.Step.{site_step}
use Rattle.pv_protocol.specs.World as model
use Rattle.pv_protocol.specs.World.{from_site, no_site, site_at, with_sent, with_site}
use Rattle.pv_script.specs.declared.line.Line.{Line}
use Rattle.pv_site.specs.Answer.{IsAnswer}
use Rattle.pv_site.specs.Inputs.{IsSpelledFrom}
use Rattle.pv_site.specs.SiteState.{setup_of}
use Rattle.pv_site.specs.declared.input.Step.{Step}
use Rattle.pv_world.proofs.ChangeLemmas.{Ends, put-stands, with_cell}
use Rattle.pv_world.proofs.DeliverLemmas.{becomes-from}
use Rattle.pv_world.proofs.GiveLemmas.{BreaksOff, MakesStep, breaks-off, broken-off, comes-by, given-up, makes-step}
use Rattle.pv_world.proofs.LockPointLemmas.{placed-right}
use Rattle.pv_world.specs.Cells.{HasStepped, broken_site, completed_site}
use Rattle.pv_world.specs.Places.{IsPlacedRight}
use Rattle.pv_world.specs.Stands.{Stands}
use Rattle.pv_world.specs.Steps.{Becomes, Comes, with_placed}
use Rattle.pv_world.specs.Taken.{IsOrderly}
use Rattle.pv_world.specs.declared.cell.Cell.{Cell}
use Rattle.pv_world.specs.declared.cell.Stepped.{Stepped}
use Rattle.pv_world.specs.declared.cell.Stepped.TheVariants.{Made, Broke}
use Rattle.pv_world.specs.declared.error.WorldError.{WorldError}
use Rattle.pv_world.specs.declared.world.World.{World}

module _ (old : World) (is : model.World) (stands : Stands old is) (n : ℕ) (within : n < old.catalog.sites) (cell : Cell) (at : cell ≡ get_or old.cells.items n cell)
    (new : Cell) (input : Input) (found : Stepped) (has_stepped : HasStepped old.catalog n cell new (site_at is n) (site_at is n).running input found) where
  -- The step is broken off.
  pub broke-ends : (stops : Bool) → found ≡ Broke stops
      → Ends (with_cell old n new) (given (setup_of old.catalog) is n input (site_at is n).running) (broken_line n stops)
  broke-ends stops broke =
      let breaks : BreaksOff old.catalog n new (site_at is n) (site_at is n).running input stops =
      breaks-off old.catalog n cell new (site_at is n) (site_at is n).running input stops
      (subst (HasStepped old.catalog n cell new (site_at is n) (site_at is n).running input) broke has_stepped) in
      let attempt = of_step n (site_step (setup_of old.catalog) n (site_at is n).records breaks.running input) in
      record {
        next = with_site is n (broken_site (site_at is n) attempt breaks.broken.arm);
        ends =
            given-up old.catalog is n input breaks.running breaks.up
            ∙ broken-off is n attempt breaks.broken.arm stops breaks.broken.fires breaks.broken.kind;
        stands = put-stands old is stands n within cell at new (broken_site (site_at is n) attempt breaks.broken.arm) breaks.broken.stands;
      }

  module _ (answer : Step) (made : found ≡ Made answer) where
    abbrev MadeStep : MakesStep old.catalog n new (site_at is n) (site_at is n).running input answer
    MadeStep = makes-step old.catalog n cell new (site_at is n) (site_at is n).running input answer
        (subst (HasStepped old.catalog n cell new (site_at is n) (site_at is n).running input) made has_stepped)

    -- The step that it makes, the site then, and the world after the site's own part of it.
    abbrev pub StepOf : state.Step
    StepOf = site_step (setup_of old.catalog) n (site_at is n).records MadeStep.running input

    abbrev SiteAfter : state.Site
    SiteAfter = completed_site (site_at is n) (of_step n StepOf) MadeStep.done.armed

    abbrev pub AfterSite : model.World
    AfterSite = with_site is n SiteAfter

    pub step-spelled : All (IsSpelledFrom n) answer.sends.items
    step-spelled = MadeStep.spelled

    pub step-answered : IsAnswer answer StepOf
    step-answered = MadeStep.answered

    pub step-stands : Stands (with_cell old n new) AfterSite
    step-stands = put-stands old is stands n within cell at new SiteAfter MadeStep.done.stands

    pub step-placed : IsOrderly (setup_of old.catalog) is → IsPlacedRight old.catalog (site_at AfterSite n).running StepOf.placed
    step-placed orderly =
        subst (λ (site : state.Site). IsPlacedRight old.catalog site.running StepOf.placed)
        (sym (get_or-set_same is.sites n SiteAfter no_site (subst (λ (count : ℕ). n < count) (sym stands.count) within)))
        (placed-right (setup_of old.catalog) is n MadeStep.running orderly MadeStep.up input)

    pub step-comes : {X : Type 0} (after : World) (before later : List Line) (result : Result X WorldError)
        → Becomes (with_cell old n new) after before later (with_sent (with_placed AfterSite StepOf.placed) (from_site n StepOf.sends)) (protocol.lines_of n StepOf.notes) result
        → Comes old after before later (given (setup_of old.catalog) is n input (site_at is n).running) result
    step-comes after before later result becomes =
        comes-by old after before later (given (setup_of old.catalog) is n input (site_at is n).running) (protocol.lines_of n StepOf.notes)
        (with_sent (with_placed AfterSite StepOf.placed) (from_site n StepOf.sends)) result
        (given-up old.catalog is n input MadeStep.running MadeStep.up ∙ ap (attempted is n (of_step n StepOf)) MadeStep.done.waits)
        (becomes-from old (with_cell old n new) after before later _ _ result (record { catalog = refl; limit = refl }) becomes)
