-- What comes of giving a site something to do.
use Rattle.std.proofs.Common.{◌≡◌, ℕ, ◌<◌, Bool, Option, Some, None, List, [], ◌∷◌, length, refl, sym, ap, subst, ◌∙◌}
use Rattle.std.specs.Prelude.{All, Result}
use Rattle.std.proofs.lemmas.List.{get_or-set_same}
use Rattle.pv_base.specs.Catalog.{Declared}
use Rattle.pv_protocol.specs.Arms.{Reached, waits, fires, reached, calls_of, attempted, broken_line}
use Rattle.pv_protocol.specs.Attempt.{Attempt, Begun, attempts, given, opened}
use Rattle.pv_protocol.specs.Lines as protocol
use Rattle.pv_protocol.specs.Step.{site_step}
use Rattle.pv_protocol.specs.State as state
use Rattle.pv_protocol.specs.State.{Input, Running}
use Rattle.pv_protocol.specs.World as model
use Rattle.pv_protocol.specs.World.{no_site, site_at, with_site}
use Rattle.pv_protocol.specs.WorldStep.{ended}
use Rattle.pv_script.specs.declared.line.Line.{Line}
use Rattle.pv_site.specs.Answer.{IsAnswer}
use Rattle.pv_site.specs.Inputs.{IsSpelledFrom}
use Rattle.pv_site.specs.SiteState.{setup_of}
use Rattle.pv_site.specs.declared.input.Step.{Step}
use Rattle.pv_world.specs.Cells.{HasStepped, IsBroken, IsDone, broken_site, site_after, site_after_input, site_after_start, start_attempt, step_attempt}
use Rattle.pv_world.specs.Steps.{Becomes, Comes}
use Rattle.pv_world.specs.declared.cell.Cell.{Cell}
use Rattle.pv_world.specs.declared.cell.Stepped.TheVariants.{Down, Made, Broke}
use Rattle.pv_world.specs.declared.error.WorldError.{WorldError}
use Rattle.pv_world.specs.declared.world.World.{World}

-- What an event comes to, once its lines and its world are known.
pub comes-by : {X : Type 0} (old new : World) (before after : List Line) (begun : Begun) (lines : List protocol.Line) (is : model.World) (result : Result X WorldError)
    → ended begun ≡ (lines, is) → Becomes old new before after is lines result → Comes old new before after begun result
comes-by old new before after begun lines is result ends becomes =
    subst (λ (end : List protocol.Line × model.World). Becomes old new before after end.1 end.0 result) (sym ends) becomes

-- A site that is down takes nothing.
pub record StaysDown (old new : Cell) (running : Option Running) : Type 0 where
  pub down : running ≡ None
  pub same : new ≡ old

pub stays-down : (catalog : Declared) (n : ℕ) (old new : Cell) (site : state.Site) (running : Option Running) (input : Input)
    → HasStepped catalog n old new site running input Down → StaysDown old new running
stays-down catalog n old new site None input stepped = record { down = refl; same = stepped.1 }
stays-down catalog n old new site (Some running) input stepped = absurd stepped

-- A site that is up makes the step.
pub record MakesStep (catalog : Declared) (n : ℕ) (new : Cell) (site : state.Site) (memory : Option Running) (input : Input) (answer : Step) : Type 0 where
  pub running : Running
  pub up : memory ≡ Some running
  pub answered : IsAnswer answer (site_step (setup_of catalog) n site.records running input)
  pub spelled : All (IsSpelledFrom n) answer.sends.items
  pub done : IsDone catalog n new site (step_attempt catalog n site running input)

pub makes-step : (catalog : Declared) (n : ℕ) (old new : Cell) (site : state.Site) (memory : Option Running) (input : Input) (answer : Step)
    → HasStepped catalog n old new site memory input (Made answer) → MakesStep catalog n new site memory input answer
makes-step catalog n old new site None input answer stepped = absurd (let wrong : ⊥ = let down = stepped.0 in cc in wrong)
makes-step catalog n old new site (Some running) input answer stepped =
    record { running = running; up = refl; answered = stepped.0; spelled = stepped.1; done = stepped.2 }

-- A site that is up is broken off in its step.
pub record BreaksOff (catalog : Declared) (n : ℕ) (new : Cell) (site : state.Site) (memory : Option Running) (input : Input) (stops : Bool) : Type 0 where
  pub running : Running
  pub up : memory ≡ Some running
  pub broken : IsBroken catalog n new site (step_attempt catalog n site running input) stops

pub breaks-off : (catalog : Declared) (n : ℕ) (old new : Cell) (site : state.Site) (memory : Option Running) (input : Input) (stops : Bool)
    → HasStepped catalog n old new site memory input (Broke stops) → BreaksOff catalog n new site memory input stops
breaks-off catalog n old new site None input stops stepped = absurd (let wrong : ⊥ = let down = stepped.0 in cc in wrong)
breaks-off catalog n old new site (Some running) input stops stepped = record { running = running; up = refl; broken = stepped }

-- What an attempt comes to where one of its writes and syncs fires.
pub broken-off : (is : model.World) (n : ℕ) (attempt : Attempt) (arm : state.Arm) (stops : Bool) → reached (calls_of attempt) (site_at is n).arm ≡ fires arm
    → arm.stops ≡ stops → ended (attempts is n attempt) ≡ (broken_line n stops ∷ [], with_site is n (broken_site (site_at is n) attempt arm))
broken-off is n attempt arm stops fired kind =
    ap (attempted is n attempt) fired ∙ ap (λ (s : Bool). (broken_line n s ∷ [], with_site is n (broken_site (site_at is n) attempt arm))) kind

-- The site after an attempt.
attempted-site : (is : model.World) (n : ℕ) → n < length is.sites → (attempt : Attempt) (end : Reached)
    → site_at (attempted is n attempt end).1 n ≡ site_after (site_at is n) attempt end
attempted-site is n within attempt (waits arm) = get_or-set_same is.sites n (site_after (site_at is n) attempt (waits arm)) no_site within
attempted-site is n within attempt (fires arm) = get_or-set_same is.sites n (site_after (site_at is n) attempt (fires arm)) no_site within

module _ (catalog : Declared) (is : model.World) (n : ℕ) where
  -- The site after an input, and after a start.
  pub site-given : n < length is.sites → (running : Option Running) (input : Input)
      → site_at (ended (given (setup_of catalog) is n input running)).1 n ≡ site_after_input catalog n (site_at is n) running input
  site-given within None input = refl
  site-given within (Some running) input =
      let attempt = step_attempt catalog n (site_at is n) running input in
      attempted-site is n within attempt (reached (calls_of attempt) (site_at is n).arm)

  pub site-opened : n < length is.sites → (running : Option Running)
      → site_at (ended (opened (setup_of catalog) is n running)).1 n ≡ site_after_start catalog n (site_at is n) running
  site-opened within None =
      let attempt = start_attempt catalog n (site_at is n) in
      attempted-site is n within attempt (reached (calls_of attempt) (site_at is n).arm)
  site-opened within (Some running) = refl

  module _ (input : Input) where
    pub given-down : (site_at is n).running ≡ None → ended (given (setup_of catalog) is n input (site_at is n).running) ≡ (protocol.Line.down n ∷ [], is)
    given-down down = ap (λ (running : Option Running). ended (given (setup_of catalog) is n input running)) down

    pub given-up : (running : Running) → (site_at is n).running ≡ Some running
        → ended (given (setup_of catalog) is n input (site_at is n).running) ≡ ended (attempts is n (step_attempt catalog n (site_at is n) running input))
    given-up running up = ap (λ (memory : Option Running). ended (given (setup_of catalog) is n input memory)) up
