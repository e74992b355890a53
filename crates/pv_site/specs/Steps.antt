-- What a step of a site does, by its answer.
use Rattle.std.specs.Prelude.{◌≡◌, ℕ, List, Option, Some, None, Result, Ok, Err, ⊤}
use Rattle.pv_format.specs.Record.{Record}
use Rattle.pv_disk_model.specs.Log.{Keeps, StaysUp}
use Rattle.pv_disk_model.specs.LogModel.{LogModel}
use Rattle.pv_protocol.specs.State as model
use Rattle.pv_protocol.specs.State.{Running, Input}
use Rattle.pv_protocol.specs.Step.{step_on, records_after}
use Rattle.pv_site.specs.OnLog.{HoldsRecords, Logs, Fails}
use Rattle.pv_site.specs.SiteState.{SiteState, here_with}
use Rattle.pv_site.specs.Answer.{IsAnswer}
use Rattle.pv_site.specs.Calls.{MayReserve}
use Rattle.pv_site.specs.declared.error.StepError.{StepError}
use Rattle.pv_site.specs.declared.error.StepError.TheVariants.{Fault, Down, NoMemory}
use Rattle.pv_site.specs.declared.input.Step.{Step}

module _ {W : Type 0} (M : LogModel W) where
  -- The log holds the records of the site, unless the site is down.
  abbrev pub HoldsWhatRuns : W → ℕ → List Record → Option Running → Type 0
  HoldsWhatRuns log surplus records None = ⊤
  HoldsWhatRuns log surplus records (Some running) = HoldsRecords M log surplus records

  -- The site's log is as the site left it.
  pub record IsReady (site : SiteState W) : Type 0 where
    pub intact : M.is_intact site.log
    pub limit : M.limit site.log ≡ site.catalog.journal
    pub holds : HoldsWhatRuns site.log site.surplus site.records site.running

  -- The site has made this step.
  pub record HasMade (old new : SiteState W) (answer : Step) (step : model.Step) : Type 0 where
    pub answered : IsAnswer answer step
    pub site : new ≡ record old { records = records_after old.records step; running = Some step.running; log = new.log }
    pub log : Logs M old.log new.log step.appended

  -- The site was to append a record, and is down: the record is in its log, or it isn't.
  pub record Breaks (old new : SiteState W) (step : model.Step) : Type 0 where
    pub site : new ≡ record old { running = None; log = new.log }
    pub log : Fails M old.log new.log step

  -- The site is as it was.
  pub record Stays (old new : SiteState W) : Type 0 where
    pub site : new ≡ record old { log = new.log }
    pub up : StaysUp M old.log new.log
    pub log : Keeps M old.log new.log
    pub calls : MayReserve M old.log new.log

  -- A step of a site that has this in memory, by its answer.
  abbrev pub StepsFrom : SiteState W → SiteState W → Running → Input → Result Step StepError → Type 0
  StepsFrom old new running input (Ok answer) = HasMade old new answer (step_on (here_with old running) input)
  StepsFrom old new running input (Err Fault) = Breaks old new (step_on (here_with old running) input)
  StepsFrom old new running input (Err Down) = ⊥
  StepsFrom old new running input (Err NoMemory) = Stays old new

  -- A step of a site, by its answer. One that is down refuses each input and stays as it is.
  abbrev pub Steps : SiteState W → SiteState W → Option Running → Input → Result Step StepError → Type 0
  Steps old new None input result = (result ≡ Err Down) × (new ≡ old)
  Steps old new (Some running) input result = StepsFrom old new running input result
