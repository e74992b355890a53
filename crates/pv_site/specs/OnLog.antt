-- What a step makes of a site's parts and of its log.
use Rattle.std.specs.Prelude.{◌≡◌, ℕ, true, false, List, Option, Some, None, Result, Ok, Err}
use Rattle.pv_format.specs.Contents.{SpellRecords}
use Rattle.pv_format.specs.Record.{Record}
use Rattle.pv_format.specs.RecordSpelling.{SpellsRecord}
use Rattle.pv_disk_model.specs.Calls.{Makes}
use Rattle.pv_disk_model.specs.Log.{Keeps, Adds, MayAdd, StaysUp, GoesDown}
use Rattle.pv_disk_model.specs.LogModel.{LogModel}
use Rattle.pv_disk_model.specs.Size.{Contents}
use Rattle.pv_protocol.specs.Records.{longer_journal}
use Rattle.pv_protocol.specs.State as model
use Rattle.pv_site.specs.Answer.{IsAnswer}
use Rattle.pv_site.specs.Calls.{append_calls, FailsToAppend, MayReserve}
use Rattle.pv_site.specs.SiteParts.{AreKept, AreSound, HaveStepped}
use Rattle.pv_site.specs.declared.error.StepError.{StepError}
use Rattle.pv_site.specs.declared.error.StepError.TheVariants.{Fault, Down, NoMemory}
use Rattle.pv_site.specs.declared.input.Step.{Step}
use Rattle.pv_site.specs.declared.parts.SiteParts.{SiteParts}

module _ {W : Type 0} (M : LogModel W) where
  -- The log isn't down, is by so many bytes longer than the records make it, and holds them, where it is known what it holds.
  pub record HoldsRecords (log : W) (surplus : ℕ) (records : List Record) : Type 0 where
    pub up : M.is_down log ≡ false
    pub size : M.size log ≡ longer_journal surplus records
    pub held : (contents : Contents) → M.contents log ≡ Some contents → SpellRecords records contents

  -- The log is as the site left it, and the parts are sound: a step can begin.
  pub record AreReady (log : W) (parts : SiteParts) : Type 0 where
    pub intact : M.is_intact log
    pub limit : M.limit log ≡ parts.catalog.journal
    pub holds : HoldsRecords log parts.surplus parts.store.records
    pub sound : AreSound parts

  -- What a step makes of the log: it isn't called, or it was to append the step's record, and holds it.
  abbrev pub Logs : W → W → Option Record → Type 0
  Logs old new None = new ≡ old
  Logs old new (Some appended) = StaysUp M old new × ((content : List ℕ) × SpellsRecord appended content × Adds M old new content × Makes M.goes old (append_calls content) true new)

  -- The step was to append this record, and the log failed: it holds the record, or it doesn't, and it doesn't where room was asked for in vain.
  pub record Fails (old new : W) (step : model.Step) : Type 0 where
    pub appended : Record
    pub content : List ℕ
    pub is : step.appended ≡ Some appended
    pub spelled : SpellsRecord appended content
    pub down : GoesDown M old new
    pub log : MayAdd M old new content
    pub calls : FailsToAppend M old new content

  -- A step that may append, by its answer.
  abbrev pub StepsOnLog : W → W → SiteParts → SiteParts → model.Step → Result Step StepError → Type 0
  StepsOnLog log_old log_new old new step (Ok answer) = HaveStepped old new step × IsAnswer answer step × Logs log_old log_new step.appended
  StepsOnLog log_old log_new old new step (Err Fault) = AreKept old new × Fails log_old log_new step
  StepsOnLog log_old log_new old new step (Err NoMemory) = AreKept old new × StaysUp M log_old log_new × Keeps M log_old log_new × MayReserve M log_old log_new
  StepsOnLog log_old log_new old new step (Err Down) = ⊥
