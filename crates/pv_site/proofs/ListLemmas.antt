-- A site over a log in memory: which appends are to fail stays as it was, and where none is, none does.
use Rattle.std.proofs.Common.{◌≡◌, sym, ap, subst, ◌∙◌, ⊎_elim, ℕ, Bool, true, false, List, [], ◌∷◌, length, Option, Some, None, Result, Ok, Err}
use Rattle.std.specs.Prelude.{is_none, MatchBool}
use Rattle.std.proofs.lemmas.Bool.{true≢false}
use Rattle.pv_base.specs.Catalog.{Declared}
use Rattle.pv_disk.specs.ListLaws.{list_model}
use Rattle.pv_disk.specs.ListLog.{AppendsToList, ListGoes, ListState, planned}
use Rattle.pv_disk.specs.declared.list_log.AppendFail.{AppendFail}
use Rattle.pv_format.specs.Record.{Record}
use Rattle.pv_disk_model.specs.Calls.{LogCall, Makes, append, read_all, reserve}
use Rattle.pv_protocol.specs.State as model
use Rattle.pv_protocol.specs.State.{Running}
use Rattle.pv_protocol.specs.Step.{step_on}
use Rattle.pv_site.proofs.LogLemmas.{calls-made}
use Rattle.pv_site.specs.Calls.{AsksFor, FailsToAppend, MayReserve, append_calls}
use Rattle.pv_site.specs.Lists.{HasNoFault, IsReadable, log_after}
use Rattle.pv_site.specs.OnLog.{Logs}
use Rattle.pv_site.specs.Opens.{Opens}
use Rattle.pv_site.specs.SiteState.{SiteState, here_with}
use Rattle.pv_site.specs.Steps.{Steps}
use Rattle.pv_site.specs.declared.error.OpenError.{OpenError}
use Rattle.pv_site.specs.declared.error.OpenError.TheVariants.{BadRecord, EpochsSpent, Failed, Full, NoMemory, NotOurs, TooManyOutcomes}
use Rattle.pv_site.specs.declared.error.StepError.{StepError}
use Rattle.pv_site.specs.declared.error.StepError.TheVariants as error
use Rattle.pv_site.specs.declared.input.Step.{Step}

-- A call leaves the plan of failures.
plan-kept : (old new : ListState) (call : LogCall) (ok : Bool) → ListGoes old call ok new → new.fails ≡ old.fails
plan-kept old new (append content) ok goes = by old.is_down goes where
  by : (down : Bool) → MatchBool down ((ok ≡ false) × (new ≡ old)) (AppendsToList old content ok new) → new.fails ≡ old.fails
  by true stays = ap (λ (log : ListState). log.fails) stays.1
  by false appends = ap (λ (log : ListState). log.fails) appends.becomes
plan-kept old new (reserve content) ok goes = ap (λ (log : ListState). log.fails) goes
plan-kept old new read_all ok goes = ap (λ (log : ListState). log.fails) goes

plans-kept : (old : ListState) (calls : List LogCall) (ok : Bool) (new : ListState) → Makes ListGoes old calls ok new → new.fails ≡ old.fails
plans-kept old [] ok new made = ap (λ (log : ListState). log.fails) made.1
plans-kept old (call ∷ calls) ok new made =
    ⊎_elim (λ failed. plan-kept old new call false failed.1) (λ went. plans-kept went.0 calls ok new went.2 ∙ plan-kept old went.0 call true went.1) made

reserve-kept : (old new : ListState) → MayReserve list_model old new → new.fails ≡ old.fails
reserve-kept old new calls = ⊎_elim (λ same. ap (λ (log : ListState). log.fails) same) (λ asked. plan-kept old new (reserve asked.0) false asked.1) calls

asked-kept : (old new : ListState) → AsksFor list_model old new → new.fails ≡ old.fails
asked-kept old new asked = reserve-kept asked.mid new asked.room ∙ plan-kept old asked.mid read_all asked.ok asked.read

-- Where nothing is planned an append succeeds.
none-planned : (fails : List AppendFail) (number : ℕ) → fails ≡ [] → is_none (planned fails number) ≡ true
none-planned fails number none = ap (λ (all : List AppendFail). is_none (planned all number)) none

append-succeeds : (old new : ListState) (content : List ℕ) → old.fails ≡ [] → old.is_down ≡ false → ListGoes old (append content) false new → ⊥
append-succeeds old new content none up goes =
    let appends : AppendsToList old content false new =
    subst (λ (down : Bool). MatchBool down ((false ≡ false) × (new ≡ old)) (AppendsToList old content false new)) up goes in
    true≢false (sym (none-planned old.fails old.appends none) ∙ sym appends.succeeds)

-- So no log goes down over these calls.
appends-stay-up : (old new : ListState) (content : List ℕ) → old.fails ≡ [] → old.is_down ≡ false → FailsToAppend list_model old new content → new.is_down ≡ true → ⊥
appends-stay-up old new content none up fails down =
    ⊎_elim (λ roomless. true≢false (sym down ∙ (ap (λ (log : ListState). log.is_down) roomless.1 ∙ up)))
    (λ reserved.
    let mid_none : reserved.0.fails ≡ [] = plan-kept old reserved.0 (reserve (length content)) true reserved.2 ∙ none in
    let mid_up : reserved.0.is_down ≡ false = ap (λ (log : ListState). log.is_down) reserved.2 ∙ up in
    append-succeeds reserved.0 new content mid_none mid_up reserved.3)
    fails

fails-kept : (old new : ListState) (content : List ℕ) → FailsToAppend list_model old new content → new.fails ≡ old.fails
fails-kept old new content fails = plans-kept old (append_calls content) false new (calls-made list_model old new content fails)

logs-kept : (old new : ListState) (appended : Option Record) → Logs list_model old new appended → new.fails ≡ old.fails
logs-kept old new None same = ap (λ (log : ListState). log.fails) same
logs-kept old new (Some appended) logged = plans-kept old (append_calls logged.1.0) true new logged.1.3

module _ (old new : SiteState ListState) where
  plan-stepped : (running : Option Running) (input : model.Input) (result : Result Step StepError) → Steps list_model old new running input result
      → new.log.fails ≡ old.log.fails
  plan-stepped None input result stays = ap (λ (site : SiteState ListState). site.log.fails) stays.1
  plan-stepped (Some running) input (Ok answer) made = logs-kept old.log new.log (step_on (here_with old running) input).appended made.log
  plan-stepped (Some running) input (Err error.Fault) broke = fails-kept old.log new.log broke.log.content broke.log.calls
  plan-stepped (Some running) input (Err error.Down) never = absurd never
  plan-stepped (Some running) input (Err error.NoMemory) stays = reserve-kept old.log new.log stays.calls

  steps-unfailing : (running : Option Running) (input : model.Input) (result : Result Step StepError) → Steps list_model old new running input result
      → old.log.fails ≡ [] → HasNoFault result
  steps-unfailing None input result stays none = subst HasNoFault (sym stays.0) tt
  steps-unfailing (Some running) input (Ok answer) made none = tt
  steps-unfailing (Some running) input (Err error.Fault) broke none =
      appends-stay-up old.log new.log broke.log.content none broke.log.down.was_up broke.log.calls broke.log.down.is_down
  steps-unfailing (Some running) input (Err error.Down) never none = tt
  steps-unfailing (Some running) input (Err error.NoMemory) stays none = tt

  -- A step leaves the plan, and where nothing is planned it has no fault.
  pub lists-step : (input : model.Input) (result : Result Step StepError) → Steps list_model old new old.running input result
      → (new.log.fails ≡ old.log.fails) × (old.log.fails ≡ [] → HasNoFault result)
  lists-step input result made = (plan-stepped old.running input result made, steps-unfailing old.running input result made)

module _ (old : ListState) (me : ℕ) (catalog : Declared) where
  plan-opened : (result : Result (SiteState ListState) (OpenError ListState)) → Opens list_model old me catalog result → (log_after result).fails ≡ old.fails
  plan-opened (Ok site) opened = plans-kept old (read_all ∷ append_calls opened.content) true site.log opened.calls
  plan-opened (Err (Failed log)) failed =
      ⊎_elim (λ unread. plan-kept old log read_all false unread.call)
      (λ unbegun. fails-kept unbegun.mid log unbegun.content unbegun.calls ∙ plan-kept old unbegun.mid read_all true unbegun.reading) failed
  plan-opened (Err (NotOurs log place)) refused =
      ⊎_elim (λ said. plan-kept old log read_all false said) (λ other. plan-kept old log read_all true other.4) refused.3
  plan-opened (Err (BadRecord log index)) refused = plan-kept old log read_all true refused.3
  plan-opened (Err (TooManyOutcomes log count)) refused = plan-kept old log read_all true refused.1.call
  plan-opened (Err (EpochsSpent log)) refused = plan-kept old log read_all true refused.1.call
  plan-opened (Err (Full log length)) refused = plan-kept old log read_all true refused.1.call
  plan-opened (Err (NoMemory log)) refused = asked-kept old log refused.2

  opens-unfailing : (result : Result (SiteState ListState) (OpenError ListState)) → Opens list_model old me catalog result → old.fails ≡ [] → IsReadable result
  opens-unfailing (Ok site) opened none = tt
  opens-unfailing (Err (Failed log)) failed none =
      ⊎_elim (λ unread. true≢false (sym unread.down.is_down ∙ (ap (λ (kept : ListState). kept.is_down) unread.call ∙ unread.down.was_up)))
      (λ unbegun. appends-stay-up unbegun.mid log unbegun.content (plan-kept old unbegun.mid read_all true unbegun.reading ∙ none)
      (ap (λ (kept : ListState). kept.is_down) unbegun.reading ∙ unbegun.down.was_up) unbegun.calls unbegun.down.is_down) failed
  opens-unfailing (Err (NotOurs log place)) refused none = true≢false refused.2
  opens-unfailing (Err (BadRecord log index)) refused none = tt
  opens-unfailing (Err (TooManyOutcomes log count)) refused none = tt
  opens-unfailing (Err (EpochsSpent log)) refused none = tt
  opens-unfailing (Err (Full log length)) refused none = tt
  opens-unfailing (Err (NoMemory log)) refused none = tt

  -- An opening leaves the plan, and where nothing is planned the log doesn't fail.
  pub lists-open : (result : Result (SiteState ListState) (OpenError ListState)) → Opens list_model old me catalog result
      → ((log_after result).fails ≡ old.fails) × (old.fails ≡ [] → IsReadable result)
  lists-open result opened = (plan-opened result opened, opens-unfailing result opened)
