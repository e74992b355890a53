-- What a crash leaves of a step of a site, and what an opening makes of it.
use Rattle.std.proofs.Common.{◌≡◌, ◌⊎◌, inl, inr, ℕ, false, List, [], ◌∷◌, ◌++◌, Option, Some, None, Result, Ok, Err, refl, sym, subst, arith, ◌∙◌, ap, ap₂, ⊎_elim}
use Rattle.std.specs.Option.{option_to_list}
use Rattle.std.proofs.lemmas.List.{append-nil}
use Rattle.pv_base.specs.Catalog.{Declared}
use Rattle.pv_format.specs.Contents.{SpellRecords}
use Rattle.pv_format.specs.Record.{Record, epoch_begun}
use Rattle.pv_format.specs.RecordSpelling.{SpellsRecord}
use Rattle.pv_disk_model.proofs.LogLemmas.{settled_since}
use Rattle.pv_disk_model.specs.Log.{IsBeforeOrAfter}
use Rattle.pv_disk_model.specs.LogModel.{LogModel}
use Rattle.pv_disk_model.specs.Size.{Contents}
use Rattle.pv_law_format.proofs.ReplayLemmas.{one-replay, spelled-more}
use Rattle.pv_protocol.specs.State as model
use Rattle.pv_protocol.specs.State.{Running, Input}
use Rattle.pv_protocol.specs.Step.{step_on, records_after}
use Rattle.pv_site.specs.Crashes.{AreBeforeOrAfter, AreContentsOf, IsUp}
use Rattle.pv_site.specs.OnLog.{Fails, HoldsRecords, Logs}
use Rattle.pv_site.specs.Opens.{Opens}
use Rattle.pv_site.specs.SiteState.{SiteState, here_with}
use Rattle.pv_site.specs.Steps.{HoldsWhatRuns, Steps}
use Rattle.pv_site.specs.declared.error.StepError.{StepError}
use Rattle.pv_site.specs.declared.error.StepError.TheVariants.{Fault, Down, NoMemory}
use Rattle.pv_site.specs.declared.input.Step.{Step}

-- Contents that are left spell what they spell.
left-spelled : (records : List Record) (contents : Contents) (left : Option Contents) → SpellRecords records contents → left ≡ Some contents → AreContentsOf records left
left-spelled records contents left spelled is = subst (AreContentsOf records) (sym is) spelled

-- So do these with one content more.
left-more : (records : List Record) (contents : Contents) (more : Record) (content : List ℕ) (left : Option Contents) → SpellRecords records contents
    → SpellsRecord more content → left ≡ Some (contents ++ content ∷ []) → AreContentsOf (records ++ more ∷ []) left
left-more records contents more content left spelled one is =
    left-spelled (records ++ more ∷ []) (contents ++ content ∷ []) left (spelled-more records contents more content spelled one) is

-- Before an append or after it.
either-spelled : (records : List Record) (contents : Contents) (more : Record) (content : List ℕ) (left : Option Contents) → SpellRecords records contents
    → SpellsRecord more content → IsBeforeOrAfter contents content left → AreContentsOf records left ⊎ AreContentsOf (records ++ more ∷ []) left
either-spelled records contents more content left spelled one is =
    ⊎_elim (λ before. inl (left-spelled records contents left spelled before)) (λ after. inr (left-more records contents more content left spelled one after)) is

module _ {W : Type 0} (M : LogModel W) where
  -- A log that holds these records.
  module _ (old new : W) (records : List Record) (contents : Contents) (intact : M.is_intact old) (up : M.is_down old ≡ false) (known : M.contents old ≡ Some contents)
      (spelled : SpellRecords records contents) where
    -- At any moment of a step that is answered.
    any-moment : (appended : Option Record) (left : Option Contents) → Logs M old new appended → M.left_since new (M.moment old) left
        → AreContentsOf records left ⊎ AreContentsOf (records ++ option_to_list appended) left
    any-moment None left same since =
        inl (left-spelled records contents left spelled (settled_since M old contents left intact known (subst (λ (log : W). M.left_since log (M.moment old) left) same since) up))
    any-moment (Some more) left logged since =
        either-spelled records contents more logged.1.0 left spelled logged.1.1 ((logged.1.2.any_moment contents known).each left since)

    -- From its answer on.
    from-then : (appended : Option Record) (left : Option Contents) → Logs M old new appended → M.may_leave new left
        → AreContentsOf (records ++ option_to_list appended) left
    from-then None left same may =
        subst (λ (all : List Record). AreContentsOf all left) (sym (append-nil records))
        (left-spelled records contents left spelled (M.settled old contents left intact up known (subst (λ (log : W). M.may_leave log left) same may)))
    from-then (Some more) left logged may =
        left-more records contents more logged.1.0 left spelled logged.1.1 (logged.1.2.durable contents known left may)

    -- At any moment of a step whose append failed.
    any-failed : (step : model.Step) (left : Option Contents) → Fails M old new step → M.left_since new (M.moment old) left
        → AreContentsOf records left ⊎ AreContentsOf (records_after records step) left
    any-failed step left fails since =
        subst (λ (appended : Option Record). AreContentsOf records left ⊎ AreContentsOf (records ++ option_to_list appended) left) (sym fails.is)
        (either-spelled records contents fails.appended fails.content left spelled fails.spelled ((fails.log.any_moment contents known).each left since))

  module _ (old new : SiteState W) (running : Running) (input : Input) (is_up : IsUp M old running) where
    holds : HoldsRecords M old.log old.surplus old.records
    holds = subst (HoldsWhatRuns M old.log old.surplus old.records) is_up.up is_up.ready.holds

    spelled : SpellRecords old.records is_up.contents
    spelled = holds.held is_up.contents is_up.known

    -- Whatever the answer, a crash leaves the records before the step or after it.
    pub crash-moments : (result : Result Step StepError) (left : Option Contents) → Steps M old new (Some running) input result
        → M.left_since new.log (M.moment old.log) left → AreBeforeOrAfter old running input left
    crash-moments (Ok answer) left makes since =
        any-moment old.log new.log old.records is_up.contents is_up.ready.intact holds.up is_up.known spelled (step_on (here_with old running) input).appended left makes.log since
    crash-moments (Err Fault) left breaks since =
        any-failed old.log new.log old.records is_up.contents is_up.ready.intact holds.up is_up.known spelled (step_on (here_with old running) input) left breaks.log since
    crash-moments (Err Down) left none since = absurd none
    crash-moments (Err NoMemory) left stays since =
        inl (left-spelled old.records is_up.contents left spelled
        (settled_since M old.log is_up.contents left is_up.ready.intact is_up.known (stays.log.crash (M.moment old.log) left (omega arith) since) holds.up))

    -- After an answer, those after it.
    pub crash-done : (answer : Step) (left : Option Contents) → Steps M old new (Some running) input (Ok answer) → M.may_leave new.log left
        → AreContentsOf new.records left
    crash-done answer left makes may =
        subst (λ (records : List Record). AreContentsOf records left) (sym (ap (λ (site : SiteState W). site.records) makes.site))
        (from-then old.log new.log old.records is_up.contents is_up.ready.intact holds.up is_up.known spelled (step_on (here_with old running) input).appended left makes.log may)

  known-records : (log : W) (me : ℕ) (catalog : Declared) (records : List Record) (site : SiteState W) (held : Option Contents) → M.contents log ≡ held
      → AreContentsOf records held → Opens M log me catalog (Ok site) → site.records ≡ records ++ epoch_begun site.epoch ∷ []
  known-records log me catalog records site None is none opened = absurd none
  known-records log me catalog records site (Some contents) is spelled opened =
      let same : opened.records ≡ records =
      one-replay contents opened.records records (subst (SpellRecords opened.records) (opened.read contents is) opened.spelled) spelled in
      let epoch : site.epoch ≡ opened.epoch = ap (λ (one : SiteState W). one.epoch) opened.site in
      ap (λ (one : SiteState W). one.records) opened.site
      ∙ ap₂ (λ (before : List Record) (n : ℕ). before ++ epoch_begun n ∷ []) same (sym epoch)

  -- A site goes on from the records that its log's contents spell.
  pub opens-on-records : (log : W) (me : ℕ) (catalog : Declared) (records : List Record) (site : SiteState W) → AreContentsOf records (M.contents log)
      → Opens M log me catalog (Ok site) → site.records ≡ records ++ epoch_begun site.epoch ∷ []
  opens-on-records log me catalog records site spelled opened = known-records log me catalog records site (M.contents log) refl spelled opened
