-- The text is one live script, or is malformed at one line for one cause.
use Rattle.std.proofs.Common.{◌≡◌, ◌≢◌, List, ℕ, [], IfSome, OnErr, OnOk, inl, refl, ◌∙◌, subst}
use Rattle.std.proofs.KnownBytes.{Appends-nil}
use Rattle.std.specs.Io.KnownBytes.{Appends}
use Rattle.pv_io.specs.SinkEffects.{HasFailed}
use Rattle.pv_io.specs.Stream.{AppendsPrefix}
use Rattle.pv_base.specs.declared.limits.TheConstants.{MAX_SITES}
use Rattle.pv_law_schedules.proofs.OneScheduleLemmas.{no_live_fault, one_fault, one_live_script}
use Rattle.pv_model.specs.LineForms.{live}
use Rattle.pv_model.specs.LiveScript.{LiveScript}
use Rattle.pv_model.specs.Schedule.{IsMalformedLiveScript}
use Rattle.pv_script.specs.LiveView.{live_script_of}
use Rattle.pv_script.specs.ScriptErrors.{IsMalformedLiveAt, line_cause_of, refused_line}
use Rattle.pv_script.specs.declared.schedule.ScriptError.{ScriptError}
use Rattle.pv_app.proofs.TourLemmas.{UsesDisks-wider, at_refusal_fault, at_refused, prefix-either, refused-not-bay, refused-not-done, refused-or-not, tour-write-fault}
use Rattle.pv_app.specs.TourEnds.{IsUseOf, TellsOfSites}
use Rattle.pv_run.specs.InputAnswers.{fault_text}
use Rattle.pv_show.specs.Bays.{UsesDisks, none}
use Rattle.pv_app.proofs.touring.tour_text.Goals as goal

pub returns-in-Ok-clause-told : goal.returns-in-Ok-clause-told
returns-in-Ok-clause-told g c = λ script says.
    subst (λ (s : LiveScript). TellsOfSites g.B.Bay.model g.B.D.Disk.model g.W.Sink c.args.tour s.catalog c.args.bay.now c.tour_sites.new.bay c.args.sink.now c.tour_sites.new.sink c.tour_sites.result)
    (one_live_script c.args.input.now (live_script_of c.in-Ok.script) script c.in-Ok.ensures.answer.given says) c.tour_sites.ensures.told

pub returns-in-Ok-clause-refused : goal.returns-in-Ok-clause-refused
returns-in-Ok-clause-refused g c = λ number cause is. absurd (no_live_fault c.args.input.now (live_script_of c.in-Ok.script) number cause c.in-Ok.ensures.answer.given is)

pub returns-in-Ok-clause-done : goal.returns-in-Ok-clause-done
returns-in-Ok-clause-done g c = λ done. (live_script_of c.in-Ok.script, c.in-Ok.ensures.answer.given)

pub returns-in-Ok-clause-malformed : goal.returns-in-Ok-clause-malformed
returns-in-Ok-clause-malformed g c = λ is.
    absurd (subst (TellsOfSites g.B.Bay.model g.B.D.Disk.model g.W.Sink c.args.tour c.in-Ok.script.catalog c.args.bay.now c.tour_sites.new.bay c.args.sink.now c.tour_sites.new.sink) is c.tour_sites.ensures.told)

pub returns-in-Ok-clause-uses : goal.returns-in-Ok-clause-uses
returns-in-Ok-clause-uses g c =
    UsesDisks-wider g.B.Bay.model g.B.D.Disk.model (IsUseOf g.B.D.Disk.model c.args.tour) c.in-Ok.script.catalog.sites MAX_SITES c.args.bay.now c.tour_sites.new.bay c.tour_sites.ensures.few c.tour_sites.ensures.uses

pub returns-in-Ok-clause-only_declared : goal.returns-in-Ok-clause-only_declared
returns-in-Ok-clause-only_declared g c = λ script says.
    subst (λ (s : LiveScript). UsesDisks g.B.Bay.model g.B.D.Disk.model (IsUseOf g.B.D.Disk.model c.args.tour) s.catalog.sites c.args.bay.now c.tour_sites.new.bay)
    (one_live_script c.args.input.now (live_script_of c.in-Ok.script) script c.in-Ok.ensures.answer.given says) c.tour_sites.ensures.uses

pub returns-in-Ok-clause-alone : goal.returns-in-Ok-clause-alone
returns-in-Ok-clause-alone g c = λ is.
    absurd (subst (TellsOfSites g.B.Bay.model g.B.D.Disk.model g.W.Sink c.args.tour c.in-Ok.script.catalog c.args.bay.now c.tour_sites.new.bay c.args.sink.now c.tour_sites.new.sink) is c.tour_sites.ensures.told)

pub returns-in-Ok-clause-bay_fault : goal.returns-in-Ok-clause-bay_fault
returns-in-Ok-clause-bay_fault g c = λ is.
    subst (TellsOfSites g.B.Bay.model g.B.D.Disk.model g.W.Sink c.args.tour c.in-Ok.script.catalog c.args.bay.now c.tour_sites.new.bay c.args.sink.now c.tour_sites.new.sink) is c.tour_sites.ensures.told

pub returns-in-Err-Malformed-clause-told : goal.returns-in-Err-Malformed-clause-told
returns-in-Err-Malformed-clause-told g c = λ script says.
    let line = c.in-Err-Malformed.line in
    let cause = c.in-Err-Malformed.cause in
    let refused : IsMalformedLiveScript c.args.input.now line (line_cause_of cause) =
    subst (λ (e : ScriptError). IfSome (refused_line e) (IsMalformedLiveAt c.args.input.now)) c.in-Err-Malformed.field-0-is c.in-Err-Malformed.ensures.answer.refused in
    absurd (no_live_fault c.args.input.now script line (line_cause_of cause) says refused)

pub returns-in-Err-Malformed-clause-refused : goal.returns-in-Err-Malformed-clause-refused
returns-in-Err-Malformed-clause-refused g c = λ number reported is.
    let line = c.in-Err-Malformed.line in
    let cause = c.in-Err-Malformed.cause in
    let old = g.W.Sink.held c.args.sink.now in
    let new = g.W.Sink.held c.refuse.new.sink in
    let refused : IsMalformedLiveScript c.args.input.now line (line_cause_of cause) =
    subst (λ (e : ScriptError). IfSome (refused_line e) (IsMalformedLiveAt c.args.input.now)) c.in-Err-Malformed.field-0-is c.in-Err-Malformed.ensures.answer.refused in
    let same = one_fault live c.args.input.now line number (line_cause_of cause) reported refused is in
    let first : fault_text _ (line_cause_of _) ≡ fault_text line (line_cause_of cause) = λ i. fault_text (c.in-Err-Malformed.line-is i) (line_cause_of (c.in-Err-Malformed.cause-is i)) in
    let text : fault_text line (line_cause_of cause) ≡ fault_text number reported = λ i. fault_text (same.0 i) (same.1 i) in
    let written = subst (λ (t : List ℕ). OnOk c.refuse.result (Appends old new t)) (first ∙ text) c.refuse.ensures.written in
    let ended = c.end_of_refusal.result in
    let so = c.end_of_refusal.ensures in (
      (
        refused-or-not c.refuse.result ended so,
        prefix-either c.refuse.result old new (fault_text number reported) written (subst (λ (t : List ℕ). OnErr c.refuse.result (AppendsPrefix old new t)) (first ∙ text) c.refuse.ensures.prefix),
        λ fault. subst (λ (t : List ℕ). t ≢ []) (first ∙ text)
            (at_refusal_fault c.refuse.result ended (fault_text _ (line_cause_of _) ≢ []) so c.refuse.ensures.some (tour-write-fault ended fault)),
      ),
      refl,
      at_refused c.refuse.result ended (Appends old new (fault_text number reported)) so written,
    )

pub returns-in-Err-Malformed-clause-done : goal.returns-in-Err-Malformed-clause-done
returns-in-Err-Malformed-clause-done g c = λ done. absurd (refused-not-done c.refuse.result c.end_of_refusal.result c.end_of_refusal.ensures done)

pub returns-in-Err-Malformed-clause-bay_fault : goal.returns-in-Err-Malformed-clause-bay_fault
returns-in-Err-Malformed-clause-bay_fault g c = λ is. absurd (refused-not-bay c.refuse.result c.end_of_refusal.result c.end_of_refusal.ensures is)

pub returns-in-Err-Malformed-clause-write_fault : goal.returns-in-Err-Malformed-clause-write_fault
returns-in-Err-Malformed-clause-write_fault g c =
    at_refusal_fault c.refuse.result c.end_of_refusal.result (HasFailed g.W.Sink c.args.sink.now c.refuse.new.sink) c.end_of_refusal.ensures c.refuse.ensures.fault

pub returns-in-Err-Malformed-clause-malformed : goal.returns-in-Err-Malformed-clause-malformed
returns-in-Err-Malformed-clause-malformed g c = λ is. (
  c.in-Err-Malformed.line,
  line_cause_of c.in-Err-Malformed.cause,
  subst (λ (e : ScriptError). IfSome (refused_line e) (IsMalformedLiveAt c.args.input.now)) c.in-Err-Malformed.field-0-is c.in-Err-Malformed.ensures.answer.refused,
)

pub returns-in-Err-Malformed-clause-uses : goal.returns-in-Err-Malformed-clause-uses
returns-in-Err-Malformed-clause-uses g c = none

pub returns-in-Err-Malformed-clause-only_declared : goal.returns-in-Err-Malformed-clause-only_declared
returns-in-Err-Malformed-clause-only_declared g c = λ script says. none

pub returns-in-Err-NoMemory-clause-refused : goal.returns-in-Err-NoMemory-clause-refused
returns-in-Err-NoMemory-clause-refused g c = λ number cause is.
    ((inl tt, (0, Appends-nil (g.W.Sink.held c.args.sink.now)), λ fault. absurd (let wrong : ⊥ = cc in wrong)), refl, λ malformed. absurd (let wrong : ⊥ = cc in wrong))

pub returns-in-Err-NoMemory-clause-uses : goal.returns-in-Err-NoMemory-clause-uses
returns-in-Err-NoMemory-clause-uses g c = none

pub returns-in-Err-NoMemory-clause-only_declared : goal.returns-in-Err-NoMemory-clause-only_declared
returns-in-Err-NoMemory-clause-only_declared g c = λ script says. none
