-- How `live` ends, by what was launched, read and written.
use Rattle.std.proofs.Common.{◌≡◌, ◌≢◌, ◌⊎◌, inl, inr, List, [], ℕ, ◌<◌, ◌≤◌, ◌==◌, true, false, if◌then◌else◌, length, get_or, Option, Result, Ok, Err, OnOk, OnErr, cond, is_ok, refl, sym, ap, ◌∙◌, subst, arith}
use Rattle.std.specs.Prelude.{IfErr}
use Rattle.std.specs.Bool.{⊤}
use Rattle.std.specs.Io.KnownBytes.{Appends}
use Rattle.std.proofs.lemmas.Bool.Decides.{leb_tells}
use Rattle.std.proofs.lemmas.List.{take_all}
use Rattle.std.proofs.lemmas.Result.{IfOk-at_ok}
use Rattle.std.proofs.KnownBytes.{Appends-nil, Keeps-refl}
use Rattle.pv_base.specs.Fault.{risen}
use Rattle.pv_base.specs.declared.limits.TheConstants.{MAX_INPUT}
use Rattle.pv_ckpt.specs.declared.ckpt_log.CkptLog.{CkptLog}
use Rattle.pv_disk.specs.BayModel.{BayModel, Berth}
use Rattle.pv_disk_model.specs.DiskModel.{DiskModel}
use Rattle.pv_io.specs.SinkEffects.{Writes, WritesNothing, WritesPrefix}
use Rattle.pv_io.specs.Stream.{AppendsPrefix}
use Rattle.pv_io.specs.declared.read_end.ReadEnd.{ReadEnd}
use Rattle.pv_io.specs.declared.read_end.ReadEnd.TheVariants as why
use Rattle.pv_io.specs.declared.sink.Sink.{Ghosts}
use Rattle.pv_launch.specs.Launching.{AreLaunched, IsHandedBack, IsLaunched, IsRefused}
use Rattle.pv_launch.specs.declared.not_launched.NotLaunched.{NotLaunched}
use Rattle.pv_launch.specs.declared.not_launched.NotLaunched.TheVariants as unlaunched
use Rattle.pv_model.specs.LineCauses.{LineCause}
use Rattle.pv_model.specs.LiveScript.{LiveScript}
use Rattle.pv_law_schedules.proofs.OneScheduleLemmas.{no_live_fault, one_fault, one_live_script}
use Rattle.pv_model.specs.LineForms.{live}
use Rattle.pv_run.specs.InputAnswers.{GivesUp, fault_text}
use Rattle.pv_run.specs.WriteEndView.{IsWriteFault}
use Rattle.pv_run.specs.declared.status.Status.TheVariants.{Malformed as MalformedStatus, WriteFault as WriteFaultStatus}
use Rattle.pv_run.specs.declared.write_end.WriteEnd.{WriteEnd}
use Rattle.pv_run.specs.declared.write_end.WriteEnd.TheVariants as unwritten
use Rattle.pv_show.specs.Bays.{IsAtRest}
use Rattle.pv_site.specs.SiteState.{SiteState}
use Rattle.pv_live.specs.Lived.{KeepsFullDisks, Lives}
use Rattle.pv_live.proofs.NamingLemmas.{element}
use Rattle.pv_live.specs.Inputs.{IsRefusedText, IsScriptOfClients}
use Rattle.pv_live.specs.LiveEnds.{AnswersLive, RunsSites, end_of_launch, end_of_refusal, live_status}
use Rattle.pv_live.specs.declared.live_end.LiveEnd.{LiveEnd}
use Rattle.pv_live.specs.declared.live_end.LiveEnd.TheVariants as at

-- What was written whole, or in part after an error, is a beginning.
pub whole-or-part : {T E : Type 0} (r : Result T E) (old new : Option (List ℕ)) (output : List ℕ) → OnOk r (Appends old new output)
    → OnErr r (AppendsPrefix old new output) → AppendsPrefix old new output
whole-or-part (Ok done) old new output whole part = (length output, subst (Appends old new) (sym (take_all (length output) output (omega arith))) whole)
whole-or-part (Err e) old new output whole part = part

-- ---- a text that is refused
-- A line was refused, or it gave up.
pub refused-status : (written : Result ⊤ WriteEnd) (ended : LiveEnd) → ended ≡ end_of_refusal written → GivesUp (live_status (Ok ended)) ⊎ (live_status (Ok ended) ≡ MalformedStatus)
refused-status (Ok all) ended is = inr (ap (λ (e : LiveEnd). live_status (Ok e)) is)
refused-status (Err unwritten.WriteFault) ended is = inl (subst (λ (e : LiveEnd). GivesUp (live_status (Ok e))) (sym is) tt)
refused-status (Err unwritten.NoMemory) ended is = inl (subst (λ (e : LiveEnd). GivesUp (live_status (Ok e))) (sym is) tt)

-- What is so where all was written is so where the line was refused.
pub refused-whole : (written : Result ⊤ WriteEnd) (ended : LiveEnd) (P : Type 0) → ended ≡ end_of_refusal written → OnOk written P → ended ≡ at.Malformed → P
refused-whole (Ok all) ended P is so refused = so
refused-whole (Err unwritten.WriteFault) ended P is so refused = absurd (let wrong : ⊥ = cc in wrong)
refused-whole (Err unwritten.NoMemory) ended P is so refused = absurd (let wrong : ⊥ = cc in wrong)

-- And what is so where the output failed is so where that of the refusal did.
pub refused-fault : (written : Result ⊤ WriteEnd) (ended : LiveEnd) (P : Type 0) → ended ≡ end_of_refusal written → IfErr written (λ e. IsWriteFault e → P)
    → ended ≡ at.WriteFault → P
refused-fault (Ok all) ended P is so fault = absurd (let wrong : ⊥ = cc in wrong)
refused-fault (Err unwritten.WriteFault) ended P is so fault = so refl
refused-fault (Err unwritten.NoMemory) ended P is so fault = absurd (let wrong : ⊥ = cc in wrong)

-- A refusal is no other end.
abbrev pub IsEndOfRun : LiveEnd → Type 0
IsEndOfRun at.Done = Unit {0}
IsEndOfRun at.BayFault = Unit {0}
IsEndOfRun at.NotEmpty = Unit {0}
IsEndOfRun other = ⊥

pub refused-other : (written : Result ⊤ WriteEnd) (ended other : LiveEnd) → ended ≡ end_of_refusal written → ended ≡ other → IsEndOfRun other → ⊥
refused-other (Ok all) ended other is same run = subst IsEndOfRun (sym same ∙ is) run
refused-other (Err unwritten.WriteFault) ended other is same run = subst IsEndOfRun (sym same ∙ is) run
refused-other (Err unwritten.NoMemory) ended other is same run = subst IsEndOfRun (sym same ∙ is) run

-- The status tells that the output failed.
pub write-fault-only : (ended : LiveEnd) → live_status (Ok ended) ≡ WriteFaultStatus → ended ≡ at.WriteFault
write-fault-only at.Done is = absurd (let wrong : ⊥ = cc in wrong)
write-fault-only at.Malformed is = absurd (let wrong : ⊥ = cc in wrong)
write-fault-only at.WriteFault is = refl
write-fault-only at.NoMemory is = absurd (let wrong : ⊥ = cc in wrong)
write-fault-only at.BayFault is = absurd (let wrong : ⊥ = cc in wrong)
write-fault-only at.NotEmpty is = absurd (let wrong : ⊥ = cc in wrong)

module _ {B V : Type 0} (M : BayModel B) (D : DiskModel V) (script : LiveScript) (old new : B) where
  -- ---- a bay at rest
  -- It is at rest again where no site was launched.
  pub refused-rest : (why : NotLaunched) → IsRefused M D script.catalog old new why → IsAtRest M old → IsAtRest M new
  refused-rest why refused rest = λ n.
      elim (leb_tells refused.count n) [
        | inl past ↦ ap (λ (b : Berth). b.is_out) (refused.beyond n past.1) ∙ rest n
        | inr not ↦ ap (λ (b : Berth). b.is_out) (refused.each n (let below = not.1 in omega (arith, below))).back.0
      ]

  -- And where they ran.
  pub lived-rest : (text : List ℕ) → Lives M D script old new text → IsAtRest M old → IsAtRest M new
  lived-rest text lives rest = λ n.
      elim (leb_tells script.catalog.sites n) [
        | inl past ↦ ap (λ (b : Berth). b.is_out) (lives.has_run.unchanged.beyond n past.1) ∙ rest n
        | inr not ↦
            let below : n < length lives.boxes = let less = not.1 in omega (arith, less, lives.has_run.count) in
            ap (λ (b : Berth). b.is_out) (lives.has_run.served n (element lives.boxes n below) below).back.0
      ]

  -- ---- disks that aren't empty
  -- One that was handed out is back as it was.
  handed-full : (n : ℕ) → IsHandedBack M D script.catalog unlaunched.NoMemory old new n → (M.berth old n).is_out ≡ false → M.tells old ≡ true → (M.berth old n).holds ≢ []
      → M.berth new n ≡ M.berth old n
  handed-full n one rest tells some =
      let was = one.was.holds tells in
      let looks = one.leaves.1 (M.berth old n).holds was some in
      let unfailed : D.faults one.given ≡ 0 = looks.2 ∙ one.was.unfailed in
      let faults : (if D.faults one.given == 0 then (M.berth old n).faults else risen (M.berth old n).faults) ≡ (M.berth old n).faults =
      ap (λ k. if k == 0 then (M.berth old n).faults else risen (M.berth old n).faults) unfailed in
      let holds : (M.berth new n).holds ≡ (M.berth old n).holds = one.back.1 tells (M.berth old n).holds (looks.1 ∙ was) in
      one.back.0 ∙ (λ i. record (M.berth old n) { is_out = sym rest i; faults = faults i; holds = holds i })

  refused-full : IsRefused M D script.catalog old new unlaunched.NoMemory → KeepsFullDisks M D script old new
  refused-full refused = λ rest tells n below some.
      elim (leb_tells refused.count n) [
        | inl past ↦ refused.beyond n past.1
        | inr not ↦ handed-full n (refused.each n (let less = not.1 in omega (arith, less))) (rest n) tells some
      ]

  -- And none is launched.
  pub launched-full : (mid : B) (sites : List (SiteState (CkptLog V))) → AreLaunched M D script.catalog old mid sites
      → ((n : ℕ) (any : SiteState (CkptLog V)) → n < length sites → IsLaunched M D script.catalog old n (get_or sites n any)) → KeepsFullDisks M D script old new
  launched-full mid sites launched numbered = λ rest tells n below some.
      let within : n < length sites = let many = launched.new_sites.0 in omega (arith, below, many) in
      let one = numbered n (element sites n within) within in
      absurd (some (one.begun.empty (M.berth old n).holds (one.begun.looks.1 ∙ one.was.holds tells)))

  -- ---- by the end
  module _ {W : Type 0} (sink : Ghosts W) (before after : W) where
    -- No site was launched.
    pub refused-runs : (why : NotLaunched) → IsRefused M D script.catalog old new why → WritesNothing sink before after
        → RunsSites M D sink script old new before after (end_of_launch why)
    refused-runs (unlaunched.NotEmpty site) refused nothing = ((unlaunched.NotEmpty site, refl, refused), nothing)
    refused-runs unlaunched.BayFault refused nothing = ((unlaunched.BayFault, refl, refused), nothing)
    refused-runs (unlaunched.DiskFault site) refused nothing = ((unlaunched.DiskFault site, refl, refused), nothing)
    refused-runs (unlaunched.Misread site) refused nothing = ((unlaunched.Misread site, refl, refused), nothing)
    refused-runs unlaunched.NoMemory refused nothing = (
      record {
        beyond = λ n past. let few = refused.few in refused.beyond n (omega (arith, past, few));
        faults = refused.cause.1;
        tells = refused.tells;
      },
      refused-full refused,
      nothing,
    )

    -- The text of a run was written, or a beginning of it.
    pub lived-runs : {E : Type 0} (written : Result ⊤ E) (ended : LiveEnd) (text : List ℕ) → ended ≡ cond (is_ok written) at.Done at.WriteFault
        → Lives M D script old new text → OnOk written (Writes sink before after text) → OnErr written (WritesPrefix sink before after text)
        → RunsSites M D sink script old new before after ended
    lived-runs (Ok all) ended text is lives whole part = subst (RunsSites M D sink script old new before after) (sym is) (text, lives, whole)
    lived-runs (Err e) ended text is lives whole part = subst (RunsSites M D sink script old new before after) (sym is) (text, lives, part)

-- Nothing was done.
pub idle-runs : {W B V : Type 0} (sink : Ghosts W) (M : BayModel B) (D : DiskModel V) (script : LiveScript) (bay : B) (same : W)
    → RunsSites M D sink script bay bay same same at.NoMemory
idle-runs sink M D script bay same =
    (record { beyond = λ n past. refl; faults = refl; tells = refl }, λ rest tells n below some. refl, Keeps-refl (sink.held same))

-- Of an input that wasn't read nothing is run.
module _ {W B V : Type 0} (sink : Ghosts W) (M : BayModel B) (D : DiskModel V) (same : W) (bay : B) (input : List ℕ) where
  pub unread : (end : ReadEnd) → (end ≡ why.TooLong → MAX_INPUT < length input) → AnswersLive sink M D same same bay bay (Err end) input
  unread why.Failed over = record {
    run = λ short script says. (refl, Keeps-refl (sink.held same));
    refused = λ short number cause is.
        ((inl tt, (0, Appends-nil (sink.held same)), λ fault. absurd (let wrong : ⊥ = cc in wrong)), refl, λ malformed. absurd (let wrong : ⊥ = cc in wrong));
    long = λ long. ((inl tt, (0, Appends-nil (sink.held same)), λ fault. absurd (let wrong : ⊥ = cc in wrong)), refl);
    done = λ done. absurd (let wrong : ⊥ = cc in wrong);
    bay_fault = λ is. absurd (let wrong : ⊥ = cc in wrong);
    not_empty = λ is. absurd (let wrong : ⊥ = cc in wrong);
    malformed = λ is. absurd (let wrong : ⊥ = cc in wrong);
  }
  unread why.TooLong over = record {
    run = λ short script says. absurd (omega (arith, short, over refl));
    refused = λ short number cause is. absurd (omega (arith, short, over refl));
    long = λ long. ((inr refl, (0, Appends-nil (sink.held same)), λ fault. absurd (let wrong : ⊥ = cc in wrong)), refl);
    done = λ done. absurd (let wrong : ⊥ = cc in wrong);
    bay_fault = λ is. absurd (let wrong : ⊥ = cc in wrong);
    not_empty = λ is. absurd (let wrong : ⊥ = cc in wrong);
    malformed = λ is. absurd (let wrong : ⊥ = cc in wrong);
  }
  unread why.NoMemory over = record {
    run = λ short script says. (refl, Keeps-refl (sink.held same));
    refused = λ short number cause is.
        ((inl tt, (0, Appends-nil (sink.held same)), λ fault. absurd (let wrong : ⊥ = cc in wrong)), refl, λ malformed. absurd (let wrong : ⊥ = cc in wrong));
    long = λ long. ((inl tt, (0, Appends-nil (sink.held same)), λ fault. absurd (let wrong : ⊥ = cc in wrong)), refl);
    done = λ done. absurd (let wrong : ⊥ = cc in wrong);
    bay_fault = λ is. absurd (let wrong : ⊥ = cc in wrong);
    not_empty = λ is. absurd (let wrong : ⊥ = cc in wrong);
    malformed = λ is. absurd (let wrong : ⊥ = cc in wrong);
  }

-- ---- what is answered to an input that was read
-- An input is a script of clients or refused, and refused at one line for one cause.
pub not-both : (input : List ℕ) (script : LiveScript) (number : ℕ) (cause : LineCause) → IsScriptOfClients input script → IsRefusedText input number cause → ⊥
not-both input script number cause says (inl malformed) = no_live_fault input script number cause says.0 malformed
not-both input script number cause says (inr lacks) =
    says.1 (ap (λ (s : LiveScript). s.clients) (one_live_script input script lacks.script says.0 lacks.is) ∙ lacks.none)

pub one-refusal : (input : List ℕ) (number other : ℕ) (cause reported : LineCause) → IsRefusedText input number cause → IsRefusedText input other reported
    → (number ≡ other) × (cause ≡ reported)
one-refusal input number other cause reported (inl first) (inl later) = one_fault live input number other cause reported first later
one-refusal input number other cause reported (inl first) (inr later) = absurd (no_live_fault input later.script number cause later.is first)
one-refusal input number other cause reported (inr first) (inl later) = absurd (no_live_fault input first.script other reported first.is later)
one-refusal input number other cause reported (inr first) (inr later) = (first.place ∙ sym later.place, first.cause_is ∙ sym later.cause_is)

module _ {W B V : Type 0} (sink : Ghosts W) (M : BayModel B) (D : DiskModel V) (before after : W) (input : List ℕ) (short : length input ≤ MAX_INPUT) where
  -- A script with clients was run.
  pub answers-run : (old new : B) (script : LiveScript) (ended : LiveEnd) → IsScriptOfClients input script → RunsSites M D sink script old new before after ended
      → AnswersLive sink M D before after old new (Ok ended) input
  answers-run old new script ended says runs = record {
    run = λ within other is.
        subst (λ (s : LiveScript). RunsSites M D sink s old new before after ended) (one_live_script input script other says.0 is.0) runs;
    refused = λ within number cause is. absurd (not-both input script number cause says is);
    long = λ over. absurd (omega (arith, over, short));
    done = λ is. (script, says);
    bay_fault = λ is. (script, says);
    not_empty = λ is. (script, says);
    malformed = λ is. absurd (subst (RunsSites M D sink script old new before after) (IfOk-at_ok (λ e. ended ≡ e) is refl) runs);
  }

  -- A line was refused.
  pub answers-refused : (bay : B) (number : ℕ) (cause : LineCause) (written : Result ⊤ WriteEnd) (ended : LiveEnd) → IsRefusedText input number cause
      → ended ≡ end_of_refusal written → OnOk written (Writes sink before after (fault_text number cause))
      → OnErr written (WritesPrefix sink before after (fault_text number cause)) → IfErr written (λ e. IsWriteFault e → fault_text number cause ≢ [])
      → AnswersLive sink M D before after bay bay (Ok ended) input
  answers-refused bay number cause written ended refused is whole part some = record {
    run = λ within script says. absurd (not-both input script number cause says refused);
    refused = λ within other reported also.
        let same = one-refusal input number other cause reported refused also in
        let text : fault_text number cause ≡ fault_text other reported = λ i. fault_text (same.0 i) (same.1 i) in (
          (
            refused-status written ended is,
            subst (WritesPrefix sink before after) text (whole-or-part written (sink.held before) (sink.held after) (fault_text number cause) whole part),
            λ fault. subst (λ (t : List ℕ). t ≢ []) text (refused-fault written ended (fault_text number cause ≢ []) is some (write-fault-only ended fault)),
          ),
          refl,
          λ malformed.
              subst (Writes sink before after) text
              (refused-whole written ended (Writes sink before after (fault_text number cause)) is whole (IfOk-at_ok (λ e. ended ≡ e) malformed refl)),
        );
    long = λ over. absurd (omega (arith, over, short));
    done = λ done. absurd (refused-other written ended at.Done is (IfOk-at_ok (λ e. ended ≡ e) done refl) tt);
    bay_fault = λ fault. absurd (refused-other written ended at.BayFault is (IfOk-at_ok (λ e. ended ≡ e) fault refl) tt);
    not_empty = λ fault. absurd (refused-other written ended at.NotEmpty is (IfOk-at_ok (λ e. ended ≡ e) fault refl) tt);
    malformed = λ malformed. (number, cause, refused);
  }

-- There was no memory for the script.
pub answers-nothing : {W B V : Type 0} (sink : Ghosts W) (M : BayModel B) (D : DiskModel V) (same : W) (bay : B) (input : List ℕ) → length input ≤ MAX_INPUT
    → AnswersLive sink M D same same bay bay (Ok at.NoMemory) input
answers-nothing sink M D same bay input short = record {
  run = λ within script says. idle-runs sink M D script bay same;
  refused = λ within number cause is.
      ((inl tt, (0, Appends-nil (sink.held same)), λ fault. absurd (let wrong : ⊥ = cc in wrong)), refl, λ malformed. absurd (let wrong : ⊥ = cc in wrong));
  long = λ over. absurd (omega (arith, over, short));
  done = λ done. absurd (let wrong : ⊥ = cc in wrong);
  bay_fault = λ is. absurd (let wrong : ⊥ = cc in wrong);
  not_empty = λ is. absurd (let wrong : ⊥ = cc in wrong);
  malformed = λ is. absurd (let wrong : ⊥ = cc in wrong);
}
