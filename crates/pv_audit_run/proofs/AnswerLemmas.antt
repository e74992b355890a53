-- What is answered to an input that is a trace, and to one that is none.
use Rattle.std.proofs.Common.{◌≡◌, ◌≢◌, ◌⊎◌, inl, inr, ℕ, ◌≤◌, ◌<◌, List, [], length, Result, Ok, Err, OnOk, OnErr, refl, sym, ap, ◌∙◌, subst, arith}
use Rattle.std.specs.Bool.{⊤}
use Rattle.std.specs.Prelude.{IfErr, All}
use Rattle.std.specs.Io.KnownBytes.{Appends}
use Rattle.std.proofs.KnownBytes.{Appends-nil}
use Rattle.std.proofs.lemmas.List.{take_all}
use Rattle.pv_audit.specs.Findings.{IsFine, IsVerdict, Verdict, all_agree, at_report, no_order, no_item, limit}
use Rattle.pv_audit.specs.Reports.{reports}
use Rattle.pv_audit.specs.Traces.{IsTrace, Trace}
use Rattle.pv_audit.specs.Views.{IsNoTraceAt, RefusedEntry}
use Rattle.pv_audit_run.specs.AuditEnds.{AnswersAudit, IsAuditAnswer, IsJudged, end_by, end_status, ended_by}
use Rattle.pv_audit_run.specs.VerdictText.{verdict_text}
use Rattle.pv_audit_run.specs.declared.audit_end.AuditEnd.{AuditEnd}
use Rattle.pv_audit_run.specs.declared.audit_end.AuditEnd.TheVariants as end
use Rattle.pv_base.specs.declared.limits.TheConstants.{MAX_INPUT}
use Rattle.pv_io.specs.SinkEffects.{HasFailed, Writes, WritesPrefix}
use Rattle.pv_io.specs.declared.read_end.ReadEnd.{ReadEnd}
use Rattle.pv_io.specs.declared.read_end.ReadEnd.TheVariants as why
use Rattle.pv_io.specs.declared.sink.Sink.{Ghosts}
use Rattle.pv_law_audits.specs.RightReports.{IsPassed}
use Rattle.pv_model.specs.LineCauses.{LineCause}
use Rattle.pv_run.specs.InputAnswers.{GivesUp, GivesUpOr, IsRunAnswer, fault_text}
use Rattle.pv_run.specs.Statuses.{unread_status}
use Rattle.pv_run.specs.WriteEndView.{IsWriteFault}
use Rattle.pv_run.specs.declared.form.Form.TheVariants as form
use Rattle.pv_run.specs.declared.status.Status.{Status}
use Rattle.pv_run.specs.declared.status.Status.TheVariants as status
use Rattle.pv_run.specs.declared.write_end.WriteEnd.{WriteEnd}
use Rattle.pv_run.specs.declared.write_end.WriteEnd.TheVariants as unwritten

-- The input is malformed at this line, for this cause.
abbrev IsNoTrace : List ℕ → ℕ → LineCause → Type 0
IsNoTrace input number cause = IsNoTraceAt input (record { number = number; cause = cause })

-- ---- the kinds of answers

-- An answer is the first line at fault, or nothing to what is too long, or what is found of a trace.
data Kind (input : List ℕ) (answer : Status) (output : List ℕ) : Type 0 where
  refused : length input ≤ MAX_INPUT → answer ≡ status.Malformed → (number : ℕ) (cause : LineCause) → IsNoTrace input number cause → output ≡ fault_text number cause → Kind input answer output
  long : MAX_INPUT < length input → answer ≡ status.TooLong → Kind input answer output
  judged : IsJudged input answer output → Kind input answer output

kind : (input : List ℕ) (answer : Status) (output : List ℕ) → IsAuditAnswer input answer output → Kind input answer output
kind input status.Malformed output is = refused is.0 refl is.1 is.2 is.3 is.4
kind input status.TooLong output is = long is.0 refl
kind input status.Done output is = judged is
kind input status.Usage output is = judged is
kind input status.ReadFault output is = judged is
kind input status.WriteFault output is = judged is
kind input status.NoMemory output is = judged is
kind input status.SentLimit output is = judged is
kind input status.BayFault output is = judged is
kind input status.NotEmpty output is = judged is
kind input status.Refuted output is = judged is
kind input status.Limit output is = judged is

answer-of-verdict : (input : List ℕ) (trace : Trace) (verdict : Verdict) → length input ≤ MAX_INPUT → IsTrace input trace → IsVerdict trace verdict
    → IsAuditAnswer input (end_status (end_by verdict)) (verdict_text trace.catalog verdict)
answer-of-verdict input trace (all_agree count) short is found = record { short = short; trace = trace; is = is; verdict = all_agree count; found = found; ends = refl; text = refl }
answer-of-verdict input trace (at_report number (no_order txn)) short is found =
    record { short = short; trace = trace; is = is; verdict = at_report number (no_order txn); found = found; ends = refl; text = refl }
answer-of-verdict input trace (at_report number (no_item item txns)) short is found =
    record { short = short; trace = trace; is = is; verdict = at_report number (no_item item txns); found = found; ends = refl; text = refl }
answer-of-verdict input trace (at_report number (limit names)) short is found =
    record { short = short; trace = trace; is = is; verdict = at_report number (limit names); found = found; ends = refl; text = refl }

verdict-written : (verdict : Verdict) → end_by verdict ≡ end.WriteFault → ⊥
verdict-written (all_agree count) is = let wrong : ⊥ = cc in wrong
verdict-written (at_report number (no_order txn)) is = let wrong : ⊥ = cc in wrong
verdict-written (at_report number (no_item item txns)) is = let wrong : ⊥ = cc in wrong
verdict-written (at_report number (limit names)) is = let wrong : ⊥ = cc in wrong

pub refusal-written : end.Malformed ≡ end.WriteFault → ⊥
refusal-written is = let wrong : ⊥ = cc in wrong

write-fault-is : (ended : AuditEnd) → end_status ended ≡ status.WriteFault → ended ≡ end.WriteFault
write-fault-is end.Done is = absurd (let wrong : ⊥ = cc in wrong)
write-fault-is end.Refuted is = absurd (let wrong : ⊥ = cc in wrong)
write-fault-is end.Limit is = absurd (let wrong : ⊥ = cc in wrong)
write-fault-is end.Malformed is = absurd (let wrong : ⊥ = cc in wrong)
write-fault-is end.WriteFault is = refl
write-fault-is end.NoMemory is = absurd (let wrong : ⊥ = cc in wrong)

pub done-is : (ended : AuditEnd) → end_status ended ≡ status.Done → ended ≡ end.Done
done-is end.Done is = refl
done-is end.Refuted is = absurd (let wrong : ⊥ = cc in wrong)
done-is end.Limit is = absurd (let wrong : ⊥ = cc in wrong)
done-is end.Malformed is = absurd (let wrong : ⊥ = cc in wrong)
done-is end.WriteFault is = absurd (let wrong : ⊥ = cc in wrong)
done-is end.NoMemory is = absurd (let wrong : ⊥ = cc in wrong)

-- ---- the answer to what `trace` wrote to its end

-- It is that all agree, or that a limit is passed.
abbrev pub TracesAreAnswered : Type 0
TracesAreAnswered = (schedule input output : List ℕ) (answer : Status) → IsRunAnswer form.Trace schedule status.Done input → length input ≤ MAX_INPUT
    → IsAuditAnswer input answer output → (answer ≡ status.Done) ⊎ (answer ≡ status.Limit)

pub traces-answered : ((text : List ℕ) (trace : Trace) (refused : RefusedEntry) → IsTrace text trace → IsNoTraceAt text refused → ⊥)
    → ((schedule text : List ℕ) → IsRunAnswer form.Trace schedule status.Done text → (trace : Trace) × IsTrace text trace)
    → ((schedule text : List ℕ) (trace : Trace) (verdict : Verdict) → IsRunAnswer form.Trace schedule status.Done text → IsTrace text trace → IsVerdict trace verdict → IsPassed verdict)
    → TracesAreAnswered
traces-answered no_fault read passes schedule input output answer done short is = go (kind input answer output is)
  where
    passed : (verdict : Verdict) → answer ≡ end_status (end_by verdict) → IsPassed verdict → (answer ≡ status.Done) ⊎ (answer ≡ status.Limit)
    passed verdict ends (inl all) = inl (ends ∙ ap (λ (v : Verdict). end_status (end_by v)) all.1)
    passed verdict ends (inr limits) = inr (ends ∙ ap (λ (v : Verdict). end_status (end_by v)) limits.2)

    go : Kind input answer output → (answer ≡ status.Done) ⊎ (answer ≡ status.Limit)
    go (refused few same number cause none text) =
        let trace = read schedule input done in
        absurd (no_fault input trace.0 (record { number = number; cause = cause }) trace.1 none)
    go (long over same) = absurd (omega (arith, over, short))
    go (judged found) = passed found.verdict found.ends (passes schedule input found.trace found.verdict done found.is found.found)

-- ---- what was written

module _ {W : Type 0} (sink : Ghosts W) (before after : W) where
  -- An answer was written whole, or in part: it gave up then.
  written-or : (whole ended : AuditEnd) (written : Result ⊤ WriteEnd) (output : List ℕ) → ended ≡ ended_by whole written → (whole ≡ end.WriteFault → ⊥)
      → OnOk written (Writes sink before after output) → OnErr written (WritesPrefix sink before after output) → IfErr written (λ e. IsWriteFault e → output ≢ [])
      → GivesUpOr sink (end_status ended) (end_status whole) output before after
  written-or whole ended (Ok all) output is sound done part some = (
    inr (ap end_status is),
    (length output, subst (Appends (sink.held before) (sink.held after)) (sym (take_all (length output) output (omega arith))) done),
    λ fault. absurd (sound (sym is ∙ write-fault-is ended fault)),
  )
  written-or whole ended (Err unwritten.WriteFault) output is sound done part some =
      (inl (subst (λ (e : AuditEnd). GivesUp (end_status e)) (sym is) tt), part, λ fault. some refl)
  written-or whole ended (Err unwritten.NoMemory) output is sound done part some =
      (inl (subst (λ (e : AuditEnd). GivesUp (end_status e)) (sym is) tt), part, λ fault. absurd (let same = sym is ∙ write-fault-is ended fault in let wrong : ⊥ = cc in wrong))

  written-is : (input : List ℕ) (whole ended : AuditEnd) (written : Result ⊤ WriteEnd) (output : List ℕ) → ended ≡ ended_by whole written
      → IsAuditAnswer input (end_status whole) output → OnOk written (Writes sink before after output)
      → GivesUp (end_status ended) ⊎ ((text : List ℕ) × IsAuditAnswer input (end_status ended) text × Writes sink before after text)
  written-is input whole ended (Ok all) output is answer done =
      inr (output, subst (λ (e : AuditEnd). IsAuditAnswer input (end_status e) output) (sym is) answer, done)
  written-is input whole ended (Err unwritten.WriteFault) output is answer done = inl (subst (λ (e : AuditEnd). GivesUp (end_status e)) (sym is) tt)
  written-is input whole ended (Err unwritten.NoMemory) output is answer done = inl (subst (λ (e : AuditEnd). GivesUp (end_status e)) (sym is) tt)

  written-fault : (whole ended : AuditEnd) (written : Result ⊤ WriteEnd) → ended ≡ ended_by whole written → (whole ≡ end.WriteFault → ⊥)
      → IfErr written (λ e. IsWriteFault e → HasFailed sink before after) → ended ≡ end.WriteFault → HasFailed sink before after
  written-fault whole ended (Ok all) is sound fault so = absurd (sound (sym is ∙ so))
  written-fault whole ended (Err unwritten.WriteFault) is sound fault so = fault refl
  written-fault whole ended (Err unwritten.NoMemory) is sound fault so = absurd (let same = sym is ∙ so in let wrong : ⊥ = cc in wrong)

  -- ---- the answer to a trace

  module _ (input : List ℕ) (trace : Trace) (verdict : Verdict) (short : length input ≤ MAX_INPUT) (is : IsTrace input trace) (found : IsVerdict trace verdict)
      (ended : AuditEnd) (written : Result ⊤ WriteEnd) (so : ended ≡ ended_by (end_by verdict) written) where
    pub trace-answered : OnOk written (Writes sink before after (verdict_text trace.catalog verdict))
        → GivesUp (end_status ended) ⊎ ((text : List ℕ) × IsAuditAnswer input (end_status ended) text × Writes sink before after text)
    trace-answered done = written-is input (end_by verdict) ended written (verdict_text trace.catalog verdict) so (answer-of-verdict input trace verdict short is found) done

    pub trace-fault : IfErr written (λ e. IsWriteFault e → HasFailed sink before after) → ended ≡ end.WriteFault → HasFailed sink before after
    trace-fault fault fails = written-fault (end_by verdict) ended written so (verdict-written verdict) fault fails

    trace-or : OnOk written (Writes sink before after (verdict_text trace.catalog verdict)) → OnErr written (WritesPrefix sink before after (verdict_text trace.catalog verdict))
        → IfErr written (λ e. IsWriteFault e → verdict_text trace.catalog verdict ≢ [])
        → GivesUpOr sink (end_status ended) (end_status (end_by verdict)) (verdict_text trace.catalog verdict) before after
    trace-or done part some = written-or (end_by verdict) ended written (verdict_text trace.catalog verdict) so (verdict-written verdict) done part some

    pub trace-exact : ((other : Trace) → IsTrace input other → trace ≡ other) → ((other : Verdict) → IsVerdict trace other → verdict ≡ other)
        → ((number : ℕ) (cause : LineCause) → IsNoTrace input number cause → ⊥)
        → OnOk written (Writes sink before after (verdict_text trace.catalog verdict)) → OnErr written (WritesPrefix sink before after (verdict_text trace.catalog verdict))
        → IfErr written (λ e. IsWriteFault e → verdict_text trace.catalog verdict ≢ [])
        → (answer : Status) (output : List ℕ) → IsAuditAnswer input answer output → GivesUpOr sink (end_status ended) answer output before after
    trace-exact one_trace one_verdict no_fault done part some answer output answers = go (kind input answer output answers)
      where
        go : Kind input answer output → GivesUpOr sink (end_status ended) answer output before after
        go (refused few same number cause none text) = absurd (no_fault number cause none)
        go (long over same) = absurd (omega (arith, over, short))
        go (judged other) =
            let same = one_trace other.trace other.is in
            let agree : verdict ≡ other.verdict = one_verdict other.verdict (subst (λ (t : Trace). IsVerdict t other.verdict) (sym same) other.found) in
            let text : verdict_text trace.catalog verdict ≡ output = (λ i. verdict_text (same i).catalog (agree i)) ∙ sym other.text in
            let ends : end_status (end_by verdict) ≡ answer = ap (λ (v : Verdict). end_status (end_by v)) agree ∙ sym other.ends in
            subst (λ (t : List ℕ). GivesUpOr sink (end_status ended) answer t before after) text
            (subst (λ (a : Status). GivesUpOr sink (end_status ended) a (verdict_text trace.catalog verdict) before after) ends (trace-or done part some))

  -- ---- the answer to another text

  module _ (input : List ℕ) (number : ℕ) (cause : LineCause) (short : length input ≤ MAX_INPUT) (none : IsNoTrace input number cause)
      (ended : AuditEnd) (written : Result ⊤ WriteEnd) (so : ended ≡ ended_by end.Malformed written) where
    pub refusal-answered : OnOk written (Writes sink before after (fault_text number cause))
        → GivesUp (end_status ended) ⊎ ((text : List ℕ) × IsAuditAnswer input (end_status ended) text × Writes sink before after text)
    refusal-answered done = written-is input end.Malformed ended written (fault_text number cause) so (short, number, cause, none, refl) done

    pub refusal-fault : IfErr written (λ e. IsWriteFault e → HasFailed sink before after) → ended ≡ end.WriteFault → HasFailed sink before after
    refusal-fault fault fails = written-fault end.Malformed ended written so refusal-written fault fails

    pub refusal-exact : ((other : Trace) → IsTrace input other → ⊥)
        → ((n : ℕ) (reported : LineCause) → IsNoTrace input n reported → (number ≡ n) × (cause ≡ reported))
        → OnOk written (Writes sink before after (fault_text number cause)) → OnErr written (WritesPrefix sink before after (fault_text number cause))
        → IfErr written (λ e. IsWriteFault e → fault_text number cause ≢ [])
        → (answer : Status) (output : List ℕ) → IsAuditAnswer input answer output → GivesUpOr sink (end_status ended) answer output before after
    refusal-exact no_trace one_fault done part some answer output answers = go (kind input answer output answers)
      where
        go : Kind input answer output → GivesUpOr sink (end_status ended) answer output before after
        go (refused few is n reported at text) =
            let same = one_fault n reported at in
            let all : fault_text number cause ≡ output = (λ i. fault_text (same.0 i) (same.1 i)) ∙ sym text in
            subst (λ (t : List ℕ). GivesUpOr sink (end_status ended) answer t before after) all
            (subst (λ (a : Status). GivesUpOr sink (end_status ended) a (fault_text number cause) before after) (sym is)
            (written-or end.Malformed ended written (fault_text number cause) so refusal-written done part some))
        go (long over same) = absurd (omega (arith, over, short))
        go (judged other) = absurd (no_trace other.trace other.is)

  -- ---- what is said of each answer

  -- An answer at `Done` is that each report of the trace is fine.
  pub done-fine : (input : List ℕ) (result : Status) → GivesUp result ⊎ ((output : List ℕ) × IsAuditAnswer input result output × Writes sink before after output) → result ≡ status.Done
      → (trace : Trace) × IsTrace input trace × All (IsFine trace.catalog) (reports trace) × Writes sink before after (verdict_text trace.catalog (all_agree (length (reports trace))))
  done-fine input result answered is =
      go (subst (λ (s : Status). GivesUp s ⊎ ((output : List ℕ) × IsAuditAnswer input s output × Writes sink before after output)) is answered)
    where
      by : (trace : Trace) (verdict : Verdict) (output : List ℕ) → IsTrace input trace → IsVerdict trace verdict → status.Done ≡ end_status (end_by verdict)
          → output ≡ verdict_text trace.catalog verdict → Writes sink before after output
          → (t : Trace) × IsTrace input t × All (IsFine t.catalog) (reports t) × Writes sink before after (verdict_text t.catalog (all_agree (length (reports t))))
      by trace (all_agree count) output says found ends text whole =
          (trace, says, found.1, subst (Writes sink before after) (text ∙ ap (λ (n : ℕ). verdict_text trace.catalog (all_agree n)) found.0) whole)
      by trace (at_report number (no_order txn)) output says found ends text whole = absurd (let wrong : ⊥ = cc in wrong)
      by trace (at_report number (no_item item txns)) output says found ends text whole = absurd (let wrong : ⊥ = cc in wrong)
      by trace (at_report number (limit names)) output says found ends text whole = absurd (let wrong : ⊥ = cc in wrong)

      go : GivesUp status.Done ⊎ ((output : List ℕ) × IsAuditAnswer input status.Done output × Writes sink before after output)
          → (t : Trace) × IsTrace input t × All (IsFine t.catalog) (reports t) × Writes sink before after (verdict_text t.catalog (all_agree (length (reports t))))
      go (inl gives_up) = absurd gives_up
      go (inr (output, found, whole)) = by found.trace found.verdict output found.is found.found found.ends found.text whole

  -- All that is said of an answer.
  pub answers-all : TracesAreAnswered → (input : List ℕ) (result : Status)
      → GivesUp result ⊎ ((output : List ℕ) × IsAuditAnswer input result output × Writes sink before after output)
      → ((answer : Status) (output : List ℕ) → IsAuditAnswer input answer output → GivesUpOr sink result answer output before after) → AnswersAudit sink before after result input
  answers-all pass input result answered exact = record {
    done = λ is. done-fine input result answered is;
    fine = λ short trace is fine. exact status.Done (verdict_text trace.catalog (all_agree (length (reports trace))))
        (answer-of-verdict input trace (all_agree (length (reports trace))) short is (refl, fine));
    traced = λ schedule traced short. written schedule traced short answered;
    answered = answered;
    exact = exact;
  }
    where
      written : (schedule : List ℕ) → IsRunAnswer form.Trace schedule status.Done input → length input ≤ MAX_INPUT
          → GivesUp result ⊎ ((output : List ℕ) × IsAuditAnswer input result output × Writes sink before after output)
          → GivesUp result ⊎ ((result ≡ status.Done) ⊎ (result ≡ status.Limit))
      written schedule traced short (inl gives) = inl gives
      written schedule traced short (inr (output, found, whole)) = inr (pass schedule input output result traced short found)

-- Where the input wasn't read, nothing is written.
module _ {W : Type 0} (sink : Ghosts W) (pass : TracesAreAnswered) (same : W) (input : List ℕ) where
  gives-up : (result : Status) → GivesUp result → (result ≡ status.WriteFault → ⊥) → AnswersAudit sink same same result input
  gives-up result gives unfailed =
      answers-all sink same same pass input result (inl gives) (λ answer output is. (inl gives, (0, Appends-nil (sink.held same)), λ fault. absurd (unfailed fault)))

  too-long : MAX_INPUT < length input → AnswersAudit sink same same status.TooLong input
  too-long over =
      answers-all sink same same pass input status.TooLong (inr ([], (over, refl), Appends-nil (sink.held same))) (λ answer output is. go answer output (kind input answer output is))
    where
      go : (answer : Status) (output : List ℕ) → Kind input answer output → GivesUpOr sink status.TooLong answer output same same
      go answer output (refused short is number cause none text) = absurd (omega (arith, short, over))
      go answer output (long more is) = (inr (sym is), (0, Appends-nil (sink.held same)), λ fault. absurd (let wrong : ⊥ = cc in wrong))
      go answer output (judged other) = absurd (omega (arith, other.short, over))

  pub unread : (reason : ReadEnd) → (reason ≡ why.TooLong → MAX_INPUT < length input) → AnswersAudit sink same same (unread_status reason) input
  unread why.Failed over = gives-up status.ReadFault tt (λ is. let wrong : ⊥ = cc in wrong)
  unread why.TooLong over = too-long (over refl)
  unread why.NoMemory over = gives-up status.NoMemory tt (λ is. let wrong : ⊥ = cc in wrong)
