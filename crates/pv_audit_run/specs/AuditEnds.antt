-- How `audit` ends: what was read, what was written, and when each status comes.
use Rattle.std.specs.Bool.{⊤}
use Rattle.std.specs.Prelude.{◌≡◌, ◌≢◌, ◌⊎◌, ℕ, ◌<◌, ◌≤◌, List, [], All, length, Some, Result, Ok, Err}
use Rattle.pv_audit.specs.Findings.{IsFine, IsVerdict, Verdict, all_agree, at_report, no_order, no_item, limit}
use Rattle.pv_audit.specs.Reports.{reports}
use Rattle.pv_audit.specs.Traces.{IsTrace, Trace}
use Rattle.pv_audit.specs.Views.{IsNoTraceAt}
use Rattle.pv_audit_run.specs.VerdictText.{verdict_text}
use Rattle.pv_audit_run.specs.declared.audit_end.AuditEnd.{AuditEnd}
use Rattle.pv_audit_run.specs.declared.audit_end.AuditEnd.TheVariants as end
use Rattle.pv_base.specs.Fault.{Rose}
use Rattle.pv_base.specs.declared.limits.TheConstants.{MAX_INPUT}
use Rattle.pv_io.specs.SinkEffects.{HasFailed, Writes, WritesNothing}
use Rattle.pv_io.specs.Stream.{TakesAtMost}
use Rattle.pv_io.specs.declared.read_end.ReadEnd.{ReadEnd}
use Rattle.pv_io.specs.declared.read_end.ReadEnd.TheVariants as why
use Rattle.pv_io.specs.declared.sink.Sink as sinks
use Rattle.pv_io.specs.declared.source.Source as sources
use Rattle.pv_model.specs.LineCauses.{LineCause}
use Rattle.pv_run.specs.Ends.{WasRead}
use Rattle.pv_run.specs.InputAnswers.{GivesUp, GivesUpOr, IsRunAnswer, fault_text}
use Rattle.pv_run.specs.Statuses.{unread_status}
use Rattle.pv_run.specs.declared.form.Form.TheVariants as form
use Rattle.pv_run.specs.declared.status.Status.{Status}
use Rattle.pv_run.specs.declared.status.Status.TheVariants.{Done, Malformed, WriteFault, TooLong, NoMemory, Refuted, Limit}
use Rattle.pv_run.specs.declared.write_end.WriteEnd.{WriteEnd}
use Rattle.pv_run.specs.declared.write_end.WriteEnd.TheVariants as unwritten

-- the status of a text's audit
abbrev pub end_status : AuditEnd → Status
end_status end.Done = Done
end_status end.Refuted = Refuted
end_status end.Limit = Limit
end_status end.Malformed = Malformed
end_status end.WriteFault = WriteFault
end_status end.NoMemory = NoMemory

-- the status of `audit`
abbrev pub audit_status : Result AuditEnd ReadEnd → Status
audit_status (Ok ended) = end_status ended
audit_status (Err reason) = unread_status reason

-- how the audit ends whose verdict was written whole
abbrev pub end_by : Verdict → AuditEnd
end_by (all_agree count) = end.Done
end_by (at_report number (no_order txn)) = end.Refuted
end_by (at_report number (no_item item txns)) = end.Refuted
end_by (at_report number (limit names)) = end.Limit

-- and how one ends whose answer was written so, where it ends in this way with all of it written
abbrev pub ended_by : AuditEnd → Result ⊤ WriteEnd → AuditEnd
ended_by whole (Ok all) = whole
ended_by whole (Err unwritten.WriteFault) = end.WriteFault
ended_by whole (Err unwritten.NoMemory) = end.NoMemory

-- The input is a trace, and this is what is found of it, with its status and its text.
pub record IsJudged (input : List ℕ) (status : Status) (output : List ℕ) : Type 0 where
  pub short : length input ≤ MAX_INPUT
  pub trace : Trace
  pub is : IsTrace input trace
  pub verdict : Verdict
  pub found : IsVerdict trace verdict
  pub ends : status ≡ end_status (end_by verdict)
  pub text : output ≡ verdict_text trace.catalog verdict

-- What has to be answered to an input, and the status with it: what is found of the trace that it is, or its first line at fault and why. To one that is longer
-- than it may be it is nothing at all.
abbrev pub IsAuditAnswer : List ℕ → Status → List ℕ → Type 0
IsAuditAnswer input Malformed output = (length input ≤ MAX_INPUT) × (number : ℕ) × (cause : LineCause) × IsNoTraceAt input (record { number = number; cause = cause }) × (output ≡ fault_text number cause)
IsAuditAnswer input TooLong output = (MAX_INPUT < length input) × (output ≡ [])
IsAuditAnswer input status output = IsJudged input status output

module _ {W : Type 0} (sink : sinks.Ghosts W) (before after : W) (status : Status) where
  -- What is answered to this input.
  pub record AnswersAudit (input : List ℕ) : Type 0 where
    -- The theorem on agreement. It is done only where the input is a trace each of whose reports has its transactions in place, stays within the limits, and agrees; and
    -- that all do was written, with their number.
    pub done : status ≡ Done → (trace : Trace) × IsTrace input trace × All (IsFine trace.catalog) (reports trace)
        × Writes sink before after (verdict_text trace.catalog (all_agree (length (reports trace))))
    -- Where the input is such a trace, that is its answer: it gave up, or is done.
    pub fine : length input ≤ MAX_INPUT → (trace : Trace) → IsTrace input trace → All (IsFine trace.catalog) (reports trace)
        → GivesUpOr sink status Done (verdict_text trace.catalog (all_agree (length (reports trace)))) before after
    -- Where the input is the trace of a schedule's run, which `trace` wrote to its end, and no longer than an input may be, it gave up, or found that all agree,
    -- or that a limit is passed: it says neither that a report doesn't agree nor that the input is no trace.
    pub traced : (schedule : List ℕ) → IsRunAnswer form.Trace schedule Done input → length input ≤ MAX_INPUT → GivesUp status ⊎ ((status ≡ Done) ⊎ (status ≡ Limit))
    -- It gave up, or wrote an answer to the input, whose status this is.
    pub answered : GivesUp status ⊎ ((output : List ℕ) × IsAuditAnswer input status output × Writes sink before after output)
    -- Whatever the answer to the input is, it gave up or ended with the status of that, and wrote a beginning of it. Where that is empty, no write has failed.
    pub exact : (answer : Status) (output : List ℕ) → IsAuditAnswer input answer output → GivesUpOr sink status answer output before after

module _ {R W : Type 0} (source : sources.Ghosts R) (sink : sinks.Ghosts W) (unread left : R) (before after : W) (ended : Result AuditEnd ReadEnd) where
  pub record EndsAudit : Type 0 where
    -- Where the source tells its bytes, what is answered to them.
    pub answers : (input : List ℕ) → source.left unread ≡ Some input → AnswersAudit sink before after (audit_status ended) input
    -- Where the input was read, all that was read of it is answered so, whether or not the source tells its bytes.
    pub given : (e : AuditEnd) → ended ≡ Ok e → (input : List ℕ) × WasRead source unread left input × AnswersAudit sink before after (audit_status ended) input
    -- Where it is done, the whole input was read.
    pub read : ended ≡ Ok end.Done → (input : List ℕ) → source.left unread ≡ Some input → source.left left ≡ Some []
    -- It gives up for the input only where a fault of it was counted, before more than the limit had come, and then nothing was written.
    pub read_fault : ended ≡ Err why.Failed →
        Rose (source.faults unread) (source.faults left) × TakesAtMost (source.left unread) (source.left left) MAX_INPUT × WritesNothing sink before after
    -- And for the output only where a fault of that was counted.
    pub write_fault : ended ≡ Ok end.WriteFault → HasFailed sink before after
    -- Of an input that is too long nothing was written.
    pub too_long : ended ≡ Err why.TooLong → WritesNothing sink before after
    -- And none was where there was no memory for it.
    pub no_memory : ended ≡ Err why.NoMemory → WritesNothing sink before after
    -- The source's count of faults stays, unless it gives up for the input.
    pub unfailed : ended ≢ Err why.Failed → source.faults left ≡ source.faults unread
