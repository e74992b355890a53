-- The text is one trace, of which one thing is found, or is none at one line for one cause.
use Rattle.std.proofs.Common.{◌≡◌, ◌≢◌, ℕ, List, [], None, IfSome, OnErr, OnOk, sym, ap, ◌∙◌, subst}
use Rattle.std.specs.Io.KnownBytes.{Appends}
use Rattle.std.specs.Prelude.{IfErr}
use Rattle.std.proofs.lemmas.Option.{none-some}
use Rattle.pv_audit.specs.VerdictView.{verdict_of}
use Rattle.pv_audit.specs.Views.{IsNoTraceAt, RefusedEntry, refused_entry, trace_of}
use Rattle.pv_audit.specs.declared.trace.TraceError.{TraceError}
use Rattle.pv_audit_run.proofs.AnswerLemmas.{refusal-exact, trace-answered, trace-exact}
use Rattle.pv_audit_run.specs.AuditEnds.{ended_by}
use Rattle.pv_audit_run.specs.declared.audit_end.AuditEnd.{AuditEnd}
use Rattle.pv_io.specs.Stream.{AppendsPrefix}
use Rattle.pv_run.specs.InputAnswers.{fault_text}
use Rattle.pv_run.specs.WriteEndView.{IsWriteFault}
use Rattle.pv_script.specs.ScriptErrors.{line_cause_of}
use Rattle.pv_audit_run.proofs.auditing.audit_text.Goals as goal

pub returns-in-Ok-audit-clause-answered : goal.returns-in-Ok-audit-clause-answered
returns-in-Ok-audit-clause-answered g c =
    let written = c.write_verdict-written.result in
    let so = c.ended_by.ensures ∙ ap (λ (whole : AuditEnd). ended_by whole written) c.end_by.ensures in
    trace-answered g.W.Sink c.args.sink.now c.write_verdict-written.new.sink c.args.input.now (trace_of c.in-Ok.trace) (verdict_of c.in-Ok-audit.verdict) c.requires c.in-Ok.ensures.given
    c.in-Ok-audit.ensures.verdict c.ended_by.result written so c.write_verdict-written.ensures.written

pub returns-in-Ok-audit-clause-exact : goal.returns-in-Ok-audit-clause-exact
returns-in-Ok-audit-clause-exact g c =
    let written = c.write_verdict-written.result in
    let so = c.ended_by.ensures ∙ ap (λ (whole : AuditEnd). ended_by whole written) c.end_by.ensures in
    let wrote = c.write_verdict-written.ensures in
    trace-exact g.W.Sink c.args.sink.now c.write_verdict-written.new.sink c.args.input.now (trace_of c.in-Ok.trace) (verdict_of c.in-Ok-audit.verdict) c.requires c.in-Ok.ensures.given
    c.in-Ok-audit.ensures.verdict c.ended_by.result written so (λ other says. (c.in-Ok.ensures.gives other says).0) (λ other found. c.in-Ok-audit.ensures.only other found)
    (λ number cause none. (c.in-Ok.ensures.refuses (record { number = number; cause = cause }) none).0) wrote.written wrote.prefix wrote.some

pub returns-in-Err-Malformed-clause-exact : goal.returns-in-Err-Malformed-clause-exact
returns-in-Err-Malformed-clause-exact g c =
    let input = c.args.input.now in
    let line = c.in-Err-Malformed.line in
    let cause = line_cause_of c.in-Err-Malformed.cause in
    let old = g.W.Sink.held c.args.sink.now in
    let new = g.W.Sink.held c.refuse.new.sink in
    let is = c.in-Err-Malformed.field-0-is in
    let refused = subst (λ (e : TraceError). IfSome (refused_entry e) (IsNoTraceAt input)) is c.in-Err-Malformed.ensures.refused in
    let text : fault_text _ (line_cause_of _) ≡ fault_text line cause = λ i. fault_text (c.in-Err-Malformed.line-is i) (line_cause_of (c.in-Err-Malformed.cause-is i)) in
    let wrote = c.refuse.ensures in
    refusal-exact g.W.Sink c.args.sink.now c.refuse.new.sink input line cause c.requires refused c.ended_by-in-Err-Malformed.result c.refuse.result c.ended_by-in-Err-Malformed.ensures
    (λ other says.
    let gone = subst (λ (e : TraceError). refused_entry e ≡ None) is (c.in-Err-Malformed.ensures.gives other says).1 in
    none-some (record { number = line; cause = cause }) (sym gone))
    (λ number reported at.
    let same = subst (λ (e : TraceError). IfSome (refused_entry e) (λ entry. entry ≡ record { number = number; cause = reported })) is
    (c.in-Err-Malformed.ensures.refuses (record { number = number; cause = reported }) at).1 in
    (ap (λ (entry : RefusedEntry). entry.number) same, ap (λ (entry : RefusedEntry). entry.cause) same))
    (subst (λ (t : List ℕ). OnOk c.refuse.result (Appends old new t)) text wrote.written) (subst (λ (t : List ℕ). OnErr c.refuse.result (AppendsPrefix old new t)) text wrote.prefix)
    (subst (λ (t : List ℕ). IfErr c.refuse.result (λ e. IsWriteFault e → t ≢ [])) text wrote.some)
