-- The text is one script, or is refused at one line for one cause.
use Rattle.std.proofs.Common.{◌≡◌, ◌≢◌, List, ℕ, [], inr, inl, IfSome, IfErr, OnErr, OnOk, length, map, refl, sym, ap, ◌∙◌, subst, eqb-true}
use Rattle.std.proofs.lemmas.Bool.{eqb-false}
use Rattle.std.proofs.lemmas.List.{length-map, nil_from_length}
use Rattle.pv_io.specs.SinkEffects.{HasFailed, Writes, WritesPrefix}
use Rattle.pv_model.specs.LineCauses.{client_expected}
use Rattle.pv_model.specs.Schedule.{IsMalformedLiveScript}
use Rattle.pv_run.specs.InputAnswers.{fault_text}
use Rattle.pv_run.specs.WriteEndView.{IsWriteFault}
use Rattle.pv_script.specs.LiveView.{client_of, live_script_of}
use Rattle.pv_script.specs.ScriptErrors.{IsMalformedLiveAt, line_cause_of, refused_line}
use Rattle.pv_script.specs.declared.live.Client.{Client}
use Rattle.pv_script.specs.declared.schedule.ScriptError.{ScriptError}
use Rattle.pv_live.proofs.EndLemmas.{answers-nothing, answers-refused, answers-run, refused-fault, refused-other}
use Rattle.pv_live.specs.Inputs.{IsRefusedText, IsScriptOfClients}
use Rattle.pv_live.specs.LiveEnds.{RunsSites}
use Rattle.pv_live.specs.declared.live_end.LiveEnd.TheVariants.{BayFault, NotEmpty}
use Rattle.pv_live.proofs.living.live_text.Goals as goal

-- ---- a script without a client
pub returns-then-is_empty-clause-answers : goal.returns-then-is_empty-clause-answers
returns-then-is_empty-clause-answers g c =
    let clients = c.in-Ok.script.clients in
    let none : clients.items ≡ [] = nil_from_length clients.items (sym clients.ok.0 ∙ eqb-true clients.len 0 (sym c.is_empty.ensures ∙ c.if-is_empty.true)) in
    let lacks : IsRefusedText c.args.input.now c.line_after-line.result client_expected =
    inr (record {
      script = live_script_of c.in-Ok.script;
      is = c.in-Ok.ensures.answer.given;
      none = ap (λ (them : List Client). map client_of them) none;
      place = c.line_after-line.ensures;
      cause_is = refl;
    }) in
    answers-refused g.W.Sink g.B.Bay.model g.B.D.Disk.model c.args.sink.now c.refuse.new.sink c.args.input.now c.requires.short c.args.bay.now c.line_after-line.result client_expected
    c.refuse.result c.end_of_refusal.result lacks c.end_of_refusal.ensures c.refuse.ensures.written c.refuse.ensures.prefix c.refuse.ensures.some

pub returns-then-is_empty-clause-bay_fault : goal.returns-then-is_empty-clause-bay_fault
returns-then-is_empty-clause-bay_fault g c = λ is. absurd (refused-other c.refuse.result c.end_of_refusal.result BayFault c.end_of_refusal.ensures is tt)

pub returns-then-is_empty-clause-not_empty : goal.returns-then-is_empty-clause-not_empty
returns-then-is_empty-clause-not_empty g c = λ is. absurd (refused-other c.refuse.result c.end_of_refusal.result NotEmpty c.end_of_refusal.ensures is tt)

pub returns-then-is_empty-clause-write_fault : goal.returns-then-is_empty-clause-write_fault
returns-then-is_empty-clause-write_fault g c =
    refused-fault c.refuse.result c.end_of_refusal.result (HasFailed g.W.Sink c.args.sink.now c.refuse.new.sink) c.end_of_refusal.ensures c.refuse.ensures.fault

-- ---- a script with clients
pub live_script-requires-clause-script : goal.live_script-requires-clause-script
live_script-requires-clause-script g c κs lives = ((c.args.input.now, c.in-Ok.ensures.answer.given), c.in-Ok.ensures.plans)

pub returns-else-is_empty-clause-answers : goal.returns-else-is_empty-clause-answers
returns-else-is_empty-clause-answers g c =
    let clients = c.in-Ok.script.clients in
    let says : IsScriptOfClients c.args.input.now (live_script_of c.in-Ok.script) = (
      c.in-Ok.ensures.answer.given,
      λ is. eqb-false clients.len 0 (sym c.is_empty.ensures ∙ c.if-is_empty.false) (clients.ok.0 ∙ sym (length-map clients.items client_of) ∙ ap length is),
    ) in
    answers-run g.W.Sink g.B.Bay.model g.B.D.Disk.model c.args.sink.now c.live_script.new.sink c.args.input.now c.requires.short c.args.bay.now c.live_script.new.bay
    (live_script_of c.in-Ok.script) c.live_script.result says c.live_script.ensures.run

pub returns-else-is_empty-clause-alone : goal.returns-else-is_empty-clause-alone
returns-else-is_empty-clause-alone g c = λ is.
    absurd (subst (RunsSites g.B.Bay.model g.B.D.Disk.model g.W.Sink (live_script_of c.in-Ok.script) c.args.bay.now c.live_script.new.bay c.args.sink.now c.live_script.new.sink) is
    c.live_script.ensures.run)

pub returns-else-is_empty-clause-bay_fault : goal.returns-else-is_empty-clause-bay_fault
returns-else-is_empty-clause-bay_fault g c = λ is.
    let both =
    subst (RunsSites g.B.Bay.model g.B.D.Disk.model g.W.Sink (live_script_of c.in-Ok.script) c.args.bay.now c.live_script.new.bay c.args.sink.now c.live_script.new.sink) is
    c.live_script.ensures.run in
    (c.in-Ok.script.catalog, both.0, both.1)

pub returns-else-is_empty-clause-not_empty : goal.returns-else-is_empty-clause-not_empty
returns-else-is_empty-clause-not_empty g c = λ is.
    let both =
    subst (RunsSites g.B.Bay.model g.B.D.Disk.model g.W.Sink (live_script_of c.in-Ok.script) c.args.bay.now c.live_script.new.bay c.args.sink.now c.live_script.new.sink) is
    c.live_script.ensures.run in
    (c.in-Ok.script.catalog, both.0, both.1)

-- ---- a malformed text
pub returns-in-Err-Malformed-clause-answers : goal.returns-in-Err-Malformed-clause-answers
returns-in-Err-Malformed-clause-answers g c =
    let line = c.in-Err-Malformed.line in
    let cause = c.in-Err-Malformed.cause in
    let old = c.args.sink.now in
    let new = c.refuse-in-Err-Malformed.new.sink in
    let refused : IsMalformedLiveScript c.args.input.now line (line_cause_of cause) =
    subst (λ (e : ScriptError). IfSome (refused_line e) (IsMalformedLiveAt c.args.input.now)) c.in-Err-Malformed.field-0-is c.in-Err-Malformed.ensures.answer.refused in
    let text : fault_text _ (line_cause_of _) ≡ fault_text line (line_cause_of cause) =
    λ i. fault_text (c.in-Err-Malformed.line-is i) (line_cause_of (c.in-Err-Malformed.cause-is i)) in
    answers-refused g.W.Sink g.B.Bay.model g.B.D.Disk.model old new c.args.input.now c.requires.short c.args.bay.now line (line_cause_of cause)
    c.refuse-in-Err-Malformed.result c.end_of_refusal-in-Err-Malformed.result (inl refused) c.end_of_refusal-in-Err-Malformed.ensures
    (subst (λ (t : List ℕ). OnOk c.refuse-in-Err-Malformed.result (Writes g.W.Sink old new t)) text c.refuse-in-Err-Malformed.ensures.written)
    (subst (λ (t : List ℕ). OnErr c.refuse-in-Err-Malformed.result (WritesPrefix g.W.Sink old new t)) text c.refuse-in-Err-Malformed.ensures.prefix)
    (subst (λ (t : List ℕ). IfErr c.refuse-in-Err-Malformed.result (λ e. IsWriteFault e → t ≢ [])) text c.refuse-in-Err-Malformed.ensures.some)

pub returns-in-Err-Malformed-clause-bay_fault : goal.returns-in-Err-Malformed-clause-bay_fault
returns-in-Err-Malformed-clause-bay_fault g c = λ is. absurd (refused-other c.refuse-in-Err-Malformed.result c.end_of_refusal-in-Err-Malformed.result BayFault c.end_of_refusal-in-Err-Malformed.ensures is tt)

pub returns-in-Err-Malformed-clause-not_empty : goal.returns-in-Err-Malformed-clause-not_empty
returns-in-Err-Malformed-clause-not_empty g c = λ is. absurd (refused-other c.refuse-in-Err-Malformed.result c.end_of_refusal-in-Err-Malformed.result NotEmpty c.end_of_refusal-in-Err-Malformed.ensures is tt)

pub returns-in-Err-Malformed-clause-write_fault : goal.returns-in-Err-Malformed-clause-write_fault
returns-in-Err-Malformed-clause-write_fault g c =
    refused-fault c.refuse-in-Err-Malformed.result c.end_of_refusal-in-Err-Malformed.result (HasFailed g.W.Sink c.args.sink.now c.refuse-in-Err-Malformed.new.sink) c.end_of_refusal-in-Err-Malformed.ensures c.refuse-in-Err-Malformed.ensures.fault

-- ---- no memory
pub returns-in-Err-NoMemory-clause-answers : goal.returns-in-Err-NoMemory-clause-answers
returns-in-Err-NoMemory-clause-answers g c = answers-nothing g.W.Sink g.B.Bay.model g.B.D.Disk.model c.args.sink.now c.args.bay.now c.args.input.now c.requires.short
