-- What was read is what the source had left. Where it wasn't read to its end, nothing is audited.
use Rattle.std.proofs.Common.{◌≡◌, rules, ℕ, List, Err, refl, ap, ◌∙◌, subst}
use Rattle.std.proofs.lemmas.Result.{IfErr-at_err, IfOk-at_ok}
use Rattle.pv_audit_run.proofs.AnswerLemmas.{answers-all, unread}
use Rattle.pv_audit_run.specs.AuditEnds.{AnswersAudit, end_status}
use Rattle.pv_audit_run.proofs.auditing.read_and_audit.Goals as goal

pub returns-in-Ok : goal.returns-in-Ok
returns-in-Ok g c =
    let ended = c.audit_text.result in
    let answers : (input : List ℕ) → c.deref.result.now ≡ input → AnswersAudit g.W.Sink c.args.sink.now c.audit_text.new.sink (end_status ended) input =
    λ input same. subst (AnswersAudit g.W.Sink c.args.sink.now c.audit_text.new.sink (end_status ended)) same
    (answers-all g.W.Sink c.args.sink.now c.audit_text.new.sink c.traces_are_answered.ensures c.deref.result.now (end_status ended) c.audit_text.ensures.answered c.audit_text.ensures.exact) in
    record {
      answers = λ input left. answers input (c.deref.ensures.value ∙ (c.in-Ok.ensures.whole input left).0);
      given = λ e is. (
        c.in-Ok.input.items,
        record {
          whole = λ text left. (c.in-Ok.ensures.whole text left).0;
          given = c.in-Ok.ensures.given;
          told = c.in-Ok.ensures.kept (λ no_memory. let wrong : ⊥ = cc in wrong);
        },
        answers c.in-Ok.input.items c.deref.ensures.value,
      );
      read = λ done input left. (c.in-Ok.ensures.whole input left).1;
      read_fault = λ is. absurd (let wrong : ⊥ = cc in wrong);
      write_fault = λ is. c.audit_text.ensures.write_fault (IfOk-at_ok (λ e. ended ≡ e) is refl);
      too_long = λ is. absurd (let wrong : ⊥ = cc in wrong);
      no_memory = λ is. absurd (let wrong : ⊥ = cc in wrong);
      unfailed = λ other. c.in-Ok.ensures.uncounted (λ failed. let wrong : ⊥ = cc in wrong);
    }

pub returns-in-Err : goal.returns-in-Err
returns-in-Err g c =
    let reason = c.in-Err.why in
    record {
      answers = λ input left. unread g.W.Sink c.traces_are_answered.ensures c.args.sink.now input reason (λ is. c.in-Err.ensures.too_long (ap Err is) input left);
      given = λ other is. absurd (let wrong : ⊥ = cc in wrong);
      read = λ done. absurd (let wrong : ⊥ = cc in wrong);
      read_fault = λ is.
          let failed = IfErr-at_err (λ e. reason ≡ e) is refl in
          (c.in-Err.ensures.fault (ap Err failed), c.in-Err.ensures.failed_within (ap Err failed), search rules);
      write_fault = λ is. absurd (let wrong : ⊥ = cc in wrong);
      too_long = λ is. search rules;
      no_memory = λ is. search rules;
      unfailed = λ other. c.in-Err.ensures.uncounted (λ failed. other (ap Err (IfErr-at_err (λ e. reason ≡ e) failed refl)));
    }
