-- What was read is what the source had left, and what was written is the answer to it.
use Rattle.std.proofs.Common.{◌≡◌, rules, List, ℕ, length, Ok, Err, refl, ap, ◌∙◌, subst, arith}
use Rattle.std.proofs.lemmas.Result.{IfErr-at_err, IfOk-at_ok}
use Rattle.pv_run.specs.Ends.{AnswersRun}
use Rattle.pv_run.specs.Statuses.{text_status}
use Rattle.pv_run.proofs.EndLemmas.{unread}
use Rattle.pv_run.proofs.commands.read_and_run.Goals as goal

pub returns-in-Ok : goal.returns-in-Ok
returns-in-Ok g c =
    let ended = c.run_text.result in
    record {
      answers = λ input left.
          let whole = c.in-Ok.ensures.whole input left in
          subst (λ (text : List ℕ). AnswersRun g.W.Sink g.B.Bay.model c.args.form c.args.sink.now c.run_text.new.sink c.args.bay.now c.run_text.new.bay (text_status ended) text)
          (c.deref.ensures.value ∙ whole.0) c.run_text.ensures.answers;
      given = λ end is. (
        c.in-Ok.input.items,
        record {
          whole = λ text left. (c.in-Ok.ensures.whole text left).0;
          given = c.in-Ok.ensures.given;
          told = c.in-Ok.ensures.kept (λ no_memory. let wrong : ⊥ = cc in wrong);
        },
        subst (λ (text : List ℕ). AnswersRun g.W.Sink g.B.Bay.model c.args.form c.args.sink.now c.run_text.new.sink c.args.bay.now c.run_text.new.bay (text_status ended) text)
            c.deref.ensures.value c.run_text.ensures.answers,
      );
      read = λ done input left. (c.in-Ok.ensures.whole input left).1;
      read_fault = λ is. absurd (let wrong : ⊥ = cc in wrong);
      write_fault = λ is. (
        c.run_text.ensures.write_fault (IfOk-at_ok (λ e. ended ≡ e) is refl),
        λ input left.
            let whole = c.in-Ok.ensures.whole input left in
            omega (arith, ap length (c.deref.ensures.value ∙ whole.0), c.deref.ensures.len, c.in-Ok.ensures.within),
      );
      too_long = λ is. absurd (let wrong : ⊥ = cc in wrong);
      no_memory = λ is. absurd (let wrong : ⊥ = cc in wrong);
      unfailed = λ other. c.in-Ok.ensures.uncounted (λ failed. let wrong : ⊥ = cc in wrong);
      alone = λ other. c.run_text.ensures.alone (λ done. other (ap Ok done));
    }

-- Where nothing was written, that is a beginning of any output.
pub returns-in-Err : goal.returns-in-Err
returns-in-Err g c =
    let end = c.in-Err.why in
    record {
      answers = λ input left.
          unread g.W.Sink g.B.Bay.model c.args.form c.args.sink.now c.args.bay.now input (c.promises_are_kept.ensures input) end
          (λ is. c.in-Err.ensures.too_long (ap Err is) input left);
      given = λ other is. absurd (let wrong : ⊥ = cc in wrong);
      read = λ done. absurd (let wrong : ⊥ = cc in wrong);
      read_fault = λ is.
          let failed = IfErr-at_err (λ e. end ≡ e) is refl in
          (c.in-Err.ensures.fault (ap Err failed), c.in-Err.ensures.failed_within (ap Err failed), search rules);
      write_fault = λ is. absurd (let wrong : ⊥ = cc in wrong);
      too_long = λ is. search rules;
      no_memory = λ is. search rules;
      unfailed = λ other. c.in-Err.ensures.uncounted (λ failed. other (ap Err (IfErr-at_err (λ e. end ≡ e) failed refl)));
      alone = λ other. refl;
    }
