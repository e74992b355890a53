-- What was read is what the source had left. Where it wasn't read to its end, nothing is run.
use Rattle.std.proofs.Common.{◌≡◌, rules, ℕ, List, Ok, Err, refl, ap, ◌∙◌, subst}
use Rattle.std.proofs.lemmas.Result.{IfErr-at_err, IfOk-at_ok}
use Rattle.pv_live.proofs.EndLemmas.{unread}
use Rattle.pv_live.specs.LiveEnds.{AnswersLive}
use Rattle.pv_live.proofs.living.read_and_live.Goals as goal

pub returns-in-Ok : goal.returns-in-Ok
returns-in-Ok g c =
    let ended = c.live_text.result in
    let answers : (input : List ℕ) → c.deref.result.now ≡ input
    → AnswersLive g.W.Sink g.B.Bay.model g.B.D.Disk.model c.args.sink.now c.live_text.new.sink c.args.bay.now c.live_text.new.bay (Ok ended) input =
    λ input same.
    subst (λ (text : List ℕ). AnswersLive g.W.Sink g.B.Bay.model g.B.D.Disk.model c.args.sink.now c.live_text.new.sink c.args.bay.now c.live_text.new.bay (Ok ended) text) same
    c.live_text.ensures.answers in
    record {
      answers = λ input left. answers input (c.deref.ensures.value ∙ (c.in-Ok.ensures.whole input left).0);
      given = λ end is. (
        c.in-Ok.input.items,
        record {
          whole = λ text left. (c.in-Ok.ensures.whole text left).0;
          given = c.in-Ok.ensures.given;
          told = c.in-Ok.ensures.kept (λ no_memory. let wrong : ⊥ = cc in wrong);
        },
        answers c.in-Ok.input.items c.deref.ensures.value,
      );
      read = λ done input left. (c.in-Ok.ensures.whole input left).1;
      handed_back = λ other rest. c.live_text.ensures.rest (λ is. other (ap Ok is));
      alone = (tt, λ is. c.live_text.ensures.alone (IfOk-at_ok (λ e. ended ≡ e) is refl));
      bay_fault = λ is. c.live_text.ensures.bay_fault (IfOk-at_ok (λ e. ended ≡ e) is refl);
      not_empty = λ is. c.live_text.ensures.not_empty (IfOk-at_ok (λ e. ended ≡ e) is refl);
      read_fault = λ is. absurd (let wrong : ⊥ = cc in wrong);
      write_fault = λ is. c.live_text.ensures.write_fault (IfOk-at_ok (λ e. ended ≡ e) is refl);
      too_long = λ is. absurd (let wrong : ⊥ = cc in wrong);
      unfailed = λ other. c.in-Ok.ensures.uncounted (λ failed. let wrong : ⊥ = cc in wrong);
    }

pub returns-in-Err : goal.returns-in-Err
returns-in-Err g c =
    let end = c.in-Err.why in
    record {
      answers = λ input left.
          unread g.W.Sink g.B.Bay.model g.B.D.Disk.model c.args.sink.now c.args.bay.now input end
          (λ is. c.in-Err.ensures.too_long (ap Err is) input left);
      given = λ other is. absurd (let wrong : ⊥ = cc in wrong);
      read = λ done. absurd (let wrong : ⊥ = cc in wrong);
      handed_back = λ other rest. rest;
      alone = (refl, λ is. refl);
      bay_fault = λ is. absurd (let wrong : ⊥ = cc in wrong);
      not_empty = λ is. absurd (let wrong : ⊥ = cc in wrong);
      read_fault = λ is.
          let failed = IfErr-at_err (λ e. end ≡ e) is refl in
          (c.in-Err.ensures.fault (ap Err failed), c.in-Err.ensures.failed_within (ap Err failed), search rules);
      write_fault = λ is. absurd (let wrong : ⊥ = cc in wrong);
      too_long = λ is. search rules;
      unfailed = λ other. c.in-Err.ensures.uncounted (λ failed. other (ap Err (IfErr-at_err (λ e. end ≡ e) failed refl)));
    }
