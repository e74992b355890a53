-- What was read is what the source had left. Where it wasn't read to its end, nothing is shown.
use Rattle.std.proofs.Common.{◌≡◌, rules, ℕ, List, length, Ok, Err, refl, ap, sym, ◌∙◌, subst, arith}
use Rattle.std.proofs.lemmas.Result.{IfErr-at_err, IfOk-at_ok}
use Rattle.pv_model.specs.Schedule.{IsLiveScript, IsMalformedLiveScript}
use Rattle.pv_show.specs.Bays.{none}
use Rattle.pv_app.proofs.TourLemmas.{unread}
use Rattle.pv_app.specs.TourEnds.{AnswersTour}
use Rattle.pv_app.proofs.touring.read_and_tour.Goals as goal

pub returns-in-Ok-clause-ends : goal.returns-in-Ok-clause-ends
returns-in-Ok-clause-ends g c =
    let ended = c.tour_text.result in
    let shows : (input : List ℕ) → c.deref.result.now ≡ input
    → AnswersTour g.W.Sink g.B.Bay.model g.B.D.Disk.model c.args.tour c.args.sink.now c.tour_text.new.sink c.args.bay.now c.tour_text.new.bay (Ok ended) input =
    λ input same. record {
      told = λ short script says. c.tour_text.ensures.told script (subst (λ (text : List ℕ). IsLiveScript text script) (sym same) says);
      refused = λ short number cause is.
          let refused = c.tour_text.ensures.refused number cause (subst (λ (text : List ℕ). IsMalformedLiveScript text number cause) (sym same) is) in
          (refused.0, refused.1, λ malformed. refused.2 (IfOk-at_ok (λ e. ended ≡ e) malformed refl));
      long = λ long. absurd (omega (arith, ap length same, long, c.deref.ensures.len, c.in-Ok.ensures.within));
      done = λ done.
          let script = c.tour_text.ensures.done (IfOk-at_ok (λ e. ended ≡ e) done refl) in
          (script.0, subst (λ (text : List ℕ). IsLiveScript text script.0) same script.1);
      malformed = λ is.
          let first = c.tour_text.ensures.malformed (IfOk-at_ok (λ e. ended ≡ e) is refl) in
          (first.0, first.1, subst (λ (text : List ℕ). IsMalformedLiveScript text first.0 first.1) same first.2);
      only_declared = λ script says. c.tour_text.ensures.only_declared script (subst (λ (text : List ℕ). IsLiveScript text script) (sym same) says);
    } in
    record {
      answers = λ input left. shows input (c.deref.ensures.value ∙ (c.in-Ok.ensures.whole input left).0);
      given = λ end is. (
        c.in-Ok.input.items,
        record {
          whole = λ text left. (c.in-Ok.ensures.whole text left).0;
          given = c.in-Ok.ensures.given;
          told = c.in-Ok.ensures.kept (λ no_memory. let wrong : ⊥ = cc in wrong);
        },
        shows c.in-Ok.input.items c.deref.ensures.value,
      );
      read = λ done input left. (c.in-Ok.ensures.whole input left).1;
      uses = c.tour_text.ensures.uses;
      alone = (tt, λ is. c.tour_text.ensures.alone (IfOk-at_ok (λ e. ended ≡ e) is refl));
      bay_fault = λ is. c.tour_text.ensures.bay_fault (IfOk-at_ok (λ e. ended ≡ e) is refl);
      read_fault = λ is. absurd (let wrong : ⊥ = cc in wrong);
      write_fault = λ is. c.tour_text.ensures.write_fault (IfOk-at_ok (λ e. ended ≡ e) is refl);
      too_long = λ is. absurd (let wrong : ⊥ = cc in wrong);
      unfailed = λ other. c.in-Ok.ensures.uncounted (λ failed. let wrong : ⊥ = cc in wrong);
    }

pub returns-in-Err-clause-ends : goal.returns-in-Err-clause-ends
returns-in-Err-clause-ends g c =
    let end = c.in-Err.why in
    record {
      answers = λ input left.
          unread g.W.Sink g.B.Bay.model g.B.D.Disk.model c.args.tour c.args.sink.now c.args.bay.now input end
          (λ is. c.in-Err.ensures.too_long (ap Err is) input left);
      given = λ other is. absurd (let wrong : ⊥ = cc in wrong);
      read = λ done. absurd (let wrong : ⊥ = cc in wrong);
      uses = none;
      alone = (refl, λ is. refl);
      bay_fault = λ is. absurd (let wrong : ⊥ = cc in wrong);
      read_fault = λ is.
          let failed = IfErr-at_err (λ e. end ≡ e) is refl in
          (c.in-Err.ensures.fault (ap Err failed), c.in-Err.ensures.failed_within (ap Err failed), search rules);
      write_fault = λ is. absurd (let wrong : ⊥ = cc in wrong);
      too_long = λ is. search rules;
      unfailed = λ other. c.in-Err.ensures.uncounted (λ failed. other (ap Err (IfErr-at_err (λ e. end ≡ e) failed refl)));
    }
