-- The text that was made has one answer.
use Rattle.std.proofs.Common.{◌≡◌, List, ℕ, [], refl, sym, ◌∙◌, subst}
use Rattle.std.proofs.lemmas.Result.{IfOk-at_ok}
use Rattle.pv_script.specs.Generated.{made_text}
use Rattle.pv_run.specs.InputAnswers.{Answers, IsSummaryAnswer}
use Rattle.pv_run.specs.Statuses.{text_status}
use Rattle.pv_run.specs.Summary.{summary_of}
use Rattle.pv_run.proofs.AnswerLemmas.{status_of_answer, text-write-fault}
use Rattle.pv_run.proofs.answers.write_summary_of_number.Goals as goal

pub returns : goal.returns
returns g c =
    let text : c.deref.result.now ≡ made_text c.args.number = c.deref.ensures.value ∙ c.in-Ok.ensures in
    let old = g.W.Sink.held c.args.sink.now in
    let new = g.W.Sink.held c.write_summary_of_text.new.sink in
    let ended = c.write_summary_of_text.result in
    record {
      answered = subst (λ (made : List ℕ). Answers g.W.Sink summary_of (λ schedule. []) made (text_status ended) c.args.sink.now c.write_summary_of_text.new.sink) text
          c.write_summary_of_text.ensures.answered;
      exact = λ answer output is.
          let same = subst (λ (made : List ℕ). IsSummaryAnswer made answer output) (sym text) is in (
            status_of_answer summary_of (λ schedule. []) c.deref.result.now (text_status ended) answer old new output c.write_summary_of_text.ensures.answered same,
            c.write_summary_of_text.ensures.prefix answer output same,
            λ fault. c.write_summary_of_text.ensures.some answer output same (text-write-fault ended fault),
          );
      write_fault = λ is. c.write_summary_of_text.ensures.write_fault (IfOk-at_ok (λ e. ended ≡ e) is refl);
      too_long = tt;
    }
