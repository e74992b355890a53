-- What was written is the answer to the text, and every run keeps the promises.
use Rattle.pv_run.proofs.AnswerLemmas.{answer_of_run, output_at_done, output_at_limit, schedule_at_done, status_of_answer, text-done, text-write-fault}
use Rattle.pv_run.proofs.LimitLemmas.{prefix-within}
use Rattle.pv_run.specs.InputAnswers.{written_of, written_within, within_limit}
use Rattle.pv_run.specs.Statuses.{end_within, text_status}
use Rattle.pv_run.proofs.answers.run_text.Goals as goal

pub returns-clause-answers : goal.returns-clause-answers
returns-clause-answers g c =
    let form = c.args.form in
    let input = c.args.input.now in
    let old = g.W.Sink.held c.args.sink.now in
    let new = g.W.Sink.held c.answer.new.sink in
    let status = text_status c.answer.result in
    record {
      promises = λ schedule says. c.promises_are_kept.ensures input schedule says;
      done = λ done. schedule_at_done (written_of form input) (written_within form input) input status old new done c.answer.ensures.answered;
      prefix = λ schedule says. prefix-within form input schedule old new
          (c.answer.ensures.prefix (text_status (end_within (within_limit schedule).over)) (written_within form input schedule) (answer_of_run form input schedule c.requires says));
      whole = λ schedule says. output_at_done (written_of form input) (written_within form input) input status old new schedule c.answer.ensures.answered says;
      limit = λ schedule says. output_at_limit (written_of form input) (written_within form input) input status old new schedule c.answer.ensures.answered says;
      answered = c.answer.ensures.answered;
      exact = λ answer output is. (
        status_of_answer (written_of form input) (written_within form input) input status answer old new output c.answer.ensures.answered is,
        c.answer.ensures.prefix answer output is,
        λ fault. c.answer.ensures.some answer output is (text-write-fault c.answer.result fault),
      );
      kept = λ done. c.answer.ensures.kept (text-done c.answer.result done);
    }
