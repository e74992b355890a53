-- What the sink holds is the answer.
use Rattle.std.proofs.Common.{ap, ◌∙◌}
use Rattle.pv_io.specs.Memory.{SinkState}
use Rattle.pv_run.specs.InputAnswers.{exit_code}
use Rattle.pv_embed_world.specs.declared.ran.Ran.{Ran}
use Rattle.pv_embed_world.proofs.AnswerLemmas.{ran-answers, too-long-answers}
use Rattle.pv_embed_world.proofs.ran.answer.Goals as goal

pub returns-then-input-gt-MAX_INPUT : goal.returns-then-input-gt-MAX_INPUT
returns-then-input-gt-MAX_INPUT c =
    too-long-answers c.args.input.now (record { status = c.from.result; text = c.new.result }) (c.from.ensures ∙ c.code.ensures) c.if-input-gt-MAX_INPUT.true c.new.ensures.items

pub returns : goal.returns
returns c =
    let ran : Ran = record { status = c.from-in_default.result; text = c.in_ok-text-in_default.text } in
    ran-answers c.args.input.now ran c.run_text.result c.new-sink.result.held c.run_text.new.sink.held (c.from-in_default.ensures ∙ c.code-in_default.ensures ∙ ap exit_code c.status.ensures)
    (ap (λ (sink : SinkState). sink.held) c.new-sink.ensures) (c.in_ok-text-in_default.ensures.items ∙ c.bytes.ensures) c.run_text.ensures.answers.answered
    c.in_default.not-WriteFault c.in_default.not-NoMemory
