-- An input has one answer, and the run of a schedule keeps its promises.
use Rattle.pv_run.specs.declared.form.Form.TheVariants.{Text}
use Rattle.pv_embed_world.proofs.AnswerLemmas.{exact-ran}
use Rattle.pv_embed_world.proofs.ran.run.Goals as goal

pub returns-clause-exact : goal.returns-clause-exact
returns-clause-exact c = λ status output is.
    let input = c.args.input.now in
    exact-ran input (c.answers_are_one.ensures Text input) c.answer.result status output c.answer.ensures is

pub returns-clause-promises : goal.returns-clause-promises
returns-clause-promises c = λ schedule says. c.promises_are_kept.ensures c.args.input.now schedule says
