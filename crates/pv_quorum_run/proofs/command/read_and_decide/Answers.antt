-- What was read is answered, and the run of whatever is a script keeps the promises.
use Rattle.std.proofs.Common.{rules, List, ℕ, Ok, Err, refl, subst}
use Rattle.pv_commands.specs.Ends.{Answered}
use Rattle.pv_quorum_run.proofs.FitLemmas.{script-fit}
use Rattle.pv_quorum_run.specs.Ends.{IsAnswer, setup_by}
use Rattle.pv_quorum_run.proofs.command.read_and_decide.Goals as goal

pub returns-in-Ok : goal.returns-in-Ok
returns-in-Ok g c = record {
  promises = λ input script said. c.scripts_keep_promises.ensures (setup_by script) (script-fit input script said) script.events;
  ends = record {
    reading = Ok c.in-Ok.input;
    read = c.in-Ok.ensures;
    ends = subst (λ (items : List ℕ). Answered g.W.Sink c.args.sink.now c.answer.new.sink IsAnswer items c.answer.result) c.deref.ensures.value c.answer.ensures;
  };
}

pub returns-in-Err : goal.returns-in-Err
returns-in-Err g c = record {
  promises = λ input script said. c.scripts_keep_promises.ensures (setup_by script) (script-fit input script said) script.events;
  ends = record { reading = Err c.in-Err.why; read = c.in-Err.ensures; ends = (refl, search rules) };
}
