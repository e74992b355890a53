-- Words that are no command ask for no live run, nor do those of another.
use Rattle.std.proofs.Common.{map}
use Rattle.std.specs.String.{string_bytes}
use Rattle.pv_app.specs.declared.command.Command.TheVariants.{Live}
use Rattle.pv_app.proofs.CommandLemmas.{one-command}
use Rattle.pv_app.proofs.command.workers_of.Goals as goal

pub returns-in_err-workers-clause-none : goal.returns-in_err-workers-clause-none
returns-in_err-workers-clause-none c = λ none workers so. c.command_of.ensures.none c.in_err-workers.was (Live workers) so

pub returns-in_default : goal.returns-in_default
returns-in_default c = record {
  some = tt;
  none = λ none workers so. c.in_default.not-Live workers
      (one-command (map string_bytes c.args.words.now) c.in_ok-workers.field-0 (Live workers) c.in_ok-workers.ensures.some so);
}
