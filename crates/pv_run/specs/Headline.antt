-- What is promised of a run, whatever is delivered, lost or repeated in it, and in whatever writes and syncs its sites stop or fail.
use Rattle.std.specs.Prelude.{List, All}
use Rattle.pv_law_answers.specs.Orders.{CommittedFit}
use Rattle.pv_law_answers.specs.Reported.{ReportsShowEachReadable, ReportsShowSerialValues}
use Rattle.pv_model.specs.Events.{Event}
use Rattle.pv_protocol.specs.Agreement.{ReportsAgree}
use Rattle.pv_protocol.specs.Causes.{RefusalsHold}
use Rattle.pv_protocol.specs.CommitAnswers.{CommitsAnswer}
use Rattle.pv_protocol.specs.Outcomes.{OutcomesAgree}
use Rattle.pv_protocol.specs.Run.{run, worlds_of}
use Rattle.pv_protocol.specs.State.{Setup}
use Rattle.pv_protocol.specs.World.{opening}

-- The run of these events keeps the promises. An assignment names the transactions that are taken to commit; it fits a world where it has
-- every committed transaction, and besides them only open ones.
pub record KeepsPromises (setup : Setup) (events : List Event) : Type 0 where
  -- In each world of the run some assignment fits: that the committed transactions commit, and no other. So what follows is never empty.
  pub fits : All CommittedFit (worlds_of (opening setup) (run setup (opening setup) events))
  -- At each report, and for every assignment that fits, each item that can be read has the value that a database of one thread holds after
  -- running, in the order of the lock points, exactly the transactions that commit.
  pub reports : ReportsAgree setup (run setup (opening setup) events)
  -- The cases that a report prints of an item are these values.
  pub shown : ReportsShowSerialValues setup (run setup (opening setup) events)
  -- A report prints each item that can be read.
  pub readable : ReportsShowEachReadable setup (run setup (opening setup) events)
  -- In no world of the run do two sites know different outcomes of a transaction. One that is known to commit is committed; one that is known
  -- not to is neither committed nor open, then and ever after.
  pub outcomes : OutcomesAgree (worlds_of (opening setup) (run setup (opening setup) events))
  -- Each commit answers exactly the replies that are possible by what was read, and for every assignment that fits, the reply of that database
  -- of one thread is among them.
  pub answers : CommitsAnswer setup (opening setup) (run setup (opening setup) events)
  -- A transaction that is refused is neither committed nor open, then and ever after, and the refusal has the cause that is printed.
  pub refusals : RefusalsHold setup (opening setup) (run setup (opening setup) events)
