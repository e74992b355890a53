-- What comes of the proposal is what comes of the input.
use Rattle.std.proofs.Common.{refl}
use Rattle.pv_law_quorum.specs.World.{proposal}
use Rattle.pv_quorum_run.proofs.table.Table.propose.Goals as goal

pub returns : goal.returns
returns c = λ scene stands. c.give.ensures scene (λ ending. proposal c.args.decider c.args.txn c.args.commits ending) stands (λ ending. refl)
