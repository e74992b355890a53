-- At first nothing was gone over.
use Rattle.pv_replay.proofs.BegunLemmas.{found-first}
use Rattle.pv_replay.proofs.poly.begun.Goals as goal

pub loop-rest-init : goal.loop-rest-init
loop-rest-init c = found-first c.args.literals.now
