use Rattle.pv_protocol.specs.World as model
use Rattle.pv_world.proofs.PumpSteps.{HasPumped, mail_weight}
use Rattle.pv_world.specs.Stands.{StandsFor}
use Rattle.pv_world.proofs.world.World.pump.Given as goal

abbrev pub invariant-loop-left : goal.invariant-loop-left
invariant-loop-left l = (is : model.World) → StandsFor l.fn.self is → HasPumped l.fn.self l.self l.fn.lines.items l.lines.items l.fn.most l.left is

abbrev pub decreases-loop-left : goal.decreases-loop-left
decreases-loop-left l = mail_weight l.self.mail.posts
