-- The step in the slot is the world's.
use Rattle.std.proofs.Common.{rules, Result}
use Rattle.pv_embed_world.specs.World.{Hosted, StepsByLine}
use Rattle.pv_embed_world.specs.declared.fault.WorldFault.{WorldFault}
use Rattle.pv_handle.proofs.StepLemmas.{steps-in}
use Rattle.pv_handle.proofs.world.WorldSlot.step.Goals as goal

pub returns-in-Ok : goal.returns-in-Ok
returns-in-Ok c =
    steps-in (λ (old new : Hosted) (result : Result (Unit {0}) WorldFault). StepsByLine old new c.args.line.now result) c.args.self.now.handle.world c.put.new.self.handle.world
    c.take_out-world.result.value c.step-done.new.self c.step-done.result c.in-Ok.field-0
    (search rules) (search rules) c.in-Ok.is (search rules)
