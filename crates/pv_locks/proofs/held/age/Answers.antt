use Rattle.std.proofs.Common.{◌+◌, ◌∙◌, ap, set, sym, arith}
use Rattle.std.proofs.lemmas.List.Edits.{map_over_more}
use Rattle.pv_locks.proofs.held.age.Goals as goal
use Rattle.pv_protocol.specs.State.{Grant}

pub loop-grant-preserved : goal.loop-grant-preserved
loop-grant-preserved c =
    ap (λ (g : Grant). set c.loop-grant.grant-items c.loop-grant.grant-index (record g { age = g.age + 1 })) (c.grant.view_is ∙ sym c.grant-item.is)
    ∙ map_over_more (λ (g : Grant). record g { age = g.age + 1 }) c.args.grants.now c.loop-grant.grant-items c.loop-grant.grant-index c.grant-item.result
    (omega arith) c.loop-grant.invariant c.grant-item.is
