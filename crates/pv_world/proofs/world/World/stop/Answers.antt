use Rattle.std.proofs.Common.{arith, refl, ap}
use Rattle.pv_protocol.specs.Attempt.{halted}
use Rattle.pv_protocol.specs.World.{site_at}
use Rattle.pv_script.specs.LineView.{line_of}
use Rattle.pv_world.proofs.ChangeLemmas.{ends-come, own-stands, stop-ends}
use Rattle.pv_world.proofs.StandLemmas.{cells-count}
use Rattle.pv_world.proofs.world.World.stop.Goals.{then-stopped, else-stopped}
use Rattle.pv_world.proofs.world.World.stop.Goals as goal

pub index_mut-requires : goal.index_mut-requires
index_mut-requires c =
    let world = c.args.self.now in
    let stands = c.requires.stands in
    omega (arith, cells-count world stands.0 stands.1.stands, world.cells.ok.0, c.requires.site)

pub returns : goal.returns
returns c is stands =
    let world = c.args.self.now in
    let cell = c.index_mut.result.now in
    let own = own-stands world is stands.stands c.args.site.0 c.requires.site cell c.index_mut.ensures.value in
    let end = stop-ends world is stands.stands c.args.site.0 c.requires.site cell c.index_mut.ensures.value c.stop-stopped.new.self c.stop-stopped.result
    (c.stop-stopped.ensures world.catalog c.args.site.0 _ own) (line_of c.if-stopped.push)
    (λ rose. elim c.if-stopped.branch [ then-stopped w ↦ ap line_of w.push-is | else-stopped w ↦ absurd (let down = w.if-stopped.false in cc) ])
    (λ fell. elim c.if-stopped.branch [ then-stopped w ↦ absurd (let up = w.if-stopped.true in cc) | else-stopped w ↦ ap line_of w.push-is ]) in
    ends-come world _ c.args.lines.now.items c.push.new.self.items (halted is c.args.site.0 (site_at is c.args.site.0).running) c.if-stopped.push c.in_ok-push.field-0 end (record { catalog = refl; limit = refl }) c.in_ok-push.ensures.items
