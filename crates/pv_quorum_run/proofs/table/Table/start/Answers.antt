-- The decider is up, or what fired is told.
use Rattle.std.proofs.Common.{◌++◌, ◌∙◌, ap, refl}
use Rattle.pv_law_decisions.specs.Lines.{Line, line_text}
use Rattle.pv_law_decisions.specs.Scene.{memory_at}
use Rattle.pv_quorum_run.proofs.EventLemmas.{becomes-on, begun-become}
use Rattle.pv_quorum_run.proofs.StandLemmas.{own-stands}
use Rattle.pv_quorum_run.specs.Stands.{seat_at}
use Rattle.pv_quorum_run.proofs.table.Table.start.Goals as goal

pub start-requires-clause-seat : goal.start-requires-clause-seat
start-requires-clause-seat c = (
  seat_at c.requires.stands.0 c.args.decider,
  own-stands c.args.self.now c.requires.stands.0 c.requires.stands.1 c.args.decider c.requires.decider c.index_mut.result.now c.index_mut.ensures.value,
)

pub returns : goal.returns
returns c = λ scene stands.
    let old = c.args.self.now in
    let n = c.args.decider in
    let own = own-stands old scene stands n c.requires.decider c.index_mut.result.now c.index_mut.ensures.value in
    becomes-on old _ c.args.text.now.items c.push_line.new.text.items _ c.push_line.result _ c.push_line.ensures
    (λ printed. begun-become old scene stands n c.requires.decider c.index_mut.result.now c.index_mut.ensures.value c.start.new.self c.args.text.now.items c.push_line.new.text.items
    (memory_at scene n) refl c.in_ok-start.start (c.in_ok-start.ensures (seat_at scene n) own) (printed ∙ ap (λ (line : Line). c.args.text.now.items ++ line_text line) c.start_line.ensures))
