-- The decider is down, or was.
use Rattle.std.proofs.Common.{◌++◌, ◌∙◌, ap}
use Rattle.pv_law_decisions.specs.Lines.{Line, line_text}
use Rattle.pv_law_decisions.specs.Scene.{memory_at}
use Rattle.pv_quorum_run.proofs.EventLemmas.{becomes-on, halted-become}
use Rattle.pv_quorum_run.proofs.StandLemmas.{own-stands}
use Rattle.pv_quorum_run.specs.Stands.{seat_at}
use Rattle.pv_quorum_run.proofs.table.Table.stop.Goals as goal

pub returns : goal.returns
returns c = λ scene stands.
    let old = c.args.self.now in
    let n = c.args.decider in
    let own = own-stands old scene stands n c.requires.decider c.index_mut.result.now c.index_mut.ensures.value in
    becomes-on old _ c.args.text.now.items c.push_line.new.text.items _ c.push_line.result _ c.push_line.ensures
    (λ printed. halted-become old scene stands n c.requires.decider c.index_mut.result.now c.index_mut.ensures.value c.stop-was_up.new.self c.args.text.now.items c.push_line.new.text.items
    (memory_at scene n) c.stop-was_up.result (c.stop-was_up.ensures old.count n (seat_at scene n) own) (printed ∙ ap (λ (line : Line). c.args.text.now.items ++ line_text line) c.stop_line.ensures))
