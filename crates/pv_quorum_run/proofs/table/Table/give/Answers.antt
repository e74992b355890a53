-- What the decider makes of the input, by what came of it.
use Rattle.std.proofs.Common.{◌++◌, ◌∙◌, ap, subst}
use Rattle.pv_law_decisions.specs.Lines.{Line, line_text}
use Rattle.pv_law_decisions.specs.Scene.{memory_at}
use Rattle.pv_quorum.specs.Values.{input_of}
use Rattle.pv_quorum_run.proofs.EventLemmas.{becomes-on}
use Rattle.pv_quorum_run.proofs.GiveLemmas.{given-broke, given-down, given-made}
use Rattle.pv_quorum_run.proofs.StandLemmas.{own-stands}
use Rattle.pv_quorum_run.specs.Cells.{HasStepped}
use Rattle.pv_quorum_run.specs.Stands.{seat_at}
use Rattle.pv_quorum_run.proofs.table.Table.give.Goals as goal

pub step-requires : goal.step-requires
step-requires c = record {
  seat = (
    c.args.self.now.count,
    c.args.decider,
    seat_at c.requires.stands.0 c.args.decider,
    own-stands c.args.self.now c.requires.stands.0 c.requires.stands.1 c.args.decider c.requires.decider c.index_mut.result.now c.index_mut.ensures.value,
    c.requires.input,
  );
}

pub returns-in-Made : goal.returns-in-Made
returns-in-Made c = λ scene made stands makes.
    let old = c.args.self.now in
    let n = c.args.decider in
    let cell = c.index_mut.result.now in
    let at = c.index_mut.ensures.value in
    let input = c.args.input.now in
    let stepped = c.in_ok-step.ensures old.count n (seat_at scene n) (own-stands old scene stands n c.requires.decider cell at) in
    becomes-on old _ c.args.text.now.items c.follow.new.text.items _ c.follow.result _ c.follow.ensures
    (λ followed. given-made old scene stands n c.requires.decider cell at input c.requires.input made c.step.new.self (memory_at scene n) makes c.in-Made.step c.follow.new.self c.args.text.now.items
    c.follow.new.text.items (subst (HasStepped old.count n cell c.step.new.self (seat_at scene n) (memory_at scene n) (input_of input)) c.in-Made.is stepped) followed)

pub returns-in-Broke : goal.returns-in-Broke
returns-in-Broke c = λ scene made stands makes.
    let old = c.args.self.now in
    let n = c.args.decider in
    let cell = c.index_mut.result.now in
    let at = c.index_mut.ensures.value in
    let input = c.args.input.now in
    let stepped = c.in_ok-step.ensures old.count n (seat_at scene n) (own-stands old scene stands n c.requires.decider cell at) in
    becomes-on old _ c.args.text.now.items c.push_line.new.text.items _ c.push_line.result _ c.push_line.ensures
    (λ printed. given-broke old scene stands n c.requires.decider cell at input c.requires.input made c.step.new.self (memory_at scene n) makes c.in-Broke.stops c.args.text.now.items
    c.push_line.new.text.items (subst (HasStepped old.count n cell c.step.new.self (seat_at scene n) (memory_at scene n) (input_of input)) c.in-Broke.is stepped)
    (printed ∙ ap (λ (line : Line). c.args.text.now.items ++ line_text line) c.broken_line.ensures))

pub returns-in-Down : goal.returns-in-Down
returns-in-Down c = λ scene made stands makes.
    let old = c.args.self.now in
    let n = c.args.decider in
    let cell = c.index_mut.result.now in
    let at = c.index_mut.ensures.value in
    let input = c.args.input.now in
    let stepped = c.in_ok-step.ensures old.count n (seat_at scene n) (own-stands old scene stands n c.requires.decider cell at) in
    becomes-on old _ c.args.text.now.items c.push_line-in-Down.new.text.items _ c.push_line-in-Down.result _ c.push_line-in-Down.ensures
    (λ printed. given-down old scene stands n c.requires.decider cell at input c.requires.input made c.step.new.self (memory_at scene n) c.args.text.now.items
    c.push_line-in-Down.new.text.items (subst (HasStepped old.count n cell c.step.new.self (seat_at scene n) (memory_at scene n) (input_of input)) c.in-Down.is stepped) printed)
