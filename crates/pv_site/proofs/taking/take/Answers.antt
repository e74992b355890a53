use Rattle.pv_base.specs.declared.limits.TheConstants.{MAX_SITES}
use Rattle.pv_protocol.specs.Step.{step_on}
use Rattle.pv_site.proofs.TakingLemmas.{input-in-range, recorded-after, sound-after, spelled-after}
use Rattle.pv_site.proofs.taking.take.Goals as goal
use Rattle.pv_site.specs.Given.{input_in}
use Rattle.pv_site.specs.SiteParts.{here_of}

pub returns-clause-sound : goal.returns-clause-sound
returns-clause-sound g c =
    let here = here_of c.args.parts.now in
    let input = input_in c.args.input in
    let range = input-in-range here c.args.input c.requires.input in
    sound-after g.L.Log.model c.args.log.now c.step_on.new.log c.args.parts.now c.step_on.new.parts (step_on here input) c.step_on.result c.step_on.ensures.step
    c.requires.ready.sound (c.steps_stay_sound.ensures MAX_SITES here input c.requires.ready.sound.range range)

pub returns-clause-spelled : goal.returns-clause-spelled
returns-clause-spelled g c =
    let here = here_of c.args.parts.now in
    let input = input_in c.args.input in
    let range = input-in-range here c.args.input c.requires.input in
    spelled-after g.L.Log.model c.args.log.now c.step_on.new.log c.args.parts.now c.step_on.new.parts (step_on here input) c.args.parts.now.me.0 c.step_on.result
    c.step_on.ensures.step (c.sends_are_spelled.ensures MAX_SITES here input c.requires.ready.sound.range range)

pub returns-clause-recorded : goal.returns-clause-recorded
returns-clause-recorded g c =
    let here = here_of c.args.parts.now in
    let input = input_in c.args.input in
    recorded-after g.L.Log.model c.args.log.now c.step_on.new.log c.args.parts.now c.step_on.new.parts (step_on here input) c.step_on.result c.step_on.ensures.step
    (c.appends_what_it_may.ensures here input)
