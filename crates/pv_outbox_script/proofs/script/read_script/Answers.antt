-- No line is left.
use Rattle.pv_model.specs.Text.{numbered}
use Rattle.pv_outbox_script.proofs.LineLemmas.{read-all}
use Rattle.pv_outbox_script.proofs.script.read_script.Goals as goal

pub returns-clause-script : goal.returns-clause-script
returns-clause-script c =
    read-all c.loop-line.lines.numbered (numbered c.args.text.now) c.in_default.ensures.none c.loop-line.events.items c.loop-line.invariant.read
