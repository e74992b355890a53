use Rattle.pv_site.proofs.TakingLemmas.{message-in-range}
use Rattle.pv_site.proofs.taking.step_on.Goals as goal

pub take_message-requires-clause-range : goal.take_message-requires-clause-range
take_message-requires-clause-range g c = message-in-range c.args.parts.now.me.0 c.args.parts.now.catalog c.args.input c.requires.input c.in-Take.from c.in-Take.message c.in-Take.is
