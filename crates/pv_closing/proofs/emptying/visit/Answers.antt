-- Where this visit found nothing the box is quiet.
use Rattle.std.proofs.Common.{inl, inr}
use Rattle.pv_closing.proofs.emptying.visit.Goals as goal

pub returns-in-Idle-clause-quiet : goal.returns-in-Idle-clause-quiet
returns-in-Idle-clause-quiet g c none = (c.args.one.now, inl c.in-Idle.ensures.visits)

pub returns-in-Worn-clause-quiet : goal.returns-in-Worn-clause-quiet
returns-in-Worn-clause-quiet g c none = (c.args.one.now, inr c.in-Worn.ensures.visits)
