-- The request is added at the end.
use Rattle.pv_told.proofs.ToldLemmas.{added}
use Rattle.pv_told.proofs.fault.push_if.Goals as goal

pub returns-in_ok-push : goal.returns-in_ok-push
returns-in_ok-push c = λ other. added other c.in-Some.asker c.args.asker c.args.is_to_be c.args.askers.now.items c.push.new.self.items c.in-Some.is c.if-is_to_be.true
    c.in_ok-push.ensures.items
