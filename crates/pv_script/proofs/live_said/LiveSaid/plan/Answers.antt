-- How messages fail is said once, before all clients, by two numbers.
use Rattle.std.proofs.Common.{refl, []}
use Rattle.pv_script.specs.LineFaults.{texts}
use Rattle.pv_script.specs.LiveSaid.{before_of_live}
use Rattle.pv_script.specs.declared.schedule.LineCause.TheVariants.{WrongCount, BadNumber}
use Rattle.pv_script.proofs.HeadLemmas.{IsLineFault-twice_plan, IsLineFault-late_plan, IsLineFault-plan}
use Rattle.pv_script.proofs.LiveSaidLemmas.{some-plan, none-plan, plan-few, plan-many, plan-bad_first, plan-bad_second}
use Rattle.pv_script.proofs.live_said.LiveSaid.plan.Goals as goal

pub returns-then-is_some-clause-fault : goal.returns-then-is_some-clause-fault
returns-then-is_some-clause-fault c = λ line head.
    IsLineFault-twice_plan (before_of_live c.args.self.now) line (texts c.args.args.now) refl head (some-plan c.args.self.now.fault_plan c.is_some.result c.is_some.ensures c.if-is_some.true)

pub returns-then-self-clause-fault : goal.returns-then-self-clause-fault
returns-then-self-clause-fault c = λ line head. IsLineFault-late_plan (before_of_live c.args.self.now) line (texts c.args.args.now) refl head (none-plan c.args.self.now.fault_plan c.is_some.result c.is_some.ensures c.if-is_some.false) c.if-self.true

pub returns-in_default-clause-fault : goal.returns-in_default-clause-fault
returns-in_default-clause-fault c = λ line head.
    IsLineFault-plan (before_of_live c.args.self.now) line (texts c.args.args.now) refl WrongCount head (none-plan c.args.self.now.fault_plan c.is_some.result c.is_some.ensures c.if-is_some.false) c.if-self.false (plan-few c.args.self.now.said.catalog.sites c.args.args.now c.in_default.len_below)

pub returns-in_default-2-clause-fault : goal.returns-in_default-2-clause-fault
returns-in_default-2-clause-fault c = λ line head.
    IsLineFault-plan (before_of_live c.args.self.now) line (texts c.args.args.now) refl WrongCount head (none-plan c.args.self.now.fault_plan c.is_some.result c.is_some.ensures c.if-is_some.false) c.if-self.false (plan-many c.args.self.now.said.catalog.sites c.args.args.now c.in_default.len_at_least)

pub returns-in_default-number_in-clause-fault : goal.returns-in_default-number_in-clause-fault
returns-in_default-number_in-clause-fault c = λ line head.
    IsLineFault-plan (before_of_live c.args.self.now) line (texts c.args.args.now) refl BadNumber head (none-plan c.args.self.now.fault_plan c.is_some.result c.is_some.ensures c.if-is_some.false) c.if-self.false
    (plan-bad_first c.args.self.now.said.catalog.sites c.args.args.now (record { ref_ptr = (0, 0); now = [] }) c.in-len2.len_at_least c.in-len2.len_below (rw c.from.ensures at (c.in_default-number_in.ensures.none c.args.self.now.said.catalog.sites)))

pub returns-in_default-number_in-2-clause-fault : goal.returns-in_default-number_in-2-clause-fault
returns-in_default-number_in-2-clause-fault c = λ line head.
    IsLineFault-plan (before_of_live c.args.self.now) line (texts c.args.args.now) refl BadNumber head (none-plan c.args.self.now.fault_plan c.is_some.result c.is_some.ensures c.if-is_some.false) c.if-self.false
    (plan-bad_second c.args.self.now.said.catalog.sites c.args.args.now (record { ref_ptr = (0, 0); now = [] }) c.in-len2.len_at_least c.in-len2.len_below (rw c.from-2.ensures at (c.in_default-number_in-2.ensures.none c.args.self.now.said.catalog.sites)))
