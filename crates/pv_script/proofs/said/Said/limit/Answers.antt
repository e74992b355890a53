-- The limit is said once, before all events.
use Rattle.std.proofs.lemmas.Result.{err_from_is_err_and}
use Rattle.pv_script.specs.LineFaults.{texts}
use Rattle.pv_script.specs.Said.{before_with}
use Rattle.pv_script.proofs.HeadLemmas.{IsLineFault-twice_journal, IsLineFault-late_journal, IsLineFault-journal}
use Rattle.pv_script.proofs.SaidLemmas.{some-said, none-said}
use Rattle.pv_script.proofs.said.Said.limit.Goals as goal

pub returns-then-is_some-clause-fault : goal.returns-then-is_some-clause-fault
returns-then-is_some-clause-fault c = λ beside line head.
    IsLineFault-twice_journal (before_with beside c.args.self.now) line (texts c.args.args.now) head (some-said c.args.self.now.journal c.is_some.result c.is_some.ensures c.if-is_some.true)

pub returns-then-self-clause-fault : goal.returns-then-self-clause-fault
returns-then-self-clause-fault c = λ beside line head.
    IsLineFault-late_journal (before_with beside c.args.self.now) line (texts c.args.args.now) head (none-said c.args.self.now.journal c.is_some.result c.is_some.ensures c.if-is_some.false) c.if-self.true

pub returns-in_err-limit-clause-fault : goal.returns-in_err-limit-clause-fault
returns-in_err-limit-clause-fault c = λ beside line head.
    let p = err_from_is_err_and c.from_residual.result c.from_residual.ensures.1 in
    rw (p.1, p.2) (IsLineFault-journal (before_with beside c.args.self.now) line (texts c.args.args.now) c.in_err-limit.field-0.0 head (none-said c.args.self.now.journal c.is_some.result c.is_some.ensures c.if-is_some.false) c.if-self.false (c.in_err-limit.ensures.fault c.args.self.now.catalog.sites))
