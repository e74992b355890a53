-- At the end all lines are passed.
use Rattle.std.proofs.Common.{ap, sym, length, ◌∙◌, arith, eqb-true}
use Rattle.pv_audit.proofs.EntryLemmas.{lines-none}
use Rattle.pv_audit.proofs.entries.Entries.after_last.Goals as goal

pub returns : goal.returns
returns c =
    let none = lines-none c.loop-rest.rest.now (eqb-true _ 0 (sym c.is_empty.ensures ∙ c.loop-rest-test.false)) in
    omega (arith, c.loop-rest.invariant.0, ap length none)
