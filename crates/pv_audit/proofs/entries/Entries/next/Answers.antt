-- At the end no line is left.
use Rattle.std.proofs.Common.{◌+◌, ap, sym, ◌∙◌, eqb-true}
use Rattle.pv_audit.specs.Entries.{entries_from}
use Rattle.pv_audit.proofs.EntryLemmas.{lines-none}
use Rattle.pv_audit.proofs.entries.Entries.next.Goals as goal

pub returns-clause-none : goal.returns-clause-none
returns-clause-none c =
    let none = lines-none c.loop-self.self-inside.rest.now (eqb-true _ 0 (sym c.is_empty.ensures ∙ c.loop-self-test.false)) in
    sym c.loop-self.invariant.0 ∙ ap (entries_from (c.loop-self.self-inside.passed + 1)) none
