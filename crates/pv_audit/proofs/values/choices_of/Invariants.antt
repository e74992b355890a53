-- The choices so far.
use Rattle.std.proofs.Common.{take}
use Rattle.pv_audit.specs.Values.{AreChoices}
use Rattle.pv_audit.proofs.values.choices_of.Given as goal

abbrev pub invariant-loop-write : goal.invariant-loop-write
invariant-loop-write l = AreChoices l.txn l.values (take l.write-index l.writes) l.choices.items
