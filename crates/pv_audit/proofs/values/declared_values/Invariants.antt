-- The declared values so far.
use Rattle.std.proofs.Common.{◌≡◌, length}
use Rattle.pv_audit.proofs.DeclaredLemmas.{AreDeclared}
use Rattle.pv_audit.proofs.values.declared_values.Given as goal

abbrev pub invariant-loop-n : goal.invariant-loop-n
invariant-loop-n l = (length l.values.items ≡ l.n) × AreDeclared l.catalog l.values.items
