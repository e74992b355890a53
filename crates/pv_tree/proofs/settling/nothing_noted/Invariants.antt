use Rattle.std.proofs.Common.{◌≡◌, ℕ, None, get_or}
use Rattle.pv_tree.proofs.settling.nothing_noted.Given as goal

abbrev pub invariant-loop : goal.invariant-loop
invariant-loop g l = (number : ℕ) → get_or l.noted.items number None ≡ None
