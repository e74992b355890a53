use Rattle.std.proofs.Common.{◌≡◌, ◌≤◌, [], All, length}
use Rattle.pv_links.proofs.rows.new_rows.Given as goal

abbrev pub invariant-loop : goal.invariant-loop
invariant-loop g l = (l.counter ≡ length l.rows.items) × (l.counter ≤ l.count) × All (λ row. row.items ≡ []) l.rows.items
