-- The requests of the entries from here on after which the site met a fault; and whether it met one from here on.
use Rattle.std.proofs.Common.{◌≡◌, ◌≤◌, drop, length}
use Rattle.pv_history.specs.Entries.{stamps_of}
use Rattle.pv_mail.specs.declared.asked.Asker.{Asker}
use Rattle.pv_told.proofs.fault.askers_before_a_fault.Given as goal
use Rattle.pv_told.specs.Along.{has_fault, has_fault_since}
use Rattle.pv_told.specs.Words.{has_asker}

abbrev pub invariant-loop-at : goal.invariant-loop-at
invariant-loop-at l = record {
  within : l.at ≤ length l.history;
  fault : l.fault ≡ has_fault (stamps_of (drop l.at l.history));
  askers : (asker : Asker) → has_asker asker l.askers.items ≡ has_fault_since asker (stamps_of (drop l.at l.history));
}

abbrev pub decreases-loop-at : goal.decreases-loop-at
decreases-loop-at l = l.at
