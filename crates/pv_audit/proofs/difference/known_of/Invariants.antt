-- What is told of those so far is noted, whichever report it is of.
use Rattle.std.proofs.Common.{◌≡◌, drop, take}
use Rattle.pv_audit.specs.Differences.{known_of}
use Rattle.pv_audit.specs.Reports.{Report}
use Rattle.pv_audit.specs.ToldView.{AreOutcomesIn}
use Rattle.pv_audit.proofs.NotedLemmas.{AreNoted}
use Rattle.pv_base.specs.Assignment.{AreAscending}
use Rattle.pv_audit.proofs.difference.known_of.Given as goal

abbrev pub invariant-loop-txn : goal.invariant-loop-txn
invariant-loop-txn l = record {
  known : (told : Report) → AreOutcomesIn l.outcomes told → l.literals.items ≡ known_of told (take l.txn-index l.txns);
  noted : AreAscending l.txns → AreNoted l.literals.items (drop l.txn-index l.txns);
}
