-- What was written of the tests, with those of the literals that are left, is all, behind what was there.
use Rattle.std.proofs.Common.{◌≡◌, ◌++◌, length}
use Rattle.std.specs.Io.{StartsWith}
use Rattle.pv_replay.specs.Nodes.{tests_bytes}
use Rattle.pv_replay.proofs.BegunLemmas.{all_bytes}
use Rattle.pv_replay.proofs.poly.put_tests.Given as goal

abbrev pub invariant-loop-rest : goal.invariant-loop-rest
invariant-loop-rest l = record {
  written : l.put.bytes ++ all_bytes l.rest ≡ l.initial.put.bytes ++ tests_bytes l.when;
  kept : StartsWith l.put.bytes l.initial.put.bytes;
}

abbrev pub decreases-loop-rest : goal.decreases-loop-rest
decreases-loop-rest l = length l.rest
