-- What was written of the leaves, with those that are left, is all, behind what was there.
use Rattle.std.proofs.Common.{◌≡◌, ◌++◌, drop}
use Rattle.std.specs.Io.{StartsWith}
use Rattle.pv_replay.specs.Nodes.{leaves_bytes}
use Rattle.pv_replay.proofs.poly.put_leaves.Given as goal

abbrev pub invariant-loop-case : goal.invariant-loop-case
invariant-loop-case l = record {
  written : l.put.bytes ++ leaves_bytes (drop l.case-index l.cases) ≡ l.initial.put.bytes ++ leaves_bytes l.cases;
  kept : StartsWith l.put.bytes l.initial.put.bytes;
}
