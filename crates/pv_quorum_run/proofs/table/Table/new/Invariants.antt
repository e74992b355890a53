-- So many deciders stand, and there is room for the others.
use Rattle.std.proofs.Common.{◌≡◌, ◌≤◌, vec_len, vec_capacity}
use Rattle.pv_quorum_run.proofs.NewLemmas.{AreFirst}
use Rattle.pv_quorum_run.proofs.table.Table.new.Given as goal

abbrev pub invariant-loop-me : goal.invariant-loop-me
invariant-loop-me l = record {
  count : vec_len l.cells ≡ l.me;
  room : l.fn.count ≤ vec_capacity l.cells;
  stand : AreFirst l.count l.me l.cells.items;
}
