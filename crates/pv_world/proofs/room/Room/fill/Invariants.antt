-- A disk has come for each cell so far, and whatever holds the rest of the sites holds, after these disks, all of them.
use Rattle.std.proofs.Common.{◌≡◌, ◌≤◌, ℕ, List, ◌++◌, length, drop, vec_len, vec_capacity}
use Rattle.pv_base.specs.Catalog.{Declared}
use Rattle.pv_base.specs.declared.limits.TheConstants.{MAX_SITES}
use Rattle.pv_disk.specs.MemDisk.{MemState}
use Rattle.pv_protocol.specs.State.{Site}
use Rattle.pv_world.specs.Disks.{HoldSites}
use Rattle.pv_world.specs.Stands.{StandForSites}
use Rattle.pv_world.proofs.room.Room.fill.Given as goal

abbrev pub invariant-loop-cell : goal.invariant-loop-cell
invariant-loop-cell l = record {
  count : vec_len l.disks ≡ length l.yielded;
  room : MAX_SITES ≤ vec_capacity l.disks;
  hold : (catalog : Declared) (sites : List Site) (more : List MemState) → StandForSites catalog 0 l.fn.cells.items sites
      → HoldSites more (drop (length l.yielded) sites) → HoldSites (l.disks.items ++ more) sites;
}
