use Rattle.std.proofs.Common.{rules, refl}
use Rattle.pv_disk.specs.MemDisk.{MemState}
use Rattle.pv_disk.proofs.MemLemmas.{sync_done, sync_fired}
use Rattle.pv_disk.proofs.mem_disk.MemDiskDisk.sync.Goals as goal

pub returns-in_default-clause-effect : goal.returns-in_default-clause-effect
returns-in_default-clause-effect c =
    let old : MemState = record { image = c.self.inside.image; arms = c.self.inside.arms; faults = c.self.inside.faults } in
    let new : MemState = record { image = c.sync.new.self; arms = c.count_change.new.self; faults = c.self.inside.faults } in
    let is = c.sync.ensures in
    rw (← c.self.view_is) (sync_done old new is.made is.room is.writes is.past tt is.content is.now refl)

pub returns-clause-effect : goal.returns-clause-effect
returns-clause-effect c =
    let old : MemState = record { image = c.self.inside.image; arms = c.self.inside.arms; faults = c.self.inside.faults } in
    let new : MemState = record { image = c.crash.new.self; arms = c.count_change.new.self; faults = c.saturating_add-self-inside.result } in
    let is = c.crash.ensures in
    rw (← c.self.view_is)
    (sync_fired old new is.made is.room is.writes is.past c.in-Some.mode (record {}) is.content is.now (search rules) c.saturating_add-self-inside.ensures)
