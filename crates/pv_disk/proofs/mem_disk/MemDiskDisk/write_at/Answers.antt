use Rattle.std.proofs.Common.{rules, arith, refl, ◌≤◌, length}
use Rattle.pv_disk.specs.MemDisk.{MemState}
use Rattle.pv_disk.proofs.MemLemmas.{write_done, write_fired}
use Rattle.pv_disk.proofs.mem_disk.MemDiskDisk.write_at.Goals as goal

pub returns-in_default-clause-effect : goal.returns-in_default-clause-effect
returns-in_default-clause-effect c =
    let old : MemState = record { image = c.self.inside.image; arms = c.self.inside.arms; faults = c.self.inside.faults } in
    let new : MemState = record { image = c.write.new.self; arms = c.count_change-fires.new.self; faults = c.self.inside.faults } in
    let is = c.write.ensures in
    let within : c.args.place ≤ length c.self.inside.image.content = search rules in
    rw (← c.self.view_is) (write_done old new c.args.place c.args.bytes.now is.made within is.room is.writes tt is.content is.now is.past refl)

pub returns-clause-effect : goal.returns-clause-effect
returns-clause-effect c =
    let old : MemState = record { image = c.self.inside.image; arms = c.self.inside.arms; faults = c.self.inside.faults } in
    let mid : MemState = record { image = c.write.new.self; arms = c.count_change-fires.new.self; faults = c.self.inside.faults } in
    let new : MemState = record { image = c.crash.new.self; arms = c.count_change-fires.new.self; faults = c.saturating_add-self-inside.result } in
    let was = c.write.ensures in
    let is = c.crash.ensures in
    let within : c.args.place ≤ length c.self.inside.image.content = search rules in
    rw (← c.self.view_is)
    (write_fired old new c.args.place c.args.bytes.now was.made within (omega (arith, was.room, is.room)) (omega (arith, was.writes, is.writes))
    mid c.in-Some.mode (record {}) was.content was.now was.past is.made is.past is.content is.now (search rules) c.saturating_add-self-inside.ensures)
