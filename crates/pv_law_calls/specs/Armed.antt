-- A fault that is armed.
use Rattle.std.specs.Prelude.{ℕ, ◌-◌}
use Rattle.pv_disk.specs.declared.arms.Arm.{Arm}

-- What is armed is so many writes and syncs nearer.
abbrev pub nearer : ℕ → Arm → Arm
nearer calls arm = record arm { left = arm.left - calls }
