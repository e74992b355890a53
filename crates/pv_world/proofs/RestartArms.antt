-- What the writes and syncs of a start come to on a disk, and what the definitions say of them.
use Rattle.std.proofs.Common.{◌≡◌, ℕ, suc, ◌+◌, ◌-◌, ◌<◌, ◌≤◌, Bool, true, false, MatchBool, Option, Some, None, refl, sym, ap, subst, ◌∙◌, arith}
use Rattle.std.specs.Prelude.{◌&&◌, nat_lt, if◌then◌else◌}
use Rattle.std.specs.Option.{option_map}
use Rattle.std.proofs.lemmas.Bool.{true≢false, lt-ltb, le-ltb, ltb-true, ltb-false}
use Rattle.pv_disk.specs.MemDisk.{MemState}
use Rattle.pv_disk.specs.declared.arms.Arm as disk
use Rattle.pv_format.specs.Checkpoint.{Standing}
use Rattle.pv_format.specs.Record.{Record}
use Rattle.pv_ckpt.specs.Armed.{ComesTo, Holds}
use Rattle.pv_disk_model.specs.Size.{Contents}
use Rattle.pv_protocol.specs.Arms.{waits, fires, reached, calls_of, is_kept, record_left}
use Rattle.pv_protocol.specs.Attempt.{of_start}
use Rattle.pv_protocol.specs.Start.{Started, starts, too_long, no_epoch}
use Rattle.pv_protocol.specs.State.{Arm}
use Rattle.pv_world.specs.Disks.{armed_as}

-- the fault so many calls nearer
abbrev pub later_by : ℕ → Arm → Arm
later_by calls arm = record arm { call = arm.call - calls }

-- What has not fired waits, so much nearer.
pub waits-still : (more : ℕ) (arm : Arm) → suc more < arm.call → reached (suc more) (Some arm) ≡ waits (Some (later_by (suc more) arm))
waits-still more arm far =
    let test : nat_lt (suc more) arm.call ≡ true = lt-ltb (suc more) arm.call far in
    ap (λ (b : Bool). if b then waits (Some (later_by (suc more) arm)) else fires arm) test

-- What is near enough fires.
pub fires-within : (more : ℕ) (arm : Arm) → arm.call ≤ suc more → reached (suc more) (Some arm) ≡ fires arm
fires-within more arm near =
    let test : nat_lt (suc more) arm.call ≡ false = le-ltb (suc more) arm.call near in
    ap (λ (b : Bool). if b then waits (Some (later_by (suc more) arm)) else fires arm) test

-- What waits was further away.
pub waited-far : (more : ℕ) (arm : Arm) (armed : Option Arm) → reached (suc more) (Some arm) ≡ waits armed
    → (suc more < arm.call) × (armed ≡ Some (later_by (suc more) arm))
waited-far more arm armed is = by (nat_lt (suc more) arm.call) refl is
  where
    by : (b : Bool) → nat_lt (suc more) arm.call ≡ b → (if b then waits (Some (later_by (suc more) arm)) else fires arm) ≡ waits armed
        → (suc more < arm.call) × (armed ≡ Some (later_by (suc more) arm))
    by true test same = (ltb-true (suc more) arm.call test, let both : Some (later_by (suc more) arm) ≡ armed = cc in sym both)
    by false test same = absurd (let wrong : ⊥ = cc in wrong)

module _ (more : ℕ) (made : Contents × Standing) (left : disk.Arm → Contents × Standing) (on : MemState) where
  -- Where the calls succeed, what was armed waits by the definitions too.
  pub comes-through : (arm : Option Arm) → ComesTo (suc more) (option_map armed_as arm) made left true on
      → (armed : Option Arm) × (reached (suc more) arm ≡ waits armed) × Holds made.0 made.1 (option_map armed_as armed) None on
  comes-through None comes = (None, refl, comes.1)
  comes-through (Some arm) comes = by (nat_lt (suc more) arm.call) refl comes
    where
      by : (b : Bool) → nat_lt (suc more) arm.call ≡ b
          → MatchBool b ((true ≡ true) × Holds made.0 made.1 (Some (armed_as (later_by (suc more) arm))) None on) ((true ≡ false) × Holds (left (armed_as arm)).0 (left (armed_as arm)).1 None (Some arm.stops) on)
          → (armed : Option Arm) × (reached (suc more) (Some arm) ≡ waits armed) × Holds made.0 made.1 (option_map armed_as armed) None on
      by true test (same, holds) = (Some (later_by (suc more) arm), waits-still more arm (ltb-true (suc more) arm.call test), holds)
      by false test (same, holds) = absurd (true≢false same)

  -- Where they don't, it was near enough, and the disk holds what it leaves.
  pub comes-fired : (arm : Option Arm) → ComesTo (suc more) (option_map armed_as arm) made left false on
      → (fault : Arm) × (arm ≡ Some fault) × (fault.call ≤ suc more) × Holds (left (armed_as fault)).0 (left (armed_as fault)).1 None (Some fault.stops) on
  comes-fired None comes = absurd (true≢false (sym comes.0))
  comes-fired (Some arm) comes = by (nat_lt (suc more) arm.call) refl comes
    where
      by : (b : Bool) → nat_lt (suc more) arm.call ≡ b
          → MatchBool b ((false ≡ true) × Holds made.0 made.1 (Some (armed_as (later_by (suc more) arm))) None on) ((false ≡ false) × Holds (left (armed_as arm)).0 (left (armed_as arm)).1 None (Some arm.stops) on)
          → (fault : Arm) × (Some arm ≡ Some fault) × (fault.call ≤ suc more) × Holds (left (armed_as fault)).0 (left (armed_as fault)).1 None (Some fault.stops) on
      by true test (same, holds) = absurd (true≢false (sym same))
      by false test (same, holds) = (arm, refl, ltb-false (suc more) arm.call test, holds)

-- A start is a sync and then, if an epoch is recorded, the four calls of an append.

-- Where what was armed waits after the sync and after the append, it waits after both.
pub waits-both : (arm armed later : Option Arm) → reached 1 arm ≡ waits armed → reached 4 armed ≡ waits later → reached 5 arm ≡ waits later
waits-both None armed later first second =
    let none : None ≡ armed = cc in
    subst (λ (a : Option Arm). reached 4 a ≡ waits later) (sym none) second
waits-both (Some arm) armed later first second =
    let far = waited-far 0 arm armed first in
    let nearer : reached 4 (Some (later_by 1 arm)) ≡ waits later = subst (λ (a : Option Arm). reached 4 a ≡ waits later) far.1 second in
    let further = waited-far 3 (later_by 1 arm) later nearer in
    let count : arm.call - 1 - 4 ≡ arm.call - 5 = omega arith in
    waits-still 4 arm (omega (arith, far.0, further.0))
    ∙ ap (λ (a : Option Arm). waits a) (ap (λ (call : ℕ). Some (record arm { call = call })) (sym count) ∙ sym further.1)

-- What fires in the append, once the sync is made.
pub record FiresLate (arm : Option Arm) (fault : Arm) : Type 0 where
  pub first : Arm
  pub is : arm ≡ Some first
  pub late : 1 < first.call
  pub near : first.call ≤ 5
  pub same : fault ≡ later_by 1 first

pub fires-late : (arm armed : Option Arm) (fault : Arm) → reached 1 arm ≡ waits armed → armed ≡ Some fault → fault.call ≤ 4 → FiresLate arm fault
fires-late None armed fault first is near = absurd (let wrong : ⊥ = cc in wrong)
fires-late (Some arm) armed fault first is near =
    let far = waited-far 0 arm armed first in
    let same : fault ≡ later_by 1 arm = let both : Some fault ≡ Some (later_by 1 arm) = sym is ∙ far.1 in cc in
    record { first = arm; is = refl; late = far.0; near = omega (arith, near, ap (λ (a : Arm). a.call) same); same = same }

-- Of no record none is left.
abbrev pub none_if : Bool → Option Record
none_if b = if b then None else None

pub no-record : (b : Bool) → none_if b ≡ None
no-record true = refl
no-record false = refl

-- What fires in the first call fires within more of them.
near-more : (more call : ℕ) → call ≤ 1 → call ≤ more + 1
near-more more call near = omega (arith, near)

-- What fires in the sync of a start leaves no record.
pub fires-early : (n : ℕ) (started : Started) (fault : Arm) → fault.call ≤ 1
    → (reached (calls_of (of_start n started)) (Some fault) ≡ fires fault) × (record_left (of_start n started).calls (of_start n started).appended fault ≡ None)
fires-early n (starts running epoch) fault near = (
  fires-within 4 fault (near-more 4 fault.call near),
  let test : nat_lt 3 fault.call ≡ false = le-ltb 3 fault.call (near-more 2 fault.call near) in
      ap (λ (b : Bool). if b && is_kept fault.mode then Some epoch else None) test,
)
fires-early n (too_long length) fault near = (fires-within 0 fault near, no-record (nat_lt 3 fault.call && is_kept fault.mode))
fires-early n no_epoch fault near = (fires-within 0 fault near, no-record (nat_lt 3 fault.call && is_kept fault.mode))
