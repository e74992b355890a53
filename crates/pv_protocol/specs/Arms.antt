-- What an armed fault does to the writes and syncs of a site, and how an attempt ends.
use Rattle.std.specs.Prelude.{ℕ, zero, suc, ◌+◌, ◌-◌, Bool, true, false, ◌&&◌, nat_lt, Option, Some, None, List, [], ◌∷◌, ◌++◌, option_to_list, if◌then◌else◌}
use Rattle.pv_base.specs.declared.mode.Mode.{Mode}
use Rattle.pv_base.specs.declared.mode.Mode.TheVariants.{Lost, Kept, Torn}
use Rattle.pv_format.specs.Checkpoint.{Standing, done, left_by, part_of}
use Rattle.pv_format.specs.Record.{Record}
use Rattle.pv_protocol.specs.Attempt.{Attempt}
use Rattle.pv_protocol.specs.Lines.{Line}
use Rattle.pv_protocol.specs.State.{Arm, Site}
use Rattle.pv_protocol.specs.World.{World, site_at, with_site, from_site, with_sent}

-- An append is a write, a sync, a write and a sync.
abbrev pub calls_of_append : Option Record → ℕ
calls_of_append None = 0
calls_of_append (Some appended) = 4

-- how many writes and syncs an attempt makes
abbrev pub calls_of : Attempt → ℕ
calls_of attempt = attempt.calls + calls_of_append attempt.appended

-- What becomes of an armed fault: it is armed still, for so many writes and syncs less, or it fires.
pub data Reached : Type 0 where
  waits : Option Arm → Reached
  fires : Arm → Reached

-- what becomes of it in so many writes and syncs
abbrev pub reached : ℕ → Option Arm → Reached
reached zero arm = waits arm
reached (suc more) None = waits None
reached (suc more) (Some arm) =
    if nat_lt (suc more) arm.call then waits (Some (record arm { call = arm.call - suc more })) else fires arm

-- What was written is kept.
abbrev pub is_kept : Mode → Bool
is_kept Kept = true
is_kept Lost = false
is_kept Torn = false

-- The record is there exactly where the fault fires in the third or the fourth write or sync of the append and what was written
-- is kept.
abbrev pub record_left : ℕ → Option Record → Arm → Option Record
record_left calls appended arm = if nat_lt (calls + 2) arm.call && is_kept arm.mode then appended else None

-- How the log stands when it was packed, if it was.
abbrev pub standing_made : Bool → Standing → Standing
standing_made packs standing = if packs then done standing else standing

-- How it stands where the fault fires. An append and a sync leave it as it is; of a checkpoint it is the part that tells, in which the fault fires.
abbrev pub standing_left : Bool → Arm → Standing → Standing
standing_left packs arm standing = if packs then left_by (part_of standing.other_open arm.call) arm.mode standing else standing

-- the world where all of an attempt's writes and syncs are made; the site's disk is then armed with this
abbrev pub completed : World → ℕ → Attempt → Option Arm → World
completed world n attempt arm =
    let before = site_at world n in
    let site : Site =
    record {
      records = before.records ++ option_to_list attempt.appended;
      standing = standing_made attempt.packs before.standing;
      arm = arm;
      running = attempt.running;
    }
    in
    let placed : World = record world { order = world.order ++ option_to_list attempt.placed } in
    with_sent (with_site placed n site) (from_site n attempt.sends)

-- The world where one of the writes and syncs stops the site or fails: it is down, with this record more if there is one, its log stands so, and it sends
-- nothing. A fault fires once; the disk is then disarmed.
abbrev pub broken : World → ℕ → Option Record → Standing → World
broken world n left standing =
    with_site world n (record { records = (site_at world n).records ++ option_to_list left; standing = standing; arm = None; running = None })

-- what is printed then
abbrev pub broken_line : ℕ → Bool → Line
broken_line n true = Line.stopped n
broken_line n false = Line.fault n

-- the lines of an attempt, and the world after it
abbrev pub attempted : World → ℕ → Attempt → Reached → List Line × World
attempted world n attempt (waits arm) = (attempt.lines, completed world n attempt arm)
attempted world n attempt (fires arm) =
    (broken_line n arm.stops ∷ [], broken world n (record_left attempt.calls attempt.appended arm) (standing_left attempt.packs arm (site_at world n).standing))
