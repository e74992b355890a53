-- The deciders of a scene, after one of them has changed.
use Rattle.std.proofs.Common.{◌≡◌, ◌≢◌, ℕ, ◌<◌, true, false, Option, None, length, ap, ◌∙◌}
use Rattle.std.proofs.lemmas.List.{append-nil, get_or-set_same, get_or-set_other, length-set}
use Rattle.pv_disk.specs.declared.arms.Arm.{Arm}
use Rattle.pv_law_quorum.specs.Decider.{Answer}
use Rattle.pv_law_quorum.specs.World.{Decider, World, Ending, whole, broken, ended, no_decider, decider_at, records_at}
use Rattle.pv_quorum_run.specs.Cells.{Seat, seat_after}

-- Seats by their parts.
abbrev seat-of : (decider : Decider) (arm : Option Arm) → Seat
seat-of decider arm = record { records = decider.records; memory = decider.memory; arm = arm }

-- the seat after a step is that of the world after it
pub seat-ended : (w : World) (n : ℕ) (answer : Answer) (ending : Ending) (rest arm : Option Arm) → n < length w.deciders
    → record { records = records_at (ended w n answer ending) n; memory = (decider_at (ended w n answer ending) n).memory; arm = rest }
    ≡ seat_after (record { records = records_at w n; memory = (decider_at w n).memory; arm = arm }) answer ending rest
seat-ended w n answer whole rest arm within =
    ap (λ (d : Decider). seat-of d rest) (get_or-set_same w.deciders n _ no_decider within)
seat-ended w n answer (broken true) rest arm within =
    ap (λ (d : Decider). seat-of d rest) (get_or-set_same w.deciders n _ no_decider within)
seat-ended w n answer (broken false) rest arm within =
    ap (λ (d : Decider). seat-of d rest) (get_or-set_same w.deciders n _ no_decider within)
    ∙ (λ i. record { records = append-nil (records_at w n) i; memory = None; arm = rest })

-- and another decider is as it was
pub seat-other : (w : World) (n k : ℕ) (answer : Answer) (ending : Ending) → k ≢ n → decider_at (ended w n answer ending) k ≡ decider_at w k
seat-other w n k answer whole apart = get_or-set_other w.deciders n k _ no_decider apart
seat-other w n k answer (broken recorded) apart = get_or-set_other w.deciders n k _ no_decider apart

pub count-ended : (w : World) (n : ℕ) (answer : Answer) (ending : Ending) → length (ended w n answer ending).deciders ≡ length w.deciders
count-ended w n answer whole = length-set w.deciders n _
count-ended w n answer (broken recorded) = length-set w.deciders n _
