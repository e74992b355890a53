-- What the events of a script do to an outbox over a disk in memory, and what they print.
use Rattle.std.specs.Prelude.{◌≡◌, ◌⊎◌, ℕ, Bool, true, false, MatchBool, List, [], ◌∷◌, ◌++◌, Option, Some, None}
use Rattle.pv_disk.specs.declared.arms.Arm.{Arm}
use Rattle.pv_law_outbox.specs.Ready.{NoneReady}
use Rattle.pv_law_outbox.specs.Runs.{MayWrite}
use Rattle.pv_law_outbox.specs.State.{held, learnt, taken, is_held, outcome_of, state_of}
use Rattle.pv_moored.specs.Reached.{Reached, reached, waits, fires}
use Rattle.pv_outbox_run.specs.Box.{Box, Writes}
use Rattle.pv_outbox_run.specs.ToldText.{broke}
use Rattle.pv_outbox_run.specs.declared.told.Told.{Told}
use Rattle.pv_outbox_run.specs.declared.told.Told.TheVariants as told
use Rattle.pv_outbox_script.specs.declared.event.Event.{Event}
use Rattle.pv_outbox_script.specs.declared.event.Event.TheVariants.{Hold, Learn, Take, Arm as ArmIt, Mend, Stop, Start}

-- One line is printed, of which this holds and of the outbox then.
abbrev pub Tells : (Told → Box → Type 0) → List Told → Box → Type 0
Tells Comes says new = (said : Told) × (says ≡ said ∷ []) × Comes said new

-- This line is printed, and nothing changes.
abbrev pub Answers : Box → Told → List Told → Box → Type 0
Answers old said says new = (says ≡ said ∷ []) × (new ≡ old)

-- This is armed at the disk in place of what was, and nothing is printed.
abbrev pub Arms : Box → Option Arm → List Told → Box → Type 0
Arms old armed says new = (says ≡ []) × (new ≡ record old { armed = armed })

-- What an event does to an outbox that is up.
abbrev pub DoesUp : Box → Event → List Told → Box → Type 0
DoesUp old (Hold output when) says new =
    ((is_held (state_of old.entries) output ≡ true) × Answers old (told.Again output) says new)
    ⊎ (MayWrite (state_of old.entries) (held output when) × Tells (Writes old (held output when) (told.Held output)) says new)
DoesUp old (Learn txn commits) says new =
    ((known : Bool) × (outcome_of (state_of old.entries) txn ≡ Some known) × Answers old (told.Known txn known) says new)
    ⊎ (MayWrite (state_of old.entries) (learnt txn commits) × Tells (Writes old (learnt txn commits) (told.Learnt txn)) says new)
DoesUp old Take says new =
    (NoneReady (state_of old.entries) (state_of old.entries).held × Answers old told.Nothing says new)
    ⊎ ((output : ℕ) × MayWrite (state_of old.entries) (taken output) × Tells (Writes old (taken output) (told.Out output)) says new)
DoesUp old (ArmIt k mode stop) says new = Arms old (Some (record { left = k; mode = mode; stop = stop })) says new
DoesUp old Mend says new = Arms old None says new
DoesUp old Stop says new = (says ≡ told.Stopped ∷ []) × (new ≡ record old { is_up = false })
DoesUp old Start says new = Answers old told.Up says new

-- What a start of an outbox that is down comes to, by what becomes of what is armed in its one sync.
abbrev pub StartsBy : Reached → Box → List Told → Box → Type 0
StartsBy (waits rest) old says new = (says ≡ told.Started ∷ []) × (new ≡ record old { armed = rest; is_up = true })
StartsBy (fires arm) old says new = (says ≡ broke arm.stop ∷ []) × (new ≡ record old { armed = None })

-- What an event does to one that is down.
abbrev pub DoesDown : Box → Event → List Told → Box → Type 0
DoesDown old (ArmIt k mode stop) says new = Arms old (Some (record { left = k; mode = mode; stop = stop })) says new
DoesDown old Mend says new = Arms old None says new
DoesDown old Start says new = StartsBy (reached 1 old.armed) old says new
DoesDown old (Hold output when) says new = Answers old told.Down says new
DoesDown old (Learn txn commits) says new = Answers old told.Down says new
DoesDown old Take says new = Answers old told.Down says new
DoesDown old Stop says new = Answers old told.Down says new

-- What an event does, and what it prints.
abbrev pub Does : Box → Event → List Told → Box → Type 0
Does old event says new = MatchBool old.is_up (DoesUp old event says new) (DoesDown old event says new)

-- What events do, one after another, and all that they print.
abbrev pub Runs : Box → List Event → List Told → Box → Type 0
Runs old [] says new = (says ≡ []) × (new ≡ old)
Runs old (event ∷ events) says new =
    (mid : Box) × (first : List Told) × (later : List Told) × (says ≡ first ++ later) × Does old event first mid × Runs mid events later new
