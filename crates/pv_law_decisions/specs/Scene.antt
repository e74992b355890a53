-- Deciders under a script, and what each of its events but a pump makes of them.
use Rattle.std.specs.Prelude.{ℕ, Bool, true, false, not, ◌&&◌, ◌==◌, nat_lt, Option, Some, None, List, [], ◌∷◌, ◌++◌, map, replicate, get_or, set, slice_get, position}
use Rattle.pv_base.specs.declared.txn.TxnId.{TxnId}
use Rattle.pv_disk.specs.declared.arms.Arm.{Arm}
use Rattle.pv_law_decisions.specs.Lines.{Line, told, no_message, down, up, stopped, fault, started}
use Rattle.pv_law_quorum.specs.Decider.{Setup, Entry, Input, propose, receive, Answer, step}
use Rattle.pv_law_quorum.specs.Record.{Record}
use Rattle.pv_law_quorum.specs.World.{World, Envelope, Ending, whole, broken, Event, proposal, delivery, stop, start, decider_at, records_at, after_event, opening}
use Rattle.pv_moored.specs.Reached.{Reached, waits, fires, reached}
use Rattle.pv_protocol.specs.Arms.{is_kept}

-- The deciders and all that was sent between them; which messages are fresh, by their numbers: neither delivered nor lost; and what is armed at each
-- decider's disk.
pub record Scene : Type 0 where
  pub world : World
  pub fresh : List Bool
  pub arms : List (Option Arm)

-- Where a script begins: all deciders are up, and nothing has happened.
abbrev pub at_first : Setup → Scene
at_first setup = record { world = opening setup; fresh = []; arms = replicate setup.deciders None }

-- what is armed at a decider's disk
abbrev pub arm_at : Scene → ℕ → Option Arm
arm_at scene n = get_or scene.arms n None

-- the scene with this armed there
abbrev pub with_arm : Scene → ℕ → Option Arm → Scene
with_arm scene n arm = record scene { arms = set scene.arms n arm }

-- the scene where a message is done
abbrev pub with_done : Scene → ℕ → Scene
with_done scene number = record scene { fresh = set scene.fresh number false }

-- What becomes of what is armed in a step that appends this, if it appends anything: an append is a write, a sync, a write and a sync.
abbrev pub reached_by : Option Record → Option Arm → Reached
reached_by None arm = waits arm
reached_by (Some kept) arm = reached 4 arm

-- How a step ends in which this fires: the record is there exactly where that is in the third or the fourth of the four calls, and what was written is kept.
abbrev pub ending_by : Arm → Ending
ending_by arm = broken (nat_lt 2 arm.left && is_kept arm.mode)

-- what is printed where something fires
abbrev pub broken_line : ℕ → Bool → Line
broken_line n true = stopped n
broken_line n false = fault n

-- the scene after a step in which nothing fires
abbrev pub completed : Setup → Scene → ℕ → Answer → Event → Option Arm → Scene
completed setup scene n answer event rest =
    record { world = after_event setup scene.world event; fresh = scene.fresh ++ map (λ sent. true) answer.sends; arms = set scene.arms n rest }

-- the scene after a step in which something fires
abbrev pub broken_off : Setup → Scene → ℕ → Event → Scene
broken_off setup scene n event = record scene { world = after_event setup scene.world event; arms = set scene.arms n None }

-- what a step prints, and the scene after it
abbrev pub attempted : Setup → Scene → ℕ → Answer → (Ending → Event) → Reached → List Line × Scene
attempted setup scene n answer event (waits rest) = (map told answer.lines, completed setup scene n answer (event whole) rest)
attempted setup scene n answer event (fires arm) = (broken_line n arm.stop ∷ [], broken_off setup scene n (event (ending_by arm)))

-- what a decider makes of an input, where it has this in memory
abbrev pub answer_of : Setup → Scene → ℕ → Input → List Entry → Answer
answer_of setup scene n input entries = step setup (record { me = n; records = records_at scene.world n; entries = entries }) input

-- A decider that is up is given an input; one that is down says so.
abbrev pub given : Setup → Scene → ℕ → Input → (Ending → Event) → Option (List Entry) → List Line × Scene
given setup scene n input event None = (down n ∷ [], scene)
given setup scene n input event (Some entries) =
    let answer = answer_of setup scene n input entries in attempted setup scene n answer event (reached_by answer.appended (arm_at scene n))

-- what a decider has in memory, where it is up
abbrev pub memory_at : Scene → ℕ → Option (List Entry)
memory_at scene n = (decider_at scene.world n).memory

-- A decider proposes an outcome.
abbrev pub proposed : Setup → Scene → ℕ → TxnId → Bool → List Line × Scene
proposed setup scene n txn commits = given setup scene n (propose txn commits) (λ ending. proposal n txn commits ending) (memory_at scene n)

-- A message is done, and its receiver takes it.
abbrev pub taken : Setup → Scene → ℕ → Option Envelope → List Line × Scene
taken setup scene number None = (no_message number ∷ [], scene)
taken setup scene number (Some envelope) =
    given setup (with_done scene number) envelope.to (receive envelope.from envelope.message) (λ ending. delivery number ending) (memory_at scene envelope.to)

abbrev pub delivered : Setup → Scene → ℕ → List Line × Scene
delivered setup scene number = taken setup scene number (slice_get scene.world.sent number)

-- A message is done without being taken.
abbrev pub lost : Scene → ℕ → Option Envelope → List Line × Scene
lost scene number None = (no_message number ∷ [], scene)
lost scene number (Some envelope) = ([], with_done scene number)

-- the marks of the messages, where those to a decider are done
abbrev pub without : ℕ → List Envelope → List Bool → List Bool
without n [] marks = []
without n (envelope ∷ sent) [] = []
without n (envelope ∷ sent) (mark ∷ marks) = (mark && not (envelope.to == n)) ∷ without n sent marks

-- A decider stops between steps.
abbrev pub halted : Setup → Scene → ℕ → Option (List Entry) → List Line × Scene
halted setup scene n None = (down n ∷ [], scene)
halted setup scene n (Some entries) = (stopped n ∷ [], record scene { world = after_event setup scene.world (stop n) })

-- A start makes one sync, and then reads.
abbrev pub opened : Setup → Scene → ℕ → Reached → List Line × Scene
opened setup scene n (waits rest) = (started n ∷ [], record scene { world = after_event setup scene.world (start n); arms = set scene.arms n rest })
opened setup scene n (fires arm) = (broken_line n arm.stop ∷ [], with_arm scene n None)

-- A decider that is down starts.
abbrev pub begun : Setup → Scene → ℕ → Option (List Entry) → List Line × Scene
begun setup scene n (Some entries) = (up n ∷ [], scene)
begun setup scene n None = opened setup scene n (reached 1 (arm_at scene n))

-- the least fresh message
abbrev pub next_fresh : Scene → Option ℕ
next_fresh scene = position (λ mark. mark) scene.fresh
