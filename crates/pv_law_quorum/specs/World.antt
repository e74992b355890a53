-- The world of deciders: what was sent between them, and runs, in which messages come late, again or never and deciders stop anywhere.
use Rattle.std.specs.Prelude.{◌≡◌, ℕ, zero, suc, ◌≤◌, Bool, true, Option, Some, None, List, [], ◌∷◌, ◌++◌, map, replicate, get_or, set, slice_get, option_to_list, if◌then◌else◌}
use Rattle.pv_base.specs.declared.txn.TxnId.{TxnId}
use Rattle.pv_law_quorum.specs.Ballot.{Ballot, is_majority}
use Rattle.pv_law_quorum.specs.Record.{Record, has_accepted}
use Rattle.pv_law_quorum.specs.Decider.{Setup, Message, Entry, Input, propose, receive, Line, Outgoing, Answer, step}

-- A decider: its records, oldest first, and what it has in memory where it is up.
pub record Decider : Type 0 where
  pub records : List Record
  pub memory : Option (List Entry)

-- a message with its sender
pub record Envelope : Type 0 where
  pub from : ℕ
  pub to : ℕ
  pub message : Message

-- All deciders, by their numbers; every message that was ever sent, by its number; and what was reported so far. A message may be
-- delivered at any later time, again, or never.
pub record World : Type 0 where
  pub deciders : List Decider
  pub sent : List Envelope
  pub lines : List Line

-- How a step ends: it is done; or the decider stops, or its disk fails, in one of the writes or syncs of its append, and its record is
-- there or isn't.
pub data Ending : Type 0 where
  whole : Ending
  broken : (recorded : Bool) → Ending

-- what may happen next
pub data Event : Type 0 where
  proposal : (n : ℕ) → TxnId → (commits : Bool) → Ending → Event
  delivery : (number : ℕ) → Ending → Event
  stop : (n : ℕ) → Event
  start : (n : ℕ) → Event

-- a decider that isn't there
abbrev pub no_decider : Decider
no_decider = record { records = []; memory = None }

-- the decider of this number
abbrev pub decider_at : World → ℕ → Decider
decider_at world n = get_or world.deciders n no_decider

-- its records
abbrev pub records_at : World → ℕ → List Record
records_at world n = (decider_at world n).records

-- the world where a decider has these records and this in memory
abbrev pub with_content : World → ℕ → List Record → Option (List Entry) → World
with_content world n records memory = record world { deciders = set world.deciders n (record { records = records; memory = memory }) }

-- the messages that a decider sends, each with its sender
abbrev pub from_decider : ℕ → List Outgoing → List Envelope
from_decider n sends = map (λ outgoing. record { from = n; to = outgoing.to; message = outgoing.message }) sends

-- The world after an answer. Where the step is broken the decider is down, and has sent and reported nothing.
abbrev pub ended : World → ℕ → Answer → Ending → World
ended world n answer whole =
    let changed = with_content world n (records_at world n ++ option_to_list answer.appended) (Some answer.entries) in
    record changed { sent = world.sent ++ from_decider n answer.sends; lines = world.lines ++ answer.lines }
ended world n answer (broken recorded) =
    with_content world n (records_at world n ++ (if recorded then option_to_list answer.appended else [])) None

-- A decider that is up is given an input; nothing happens to one that is down.
abbrev pub given : Setup → World → ℕ → Input → Ending → Option (List Entry) → World
given setup world n input ending None = world
given setup world n input ending (Some entries) =
    ended world n (step setup (record { me = n; records = records_at world n; entries = entries }) input) ending

-- a message is delivered, if there is one of this number
abbrev pub delivered : Setup → World → Ending → Option Envelope → World
delivered setup world ending None = world
delivered setup world ending (Some envelope) =
    given setup world envelope.to (receive envelope.from envelope.message) ending (decider_at world envelope.to).memory

-- what a start makes of a decider's memory: one that was down is up, with nothing in it
abbrev pub started : Option (List Entry) → Option (List Entry)
started None = Some []
started (Some entries) = Some entries

-- the world after an event
abbrev pub after_event : Setup → World → Event → World
after_event setup world (proposal n txn commits ending) = given setup world n (propose txn commits) ending (decider_at world n).memory
after_event setup world (delivery number ending) = delivered setup world ending (slice_get world.sent number)
after_event setup world (stop n) = with_content world n (records_at world n) None
after_event setup world (start n) = with_content world n (records_at world n) (started (decider_at world n).memory)

-- the world after these events
abbrev pub after : Setup → World → List Event → World
after setup world [] = world
after setup world (event ∷ events) = after setup (after_event setup world event) events

-- so many messages from this number on are delivered, one after another
abbrev pub deliveries : (number count : ℕ) → List Event
deliveries number zero = []
deliveries number (suc count) = delivery number whole ∷ deliveries (suc number) count

-- Where a run begins: all deciders are up, and nothing has happened.
abbrev pub opening : Setup → World
opening setup = record { deciders = replicate setup.deciders (record { records = []; memory = Some [] }); sent = []; lines = [] }

-- A value is chosen for a transaction where a majority has accepted it in one ballot.
pub record IsChosen (setup : Setup) (world : World) (txn : TxnId) (commits : Bool) : Type 0 where
  pub ballot : Ballot
  pub by_most : is_majority setup.deciders (λ n. has_accepted (records_at world n) txn ballot commits) ≡ true

-- There are three to five deciders.
pub record IsFit (setup : Setup) : Type 0 where
  pub least : 3 ≤ setup.deciders
  pub most : setup.deciders ≤ 5
