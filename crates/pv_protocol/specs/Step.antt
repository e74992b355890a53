-- A running site's step, by what it is given.
use Rattle.std.specs.Prelude.{ℕ, List, ◌++◌}
use Rattle.std.specs.Option.{option_to_list}
use Rattle.pv_format.specs.Message.{Message, lock, granted, denied, prepare, vote_yes, vote_no, outcome_reported, ask}
use Rattle.pv_format.specs.Record.{Record}
use Rattle.pv_protocol.specs.Granted.{on_granted, on_denied}
use Rattle.pv_protocol.specs.Here.{Here}
use Rattle.pv_protocol.specs.Lock.{on_submit, on_lock}
use Rattle.pv_protocol.specs.Outcome.{on_outcome, on_ask}
use Rattle.pv_protocol.specs.State.{Setup, Running, Input, submit, receive, tick, Step}
use Rattle.pv_protocol.specs.Tick.{on_tick}
use Rattle.pv_protocol.specs.Vote.{on_prepare, on_yes, on_no}

-- The site takes a message from a site.
abbrev pub on_message : Here → ℕ → Message → Step
on_message here from (lock txn wants) = on_lock here from txn wants
on_message here from (granted txn grant values) = on_granted here from txn grant values
on_message here from (denied txn item holder) = on_denied here from txn item holder
on_message here from (prepare txn grant writes) = on_prepare here from txn grant writes
on_message here from (vote_yes txn) = on_yes here from txn
on_message here from (vote_no txn cause) = on_no here from txn cause
on_message here from (outcome_reported txn commits) = on_outcome here from txn commits
on_message here from (ask txn) = on_ask here from txn

-- The site takes an input.
abbrev pub step_on : Here → Input → Step
step_on here (submit program) = on_submit here program
step_on here (receive from message) = on_message here from message
step_on here tick = on_tick here

-- The step of the site of this number, with these records, as they are written, and this memory.
abbrev pub site_step : Setup → ℕ → List Record → Running → Input → Step
site_step setup me records running input = step_on (record { me = me; setup = setup; records = records; surplus = 0; running = running }) input

-- the records after a step
abbrev pub records_after : List Record → Step → List Record
records_after records step = records ++ option_to_list step.appended

-- the site after a step
abbrev pub after_step : Here → Step → Here
after_step here step = record here { records = records_after here.records step; running = step.running }
