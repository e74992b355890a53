-- What a step of a decider does, by its answer.
use Rattle.std.specs.Prelude.{◌≡◌, ℕ, true, false, ◌++◌, Option, Some, None, Result, Ok, Err, map}
use Rattle.std.specs.Option.{option_to_list}
use Rattle.pv_disk_model.specs.Calls.{Makes}
use Rattle.pv_disk_model.specs.Log.{Keeps, Adds, MayAdd, StaysUp, GoesDown}
use Rattle.pv_disk_model.specs.LogModel.{LogModel}
use Rattle.pv_law_quorum.specs.Decider.{Here, Input, Answer, step}
use Rattle.pv_law_quorum.specs.Record.{Record}
use Rattle.pv_quorum.specs.DeciderState.{DeciderState, StandsFor, setup_of}
use Rattle.pv_quorum.specs.Spelling.{IsInRange, record_bytes}
use Rattle.pv_quorum.specs.Values.{outgoing_of, lines_of}
use Rattle.pv_quorum.specs.Writing.{append_calls}
use Rattle.pv_quorum.specs.declared.error.QuorumError.{QuorumError}
use Rattle.pv_quorum.specs.declared.error.QuorumError.TheVariants.{Fault, Down, NoMemory}
use Rattle.pv_quorum.specs.declared.message.QuorumStep.{QuorumStep}

-- The decider after an answer.
abbrev pub after : Here → Answer → Here
after here answer = record here { records = here.records ++ option_to_list answer.appended; entries = answer.entries }

-- The step sends and reports what the answer says.
pub record Gives (me : ℕ) (made : QuorumStep) (answer : Answer) : Type 0 where
  pub sends : answer.sends ≡ map outgoing_of made.sends.items
  pub lines : answer.lines ≡ lines_of me made

module _ {W : Type 0} (M : LogModel W) where
  -- What a step makes of the log: it isn't touched, or it holds the step's record. For those who know what the log is, also by which calls.
  abbrev pub Logs : W → W → Option Record → Type 0
  Logs old new None = new ≡ old
  Logs old new (Some entry) = StaysUp M old new × Adds M old new (record_bytes entry) × Makes M.goes old (append_calls (record_bytes entry)) true new

  -- The decider has made this step.
  pub record HasMade (old new : DeciderState W) (here : Here) (made : QuorumStep) (answer : Answer) : Type 0 where
    pub gives : Gives old.me made answer
    pub stands : StandsFor M new (after here answer)
    pub log : Logs old.log new.log answer.appended

  -- The log failed at this record, which it holds or doesn't, and the decider is down.
  pub record Breaks (old new : DeciderState W) (appended : Option Record) : Type 0 where
    pub entry : Record
    pub was_to : appended ≡ Some entry
    pub range : IsInRange entry
    pub decider : new ≡ record old { is_down = true; log = new.log }
    pub down : GoesDown M old.log new.log
    pub log : MayAdd M old.log new.log (record_bytes entry)
    pub calls : Makes M.goes old.log (append_calls (record_bytes entry)) false new.log

  -- There was no memory, and the decider stands for what it stood for.
  pub record Stays (old new : DeciderState W) : Type 0 where
    pub decider : new ≡ record old { log = new.log }
    pub up : StaysUp M old.log new.log
    pub log : Keeps M old.log new.log

  -- A step of a decider that stands for this one of the rules, by its answer.
  abbrev pub Steps : DeciderState W → DeciderState W → Here → Input → Result QuorumStep QuorumError → Type 0
  Steps old new here input (Ok made) = HasMade old new here made (step (setup_of old.count (M.limit old.log)) here input)
  Steps old new here input (Err Fault) = Breaks old new (step (setup_of old.count (M.limit old.log)) here input).appended
  Steps old new here input (Err Down) = ⊥
  Steps old new here input (Err NoMemory) = Stays old new
