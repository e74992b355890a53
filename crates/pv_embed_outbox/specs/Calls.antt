-- What the calls of an outbox with a host do, by their answers.
use Rattle.std.specs.Prelude.{◌≡◌, ℕ, ℤ, ◌<◌, ◌≤◌, nat_le, Bool, true, List, [], ◌∷◌, ◌++◌, Some, Result, Ok, Err, if◌then◌else◌}
use Rattle.pv_base.specs.Polyvalue.{Case}
use Rattle.pv_base.specs.declared.limits.TheConstants.{MAX_SITES}
use Rattle.pv_base.specs.declared.txn.TxnId.{TxnId}
use Rattle.pv_host.specs.HostLaws.{host_model}
use Rattle.pv_law_outbox.specs.Ready.{NoneReady}
use Rattle.pv_law_outbox.specs.Runs.{MayWrite}
use Rattle.pv_law_outbox.specs.State.{Record, held, learnt, taken, is_held, outcome_of}
use Rattle.pv_outbox.specs.Calls as box
use Rattle.pv_outbox_script.specs.Condition.{IsCondition}
use Rattle.pv_embed_outbox.specs.Hosted.{HostedState, Stays, TakesFirst, log_length, stored_length}
use Rattle.pv_embed_outbox.specs.declared.fault.HoldFault.{HoldFault}
use Rattle.pv_embed_outbox.specs.declared.fault.HoldFault.TheVariants as holding
use Rattle.pv_embed_outbox.specs.declared.fault.LearnFault.{LearnFault}
use Rattle.pv_embed_outbox.specs.declared.fault.LearnFault.TheVariants as learning
use Rattle.pv_embed_outbox.specs.declared.fault.ReleaseFault.{ReleaseFault}
use Rattle.pv_embed_outbox.specs.declared.fault.ReleaseFault.TheVariants as releasing
use Rattle.pv_embed_outbox.specs.declared.fault.TakeFault.{TakeFault}

-- The record may be written and was added to the log: the host is to write it. The outbox knows what it says.
pub record Adds (old new : HostedState) (entry : Record) : Type 0 where
  pub may : MayWrite old.outbox.state entry
  pub writes : box.Writes host_model old.outbox new.outbox entry

-- The record may be written, and has no room: with it the journal would have this length.
pub record HasNoRoom (old new : HostedState) (entry : Record) (with_it : ℕ) : Type 0 where
  pub may : MayWrite old.outbox.state entry
  pub full : box.IsFull host_model old.outbox new.outbox entry with_it
  pub same : new ≡ old

-- The host's file has all records, or there are some that wait to be written.
abbrev pub IsWritten : HostedState → Type 0
IsWritten hosted = log_length hosted ≤ stored_length hosted

abbrev pub IsUnwritten : HostedState → Type 0
IsUnwritten hosted = stored_length hosted < log_length hosted

-- An output is held under the condition that the text spells, by the answer.
abbrev pub HoldsBy : {X : Type 0} → HostedState → HostedState → ℕ → List ℕ → Result X HoldFault → Type 0
HoldsBy old new output text (Ok _) = (when : List (Case ℤ)) × IsCondition text when × Adds old new (held output when) × (new.released ≡ old.released)
HoldsBy old new output text (Err holding.BadCases) = ((when : List (Case ℤ)) → IsCondition text when → ⊥) × (new ≡ old)
HoldsBy old new output text (Err holding.Unwritten) =
    ((when : List (Case ℤ)) × IsCondition text when) × (is_held old.outbox.state output ≡ true) × IsUnwritten old × (new ≡ old)
HoldsBy old new output text (Err holding.Again) =
    ((when : List (Case ℤ)) × IsCondition text when) × (is_held old.outbox.state output ≡ true) × IsWritten old × (new ≡ old)
HoldsBy old new output text (Err (holding.Full with_it)) = (when : List (Case ℤ)) × IsCondition text when × HasNoRoom old new (held output when) with_it
HoldsBy old new output text (Err holding.NoMemory) = Stays old new

-- An outcome is learnt, by the answer.
abbrev pub LearnsBy : {X : Type 0} → HostedState → HostedState → TxnId → Bool → Result X LearnFault → Type 0
LearnsBy old new txn commits (Ok _) = (txn.site.0 < MAX_SITES) × Adds old new (learnt txn commits) × (new.released ≡ old.released)
LearnsBy old new txn commits (Err learning.NoSite) = (MAX_SITES ≤ txn.site.0) × (new ≡ old)
LearnsBy old new txn commits (Err learning.Unwritten) =
    (txn.site.0 < MAX_SITES) × ((outcome : Bool) × (outcome_of old.outbox.state txn ≡ Some outcome)) × IsUnwritten old × (new ≡ old)
LearnsBy old new txn commits (Err (learning.Known outcome)) =
    (txn.site.0 < MAX_SITES) × (outcome_of old.outbox.state txn ≡ Some outcome) × IsWritten old × (new ≡ old)
LearnsBy old new txn commits (Err (learning.Full with_it)) = (txn.site.0 < MAX_SITES) × HasNoRoom old new (learnt txn commits) with_it
LearnsBy old new txn commits (Err learning.NoMemory) = Stays old new

-- The ready output that was held first is released, by the answer: it is to be taken once so much of the log as there is then is in the host's file.
abbrev pub ReleasesBy : {X : Type 0} → HostedState → HostedState → Result X ReleaseFault → Type 0
ReleasesBy old new (Ok _) =
    (output : ℕ) × Adds old new (taken output) × (new.released ≡ old.released ++ record { length = log_length new; output = output } ∷ [])
ReleasesBy old new (Err releasing.NoneReady) = NoneReady old.outbox.state old.outbox.state.held × (new ≡ old)
ReleasesBy old new (Err (releasing.Full with_it)) = (output : ℕ) × HasNoRoom old new (taken output) with_it
ReleasesBy old new (Err releasing.NoMemory) = Stays old new

-- An output is taken, by the answer: the first that was released, where the host's file has the record of that.
abbrev pub TakesBy : HostedState → HostedState → Result ℕ TakeFault → Type 0
TakesBy old new result = TakesFirst (stored_length old) old.released new.released result × (new ≡ record old { released = new.released })

-- why an output isn't held that was held before, where the log is so long and so much of it is in the file
abbrev pub before_fault : ℕ → ℕ → HoldFault
before_fault length stored = if nat_le length stored then holding.Again else holding.Unwritten

-- why an outcome isn't learnt where this one was before
abbrev pub known_fault : ℕ → ℕ → Bool → LearnFault
known_fault length stored outcome = if nat_le length stored then learning.Known outcome else learning.Unwritten
