-- Ballots, messages, inputs and steps as the rules' data.
use Rattle.std.specs.Prelude.{ℕ, Bool, true, false, List, [], ◌∷◌, ◌++◌, Option, Some, None}
use Rattle.std.specs.Option.{option_map}
use Rattle.pv_base.specs.declared.txn.TxnId.{TxnId}
use Rattle.pv_law_quorum.specs.Ballot as law
use Rattle.pv_law_quorum.specs.Decider as rules
use Rattle.pv_law_quorum.specs.Decider.{prepare, promise, accept, accepted, propose, receive, decided, spent, full}
use Rattle.pv_law_quorum.specs.Record as records
use Rattle.pv_law_quorum.specs.Record.{ballot_promised, value_accepted}
use Rattle.pv_quorum.specs.declared.ballot.Ballot.{Ballot}
use Rattle.pv_quorum.specs.declared.message.QuorumInput.{QuorumInput}
use Rattle.pv_quorum.specs.declared.message.QuorumInput.TheVariants.{Propose, Take}
use Rattle.pv_quorum.specs.declared.message.QuorumMessage.{QuorumMessage}
use Rattle.pv_quorum.specs.declared.message.QuorumMessage.TheVariants.{Prepare, Promise, Accept, Accepted}
use Rattle.pv_quorum.specs.declared.message.QuorumSend.{QuorumSend}
use Rattle.pv_quorum.specs.declared.message.QuorumStep.{QuorumStep}
use Rattle.pv_quorum.specs.declared.record.Record.{Record}
use Rattle.pv_quorum.specs.declared.record.Record.TheVariants as kept

-- The ballot as plain data.
abbrev pub ballot_of : Ballot → law.Ballot
ballot_of ballot = record { number = ballot.number; decider = ballot.decider }

-- A ballot in which a value was accepted, and the value.
abbrev pub vote_of : Ballot × Bool → records.Vote
vote_of vote = record { ballot = ballot_of vote.0; commits = vote.1 }

-- The message as plain data.
abbrev pub message_of : QuorumMessage → rules.Message
message_of (Prepare txn ballot) = prepare txn (ballot_of ballot)
message_of (Promise txn ballot last) = promise txn (ballot_of ballot) (option_map vote_of last)
message_of (Accept txn ballot commits) = accept txn (ballot_of ballot) commits
message_of (Accepted txn ballot) = accepted txn (ballot_of ballot)

-- the transaction that a message is of
abbrev pub txn_in : QuorumMessage → TxnId
txn_in (Prepare txn ballot) = txn
txn_in (Promise txn ballot last) = txn
txn_in (Accept txn ballot commits) = txn
txn_in (Accepted txn ballot) = txn

-- The input as plain data.
abbrev pub input_of : QuorumInput → rules.Input
input_of (Propose txn commits) = propose txn commits
input_of (Take from message) = receive from (message_of message)

-- the transaction that an input is of
abbrev pub txn_of : QuorumInput → TxnId
txn_of (Propose txn commits) = txn
txn_of (Take from message) = txn_in message

-- The message and where it goes, as plain data.
abbrev pub outgoing_of : QuorumSend → rules.Outgoing
outgoing_of send = record { to = send.to; message = message_of send.message }

-- The record as plain data.
abbrev pub record_of : Record → records.Record
record_of (kept.Promised txn ballot) = ballot_promised txn (ballot_of ballot)
record_of (kept.Accepted txn ballot commits) = value_accepted txn (ballot_of ballot) commits

-- the line of a decision
abbrev pub decided_line : ℕ → Option (TxnId × Bool) → List rules.Line
decided_line me None = []
decided_line me (Some outcome) = decided me outcome.0 outcome.1 ∷ []

-- the line of a log that has no room
abbrev pub full_line : ℕ → Option ℕ → List rules.Line
full_line me None = []
full_line me (Some length) = full me length ∷ []

-- the line of a decider without a number for a ballot
abbrev pub spent_line : ℕ → Bool → List rules.Line
spent_line me false = []
spent_line me true = spent me ∷ []

-- what a step reports
abbrev pub lines_of : ℕ → QuorumStep → List rules.Line
lines_of me step = decided_line me step.decided ++ (full_line me step.full ++ spent_line me step.spent)
