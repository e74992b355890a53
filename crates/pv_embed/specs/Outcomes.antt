-- What a site with a host tells of a transaction that it coordinates.
use Rattle.std.specs.Prelude.{◌≡◌, ◌≢◌, ◌<◌, ◌≤◌, ℕ, Bool, true, false, List, [], ◌∷◌, Option, Some, None, Result, Ok, Err}
use Rattle.pv_base.specs.declared.txn.TxnId.{TxnId}
use Rattle.pv_format.specs.Message.{Message, outcome_reported}
use Rattle.pv_protocol.specs.Here.{Here}
use Rattle.pv_protocol.specs.Outcome.{is_issued, on_ask, works_on}
use Rattle.pv_protocol.specs.Records.{known}
use Rattle.pv_protocol.specs.State.{Outgoing, Running}
use Rattle.pv_site.specs.SiteState.{here_with}
use Rattle.pv_embed.specs.Hosted.{HostedState, Stays, log_length, stored_length}
use Rattle.pv_embed.specs.declared.asked.Outcome.{Outcome}
use Rattle.pv_embed.specs.declared.asked.Outcome.TheVariants.{Committed, NotCommitted, AtWork}
use Rattle.pv_embed.specs.declared.asked.OutcomeFault.{OutcomeFault}
use Rattle.pv_embed.specs.declared.asked.OutcomeFault.TheVariants.{NotHere, Unwritten, NotBegun, NoMemory}

-- the transaction of a site that has these numbers
abbrev pub own_txn : ℕ → ℕ → ℕ → TxnId
own_txn site epoch number = record { site = record { 0 = site }; epoch = epoch; number = number }

-- the outcome that a message reports
abbrev pub outcome_of : Message → Option Bool
outcome_of (outcome_reported txn commits) = Some commits
outcome_of other = None

-- the outcome that the first of these messages reports
abbrev pub reported : List Outgoing → Option Bool
reported [] = None
reported (first ∷ others) = outcome_of first.message

-- What a site answers to a question of this site for the outcome, which changes nothing.
abbrev pub AnswersAsk : {E : Type 0} → HostedState → HostedState → TxnId → Result (Option Bool) E → Type 0
AnswersAsk old new txn (Ok answer) =
    (new ≡ old) × ((running : Running) × (old.site.running ≡ Some running) × (answer ≡ reported (on_ask (here_with old.site running) old.site.me txn).sends))
AnswersAsk old new txn (Err _) = Stays old new

-- What became of a transaction of the site. It has committed where the site has given its number and a record says so. It will never commit where its number was given,
-- no record says that it commits, and the site doesn't work on it: by restarts all that isn't recorded is forgotten. The site works on it while it has an entry.
abbrev pub IsOutcome : Here → TxnId → Outcome → Type 0
IsOutcome here txn Committed = (is_issued here txn ≡ true) × (known here.records txn ≡ Some true)
IsOutcome here txn NotCommitted = (is_issued here txn ≡ true) × (known here.records txn ≢ Some true) × (works_on here.running txn ≡ false)
IsOutcome here txn AtWork = (works_on here.running txn ≡ true) × (is_issued here txn ≡ true → known here.records txn ≢ Some true)

-- The site may give the number to a transaction yet.
pub record IsNotBegun (here : Here) (txn : TxnId) : Type 0 where
  pub not_issued : is_issued here txn ≡ false
  pub idle : works_on here.running txn ≡ false

-- The transaction is the site's, and all of its log is in the host's file.
pub record MayTell (hosted : HostedState) (txn : TxnId) : Type 0 where
  pub here : txn.site.0 ≡ hosted.site.me
  pub written : log_length hosted ≤ stored_length hosted

-- What is told of a transaction, by the answer. The outcome is told only where all of the site's log is in the host's file, so that no crash undoes what it rests on.
abbrev pub TellsOutcome : HostedState → HostedState → TxnId → Result Outcome OutcomeFault → Type 0
TellsOutcome old new txn (Ok outcome) =
    (new ≡ old) × MayTell old txn × ((running : Running) × (old.site.running ≡ Some running) × IsOutcome (here_with old.site running) txn outcome)
TellsOutcome old new txn (Err NotHere) = (new ≡ old) × (txn.site.0 ≢ old.site.me)
TellsOutcome old new txn (Err Unwritten) = (new ≡ old) × (txn.site.0 ≡ old.site.me) × (stored_length old < log_length old)
TellsOutcome old new txn (Err NotBegun) =
    (new ≡ old) × MayTell old txn × ((running : Running) × (old.site.running ≡ Some running) × IsNotBegun (here_with old.site running) txn)
TellsOutcome old new txn (Err NoMemory) = Stays old new
