-- What a decider has in memory of a transaction, against its records and entries.
use Rattle.std.specs.Prelude.{◌≡◌, ℕ, Bool, false, not, List, Option, Some, None, get_or, ⊤}
use Rattle.std.specs.Option.{option_map, option_map_or}
use Rattle.pv_base.specs.declared.txn.TxnId.{TxnId}
use Rattle.pv_law_quorum.specs.Decider as rules
use Rattle.pv_law_quorum.specs.Decider.{entry_of, is_among, asking, accepting}
use Rattle.pv_law_quorum.specs.Record.{Record, Vote, promised, last_vote, has_accepted}
use Rattle.pv_quorum.specs.Values.{ballot_of, vote_of}
use Rattle.pv_quorum.specs.declared.ballot.Ballot.{Ballot}
use Rattle.pv_quorum.specs.declared.known.Known.{Known}
use Rattle.pv_quorum.specs.declared.known.Phase.{Phase}
use Rattle.pv_quorum.specs.declared.known.Phase.TheVariants.{Asking, Accepting}
use Rattle.pv_quorum.specs.declared.known.Proposal.{Proposal}

-- The mark of this number is set.
abbrev pub marked : List Bool → ℕ → Bool
marked marks n = get_or marks n false

-- Both values are recorded in the ballot of the last vote.
abbrev pub has_both : TxnId → List Record → Bool
has_both txn entries = option_map_or (λ (vote : Vote). has_accepted entries txn vote.ballot (not vote.commits)) (last_vote txn entries) false

-- This is the last vote by the records, and whether the other value is recorded in its ballot too.
pub record AreValues (txn : TxnId) (entries : List Record) (last : Option (Ballot × Bool)) (both : Bool) : Type 0 where
  pub last_is : last_vote txn entries ≡ option_map vote_of last
  pub both_is : has_both txn entries ≡ both

-- What is known of the transaction is what the records say.
pub record IsRecorded (txn : TxnId) (entries : List Record) (known : Known) : Type 0 where
  pub promised_is : promised txn entries ≡ option_map ballot_of known.promised
  pub values : AreValues txn entries known.last known.both

-- The phase as plain data.
abbrev pub phase_of : Phase → rules.Phase
phase_of Asking = asking
phase_of Accepting = accepting

-- The proposal is this entry.
pub record IsProposed (txn : TxnId) (entry : rules.Entry) (proposal : Proposal) : Type 0 where
  pub txn_is : entry.txn ≡ txn
  pub ballot : entry.ballot ≡ ballot_of proposal.ballot
  pub commits : entry.commits ≡ proposal.commits
  pub phase : entry.phase ≡ phase_of proposal.phase
  pub counted : (n : ℕ) → is_among entry.counted n ≡ marked proposal.counted.deciders n
  pub last : entry.last ≡ option_map vote_of proposal.last

-- There is a proposal exactly where there is an entry, and then it is that.
abbrev pub IsProposal : TxnId → Option rules.Entry → Option Proposal → Type 0
IsProposal txn None None = ⊤
IsProposal txn (Some entry) (Some proposal) = IsProposed txn entry proposal
IsProposal txn _ _ = ⊥

-- What is known of the transaction is what the decider has of it.
pub record Knows (here : rules.Here) (txn : TxnId) (known : Known) : Type 0 where
  pub recorded : IsRecorded txn here.records known
  pub proposal : IsProposal txn (entry_of txn here.entries) known.proposal
