-- That a coordinator asks for votes on a transaction only once its number was let out, and what is so of a deployment for that.
use Rattle.std.specs.Prelude.{◌≡◌, ℕ, ◌<◌, true, Option, Some, None, List, [], ◌∷◌, ◌++◌, map, All}
use Rattle.std.specs.List.{Contains}
use Rattle.pv_base.specs.declared.txn.TxnId.{TxnId}
use Rattle.pv_disk_model.specs.Size.{Contents}
use Rattle.pv_format.specs.Contents.{SpellRecords}
use Rattle.pv_format.specs.Journal.{IsJournal}
use Rattle.pv_format.specs.Message.{Message, prepare, vote_yes, outcome_reported}
use Rattle.pv_format.specs.Record.{Record, prepared, outcome_known}
use Rattle.pv_protocol.specs.Committed.{home_of}
use Rattle.pv_protocol.specs.State.{Entry, Running, Setup, began}
use Rattle.pv_embed.specs.Held.{Held, Out, message, note}
use Rattle.pv_embed.specs.Hosted.{HostedState}
use Rattle.pv_law_hosted.specs.Deployment.{Deployment, Station, station_at}

-- ## Messages and records
-- The message asks for a vote on the transaction.
abbrev pub AsksForVote : TxnId → Message → Type 0
AsksForVote txn (prepare asked grant writes) = asked ≡ txn
AsksForVote txn other = ⊥

-- The message says that a participant has voted for the transaction, or that it has committed.
abbrev pub SaysVoted : TxnId → Message → Type 0
SaysVoted txn (vote_yes voted) = voted ≡ txn
SaysVoted txn (outcome_reported decided commits) = (decided ≡ txn) × (commits ≡ true)
SaysVoted txn other = ⊥

-- The record says so.
abbrev pub RecordsVote : TxnId → Record → Type 0
RecordsVote txn (prepared promised writes) = promised ≡ txn
RecordsVote txn (outcome_known decided commits) = (decided ≡ txn) × (commits ≡ true)
RecordsVote txn other = ⊥

-- what is let out, if it is such a message
abbrev pub IsAsking : TxnId → Out → Type 0
IsAsking txn (message envelope) = AsksForVote txn envelope.message
IsAsking txn (note reported) = ⊥

abbrev pub IsSaying : TxnId → Out → Type 0
IsSaying txn (message envelope) = SaysVoted txn envelope.message
IsSaying txn (note reported) = ⊥

-- ## A deployment
-- A station that has let out this has asked for a vote on the transaction, behind its number.
pub record IsAskedAfter (txn : TxnId) (let_out : List Out) : Type 0 where
  pub earlier : List Out
  pub out : Out
  pub later : List Out
  pub split : let_out ≡ earlier ++ out ∷ later
  pub asking : IsAsking txn out
  pub numbered : Contains earlier (note (began txn))

-- Some station has let out that it asks for a vote on the transaction.
abbrev pub WereVotesAsked : Deployment → TxnId → Type 0
WereVotesAsked d txn = (n : ℕ) × (out : Out) × Contains (station_at d n).let_out out × IsAsking txn out

-- what the site of a process holds
abbrev pub held_by : Option HostedState → List Out
held_by None = []
held_by (Some hosted) = map (λ (one : Held). one.out) hosted.held

-- all that the station has let out, and what it holds
abbrev pub outs_of : Station → List Out
outs_of station = station.let_out ++ held_by station.hosted

-- What a site works on, its number is among these.
abbrev pub IsNumbered : TxnId → List Out → Entry → Type 0
IsNumbered txn outs entry = entry.txn ≡ txn → Contains outs (note (began txn))

-- Where a record speaks of votes on the transaction, this holds: that votes were asked for.
abbrev pub IsKept : TxnId → Type 0 → Record → Type 0
IsKept txn asked kept = RecordsVote txn kept → asked

-- A site's records, and what it works on; or the records in the file that a process left.
abbrev pub HasNumbers : TxnId → Type 0 → List Out → List ℕ → Option HostedState → Type 0
HasNumbers txn asked outs file None =
    (records : List Record) (contents : Contents) → IsJournal contents file → SpellRecords records contents → All (IsKept txn asked) records
HasNumbers txn asked outs file (Some hosted) =
    All (IsKept txn asked) hosted.site.records × ((running : Running) → hosted.site.running ≡ Some running → All (IsNumbered txn outs) running.entries)

-- Of a transaction, at the station of this number: before whatever asks for a vote on it stands its number, which is of this site; and what speaks of votes is there only
-- where votes were asked for.
pub record IsNumberFirst (txn : TxnId) (asked : Type 0) (n : ℕ) (station : Station) : Type 0 where
  pub first : (earlier later : List Out) (out : Out) → outs_of station ≡ earlier ++ out ∷ later → IsAsking txn out → Contains earlier (note (began txn))
  pub own : Contains (outs_of station) (note (began txn)) → home_of txn ≡ n
  pub says : All (λ (out : Out). IsSaying txn out → asked) (outs_of station)
  pub process : HasNumbers txn asked (outs_of station) station.file station.hosted

-- So it is at all stations, of each transaction.
abbrev pub AreNumbersFirst : Setup → Deployment → Type 0
AreNumbersFirst setup d = (txn : TxnId) (n : ℕ) → n < setup.catalog.sites → IsNumberFirst txn (WereVotesAsked d txn) n (station_at d n)
