-- What an answer of the rules leaves as it is, and what it is of.
use Rattle.std.proofs.Common.{◌≡◌, ℕ, Bool, true, false, Option, Some, None, ◌∷◌, refl, sym, ap, ◌∙◌}
use Rattle.std.specs.Prelude.{if◌then◌else◌, nat_le, ⊤}
use Rattle.pv_base.specs.Assignment.{is_same_txn}
use Rattle.pv_base.specs.declared.txn.TxnId.{TxnId}
use Rattle.pv_law_quorum.specs.Ballot.{Ballot, greater, is_above, is_majority, is_passed}
use Rattle.pv_law_quorum.specs.Decider.{Setup, Here, Entry, Answer, Input, Message, prepare, promise, accept, accepted, propose, receive, entry_of, without, with_entry, holding, awaits, asking, accepting, is_among, answer_to, on_propose, number_in, on_prepare, on_promise, on_accept, on_accepted, with_promise, with_accepted}
use Rattle.pv_law_quorum.specs.Record.{Record, Vote, value_accepted, promised, has_accepted}
use Rattle.pv_law_quorum.proofs.BallotLemmas.{if-either}
use Rattle.pv_law_quorum.proofs.RecordLemmas.{found-entry}
use Rattle.pv_quorum.specs.Spelling.{txn_in}
use Rattle.pv_quorum.proofs.EntryLemmas.{entry-apart, entry-put-apart}

-- the transaction that an input is of
abbrev pub message_txn : Message → TxnId
message_txn (prepare txn ballot) = txn
message_txn (promise txn ballot last) = txn
message_txn (accept txn ballot commits) = txn
message_txn (accepted txn ballot) = txn

abbrev pub input_txn : Input → TxnId
input_txn (propose txn commits) = txn
input_txn (receive from message) = message_txn message

-- The record, if there is one, is of the transaction.
abbrev pub IsOf : TxnId → Option Record → Type 0
IsOf txn None = ⊤
IsOf txn (Some entry) = txn_in entry ≡ txn

module _ (setup : Setup) (here : Here) (txn : TxnId) where
  -- An answer of the transaction: it appends no record of another one, and leaves the entries of others.
  pub record IsOwn (answer : Answer) : Type 0 where
    pub own : IsOf txn answer.appended
    pub others : (other : TxnId) → is_same_txn other txn ≡ false → entry_of other answer.entries ≡ entry_of other here.entries

  own-holding : IsOwn (holding here.entries)
  own-holding = record { own = tt; others = λ other apart. refl }

  own-without : (t : TxnId) → t ≡ txn → IsOwn (holding (without t here.entries))
  own-without t is = record {
    own = tt;
    others = λ other apart. ap (λ (u : TxnId). entry_of other (without u here.entries)) is ∙ entry-apart txn other here.entries apart;
  }

  own-with : (entry : Entry) → entry.txn ≡ txn → IsOwn (holding (with_entry entry here.entries))
  own-with entry is = record { own = tt; others = λ other apart. entry-put-apart txn other entry here.entries is apart }

  own-propose : (commits : Bool) → IsOwn (on_propose setup here txn commits)
  own-propose commits =
      if-either IsOwn (nat_le 4294967294 (number_in (promised txn here.records))) _ _
      (record { own = tt; others = λ other apart. refl })
      (record { own = refl; others = λ other apart. entry-put-apart txn other _ here.entries refl apart })

  own-prepare : (from : ℕ) (ballot : Ballot) → IsOwn (on_prepare here from txn ballot)
  own-prepare from ballot = if-either IsOwn (is_above ballot (promised txn here.records)) _ _ (record { own = refl; others = λ other apart. refl }) own-holding

  own-accept-record : (ballot : Ballot) (commits b : Bool) → IsOf txn (if b then None else Some (value_accepted txn ballot commits))
  own-accept-record ballot commits true = tt
  own-accept-record ballot commits false = refl

  own-accept : (from : ℕ) (ballot : Ballot) (commits : Bool) → IsOwn (on_accept here from txn ballot commits)
  own-accept from ballot commits =
      if-either IsOwn (is_passed ballot (promised txn here.records)) _ _ own-holding
      (record { own = own-accept-record ballot commits (has_accepted here.records txn ballot commits); others = λ other apart. refl })

  own-with-promise : (entry : Entry) → entry.txn ≡ txn → IsOwn (with_promise setup here entry)
  own-with-promise entry is =
      if-either IsOwn (is_majority setup.deciders (is_among entry.counted)) _ _
      (if-either IsOwn (is_passed entry.ballot (promised entry.txn here.records)) _ _ (own-without entry.txn is)
      (record { own = is; others = λ other apart. entry-put-apart txn other _ here.entries is apart }))
      (own-with entry is)

  own-promise : (from : ℕ) (ballot : Ballot) (last : Option Vote) (found : Option Entry) → entry_of txn here.entries ≡ found → IsOwn (on_promise setup here from ballot last found)
  own-promise from ballot last None is = own-holding
  own-promise from ballot last (Some entry) is =
      if-either IsOwn (awaits entry asking ballot from) _ _ (own-with-promise (record entry { counted = from ∷ entry.counted; last = greater (λ (vote : Vote). vote.ballot) entry.last last }) (sym (found-entry txn here.entries entry is).1)) own-holding

  own-with-accepted : (entry : Entry) → entry.txn ≡ txn → IsOwn (with_accepted setup here entry)
  own-with-accepted entry is =
      if-either IsOwn (is_majority setup.deciders (is_among entry.counted)) _ _
      (record { own = tt; others = λ other apart. ap (λ (u : TxnId). entry_of other (without u here.entries)) is ∙ entry-apart txn other here.entries apart })
      (own-with entry is)

  own-accepted : (from : ℕ) (ballot : Ballot) (found : Option Entry) → entry_of txn here.entries ≡ found → IsOwn (on_accepted setup here from ballot found)
  own-accepted from ballot None is = own-holding
  own-accepted from ballot (Some entry) is =
      if-either IsOwn (awaits entry accepting ballot from) _ _ (own-with-accepted (record entry { counted = from ∷ entry.counted }) (sym (found-entry txn here.entries entry is).1)) own-holding

-- What a decider makes of an input is of the input's transaction.
pub answer-own : (setup : Setup) (here : Here) (input : Input) → IsOwn setup here (input_txn input) (answer_to setup here input)
answer-own setup here (propose txn commits) = own-propose setup here txn commits
answer-own setup here (receive from (prepare txn ballot)) = own-prepare setup here txn from ballot
answer-own setup here (receive from (promise txn ballot last)) = own-promise setup here txn from ballot last (entry_of txn here.entries) refl
answer-own setup here (receive from (accept txn ballot commits)) = own-accept setup here txn from ballot commits
answer-own setup here (receive from (accepted txn ballot)) = own-accepted setup here txn from ballot (entry_of txn here.entries) refl
