-- What a decider sends goes to another one, and is of the transaction that it was given.
use Rattle.std.proofs.Common.{◌≡◌, ◌≢◌, ℕ, zero, suc, ◌<◌, Bool, true, false, Option, Some, None, List, [], ◌∷◌, ◌++◌, All, refl, sym, subst, ◌∙◌, arith}
use Rattle.std.specs.Prelude.{◌+◌, if◌then◌else◌, nat_lt, nat_le, ◌==◌, ⊤}
use Rattle.std.proofs.lemmas.Bool.Decides.{nat_tests}
use Rattle.std.proofs.lemmas.List.Elements.{All-append, All-cons, All-nil, All-weaker}
use Rattle.pv_base.specs.declared.txn.TxnId.{TxnId}
use Rattle.pv_law_quorum.specs.Ballot.{Ballot, is_above, is_passed, is_majority}
use Rattle.pv_law_quorum.specs.Record.{Record, ballot_promised, value_accepted, Vote, promised, last_vote, has_accepted}
use Rattle.pv_law_quorum.specs.Decider.{Setup, Message, prepare, promise, accept, accepted, asking, accepting, Entry, Here, Input, propose, receive, decided, spent, full, Outgoing, Answer, to_others, awaits, number_in, value_told, holding, begin_ballot, on_propose, ask_to_accept, with_promise, on_promise, with_accepted, on_accepted, answer_to, within_limit, entry_of, without, with_entry, is_among, step}
use Rattle.pv_law_quorum.specs.Ballot.{greater}
use Rattle.pv_law_quorum.proofs.BallotLemmas.{if-either}
use Rattle.pv_law_quorum.proofs.RecordLemmas.{found-entry}

-- the transaction of a message, and of an input
abbrev pub about : Message → TxnId
about (prepare txn ballot) = txn
about (promise txn ballot last) = txn
about (accept txn ballot commits) = txn
about (accepted txn ballot) = txn

abbrev pub given_of : Input → TxnId
given_of (propose txn commits) = txn
given_of (receive from message) = about message

-- A message comes from another decider.
abbrev pub IsFromAnother : Setup → ℕ → Input → Type 0
IsFromAnother setup me (propose txn commits) = ⊤
IsFromAnother setup me (receive from message) = (from < setup.deciders) × (from ≢ me)

-- It goes to another decider, and is of this transaction.
pub record IsSent (count me : ℕ) (txn : TxnId) (outgoing : Outgoing) : Type 0 where
  pub to : outgoing.to < count
  pub apart : me ≢ outgoing.to
  pub of : about outgoing.message ≡ txn

same-test : (n : ℕ) → (n == n) ≡ true
same-test n = grind (arith, nat_tests)

wider : (n me : ℕ) (txn : TxnId) (outgoing : Outgoing) → IsSent n me txn outgoing → IsSent (suc n) me txn outgoing
wider n me txn outgoing is = record { to = omega (arith, is.to); apart = is.apart; of = is.of }

pub others-sent : (count me : ℕ) (txn : TxnId) (message : Message) → about message ≡ txn → All (IsSent count me txn) (to_others count me message)
others-sent zero me txn message of = All-nil (IsSent zero me txn)
others-sent (suc n) me txn message of =
    All-append (IsSent (suc n) me txn) (to_others n me message) (if n == me then [] else record { to = n; message = message } ∷ [])
    (All-weaker (IsSent n me txn) (IsSent (suc n) me txn) (wider n me txn) (to_others n me message) (others-sent n me txn message of))
    (by (n == me) refl) where
      by : (b : Bool) → (n == me) ≡ b → All (IsSent (suc n) me txn) (if b then [] else record { to = n; message = message } ∷ [])
      by true same = All-nil (IsSent (suc n) me txn)
      by false apart =
          All-cons (IsSent (suc n) me txn) (record { to = n; message = message }) []
          (record { to = omega arith; apart = λ is. absurd (differ is apart); of = of }) (All-nil (IsSent (suc n) me txn)) where
            differ : me ≡ n → (n == me) ≡ false → ⊥
            differ is unequal = let e : (n == n) ≡ false = subst (λ (k : ℕ). (n == k) ≡ false) is unequal in let same : (n == n) ≡ true = same-test n in let wrong : true ≡ false = sym same ∙ e in cc

module _ (setup : Setup) (here : Here) (txn : TxnId) where
  -- All that the answer sends goes to another decider, and is of the transaction.
  abbrev Sends : Answer → Type 0
  Sends answer = All (IsSent setup.deciders here.me txn) answer.sends

  silent : (answer : Answer) → answer.sends ≡ [] → Sends answer
  silent answer none = subst (λ (sends : List Outgoing). All (IsSent setup.deciders here.me txn) sends) (sym none) (All-nil (IsSent setup.deciders here.me txn))

  single : (from : ℕ) (message : Message) → from < setup.deciders → from ≢ here.me → about message ≡ txn
      → All (IsSent setup.deciders here.me txn) (record { to = from; message = message } ∷ [])
  single from message within apart of =
      All-cons (IsSent setup.deciders here.me txn) (record { to = from; message = message }) [] (record { to = within; apart = λ same. apart (sym same); of = of })
      (All-nil (IsSent setup.deciders here.me txn))

  propose-sends : (commits : Bool) → Sends (on_propose setup here txn commits)
  propose-sends commits =
      let ballot : Ballot = record { number = number_in (promised txn here.records) + 1; decider = here.me } in
      if-either Sends (nat_le 4294967294 (number_in (promised txn here.records)))
      (record { entries = here.entries; appended = None; sends = []; lines = spent here.me ∷ [] }) (begin_ballot setup here txn commits ballot)
      (All-nil (IsSent setup.deciders here.me txn))
      (others-sent setup.deciders here.me txn (prepare txn ballot) refl)

  promise-sends : (from : ℕ) (ballot : Ballot) (last : Option Vote) (found : Option Entry) → ((entry : Entry) → found ≡ Some entry → entry.txn ≡ txn)
      → Sends (on_promise setup here from ballot last found)
  promise-sends from ballot last None of = All-nil (IsSent setup.deciders here.me txn)
  promise-sends from ballot last (Some entry) of =
      if-either Sends (awaits entry asking ballot from) (with_promise setup here counted) (holding here.entries)
      (if-either Sends (is_majority setup.deciders (is_among counted.counted))
      (if is_passed counted.ballot (promised counted.txn here.records) then holding (without counted.txn here.entries)
      else ask_to_accept setup here counted (value_told counted.last counted.commits))
      (holding (with_entry counted here.entries))
      (if-either Sends (is_passed counted.ballot (promised counted.txn here.records)) (holding (without counted.txn here.entries))
      (ask_to_accept setup here counted (value_told counted.last counted.commits)) (All-nil (IsSent setup.deciders here.me txn))
      (others-sent setup.deciders here.me txn (accept entry.txn entry.ballot (value_told counted.last counted.commits)) (of entry refl)))
      (All-nil (IsSent setup.deciders here.me txn)))
      (All-nil (IsSent setup.deciders here.me txn)) where
        counted : Entry
        counted = record entry { counted = from ∷ entry.counted; last = greater (λ (vote : Vote). vote.ballot) entry.last last }

  accepted-sends : (from : ℕ) (ballot : Ballot) (found : Option Entry) → Sends (on_accepted setup here from ballot found)
  accepted-sends from ballot None = All-nil (IsSent setup.deciders here.me txn)
  accepted-sends from ballot (Some entry) =
      let counted : Entry = record entry { counted = from ∷ entry.counted } in
      if-either Sends (awaits entry accepting ballot from) (with_accepted setup here counted) (holding here.entries)
      (if-either Sends (is_majority setup.deciders (is_among counted.counted))
      (record { entries = without counted.txn here.entries; appended = None; sends = []; lines = decided here.me counted.txn counted.commits ∷ [] })
      (holding (with_entry counted here.entries)) (All-nil (IsSent setup.deciders here.me txn)) (All-nil (IsSent setup.deciders here.me txn)))
      (All-nil (IsSent setup.deciders here.me txn))

  limit-sends : (answer : Answer) (appended : Option Record) → Sends answer → Sends (within_limit setup here answer appended)
  limit-sends answer None sends = sends
  limit-sends answer (Some kept) sends =
      let long = setup.length (here.records ++ kept ∷ []) in
      if-either Sends (nat_lt setup.limit long) (record { entries = here.entries; appended = None; sends = []; lines = full here.me long ∷ [] }) answer
      (All-nil (IsSent setup.deciders here.me txn)) sends

module _ (setup : Setup) (here : Here) where
  answer-sends : (input : Input) → IsFromAnother setup here.me input → Sends setup here (given_of input) (answer_to setup here input)
  answer-sends (propose txn commits) from = propose-sends setup here txn commits
  answer-sends (receive sender (prepare txn ballot)) from =
      if-either (Sends setup here txn) (is_above ballot (promised txn here.records))
      (record { entries = here.entries; appended = Some (ballot_promised txn ballot); sends = record { to = sender; message = promise txn ballot (last_vote txn here.records) } ∷ []; lines = [] })
      (holding here.entries) (single setup here txn sender (promise txn ballot (last_vote txn here.records)) from.0 from.1 refl) (All-nil (IsSent setup.deciders here.me txn))
  answer-sends (receive sender (promise txn ballot last)) from =
      promise-sends setup here txn sender ballot last (entry_of txn here.entries) (λ entry is. sym (found-entry txn here.entries entry is).1)
  answer-sends (receive sender (accept txn ballot commits)) from =
      if-either (Sends setup here txn) (is_passed ballot (promised txn here.records)) (holding here.entries)
      (record {
        entries = here.entries;
        appended = if has_accepted here.records txn ballot commits then None else Some (value_accepted txn ballot commits);
        sends = record { to = sender; message = accepted txn ballot } ∷ [];
        lines = [];
      }) (All-nil (IsSent setup.deciders here.me txn)) (single setup here txn sender (accepted txn ballot) from.0 from.1 refl)
  answer-sends (receive sender (accepted txn ballot)) from = accepted-sends setup here txn sender ballot (entry_of txn here.entries)

  -- What a step sends.
  pub step-sends : (input : Input) → IsFromAnother setup here.me input → All (IsSent setup.deciders here.me (given_of input)) (step setup here input).sends
  step-sends input from = limit-sends setup here (given_of input) (answer_to setup here input) (answer_to setup here input).appended (answer-sends input from)
