-- What a decider records of another's ballot it has answered to that decider.
use Rattle.std.proofs.Common.{◌≡◌, ◌⊎◌, ⊎_elim, ℕ, ◌<◌, Bool, true, false, Some, None, Option, List, [], ◌∷◌, ◌++◌, length, inl, inr, refl, sym, ap, subst, ◌∙◌}
use Rattle.std.specs.Prelude.{if◌then◌else◌, nat_lt, slice_get, option_to_list, ⊤}
use Rattle.std.specs.List.{Contains}
use Rattle.std.proofs.lemmas.Bool.{cases_eq}
use Rattle.std.proofs.lemmas.List.Elements.{Contains-append_cases}
use Rattle.std.proofs.lemmas.Option.{slice_get_within, get_or_from_slice_get}
use Rattle.pv_base.proofs.ContainsLemmas.{Contains-first, Contains-nil}
use Rattle.pv_base.specs.declared.txn.TxnId.{TxnId}
use Rattle.pv_law_quorum.specs.Ballot.{Ballot, is_passed, is_above, is_majority}
use Rattle.pv_law_quorum.specs.Record.{Record, ballot_promised, value_accepted, Vote, promised, last_vote, has_accepted}
use Rattle.pv_law_quorum.specs.Decider.{Setup, Message, prepare, promise, accept, accepted, asking, accepting, Entry, Here, receive, full, decided, Outgoing, Answer, without, with_entry, entry_of, is_among, awaits, holding, on_prepare, ask_to_accept, with_promise, on_promise, on_accept, with_accepted, on_accepted, answer_to, within_limit, step}
use Rattle.pv_law_quorum.specs.World.{Decider, Envelope, World, whole, delivery, decider_at, records_at, given, delivered, after_event}
use Rattle.pv_law_quorum.specs.Steps.{Sent, Has, entries_in, promising, counting, value_of}
use Rattle.pv_law_quorum.specs.Sound.{IsMessageSound, IsSound}
use Rattle.pv_law_quorum.proofs.BallotLemmas.{if-either}
use Rattle.pv_law_quorum.proofs.RecordLemmas.{found-entry, listed-either}
use Rattle.pv_law_quorum.proofs.EventLemmas.{up-listed}
use Rattle.pv_law_quorum.proofs.StageLemmas.{After, other-same, now-here, sent-stays, sent-new}

-- Any value may be proposed.
abbrev pub Any : TxnId → Bool → Type 0
Any txn commits = ⊤

-- A record that is appended is of an own ballot, or is told to the decider whose ballot it is.
abbrev pub Said : ℕ → ℕ → List Outgoing → Option Record → Type 0
Said k from sends None = ⊤
Said k from sends (Some (ballot_promised txn ballot)) =
    (ballot.decider ≡ from) × ((last : Option Vote) × Contains sends (record { to = from; message = promise txn ballot last }))
Said k from sends (Some (value_accepted txn ballot commits)) =
    (ballot.decider ≡ k) ⊎ ((ballot.decider ≡ from) × Contains sends (record { to = from; message = accepted txn ballot }))

module _ (setup : Setup) (w : World) (sound : IsSound setup Any w) (k : ℕ) (memory : List Entry) (up : (decider_at w k).memory ≡ Some memory) (from : ℕ) where
  abbrev here : Here
  here = record { me = k; records = records_at w k; entries = memory }

  abbrev Says : Answer → Type 0
  Says answer = Said k from answer.sends answer.appended

  says-limit : (answer : Answer) (appended : Option Record) → Says answer → Says (within_limit setup here answer appended)
  says-limit answer None says = says
  says-limit answer (Some kept) says =
      let long = setup.length (records_at w k ++ kept ∷ []) in
      if-either Says (nat_lt setup.limit long) (record { entries = memory; appended = None; sends = []; lines = full k long ∷ [] }) answer tt says

  says-prepare : (txn : TxnId) (ballot : Ballot) → ballot.decider ≡ from → Says (on_prepare here from txn ballot)
  says-prepare txn ballot asked =
      if-either Says (is_above ballot (promised txn (records_at w k)))
      (record {
        entries = memory;
        appended = Some (ballot_promised txn ballot);
        sends = record { to = from; message = promise txn ballot (last_vote txn (records_at w k)) } ∷ [];
        lines = [];
      })
      (holding memory)
      (asked, (last_vote txn (records_at w k), Contains-first (record { to = from; message = promise txn ballot (last_vote txn (records_at w k)) }) []))
      tt

  own-ballot : (txn : TxnId) (entry : Entry) → entry_of txn memory ≡ Some entry → entry.ballot.decider ≡ k
  own-ballot txn entry is =
      (sound.entries k entry (subst (λ (m : Option (List Entry)). Contains (entries_in m) entry) (sym up) (found-entry txn memory entry is).0)).own

  says-promise : (txn : TxnId) (ballot : Ballot) (last : Option Vote) (found : Option Entry) → entry_of txn memory ≡ found → Says (on_promise setup here from ballot last found)
  says-promise txn ballot last None is = tt
  says-promise txn ballot last (Some entry) is =
      let now = promising entry from last in
      if-either Says (awaits entry asking ballot from) (with_promise setup here now) (holding memory)
      (if-either Says (is_majority setup.deciders (is_among now.counted))
      (if is_passed now.ballot (promised now.txn (records_at w k)) then holding (without now.txn memory) else ask_to_accept setup here now (value_of now))
      (holding (with_entry now memory))
      (if-either Says (is_passed now.ballot (promised now.txn (records_at w k))) (holding (without now.txn memory)) (ask_to_accept setup here now (value_of now))
      tt (inl (own-ballot txn entry is)))
      tt)
      tt

  says-accept : (txn : TxnId) (ballot : Ballot) (commits : Bool) → ballot.decider ≡ from → Says (on_accept here from txn ballot commits)
  says-accept txn ballot commits asked =
      if-either Says (is_passed ballot (promised txn (records_at w k))) (holding memory)
      (record {
        entries = memory;
        appended = if has_accepted (records_at w k) txn ballot commits then None else Some (value_accepted txn ballot commits);
        sends = record { to = from; message = accepted txn ballot } ∷ [];
        lines = [];
      })
      tt (by (has_accepted (records_at w k) txn ballot commits)) where
        by : (b : Bool) → Said k from (record { to = from; message = accepted txn ballot } ∷ []) (if b then None else Some (value_accepted txn ballot commits))
        by true = tt
        by false = inr (asked, Contains-first (record { to = from; message = accepted txn ballot }) [])

  says-accepted : (ballot : Ballot) (found : Option Entry) → Says (on_accepted setup here from ballot found)
  says-accepted ballot None = tt
  says-accepted ballot (Some entry) =
      let now = counting entry from in
      if-either Says (awaits entry accepting ballot from) (with_accepted setup here now) (holding memory)
      (if-either Says (is_majority setup.deciders (is_among now.counted))
      (record { entries = without now.txn memory; appended = None; sends = []; lines = decided k now.txn now.commits ∷ [] })
      (holding (with_entry now memory)) tt tt)
      tt

  says-message : (message : Message) → IsMessageSound setup Any w from message → Says (answer_to setup here (receive from message))
  says-message (prepare txn ballot) is = says-prepare txn ballot is.0
  says-message (promise txn ballot last) is = says-promise txn ballot last (entry_of txn memory) refl
  says-message (accept txn ballot commits) is = says-accept txn ballot commits is.0
  says-message (accepted txn ballot) is = says-accepted ballot (entry_of txn memory)

  pub says : (message : Message) → IsMessageSound setup Any w from message → Says (step setup here (receive from message))
  says message is =
      says-limit (answer_to setup here (receive from message)) (answer_to setup here (receive from message)).appended (says-message message is)

module _ (n : ℕ) (txn : TxnId) (ballot : Ballot) (own : ballot.decider ≡ n) where
  -- A record of the ballot was told to the proposer.
  abbrev pub Replied : World → ℕ → Record → Type 0
  Replied u k (ballot_promised other taken) = other ≡ txn → taken ≡ ballot → (last : Option Vote) × Sent u k n (promise txn ballot last)
  Replied u k (value_accepted other taken commits) = other ≡ txn → taken ≡ ballot → Sent u k n (accepted txn ballot)

  abbrev pub Replies : World → Type 0
  Replies u = (k : ℕ) → (k ≡ n → ⊥) → (kept : Record) → Has u k kept → Replied u k kept

  module _ (u : World) (k : ℕ) (answer : Answer) where
    replied-stays : (m : ℕ) (kept : Record) → Replied u m kept → Replied (After u k answer) m kept
    replied-stays m (ballot_promised other taken) h = λ same_txn same_ballot.
        let said = h same_txn same_ballot in (said.0, sent-stays u k answer m n (promise txn ballot said.0) said.1)
    replied-stays m (value_accepted other taken commits) h = λ same_txn same_ballot.
        sent-stays u k answer m n (accepted txn ballot) (h same_txn same_ballot)

    replied-new : (from : ℕ) → (k ≡ n → ⊥) → (kept : Record) → Said k from answer.sends (Some kept) → Replied (After u k answer) k kept
    replied-new from apart (ballot_promised other taken) said = λ same_txn same_ballot. (
      said.1.0,
      subst (λ (m : ℕ). Sent (After u k answer) k m (promise txn ballot said.1.0)) (sym said.0 ∙ (ap (λ (b : Ballot). b.decider) same_ballot ∙ own))
          (subst (λ (t : TxnId). Sent (After u k answer) k from (promise t ballot said.1.0)) same_txn
          (subst (λ (b : Ballot). Sent (After u k answer) k from (promise other b said.1.0)) same_ballot
          (sent-new u k answer from (promise other taken said.1.0) said.1.1))),
    )
    replied-new from apart (value_accepted other taken commits) said = λ same_txn same_ballot.
        ⊎_elim
        (λ (mine : taken.decider ≡ k). absurd (apart (sym mine ∙ (ap (λ (b : Ballot). b.decider) same_ballot ∙ own))))
        (λ told. subst (λ (m : ℕ). Sent (After u k answer) k m (accepted txn ballot)) (sym told.0 ∙ (ap (λ (b : Ballot). b.decider) same_ballot ∙ own))
        (subst (λ (t : TxnId). Sent (After u k answer) k from (accepted t ballot)) same_txn
        (subst (λ (b : Ballot). Sent (After u k answer) k from (accepted other b)) same_ballot
        (sent-new u k answer from (accepted other taken) told.1))))
        said

    replied-appended : (from : ℕ) → (k ≡ n → ⊥) → (appended : Option Record) → Said k from answer.sends appended → (kept : Record)
        → Contains (option_to_list appended) kept → Replied (After u k answer) k kept
    replied-appended from apart None said kept h = absurd (Contains-nil kept h)
    replied-appended from apart (Some new) said kept h = subst (Replied (After u k answer) k) (listed-either new kept h) (replied-new from apart new said)

    replies-answer : (from : ℕ) → k < length u.deciders → Said k from answer.sends answer.appended → Replies u → Replies (After u k answer)
    replies-answer from within said replies m away record_kept has =
        ⊎_elim
        (λ (at : m ≡ k). subst (λ (j : ℕ). (j ≡ n → ⊥) → Has (After u k answer) j record_kept → Replied (After u k answer) j record_kept) (sym at) here away has)
        (λ (apart : m ≡ k → ⊥). replied-stays m record_kept (replies m away record_kept
        (subst (λ (d : Decider). Contains d.records record_kept) (other-same u k answer m apart) has)))
        (cases_eq m k) where
          here : (k ≡ n → ⊥) → Has (After u k answer) k record_kept → Replied (After u k answer) k record_kept
          here apart h =
              ⊎_elim
              (λ old. replied-stays k record_kept (replies k apart record_kept old))
              (λ new. replied-appended from apart answer.appended said record_kept new)
              (Contains-append_cases (records_at u k) (option_to_list answer.appended) record_kept
              (subst (λ (d : Decider). Contains d.records record_kept) (now-here u k answer within) h))

  module _ (setup : Setup) (u : World) (sound : IsSound setup Any u) (replies : Replies u) where
    given-replies : (k from : ℕ) (message : Message) (memory : Option (List Entry)) → (decider_at u k).memory ≡ memory → IsMessageSound setup Any u from message
        → Replies (given setup u k (receive from message) whole memory)
    given-replies k from message None down is = replies
    given-replies k from message (Some memory) up is =
        replies-answer u k (step setup (record { me = k; records = records_at u k; entries = memory }) (receive from message)) from
        (up-listed u.deciders k memory up) (says setup u sound k memory up from message is) replies

    delivered-replies : (number : ℕ) (found : Option Envelope) → slice_get u.sent number ≡ found → Replies (delivered setup u whole found)
    delivered-replies number None is = replies
    delivered-replies number (Some envelope) is =
        given-replies envelope.to envelope.from envelope.message (decider_at u envelope.to).memory refl
        (sound.sent envelope (number, slice_get_within u.sent number envelope is, get_or_from_slice_get u.sent number envelope envelope is))

    -- A delivery keeps that.
    pub replies-stay : (number : ℕ) → Replies (after_event setup u (delivery number whole))
    replies-stay number = delivered-replies number (slice_get u.sent number) refl
