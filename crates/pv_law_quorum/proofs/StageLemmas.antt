-- How a proposer's entry stands while messages are delivered: it fails, it has decided, or it works on.
use Rattle.std.proofs.Common.{◌≡◌, ◌⊎◌, ⊎_elim, ℕ, ◌<◌, ◌≤◌, Bool, true, false, Some, None, Option, List, ◌++◌, length, refl, sym, subst, ◌∙◌}
use Rattle.std.specs.Prelude.{slice_get, option_to_list, ⊤}
use Rattle.std.specs.List.{Contains}
use Rattle.std.proofs.lemmas.Bool.{cases_eq}
use Rattle.std.proofs.lemmas.List.{get_or-set_same, get_or-set_other}
use Rattle.std.proofs.lemmas.List.Elements.{Contains-append_left, Contains-append_right}
use Rattle.pv_base.proofs.MapLemmas.{Contains-map}
use Rattle.pv_base.specs.declared.txn.TxnId.{TxnId}
use Rattle.pv_law_quorum.specs.Ballot.{Ballot, is_passed, is_majority}
use Rattle.pv_law_quorum.specs.Record.{promised}
use Rattle.pv_law_quorum.specs.Decider.{Setup, Message, prepare, promise, accept, accepted, Phase, asking, accepting, Entry, receive, Line, decided, full, Outgoing, Answer, entry_of, is_among, step}
use Rattle.pv_law_quorum.specs.World.{Decider, Envelope, World, whole, delivery, no_decider, decider_at, records_at, from_decider, ended, given, delivered, after_event}
use Rattle.pv_law_quorum.specs.Steps.{Sent, entries_in}
use Rattle.pv_law_quorum.proofs.EventLemmas.{up-listed}
use Rattle.pv_law_quorum.proofs.TurnLemmas.{none-some, Goes, same, next, Heard, Turn, fails, decides, goes_on, turn}

-- An answer is put into the world.
module _ (u : World) (k : ℕ) (answer : Answer) where
  abbrev pub After : World
  After = ended u k answer whole

  abbrev Now : Decider
  Now = record { records = records_at u k ++ option_to_list answer.appended; memory = Some answer.entries }

  pub other-same : (m : ℕ) → (m ≡ k → ⊥) → decider_at After m ≡ decider_at u m
  other-same m apart = get_or-set_other u.deciders k m Now no_decider apart

  pub now-here : k < length u.deciders → decider_at After k ≡ Now
  now-here within = get_or-set_same u.deciders k Now no_decider within

  pub sent-stays : (a b : ℕ) (m : Message) → Sent u a b m → Sent After a b m
  sent-stays a b m h = Contains-append_left u.sent (from_decider k answer.sends) (record { from = a; to = b; message = m }) h

  pub sent-new : (b : ℕ) (m : Message) → Contains answer.sends (record { to = b; message = m }) → Sent After k b m
  sent-new b m h =
      Contains-append_right u.sent (from_decider k answer.sends) (record { from = k; to = b; message = m })
      (Contains-map (λ (o : Outgoing). record { from = k; to = o.to; message = o.message }) answer.sends (record { to = b; message = m }) h)

  pub line-stays : (line : Line) → Contains u.lines line → Contains After.lines line
  line-stays line h = Contains-append_left u.lines answer.lines line h

  pub line-new : (line : Line) → Contains answer.lines line → Contains After.lines line
  line-new line h = Contains-append_right u.lines answer.lines line h

-- The log of one of these deciders is full.
abbrev pub Failed : (ℕ → Bool) → World → Type 0
Failed members u = (k : ℕ) × ((members k ≡ true) × ((long : ℕ) × Contains u.lines (full k long)))

pub failed-stays : (members : ℕ → Bool) (u : World) (k : ℕ) (answer : Answer) → Failed members u → Failed members (After u k answer)
failed-stays members u k answer h = (h.0, (h.1.0, (h.1.1.0, line-stays u k answer (full h.0 h.1.1.0) h.1.1.1)))

-- What becomes of an entry in a turn: it counts no fewer deciders in its phase, or goes to the next.
pub data Carries (entry after : Entry) : Type 0 where
  stays_in : after.phase ≡ entry.phase → ((k : ℕ) → is_among entry.counted k ≡ true → is_among after.counted k ≡ true) → Carries entry after
  moves_on : entry.phase ≡ asking → after.phase ≡ accepting → Carries entry after

pub carries-same : (entry : Entry) → Carries entry entry
carries-same entry = stays_in refl (λ k among. among)

module _ (setup : Setup) (least : 3 ≤ setup.deciders) (members : ℕ → Bool) (n : ℕ) (included : members n ≡ true) (txn : TxnId) (ballot : Ballot) where
  abbrev pub Done : World → Type 0
  Done u = (commits : Bool) × Contains u.lines (decided n txn commits)

  -- What an entry in this phase has asked for.
  abbrev pub Asked : World → Bool → Phase → Type 0
  Asked u commits asking = ⊤
  Asked u commits accepting = (k : ℕ) → k < setup.deciders → (k ≡ n → ⊥) → Sent u n k (accept txn ballot commits)

  -- The proposer works on the ballot with this entry.
  pub record Works (u : World) (entry : Entry) : Type 0 where
    pub found : entry_of txn (entries_in (decider_at u n).memory) ≡ Some entry
    pub of : entry.txn ≡ txn
    pub taken : entry.ballot ≡ ballot
    pub few : is_majority setup.deciders (is_among entry.counted) ≡ false
    pub itself : is_among entry.counted n ≡ true
    pub asked : Asked u entry.commits entry.phase

  -- A log is full, a value is decided, or the proposer works with an entry of which this holds.
  pub data Stage (Q : Entry → Type 0) (u : World) : Type 0 where
    failed : Failed members u → Stage Q u
    done : Done u → Stage Q u
    works : (entry : Entry) → Works u entry → Q entry → Stage Q u

  -- Who answers for the phase that the entry is in is counted.
  abbrev pub Hears : (from : ℕ) → Message → Entry → Entry → Type 0
  Hears from (prepare other taken) entry after = ⊤
  Hears from (promise other taken last) entry after = other ≡ txn → taken ≡ ballot → after.phase ≡ asking → is_among after.counted from ≡ true
  Hears from (accept other taken commits) entry after = ⊤
  Hears from (accepted other taken) entry after = other ≡ txn → taken ≡ ballot → entry.phase ≡ accepting → is_among after.counted from ≡ true

  asked-stays : (u : World) (k : ℕ) (answer : Answer) (commits : Bool) (phase : Phase) → Asked u commits phase → Asked (After u k answer) commits phase
  asked-stays u k answer commits asking h = tt
  asked-stays u k answer commits accepting h = λ j inside apart. sent-stays u k answer n j (accept txn ballot commits) (h j inside apart)

  -- The proposer takes a message.
  module _ (u : World) (memory : List Entry) (up : (decider_at u n).memory ≡ Some memory) (entry : Entry) (is : Works u entry)
      (free : is_passed ballot (promised txn (records_at u n)) ≡ false) (from : ℕ) (message : Message) where
    found-here : entry_of entry.txn memory ≡ Some entry
    found-here =
        subst (λ (t : TxnId). entry_of t memory ≡ Some entry) (sym is.of)
        (subst (λ (m : Option (List Entry)). entry_of txn (entries_in m) ≡ Some entry) up is.found)

    free-here : is_passed entry.ballot (promised entry.txn (records_at u n)) ≡ false
    free-here =
        subst (λ (t : TxnId). is_passed entry.ballot (promised t (records_at u n)) ≡ false) (sym is.of)
        (subst (λ (b : Ballot). is_passed b (promised txn (records_at u n)) ≡ false) (sym is.taken) free)

    abbrev TurnHere : Answer → Type 0
    TurnHere answer = Turn setup least n (records_at u n) memory entry found-here is.few free-here (receive from message) answer

    abbrev GoesHere : Answer → Entry → Type 0
    GoesHere answer after = Goes setup least n (records_at u n) memory entry found-here is.few free-here answer after

    within : n < length u.deciders
    within = up-listed u.deciders n memory up

    -- What becomes of the entry in the world after.
    pub data Turned (v : World) : Type 0 where
      now_fails : Failed members v → Turned v
      now_decides : Done v → Turned v
      now_works : (after : Entry) → Works v after → Carries entry after → Hears from message entry after → Turned v

    hears-here : (m : Message) (after : Entry) → Heard setup least n (records_at u n) memory entry found-here is.few free-here (receive from m) after → Hears from m entry after
    hears-here (prepare other taken) after h = tt
    hears-here (promise other taken last) after h = λ same_txn same_ballot phase. h (same_txn ∙ sym is.of) (same_ballot ∙ sym is.taken) phase
    hears-here (accept other taken commits) after h = tt
    hears-here (accepted other taken) after h = λ same_txn same_ballot phase. h (same_txn ∙ sym is.of) (same_ballot ∙ sym is.taken) phase

    goes-carries : (answer : Answer) (after : Entry) → GoesHere answer after → Carries entry after
    goes-carries answer after (same phase commits more) = stays_in phase more
    goes-carries answer after (next before now itself sends) = moves_on before now

    goes-itself : (answer : Answer) (after : Entry) → GoesHere answer after → is_among after.counted n ≡ true
    goes-itself answer after (same phase commits more) = more n is.itself
    goes-itself answer after (next before now itself sends) = itself

    goes-asked : (answer : Answer) (after : Entry) → after.txn ≡ txn → after.ballot ≡ ballot → GoesHere answer after → Asked (After u n answer) after.commits after.phase
    goes-asked answer after of taken (same phase commits more) =
        subst (λ (p : Phase). Asked (After u n answer) after.commits p) (sym phase)
        (subst (λ (c : Bool). Asked (After u n answer) c entry.phase) (sym commits) (asked-stays u n answer entry.commits entry.phase is.asked))
    goes-asked answer after of taken (next before now itself sends) =
        subst (λ (p : Phase). Asked (After u n answer) after.commits p) (sym now)
        (λ k inside apart. sent-new u n answer k (accept txn ballot after.commits)
        (subst (λ (t : TxnId). Contains answer.sends (record { to = k; message = accept t ballot after.commits })) of
        (subst (λ (b : Ballot). Contains answer.sends (record { to = k; message = accept after.txn b after.commits })) taken (sends k inside apart))))

    turned-by : (answer : Answer) → TurnHere answer → Turned (After u n answer)
    turned-by answer (fails long h) = now_fails (n, (included, (long, line-new u n answer (full n long) h)))
    turned-by answer (decides h) =
        now_decides (entry.commits, line-new u n answer (decided n txn entry.commits) (subst (λ (t : TxnId). Contains answer.lines (decided n t entry.commits)) is.of h))
    turned-by answer (goes_on after on) =
        now_works after (record {
          found = subst (λ (d : Decider). entry_of txn (entries_in d.memory) ≡ Some after) (sym (now-here u n answer within))
              (subst (λ (t : TxnId). entry_of t answer.entries ≡ Some after) is.of on.holds);
          of = on.of ∙ is.of;
          taken = on.ballot ∙ is.taken;
          few = on.below_most;
          itself = goes-itself answer after on.goes;
          asked = goes-asked answer after (on.of ∙ is.of) (on.ballot ∙ is.taken) on.goes;
        }) (goes-carries answer after on.goes) (hears-here message after on.heard)

    pub turned : Turned (given setup u n (receive from message) whole (Some memory))
    turned =
        turned-by (step setup (record { me = n; records = records_at u n; entries = memory }) (receive from message))
        (turn setup least n (records_at u n) memory entry found-here is.few free-here from message)

  -- What each turn of an entry keeps.
  module _ (Q : Entry → Type 0) (keeps : (entry after : Entry) → Carries entry after → Q entry → Q after) (u : World)
      (free : is_passed ballot (promised txn (records_at u n)) ≡ false) where
    own-stage : (from : ℕ) (message : Message) (memory : List Entry) → (decider_at u n).memory ≡ Some memory → Stage Q u
        → Stage Q (given setup u n (receive from message) whole (Some memory))
    own-stage from message memory up (failed h) =
        failed (failed-stays members u n (step setup (record { me = n; records = records_at u n; entries = memory }) (receive from message)) h)
    own-stage from message memory up (done h) =
        done (h.0, line-stays u n (step setup (record { me = n; records = records_at u n; entries = memory }) (receive from message)) (decided n txn h.0) h.1)
    own-stage from message memory up (works entry is q) = by (turned u memory up entry is free from message) where
      by : Turned u memory up entry is free from message (given setup u n (receive from message) whole (Some memory))
          → Stage Q (given setup u n (receive from message) whole (Some memory))
      by (now_fails h) = failed h
      by (now_decides h) = done h
      by (now_works after on carries heard) = works after on (keeps entry after carries q)

    other-stage : (k : ℕ) → (n ≡ k → ⊥) → (answer : Answer) → Stage Q u → Stage Q (After u k answer)
    other-stage k apart answer (failed h) = failed (failed-stays members u k answer h)
    other-stage k apart answer (done h) = done (h.0, line-stays u k answer (decided n txn h.0) h.1)
    other-stage k apart answer (works entry is q) =
        works entry (record {
          found = subst (λ (d : Decider). entry_of txn (entries_in d.memory) ≡ Some entry) (sym (other-same u k answer n apart)) is.found;
          of = is.of;
          taken = is.taken;
          few = is.few;
          itself = is.itself;
          asked = asked-stays u k answer entry.commits entry.phase is.asked;
        }) q

    given-stage : (k from : ℕ) (message : Message) (memory : Option (List Entry)) → (decider_at u k).memory ≡ memory → Stage Q u
        → Stage Q (given setup u k (receive from message) whole memory)
    given-stage k from message None down h = h
    given-stage k from message (Some memory) up h =
        ⊎_elim
        (λ (at : n ≡ k). subst (λ m. (decider_at u m).memory ≡ Some memory → Stage Q (given setup u m (receive from message) whole (Some memory))) at
        (λ here. own-stage from message memory here h) up)
        (λ apart. other-stage k apart (step setup (record { me = k; records = records_at u k; entries = memory }) (receive from message)) h)
        (cases_eq n k)

    delivered-stage : (found : Option Envelope) → Stage Q u → Stage Q (delivered setup u whole found)
    delivered-stage None h = h
    delivered-stage (Some envelope) h = given-stage envelope.to envelope.from envelope.message (decider_at u envelope.to).memory refl h

    -- A delivery keeps it.
    pub stage-stays : (number : ℕ) → Stage Q u → Stage Q (after_event setup u (delivery number whole))
    stage-stays number h = delivered-stage (slice_get u.sent number) h

  -- The proposer is given a message, and what is heard with it makes something hold of the entry.
  module _ (Q : Entry → Type 0) (u : World) (free : is_passed ballot (promised txn (records_at u n)) ≡ false) (from : ℕ) (message : Message)
      (makes : (entry after : Entry) → Works u entry → Carries entry after → Hears from message entry after → Q after) where
    heard-by : (memory : Option (List Entry)) → (decider_at u n).memory ≡ memory → Stage (λ entry. ⊤) u → Stage Q (given setup u n (receive from message) whole memory)
    heard-by None down (failed h) = failed h
    heard-by None down (done h) = done h
    heard-by None down (works entry is q) =
        absurd (none-some (subst (λ (m : Option (List Entry)). entry_of txn (entries_in m) ≡ Some entry) down is.found))
    heard-by (Some memory) up (failed h) =
        failed (failed-stays members u n (step setup (record { me = n; records = records_at u n; entries = memory }) (receive from message)) h)
    heard-by (Some memory) up (done h) =
        done (h.0, line-stays u n (step setup (record { me = n; records = records_at u n; entries = memory }) (receive from message)) (decided n txn h.0) h.1)
    heard-by (Some memory) up (works entry is q) = by (turned u memory up entry is free from message) where
      by : Turned u memory up entry is free from message (given setup u n (receive from message) whole (Some memory))
          → Stage Q (given setup u n (receive from message) whole (Some memory))
      by (now_fails h) = failed h
      by (now_decides h) = done h
      by (now_works after on carries heard) = works after on (makes entry after is carries heard)

    pub stage-heard : (number : ℕ) → slice_get u.sent number ≡ Some (record { from = from; to = n; message = message }) → Stage (λ entry. ⊤) u
        → Stage Q (after_event setup u (delivery number whole))
    stage-heard number is h =
        subst (λ (o : Option Envelope). Stage Q (delivered setup u whole o)) (sym is) (heard-by (decider_at u n).memory refl h)
