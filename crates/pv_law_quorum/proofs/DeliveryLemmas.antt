-- What holds while the messages of a proposal are delivered, and what a delivery makes.
use Rattle.std.proofs.Common.{◌≡◌, ◌⊎◌, ℕ, ◌<◌, ◌≤◌, Bool, true, false, Some, None, Option, List, [], ◌∷◌, ◌++◌, length, inl, inr, refl, sym, ap, subst, ◌∙◌, arith}
use Rattle.std.specs.Prelude.{if◌then◌else◌, nat_lt, slice_get, option_to_list, ⊤}
use Rattle.std.specs.List.{Contains}
use Rattle.std.proofs.lemmas.Bool.{ltb-false, le-ltb, false≢true}
use Rattle.std.proofs.lemmas.List.Elements.{Contains-append_left, Contains-push}
use Rattle.std.proofs.lemmas.Option.{slice_get_within, get_or_from_slice_get}
use Rattle.pv_base.proofs.AssignmentLemmas.{same-eq}
use Rattle.pv_base.proofs.ContainsLemmas.{Contains-first}
use Rattle.pv_base.specs.Assignment.{is_same_txn}
use Rattle.pv_base.specs.declared.txn.TxnId.{TxnId}
use Rattle.pv_law_quorum.specs.Ballot.{Ballot, rank, is_passed, is_above}
use Rattle.pv_law_quorum.specs.Record.{Record, ballot_promised, value_accepted, named, promised, last_vote, has_accepted}
use Rattle.pv_law_quorum.specs.Decider.{Setup, Message, prepare, promise, accept, accepted, Phase, asking, accepting, Entry, Here, receive, full, Answer, entry_of, is_among, is_same_phase, holding, within_limit, step}
use Rattle.pv_law_quorum.specs.World.{Decider, Envelope, World, whole, delivery, decider_at, records_at, from_decider, given, delivered, after_event, IsFit}
use Rattle.pv_law_quorum.specs.Steps.{Sent, Has, Holds, entries_in}
use Rattle.pv_law_quorum.specs.Sound.{Reaches, IsAskingSound, IsPhaseSound, IsValueSound, IsSound}
use Rattle.pv_law_quorum.specs.Undisturbed.{after_all, IsDelivered}
use Rattle.pv_law_quorum.proofs.BallotLemmas.{if-either, if-by, unpassed-reached}
use Rattle.pv_law_quorum.proofs.OrderLemmas.{ranks-apart}
use Rattle.pv_law_quorum.proofs.RecordLemmas.{named-reached, promised-each, found-entry}
use Rattle.pv_law_quorum.proofs.EventLemmas.{up-listed, put-each, event-step}
use Rattle.pv_law_quorum.proofs.StableLemmas.{has-stays}
use Rattle.pv_law_quorum.proofs.SoundLemmas.{IsSmall, named-small, sound-stays}
use Rattle.pv_law_quorum.proofs.StageLemmas.{After, now-here, sent-new, line-new, Failed, failed-stays, Carries, stays_in, moves_on, Works, Stage, stage-stays}
use Rattle.pv_law_quorum.proofs.ReplyLemmas.{Any, Replies, replies-stay}

-- The decider is up.
abbrev pub Up : World → ℕ → Type 0
Up u k = (memory : List Entry) × ((decider_at u k).memory ≡ Some memory)

given-up : (setup : Setup) (u : World) (k from : ℕ) (message : Message) (memory : Option (List Entry)) (m : ℕ) → Up u m
    → Up (given setup u k (receive from message) whole memory) m
given-up setup u k from message None m h = h
given-up setup u k from message (Some memory) m h =
    let answer = step setup (record { me = k; records = records_at u k; entries = memory }) (receive from message) in
    put-each (λ (j : ℕ) (d : Decider). Up u j → (now : List Entry) × (d.memory ≡ Some now)) u.deciders k
    (record { records = records_at u k ++ option_to_list answer.appended; memory = Some answer.entries })
    (λ was. (answer.entries, refl)) (λ j was. was) m h

delivered-up : (setup : Setup) (u : World) (found : Option Envelope) (m : ℕ) → Up u m → Up (delivered setup u whole found) m
delivered-up setup u None m h = h
delivered-up setup u (Some envelope) m h = given-up setup u envelope.to envelope.from envelope.message (decider_at u envelope.to).memory m h

-- What is found among the messages was sent.
pub found-sent : (u : World) (number : ℕ) (envelope : Envelope) → slice_get u.sent number ≡ Some envelope → Contains u.sent envelope
found-sent u number envelope is = (number, slice_get_within u.sent number envelope is, get_or_from_slice_get u.sent number envelope envelope is)

-- What was sent stays so.

given-sent : (setup : Setup) (u : World) (k from : ℕ) (message : Message) (memory : Option (List Entry)) (envelope : Envelope) → Contains u.sent envelope
    → Contains (given setup u k (receive from message) whole memory).sent envelope
given-sent setup u k from message None envelope h = h
given-sent setup u k from message (Some memory) envelope h =
    Contains-append_left u.sent
    (from_decider k (step setup (record { me = k; records = records_at u k; entries = memory }) (receive from message)).sends) envelope h

pub delivered-sent : (setup : Setup) (u : World) (found : Option Envelope) (envelope : Envelope) → Contains u.sent envelope
    → Contains (delivered setup u whole found).sent envelope
delivered-sent setup u None envelope h = h
delivered-sent setup u (Some taken) envelope h = given-sent setup u taken.to taken.from taken.message (decider_at u taken.to).memory envelope h

pub sent-all : (setup : Setup) (numbers : List ℕ) (u : World) (envelope : Envelope) → Contains u.sent envelope → Contains (after_all setup u numbers).sent envelope
sent-all setup [] u envelope h = h
sent-all setup (number ∷ numbers) u envelope h =
    sent-all setup numbers (after_event setup u (delivery number whole)) envelope (delivered-sent setup u (slice_get u.sent number) envelope h)

above-reaches : (ballot : Ballot) (other : Option Ballot) → is_above ballot other ≡ false → Reaches (λ (b : Ballot). b) other (rank ballot)
above-reaches ballot None h = absurd (false≢true (sym h))
above-reaches ballot (Some other) h = ltb-false (rank other) (rank ballot) h

module _ (setup : Setup) (u : World) (number : ℕ) where
  pub delivery-has : (k : ℕ) (kept : Record) → Has u k kept → Has (after_event setup u (delivery number whole)) k kept
  delivery-has k kept h =
      has-stays setup Any u (after_event setup u (delivery number whole)) (event-step setup Any u (delivery number whole) tt) k kept h

-- What is recorded stays so.
pub has-all : (setup : Setup) (numbers : List ℕ) (u : World) (k : ℕ) (kept : Record) → Has u k kept → Has (after_all setup u numbers) k kept
has-all setup [] u k kept h = h
has-all setup (number ∷ numbers) u k kept h =
    has-all setup numbers (after_event setup u (delivery number whole)) k kept (delivery-has setup u number k kept h)

module _ (txn : TxnId) (ballot : Ballot) where
  -- No decider has promised a higher ballot.
  abbrev pub Free : World → Type 0
  Free u = (k : ℕ) → is_passed ballot (promised txn (records_at u k)) ≡ false

  -- None has where none has later.
  pub free-earlier : (u v : World) → ((k : ℕ) (kept : Record) → Has u k kept → Has v k kept) → Free v → Free u
  free-earlier u v stays free k =
      promised-each (λ (o : Option Ballot). is_passed ballot o ≡ false) refl txn (records_at u k)
      (λ kept h. by (named txn kept) (λ other is. le-ltb (rank ballot) (rank other) (unpassed-reached ballot (promised txn (records_at v k)) (rank other) (free k)
      (named-reached txn (records_at v k) kept other (stays k kept h) is)))) where
        by : (o : Option Ballot) → ((other : Ballot) → o ≡ Some other → is_passed ballot (Some other) ≡ false) → is_passed ballot o ≡ false
        by None h = refl
        by (Some other) h = h other refl

module _ (setup : Setup) (fit : IsFit setup) (members : ℕ → Bool) (n : ℕ) (txn : TxnId) (ballot : Ballot) (own : ballot.decider ≡ n) (small : n < setup.deciders)
    (included : members n ≡ true) where
  -- What each delivery keeps.
  pub record Kept (u : World) : Type 0 where
    pub sound : IsSound setup Any u
    pub up : (k : ℕ) → members k ≡ true → Up u k
    pub stage : Stage setup fit.least members n included txn ballot (λ entry. ⊤) u
    pub replies : Replies n txn ballot own u

  pub record Fine (u : World) : Type 0 where
    pub kept : Kept u
    pub free : Free txn ballot u

  pub kept-stays : (u : World) → Fine u → (number : ℕ) → Kept (after_event setup u (delivery number whole))
  kept-stays u fine number = record {
    sound = sound-stays setup Any u fine.kept.sound (after_event setup u (delivery number whole)) (event-step setup Any u (delivery number whole) tt);
    up = λ k member. delivered-up setup u (slice_get u.sent number) k (fine.kept.up k member);
    stage = stage-stays setup fit.least members n included txn ballot (λ entry. ⊤) (λ entry after carries q. q) u (fine.free n) number fine.kept.stage;
    replies = replies-stay n txn ballot own setup u fine.kept.sound fine.kept.replies number;
  }

  -- That holds from here on.
  abbrev pub Run : World → List ℕ → Type 0
  Run u [] = Fine u
  Run u (number ∷ numbers) = Fine u × Run (after_event setup u (delivery number whole)) numbers

  pub run : (numbers : List ℕ) (u : World) → Kept u → Free txn ballot (after_all setup u numbers) → Run u numbers
  run [] u kept free = record { kept = kept; free = free }
  run (number ∷ numbers) u kept free =
      let now : Fine u = record {
        kept = kept;
        free = free-earlier txn ballot u (after_all setup u (number ∷ numbers)) (has-all setup (number ∷ numbers) u) free;
      } in
      (now, run numbers (after_event setup u (delivery number whole)) (kept-stays u now number) free)

  pub run-last : (numbers : List ℕ) (u : World) → Run u numbers → Fine (after_all setup u numbers)
  run-last [] u is = is
  run-last (number ∷ numbers) u is = run-last numbers (after_event setup u (delivery number whole)) is.1

  -- What each delivery keeps, and the delivery of one message makes, holds in the end.
  module _ (P : World → Type 0) (keeps : (u : World) (number : ℕ) → Fine u → P u → P (after_event setup u (delivery number whole))) where
    kept-all : (numbers : List ℕ) (u : World) → Run u numbers → P u → P (after_all setup u numbers)
    kept-all [] u is h = h
    kept-all (number ∷ numbers) u is h = kept-all numbers (after_event setup u (delivery number whole)) is.1 (keeps u number is.0 h)

    pub eventually : (envelope : Envelope)
        → ((u : World) (number : ℕ) → Fine u → slice_get u.sent number ≡ Some envelope → P (after_event setup u (delivery number whole)))
        → (numbers : List ℕ) (u : World) → Run u numbers → IsDelivered setup envelope u numbers → P (after_all setup u numbers)
    eventually envelope makes [] u is never = absurd never
    eventually envelope makes (number ∷ numbers) u is (inl now) = kept-all numbers (after_event setup u (delivery number whole)) is.1 (makes u number is.0 now)
    eventually envelope makes (number ∷ numbers) u is (inr later) =
        eventually envelope makes numbers (after_event setup u (delivery number whole)) is.1 later

  given-failed : (u : World) (k from : ℕ) (message : Message) (memory : Option (List Entry)) → Failed members u → Failed members (given setup u k (receive from message) whole memory)
  given-failed u k from message None h = h
  given-failed u k from message (Some memory) h = failed-stays members u k (step setup (record { me = k; records = records_at u k; entries = memory }) (receive from message)) h

  delivered-failed : (u : World) (found : Option Envelope) → Failed members u → Failed members (delivered setup u whole found)
  delivered-failed u None h = h
  delivered-failed u (Some envelope) h = given-failed u envelope.to envelope.from envelope.message (decider_at u envelope.to).memory h

  -- A decider has a record of the ballot.
  abbrev pub HasTaken : World → ℕ → Type 0
  HasTaken u k = Has u k (ballot_promised txn ballot) ⊎ ((commits : Bool) × Has u k (value_accepted txn ballot commits))

  taken-stays : (u v : World) (k : ℕ) → ((kept : Record) → Has u k kept → Has v k kept) → HasTaken u k → HasTaken v k
  taken-stays u v k stays (inl h) = inl (stays (ballot_promised txn ballot) h)
  taken-stays u v k stays (inr h) = inr (h.0, stays (value_accepted txn ballot h.0) h.1)

  -- A log is full, or the decider has a record of the ballot.
  abbrev pub MayHaveTaken : ℕ → World → Type 0
  MayHaveTaken k u = Failed members u ⊎ HasTaken u k

  pub may_have-stays : (k : ℕ) (u : World) (number : ℕ) → Fine u → MayHaveTaken k u → MayHaveTaken k (after_event setup u (delivery number whole))
  may_have-stays k u number fine (inl h) = inl (delivered-failed u (slice_get u.sent number) h)
  may_have-stays k u number fine (inr h) =
      inr (taken-stays u (after_event setup u (delivery number whole)) k (delivery-has setup u number k) h)

  -- A log is full, or the decider has said that it accepted.
  abbrev pub MayHaveSaid : ℕ → World → Type 0
  MayHaveSaid k u = Failed members u ⊎ Sent u k n (accepted txn ballot)

  said-stays : (k : ℕ) (u : World) (found : Option Envelope) → MayHaveSaid k u → MayHaveSaid k (delivered setup u whole found)
  said-stays k u found (inl h) = inl (delivered-failed u found h)
  said-stays k u found (inr h) = inr (delivered-sent setup u found (record { from = k; to = n; message = accepted txn ballot }) h)

  pub may_have_said-stays : (k : ℕ) (u : World) (number : ℕ) → Fine u → MayHaveSaid k u → MayHaveSaid k (after_event setup u (delivery number whole))
  may_have_said-stays k u number fine h = said-stays k u (slice_get u.sent number) h

  -- The promised ballot reaches this one only by a record of it.
  module _ (u : World) (fine : Fine u) (k : ℕ) where
    reached-is : (kept : Record) (other : Ballot) → Has u k kept → named txn kept ≡ Some other → rank ballot ≤ rank other → other ≡ ballot
    reached-is kept other h is least =
        let most : rank other ≤ rank ballot = unpassed-reached ballot (promised txn (records_at u k)) (rank other) (fine.free k)
        (named-reached txn (records_at u k) kept other h is) in
        let byte : other.decider < 256 = subst IsSmall is (named-small setup Any u fine.kept.sound k txn kept h) in
        let mine : ballot.decider < 256 = omega (arith, own, small, fit.most) in
        let parts = ranks-apart other.number ballot.number other.decider ballot.decider byte mine (omega (arith, least, most)) in
        (λ i. record { number = parts.0 i; decider = parts.1 i })

    taken-each : (kept : Record) → Has u k kept → Reaches (λ (b : Ballot). b) (named txn kept) (rank ballot) → HasTaken u k
    taken-each (ballot_promised other taken) h =
        if-by (λ (o : Option Ballot). Reaches (λ (b : Ballot). b) o (rank ballot) → HasTaken u k) (is_same_txn txn other) (Some taken) None
        (λ same least. inl (subst (λ (b : Ballot). Has u k (ballot_promised txn b))
        (reached-is (ballot_promised other taken) taken h (ap (λ (b : Bool). if b then Some taken else None) same) least)
        (subst (λ (t : TxnId). Has u k (ballot_promised t taken)) (sym (same-eq {t = txn} {u = other} same)) h)))
        (λ apart wrong. absurd wrong)
    taken-each (value_accepted other taken commits) h =
        if-by (λ (o : Option Ballot). Reaches (λ (b : Ballot). b) o (rank ballot) → HasTaken u k) (is_same_txn txn other) (Some taken) None
        (λ same least. inr (
          commits,
          subst (λ (b : Ballot). Has u k (value_accepted txn b commits))
              (reached-is (value_accepted other taken commits) taken h (ap (λ (b : Bool). if b then Some taken else None) same) least)
              (subst (λ (t : TxnId). Has u k (value_accepted t taken commits)) (sym (same-eq {t = txn} {u = other} same)) h),
        ))
        (λ apart wrong. absurd wrong)

    reached-taken : Reaches (λ (b : Ballot). b) (promised txn (records_at u k)) (rank ballot) → HasTaken u k
    reached-taken =
        promised-each (λ (o : Option Ballot). Reaches (λ (b : Ballot). b) o (rank ballot) → HasTaken u k) (λ wrong. absurd wrong) txn (records_at u k) taken-each

    -- A decider that is up is asked to promise, or to accept.
    module _ (member : members k ≡ true) (memory : List Entry) (up : (decider_at u k).memory ≡ Some memory) where
      abbrev here : Here
      here = record { me = k; records = records_at u k; entries = memory }

      has-after : (answer : Answer) (kept : Record) → Contains (records_at u k ++ option_to_list answer.appended) kept → Has (After u k answer) k kept
      has-after answer kept h =
          subst (λ (d : Decider). Contains d.records kept) (sym (now-here u k answer (up-listed u.deciders k memory up))) h

      limit-or : (P : World → Type 0) → ((v : World) → Failed members v → P v) → (answer : Answer) (kept : Record) → P (After u k answer)
          → P (After u k (within_limit setup here answer (Some kept)))
      limit-or P fails answer kept h =
          let long = setup.length (records_at u k ++ kept ∷ []) in
          let over : Answer = record { entries = memory; appended = None; sends = []; lines = full k long ∷ [] } in
          if-either (λ (a : Answer). P (After u k a)) (nat_lt setup.limit long) over answer
          (fails (After u k over) (k, (member, (long, line-new u k over (full k long) (Contains-first (full k long) []))))) h

      prepared : MayHaveTaken k (After u k (step setup here (receive n (prepare txn ballot))))
      prepared =
          let promises : Answer = record {
            entries = memory;
            appended = Some (ballot_promised txn ballot);
            sends = record { to = n; message = promise txn ballot (last_vote txn (records_at u k)) } ∷ [];
            lines = [];
          } in
          if-by (λ (a : Answer). MayHaveTaken k (After u k (within_limit setup here a a.appended))) (is_above ballot (promised txn (records_at u k)))
          promises (holding memory)
          (λ above. limit-or (MayHaveTaken k) (λ v h. inl h) promises (ballot_promised txn ballot)
          (inr (inl (has-after promises (ballot_promised txn ballot) (Contains-push (records_at u k) (ballot_promised txn ballot))))))
          (λ below. inr (taken-stays u (After u k (holding memory)) k
          (λ kept h. has-after (holding memory) kept (Contains-append_left (records_at u k) [] kept h))
          (reached-taken (above-reaches ballot (promised txn (records_at u k)) below))))

      module _ (commits : Bool) where
        -- what a decider makes of it that isn't passed, where it has accepted the value already, or not
        abbrev agrees : Bool → Answer
        agrees had = record {
          entries = memory;
          appended = if had then None else Some (value_accepted txn ballot commits);
          sends = record { to = n; message = accepted txn ballot } ∷ [];
          lines = [];
        }

        agrees-said : (had : Bool) → MayHaveSaid k (After u k (agrees had))
        agrees-said had =
            inr (sent-new u k (agrees had) n (accepted txn ballot) (Contains-first (record { to = n; message = accepted txn ballot }) []))

        agrees-within : (had : Bool) → MayHaveSaid k (After u k (within_limit setup here (agrees had) (agrees had).appended))
        agrees-within true = agrees-said true
        agrees-within false = limit-or (MayHaveSaid k) (λ v h. inl h) (agrees false) (value_accepted txn ballot commits) (agrees-said false)

        agreed : MayHaveSaid k (After u k (step setup here (receive n (accept txn ballot commits))))
        agreed =
            if-by (λ (a : Answer). MayHaveSaid k (After u k (within_limit setup here a a.appended))) (is_passed ballot (promised txn (records_at u k)))
            (holding memory) (agrees (has_accepted (records_at u k) txn ballot commits))
            (λ passed. absurd (false≢true (sym (fine.free k) ∙ passed)))
            (λ free. agrees-within (has_accepted (records_at u k) txn ballot commits))

  -- A member is delivered what it is asked.
  module _ (u : World) (number : ℕ) (fine : Fine u) (k : ℕ) (member : members k ≡ true) where
    given-by : (P : World → Type 0) (message : Message)
        → ((memory : List Entry) → (decider_at u k).memory ≡ Some memory → P (After u k (step setup (record { me = k; records = records_at u k; entries = memory }) (receive n message))))
        → slice_get u.sent number ≡ Some (record { from = n; to = k; message = message }) → P (after_event setup u (delivery number whole))
    given-by P message makes is =
        let up = fine.kept.up k member in
        subst (λ (o : Option Envelope). P (delivered setup u whole o)) (sym is)
        (subst (λ (m : Option (List Entry)). P (given setup u k (receive n message) whole m)) (sym up.1) (makes up.0 up.1))

    pub prepare-makes : slice_get u.sent number ≡ Some (record { from = n; to = k; message = prepare txn ballot }) → MayHaveTaken k (after_event setup u (delivery number whole))
    prepare-makes is = given-by (MayHaveTaken k) (prepare txn ballot) (λ memory up. prepared u fine k member memory up) is

    pub accept-makes : (commits : Bool) → slice_get u.sent number ≡ Some (record { from = n; to = k; message = accept txn ballot commits })
        → MayHaveSaid k (after_event setup u (delivery number whole))
    accept-makes commits is = given-by (MayHaveSaid k) (accept txn ballot commits) (λ memory up. agreed u fine k member memory up commits) is

  -- While the proposer's entry asks, no value of its ballot is accepted.

  entry-asking : (u : World) → Fine u → (entry : Entry) → Works setup fit.least members n included txn ballot u entry → entry.phase ≡ asking → (commits : Bool)
      → Has u n (value_accepted txn ballot commits) → ⊥
  entry-asking u fine entry is phase commits h = by (decider_at u n).memory refl where
    by : (memory : Option (List Entry)) → (decider_at u n).memory ≡ memory → ⊥
    by memory at =
        let found = subst (λ (m : Option (List Entry)). entry_of txn (entries_in m) ≡ Some entry) at is.found in
        let holds : Holds u n entry = subst (λ (m : Option (List Entry)). Contains (entries_in m) entry) (sym at) (found-entry txn (entries_in memory) entry found).0 in
        let asks : IsAskingSound setup Any u n entry = subst (IsPhaseSound setup Any u n entry) phase (fine.kept.sound.entries n entry holds).by_phase in
        asks.unused commits (subst (λ (t : TxnId). Has u n (value_accepted t entry.ballot commits)) (sym is.of)
        (subst (λ (b : Ballot). Has u n (value_accepted txn b commits)) (sym is.taken) h))

  -- A value of the ballot that anyone accepted the proposer has accepted.
  pub own-accepted : (u : World) → Fine u → (k : ℕ) (commits : Bool) → Has u k (value_accepted txn ballot commits) → Has u n (value_accepted txn ballot commits)
  own-accepted u fine k commits h =
      let value : IsValueSound setup Any u txn ballot commits = fine.kept.sound.records k (value_accepted txn ballot commits) h in
      subst (λ (m : ℕ). Has u m (value_accepted txn ballot commits)) own value.own

  pub asking-alone : (u : World) → Fine u → (entry : Entry) → Works setup fit.least members n included txn ballot u entry → entry.phase ≡ asking → (k : ℕ) (commits : Bool)
      → Has u k (value_accepted txn ballot commits) → ⊥
  asking-alone u fine entry is phase k commits h = entry-asking u fine entry is phase commits (own-accepted u fine k commits h)

  -- The entry counts the decider when it is in the phase.
  abbrev pub Counts : Phase → ℕ → Entry → Type 0
  Counts phase k entry = entry.phase ≡ phase → is_among entry.counted k ≡ true

  asking-accepting : asking ≡ accepting → ⊥
  asking-accepting e = false≢true (sym (ap (λ (p : Phase). is_same_phase asking p) e))

  pub counts-asking : (k : ℕ) (entry after : Entry) → Carries entry after → Counts asking k entry → Counts asking k after
  counts-asking k entry after (stays_in same more) h = λ phase. more k (h (sym same ∙ phase))
  counts-asking k entry after (moves_on before now) h = λ phase. absurd (asking-accepting (sym phase ∙ now))

  -- It counts the decider, and is in the second phase.
  abbrev pub CountsLast : ℕ → Entry → Type 0
  CountsLast k entry = (entry.phase ≡ accepting) × (is_among entry.counted k ≡ true)

  pub counts-last : (k : ℕ) (entry after : Entry) → Carries entry after → CountsLast k entry → CountsLast k after
  counts-last k entry after (stays_in same more) h = (same ∙ h.0, more k h.1)
  counts-last k entry after (moves_on before now) h = absurd (asking-accepting (sym before ∙ h.0))
