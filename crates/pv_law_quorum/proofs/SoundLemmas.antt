-- What is sound stays so, and what is new is sound.
use Rattle.std.proofs.Common.{◌≡◌, ◌⊎◌, ⊎_elim, ℕ, zero, suc, ◌+◌, ◌<◌, Bool, true, Some, None, Option, List, [], ◌∷◌, length, inl, inr, refl, sym, ap, subst, ◌∙◌, arith}
use Rattle.std.specs.Prelude.{⊤, ◌==◌, get_or}
use Rattle.std.specs.List.{Contains}
use Rattle.std.proofs.lemmas.Bool.{eqb-true, or_cases, false≢true}
use Rattle.std.proofs.lemmas.List.Elements.{Contains-push_cases}
use Rattle.pv_base.proofs.ContainsLemmas.{Contains-nil}
use Rattle.pv_base.specs.Assignment.{is_same_txn}
use Rattle.pv_base.specs.declared.txn.TxnId.{TxnId}
use Rattle.pv_law_quorum.specs.Ballot.{Ballot, rank, greater}
use Rattle.pv_law_quorum.specs.Record.{Record, ballot_promised, value_accepted, Vote, named, promised, last_vote, has_accepted}
use Rattle.pv_law_quorum.specs.Decider.{Setup, Message, prepare, promise, accept, accepted, Phase, asking, accepting, Entry, Line, is_among, number_in, value_told}
use Rattle.pv_law_quorum.specs.World.{World, Decider, no_decider, Envelope, records_at}
use Rattle.pv_law_quorum.specs.Steps.{Sent, Has, Holds, promising, counting, value_of, IsPromised, IsAccepted, MayAsk, NewRecord, own_promise, asked_promise, own_value, asked_value, MayGrow, as_was, one_more, Spares, first_entry, NewEntry, begins, counts, asks, hears, NewMessage, prepares, promises, asks_for, answers, NewLine, decides, is_spent, is_full, IsStep}
use Rattle.pv_law_quorum.specs.Sound.{Reaches, HasPromised, IsBacked, Follows, IsValueSound, IsRecordSound, IsMessageSound, IsAskingSound, IsPhaseSound, IsEntrySound, IsLineSound, IsSound}
use Rattle.pv_law_quorum.proofs.BallotLemmas.{if-either, greater-either, greater-first, greater-second, above-reached, majority-more}
use Rattle.pv_law_quorum.proofs.RecordLemmas.{named-reached, value-named, vote-reached, promised-each, last-vote-is, listed-accepted}
use Rattle.pv_law_quorum.proofs.AnswerLemmas.{txn_of, promise-value}
use Rattle.pv_law_quorum.proofs.StableLemmas.{has-stays, has-either, promise-stays, backed-stays, value-stays, record-stays, message-stays, line-stays}

-- the ballot of a record
abbrev ballot_in : Record → Ballot
ballot_in (ballot_promised txn ballot) = ballot
ballot_in (value_accepted txn ballot commits) = ballot

-- the value of a record, where it has one
abbrev value_in : Record → Bool
value_in (ballot_promised txn ballot) = true
value_in (value_accepted txn ballot commits) = commits

-- A ballot of a byte.
abbrev pub IsSmall : Option Ballot → Type 0
IsSmall None = ⊤
IsSmall (Some ballot) = ballot.decider < 256

-- A ballot with the next number is above each that is promised.
pub next-above : (other : Option Ballot) (decider k : ℕ) → IsSmall other → Reaches (λ (b : Ballot). b) other k
    → k < rank (record { number = number_in other + 1; decider = decider })
next-above None decider k small h = absurd h
next-above (Some ballot) decider k small h = omega (arith, small, h)

-- Who is among deciders with one more.
among-cases : (first : ℕ) (rest : List ℕ) (k : ℕ) → is_among (first ∷ rest) k ≡ true → (k ≡ first) ⊎ (is_among rest k ≡ true)
among-cases first rest k h = ⊎_elim (λ here. inl (eqb-true k first here)) (λ later. inr later) (or_cases (k == first) (is_among rest k) h)

among-one : (first k : ℕ) → is_among (first ∷ []) k ≡ true → k ≡ first
among-one first k h = ⊎_elim (λ here. here) (λ wrong. absurd (false≢true wrong)) (among-cases first [] k h)

follows-told : (last : Option Vote) (commits : Bool) → Follows last (value_told last commits)
follows-told None commits = tt
follows-told (Some vote) commits = refl

records-listed : (deciders : List Decider) (n : ℕ) (kept : Record) → Contains (get_or deciders n no_decider).records kept → n < length deciders
records-listed [] n kept h = absurd (Contains-nil kept h)
records-listed (first ∷ rest) zero kept h = omega arith
records-listed (first ∷ rest) (suc n) kept h = let later : n < length rest = records-listed rest n kept h in omega (arith, later)

module _ (setup : Setup) (Proposed : TxnId → Bool → Type 0) (w : World) (sound : IsSound setup Proposed w) where
  -- A message that was sent is sound.
  told : (from to : ℕ) (message : Message) → Sent w from to message → IsMessageSound setup Proposed w from message
  told from to message h = sound.sent (record { from = from; to = to; message = message }) h

  -- What is promised to a proposer is sound.

  asking-of : (n : ℕ) (entry : Entry) → Holds w n entry → entry.phase ≡ asking → IsAskingSound setup Proposed w n entry
  asking-of n entry holds phase = subst (IsPhaseSound setup Proposed w n entry) phase (sound.entries n entry holds).by_phase

  widened : (n : ℕ) (txn : TxnId) (ballot : Ballot) (one other : Option Vote) → HasPromised w n txn ballot one ⊎ HasPromised w n txn ballot other
      → HasPromised w n txn ballot (greater (λ (vote : Vote). vote.ballot) one other)
  widened n txn ballot one other (inl is) = record {
    has = is.has;
    tells = λ below commits h less. greater-first (λ (vote : Vote). vote.ballot) one other (rank below) (is.tells below commits h less);
  }
  widened n txn ballot one other (inr is) = record {
    has = is.has;
    tells = λ below commits h less. greater-second (λ (vote : Vote). vote.ballot) one other (rank below) (is.tells below commits h less);
  }

  promising-promises : (n : ℕ) (entry : Entry) (from : ℕ) (last : Option Vote) → IsPromised w n entry from last → (k : ℕ)
      → is_among (from ∷ entry.counted) k ≡ true → HasPromised w k entry.txn entry.ballot (promising entry from last).last
  promising-promises n entry from last is k among =
      widened k entry.txn entry.ballot entry.last last
      (⊎_elim
      (λ here. inr (subst (λ m. HasPromised w m entry.txn entry.ballot last) (sym here) (told from n (promise entry.txn entry.ballot last) is.told).0))
      (λ before. inl ((asking-of n entry is.holds is.phase).promises k before))
      (among-cases from entry.counted k among))

  promising-backed : (n : ℕ) (entry : Entry) (from : ℕ) (last : Option Vote) → IsPromised w n entry from last
      → IsBacked w entry.txn entry.ballot (promising entry from last).last
  promising-backed n entry from last is =
      greater-either (λ (vote : Vote). vote.ballot) (IsBacked w entry.txn entry.ballot) entry.last last
      (asking-of n entry is.holds is.phase).backed (told from n (promise entry.txn entry.ballot last) is.told).1

  told-proposed : (txn : TxnId) (ballot : Ballot) (last : Option Vote) (commits : Bool) → IsBacked w txn ballot last → Proposed txn commits → Proposed txn (value_told last commits)
  told-proposed txn ballot None commits backed proposed = proposed
  told-proposed txn ballot (Some vote) commits backed proposed =
      let is : IsValueSound setup Proposed w txn vote.ballot vote.commits = sound.records backed.1.0 (value_accepted txn vote.ballot vote.commits) backed.1.1 in is.proposed

  -- Those counted with one more that has accepted have accepted the value.
  counting-accepted : (n : ℕ) (entry : Entry) (from : ℕ) → IsAccepted w n entry from → (k : ℕ) → is_among (from ∷ entry.counted) k ≡ true
      → Has w k (value_accepted entry.txn entry.ballot entry.commits)
  counting-accepted n entry from is k among =
      let entry_sound = sound.entries n entry is.holds in
      let phase_sound = subst (IsPhaseSound setup Proposed w n entry) is.phase entry_sound.by_phase in
      let said = told from n (accepted entry.txn entry.ballot) is.told in
      let value : IsValueSound setup Proposed w entry.txn entry.ballot said.0 = sound.records from (value_accepted entry.txn entry.ballot said.0) said.1 in
      let same : said.0 ≡ entry.commits = sound.one entry.txn entry.ballot said.0 entry.commits value.own
      (subst (λ m. Has w m (value_accepted entry.txn entry.ballot entry.commits)) (sym entry_sound.own) phase_sound.1) in
      ⊎_elim
      (λ here. subst (λ m. Has w m (value_accepted entry.txn entry.ballot entry.commits)) (sym here)
      (subst (λ (c : Bool). Has w from (value_accepted entry.txn entry.ballot c)) same said.1))
      (λ before. phase_sound.0 k before)
      (among-cases from entry.counted k among)

  -- A decider that has a record is one of the world's.
  pub has-within : (n : ℕ) (kept : Record) → Has w n kept → n < length w.deciders
  has-within n kept h = records-listed w.deciders n kept h

  pub named-small : (n : ℕ) (txn : TxnId) (kept : Record) → Has w n kept → IsSmall (named txn kept)
  named-small n txn (ballot_promised other ballot) h =
      let within = has-within ballot.decider (ballot_promised other ballot) (sound.records n (ballot_promised other ballot) h) in
      if-either IsSmall (is_same_txn txn other) (Some ballot) None (omega (arith, within, sound.few)) tt
  named-small n txn (value_accepted other ballot commits) h =
      let value : IsValueSound setup Proposed w other ballot commits = sound.records n (value_accepted other ballot commits) h in
      let within = has-within ballot.decider (value_accepted other ballot commits) value.own in
      if-either IsSmall (is_same_txn txn other) (Some ballot) None (omega (arith, within, sound.few)) tt

  -- A ballot with the next number is above each in which a value is accepted here.
  pub next-above-value : (n : ℕ) (txn : TxnId) (decider : ℕ) (ballot : Ballot) (commits : Bool) → Has w n (value_accepted txn ballot commits)
      → rank ballot < rank (record { number = number_in (promised txn (records_at w n)) + 1; decider = decider })
  next-above-value n txn decider ballot commits h =
      next-above (promised txn (records_at w n)) decider (rank ballot)
      (promised-each IsSmall tt txn (records_at w n) (named-small n txn))
      (named-reached txn (records_at w n) (value_accepted txn ballot commits) ballot h (value-named txn ballot commits))

  -- The world after a step.
  module _ (v : World) (step : IsStep setup Proposed w v) where
    -- What was told with a promise that is recorded.
    last-told : (n : ℕ) (txn : TxnId) (ballot : Ballot) → Has v n (ballot_promised txn ballot)
        → ((kept : Record) → Has v n kept → Has w n kept ⊎ (ballot_promised txn ballot ≡ kept)) → HasPromised v n txn ballot (last_vote txn (records_at w n))
    last-told n txn ballot has only = record {
      has = has;
      tells = λ below commits h less. ⊎_elim
          (λ old. vote-reached txn (records_at w n) below commits old)
          (λ is. absurd (promise-value is))
          (only (value_accepted txn below commits) h);
    }

    last-backed : (n : ℕ) (txn : TxnId) (ballot : Ballot)
        → ((below : Ballot) (commits : Bool) → Has w n (value_accepted txn below commits) → rank below < rank ballot)
        → IsBacked v txn ballot (last_vote txn (records_at w n))
    last-backed n txn ballot above =
        last-vote-is (IsBacked v txn ballot) tt txn (records_at w n)
        (λ below commits h. (above below commits h, (n, has-stays setup Proposed w v step n (value_accepted txn below commits) h)))

    -- Records.

    value-new : (n : ℕ) (entry : Entry) (from : ℕ) (last : Option Vote) → MayAsk setup w n entry from last
        → Has v n (value_accepted entry.txn entry.ballot (value_of (promising entry from last)))
        → IsValueSound setup Proposed v entry.txn entry.ballot (value_of (promising entry from last))
    value-new n entry from last may has = record {
      own = subst (λ m. Has v m (value_accepted entry.txn entry.ballot (value_of (promising entry from last)))) (sym (sound.entries n entry may.promised_by.holds).own) has;
      safe = record {
        counted = from ∷ entry.counted;
        most = may.most;
        last = (promising entry from last).last;
        promises = λ k among. promise-stays setup Proposed w v step k entry.txn entry.ballot (promising entry from last).last
            (promising-promises n entry from last may.promised_by k among);
        backed = backed-stays setup Proposed w v step entry.txn entry.ballot (promising entry from last).last (promising-backed n entry from last may.promised_by);
        follows = follows-told (promising entry from last).last entry.commits;
      };
      proposed = told-proposed entry.txn entry.ballot (promising entry from last).last entry.commits (promising-backed n entry from last may.promised_by)
          (asking-of n entry may.promised_by.holds may.promised_by.phase).proposed;
    }

    record-new : (n : ℕ) (kept : Record) → Has v n kept → NewRecord setup w n kept → IsRecordSound setup Proposed v kept
    record-new n kept has (own_promise txn ballot own within is) =
        subst (IsRecordSound setup Proposed v) (sym is) (subst (λ m. Has v m (ballot_promised txn ballot)) (sym own) (subst (Has v n) is has))
    record-new n kept has (asked_promise txn ballot from sent is) =
        let asked = told from n (prepare txn ballot) sent in
        subst (IsRecordSound setup Proposed v) (sym is)
        (subst (λ m. Has v m (ballot_promised txn ballot)) (sym asked.0) (has-stays setup Proposed w v step from (ballot_promised txn ballot) asked.1))
    record-new n kept has (own_value entry from last may is) =
        subst (IsRecordSound setup Proposed v) (sym is) (value-new n entry from last may (subst (Has v n) is has))
    record-new n kept has (asked_value txn ballot commits from sent unpassed is) =
        subst (IsRecordSound setup Proposed v) (sym is) (value-stays setup Proposed w v step txn ballot commits
        (sound.records from (value_accepted txn ballot commits) (told from n (accept txn ballot commits) sent).1))

    records-sound : (n : ℕ) (kept : Record) → Has v n kept → IsRecordSound setup Proposed v kept
    records-sound n kept h =
        ⊎_elim (λ old. record-stays setup Proposed w v step kept (sound.records n kept old)) (λ new. record-new n kept h new)
        (has-either setup Proposed w v step n kept h)

    -- A ballot has one value.

    -- A value that is recorded by its ballot's decider already.
    abbrev HasOwn : Record → Type 0
    HasOwn (ballot_promised txn ballot) = ⊤
    HasOwn (value_accepted txn ballot commits) = Has w ballot.decider (value_accepted txn ballot commits)

    no-two : (txn : TxnId) (ballot : Ballot) (one other : Bool) → Has w ballot.decider (value_accepted txn ballot one)
        → NewRecord setup w ballot.decider (value_accepted txn ballot other) → one ≡ other
    no-two txn ballot one other h (own_promise new_txn new_ballot own within is) = absurd (promise-value (sym is))
    no-two txn ballot one other h (asked_promise new_txn new_ballot from sent is) = absurd (promise-value (sym is))
    no-two txn ballot one other h (own_value entry from last may is) =
        absurd ((asking-of ballot.decider entry may.promised_by.holds may.promised_by.phase).unused one
        (subst (Has w ballot.decider) (λ i. value_accepted (txn_of (is i)) (ballot_in (is i)) one) h))
    no-two txn ballot one other h (asked_value new_txn new_ballot commits from sent unpassed is) =
        let asked = told from ballot.decider (accept new_txn new_ballot commits) sent in
        sound.one txn ballot one other h
        (subst HasOwn (sym is) (subst (λ m. Has w m (value_accepted new_txn new_ballot commits)) (sym asked.0) asked.1))

    one-sound : (txn : TxnId) (ballot : Ballot) (one other : Bool) → Has v ballot.decider (value_accepted txn ballot one)
        → Has v ballot.decider (value_accepted txn ballot other) → one ≡ other
    one-sound txn ballot one other h k = by (step.records ballot.decider) where
      by : MayGrow setup Proposed w v ballot.decider → one ≡ other
      by (as_was same) =
          sound.one txn ballot one other
          (subst (λ (records : List Record). Contains records (value_accepted txn ballot one)) same h)
          (subst (λ (records : List Record). Contains records (value_accepted txn ballot other)) same k)
      by (one_more more new same) =
          let first = Contains-push_cases (records_at w ballot.decider) more (value_accepted txn ballot one)
          (subst (λ (records : List Record). Contains records (value_accepted txn ballot one)) same h) in
          let second = Contains-push_cases (records_at w ballot.decider) more (value_accepted txn ballot other)
          (subst (λ (records : List Record). Contains records (value_accepted txn ballot other)) same k) in
          ⊎_elim
          (λ old. ⊎_elim
          (λ both. sound.one txn ballot one other old both)
          (λ is. no-two txn ballot one other old (subst (NewRecord setup w ballot.decider) is new))
          second)
          (λ is. ⊎_elim
          (λ old. sym (no-two txn ballot other one old (subst (NewRecord setup w ballot.decider) is new)))
          (λ also. ap value_in (sym is ∙ also))
          second)
          first

    -- Messages.

    message-new : (from : ℕ) (message : Message) → NewMessage setup Proposed w v from message → IsMessageSound setup Proposed v from message
    message-new from message (prepares txn ballot own has is) = subst (IsMessageSound setup Proposed v from) (sym is) (own, has)
    message-new from message (promises txn ballot above has only is) =
        subst (IsMessageSound setup Proposed v from) (sym is) (
          last-told from txn ballot has only,
          last-backed from txn ballot (λ below commits h. above-reached ballot (promised txn (records_at w from)) (rank below) above
              (named-reached txn (records_at w from) (value_accepted txn below commits) below h (value-named txn below commits))),
        )
    message-new from message (asks_for entry commits holds phase has is) =
        subst (IsMessageSound setup Proposed v from) (sym is) ((sound.entries from entry holds).own, has)
    message-new from message (answers txn ballot commits has is) = subst (IsMessageSound setup Proposed v from) (sym is) (commits, has)

    sent-sound : (envelope : Envelope) → Contains v.sent envelope → IsMessageSound setup Proposed v envelope.from envelope.message
    sent-sound envelope h =
        ⊎_elim (λ old. message-stays setup Proposed w v step envelope.from envelope.message (sound.sent envelope old))
        (λ new. message-new envelope.from envelope.message new) (step.sent envelope h)

    -- Entries.

    unused-stays : (n : ℕ) (entry : Entry) → entry.ballot.decider ≡ n → IsAskingSound setup Proposed w n entry → Spares setup Proposed w v n entry.txn entry.ballot
        → (commits : Bool) → Has v n (value_accepted entry.txn entry.ballot commits) → ⊥
    unused-stays n entry own asking_sound spares commits h =
        ⊎_elim
        (λ old. asking_sound.unused commits old)
        (λ asked. let by = told asked.0 n (accept entry.txn entry.ballot commits) asked.1 in
        asking_sound.unused commits (subst (λ m. Has w m (value_accepted entry.txn entry.ballot commits)) (sym by.0 ∙ own) by.1))
        (spares commits h)

    phase-stays : (n : ℕ) (entry : Entry) (phase : Phase) → entry.ballot.decider ≡ n → Spares setup Proposed w v n entry.txn entry.ballot
        → IsPhaseSound setup Proposed w n entry phase → IsPhaseSound setup Proposed v n entry phase
    phase-stays n entry asking own spares is = record {
      unused = unused-stays n entry own is spares;
      promises = λ k among. promise-stays setup Proposed w v step k entry.txn entry.ballot entry.last (is.promises k among);
      backed = backed-stays setup Proposed w v step entry.txn entry.ballot entry.last is.backed;
      proposed = is.proposed;
    }
    phase-stays n entry accepting own spares is = (
      λ k among. has-stays setup Proposed w v step k (value_accepted entry.txn entry.ballot entry.commits) (is.0 k among),
      has-stays setup Proposed w v step n (value_accepted entry.txn entry.ballot entry.commits) is.1,
    )

    begun-sound : (n : ℕ) (txn : TxnId) (commits : Bool) → Proposed txn commits → Has v n (ballot_promised txn (first_entry setup Proposed w v n txn commits).ballot)
        → ((kept : Record) → Has v n kept → Has w n kept ⊎ (ballot_promised txn (first_entry setup Proposed w v n txn commits).ballot ≡ kept))
        → IsEntrySound setup Proposed v n (first_entry setup Proposed w v n txn commits)
    begun-sound n txn commits proposed has only =
        let entry = first_entry setup Proposed w v n txn commits in
        record {
          own = refl;
          by_phase = record {
            unused = λ value h. ⊎_elim
                (λ old. let below : rank entry.ballot < rank entry.ballot = next-above-value n txn n entry.ballot value old in absurd (omega (arith, below)))
                (λ is. promise-value is)
                (only (value_accepted txn entry.ballot value) h);
            promises = λ k among. subst (λ m. HasPromised v m txn entry.ballot (last_vote txn (records_at w n))) (sym (among-one n k among)) (last-told n txn entry.ballot has only);
            backed = last-backed n txn entry.ballot (λ below value h. next-above-value n txn n below value h);
            proposed = proposed;
          };
        }

    entry-new : (n : ℕ) (entry : Entry) → NewEntry setup Proposed w v n entry → IsEntrySound setup Proposed v n entry
    entry-new n entry (begins txn commits proposed within has only is) =
        subst (IsEntrySound setup Proposed v n) (sym is) (begun-sound n txn commits proposed has only)
    entry-new n entry (counts old from last promised_by spares is) =
        let own = (sound.entries n old promised_by.holds).own in
        let asking_sound = asking-of n old promised_by.holds promised_by.phase in
        let now : IsAskingSound setup Proposed v n (promising old from last) = record {
          unused = unused-stays n old own asking_sound spares;
          promises = λ k among. promise-stays setup Proposed w v step k old.txn old.ballot (promising old from last).last (promising-promises n old from last promised_by k among);
          backed = backed-stays setup Proposed w v step old.txn old.ballot (promising old from last).last (promising-backed n old from last promised_by);
          proposed = asking_sound.proposed;
        } in
        subst (IsEntrySound setup Proposed v n) (sym is)
        (record { own = own; by_phase = subst (IsPhaseSound setup Proposed v n (promising old from last)) (sym promised_by.phase) now })
    entry-new n entry (asks old from last may has is) =
        subst (IsEntrySound setup Proposed v n) (sym is)
        (record {
          own = (sound.entries n old may.promised_by.holds).own;
          by_phase = (λ k among. subst (λ m. Has v m (value_accepted old.txn old.ballot (value_of (promising old from last)))) (sym (among-one n k among)) has, has);
        })
    entry-new n entry (hears old from accepted_by is) =
        let now = counting-accepted n old from accepted_by in
        let phase_sound = subst (IsPhaseSound setup Proposed w n old) accepted_by.phase (sound.entries n old accepted_by.holds).by_phase in
        subst (IsEntrySound setup Proposed v n) (sym is)
        (record {
          own = (sound.entries n old accepted_by.holds).own;
          by_phase = subst (IsPhaseSound setup Proposed v n (counting old from)) (sym accepted_by.phase) (
            λ k among. has-stays setup Proposed w v step k (value_accepted old.txn old.ballot old.commits) (now k among),
            has-stays setup Proposed w v step n (value_accepted old.txn old.ballot old.commits) phase_sound.1,
          );
        })

    entries-sound : (n : ℕ) (entry : Entry) → Holds v n entry → IsEntrySound setup Proposed v n entry
    entries-sound n entry h =
        ⊎_elim
        (λ old. let is = sound.entries n entry old.0 in
        record { own = is.own; by_phase = phase-stays n entry entry.phase is.own old.1 is.by_phase })
        (λ new. entry-new n entry new)
        (step.entries n entry h)

    -- Lines.

    line-new : (line : Line) → NewLine setup Proposed w v line → IsLineSound setup Proposed v line
    line-new line (decides n entry from accepted_by most is) =
        subst (IsLineSound setup Proposed v) (sym is)
        (record {
          ballot = entry.ballot;
          by_most = majority-more setup.deciders (is_among (from ∷ entry.counted)) (λ k. has_accepted (records_at v k) entry.txn entry.ballot entry.commits)
              (λ k among. listed-accepted (records_at v k) entry.txn entry.ballot entry.commits
              (has-stays setup Proposed w v step k (value_accepted entry.txn entry.ballot entry.commits) (counting-accepted n entry from accepted_by k among))) most;
        })
    line-new line (is_spent n is) = subst (IsLineSound setup Proposed v) (sym is) tt
    line-new line (is_full n long is) = subst (IsLineSound setup Proposed v) (sym is) tt

    pub sound-stays : IsSound setup Proposed v
    sound-stays = record {
      few = omega (arith, sound.few, step.count);
      records = records-sound;
      one = one-sound;
      sent = sent-sound;
      entries = entries-sound;
      lines = λ line h. ⊎_elim (λ old. line-stays setup Proposed w v step line (sound.lines line old)) (λ new. line-new line new) (step.lines line h);
    }
