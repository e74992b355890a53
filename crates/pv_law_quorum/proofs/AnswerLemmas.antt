-- What is new in an answer of a decider has its cause.
use Rattle.std.proofs.Common.{◌≡◌, ◌⊎◌, ⊎_elim, ℕ, zero, suc, ◌<◌, Bool, true, false, Some, None, Option, List, [], ◌∷◌, ◌++◌, length, inl, inr, refl, sym, ap, subst, ◌∙◌}
use Rattle.std.specs.Prelude.{if◌then◌else◌, ◌==◌, ◌&&◌, not, nat_lt, nat_le, option_to_list, ⊤}
use Rattle.std.specs.List.{Contains}
use Rattle.std.proofs.lemmas.Bool.{and_parts, false≢true}
use Rattle.std.proofs.lemmas.List.Elements.{Contains-append_cases, Contains-append_left, Contains-push, Contains-push_cases}
use Rattle.pv_base.proofs.AssignmentLemmas.{same-from-eq}
use Rattle.pv_base.proofs.ContainsLemmas.{Contains-nil, Contains-cases}
use Rattle.pv_base.specs.declared.txn.TxnId.{TxnId}
use Rattle.pv_law_quorum.specs.Ballot.{Ballot, is_same_ballot, is_passed, is_above, is_majority}
use Rattle.pv_law_quorum.specs.Record.{Record, ballot_promised, value_accepted, Vote, promised, last_vote, has_accepted}
use Rattle.pv_law_quorum.specs.Decider.{Setup, Message, prepare, promise, accept, accepted, Phase, asking, accepting, Entry, Here, Input, propose, receive, Line, spent, full, decided, Outgoing, Answer, without, with_entry, entry_of, is_among, to_others, is_same_phase, awaits, number_in, holding, begin_ballot, on_propose, on_prepare, ask_to_accept, with_promise, on_promise, on_accept, with_accepted, on_accepted, answer_to, within_limit, step}
use Rattle.pv_law_quorum.specs.World.{World, decider_at, records_at}
use Rattle.pv_law_quorum.specs.Steps.{Sent, Has, Holds, entries_in, promising, counting, value_of, accepting_of, IsPromised, IsAccepted, MayAsk, NewRecord, own_promise, asked_promise, own_value, asked_value, Spares, first_entry, NewEntry, begins, counts, asks, hears, NewMessage, prepares, promises, asks_for, answers, NewLine, decides, is_spent, is_full}
use Rattle.pv_law_quorum.proofs.BallotLemmas.{if-either, if-by}
use Rattle.pv_law_quorum.proofs.RecordLemmas.{accepted-listed, found-entry, left-entry, listed-either, same-ballot-eq}

-- the transaction of a record
abbrev pub txn_of : Record → TxnId
txn_of (ballot_promised txn ballot) = txn
txn_of (value_accepted txn ballot commits) = txn

pub promise-value : {txn other : TxnId} {ballot taken : Ballot} {commits : Bool} → ballot_promised txn ballot ≡ value_accepted other taken commits → ⊥
promise-value e = cc

pub same-phase-eq : (phase other : Phase) → is_same_phase phase other ≡ true → phase ≡ other
same-phase-eq asking asking h = refl
same-phase-eq asking accepting h = absurd (false≢true h)
same-phase-eq accepting asking h = absurd (false≢true h)
same-phase-eq accepting accepting h = refl

-- What goes to the others is the message.
others-message : (count me : ℕ) (message : Message) (outgoing : Outgoing) → Contains (to_others count me message) outgoing → message ≡ outgoing.message
others-message zero me message outgoing h = absurd (Contains-nil outgoing h)
others-message (suc n) me message outgoing h =
    ⊎_elim
    (λ before. others-message n me message outgoing before)
    (λ here. by (n == me) here)
    (Contains-append_cases (to_others n me message) (if n == me then [] else record { to = n; message = message } ∷ []) outgoing h) where
      by : (b : Bool) → Contains (if b then [] else record { to = n; message = message } ∷ []) outgoing → message ≡ outgoing.message
      by true h = absurd (Contains-nil outgoing h)
      by false h = ap (λ (o : Outgoing). o.message) (listed-either (record { to = n; message = message }) outgoing h)

-- A record that is appended has its cause.
abbrev pub AppendsNew : Setup → World → ℕ → Option Record → Type 0
AppendsNew setup w n None = ⊤
AppendsNew setup w n (Some kept) = NewRecord setup w n kept

-- An input is a message that was sent, or a proposal.
abbrev pub IsGiven : Setup → (TxnId → Bool → Type 0) → World → ℕ → Input → Type 0
IsGiven setup Proposed w n (propose txn commits) = Proposed txn commits
IsGiven setup Proposed w n (receive from message) = Sent w from n message

module _ (setup : Setup) (Proposed : TxnId → Bool → Type 0) (w v : World) (n : ℕ) (memory : List Entry)
    (up : (decider_at w n).memory ≡ Some memory) (within : n < length w.deciders) where
  abbrev here : Here
  here = record { me = n; records = records_at w n; entries = memory }

  -- What is in the answer was there, or is new with its cause.
  pub record IsAnswer (answer : Answer) : Type 0 where
    pub appended : AppendsNew setup w n answer.appended
    pub entries : (entry : Entry) → Contains answer.entries entry
        → (Holds w n entry × Spares setup Proposed w v n entry.txn entry.ballot) ⊎ NewEntry setup Proposed w v n entry
    pub sends : (outgoing : Outgoing) → Contains answer.sends outgoing → NewMessage setup Proposed w v n outgoing.message
    pub lines : (line : Line) → Contains answer.lines line → NewLine setup Proposed w v line

  -- That holds if the world after has the record that the answer appends.
  abbrev pub Fits : Answer → Type 0
  Fits answer = records_at v n ≡ records_at w n ++ option_to_list answer.appended → IsAnswer answer

  held : (entry : Entry) → Contains memory entry → Holds w n entry
  held entry h = subst (λ (m : Option (List Entry)). Contains (entries_in m) entry) (sym up) h

  has-same : records_at v n ≡ records_at w n ++ [] → (kept : Record) → Has v n kept → Has w n kept
  has-same same kept h =
      ⊎_elim (λ old. old) (λ wrong. absurd (Contains-nil kept wrong))
      (Contains-append_cases (records_at w n) [] kept (subst (λ (records : List Record). Contains records kept) same h))

  has-new : (kept : Record) → records_at v n ≡ records_at w n ++ kept ∷ [] → Has v n kept
  has-new kept same = subst (λ (records : List Record). Contains records kept) (sym same) (Contains-push (records_at w n) kept)

  has-either : (more : Record) → records_at v n ≡ records_at w n ++ more ∷ [] → (kept : Record) → Has v n kept → Has w n kept ⊎ (more ≡ kept)
  has-either more same kept h = Contains-push_cases (records_at w n) more kept (subst (λ (records : List Record). Contains records kept) same h)

  has-left : (kept : Record) → Has w n kept → Contains (records_at w n ++ []) kept
  has-left kept h = Contains-append_left (records_at w n) [] kept h

  no-sends : (outgoing : Outgoing) → Contains [] outgoing → NewMessage setup Proposed w v n outgoing.message
  no-sends outgoing h = absurd (Contains-nil outgoing h)

  no-lines : (line : Line) → Contains [] line → NewLine setup Proposed w v line
  no-lines line h = absurd (Contains-nil line h)

  spares-same : records_at v n ≡ records_at w n ++ [] → (txn : TxnId) (ballot : Ballot) → Spares setup Proposed w v n txn ballot
  spares-same same txn ballot = λ commits h. inl (has-same same (value_accepted txn ballot commits) h)

  -- Nothing is appended or sent, and no entry is new.
  quiet-fits : (rest : List Entry) (lines : List Line) → ((entry : Entry) → Contains rest entry → Contains memory entry)
      → ((line : Line) → Contains lines line → NewLine setup Proposed w v line) → Fits (record { entries = rest; appended = None; sends = []; lines = lines })
  quiet-fits rest lines left new = λ same. record {
    appended = tt;
    entries = λ entry h. inl (held entry (left entry h), spares-same same entry.txn entry.ballot);
    sends = no-sends;
    lines = new;
  }

  idle-fits : Fits (holding memory)
  idle-fits = quiet-fits memory [] (λ entry h. h) no-lines

  less-fits : (txn : TxnId) (lines : List Line) → ((line : Line) → Contains lines line → NewLine setup Proposed w v line)
      → Fits (record { entries = without txn memory; appended = None; sends = []; lines = lines })
  less-fits txn lines new = quiet-fits (without txn memory) lines (λ entry h. (left-entry txn memory entry h).0) new

  limit-fits : (answer : Answer) (appended : Option Record) → Fits answer → Fits (within_limit setup here answer appended)
  limit-fits answer None fits = fits
  limit-fits answer (Some kept) fits =
      let long = setup.length (records_at w n ++ kept ∷ []) in
      if-either Fits (nat_lt setup.limit long) (record { entries = memory; appended = None; sends = []; lines = full n long ∷ [] }) answer
      (quiet-fits memory (full n long ∷ []) (λ entry h. h)
      (λ line h. is_full n long (sym (listed-either (full n long) line h)))) fits

  -- An entry is put in, and nothing is appended.
  put-fits : (entry : Entry) → (records_at v n ≡ records_at w n ++ [] → NewEntry setup Proposed w v n entry) → Fits (holding (with_entry entry memory))
  put-fits entry new = λ same. record {
    appended = tt;
    entries = λ other h. ⊎_elim
        (λ is. inr (subst (NewEntry setup Proposed w v n) is (new same)))
        (λ behind. inl (held other (left-entry entry.txn memory other behind).0, spares-same same other.txn other.ballot))
        (Contains-cases entry (without entry.txn memory) other h);
    sends = no-sends;
    lines = no-lines;
  }

  -- An entry is put in, and a record of its transaction is appended.
  put-entries : (entry : Entry) (kept : Record) → txn_of kept ≡ entry.txn → records_at v n ≡ records_at w n ++ kept ∷ [] → NewEntry setup Proposed w v n entry
      → (other : Entry) → Contains (with_entry entry memory) other
      → (Holds w n other × Spares setup Proposed w v n other.txn other.ballot) ⊎ NewEntry setup Proposed w v n other
  put-entries entry kept own same new other h =
      ⊎_elim
      (λ is. inr (subst (NewEntry setup Proposed w v n) is new))
      (λ behind. let left = left-entry entry.txn memory other behind in
      inl (
        held other left.0,
        λ commits has. ⊎_elim
            (λ old. inl old)
            (λ is. absurd (false≢true (sym left.1 ∙ same-from-eq {t = entry.txn} {u = other.txn} (sym own ∙ ap txn_of is))))
            (has-either kept same (value_accepted other.txn other.ballot commits) has),
      ))
      (Contains-cases entry (without entry.txn memory) other h)

  propose-fits : (txn : TxnId) (commits : Bool) → Proposed txn commits → Fits (on_propose setup here txn commits)
  propose-fits txn commits allowed =
      let number = number_in (promised txn (records_at w n)) in
      let first = first_entry setup Proposed w v n txn commits in
      if-either Fits (nat_le 4294967294 number) (record { entries = memory; appended = None; sends = []; lines = spent n ∷ [] })
      (begin_ballot setup here txn commits first.ballot)
      (quiet-fits memory (spent n ∷ []) (λ entry h. h) (λ line h. is_spent n (sym (listed-either (spent n) line h))))
      (λ same. record {
        appended = own_promise txn first.ballot refl within refl;
        entries = put-entries first (ballot_promised txn first.ballot) refl same
            (begins txn commits allowed within (has-new (ballot_promised txn first.ballot) same) (has-either (ballot_promised txn first.ballot) same) refl);
        sends = λ outgoing h. prepares txn first.ballot refl (has-new (ballot_promised txn first.ballot) same) (sym (others-message setup.deciders n (prepare txn first.ballot) outgoing h));
        lines = no-lines;
      })

  prepare-fits : (from : ℕ) (txn : TxnId) (ballot : Ballot) → Sent w from n (prepare txn ballot) → Fits (on_prepare here from txn ballot)
  prepare-fits from txn ballot sent =
      if-by Fits (is_above ballot (promised txn (records_at w n)))
      (record {
        entries = memory;
        appended = Some (ballot_promised txn ballot);
        sends = record { to = from; message = promise txn ballot (last_vote txn (records_at w n)) } ∷ [];
        lines = [];
      })
      (holding memory)
      (λ above same. record {
        appended = asked_promise txn ballot from sent refl;
        entries = λ entry h. inl (
          held entry h,
          λ commits has. ⊎_elim (λ old. inl old) (λ is. absurd (promise-value is))
              (has-either (ballot_promised txn ballot) same (value_accepted entry.txn entry.ballot commits) has),
        );
        sends = λ outgoing h. promises txn ballot above (has-new (ballot_promised txn ballot) same) (has-either (ballot_promised txn ballot) same)
            (sym (ap (λ (o : Outgoing). o.message) (listed-either (record { to = from; message = promise txn ballot (last_vote txn (records_at w n)) }) outgoing h)));
        lines = no-lines;
      })
      (λ below. idle-fits)

  -- A promise that is counted.
  counted-fits : (entry : Entry) (from : ℕ) (last : Option Vote) → IsPromised w n entry from last → Fits (with_promise setup here (promising entry from last))
  counted-fits entry from last is =
      let now = promising entry from last in
      if-by Fits (is_majority setup.deciders (is_among now.counted))
      (if is_passed now.ballot (promised now.txn (records_at w n)) then holding (without now.txn memory) else ask_to_accept setup here now (value_of now))
      (holding (with_entry now memory))
      (λ most. if-by Fits (is_passed now.ballot (promised now.txn (records_at w n))) (holding (without now.txn memory)) (ask_to_accept setup here now (value_of now))
      (λ passed. less-fits now.txn [] no-lines)
      (λ unpassed same.
      let may : MayAsk setup w n entry from last = record { promised_by = is; most = most; unpassed = unpassed } in
      let kept = value_accepted entry.txn entry.ballot (value_of now) in
      record {
        appended = own_value entry from last may refl;
        entries = put-entries (accepting_of n now) kept refl same (asks entry from last may (has-new kept same) refl);
        sends = λ outgoing h. asks_for entry (value_of now) is.holds is.phase (has-new kept same)
            (sym (others-message setup.deciders n (accept entry.txn entry.ballot (value_of now)) outgoing h));
        lines = no-lines;
      }))
      (λ few. put-fits now (λ same. counts entry from last is (spares-same same entry.txn entry.ballot) refl))

  -- what an entry says that awaits a decider
  awaited : (txn : TxnId) (ballot : Ballot) (phase : Phase) (from : ℕ) (entry : Entry) (of : Ballot → TxnId → Message) → Sent w from n (of ballot txn)
      → txn ≡ entry.txn → awaits entry phase ballot from ≡ true → (entry.phase ≡ phase) × Sent w from n (of entry.ballot entry.txn)
  awaited txn ballot phase from entry of sent same waits =
      let outer = and_parts (is_same_phase entry.phase phase) (is_same_ballot ballot entry.ballot && not (is_among entry.counted from)) waits in
      let inner = and_parts (is_same_ballot ballot entry.ballot) (not (is_among entry.counted from)) outer.1 in (
        same-phase-eq entry.phase phase outer.0,
        subst (λ (b : Ballot). Sent w from n (of b entry.txn)) (same-ballot-eq ballot entry.ballot inner.0)
            (subst (λ (t : TxnId). Sent w from n (of ballot t)) same sent),
      )

  promise-fits : (from : ℕ) (txn : TxnId) (ballot : Ballot) (last : Option Vote) → Sent w from n (promise txn ballot last) → (found : Option Entry)
      → entry_of txn memory ≡ found → Fits (on_promise setup here from ballot last found)
  promise-fits from txn ballot last sent None is = idle-fits
  promise-fits from txn ballot last sent (Some entry) is =
      let found = found-entry txn memory entry is in
      if-by Fits (awaits entry asking ballot from) (with_promise setup here (promising entry from last)) (holding memory)
      (λ waits. let told = awaited txn ballot asking from entry (λ b t. promise t b last) sent found.1 waits in
      counted-fits entry from last (record { holds = held entry found.0; phase = told.0; told = told.1 }))
      (λ not_now. idle-fits)

  -- the record of a value is one that was asked for
  abbrev AskedFor : Record → Type 0
  AskedFor (ballot_promised txn ballot) = ⊤
  AskedFor (value_accepted txn ballot commits) = (from : ℕ) × Sent w from n (accept txn ballot commits)

  accept-fits : (from : ℕ) (txn : TxnId) (ballot : Ballot) (commits : Bool) → Sent w from n (accept txn ballot commits) → Fits (on_accept here from txn ballot commits)
  accept-fits from txn ballot commits sent =
      if-by Fits (is_passed ballot (promised txn (records_at w n))) (holding memory)
      (record {
        entries = memory;
        appended = if has_accepted (records_at w n) txn ballot commits then None else Some (value_accepted txn ballot commits);
        sends = record { to = from; message = accepted txn ballot } ∷ [];
        lines = [];
      })
      (λ passed. idle-fits) (λ unpassed. by (has_accepted (records_at w n) txn ballot commits) refl unpassed) where
        by : (b : Bool) → has_accepted (records_at w n) txn ballot commits ≡ b → is_passed ballot (promised txn (records_at w n)) ≡ false
            → Fits (record { entries = memory; appended = if b then None else Some (value_accepted txn ballot commits); sends = record { to = from; message = accepted txn ballot } ∷ []; lines = [] })
        by true was unpassed = λ same. record {
          appended = tt;
          entries = λ entry h. inl (held entry h, spares-same same entry.txn entry.ballot);
          sends = λ outgoing h. answers txn ballot commits
              (subst (λ (records : List Record). Contains records (value_accepted txn ballot commits)) (sym same)
              (has-left (value_accepted txn ballot commits) (accepted-listed (records_at w n) txn ballot commits was)))
              (sym (ap (λ (o : Outgoing). o.message) (listed-either (record { to = from; message = accepted txn ballot }) outgoing h)));
          lines = no-lines;
        }
        by false new unpassed = λ same. record {
          appended = asked_value txn ballot commits from sent unpassed refl;
          entries = λ entry h. inl (
            held entry h,
            λ value has. ⊎_elim (λ old. inl old) (λ is. inr (subst AskedFor is (from, sent)))
                (has-either (value_accepted txn ballot commits) same (value_accepted entry.txn entry.ballot value) has),
          );
          sends = λ outgoing h. answers txn ballot commits (has-new (value_accepted txn ballot commits) same)
              (sym (ap (λ (o : Outgoing). o.message) (listed-either (record { to = from; message = accepted txn ballot }) outgoing h)));
          lines = no-lines;
        }

  heard-fits : (entry : Entry) (from : ℕ) → IsAccepted w n entry from → Fits (with_accepted setup here (counting entry from))
  heard-fits entry from is =
      let now = counting entry from in
      if-by Fits (is_majority setup.deciders (is_among now.counted))
      (record { entries = without now.txn memory; appended = None; sends = []; lines = decided n now.txn now.commits ∷ [] })
      (holding (with_entry now memory))
      (λ most. less-fits now.txn (decided n now.txn now.commits ∷ [])
      (λ line h. decides n entry from is most (sym (listed-either (decided n now.txn now.commits) line h))))
      (λ few. put-fits now (λ same. hears entry from is refl))

  accepted-fits : (from : ℕ) (txn : TxnId) (ballot : Ballot) → Sent w from n (accepted txn ballot) → (found : Option Entry)
      → entry_of txn memory ≡ found → Fits (on_accepted setup here from ballot found)
  accepted-fits from txn ballot sent None is = idle-fits
  accepted-fits from txn ballot sent (Some entry) is =
      let found = found-entry txn memory entry is in
      if-by Fits (awaits entry accepting ballot from) (with_accepted setup here (counting entry from)) (holding memory)
      (λ waits. let told = awaited txn ballot accepting from entry (λ b t. accepted t b) sent found.1 waits in
      heard-fits entry from (record { holds = held entry found.0; phase = told.0; told = told.1 }))
      (λ not_now. idle-fits)

  answer-fits : (input : Input) → IsGiven setup Proposed w n input → Fits (answer_to setup here input)
  answer-fits (propose txn commits) is = propose-fits txn commits is
  answer-fits (receive from (prepare txn ballot)) is = prepare-fits from txn ballot is
  answer-fits (receive from (promise txn ballot last)) is = promise-fits from txn ballot last is (entry_of txn memory) refl
  answer-fits (receive from (accept txn ballot commits)) is = accept-fits from txn ballot commits is
  answer-fits (receive from (accepted txn ballot)) is = accepted-fits from txn ballot is (entry_of txn memory) refl

  pub step-fits : (input : Input) → IsGiven setup Proposed w n input → Fits (step setup here input)
  step-fits input is = limit-fits (answer_to setup here input) (answer_to setup here input).appended (answer-fits input is)
