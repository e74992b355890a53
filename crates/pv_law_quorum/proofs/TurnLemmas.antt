-- What becomes of a proposer's entry while no decider passes its ballot.
use Rattle.std.proofs.Common.{◌≡◌, ◌⊎◌, ⊎_elim, ℕ, zero, suc, ◌+◌, ◌*◌, ◌<◌, ◌≤◌, Bool, true, false, Some, None, Option, List, [], ◌∷◌, ◌++◌, inl, inr, refl, sym, ap, subst, ◌∙◌, arith}
use Rattle.std.specs.Prelude.{if◌then◌else◌, ◌==◌, ◌&&◌, ◌||◌, not, nat_lt, ⊤}
use Rattle.std.specs.List.{Contains}
use Rattle.std.proofs.lemmas.Bool.{le-ltb, eq-eqb, eqb-true, or_left, or_right, false≢true, cases_eq}
use Rattle.std.proofs.lemmas.List.Elements.{Contains-append_left, Contains-append_right}
use Rattle.pv_base.proofs.AssignmentLemmas.{same-refl, same-eq}
use Rattle.pv_base.proofs.Basics.{Some_inj}
use Rattle.pv_base.proofs.ContainsLemmas.{Contains-first}
use Rattle.pv_base.specs.Assignment.{is_same_txn}
use Rattle.pv_base.specs.declared.txn.TxnId.{TxnId}
use Rattle.pv_law_quorum.specs.Ballot.{Ballot, is_same_ballot, is_passed, is_above, number_of, is_majority}
use Rattle.pv_law_quorum.specs.Record.{Record, ballot_promised, value_accepted, Vote, promised, last_vote, has_accepted}
use Rattle.pv_law_quorum.specs.Decider.{Setup, Message, prepare, promise, accept, accepted, Phase, asking, accepting, Entry, Here, Input, receive, full, decided, Outgoing, Answer, without, with_entry, entry_of, is_among, to_others, is_same_phase, awaits, holding, on_prepare, ask_to_accept, with_promise, on_promise, on_accept, with_accepted, on_accepted, answer_to, within_limit, step}
use Rattle.pv_law_quorum.specs.Steps.{promising, counting, value_of, accepting_of}
use Rattle.pv_law_quorum.proofs.BallotLemmas.{if-either, if-by}
use Rattle.pv_law_quorum.proofs.RecordLemmas.{found-entry, same-ballot-refl}
use Rattle.pv_law_quorum.proofs.AnswerLemmas.{same-phase-eq}
use Rattle.std.proofs.lemmas.Bool.{and_parts}

pub none-some : {X : Type 0} {x : X} → None ≡ Some x → ⊥
none-some e = cc

-- Entries that are put in and taken out.

pub put-own : (entry : Entry) (memory : List Entry) → entry_of entry.txn (with_entry entry memory) ≡ Some entry
put-own entry memory =
    ap (λ (b : Bool). if b then Some entry else entry_of entry.txn (without entry.txn memory)) (same-refl entry.txn)

without-other : (txn t : TxnId) → is_same_txn txn t ≡ false → (memory : List Entry) → entry_of txn (without t memory) ≡ entry_of txn memory
without-other txn t apart [] = refl
without-other txn t apart (first ∷ rest) = by (is_same_txn t first.txn) refl (without-other txn t apart rest) where
  by : (b : Bool) → is_same_txn t first.txn ≡ b → entry_of txn (without t rest) ≡ entry_of txn rest
      → entry_of txn (if not b then first ∷ without t rest else without t rest) ≡ (if is_same_txn txn first.txn then Some first else entry_of txn rest)
  by true same later =
      later ∙ sym (ap (λ (c : Bool). if c then Some first else entry_of txn rest)
      (subst (λ (u : TxnId). is_same_txn txn u ≡ false) (same-eq {t = t} {u = first.txn} same) apart))
  by false other later = ap (λ (o : Option Entry). if is_same_txn txn first.txn then Some first else o) later

put-other : (txn : TxnId) (entry : Entry) (memory : List Entry) → is_same_txn txn entry.txn ≡ false → entry_of txn (with_entry entry memory) ≡ entry_of txn memory
put-other txn entry memory apart =
    ap (λ (b : Bool). if b then Some entry else entry_of txn (without entry.txn memory)) apart ∙ without-other txn entry.txn apart memory

-- One decider is no majority of three.

or-none : (b : Bool) → b ≡ false → (b || false) ≡ false
or-none true h = h
or-none false h = refl

count-by : (d n : ℕ) (b : Bool) → (d == n) ≡ b → number_of (is_among (n ∷ [])) (suc d) ≡ (if b then 1 else 0) + number_of (is_among (n ∷ [])) d
count-by d n true is = ap (λ (c : Bool). (if c then 1 else 0) + number_of (is_among (n ∷ [])) d) (or_left (d == n) false is)
count-by d n false is = ap (λ (c : Bool). (if c then 1 else 0) + number_of (is_among (n ∷ [])) d) (or-none (d == n) is)

single-by : (n d : ℕ) → (number_of (is_among (n ∷ [])) d ≤ 1) × (d ≤ n → number_of (is_among (n ∷ [])) d ≡ 0)
single-by n zero = (omega arith, λ below. refl)
single-by n (suc d) = by (d == n) refl (single-by n d) where
  by : (b : Bool) → (d == n) ≡ b → (number_of (is_among (n ∷ [])) d ≤ 1) × (d ≤ n → number_of (is_among (n ∷ [])) d ≡ 0)
      → (number_of (is_among (n ∷ [])) (suc d) ≤ 1) × (suc d ≤ n → number_of (is_among (n ∷ [])) (suc d) ≡ 0)
  by true is rest =
      let same : d ≡ n = eqb-true d n is in
      let none : number_of (is_among (n ∷ [])) d ≡ 0 = rest.1 (omega (arith, same)) in
      let more = count-by d n true is in
      (omega (arith, none, more), λ below. absurd (omega (arith, below, same)))
  by false is rest = let more = count-by d n false is in (omega (arith, rest.0, more), λ below. let none : number_of (is_among (n ∷ [])) d ≡ 0 = rest.1 (omega (arith, below)) in omega (arith, more, none))

pub single-few : (setup : Setup) (n : ℕ) → 3 ≤ setup.deciders → is_majority setup.deciders (is_among (n ∷ [])) ≡ false
single-few setup n least =
    le-ltb setup.deciders (2 * number_of (is_among (n ∷ [])) setup.deciders) (omega (arith, least, (single-by n setup.deciders).0))

-- Who goes on to be counted.

pub among-first : (first : ℕ) (rest : List ℕ) → is_among (first ∷ rest) first ≡ true
among-first first rest = or_left (first == first) (is_among rest first) (eq-eqb first first refl)

among-behind : (first : ℕ) (rest : List ℕ) (k : ℕ) → is_among rest k ≡ true → is_among (first ∷ rest) k ≡ true
among-behind first rest k h = or_right (k == first) (is_among rest k) h

counted-by : (x y z : Bool) → x ≡ true → y ≡ true → (x && (y && not z)) ≡ false → z ≡ true
counted-by true true true first second h = refl
counted-by true true false first second h = sym h
counted-by true false z first second h = absurd (false≢true second)
counted-by false y z first second h = absurd (false≢true first)

same-phase-refl : (phase : Phase) → is_same_phase phase phase ≡ true
same-phase-refl asking = refl
same-phase-refl accepting = refl

-- An entry in this phase of this ballot that doesn't await a decider has counted it.
awaits-counted : (entry : Entry) (phase : Phase) (ballot : Ballot) (from : ℕ) → entry.phase ≡ phase → ballot ≡ entry.ballot → awaits entry phase ballot from ≡ false
    → is_among entry.counted from ≡ true
awaits-counted entry phase ballot from in_phase in_ballot h =
    counted-by (is_same_phase entry.phase phase) (is_same_ballot ballot entry.ballot) (is_among entry.counted from)
    (subst (λ (p : Phase). is_same_phase entry.phase p ≡ true) in_phase (same-phase-refl entry.phase))
    (subst (λ (b : Ballot). is_same_ballot ballot b ≡ true) in_ballot (same-ballot-refl ballot)) h

-- a message to a decider
abbrev pub letter : ℕ → Message → Outgoing
letter k message = record { to = k; message = message }

last-told : (c me : ℕ) (message : Message) (k : ℕ) (b : Bool) → (c == me) ≡ b → k ≡ c → (k ≡ me → ⊥)
    → Contains (if b then [] else letter c message ∷ []) (letter k message)
last-told c me message k true is last apart = absurd (apart (last ∙ eqb-true c me is))
last-told c me message k false is last apart =
    subst (λ (m : ℕ). Contains (letter c message ∷ []) (letter m message)) (sym last) (Contains-first (letter c message) [])

pub others-told : (count me : ℕ) (message : Message) (k : ℕ) → k < count → (k ≡ me → ⊥) → Contains (to_others count me message) (letter k message)
others-told zero me message k within apart = absurd (omega (arith, within))
others-told (suc c) me message k within apart =
    ⊎_elim
    (λ last. Contains-append_right (to_others c me message) (if c == me then [] else letter c message ∷ []) (letter k message)
    (last-told c me message k (c == me) refl last apart))
    (λ (other : k ≡ c → ⊥). Contains-append_left (to_others c me message) (if c == me then [] else letter c message ∷ []) (letter k message)
    (others-told c me message k (omega (arith, within, other)) apart))
    (cases_eq k c)

module _ (setup : Setup) (least : 3 ≤ setup.deciders) (n : ℕ) (records : List Record) (memory : List Entry) (entry : Entry)
    (found : entry_of entry.txn memory ≡ Some entry) (few : is_majority setup.deciders (is_among entry.counted) ≡ false)
    (unpassed : is_passed entry.ballot (promised entry.txn records) ≡ false) where
  abbrev here : Here
  here = record { me = n; records = records; entries = memory }

  -- The entry goes from one phase to the next, or counts no fewer deciders.
  pub data Goes (answer : Answer) (after : Entry) : Type 0 where
    same : after.phase ≡ entry.phase → after.commits ≡ entry.commits → ((k : ℕ) → is_among entry.counted k ≡ true → is_among after.counted k ≡ true) → Goes answer after
    next : entry.phase ≡ asking → after.phase ≡ accepting → is_among after.counted n ≡ true
        → ((k : ℕ) → k < setup.deciders → (k ≡ n → ⊥) → Contains answer.sends (record { to = k; message = accept after.txn after.ballot after.commits })) → Goes answer after

  -- Who answers for the phase that the entry is in is counted.
  abbrev pub Heard : Input → Entry → Type 0
  Heard (receive from (promise txn ballot last)) after = txn ≡ entry.txn → ballot ≡ entry.ballot → after.phase ≡ asking → is_among after.counted from ≡ true
  Heard (receive from (accepted txn ballot)) after = txn ≡ entry.txn → ballot ≡ entry.ballot → entry.phase ≡ accepting → is_among after.counted from ≡ true
  Heard input after = ⊤

  pub record GoesOn (input : Input) (answer : Answer) (after : Entry) : Type 0 where
    pub holds : entry_of entry.txn answer.entries ≡ Some after
    pub of : after.txn ≡ entry.txn
    pub ballot : after.ballot ≡ entry.ballot
    pub goes : Goes answer after
    pub below_most : is_majority setup.deciders (is_among after.counted) ≡ false
    pub heard : Heard input after

  pub data Turn (input : Input) (answer : Answer) : Type 0 where
    fails : (long : ℕ) → Contains answer.lines (full n long) → Turn input answer
    decides : Contains answer.lines (decided n entry.txn entry.commits) → Turn input answer
    goes_on : (after : Entry) → GoesOn input answer after → Turn input answer

  stays : (input : Input) (answer : Answer) → entry_of entry.txn answer.entries ≡ Some entry → Heard input entry → Turn input answer
  stays input answer is heard = goes_on entry (record {
    holds = is;
    of = refl;
    ballot = refl;
    goes = same refl refl (λ k among. among);
    below_most = few;
    heard = heard;
  })

  turn-limit : (input : Input) (answer : Answer) (appended : Option Record) → Turn input answer → Turn input (within_limit setup here answer appended)
  turn-limit input answer None turn = turn
  turn-limit input answer (Some kept) turn =
      let long = setup.length (records ++ kept ∷ []) in
      if-either (Turn input) (nat_lt setup.limit long) (record { entries = memory; appended = None; sends = []; lines = full n long ∷ [] }) answer
      (fails long (Contains-first (full n long) [])) turn

  turn-prepare : (from : ℕ) (txn : TxnId) (ballot : Ballot) → Turn (receive from (prepare txn ballot)) (on_prepare here from txn ballot)
  turn-prepare from txn ballot =
      if-either (Turn (receive from (prepare txn ballot))) (is_above ballot (promised txn records))
      (record {
        entries = memory;
        appended = Some (ballot_promised txn ballot);
        sends = record { to = from; message = promise txn ballot (last_vote txn records) } ∷ [];
        lines = [];
      }) (holding memory)
      (stays (receive from (prepare txn ballot)) _ found tt) (stays (receive from (prepare txn ballot)) (holding memory) found tt)

  turn-accept : (from : ℕ) (txn : TxnId) (ballot : Ballot) (commits : Bool) → Turn (receive from (accept txn ballot commits)) (on_accept here from txn ballot commits)
  turn-accept from txn ballot commits =
      if-either (Turn (receive from (accept txn ballot commits))) (is_passed ballot (promised txn records)) (holding memory)
      (record {
        entries = memory;
        appended = if has_accepted records txn ballot commits then None else Some (value_accepted txn ballot commits);
        sends = record { to = from; message = accepted txn ballot } ∷ [];
        lines = [];
      })
      (stays (receive from (accept txn ballot commits)) (holding memory) found tt) (stays (receive from (accept txn ballot commits)) _ found tt)

  -- An entry of another transaction changes.
  module _ (other : Entry) (apart : is_same_txn entry.txn other.txn ≡ false) where
    left-found : entry_of entry.txn (without other.txn memory) ≡ Some entry
    left-found = without-other entry.txn other.txn apart memory ∙ found

    put-found : (commits : Bool) (phase : Phase) (counted : List ℕ) (last : Option Vote)
        → entry_of entry.txn (with_entry (record other { commits = commits; phase = phase; counted = counted; last = last }) memory) ≡ Some entry
    put-found commits phase counted last =
        put-other entry.txn (record other { commits = commits; phase = phase; counted = counted; last = last }) memory apart ∙ found

    other-promise : (input : Input) (from : ℕ) (last : Option Vote) → Heard input entry → Turn input (with_promise setup here (promising other from last))
    other-promise input from last heard =
        let after = promising other from last in
        if-either (Turn input) (is_majority setup.deciders (is_among after.counted))
        (if is_passed after.ballot (promised after.txn records) then holding (without after.txn memory) else ask_to_accept setup here after (value_of after))
        (holding (with_entry after memory))
        (if-either (Turn input) (is_passed after.ballot (promised after.txn records)) (holding (without after.txn memory)) (ask_to_accept setup here after (value_of after))
        (stays input (holding (without after.txn memory)) left-found heard)
        (stays input (ask_to_accept setup here after (value_of after)) (put-found (value_of after) accepting (n ∷ []) after.last) heard))
        (stays input (holding (with_entry after memory)) (put-found after.commits after.phase after.counted after.last) heard)

    other-accepted : (input : Input) (from : ℕ) → Heard input entry → Turn input (with_accepted setup here (counting other from))
    other-accepted input from heard =
        let after = counting other from in
        if-either (Turn input) (is_majority setup.deciders (is_among after.counted))
        (record { entries = without after.txn memory; appended = None; sends = []; lines = decided n after.txn after.commits ∷ [] })
        (holding (with_entry after memory))
        (stays input _ left-found heard)
        (stays input (holding (with_entry after memory)) (put-found after.commits after.phase after.counted after.last) heard)

  own-promise : (from : ℕ) (txn : TxnId) (ballot : Ballot) (last : Option Vote) → entry.phase ≡ asking
      → Turn (receive from (promise txn ballot last)) (with_promise setup here (promising entry from last))
  own-promise from txn ballot last phase =
      let input = receive from (promise txn ballot last) in
      let after = promising entry from last in
      if-by (Turn input) (is_majority setup.deciders (is_among after.counted))
      (if is_passed after.ballot (promised after.txn records) then holding (without after.txn memory) else ask_to_accept setup here after (value_of after))
      (holding (with_entry after memory))
      (λ most. if-by (Turn input) (is_passed after.ballot (promised after.txn records)) (holding (without after.txn memory)) (ask_to_accept setup here after (value_of after))
      (λ passed. absurd (false≢true (sym unpassed ∙ passed)))
      (λ free. goes_on (accepting_of n after) (record {
        holds = put-own (accepting_of n after) memory;
        of = refl;
        ballot = refl;
        goes = next phase refl (among-first n []) (λ k within apart. others-told setup.deciders n (accept entry.txn entry.ballot (value_of after)) k within apart);
        below_most = single-few setup n least;
        heard = λ same_txn same_ballot wrong. absurd (false≢true (ap (λ (p : Phase). is_same_phase asking p) wrong));
      })))
      (λ less. goes_on after (record {
        holds = put-own after memory;
        of = refl;
        ballot = refl;
        goes = same refl refl (λ k among. among-behind from entry.counted k among);
        below_most = less;
        heard = λ same_txn same_ballot in_phase. among-first from entry.counted;
      }))

  own-accepted : (from : ℕ) (txn : TxnId) (ballot : Ballot) → Turn (receive from (accepted txn ballot)) (with_accepted setup here (counting entry from))
  own-accepted from txn ballot =
      let input = receive from (accepted txn ballot) in
      let after = counting entry from in
      if-by (Turn input) (is_majority setup.deciders (is_among after.counted))
      (record { entries = without after.txn memory; appended = None; sends = []; lines = decided n after.txn after.commits ∷ [] })
      (holding (with_entry after memory))
      (λ most. decides (Contains-first (decided n after.txn after.commits) []))
      (λ less. goes_on after (record {
        holds = put-own after memory;
        of = refl;
        ballot = refl;
        goes = same refl refl (λ k among. among-behind from entry.counted k among);
        below_most = less;
        heard = λ same_txn same_ballot in_phase. among-first from entry.counted;
      }))

  -- The entry that is found is this one, or of another transaction.
  which : (txn : TxnId) (other : Entry) → entry_of txn memory ≡ Some other → (other ≡ entry) ⊎ ((is_same_txn entry.txn other.txn ≡ false) × (txn ≡ entry.txn → ⊥))
  which txn other is = by (is_same_txn entry.txn txn) refl where
    by : (b : Bool) → is_same_txn entry.txn txn ≡ b → (other ≡ entry) ⊎ ((is_same_txn entry.txn other.txn ≡ false) × (txn ≡ entry.txn → ⊥))
    by true same_txn =
        inl (Some_inj (sym is ∙ (subst (λ (t : TxnId). entry_of t memory ≡ Some entry) (same-eq {t = entry.txn} {u = txn} same_txn) found)))
    by false apart =
        inr (
          subst (λ (t : TxnId). is_same_txn entry.txn t ≡ false) (found-entry txn memory other is).1 apart,
          λ wrong. false≢true (sym apart ∙ subst (λ (t : TxnId). is_same_txn entry.txn t ≡ true) (sym wrong) (same-refl entry.txn)),
        )

  none-wrong : (txn : TxnId) → entry_of txn memory ≡ None → txn ≡ entry.txn → ⊥
  none-wrong txn is wrong = none-some (sym is ∙ (ap (λ (t : TxnId). entry_of t memory) wrong ∙ found))

  turn-promise : (from : ℕ) (txn : TxnId) (ballot : Ballot) (last : Option Vote) (o : Option Entry) → entry_of txn memory ≡ o
      → Turn (receive from (promise txn ballot last)) (on_promise setup here from ballot last o)
  turn-promise from txn ballot last None is =
      stays (receive from (promise txn ballot last)) (holding memory) found (λ wrong. absurd (none-wrong txn is wrong))
  turn-promise from txn ballot last (Some other) is = by (which txn other is) where
    by : (other ≡ entry) ⊎ ((is_same_txn entry.txn other.txn ≡ false) × (txn ≡ entry.txn → ⊥))
        → Turn (receive from (promise txn ballot last)) (on_promise setup here from ballot last (Some other))
    by (inl one) =
        subst (λ (e : Entry). Turn (receive from (promise txn ballot last)) (on_promise setup here from ballot last (Some e))) (sym one)
        (if-by (Turn (receive from (promise txn ballot last))) (awaits entry asking ballot from) (with_promise setup here (promising entry from last)) (holding memory)
        (λ waits. own-promise from txn ballot last (same-phase-eq entry.phase asking (and_parts (is_same_phase entry.phase asking) (is_same_ballot ballot entry.ballot && not (is_among entry.counted from)) waits).0))
        (λ counted. stays (receive from (promise txn ballot last)) (holding memory) found (λ same_txn same_ballot phase. awaits-counted entry asking ballot from phase same_ballot counted)))
    by (inr apart) =
        if-either (Turn (receive from (promise txn ballot last))) (awaits other asking ballot from) (with_promise setup here (promising other from last)) (holding memory)
        (other-promise other apart.0 (receive from (promise txn ballot last)) from last (λ wrong. absurd (apart.1 wrong)))
        (stays (receive from (promise txn ballot last)) (holding memory) found (λ wrong. absurd (apart.1 wrong)))

  turn-accepted : (from : ℕ) (txn : TxnId) (ballot : Ballot) (o : Option Entry) → entry_of txn memory ≡ o
      → Turn (receive from (accepted txn ballot)) (on_accepted setup here from ballot o)
  turn-accepted from txn ballot None is =
      stays (receive from (accepted txn ballot)) (holding memory) found (λ wrong. absurd (none-wrong txn is wrong))
  turn-accepted from txn ballot (Some other) is = by (which txn other is) where
    by : (other ≡ entry) ⊎ ((is_same_txn entry.txn other.txn ≡ false) × (txn ≡ entry.txn → ⊥))
        → Turn (receive from (accepted txn ballot)) (on_accepted setup here from ballot (Some other))
    by (inl one) =
        subst (λ (e : Entry). Turn (receive from (accepted txn ballot)) (on_accepted setup here from ballot (Some e))) (sym one)
        (if-by (Turn (receive from (accepted txn ballot))) (awaits entry accepting ballot from) (with_accepted setup here (counting entry from)) (holding memory)
        (λ waits. own-accepted from txn ballot)
        (λ counted. stays (receive from (accepted txn ballot)) (holding memory) found (λ same_txn same_ballot phase. awaits-counted entry accepting ballot from phase same_ballot counted)))
    by (inr apart) =
        if-either (Turn (receive from (accepted txn ballot))) (awaits other accepting ballot from) (with_accepted setup here (counting other from)) (holding memory)
        (other-accepted other apart.0 (receive from (accepted txn ballot)) from (λ wrong. absurd (apart.1 wrong)))
        (stays (receive from (accepted txn ballot)) (holding memory) found (λ wrong. absurd (apart.1 wrong)))

  turn-message : (from : ℕ) (message : Message) → Turn (receive from message) (answer_to setup here (receive from message))
  turn-message from (prepare txn ballot) = turn-prepare from txn ballot
  turn-message from (promise txn ballot last) = turn-promise from txn ballot last (entry_of txn memory) refl
  turn-message from (accept txn ballot commits) = turn-accept from txn ballot commits
  turn-message from (accepted txn ballot) = turn-accepted from txn ballot (entry_of txn memory) refl

  -- What becomes of the entry where a message comes.
  pub turn : (from : ℕ) (message : Message) → Turn (receive from message) (step setup here (receive from message))
  turn from message =
      turn-limit (receive from message) (answer_to setup here (receive from message)) (answer_to setup here (receive from message)).appended (turn-message from message)
