-- A proposal that nothing disturbs is settled, by what is printed.
use Rattle.std.proofs.Common.{◌≡◌, ◌⊎◌, ⊎_elim, ℕ, ◌<◌, ◌≤◌, Bool, cond, ltb, true, false, Option, Some, None, List, [], ◌∷◌, ◌++◌, length, get_or, inl, inr, refl, sym, ap, subst, ◌∙◌, arith}
use Rattle.std.proofs.lemmas.Bool.{cases_eq, ltb-false}
use Rattle.std.specs.Prelude.{position, slice_get}
use Rattle.std.specs.List.{Contains, position_or_len}
use Rattle.std.proofs.lemmas.List.{get_or-set_same, get_or-set_other}
use Rattle.std.proofs.lemmas.List.Sums.{fails_before_first}
use Rattle.pv_base.proofs.BigEndianLemmas.{append-same_length}
use Rattle.pv_base.proofs.ContainsLemmas.{Contains-behind, Contains-cases, Contains-first, Contains-nil}
use Rattle.pv_base.specs.declared.txn.TxnId.{TxnId}
use Rattle.pv_law_decisions.specs.Lines.{Line, told, told_of, no_message, down, up, stopped, fault, started}
use Rattle.pv_law_decisions.specs.Promises as promises
use Rattle.pv_law_decisions.specs.Promises.{IsUp, Reaches}
use Rattle.pv_law_decisions.specs.Runs.{Happens}
use Rattle.pv_law_decisions.specs.Scene.{Scene, at_first, memory_at}
use Rattle.pv_law_decisions.proofs.FollowLemmas.{event-follows, follows-join, run-follows}
use Rattle.pv_law_decisions.proofs.LongLemmas.{IsLong, event-long, run-long}
use Rattle.pv_law_decisions.proofs.SettleLemmas.{IsQuiet, Pumped, at-front, at-listed, front-by, given-down, listed-at, pump-down, pumped-all, quiet-given, was-up}
use Rattle.pv_law_quorum.specs.Ballot.{Ballot, is_passed, rank}
use Rattle.pv_law_quorum.specs.Decider as rules
use Rattle.pv_law_quorum.specs.Decider.{Setup, Answer, Entry, Message, prepare, promise, accept, accepted, propose, decided, spent, full, step}
use Rattle.pv_law_quorum.specs.Record.{ballot_promised, value_accepted, promised}
use Rattle.pv_law_quorum.specs.Sound.{IsMessageSound, IsSound}
use Rattle.pv_law_quorum.specs.Steps.{Has}
use Rattle.pv_law_quorum.specs.Undisturbed.{IsDelivered, IsOf, IsSettled, IsUndisturbed, after_all, by_decision, by_full_log, by_last_number, delivering, next_ballot, unreported}
use Rattle.pv_law_quorum.specs.World as law
use Rattle.pv_law_quorum.specs.World.{World, Envelope, Event, whole, proposal, after_event, decider_at, no_decider, records_at, IsFit}
use Rattle.pv_law_quorum.proofs.BeginningLemmas.{undisturbed-settled}
use Rattle.pv_law_quorum.proofs.RecordLemmas.{named-reached, promise-named, promised-each}
use Rattle.pv_law_quorum.proofs.SoundLemmas.{IsSmall, named-small, next-above, next-above-value}
use Rattle.pv_law_quorum.proofs.EventLemmas.{up-listed}
use Rattle.pv_law_quorum.proofs.ReplyLemmas.{Any}
use Rattle.pv_law_quorum.proofs.RunLemmas.{sound-any}
use Rattle.pv_law_quorum.proofs.SinceLemmas.{lines-since}
use Rattle.pv_quorum_script.specs.declared.event.QuorumEvent.{QuorumEvent}
use Rattle.pv_quorum_script.specs.declared.event.QuorumEvent.TheVariants.{Propose, Pump}

-- What is told is a line.
told-listed : (lines : List Line) (line : rules.Line) → Contains (told_of lines) line → Contains lines (told line)
told-listed [] line h = absurd (Contains-nil line h)
told-listed (told one ∷ lines) line h =
    ⊎_elim (λ same. subst (λ (l : rules.Line). Contains (told one ∷ lines) (told l)) same (Contains-first (told one) lines))
    (λ behind. Contains-behind (told one) lines (told line) (told-listed lines line behind)) (Contains-cases one (told_of lines) line h)
told-listed (no_message number ∷ lines) line h = Contains-behind (no_message number) lines (told line) (told-listed lines line h)
told-listed (down n ∷ lines) line h = Contains-behind (down n) lines (told line) (told-listed lines line h)
told-listed (up n ∷ lines) line h = Contains-behind (up n) lines (told line) (told-listed lines line h)
told-listed (stopped n ∷ lines) line h = Contains-behind (stopped n) lines (told line) (told-listed lines line h)
told-listed (fault n ∷ lines) line h = Contains-behind (fault n) lines (told line) (told-listed lines line h)
told-listed (started n ∷ lines) line h = Contains-behind (started n) lines (told line) (told-listed lines line h)

nowhere-by : (b : Bool) (n : ℕ) → cond b (Some n) None ≡ None → b ≡ false
nowhere-by true n is = let wrong : Some n ≡ None = is in absurd (let never : ⊥ = cc in never)
nowhere-by false n is = refl

none-marked : (marks : List Bool) → position (λ mark. mark) marks ≡ None → (i : ℕ) → i < length marks → get_or marks i true ≡ false
none-marked marks none i small =
    let place : ℕ = position_or_len (λ mark. mark) marks in
    let past : length marks ≤ place = ltb-false place (length marks) (nowhere-by (ltb place (length marks)) place none) in
    fails_before_first (λ mark. mark) marks i true (omega (arith, past, small))

module _ (setup : Setup) (fit : IsFit setup) (front : List QuorumEvent) (said : List Line) (before : Scene) (reaches : Reaches setup front said before) (n : ℕ) (txn : TxnId) (v : Bool)
    (now later : List Line) (begun last : Scene) (proposes : Happens setup before (Propose n txn v) now begun) (pumps : Happens setup begun (Pump None) later last) (members : ℕ → Bool)
    (is : promises.IsUndisturbed setup members n txn before last) where
  sound : IsSound setup Any before.world
  sound =
      let follows = run-follows setup (at_first setup) front said before reaches in
      subst (λ (w : World). IsSound setup Any w) (sym follows.world_is) (sound-any setup fit follows.happened)

  abbrev first : Event
  first = proposal n txn v whole

  abbrev ballot : Ballot
  ballot = next_ballot before.world n txn

  proposal-down : (k : ℕ) → memory_at before k ≡ None → memory_at begun k ≡ None
  proposal-down k none =
      subst (λ (s : Scene). memory_at s k ≡ None) (sym proposes.1)
      (given-down setup before n (propose txn v) (λ ending. proposal n txn v ending) (memory_at before n) (λ ending. refl) refl k none)

  stay-up : (k : ℕ) → IsUp begun k → IsUp last k
  stay-up k risen = is.quiet k (was-up setup before begun k (proposal-down k) risen)

  quiet : IsQuiet setup before begun first before.fresh
  quiet =
      subst (λ (s : Scene). IsQuiet setup before s first before.fresh) (sym proposes.1)
      (quiet-given setup before n (propose txn v) (λ ending. proposal n txn v ending) (memory_at before n) (λ ending. refl) refl
      (λ risen. subst (λ (s : Scene). IsUp s n) proposes.1 (was-up setup begun last n (pump-down setup begun pumps.0 later last pumps.1 n) (is.quiet n risen))))

  -- the world of the proposal, with nothing reported before
  abbrev since : World
  since = after_event setup (unreported before.world) first

  same-world : (numbers : List ℕ) → after_all setup begun.world numbers ≡ record (after_all setup since numbers) { lines = before.world.lines ++ (after_all setup since numbers).lines }
  same-world numbers = ap (λ (w : World). after_all setup w numbers) quiet.world ∙ lines-since setup before.world (first ∷ delivering numbers)

  abbrev Old : Envelope → Type 0
  Old envelope = Contains before.world.sent envelope

  long-before : IsLong before
  long-before = run-long setup (at_first setup) front said before reaches refl

  old-done : (i : ℕ) (envelope : Envelope) → slice_get begun.world.sent i ≡ Some envelope → get_or begun.fresh i true ≡ false → Old envelope
  old-done i envelope there marked =
      let small = front-by before.fresh quiet.sends.more i (subst (λ (marks : List Bool). get_or marks i true ≡ false) quiet.sends.fresh marked) in
      at-listed before.world.sent i envelope
      (at-front before.world.sent quiet.sends.more i envelope (omega (arith, small, long-before))
      (subst (λ (sent : List Envelope). slice_get sent i ≡ Some envelope) quiet.sends.sent there))

  pumped : Pumped setup begun since Old (λ numbers. ap (λ (w : World). w.sent) (same-world numbers))
      (event-long setup before (Propose n txn v) now begun proposes long-before) old-done last
  pumped =
      pumped-all setup begun since Old (λ numbers. ap (λ (w : World). w.sent) (same-world numbers)) (event-long setup before (Propose n txn v) now begun proposes long-before) old-done
      pumps.0 later last pumps.1 stay-up

  abbrev Last : World
  Last = after_all setup since pumped.numbers

  -- No message was sent before that is of the new ballot.

  never-promised : Has before.world n (ballot_promised txn ballot) → ⊥
  never-promised h =
      let less : rank ballot < rank ballot = next-above (promised txn (records_at before.world n)) n (rank ballot)
      (promised-each IsSmall tt txn (records_at before.world n) (named-small setup Any before.world sound n txn))
      (named-reached txn (records_at before.world n) (ballot_promised txn ballot) ballot h (promise-named txn ballot)) in
      omega (arith, less)

  never-accepted : (commits : Bool) → Has before.world n (value_accepted txn ballot commits) → ⊥
  never-accepted commits h =
      let less : rank ballot < rank ballot = next-above-value setup Any before.world sound n txn n ballot commits h in
      omega (arith, less)

  no-promise-here : (k : ℕ) (other : TxnId) (taken : Ballot) → other ≡ txn → taken ≡ ballot → Has before.world k (ballot_promised other taken) → ⊥
  no-promise-here k other taken same_txn same_ballot h =
      never-promised
      (subst (λ (t : TxnId). Has before.world n (ballot_promised t ballot)) same_txn
      (subst (λ (b : Ballot). Has before.world b.decider (ballot_promised other b)) same_ballot (sound.records k (ballot_promised other taken) h)))

  no-value-here : (k : ℕ) (other : TxnId) (taken : Ballot) (commits : Bool) → other ≡ txn → taken ≡ ballot → Has before.world k (value_accepted other taken commits) → ⊥
  no-value-here k other taken commits same_txn same_ballot h =
      never-accepted commits
      (subst (λ (t : TxnId). Has before.world n (value_accepted t ballot commits)) same_txn
      (subst (λ (b : Ballot). Has before.world b.decider (value_accepted other b commits)) same_ballot (sound.records k (value_accepted other taken commits) h).own))

  not-old : (from : ℕ) (message : Message) → IsMessageSound setup Any before.world from message → IsOf txn ballot message → ⊥
  not-old from (prepare other taken) h of = no-promise-here from other taken of.0 of.1 h.1
  not-old from (promise other taken vote) h of = no-promise-here from other taken of.0 of.1 h.0.has
  not-old from (accept other taken commits) h of = no-value-here from other taken commits of.0 of.1 h.1
  not-old from (accepted other taken) h of = no-value-here from other taken h.0 of.0 of.1 h.1

  delivered-all : (envelope : Envelope) → Contains Last.sent envelope → IsOf txn ballot envelope.message → IsDelivered setup envelope since pumped.numbers
  delivered-all envelope (i, small, at) of =
      let sent : last.world.sent ≡ Last.sent = ap (λ (w : World). w.sent) (pumped.world ∙ same-world pumped.numbers) in
      let there : slice_get last.world.sent i ≡ Some envelope =
      subst (λ (envelopes : List Envelope). slice_get envelopes i ≡ Some envelope) (sym sent) (listed-at Last.sent envelope i small at) in
      let within : i < length last.fresh = omega (arith, small, ap length sent, pumped.long_is) in
      ⊎_elim (λ old. absurd (not-old envelope.from envelope.message (sound.sent envelope old) of)) (λ is_delivered. is_delivered)
      (pumped.done i envelope there (none-marked last.fresh pumps.2 i within))

  up-after : (memory : Option (List Entry)) → memory_at before n ≡ memory → (k : ℕ) → members k ≡ true
      → (entries : List Entry) × ((decider_at (law.given setup (unreported before.world) n (propose txn v) whole memory) k).memory ≡ Some entries)
  up-after None none k member = let some = is.up n is.own in let wrong : None ≡ Some some.0 = sym none ∙ some.1 in absurd (let never : ⊥ = cc in never)
  up-after (Some entries) some k member = by (cases_eq k n) where
    answer : Answer
    answer = step setup (record { me = n; records = records_at before.world n; entries = entries }) (propose txn v)

    by : (k ≡ n) ⊎ (k ≡ n → ⊥)
        → (held : List Entry) × ((decider_at (law.given setup (unreported before.world) n (propose txn v) whole (Some entries)) k).memory ≡ Some held)
    by (inl same) = (
      answer.entries,
      subst (λ (j : ℕ). (decider_at (law.given setup (unreported before.world) n (propose txn v) whole (Some entries)) j).memory ≡ Some answer.entries) (sym same)
          (ap (λ (d : law.Decider). d.memory) (get_or-set_same before.world.deciders n _ no_decider (up-listed before.world.deciders n entries some))),
    )
    by (inr apart) =
        let held = is.up k member in (held.0, ap (λ (d : law.Decider). d.memory) (get_or-set_other before.world.deciders n k _ no_decider apart) ∙ held.1)

  undisturbed : IsUndisturbed setup members n txn (next_ballot (unreported before.world) n txn) since pumped.numbers
  undisturbed = record {
    most = is.most;
    own = is.own;
    within = is.within;
    up = λ k member. up-after (memory_at before n) refl k member;
    unpassed = λ k. subst (λ (w : World). is_passed ballot (promised txn (records_at w k)) ≡ false) (pumped.world ∙ same-world pumped.numbers) (is.unpassed k);
    delivered = delivered-all;
  }

  settled-here : IsSettled members Last n txn
  settled-here =
      let follows = run-follows setup (at_first setup) front said before reaches in
      subst (λ (w : World). IsUndisturbed setup members n txn (next_ballot (unreported w) n txn) (after_event setup (unreported w) first) pumped.numbers
      → IsSettled members (after_all setup (after_event setup (unreported w) first) pumped.numbers) n txn) (sym follows.world_is)
      (undisturbed-settled setup fit follows.happened n txn v members pumped.numbers) undisturbed

  same-lines : Last.lines ≡ told_of (now ++ later)
  same-lines =
      let joined = follows-join setup before begun last (Propose n txn v ∷ []) (Pump None ∷ []) now later (event-follows setup before (Propose n txn v) now begun proposes)
      (event-follows setup begun (Pump None) later last pumps) in
      (append-same_length before.world.lines before.world.lines Last.lines (told_of (now ++ later)) refl
      (sym (ap (λ (w : World). w.lines) (pumped.world ∙ same-world pumped.numbers)) ∙ joined.lines_are)).1

  listed : (line : rules.Line) → Contains Last.lines line → Contains (now ++ later) (told line)
  listed line h = told-listed (now ++ later) line (subst (λ (lines : List rules.Line). Contains lines line) same-lines h)

  pub is-settled : promises.IsSettled members (now ++ later) n txn
  is-settled = by settled-here where
    by : IsSettled members Last n txn → promises.IsSettled members (now ++ later) n txn
    by (by_decision commits h) = promises.by_decision commits (listed (decided n txn commits) h)
    by (by_full_log k length member h) = promises.by_full_log k length member (listed (full k length) h)
    by (by_last_number h) = promises.by_last_number (listed (spent n) h)
