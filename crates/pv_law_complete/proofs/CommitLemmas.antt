-- A transaction that nothing disturbs goes on in each transition, and has committed at the end.
use Rattle.std.proofs.Common.{◌≡◌, ◌⊎◌, ⊎_elim, inl, inr, ℕ, ◌<◌, Bool, true, false, Some, None, Option, List, eq-eqb, refl, sym, ap, subst, ◌∙◌}
use Rattle.std.specs.Prelude.{IsSome, slice_get, ⊤}
use Rattle.std.specs.List.{Contains, list_any}
use Rattle.std.proofs.lemmas.Bool.{false≢true}
use Rattle.std.proofs.lemmas.Option.{slice_get_within, get_or_from_slice_get}
use Rattle.pv_base.proofs.AssignmentLemmas.{same-eq, apart-from-test}
use Rattle.pv_base.proofs.Basics.{never}
use Rattle.pv_base.specs.Assignment.{is_same_txn}
use Rattle.pv_base.specs.declared.grant.GrantId.{GrantId}
use Rattle.pv_base.specs.declared.txn.TxnId.{TxnId}
use Rattle.pv_format.specs.Message.{Envelope, Message, lock, granted, denied, prepare, vote_yes, vote_no, outcome_reported, ask, txn_of}
use Rattle.pv_law_acts.proofs.ListLemmas.{among-listed, listed-among}
use Rattle.pv_law_acts.proofs.NumberLemmas.{next-unpassed}
use Rattle.pv_law_acts.specs.Seen.{records_at, memory_at, Sent, IsPassed, IsNumberPassed, next_txn_in}
use Rattle.pv_law_refusals.proofs.Moves.{Comes}
use Rattle.pv_law_complete.proofs.GoesLemmas.{IsSame, MakesItsStep, Goes, stays, halts, opens, steps}
use Rattle.pv_law_complete.proofs.GoingLemmas.{same-or-not, Further, no-further, Going, Local, go-on, framed, same-going, sent-stays, sent-now}
use Rattle.pv_law_complete.proofs.GoneLemmas.{HasGone}
use Rattle.pv_law_complete.proofs.GrantSteps.{grant-leaves, denied-leaves}
use Rattle.pv_law_complete.proofs.LockSteps.{lock-leaves, working}
use Rattle.pv_law_complete.proofs.VoteSteps.{vote-leaves, yes-leaves, no-leaves, no-outcome-comes, ask-leaves}
use Rattle.pv_law_complete.specs.Undisturbed.{IsConcerned, here_in, IsFree, IsCalm}
use Rattle.pv_law_events.proofs.EventActs.{IsKnown}
use Rattle.pv_law_complete.proofs.FrameLemmas.{steps-frame}
use Rattle.pv_law_step.proofs.StepCases.{lock-case, granted-case, denied-case, prepare-case, yes-case, no-case, ask-case}
use Rattle.pv_model.specs.Alternatives.{Read}
use Rattle.pv_model.specs.Plan.{participants_of}
use Rattle.pv_model.specs.Syntax.{Program}
use Rattle.pv_protocol.specs.Committed.{home_of, is_committed, says_yes}
use Rattle.pv_protocol.specs.Coordinate.{has_taken}
use Rattle.pv_protocol.specs.Here.{Here, is_among}
use Rattle.pv_protocol.specs.Lock.{next_txn, on_lock}
use Rattle.pv_protocol.specs.Granted.{on_granted, on_denied}
use Rattle.pv_protocol.specs.Vote.{on_prepare, on_yes, on_no}
use Rattle.pv_protocol.specs.Outcome.{on_ask}
use Rattle.pv_protocol.specs.State.{Setup, voting, Entry, Running, Input, submit, receive, tick, Step}
use Rattle.pv_protocol.specs.Step.{site_step, on_message}
use Rattle.pv_protocol.specs.Waiting.{is_tick_of}
use Rattle.pv_protocol.specs.World.{World}
use Rattle.pv_protocol.specs.WorldStep.{Transition}

pub there-sent : (world : World) (number : ℕ) (envelope : Envelope) → slice_get world.sent number ≡ Some envelope → Contains world.sent envelope
there-sent world number envelope is = (number, slice_get_within world.sent number envelope is, get_or_from_slice_get world.sent number envelope envelope is)

some-none : {X : Type 0} (o : Option X) → IsSome o → o ≡ None → ⊥
some-none None is none = never is
some-none (Some x) is none = let wrong : ⊥ = cc in wrong

module _ (setup : Setup) (room : setup.read_names < setup.held_names) (txn : TxnId) (program : Program) where
  abbrev pub Members : List ℕ
  Members = participants_of program setup.catalog.items

  abbrev GoingIn : World → Entry → Type 0
  GoingIn = Going setup txn program

  -- It goes on.
  pub record GoesOn (w v : World) (entry : Entry) : Type 0 where
    pub after : Entry
    pub going : Going setup txn program v after
    pub further : Further entry after
    pub sent : (from to : ℕ) (message : Message) → Sent w from to message → Sent v from to message

  -- What came of a message of the transaction.
  abbrev pub Effect : (entry after : Entry) → World → (n from : ℕ) → Message → Type 0
  Effect entry after v n from (lock t wants) =
      Contains Members n → (entry.stage ≡ voting) ⊎ ((id : GrantId) × ((values : List Read) × Sent v n (home_of txn) (granted txn id values)))
  Effect entry after v n from (granted t id values) = Contains Members from → (after.stage ≡ voting) ⊎ (has_taken after from ≡ true)
  Effect entry after v n from (denied t item holder) = ⊤
  Effect entry after v n from (prepare t id writes) = Sent v n (home_of txn) (vote_yes txn)
  Effect entry after v n from (vote_yes t) = n ≡ home_of txn → Contains Members from → is_among after.votes from ≡ true
  Effect entry after v n from (vote_no t cause) = ⊤
  Effect entry after v n from (outcome_reported t commits) = ⊤
  Effect entry after v n from (ask t) = ⊤

  module _ (w : World) (is_known : IsKnown setup w) (entry : Entry) (going : Going setup txn program w entry) (v : World)
      (ups : (m : ℕ) → IsConcerned setup txn program m → IsSome (memory_at v m)) (uncommitted : is_committed v txn ≡ false)
      (n : ℕ) (running : Running) (up : memory_at w n ≡ Some running) where
    abbrev pub Site : Here
    Site = here_in setup w n running

    abbrev pub With : (from : ℕ) → Message → Type 0
    With from message = (goes : GoesOn w v entry) × Effect entry goes.after v n from message

    by-local : (step : Step) → MakesItsStep w v n step → (after : Entry) → Local setup txn program w entry going n running up step after → GoesOn w v entry
    by-local step makes after local = record {
      after = after;
      going = go-on setup txn program w entry going n running up v step makes after local ups;
      further = local.further;
      sent = sent-stays setup txn program w entry going n running up v step makes;
    }

    -- how a message that is of the transaction is taken
    abbrev pub Taking : (from : ℕ) → Message → Type 0
    Taking from message = MakesItsStep w v n (on_message Site from message) → Sent w from n message → IsFree Site from message → With from message

    pub own-message : (from : ℕ) (message : Message) → txn_of message ≡ txn → Taking from message
    unfolding by-local
    own-message from (lock t wants) same = subst (λ t. Taking from (lock t wants)) (sym same) (λ makes sent free.
        let step = on_lock Site from txn wants in
        let is = lock-leaves setup txn program w is_known entry going n running up from wants sent free step (lock-case Site from txn wants) in (
          by-local step makes entry is.0,
          λ part. ⊎_elim
              (λ votes. inl votes)
              (λ reported. inr (reported.0, (reported.1.0, sent-now setup txn program w entry going n running up v step makes (home_of txn) (granted txn reported.0 reported.1.0) reported.1.1)))
              (is.1 part),
        ))
    own-message from (granted t id values) same = subst (λ t. Taking from (granted t id values)) (sym same) (λ makes sent free.
        let step = on_granted Site from txn id values in
        let is = grant-leaves setup txn program w is_known entry going n running up from id values sent free step (granted-case Site from txn id values) in
        (by-local step makes is.0 is.1.0, is.1.1))
    own-message from (denied t item holder) same = subst (λ t. Taking from (denied t item holder)) (sym same) (λ makes sent free.
        let step = on_denied Site from txn item holder in
        (by-local step makes entry (denied-leaves setup txn program w is_known entry going n running up from item holder sent step (denied-case Site from txn item holder)), tt))
    own-message from (prepare t id writes) same = subst (λ t. Taking from (prepare t id writes)) (sym same) (λ makes sent free.
        let step = on_prepare Site from txn id writes in
        let is = vote-leaves setup room txn program w is_known entry going n running up from id writes sent free step (prepare-case Site from txn id writes) in
        (by-local step makes entry is.0, sent-now setup txn program w entry going n running up v step makes (home_of txn) (vote_yes txn) is.1))
    own-message from (vote_yes t) same = subst (λ t. Taking from (vote_yes t)) (sym same) (λ makes sent free.
        let step = on_yes Site from txn in
        let is = yes-leaves setup room txn program w is_known entry going n running up from sent free step (yes-case Site from txn)
        (λ home. subst (λ rs. list_any (says_yes txn) rs ≡ false) makes.records (subst (λ m. list_any (says_yes txn) (records_at v m) ≡ false) (sym home) uncommitted)) in
        (by-local step makes is.0 is.1.0, is.1.1))
    own-message from (vote_no t cause) same = subst (λ t. Taking from (vote_no t cause)) (sym same) (λ makes sent free.
        let step = on_no Site from txn cause in
        (by-local step makes entry (no-leaves setup room txn program w is_known entry going n running up from cause sent step (no-case Site from txn cause)), tt))
    own-message from (outcome_reported t commits) same = subst (λ t. Taking from (outcome_reported t commits)) (sym same) (λ makes sent free.
        absurd (no-outcome-comes setup room txn program w is_known entry going n running up from commits sent))
    own-message from (ask t) same = subst (λ t. Taking from (ask t)) (sym same) (λ makes sent free.
        let step = on_ask Site from txn in
        (by-local step makes entry (ask-leaves setup room txn program w is_known entry going n running up from step (ask-case Site from txn)), tt))

    -- another site, or another transaction
    apart : (step : Step) → MakesItsStep w v n step → (IsConcerned setup txn program n → ⊥) → GoesOn w v entry
    apart step makes none = by-local step makes entry (record {
      mine = λ same. absurd (none (inl same));
      other = λ other. refl;
      further = no-further entry;
      few = going.few;
      undenied = λ part. absurd (none (inr part));
      no_no = λ part. absurd (none (inr part));
      reported = λ part. absurd (none (inr part));
      keeps = λ part. absurd (none (inr part));
      asked = λ votes. inl votes;
    })

    unpassed : next_txn Site ≡ txn → ⊥
    unpassed same =
        let passed : IsPassed w txn = (is_known.settled.sound.passed.entries (home_of txn) txn _ (working setup txn program w is_known entry going n running up)).passed in
        let next : IsNumberPassed (records_at w n) (next_txn_in (memory_at w n)) running.epoch running.next_txn = subst (IsPassed w) (sym same) passed in
        next-unpassed (records_at w n) running.next_txn
        (subst (λ epoch. IsNumberPassed (records_at w n) (Some running.next_txn) epoch running.next_txn) (is_known.recorded n running up)
        (subst (λ memory. IsNumberPassed (records_at w n) (next_txn_in memory) running.epoch running.next_txn) up next))

  concerned-or-not : (n : ℕ) → IsConcerned setup txn program n ⊎ (IsConcerned setup txn program n → ⊥)
  concerned-or-not n = by (is_among Members n) refl where
    by : (b : Bool) → is_among Members n ≡ b → IsConcerned setup txn program n ⊎ (IsConcerned setup txn program n → ⊥)
    by true is = inl (inr (among-listed Members n is))
    by false is =
        ⊎_elim
        (λ same. inl (inl same))
        (λ other. inr (λ c. ⊎_elim (λ same. other same) (λ part. false≢true (sym is ∙ listed-among Members n part)) c))
        (same-or-not n (home_of txn))

  module _ (w : World) (is_known : IsKnown setup w) (entry : Entry) (going : Going setup txn program w entry) (t : Transition)
      (calm : IsCalm setup txn program w t) (uncommitted : is_committed t.world txn ≡ false) where
    concerned-goes : (m : ℕ) → IsConcerned setup txn program m → (running : Running) (up : memory_at w m ≡ Some running) (input : Input) → Comes w t.event m input
        → MakesItsStep w t.world m (site_step setup m (records_at w m) running input) → GoesOn w t.world entry
    concerned-goes m concerned running up tick comes makes =
        absurd (false≢true (sym (calm.timeless m concerned) ∙ (ap (is_tick_of m) comes ∙ eq-eqb m m refl)))
    concerned-goes m concerned running up (submit other) comes makes =
        by-local w is_known entry going t.world calm.up uncommitted m running up (site_step setup m (records_at w m) running (submit other)) makes entry
        (framed setup txn program w entry going m running up _
        (steps-frame (here_in setup w m running) (submit other) txn (unpassed w is_known entry going t.world calm.up uncommitted m running up)))
    concerned-goes m concerned running up (receive from message) comes makes = by (is_same_txn (txn_of message) txn) refl where
      by : (b : Bool) → is_same_txn (txn_of message) txn ≡ b → GoesOn w t.world entry
      by true same =
          (own-message w is_known entry going t.world calm.up uncommitted m running up from message (same-eq same) makes
          (there-sent w comes.0 (record { from = from; to = m; message = message }) comes.1.1)
          (calm.free m from message (record { number = comes.0; event = comes.1.0; sent = comes.1.1; running = running; up = up }) (same-eq same))).0
      by false other =
          by-local w is_known entry going t.world calm.up uncommitted m running up (site_step setup m (records_at w m) running (receive from message)) makes entry
          (framed setup txn program w entry going m running up _
          (steps-frame (here_in setup w m running) (receive from message) txn (apart-from-test {t = txn_of message} {u = txn} other)))

    by-same : ((n : ℕ) → IsConcerned setup txn program n → IsSame w t.world n) → t.world.sent ≡ w.sent → GoesOn w t.world entry
    by-same same sent = record {
      after = entry;
      going = same-going setup txn program w t.world entry going same sent;
      further = no-further entry;
      sent = λ from to message h. subst (λ all. Contains all (record { from = from; to = to; message = message })) (sym sent) h;
    }

    goes-by : Goes setup w t.event t.world → GoesOn w t.world entry
    goes-by (stays same sent) = by-same (λ n concerned. same n) sent
    goes-by (halts m same down sent) =
        by-same (λ n concerned. same n (λ is. some-none (memory_at t.world n) (calm.up n concerned) (ap (memory_at t.world) is ∙ down))) sent
    goes-by (opens m same down sent) =
        by-same (λ n concerned. same n (λ is. some-none (memory_at w n) (going.up n concerned) (ap (memory_at w) is ∙ down))) sent
    goes-by (steps m running input comes up makes) =
        ⊎_elim
        (λ concerned. concerned-goes m concerned running up input comes makes)
        (λ none. apart w is_known entry going t.world calm.up uncommitted m running up _ makes none)
        (concerned-or-not m)

    pub transition-goes : HasGone setup w t → GoesOn w t.world entry
    transition-goes gone = goes-by gone.goes
