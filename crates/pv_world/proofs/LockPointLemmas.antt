-- Which step brings a transaction to its lock point, and what its site tells of it then.
use Rattle.std.proofs.Common.{arith, ◌≡◌, ℕ, Bool, true, false, ◌&&◌, ◌||◌, Option, Some, None, List, [], ◌∷◌, refl, sym, ap, subst, ◌∙◌}
use Rattle.std.specs.Prelude.{not, find, if◌then◌else◌}
use Rattle.std.proofs.lemmas.Option.{none-some}
use Rattle.pv_base.proofs.AssignmentLemmas.{same-refl}
use Rattle.pv_base.proofs.Basics.{Some_inj}
use Rattle.pv_base.specs.Assignment.{is_same_txn}
use Rattle.pv_base.specs.declared.grant.GrantId.{GrantId}
use Rattle.pv_base.specs.declared.txn.TxnId.{TxnId}
use Rattle.pv_base.specs.Want.{Want}
use Rattle.pv_format.specs.Message.{Message, lock, granted, denied, prepare, vote_yes, vote_no, outcome_reported, ask, NoCause}
use Rattle.pv_law_acts.specs.Seen.{WorksAgeless, ageless_entry}
use Rattle.pv_law_events.proofs.FoundLemmas.{locking-found}
use Rattle.pv_law_step.proofs.KeyedLemmas.{of-with}
use Rattle.pv_law_step.proofs.StepCases.{submit-case, lock-case, granted-case, denied-case, prepare-case, yes-case, no-case, outcome-case, ask-case}
use Rattle.pv_law_step.specs.GrantCases as of_grants
use Rattle.pv_law_step.specs.LockCases as of_locks
use Rattle.pv_law_step.specs.OutcomeCases as of_outcomes
use Rattle.pv_law_step.specs.VoteCases as of_votes
use Rattle.pv_model.specs.Alternatives.{Read}
use Rattle.pv_model.specs.Plan.{participants_of}
use Rattle.pv_model.specs.Syntax.{Program}
use Rattle.pv_protocol.specs.Committed.{entry_in}
use Rattle.pv_protocol.specs.Coordinate.{has_taken, is_locking, voting_entry}
use Rattle.pv_protocol.specs.Granted.{taking, grants_taken, is_unawaited, is_grant_ignored}
use Rattle.pv_protocol.specs.Here.{Here, is_among, with_entry}
use Rattle.pv_protocol.specs.Keyed.{of_txn}
use Rattle.pv_protocol.specs.State.{Setup, Entry, Input, Placed, Running, Step, submit, receive, tick, voting}
use Rattle.pv_protocol.specs.Step.{on_message, site_step, step_on}
use Rattle.pv_protocol.specs.Tick.{on_tick}
use Rattle.pv_protocol.specs.World.{World, site_at}
use Rattle.pv_site.specs.Asked.{voting_at}
use Rattle.pv_world.proofs.PlaceLemmas.{votes-all}
use Rattle.pv_world.proofs.TakenLemmas.{none-below, participant-below, with-taken-ascend}
use Rattle.pv_world.specs.Places.{IsPlacedRight}
use Rattle.pv_world.specs.Taken.{Ascend, IsOrderly}

-- A transaction that a step brings to its lock point has taken its last grant in it.
record IsAtPoint (here : Here) (step : Step) (placed : Placed) : Type 0 where
  from : ℕ
  txn : TxnId
  grant : GrantId
  values : List Read
  entry : Entry
  taken : of_grants.IsTaken here from txn values entry
  own : placed.txn ≡ entry.txn
  grants : placed.grants ≡ grants_taken (taking entry from grant values)
  running : step.running ≡ with_entry here.running (record (taking entry from grant values) { stage = voting; age = 0 })

module _ (here : Here) where
  -- What is said of a transaction that the step brings to its lock point.
  abbrev Points : Step → Type 0
  Points step = (placed : Placed) → step.placed ≡ Some placed → IsAtPoint here step placed

  nobody : (step : Step) → step.placed ≡ None → Points step
  nobody step none placed is = absurd (none-some _ (sym none ∙ is))

  submit-points : (program : Program) (step : Step) → of_locks.SubmitCase here program step → Points step
  submit-points program step (of_locks.no_number_left h) = nobody step refl
  submit-points program step (of_locks.begins h) = nobody step refl

  lock-points : (from : ℕ) (txn : TxnId) (wants : List Want) (step : Step) → of_locks.LockCase here from txn wants step → Points step
  lock-points from txn wants step (of_locks.ignored h) = nobody step refl
  lock-points from txn wants step (of_locks.granted_again grant h i j) = nobody step refl
  lock-points from txn wants step (of_locks.misfits grant h i j) = nobody step refl
  lock-points from txn wants step (of_locks.denies conflict h i j) = nobody step refl
  lock-points from txn wants step (of_locks.no_grant_left h i) = nobody step refl
  lock-points from txn wants step (of_locks.grants h i) = nobody step refl

  granted-points : (from : ℕ) (txn : TxnId) (grant : GrantId) (values : List Read) (step : Step) → of_grants.GrantedCase here from txn grant values step → Points step
  granted-points from txn grant values step (of_grants.no_entry h) = nobody step refl
  granted-points from txn grant values step (of_grants.ignored entry h i) = nobody step refl
  granted-points from txn grant values step (of_grants.waits entry h i) = nobody step refl
  granted-points from txn grant values step (of_grants.too_wide entry h i) = nobody step refl
  granted-points from txn grant values step (of_grants.in_doubt entry least h i doubt) = nobody step refl
  granted-points from txn grant values step (of_grants.reaches_lock_point entry h i certain) = λ placed is. record {
    from = from;
    txn = txn;
    grant = grant;
    values = values;
    entry = entry;
    taken = h.taken;
    own = sym (ap (λ (p : Placed). p.txn) (Some_inj is));
    grants = sym (ap (λ (p : Placed). p.grants) (Some_inj is));
    running = refl;
  }

  denied-points : (from : ℕ) (txn : TxnId) (item : ℕ) (holder : TxnId) (step : Step) → of_grants.DeniedCase here from txn item holder step → Points step
  denied-points from txn item holder step (of_grants.no_entry h) = nobody step refl
  denied-points from txn item holder step (of_grants.ignored entry h i) = nobody step refl
  denied-points from txn item holder step (of_grants.refuses entry h i) = nobody step refl

  prepare-points : (from : ℕ) (txn : TxnId) (grant : GrantId) (writes : List Read) (step : Step) → of_votes.PrepareCase here from txn grant writes step → Points step
  prepare-points from txn grant writes step (of_votes.not_its_site h) = nobody step refl
  prepare-points from txn grant writes step (of_votes.again h i) = nobody step refl
  prepare-points from txn grant writes step (of_votes.none_stands h i) = nobody step refl
  prepare-points from txn grant writes step (of_votes.other_stands standing h i j) = nobody step refl
  prepare-points from txn grant writes step (of_votes.ignored standing h i j) = nobody step refl
  prepare-points from txn grant writes step (of_votes.no_room standing h i j k) = nobody step refl
  prepare-points from txn grant writes step (of_votes.promises standing h i j k) = nobody step refl

  yes-points : (from : ℕ) (txn : TxnId) (step : Step) → of_votes.YesCase here from txn step → Points step
  yes-points from txn step (of_votes.no_entry h) = nobody step refl
  yes-points from txn step (of_votes.ignored entry h i) = nobody step refl
  yes-points from txn step (of_votes.waits entry h i) = nobody step refl
  yes-points from txn step (of_votes.no_room entry h i j) = nobody step refl
  yes-points from txn step (of_votes.commits entry h i j) = nobody step refl

  no-points : (from : ℕ) (txn : TxnId) (cause : NoCause) (step : Step) → of_votes.NoCase here from txn cause step → Points step
  no-points from txn cause step (of_votes.no_entry h) = nobody step refl
  no-points from txn cause step (of_votes.ignored entry h i) = nobody step refl
  no-points from txn cause step (of_votes.refuses entry h) = nobody step refl

  outcome-points : (from : ℕ) (txn : TxnId) (commits : Bool) (step : Step) → of_outcomes.OutcomeCase here from txn commits step → Points step
  outcome-points from txn commits step (of_outcomes.not_its_site h) = nobody step refl
  outcome-points from txn commits step (of_outcomes.known_already h) = nobody step refl
  outcome-points from txn commits step (of_outcomes.no_room h i j) = nobody step refl
  outcome-points from txn commits step (of_outcomes.learns h i j) = nobody step refl
  outcome-points from txn commits step (of_outcomes.nothing_to_do h i j) = nobody step refl
  outcome-points from txn commits step (of_outcomes.releases h i j) = nobody step refl

  ask-points : (from : ℕ) (txn : TxnId) (step : Step) → of_outcomes.AskCase here from txn step → Points step
  ask-points from txn step (of_outcomes.not_issued h) = nobody step refl
  ask-points from txn step (of_outcomes.has_committed h i) = nobody step refl
  ask-points from txn step (of_outcomes.still_works h i j) = nobody step refl
  ask-points from txn step (of_outcomes.will_not_commit h i j) = nobody step refl

  tick-points : Points (on_tick here)
  unfolding on_tick
  tick-points = nobody (on_tick here) refl

  message-points : (from : ℕ) (message : Message) → Points (on_message here from message)
  message-points from (lock txn wants) = lock-points from txn wants _ (lock-case here from txn wants)
  message-points from (granted txn grant values) = granted-points from txn grant values _ (granted-case here from txn grant values)
  message-points from (denied txn item holder) = denied-points from txn item holder _ (denied-case here from txn item holder)
  message-points from (prepare txn grant writes) = prepare-points from txn grant writes _ (prepare-case here from txn grant writes)
  message-points from (vote_yes txn) = yes-points from txn _ (yes-case here from txn)
  message-points from (vote_no txn cause) = no-points from txn cause _ (no-case here from txn cause)
  message-points from (outcome_reported txn commits) = outcome-points from txn commits _ (outcome-case here from txn commits)
  message-points from (ask txn) = ask-points from txn _ (ask-case here from txn)

  step-points : (input : Input) → Points (step_on here input)
  step-points (submit program) = submit-points program _ (submit-case here program)
  step-points (receive from message) = message-points from message
  step-points tick = tick-points

found-by : {X : Type 0} (p q : X → Bool) (ys : List X) (x y : X) → q x ≡ true → (find p ys ≡ Some x → find (λ z. p z && q z) ys ≡ Some x)
    → (b : Bool) → (if b then Some y else find p ys) ≡ Some x → (if b && q y then Some y else find (λ z. p z && q z) ys) ≡ Some x
found-by p q ys x y passes behind true found = subst (λ (c : Bool). (if c then Some y else find (λ z. p z && q z) ys) ≡ Some x) (sym (ap q (Some_inj found) ∙ passes)) found
found-by p q ys x y passes behind false found = behind found

-- What is found by one test, and passes another, is found by both.
found-both : {X : Type 0} (p q : X → Bool) (xs : List X) (x : X) → find p xs ≡ Some x → q x ≡ true → find (λ y. p y && q y) xs ≡ Some x
found-both p q [] x is passes = absurd (none-some _ is)
found-both p q (y ∷ ys) x is passes = found-by p q ys x y passes (λ found. found-both p q ys x found passes) (p y) is

found-put : (running : Running) (entry : Entry) → not (is_locking entry.stage) ≡ true → voting_entry (with_entry running entry) entry.txn ≡ Some entry
found-put running entry votes =
    found-both (λ (e : Entry). is_same_txn entry.txn e.txn) (λ (e : Entry). not (is_locking e.stage)) (with_entry running entry).entries entry
    (of-with (λ (e : Entry). e.txn) entry.txn entry running.entries
    ∙ ap (λ (b : Bool). if b then Some entry else of_txn (λ (e : Entry). e.txn) entry.txn running.entries) (same-refl entry.txn)) votes

neither : (a b : Bool) → (a || b) ≡ false → (a ≡ false) × (b ≡ false)
neither false b none = (refl, none)
neither true b none = absurd cc

isnt-not : (a : Bool) → not a ≡ false → a ≡ true
isnt-not true is = refl
isnt-not false is = absurd cc

-- A grant that is heard comes from a participant from which none was taken.
heard-new : (here : Here) (from : ℕ) (values : List Read) (entry : Entry) → is_grant_ignored here entry from values ≡ false
    → (is_among (participants_of entry.program here.setup.catalog.items) from ≡ true) × (has_taken entry from ≡ false)
heard-new here from values entry heard =
    let awaited = neither (is_unawaited here entry from) _ heard in
    let parts = neither (not (is_among (participants_of entry.program here.setup.catalog.items) from)) (has_taken entry from) awaited.0 in
    (isnt-not (is_among (participants_of entry.program here.setup.catalog.items) from) parts.0, parts.1)

-- The site tells the grants of a transaction that its step has brought to its lock point.
module _ (setup : Setup) (world : World) (n : ℕ) (running : Running) (orderly : IsOrderly setup world) (up : (site_at world n).running ≡ Some running) (input : Input) where
  abbrev here-of : Here
  here-of = record { me = n; setup = setup; records = (site_at world n).records; surplus = 0; running = running }

  works-of : (txn : TxnId) (entry : Entry) → of_txn (λ (e : Entry). e.txn) txn running.entries ≡ Some entry → WorksAgeless world n txn (record entry { age = 0 })
  works-of txn entry found =
      ap (λ (memory : Option Running). ageless_entry (entry_in memory txn)) up ∙ ap ageless_entry found

  point-right : (step : Step) (placed : Placed) → IsAtPoint here-of step placed → IsPlacedRight setup.catalog (Some step.running) (Some placed)
  point-right step placed point =
      let entry = taking point.entry point.from point.grant point.values in
      let votes = record entry { stage = voting; age = 0 } in
      let before : Ascend 0 setup.catalog.sites point.entry.taken =
      orderly.taken n point.txn (record point.entry { age = 0 })
      (works-of point.txn point.entry (locking-found running (orderly.memories n running up) point.txn point.entry point.taken.found).0) in
      let new = heard-new here-of point.from point.values point.entry point.taken.heard in
      let ascend : Ascend 0 setup.catalog.sites entry.taken =
      with-taken-ascend 0 setup.catalog.sites _ point.entry.taken (none-below point.from)
      (participant-below setup.catalog.sites point.entry.program setup.catalog.items point.from orderly.homes new.0) new.1 before in
      let found : voting_at (Some step.running) placed.txn ≡ Some votes =
      ap (λ (after : Running). voting_entry after placed.txn) point.running
      ∙ ap (λ (txn : TxnId). voting_entry (with_entry running votes) txn) point.own ∙ found-put running votes refl in
      point.grants ∙ sym (votes-all (Some step.running) placed.txn votes setup.catalog.sites found ascend)

  right-if : (step : Step) (placed : Option Placed) → step.placed ≡ placed → Points here-of step → IsPlacedRight setup.catalog (Some step.running) placed
  right-if step None is points = tt
  right-if step (Some placed) is points = point-right step placed (points placed is)

  pub placed-right : let step = site_step setup n (site_at world n).records running input in IsPlacedRight setup.catalog (Some step.running) step.placed
  placed-right = right-if (step_on here-of input) (step_on here-of input).placed refl (step-points here-of input)
