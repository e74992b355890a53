-- Which step notes that a transaction is refused, and why.
use Rattle.std.proofs.Common.{◌≡◌, ⊎_elim, ℕ, Bool, true, false, Some, None, List, [], ◌∷◌, length, refl, ap, subst, ◌∙◌}
use Rattle.std.specs.Prelude.{nat_lt, not, ◌||◌}
use Rattle.std.specs.List.{Contains}
use Rattle.pv_base.proofs.ContainsLemmas.{Contains-nil, Contains-cases}
use Rattle.pv_base.proofs.MapLemmas.{Contains-unmap}
use Rattle.pv_base.specs.Want.{Want}
use Rattle.pv_base.specs.declared.grant.GrantId.{GrantId}
use Rattle.pv_base.specs.declared.txn.TxnId.{TxnId}
use Rattle.pv_format.specs.Message.{Message, lock, granted, denied, prepare, vote_yes, vote_no, outcome_reported, ask, NoCause}
use Rattle.pv_format.specs.Record.{outcome_known}
use Rattle.pv_law_acts.proofs.MemoryLemmas.{entry-txn, left-none}
use Rattle.pv_law_acts.specs.Seen.{ageless_entry, work_in}
use Rattle.pv_law_events.proofs.FoundLemmas.{locking-found, voting-found, expired-was}
use Rattle.pv_law_step.proofs.StepCases.{submit-case, lock-case, granted-case, denied-case, prepare-case, yes-case, no-case, outcome-case, ask-case}
use Rattle.pv_law_step.specs.GrantCases as of_grants
use Rattle.pv_law_step.specs.GrantCases.{IsLastGrant}
use Rattle.pv_law_step.specs.LockCases as of_locks
use Rattle.pv_law_step.specs.OutcomeCases as of_outcomes
use Rattle.pv_law_step.specs.VoteCases as of_votes
use Rattle.pv_law_step.specs.VoteCases.{voted, IsVote}
use Rattle.pv_model.specs.Alternatives.{Read}
use Rattle.pv_model.specs.Syntax.{Program}
use Rattle.pv_protocol.specs.Coordinate.{locking_entry, names_taken, doubts}
use Rattle.pv_protocol.specs.Granted.{taking, first_uncertain, asked_of, is_unawaited, is_wanted}
use Rattle.pv_protocol.specs.Here.{Here, refusing, length_with, is_full}
use Rattle.pv_protocol.specs.Keyed.{of_txn}
use Rattle.pv_protocol.specs.Sound.{IsInOrder}
use Rattle.pv_protocol.specs.State as state
use Rattle.pv_protocol.specs.State.{Entry, Input, submit, receive, tick, Cause, conflict, outcome_limit, uncertain, expired, Note, refused, Step}
use Rattle.pv_protocol.specs.Step.{on_message, step_on}
use Rattle.pv_protocol.specs.Tick.{on_tick, older, older_entries, expired_entries, awaited}
use Rattle.pv_protocol.specs.Vote.{cause_of}

-- The steps that refuse a transaction, each with its cause.
pub data Refuses (here : Here) (t : TxnId) : Input → Cause → Type 0 where
  by_width : (from : ℕ) (asked : TxnId) (grant : GrantId) (values : List Read) (entry : Entry) → IsLastGrant here from asked grant values entry → entry.txn ≡ t
      → nat_lt here.setup.read_names (length (names_taken (taking entry from grant values))) ≡ true
      → step_on here (receive from (granted asked grant values)) ≡ refusing here (taking entry from grant values) (outcome_limit (length (names_taken (taking entry from grant values))))
      → Refuses here t (receive from (granted asked grant values)) (outcome_limit (length (names_taken (taking entry from grant values))))
  by_doubt : (from : ℕ) (asked : TxnId) (grant : GrantId) (values : List Read) (entry : Entry) (item : ℕ) → IsLastGrant here from asked grant values entry → entry.txn ≡ t
      → first_uncertain here (taking entry from grant values) ≡ Some item
      → step_on here (receive from (granted asked grant values)) ≡ refusing here (taking entry from grant values) (uncertain item (doubts here.records (taking entry from grant values) item))
      → Refuses here t (receive from (granted asked grant values)) (uncertain item (doubts here.records (taking entry from grant values) item))
  by_denial : (from : ℕ) (asked : TxnId) (item : ℕ) (holder : TxnId) (entry : Entry) → locking_entry here.running asked ≡ Some entry → entry.txn ≡ t
      → is_unawaited here entry from || not (is_wanted (asked_of here entry from) item) ≡ false
      → step_on here (receive from (denied asked item holder)) ≡ refusing here entry (conflict from item holder)
      → Refuses here t (receive from (denied asked item holder)) (conflict from item holder)
  by_room : (from : ℕ) (asked : TxnId) (entry : Entry) → IsVote here from asked entry → entry.txn ≡ t → is_full here (outcome_known entry.txn true) ≡ true
      → step_on here (receive from (vote_yes asked)) ≡ refusing here (voted entry from) (state.journal_full here.me (length_with here (outcome_known entry.txn true)))
      → Refuses here t (receive from (vote_yes asked)) (state.journal_full here.me (length_with here (outcome_known entry.txn true)))
  by_vote : (from : ℕ) (asked : TxnId) (cause : NoCause) (entry : Entry) → IsVote here from asked entry → entry.txn ≡ t
      → step_on here (receive from (vote_no asked cause)) ≡ refusing here entry (cause_of from cause)
      → Refuses here t (receive from (vote_no asked cause)) (cause_of from cause)
  by_time : (late : Entry) → Contains (expired_entries (older_entries here.running.entries)) late → late.txn ≡ t → Refuses here t tick (expired (awaited here late))

module _ (here : Here) (t : TxnId) (cause : Cause) where
  abbrev Notes : Step → Type 0
  Notes step = Contains step.notes (refused t cause)

  none-noted : Contains [] (refused t cause) → ⊥
  none-noted h = Contains-nil (refused t cause) h

  one-noted : (note : Note) → Contains (note ∷ []) (refused t cause) → note ≡ refused t cause
  one-noted note h = ⊎_elim (λ same. same) (λ none. absurd (none-noted none)) (Contains-cases note [] (refused t cause) h)

  submit-none : (program : Program) (step : Step) → of_locks.SubmitCase here program step → Notes step → ⊥
  submit-none program step (of_locks.no_number_left h) noted = let same = one-noted _ noted in let wrong : ⊥ = cc in wrong
  submit-none program step (of_locks.begins h) noted = let same = one-noted _ noted in let wrong : ⊥ = cc in wrong

  lock-none : (from : ℕ) (txn : TxnId) (wants : List Want) (step : Step) → of_locks.LockCase here from txn wants step → Notes step → ⊥
  lock-none from txn wants step (of_locks.ignored h) noted = none-noted noted
  lock-none from txn wants step (of_locks.granted_again grant h i j) noted = none-noted noted
  lock-none from txn wants step (of_locks.misfits grant h i j) noted = none-noted noted
  lock-none from txn wants step (of_locks.denies clash h i j) noted = none-noted noted
  lock-none from txn wants step (of_locks.no_grant_left h i) noted = let same = one-noted _ noted in let wrong : ⊥ = cc in wrong
  lock-none from txn wants step (of_locks.grants h i) noted = none-noted noted

  prepare-none : (from : ℕ) (txn : TxnId) (grant : GrantId) (writes : List Read) (step : Step) → of_votes.PrepareCase here from txn grant writes step → Notes step → ⊥
  prepare-none from txn grant writes step (of_votes.not_its_site h) noted = none-noted noted
  prepare-none from txn grant writes step (of_votes.again h i) noted = none-noted noted
  prepare-none from txn grant writes step (of_votes.none_stands h i) noted = none-noted noted
  prepare-none from txn grant writes step (of_votes.other_stands standing h i j) noted = none-noted noted
  prepare-none from txn grant writes step (of_votes.ignored standing h i j) noted = none-noted noted
  prepare-none from txn grant writes step (of_votes.no_room standing h i j k) noted = none-noted noted
  prepare-none from txn grant writes step (of_votes.promises standing h i j k) noted = none-noted noted

  outcome-none : (from : ℕ) (txn : TxnId) (outcome : Bool) (step : Step) → of_outcomes.OutcomeCase here from txn outcome step → Notes step → ⊥
  outcome-none from txn outcome step (of_outcomes.not_its_site h) noted = none-noted noted
  outcome-none from txn outcome step (of_outcomes.known_already h) noted = none-noted noted
  outcome-none from txn outcome step (of_outcomes.no_room h i j) noted = let same = one-noted _ noted in let wrong : ⊥ = cc in wrong
  outcome-none from txn outcome step (of_outcomes.learns h i j) noted = none-noted noted
  outcome-none from txn outcome step (of_outcomes.nothing_to_do h i j) noted = none-noted noted
  outcome-none from txn outcome step (of_outcomes.releases h i j) noted = none-noted noted

  ask-none : (from : ℕ) (txn : TxnId) (step : Step) → of_outcomes.AskCase here from txn step → Notes step → ⊥
  ask-none from txn step (of_outcomes.not_issued h) noted = none-noted noted
  ask-none from txn step (of_outcomes.has_committed h i) noted = none-noted noted
  ask-none from txn step (of_outcomes.still_works h i j) noted = none-noted noted
  ask-none from txn step (of_outcomes.will_not_commit h i j) noted = none-noted noted

  -- the two parts of a refusal that is noted
  same-txn : (u : TxnId) (other : Cause) → refused u other ≡ refused t cause → u ≡ t
  same-txn u other is = cc

  same-cause : (u : TxnId) (other : Cause) → refused u other ≡ refused t cause → other ≡ cause
  same-cause u other is = cc

  granted-noted : (from : ℕ) (txn : TxnId) (grant : GrantId) (values : List Read) (step : Step) → of_grants.GrantedCase here from txn grant values step
      → step_on here (receive from (granted txn grant values)) ≡ step → Notes step → Refuses here t (receive from (granted txn grant values)) cause
  granted-noted from txn grant values step (of_grants.no_entry h) is noted = absurd (none-noted noted)
  granted-noted from txn grant values step (of_grants.ignored entry h i) is noted = absurd (none-noted noted)
  granted-noted from txn grant values step (of_grants.waits entry h i) is noted = absurd (none-noted noted)
  granted-noted from txn grant values step (of_grants.too_wide entry h i) is noted =
      let why = outcome_limit (length (names_taken (taking entry from grant values))) in
      let same = one-noted (refused entry.txn why) noted in
      subst (Refuses here t (receive from (granted txn grant values))) (same-cause entry.txn why same)
      (by_width from txn grant values entry h (same-txn entry.txn why same) i is)
  granted-noted from txn grant values step (of_grants.in_doubt entry least h i doubt) is noted =
      let why = uncertain least (doubts here.records (taking entry from grant values) least) in
      let same = one-noted (refused entry.txn why) noted in
      subst (Refuses here t (receive from (granted txn grant values))) (same-cause entry.txn why same)
      (by_doubt from txn grant values entry least h (same-txn entry.txn why same) doubt is)
  granted-noted from txn grant values step (of_grants.reaches_lock_point entry h i certain) is noted = absurd (none-noted noted)

  denied-noted : (from : ℕ) (txn : TxnId) (item : ℕ) (holder : TxnId) (step : Step) → of_grants.DeniedCase here from txn item holder step
      → step_on here (receive from (denied txn item holder)) ≡ step → Notes step → Refuses here t (receive from (denied txn item holder)) cause
  denied-noted from txn item holder step (of_grants.no_entry h) is noted = absurd (none-noted noted)
  denied-noted from txn item holder step (of_grants.ignored entry h i) is noted = absurd (none-noted noted)
  denied-noted from txn item holder step (of_grants.refuses entry h i) is noted =
      let same = one-noted (refused entry.txn (conflict from item holder)) noted in
      subst (Refuses here t (receive from (denied txn item holder))) (same-cause entry.txn (conflict from item holder) same)
      (by_denial from txn item holder entry h (same-txn entry.txn (conflict from item holder) same) i is)

  yes-noted : (from : ℕ) (txn : TxnId) (step : Step) → of_votes.YesCase here from txn step → step_on here (receive from (vote_yes txn)) ≡ step → Notes step → Refuses here t (receive from (vote_yes txn)) cause
  yes-noted from txn step (of_votes.no_entry h) is noted = absurd (none-noted noted)
  yes-noted from txn step (of_votes.ignored entry h i) is noted = absurd (none-noted noted)
  yes-noted from txn step (of_votes.waits entry h i) is noted = absurd (none-noted noted)
  yes-noted from txn step (of_votes.no_room entry h i j) is noted =
      let why = state.journal_full here.me (length_with here (outcome_known entry.txn true)) in
      let same = one-noted (refused entry.txn why) noted in
      subst (Refuses here t (receive from (vote_yes txn))) (same-cause entry.txn why same) (by_room from txn entry h (same-txn entry.txn why same) j is)
  yes-noted from txn step (of_votes.commits entry h i j) is noted = let same = one-noted _ noted in absurd (let wrong : ⊥ = cc in wrong)

  no-noted : (from : ℕ) (txn : TxnId) (reported : NoCause) (step : Step) → of_votes.NoCase here from txn reported step → step_on here (receive from (vote_no txn reported)) ≡ step → Notes step
      → Refuses here t (receive from (vote_no txn reported)) cause
  no-noted from txn reported step (of_votes.no_entry h) is noted = absurd (none-noted noted)
  no-noted from txn reported step (of_votes.ignored entry h i) is noted = absurd (none-noted noted)
  no-noted from txn reported step (of_votes.refuses entry h) is noted =
      let same = one-noted (refused entry.txn (cause_of from reported)) noted in
      subst (Refuses here t (receive from (vote_no txn reported))) (same-cause entry.txn (cause_of from reported) same) (by_vote from txn reported entry h (same-txn entry.txn (cause_of from reported) same) is)

  tick-noted : Notes (on_tick here) → Refuses here t tick cause
  unfolding on_tick
  tick-noted noted =
      let found = Contains-unmap (λ (entry : Entry). refused entry.txn (expired (awaited here entry))) (expired_entries (older_entries here.running.entries)) (refused t cause) noted in
      let why = expired (awaited here found.0) in
      subst (Refuses here t tick) (same-cause found.0.txn why found.1.1) (by_time found.0 found.1.0 (same-txn found.0.txn why found.1.1))

  message-noted : (from : ℕ) (message : Message) → Notes (on_message here from message) → Refuses here t (receive from message) cause
  message-noted from (lock txn wants) noted = absurd (lock-none from txn wants _ (lock-case here from txn wants) noted)
  message-noted from (granted txn grant values) noted = granted-noted from txn grant values _ (granted-case here from txn grant values) refl noted
  message-noted from (denied txn item holder) noted = denied-noted from txn item holder _ (denied-case here from txn item holder) refl noted
  message-noted from (prepare txn grant writes) noted = absurd (prepare-none from txn grant writes _ (prepare-case here from txn grant writes) noted)
  message-noted from (vote_yes txn) noted = yes-noted from txn _ (yes-case here from txn) refl noted
  message-noted from (vote_no txn reported) noted = no-noted from txn reported _ (no-case here from txn reported) refl noted
  message-noted from (outcome_reported txn outcome) noted = absurd (outcome-none from txn outcome _ (outcome-case here from txn outcome) noted)
  message-noted from (ask txn) noted = absurd (ask-none from txn _ (ask-case here from txn) noted)

  pub refusal-noted : (input : Input) → Notes (step_on here input) → Refuses here t input cause
  refusal-noted (submit program) noted = absurd (submit-none program _ (submit-case here program) noted)
  refusal-noted (receive from message) noted = message-noted from message noted
  refusal-noted tick noted = tick-noted noted

-- A refusal ends an entry, and records nothing.
pub record Drops (here : Here) (t : TxnId) (input : Input) : Type 0 where
  pub entry : Entry
  pub was : work_in (Some here.running) t ≡ Some entry
  pub gone : work_in (Some (step_on here input).running) t ≡ None
  pub silent : (step_on here input).appended ≡ None

module _ (here : Here) (t : TxnId) (ordered : IsInOrder here.running) where
  refusing-drops : (input : Input) (entry left : Entry) (why : Cause) → of_txn (λ (e : Entry). e.txn) entry.txn here.running.entries ≡ Some entry → left.txn ≡ entry.txn → entry.txn ≡ t
      → step_on here input ≡ refusing here left why → Drops here t input
  refusing-drops input entry left why found same own is = record {
    entry = record entry { age = 0 };
    was = subst (λ u. work_in (Some here.running) u ≡ Some (record entry { age = 0 })) own (ap ageless_entry found);
    gone = ap (λ (s : Step). work_in (Some s.running) t) is ∙ subst (λ u. work_in (Some (refusing here left why).running) u ≡ None) (same ∙ own) (left-none here.running left.txn);
    silent = ap (λ (s : Step). s.appended) is;
  }

  found-own : (asked : TxnId) (entry : Entry) → of_txn (λ (e : Entry). e.txn) asked here.running.entries ≡ Some entry → of_txn (λ (e : Entry). e.txn) entry.txn here.running.entries ≡ Some entry
  found-own asked entry found = subst (λ u. of_txn (λ (e : Entry). e.txn) u here.running.entries ≡ Some entry) (entry-txn here.running asked entry found) found

  tick-silent : (on_tick here).appended ≡ None
  unfolding on_tick
  tick-silent = refl

  tick-older : (on_tick here).running ≡ older here.running
  unfolding on_tick
  tick-older = refl

  pub refusal-drops : (input : Input) (cause : Cause) → Refuses here t input cause → Drops here t input
  refusal-drops _ _ (by_width from asked grant values entry last own wide is) =
      refusing-drops _ entry (taking entry from grant values) _ (found-own asked entry (locking-found here.running ordered asked entry last.taken.found).0) refl own is
  refusal-drops _ _ (by_doubt from asked grant values entry item last own doubt is) =
      refusing-drops _ entry (taking entry from grant values) _ (found-own asked entry (locking-found here.running ordered asked entry last.taken.found).0) refl own is
  refusal-drops _ _ (by_denial from asked item holder entry found own heard is) =
      refusing-drops _ entry entry _ (found-own asked entry (locking-found here.running ordered asked entry found).0) refl own is
  refusal-drops _ _ (by_room from asked entry vote own full is) =
      refusing-drops _ entry (voted entry from) _ (found-own asked entry (voting-found here.running ordered asked entry vote.found).0) refl own is
  refusal-drops _ _ (by_vote from asked cause entry vote own is) =
      refusing-drops _ entry entry _ (found-own asked entry (voting-found here.running ordered asked entry vote.found).0) refl own is
  refusal-drops _ _ (by_time late listed own) =
      let both = expired-was here.running ordered late listed in record {
        entry = record late { age = 0 };
        was = subst (λ u. work_in (Some here.running) u ≡ Some (record late { age = 0 })) own both.0;
        gone = ap (λ r. work_in (Some r) t) tick-older ∙ subst (λ u. work_in (Some (older here.running)) u ≡ None) own both.1;
        silent = tick-silent;
      }
