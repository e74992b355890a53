-- Each step is one of its cases.
use Rattle.std.proofs.Common.{◌≡◌, ℕ, Bool, true, false, Some, None, Option, List, refl, sym, ◌∙◌}
use Rattle.std.specs.Prelude.{◌≢◌, ◌||◌, ◌==◌, length, nat_lt, not, if◌then◌else◌}
use Rattle.std.proofs.lemmas.Option.{none-some}
use Rattle.pv_base.specs.declared.grant.GrantId.{GrantId}
use Rattle.pv_base.specs.declared.limits.TheConstants.{NEVER_GIVEN}
use Rattle.pv_base.specs.declared.txn.TxnId.{TxnId}
use Rattle.pv_base.specs.Want.{Want}
use Rattle.pv_format.specs.Message.{NoCause}
use Rattle.pv_format.specs.Record.{outcome_known}
use Rattle.pv_model.specs.Alternatives.{Read}
use Rattle.pv_model.specs.Syntax.{Program}
use Rattle.pv_law_step.specs.GrantCases as of_grants
use Rattle.pv_law_step.specs.GrantCases.{GrantedCase, DeniedCase}
use Rattle.pv_law_step.specs.LockCases as of_locks
use Rattle.pv_law_step.specs.LockCases.{SubmitCase, LockCase}
use Rattle.pv_law_step.specs.OutcomeCases as of_outcomes
use Rattle.pv_law_step.specs.OutcomeCases.{OutcomeCase, AskCase}
use Rattle.pv_law_step.specs.VoteCases as of_votes
use Rattle.pv_law_step.specs.VoteCases.{PrepareCase, YesCase, NoCase, voted}
use Rattle.pv_protocol.specs.Coordinate.{locking_entry, names_taken, voting_entry}
use Rattle.pv_protocol.specs.Granted.{taking, first_uncertain, if_certain, on_granted, at_granted, on_denied, at_denied}
use Rattle.pv_protocol.specs.Here.{Here, remembering, nothing, noting, grant_of, without_grant, length_with, is_full}
use Rattle.pv_protocol.specs.Lock.{on_submit, on_lock, at_standing, at_conflict, Conflict, first_conflict, is_lock_ignored}
use Rattle.pv_protocol.specs.Outcome.{on_outcome, is_needed, learning, is_issued, on_ask, at_known}
use Rattle.pv_protocol.specs.Records.{known, is_undecided}
use Rattle.pv_protocol.specs.State.{Grant, Entry, full}
use Rattle.pv_protocol.specs.Vote.{on_prepare, at_prepare, on_yes, at_yes, on_no, at_no}

pub if_case : {X : Type 0} (P : X → Type 0) (test : Bool) {x y : X} → (test ≡ true → P x) → (test ≡ false → P y) → P (if test then x else y)
if_case P true holds fails = holds refl
if_case P false holds fails = fails refl

-- the same, where the test is denied
pub unless_case : {X : Type 0} (P : X → Type 0) (test : Bool) {x y : X} → (test ≡ false → P x) → (test ≡ true → P y) → P (if not test then x else y)
unless_case P true fails holds = holds refl
unless_case P false fails holds = fails refl

-- Requests and locks.

pub submit-case : (here : Here) (program : Program) → SubmitCase here program (on_submit here program)
unfolding on_submit
submit-case here program =
    if_case (SubmitCase here program) (here.running.next_txn == NEVER_GIVEN) of_locks.no_number_left of_locks.begins

module _ (here : Here) (from : ℕ) (txn : TxnId) (wants : List Want) where
  conflict-case : is_lock_ignored here from txn wants ≡ false → grant_of here.running txn ≡ None
      → (conflict : Option Conflict) → first_conflict here.running.grants wants ≡ conflict
      → LockCase here from txn wants (at_conflict here txn wants conflict)
  conflict-case heard none (Some conflict) is = of_locks.denies conflict heard none is
  conflict-case heard none None is =
      let free : of_locks.IsGrantable here from txn wants = record { heard = heard; none = none; free = is } in
      if_case (LockCase here from txn wants) (here.running.next_grant == NEVER_GIVEN) (of_locks.no_grant_left free) (of_locks.grants free)

  standing-case : is_lock_ignored here from txn wants ≡ false → (grant : Option Grant) → grant_of here.running txn ≡ grant
      → LockCase here from txn wants (at_standing here txn wants grant)
  standing-case heard (Some grant) is =
      if_case (LockCase here from txn wants) _ (of_locks.granted_again grant heard is) (of_locks.misfits grant heard is)
  standing-case heard None is = conflict-case heard is (first_conflict here.running.grants wants) refl

  pub lock-case : LockCase here from txn wants (on_lock here from txn wants)
  unfolding on_lock
  lock-case =
      if_case (LockCase here from txn wants) _ of_locks.ignored (λ heard. standing-case heard (grant_of here.running txn) refl)

-- Answers to locks.

module _ (here : Here) (from : ℕ) (txn : TxnId) (grant : GrantId) (values : List Read) where
  certain-case : (entry : Entry) → of_grants.IsLastGrant here from txn grant values entry
      → nat_lt here.setup.read_names (length (names_taken (taking entry from grant values))) ≡ false
      → (item : Option ℕ) → first_uncertain here (taking entry from grant values) ≡ item
      → GrantedCase here from txn grant values (if_certain here (taking entry from grant values) item)
  certain-case entry last few None is = of_grants.reaches_lock_point entry last few is
  certain-case entry last few (Some item) is = of_grants.in_doubt entry item last few is

  entry-case : (entry : Option Entry) → locking_entry here.running txn ≡ entry → GrantedCase here from txn grant values (at_granted here from grant values entry)
  entry-case None is = of_grants.no_entry is
  entry-case (Some entry) is =
      if_case (GrantedCase here from txn grant values) _ (of_grants.ignored entry is)
      (λ heard. let taken : of_grants.IsTaken here from txn values entry = record { found = is; heard = heard } in
      unless_case (GrantedCase here from txn grant values) _ (of_grants.waits entry taken)
      (λ whole. let last : of_grants.IsLastGrant here from txn grant values entry = record { taken = taken; whole = whole } in
      if_case (GrantedCase here from txn grant values) _ (of_grants.too_wide entry last)
      (λ few. certain-case entry last few (first_uncertain here (taking entry from grant values)) refl)))

  pub granted-case : GrantedCase here from txn grant values (on_granted here from txn grant values)
  unfolding on_granted
  granted-case = entry-case (locking_entry here.running txn) refl

module _ (here : Here) (from : ℕ) (txn : TxnId) (item : ℕ) (holder : TxnId) where
  denial-case : (entry : Option Entry) → locking_entry here.running txn ≡ entry → DeniedCase here from txn item holder (at_denied here from item holder entry)
  denial-case None is = of_grants.no_entry is
  denial-case (Some entry) is = if_case (DeniedCase here from txn item holder) _ (of_grants.ignored entry is) (of_grants.refuses entry is)

  pub denied-case : DeniedCase here from txn item holder (on_denied here from txn item holder)
  unfolding on_denied
  denied-case = denial-case (locking_entry here.running txn) refl

-- Votes.

module _ (here : Here) (from : ℕ) (txn : TxnId) (grant : GrantId) (writes : List Read) where
  grant-case : of_votes.IsAsked here from txn → (standing : Option Grant) → grant_of here.running txn ≡ standing
      → PrepareCase here from txn grant writes (at_prepare here txn grant writes standing)
  grant-case asked None is = of_votes.none_stands asked is
  grant-case asked (Some standing) is =
      if_case (PrepareCase here from txn grant writes) _
      (λ same. let stands : of_votes.Stands here txn grant standing = record { found = is; same = same } in
      if_case (PrepareCase here from txn grant writes) _ (of_votes.ignored standing asked stands)
      (λ right. if_case (PrepareCase here from txn grant writes) _ (of_votes.no_room standing asked stands right) (of_votes.promises standing asked stands right)))
      (of_votes.other_stands standing asked is)

  pub prepare-case : PrepareCase here from txn grant writes (on_prepare here from txn grant writes)
  unfolding on_prepare
  prepare-case =
      unless_case (PrepareCase here from txn grant writes) _ of_votes.not_its_site
      (λ own. if_case (PrepareCase here from txn grant writes) _ (of_votes.again own)
      (λ unprepared. grant-case (record { own = own; unprepared = unprepared }) (grant_of here.running txn) refl))

module _ (here : Here) (from : ℕ) (txn : TxnId) where
  vote-case : (entry : Option Entry) → voting_entry here.running txn ≡ entry → YesCase here from txn (at_yes here from entry)
  vote-case None is = of_votes.no_entry is
  vote-case (Some entry) is =
      if_case (YesCase here from txn) _ (of_votes.ignored entry is)
      (λ heard. let vote : of_votes.IsVote here from txn entry = record { found = is; heard = heard } in
      unless_case (YesCase here from txn) _ (of_votes.waits entry vote)
      (λ whole. if_case (YesCase here from txn) _ (of_votes.no_room entry vote whole) (of_votes.commits entry vote whole)))

  pub yes-case : YesCase here from txn (on_yes here from txn)
  unfolding on_yes
  yes-case = vote-case (voting_entry here.running txn) refl

  module _ (cause : NoCause) where
    refusal-case : (entry : Option Entry) → voting_entry here.running txn ≡ entry → NoCase here from txn cause (at_no here from cause entry)
    refusal-case None is = of_votes.no_entry is
    refusal-case (Some entry) is =
        if_case (NoCase here from txn cause) _ (of_votes.ignored entry is) (λ heard. of_votes.refuses entry (record { found = is; heard = heard }))

    pub no-case : NoCase here from txn cause (on_no here from txn cause)
    unfolding on_no
    no-case = refusal-case (voting_entry here.running txn) refl

-- Outcomes.

some-false : Some false ≢ Some true
some-false same = cc

module _ (here : Here) (from : ℕ) (txn : TxnId) (commits : Bool) where
  needless-case : of_outcomes.IsNews here from txn → is_needed here txn ≡ false
      → (reported : Bool) → commits ≡ reported → OutcomeCase here from txn commits (if reported then nothing here else remembering (without_grant here.running txn))
  needless-case news needless true is = of_outcomes.nothing_to_do news needless is
  needless-case news needless false is = of_outcomes.releases news needless is

  news-case : of_outcomes.IsNews here from txn
      → OutcomeCase here from txn commits
      (if is_needed here txn
      then (if is_full here (outcome_known txn commits) then noting here (full (length_with here (outcome_known txn commits))) else learning here txn commits)
      else (if commits then nothing here else remembering (without_grant here.running txn)))
  news-case news =
      if_case (OutcomeCase here from txn commits) (is_needed here txn)
      (λ needed. if_case (OutcomeCase here from txn commits) _ (of_outcomes.no_room news needed) (of_outcomes.learns news needed))
      (λ needless. needless-case news needless commits refl)

  heard-case : (own unknown : Bool) → (from == txn.site.0) ≡ own → is_undecided here.records txn ≡ unknown
      → OutcomeCase here from txn commits
      (if not own || not unknown then nothing here else
      (if is_needed here txn
      then (if is_full here (outcome_known txn commits) then noting here (full (length_with here (outcome_known txn commits))) else learning here txn commits)
      else (if commits then nothing here else remembering (without_grant here.running txn))))
  heard-case false unknown is tells = of_outcomes.not_its_site is
  heard-case true false is tells = of_outcomes.known_already tells
  heard-case true true is tells = news-case (record { own = is; unknown = tells })

  pub outcome-case : OutcomeCase here from txn commits (on_outcome here from txn commits)
  unfolding on_outcome
  outcome-case = heard-case (from == txn.site.0) (is_undecided here.records txn) refl refl

module _ (here : Here) (from : ℕ) (txn : TxnId) where
  known-case : is_issued here txn ≡ true → (outcome : Option Bool) → known here.records txn ≡ outcome → AskCase here from txn (at_known here from txn outcome)
  known-case issued (Some true) is = of_outcomes.has_committed issued is
  known-case issued (Some false) is =
      let other : known here.records txn ≢ Some true = λ same. some-false (sym is ∙ same) in
      if_case (AskCase here from txn) _ (of_outcomes.still_works issued other) (of_outcomes.will_not_commit issued other)
  known-case issued None is =
      let other : known here.records txn ≢ Some true = λ same. none-some _ (sym is ∙ same) in
      if_case (AskCase here from txn) _ (of_outcomes.still_works issued other) (of_outcomes.will_not_commit issued other)

  pub ask-case : AskCase here from txn (on_ask here from txn)
  unfolding on_ask
  ask-case = if_case (AskCase here from txn) _ (λ issued. known-case issued (known here.records txn) refl) of_outcomes.not_issued
