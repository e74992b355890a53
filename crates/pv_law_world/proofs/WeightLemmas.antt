-- What a site sends on a message weighs less than that message.
use Rattle.std.proofs.Common.{arith, ◌≡◌, ℕ, ◌+◌, ◌*◌, ◌<◌, ◌≤◌, Bool, true, false, Option, Some, None, List, [], ◌∷◌, length, refl, lt_of_le_of_lt}
use Rattle.std.specs.List.{cons_option, filter_map}
use Rattle.pv_base.specs.declared.grant.GrantId.{GrantId}
use Rattle.pv_base.specs.declared.txn.TxnId.{TxnId}
use Rattle.pv_base.specs.Want.{Want}
use Rattle.pv_format.specs.Message.{Message, lock, granted, denied, prepare, vote_yes, vote_no, outcome_reported, ask, NoCause}
use Rattle.pv_law_step.proofs.StepCases.{lock-case, granted-case, denied-case, prepare-case, yes-case, no-case, outcome-case, ask-case}
use Rattle.pv_law_step.specs.GrantCases as grants
use Rattle.pv_law_step.specs.LockCases as locks
use Rattle.pv_law_step.specs.OutcomeCases as outcomes
use Rattle.pv_law_step.specs.VoteCases as votes
use Rattle.pv_law_world.proofs.ParticipantLemmas.{few-participants}
use Rattle.pv_law_world.specs.Pumps.{HasFewSites}
use Rattle.pv_model.specs.Alternatives.{Read}
use Rattle.pv_protocol.specs.Granted.{taking, taken_from, prepare_under, prepare_sends}
use Rattle.pv_protocol.specs.Here.{Here, outcome_sends, participants}
use Rattle.pv_protocol.specs.Pump.{weight}
use Rattle.pv_protocol.specs.State.{Entry, Taken, receive, Outgoing, Step}
use Rattle.pv_protocol.specs.Step.{step_on}
use Rattle.pv_protocol.specs.Vote.{others_than}

-- the weights of what is sent
abbrev pub weight_sent : List Outgoing → ℕ
weight_sent [] = 0
weight_sent (first ∷ sends) = weight first.message + weight_sent sends

outcomes-weight : (txn : TxnId) (commits : Bool) (sites : List ℕ) → weight_sent (outcome_sends txn commits sites) ≡ length sites
outcomes-weight txn commits [] = refl
outcomes-weight txn commits (site ∷ sites) = let rest : weight_sent (outcome_sends txn commits sites) ≡ length sites = outcomes-weight txn commits sites in omega arith

others-few : (me : ℕ) (sites : List ℕ) → length (others_than me sites) ≤ length sites
others-few me [] = omega arith
others-few me (site ∷ sites) = let rest : length (others_than me sites) ≤ length sites = others-few me sites in grind (arith, rest)

prepares-weight : (here : Here) (entry : Entry) (sites : List ℕ)
    → weight_sent (filter_map (λ site. prepare_under here entry (taken_from entry site)) sites) ≤ 289 * length sites
prepares-weight here entry [] = omega arith
prepares-weight here entry (site ∷ sites) = one-more (taken_from entry site) (prepares-weight here entry sites)
  where
    one-more : (taken : Option Taken) → weight_sent (filter_map (λ site. prepare_under here entry (taken_from entry site)) sites) ≤ 289 * length sites
        → weight_sent (cons_option (prepare_under here entry taken) (filter_map (λ site. prepare_under here entry (taken_from entry site)) sites)) ≤ 289 * length (site ∷ sites)
    one-more None rest = omega arith
    one-more (Some taken) rest = omega arith

module _ (here : Here) (few : HasFewSites here.setup.catalog) (from : ℕ) where
  refusals-weight : (entry : Entry) (commits : Bool) → weight_sent (outcome_sends entry.txn commits (participants here entry)) ≤ 16
  refusals-weight entry commits = rw (outcomes-weight entry.txn commits (participants here entry)) (few-participants here.setup.catalog entry.program few)

  others-weight : (entry : Entry) → weight_sent (outcome_sends entry.txn true (others_than here.me (participants here entry))) ≤ 16
  others-weight entry =
      let fewer : length (others_than here.me (participants here entry)) ≤ length (participants here entry) = others-few here.me (participants here entry) in
      let all : length (participants here entry) ≤ 16 = few-participants here.setup.catalog entry.program few in
      rw (outcomes-weight entry.txn true (others_than here.me (participants here entry))) (omega arith)

  votes-weight : (entry : Entry) → weight_sent (prepare_sends here entry) ≤ 4624
  votes-weight entry =
      let each : weight_sent (prepare_sends here entry) ≤ 289 * length (participants here entry) = prepares-weight here entry (participants here entry) in
      let all : length (participants here entry) ≤ 16 = few-participants here.setup.catalog entry.program few in omega arith

  lock-light : (txn : TxnId) (wants : List Want) {step : Step} → locks.LockCase here from txn wants step → weight_sent step.sends < 83521
  lock-light txn wants (locks.ignored ignored) = omega arith
  lock-light txn wants (locks.granted_again grant heard has same) = omega arith
  lock-light txn wants (locks.misfits grant heard has same) = omega arith
  lock-light txn wants (locks.denies conflict heard has is) = omega arith
  lock-light txn wants (locks.no_grant_left free spent) = omega arith
  lock-light txn wants (locks.grants free left) = omega arith

  granted-light : (txn : TxnId) (grant : GrantId) (values : List Read) {step : Step} → grants.GrantedCase here from txn grant values step
      → weight_sent step.sends < 4913
  granted-light txn grant values (grants.no_entry is) = omega arith
  granted-light txn grant values (grants.ignored entry has ignored) = omega arith
  granted-light txn grant values (grants.waits entry taken more) = omega arith
  granted-light txn grant values (grants.too_wide entry last wide) = lt_of_le_of_lt (refusals-weight (taking entry from grant values) false) (omega arith)
  granted-light txn grant values (grants.in_doubt entry least last wide doubt) = lt_of_le_of_lt (refusals-weight (taking entry from grant values) false) (omega arith)
  granted-light txn grant values (grants.reaches_lock_point entry last narrow certain) = lt_of_le_of_lt (votes-weight (taking entry from grant values)) (omega arith)

  denied-light : (txn : TxnId) (item : ℕ) (holder : TxnId) {step : Step} → grants.DeniedCase here from txn item holder step → weight_sent step.sends < 4913
  denied-light txn item holder (grants.no_entry is) = omega arith
  denied-light txn item holder (grants.ignored entry has ignored) = omega arith
  denied-light txn item holder (grants.refuses entry has heard) = lt_of_le_of_lt (refusals-weight entry false) (omega arith)

  prepare-light : (txn : TxnId) (grant : GrantId) (writes : List Read) {step : Step} → votes.PrepareCase here from txn grant writes step
      → weight_sent step.sends < 289
  prepare-light txn grant writes (votes.not_its_site isnt) = omega arith
  prepare-light txn grant writes (votes.again own prepared) = omega arith
  prepare-light txn grant writes (votes.none_stands asked has) = omega arith
  prepare-light txn grant writes (votes.other_stands standing asked has other) = omega arith
  prepare-light txn grant writes (votes.ignored standing asked stands ignored) = omega arith
  prepare-light txn grant writes (votes.no_room standing asked stands right full) = omega arith
  prepare-light txn grant writes (votes.promises standing asked stands right room) = omega arith

  yes-light : (txn : TxnId) {step : Step} → votes.YesCase here from txn step → weight_sent step.sends < 17
  yes-light txn (votes.no_entry is) = omega arith
  yes-light txn (votes.ignored entry has ignored) = omega arith
  yes-light txn (votes.waits entry vote more) = omega arith
  yes-light txn (votes.no_room entry vote whole full) = lt_of_le_of_lt (refusals-weight (votes.voted entry from) false) (omega arith)
  yes-light txn (votes.commits entry vote whole room) = lt_of_le_of_lt (others-weight (votes.voted entry from)) (omega arith)

  no-light : (txn : TxnId) (cause : NoCause) {step : Step} → votes.NoCase here from txn cause step → weight_sent step.sends < 17
  no-light txn cause (votes.no_entry is) = omega arith
  no-light txn cause (votes.ignored entry has ignored) = omega arith
  no-light txn cause (votes.refuses entry vote) = lt_of_le_of_lt (refusals-weight entry false) (omega arith)

  outcome-light : (txn : TxnId) (commits : Bool) {step : Step} → outcomes.OutcomeCase here from txn commits step → weight_sent step.sends < 1
  outcome-light txn commits (outcomes.not_its_site isnt) = omega arith
  outcome-light txn commits (outcomes.known_already is) = omega arith
  outcome-light txn commits (outcomes.no_room news needed full) = omega arith
  outcome-light txn commits (outcomes.learns news needed room) = omega arith
  outcome-light txn commits (outcomes.nothing_to_do news needless is) = omega arith
  outcome-light txn commits (outcomes.releases news needless is) = omega arith

  ask-light : (txn : TxnId) {step : Step} → outcomes.AskCase here from txn step → weight_sent step.sends < 17
  ask-light txn (outcomes.not_issued isnt) = omega arith
  ask-light txn (outcomes.has_committed issued is) = omega arith
  ask-light txn (outcomes.still_works issued isnt works) = omega arith
  ask-light txn (outcomes.will_not_commit issued isnt works) = omega arith

  -- What a site sends on a message weighs less than the message.
  pub message-light : (message : Message) → weight_sent (step_on here (receive from message)).sends < weight message
  message-light (lock txn wants) = lock-light txn wants (lock-case here from txn wants)
  message-light (granted txn grant values) = granted-light txn grant values (granted-case here from txn grant values)
  message-light (denied txn item holder) = denied-light txn item holder (denied-case here from txn item holder)
  message-light (prepare txn grant writes) = prepare-light txn grant writes (prepare-case here from txn grant writes)
  message-light (vote_yes txn) = yes-light txn (yes-case here from txn)
  message-light (vote_no txn cause) = no-light txn cause (no-case here from txn cause)
  message-light (outcome_reported txn commits) = outcome-light txn commits (outcome-case here from txn commits)
  message-light (ask txn) = ask-light txn (ask-case here from txn)
