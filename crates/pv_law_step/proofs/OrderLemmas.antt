-- What a site has in memory stays in order.
use Rattle.std.proofs.Common.{◌≡◌, ℕ, Bool, true, false, List, [], ◌∷◌, map, refl, sym, ap, subst, ◌+◌}
use Rattle.std.specs.Prelude.{nat_lt, not, if◌then◌else◌}
use Rattle.std.specs.List.{Contains, filter}
use Rattle.pv_base.proofs.AssignmentLemmas.{same-eq}
use Rattle.pv_base.proofs.MapLemmas.{Contains-map, Contains-unmap, map-map}
use Rattle.pv_base.specs.declared.grant.GrantId.{GrantId}
use Rattle.pv_base.specs.declared.limits.TheConstants.{TICKS}
use Rattle.pv_base.specs.declared.txn.TxnId.{TxnId}
use Rattle.pv_base.specs.Assignment.{AreAscending, is_same_txn, precedes}
use Rattle.pv_base.specs.Named.{with_txn}
use Rattle.pv_base.specs.Want.{Want}
use Rattle.pv_format.specs.Message.{Message, lock, granted, denied, prepare, vote_yes, vote_no, outcome_reported, ask, NoCause}
use Rattle.pv_law_canonical.proofs.FilterLemmas.{kept-listed}
use Rattle.pv_law_polyvalues.proofs.AscendingLemmas.{ascending-cons, ascending-first, ascending-tail}
use Rattle.pv_law_step.proofs.NameLists.{inserted}
use Rattle.pv_law_step.proofs.ShownLemmas.{none-ascend}
use Rattle.pv_law_step.proofs.StepCases.{if_case, submit-case, lock-case, granted-case, denied-case, prepare-case, yes-case, no-case, outcome-case, ask-case}
use Rattle.pv_law_step.specs.GrantCases as of_grants
use Rattle.pv_law_step.specs.LockCases as of_locks
use Rattle.pv_law_step.specs.OutcomeCases as of_outcomes
use Rattle.pv_law_step.specs.VoteCases as of_votes
use Rattle.pv_model.specs.Alternatives.{Read}
use Rattle.pv_model.specs.Syntax.{Program}
use Rattle.pv_protocol.specs.Here.{Here}
use Rattle.pv_protocol.specs.Keyed.{AreInOrder, with_one, without}
use Rattle.pv_protocol.specs.Sound.{IsInOrder}
use Rattle.pv_protocol.specs.State.{Grant, Entry, Input, submit, receive, tick, Step}
use Rattle.pv_protocol.specs.Step.{on_message, step_on}
use Rattle.pv_protocol.specs.Tick.{older_grants, older_entries, on_tick}

module _ {X : Type 0} (txn_of : X → TxnId) where
  put-by : (a b : Bool) (x first : X) (rest put : List X) → is_same_txn (txn_of x) (txn_of first) ≡ a → map txn_of put ≡ with_txn (txn_of x) (map txn_of rest)
      → map txn_of (if a then x ∷ rest else (if b then x ∷ (first ∷ rest) else first ∷ put))
      ≡ (if a then txn_of first ∷ map txn_of rest else (if b then txn_of x ∷ (txn_of first ∷ map txn_of rest) else txn_of first ∷ with_txn (txn_of x) (map txn_of rest)))
  put-by true b x first rest put same later = ap (λ t. t ∷ map txn_of rest) (same-eq {t = txn_of x} {u = txn_of first} same)
  put-by false true x first rest put apart later = refl
  put-by false false x first rest put apart later = ap (λ ts. txn_of first ∷ ts) later

  -- What is put in puts its transaction in.
  put-txns : (x : X) (xs : List X) → map txn_of (with_one txn_of x xs) ≡ with_txn (txn_of x) (map txn_of xs)
  put-txns x [] = refl
  put-txns x (first ∷ rest) =
      put-by (is_same_txn (txn_of x) (txn_of first)) (precedes (txn_of x) (txn_of first)) x first rest (with_one txn_of x rest) refl (put-txns x rest)

  pub put-order : (x : X) (xs : List X) → AreInOrder txn_of xs → AreInOrder txn_of (with_one txn_of x xs)
  put-order x xs up = subst AreAscending (sym (put-txns x xs)) (inserted (txn_of x) (map txn_of xs) up).ascending

  filtered-listed : (p : X → Bool) (xs : List X) (t : TxnId) → Contains (map txn_of (filter p xs)) t → Contains (map txn_of xs) t
  filtered-listed p xs t h =
      let found = Contains-unmap txn_of (filter p xs) t h in
      subst (Contains (map txn_of xs)) found.1.1 (Contains-map txn_of xs found.0 (kept-listed p xs found.0 found.1.0))

  pub filter-order : (p : X → Bool) (xs : List X) → AreInOrder txn_of xs → AreInOrder txn_of (filter p xs)
  filter-order p [] up = none-ascend
  filter-order p (x ∷ xs) up =
      let rest = filter-order p xs (ascending-tail (txn_of x) (map txn_of xs) up) in
      if_case (AreInOrder txn_of) (p x)
      (λ passes. ascending-cons (txn_of x) (map txn_of (filter p xs)) (λ t h. ascending-first (txn_of x) (map txn_of xs) up t (filtered-listed p xs t h)) rest)
      (λ fails. rest)

put-grant : (grant : Grant) (grants : List Grant) → AreInOrder (λ (g : Grant). g.txn) grants → AreInOrder (λ (g : Grant). g.txn) (with_one (λ (g : Grant). g.txn) grant grants)
put-grant grant grants up = put-order (λ (g : Grant). g.txn) grant grants up

put-entry : (entry : Entry) (entries : List Entry) → AreInOrder (λ (e : Entry). e.txn) entries → AreInOrder (λ (e : Entry). e.txn) (with_one (λ (e : Entry). e.txn) entry entries)
put-entry entry entries up = put-order (λ (e : Entry). e.txn) entry entries up

drop-grant : (txn : TxnId) (grants : List Grant) → AreInOrder (λ (g : Grant). g.txn) grants → AreInOrder (λ (g : Grant). g.txn) (without (λ (g : Grant). g.txn) txn grants)
drop-grant txn grants up = filter-order (λ (g : Grant). g.txn) (λ (g : Grant). not (is_same_txn txn g.txn)) grants up

drop-entry : (txn : TxnId) (entries : List Entry) → AreInOrder (λ (e : Entry). e.txn) entries → AreInOrder (λ (e : Entry). e.txn) (without (λ (e : Entry). e.txn) txn entries)
drop-entry txn entries up = filter-order (λ (e : Entry). e.txn) (λ (e : Entry). not (is_same_txn txn e.txn)) entries up

module _ (here : Here) (order : IsInOrder here.running) where
  submit-order : (program : Program) (step : Step) → of_locks.SubmitCase here program step → IsInOrder step.running
  submit-order program step (of_locks.no_number_left h) = order
  submit-order program step (of_locks.begins h) = record { grants = order.grants; entries = put-entry _ here.running.entries order.entries }

  lock-order : (from : ℕ) (txn : TxnId) (wants : List Want) (step : Step) → of_locks.LockCase here from txn wants step → IsInOrder step.running
  lock-order from txn wants step (of_locks.ignored h) = order
  lock-order from txn wants step (of_locks.granted_again grant h i j) = order
  lock-order from txn wants step (of_locks.misfits grant h i j) = order
  lock-order from txn wants step (of_locks.denies conflict h i j) = order
  lock-order from txn wants step (of_locks.no_grant_left h i) = order
  lock-order from txn wants step (of_locks.grants h i) = record { grants = put-grant _ here.running.grants order.grants; entries = order.entries }

  granted-order : (from : ℕ) (txn : TxnId) (grant : GrantId) (values : List Read) (step : Step) → of_grants.GrantedCase here from txn grant values step → IsInOrder step.running
  granted-order from txn grant values step (of_grants.no_entry h) = order
  granted-order from txn grant values step (of_grants.ignored entry h i) = order
  granted-order from txn grant values step (of_grants.waits entry h i) = record { grants = order.grants; entries = put-entry _ here.running.entries order.entries }
  granted-order from txn grant values step (of_grants.too_wide entry h i) = record { grants = order.grants; entries = drop-entry _ here.running.entries order.entries }
  granted-order from txn grant values step (of_grants.in_doubt entry least h i doubt) = record { grants = order.grants; entries = drop-entry _ here.running.entries order.entries }
  granted-order from txn grant values step (of_grants.reaches_lock_point entry h i certain) = record { grants = order.grants; entries = put-entry _ here.running.entries order.entries }

  denied-order : (from : ℕ) (txn : TxnId) (item : ℕ) (holder : TxnId) (step : Step) → of_grants.DeniedCase here from txn item holder step → IsInOrder step.running
  denied-order from txn item holder step (of_grants.no_entry h) = order
  denied-order from txn item holder step (of_grants.ignored entry h i) = order
  denied-order from txn item holder step (of_grants.refuses entry h i) = record { grants = order.grants; entries = drop-entry _ here.running.entries order.entries }

  prepare-order : (from : ℕ) (txn : TxnId) (grant : GrantId) (writes : List Read) (step : Step) → of_votes.PrepareCase here from txn grant writes step → IsInOrder step.running
  prepare-order from txn grant writes step (of_votes.not_its_site h) = order
  prepare-order from txn grant writes step (of_votes.again h i) = order
  prepare-order from txn grant writes step (of_votes.none_stands h i) = order
  prepare-order from txn grant writes step (of_votes.other_stands standing h i j) = order
  prepare-order from txn grant writes step (of_votes.ignored standing h i j) = order
  prepare-order from txn grant writes step (of_votes.no_room standing h i j k) = order
  prepare-order from txn grant writes step (of_votes.promises standing h i j k) = record { grants = put-grant _ here.running.grants order.grants; entries = order.entries }

  yes-order : (from : ℕ) (txn : TxnId) (step : Step) → of_votes.YesCase here from txn step → IsInOrder step.running
  yes-order from txn step (of_votes.no_entry h) = order
  yes-order from txn step (of_votes.ignored entry h i) = order
  yes-order from txn step (of_votes.waits entry h i) = record { grants = order.grants; entries = put-entry _ here.running.entries order.entries }
  yes-order from txn step (of_votes.no_room entry h i j) = record { grants = order.grants; entries = drop-entry _ here.running.entries order.entries }
  yes-order from txn step (of_votes.commits entry h i j) = record { grants = drop-grant _ here.running.grants order.grants; entries = drop-entry _ here.running.entries order.entries }

  no-order : (from : ℕ) (txn : TxnId) (cause : NoCause) (step : Step) → of_votes.NoCase here from txn cause step → IsInOrder step.running
  no-order from txn cause step (of_votes.no_entry h) = order
  no-order from txn cause step (of_votes.ignored entry h i) = order
  no-order from txn cause step (of_votes.refuses entry h) = record { grants = order.grants; entries = drop-entry _ here.running.entries order.entries }

  outcome-order : (from : ℕ) (txn : TxnId) (commits : Bool) (step : Step) → of_outcomes.OutcomeCase here from txn commits step → IsInOrder step.running
  outcome-order from txn commits step (of_outcomes.not_its_site h) = order
  outcome-order from txn commits step (of_outcomes.known_already h) = order
  outcome-order from txn commits step (of_outcomes.no_room h i j) = order
  outcome-order from txn commits step (of_outcomes.learns h i j) = record { grants = drop-grant _ here.running.grants order.grants; entries = order.entries }
  outcome-order from txn commits step (of_outcomes.nothing_to_do h i j) = order
  outcome-order from txn commits step (of_outcomes.releases h i j) = record { grants = drop-grant _ here.running.grants order.grants; entries = order.entries }

  ask-order : (from : ℕ) (txn : TxnId) (step : Step) → of_outcomes.AskCase here from txn step → IsInOrder step.running
  ask-order from txn step (of_outcomes.not_issued h) = order
  ask-order from txn step (of_outcomes.has_committed h i) = order
  ask-order from txn step (of_outcomes.still_works h i j) = order
  ask-order from txn step (of_outcomes.will_not_commit h i j) = order

  older-grants-order : AreInOrder (λ (g : Grant). g.txn) (older_grants here.running.grants)
  older-grants-order = subst AreAscending (sym (map-map (λ (g : Grant). g.txn) (λ (g : Grant). record g { age = g.age + 1 }) here.running.grants)) order.grants

  older-entries-order : AreInOrder (λ (e : Entry). e.txn) (older_entries here.running.entries)
  older-entries-order = subst AreAscending (sym (map-map (λ (e : Entry). e.txn) (λ (e : Entry). record e { age = e.age + 1 }) here.running.entries)) order.entries

  tick-order : IsInOrder (on_tick here).running
  unfolding on_tick
  tick-order = record {
    grants = filter-order (λ (g : Grant). g.txn) (λ (g : Grant). nat_lt g.age TICKS) (older_grants here.running.grants) older-grants-order;
    entries = filter-order (λ (e : Entry). e.txn) (λ (e : Entry). nat_lt e.age TICKS) (older_entries here.running.entries) older-entries-order;
  }

  message-order : (from : ℕ) (message : Message) → IsInOrder (on_message here from message).running
  message-order from (lock txn wants) = lock-order from txn wants _ (lock-case here from txn wants)
  message-order from (granted txn grant values) = granted-order from txn grant values _ (granted-case here from txn grant values)
  message-order from (denied txn item holder) = denied-order from txn item holder _ (denied-case here from txn item holder)
  message-order from (prepare txn grant writes) = prepare-order from txn grant writes _ (prepare-case here from txn grant writes)
  message-order from (vote_yes txn) = yes-order from txn _ (yes-case here from txn)
  message-order from (vote_no txn cause) = no-order from txn cause _ (no-case here from txn cause)
  message-order from (outcome_reported txn commits) = outcome-order from txn commits _ (outcome-case here from txn commits)
  message-order from (ask txn) = ask-order from txn _ (ask-case here from txn)

  pub stays-in-order : (input : Input) → IsInOrder (step_on here input).running
  stays-in-order (submit program) = submit-order program _ (submit-case here program)
  stays-in-order (receive from message) = message-order from message
  stays-in-order tick = tick-order
