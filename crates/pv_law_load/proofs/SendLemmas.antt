-- How many messages a step sends at most.
use Rattle.std.proofs.lemmas.List.{length-map}
use Rattle.std.proofs.Common.{◌≡◌, ℕ, suc, ◌+◌, ◌*◌, ◌<◌, ◌≤◌, Bool, false, List, [], ◌∷◌, ◌++◌, length, filter, length-append, arith}
use Rattle.std.specs.Prelude.{◌==◌, All}
use Rattle.pv_base.specs.Assignment.{is_same_txn, precedes}
use Rattle.pv_base.specs.Catalog.{Item, Declared}
use Rattle.pv_base.specs.Named.{names_of, with_txn, with_txns}
use Rattle.pv_base.specs.declared.limits.TheConstants.{HELD_NAMES, MAX_ITEMS}
use Rattle.pv_base.specs.declared.txn.TxnId.{TxnId}
use Rattle.pv_format.specs.Message.{Message, lock, granted, denied, prepare, vote_yes, vote_no, outcome_reported, ask}
use Rattle.pv_format.specs.Record.{Record}
use Rattle.pv_law_step.proofs.HomeLemmas.{items-home}
use Rattle.pv_law_step.proofs.Lists.{all-from, all-head, all-tail}
use Rattle.pv_law_step.proofs.StepCases.{if_case, submit-case}
use Rattle.pv_law_step.proofs.WidthLemmas.{narrow-now}
use Rattle.pv_law_step.specs.LockCases as of_locks
use Rattle.pv_law_world.proofs.ParticipantLemmas.{few-participants}
use Rattle.pv_law_world.proofs.WeightLemmas.{weight_sent, message-light}
use Rattle.pv_law_world.specs.Pumps.{HasFewSites}
use Rattle.pv_model.specs.Plan.{part_of, participants_of, plan_of}
use Rattle.pv_model.specs.Syntax.{Program}
use Rattle.pv_protocol.specs.Here.{Here, outcome_sends, participants}
use Rattle.pv_protocol.specs.Lock.{beginning, lock_sends, next_txn}
use Rattle.pv_protocol.specs.Outcome.{items_from, items_here, names_shown, named_here}
use Rattle.pv_protocol.specs.Pump.{weight}
use Rattle.pv_protocol.specs.Shown.{shown}
use Rattle.pv_protocol.specs.State.{Entry, Input, submit, receive, tick, Outgoing, Step}
use Rattle.pv_protocol.specs.Step.{step_on}
use Rattle.pv_protocol.specs.Tick.{on_tick, ask_sends, expired_entries, expiry_sends, older, older_entries, ungranted}
use Rattle.pv_protocol.specs.Width.{IsNarrow}

filter-few : {X : Type 0} (test : X → Bool) (xs : List X) → length (filter test xs) ≤ length xs
filter-few test [] = omega arith
filter-few {X} test (x ∷ xs) =
    let more : length (filter test xs) ≤ length xs = filter-few test xs in
    if_case (λ (all : List X). length all ≤ suc (length xs)) (test x) (λ kept. omega arith) (λ left. omega arith)

-- ## Messages
weight-some : (message : Message) → 1 ≤ weight message
weight-some (lock txn wants) = omega arith
weight-some (granted txn grant values) = omega arith
weight-some (denied txn item holder) = omega arith
weight-some (prepare txn grant writes) = omega arith
weight-some (vote_yes txn) = omega arith
weight-some (vote_no txn cause) = omega arith
weight-some (outcome_reported txn commits) = omega arith
weight-some (ask txn) = omega arith

weight-bound : (message : Message) → weight message ≤ 83521
weight-bound (lock txn wants) = omega arith
weight-bound (granted txn grant values) = omega arith
weight-bound (denied txn item holder) = omega arith
weight-bound (prepare txn grant writes) = omega arith
weight-bound (vote_yes txn) = omega arith
weight-bound (vote_no txn cause) = omega arith
weight-bound (outcome_reported txn commits) = omega arith
weight-bound (ask txn) = omega arith

-- No message weighs nothing.
weight-counts : (sends : List Outgoing) → length sends ≤ weight_sent sends
weight-counts [] = omega arith
weight-counts (first ∷ sends) =
    let one : 1 ≤ weight first.message = weight-some first.message in
    let more : length sends ≤ weight_sent sends = weight-counts sends in omega arith

-- ## Names
with_txn-few : (txn : TxnId) (txns : List TxnId) → length (with_txn txn txns) ≤ suc (length txns)
with_txn-few txn [] = omega arith
with_txn-few txn (first ∷ rest) =
    let more : length (with_txn txn rest) ≤ suc (length rest) = with_txn-few txn rest in
    if_case (λ (all : List TxnId). length all ≤ suc (suc (length rest))) (is_same_txn txn first) (λ same. omega arith)
    (λ other. if_case (λ (all : List TxnId). length all ≤ suc (suc (length rest))) (precedes txn first) (λ before. omega arith) (λ behind. omega arith))

with_txns-few : (more txns : List TxnId) → length (with_txns more txns) ≤ length more + length txns
with_txns-few [] txns = omega arith
with_txns-few (first ∷ more) txns =
    let rest : length (with_txns more txns) ≤ length more + length txns = with_txns-few more txns in
    let one : length (with_txn first (with_txns more txns)) ≤ suc (length (with_txns more txns)) = with_txn-few first (with_txns more txns) in omega arith

module _ (catalog : Declared) (records : List Record) where
  abbrev AreFew : ℕ → Type 0
  AreFew item = length (names_of (shown catalog records item)) ≤ HELD_NAMES

  shown-few : (items : List ℕ) → All AreFew items → length (names_shown catalog records items) ≤ 60 * length items
  shown-few [] few = omega arith
  shown-few (item ∷ items) few =
      let one : length (names_of (shown catalog records item)) ≤ 60 = let held = all-head AreFew item items few in omega (arith, held) in
      let rest : length (names_shown catalog records items) ≤ 60 * length items = shown-few items (all-tail AreFew item items few) in
      let both : length (with_txns (names_of (shown catalog records item)) (names_shown catalog records items))
      ≤ length (names_of (shown catalog records item)) + length (names_shown catalog records items) =
      with_txns-few (names_of (shown catalog records item)) (names_shown catalog records items) in omega arith

items-few : (site item : ℕ) (items : List Item) → length (items_from site item items) ≤ length items
items-few site item [] = omega arith
items-few site item (declared ∷ items) =
    let rest : length (items_from site (item + 1) items) ≤ length items = items-few site (item + 1) items in
    if_case (λ (all : List ℕ). length all ≤ suc (length items)) (declared.site == site) (λ here. omega arith) (λ there. omega arith)

plan-length : (program : Program) (items : List Item) → length (plan_of program items) ≡ length (participants_of program items)
unfolding plan_of
plan-length program items = length-map (participants_of program items) (part_of program items)

module _ (here : Here) (few : HasFewSites here.setup.catalog) (items : length here.setup.catalog.items ≤ MAX_ITEMS)
    (narrow : IsNarrow HELD_NAMES here.setup.catalog here.me here.records) where
  named-few : length (named_here here) ≤ 61440
  unfolding named_here
  named-few =
      let each : All (AreFew here.setup.catalog here.records) (items_here here) =
      all-from (AreFew here.setup.catalog here.records) (items_here here)
      (λ n within. narrow-now HELD_NAMES here.setup.catalog here.me here.records narrow n (items-home here n within)) in
      let all : length (names_shown here.setup.catalog here.records (items_here here)) ≤ 60 * length (items_here here) =
      shown-few here.setup.catalog here.records (items_here here) each in
      let count : length (items_here here) ≤ length here.setup.catalog.items = items-few here.me 0 here.setup.catalog.items in
      let most : length here.setup.catalog.items ≤ 1024 = items in omega arith

  outcomes-few : (entry : Entry) (commits : Bool) → length (outcome_sends entry.txn commits (participants here entry)) ≤ 16
  outcomes-few entry commits =
      let all : length (participants here entry) ≤ 16 = few-participants here.setup.catalog entry.program few in
      let same : length (outcome_sends entry.txn commits (participants here entry)) ≡ length (participants here entry) = length-map (participants here entry) _ in omega arith

  expiry-few : (entries : List Entry) → length (expiry_sends here entries) ≤ 16 * length entries
  expiry-few [] = omega arith
  expiry-few (entry ∷ entries) =
      let one : length (outcome_sends entry.txn false (participants here entry)) ≤ 16 = outcomes-few entry false in
      let rest : length (expiry_sends here entries) ≤ 16 * length entries = expiry-few entries in
      let both : length (expiry_sends here (entry ∷ entries)) ≡ length (outcome_sends entry.txn false (participants here entry)) + length (expiry_sends here entries) =
      length-append (outcome_sends entry.txn false (participants here entry)) (expiry_sends here entries) in omega arith

  tick-few : length (on_tick here).sends ≤ 16 * length here.running.entries + 61440
  unfolding on_tick
  tick-few =
      let entries = here.running.entries in
      let expired = expired_entries (older_entries entries) in
      let asked = ungranted (older here.running) (named_here here) in
      let fewer : length expired ≤ length (older_entries entries) = filter-few _ (older_entries entries) in
      let same : length (older_entries entries) ≡ length entries = length-map entries (λ (entry : Entry). record entry { age = entry.age + 1 }) in
      let refused : length (expiry_sends here expired) ≤ 16 * length expired = expiry-few expired in
      let names : length asked ≤ length (named_here here) = filter-few _ (named_here here) in
      let named : length (named_here here) ≤ 61440 = named-few in
      let each : length (ask_sends asked) ≡ length asked = length-map asked (λ txn. record { to = txn.site.0; message = ask txn }) in
      let both : length (expiry_sends here expired ++ ask_sends asked) ≡ length (expiry_sends here expired) + length (ask_sends asked) =
      length-append (expiry_sends here expired) (ask_sends asked) in omega arith

  begins-few : (program : Program) → length (beginning here program (next_txn here)).sends ≤ 16
  begins-few program =
      let parts = plan_of program here.setup.catalog.items in
      let all : length (participants_of program here.setup.catalog.items) ≤ 16 = few-participants here.setup.catalog program few in
      let count : length parts ≡ length (participants_of program here.setup.catalog.items) = plan-length program here.setup.catalog.items in
      let same : length (lock_sends (next_txn here) parts) ≡ length parts = length-map parts _ in omega arith

  submit-few : (program : Program) (step : Step) → of_locks.SubmitCase here program step → length step.sends ≤ 16
  submit-few program step (of_locks.no_number_left is) = omega arith
  submit-few program step (of_locks.begins is) = begins-few program

  pub sends-few : (input : Input) → length (step_on here input).sends ≤ 16 * length here.running.entries + 100000
  sends-few (submit program) = let few : length (step_on here (submit program)).sends ≤ 16 = submit-few program _ (submit-case here program) in omega arith
  sends-few (receive from message) =
      let sends = (step_on here (receive from message)).sends in
      let count : length sends ≤ weight_sent sends = weight-counts sends in
      let light : weight_sent sends < weight message = message-light here few from message in
      let bound : weight message ≤ 83521 = weight-bound message in omega arith
  sends-few tick = let few : length (step_on here tick).sends ≤ 16 * length here.running.entries + 61440 = tick-few in omega arith
