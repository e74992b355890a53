-- What a site makes of outcomes, of questions for them, and of ticks is some acts.
use Rattle.std.proofs.Common.{◌≡◌, ⊎_elim, ℕ, ◌<◌, Bool, true, false, Some, None, Option, List, [], ◌∷◌, ◌++◌, length, inl, inr, refl, sym, ap, subst, ◌∙◌}
use Rattle.std.specs.Prelude.{◌≢◌, ◌==◌, nat_lt, is_some, if◌then◌else◌}
use Rattle.std.specs.List.{Contains, list_any}
use Rattle.std.proofs.lemmas.Bool.{and_parts, eqb-true, ltb-true, or_cases, false≢true, false_from_ne_true}
use Rattle.std.proofs.lemmas.List.{append-nil}
use Rattle.std.proofs.lemmas.List.Elements.{All-contains, Contains-append_cases}
use Rattle.pv_base.proofs.AssignmentLemmas.{same-refl}
use Rattle.pv_base.proofs.ContainsLemmas.{Contains-nil, Contains-cases}
use Rattle.pv_base.proofs.MapLemmas.{Contains-unmap}
use Rattle.pv_base.specs.Assignment.{is_same_txn}
use Rattle.pv_base.specs.declared.txn.TxnId.{TxnId}
use Rattle.pv_format.specs.Message.{outcome_reported, ask}
use Rattle.pv_format.specs.Record.{Record, epoch_begun, prepared, outcome_known}
use Rattle.pv_law_acts.proofs.PassedLemmas.{passed-later}
use Rattle.pv_law_acts.proofs.RecordLemmas.{known-listed, listed-yes, yes-listed}
use Rattle.pv_law_acts.specs.Acts as acts
use Rattle.pv_law_acts.specs.Acts.{recorded, Act, Acts}
use Rattle.pv_law_acts.specs.Guards.{MaySend}
use Rattle.pv_law_acts.specs.Seen.{records_at, memory_at, ageless_entry, work_in, WorksAgeless, Sent, IsPassed, IsNumberPassed, next_txn_in}
use Rattle.pv_law_events.proofs.FoundLemmas.{released-no-more, older-no-more, expired-was}
use Rattle.pv_law_events.proofs.StepActs.{IsReady, here_at, IsActs, one-act, nothing-sent, then-forget, then-down, within, unmoved, plain-acts, idle-acts, sending-acts, dropped-dead}
use Rattle.pv_law_events.proofs.WorldLemmas.{At, at-records, at-memory}
use Rattle.pv_law_step.proofs.Lists.{all-flat, all-from}
use Rattle.pv_law_step.proofs.StepCases.{outcome-case, ask-case}
use Rattle.pv_law_step.specs.OutcomeCases as of_outcomes
use Rattle.pv_law_step.specs.OutcomeCases.{OutcomeCase, AskCase}
use Rattle.pv_protocol.specs.Committed.{home_of, is_committed, says_yes}
use Rattle.pv_protocol.specs.Here.{without_grant, outcome_sends, participants}
use Rattle.pv_protocol.specs.Keyed.{of_txn}
use Rattle.pv_protocol.specs.Outcome.{on_outcome, learning, on_ask, is_issued, works_on, named_here}
use Rattle.pv_protocol.specs.Records.{known, is_undecided}
use Rattle.pv_protocol.specs.State.{Setup, Entry, Running, Outgoing, Step}
use Rattle.pv_protocol.specs.Tick.{on_tick, older, older_entries, expired_entries, expiry_sends, ask_sends, ungranted}
use Rattle.pv_protocol.specs.World.{World}

-- An outcome that is recorded is known, or another one is.

known-here : (b : Bool) (commits : Bool) (rest : Option Bool) → b ≡ true → (outcome : Bool) × ((if b then Some commits else rest) ≡ Some outcome)
known-here true commits rest is = (commits, refl)
known-here false commits rest is = absurd (false≢true is)

known-there : (b : Bool) (commits : Bool) (rest : Option Bool) → ((outcome : Bool) × (rest ≡ Some outcome)) → (outcome : Bool) × ((if b then Some commits else rest) ≡ Some outcome)
known-there true commits rest later = (commits, refl)
known-there false commits rest later = later

is-first : (first : Record) (records : List Record) (txn : TxnId) (commits : Bool) → first ≡ outcome_known txn commits → (outcome : Bool) × (known (first ∷ records) txn ≡ Some outcome)
is-first first records txn commits is =
    subst (λ (r : Record). (outcome : Bool) × (known (r ∷ records) txn ≡ Some outcome)) (sym is)
    (known-here (is_same_txn txn txn) commits (known records txn) (same-refl txn))

is-behind : (first : Record) (records : List Record) (txn : TxnId) → ((outcome : Bool) × (known records txn ≡ Some outcome)) → (outcome : Bool) × (known (first ∷ records) txn ≡ Some outcome)
is-behind (outcome_known decided commits) records txn later = known-there (is_same_txn txn decided) commits (known records txn) later
is-behind (epoch_begun epoch) records txn later = later
is-behind (prepared promised writes) records txn later = later

listed-known : (records : List Record) (txn : TxnId) (commits : Bool) → Contains records (outcome_known txn commits) → (outcome : Bool) × (known records txn ≡ Some outcome)
listed-known [] txn commits h = absurd (Contains-nil _ h)
listed-known (first ∷ records) txn commits h =
    ⊎_elim (λ here. is-first first records txn commits here) (λ behind. is-behind first records txn (listed-known records txn commits behind))
    (Contains-cases first records (outcome_known txn commits) h)

none-works : (found : Option Entry) → is_some found ≡ false → ageless_entry found ≡ None
none-works None is = refl
none-works (Some entry) is = absurd (false≢true (sym is))

module _ (setup : Setup) (w : World) (n : ℕ) (running : Running) (ready : IsReady setup w n running) where
  there : n < length w.sites
  there = within setup w n running ready

  -- Outcomes.

  learn-acts : (txn : TxnId) (commits : Bool) → Sent w (home_of txn) n (outcome_reported txn commits) → (unknown : is_undecided (records_at w n) txn ≡ true)
      → IsActs setup w n (learning (here_at setup w n running) txn commits)
  learn-acts txn commits reported unknown =
      let more : Record = outcome_known txn commits in
      let records : List Record = records_at w n ++ more ∷ [] in
      let so_far : Acts setup w (At w n records (Some running) w.order) =
      one-act setup w n (recorded w n more (Some running)) (acts.learns n running txn commits ready.up (record { reported = reported; unknown = unknown })) in
      record {
        records = records;
        order = w.order;
        appends = refl;
        places = sym (append-nil w.order);
        acts = then-forget setup w n there records (Some running) w.order (Some (without_grant running txn)) so_far (released-no-more running txn);
        sends = nothing-sent setup w n (At w n records (Some (without_grant running txn)) w.order);
        stops = λ other is. then-down setup w n there records (Some running) w.order so_far;
      }

  outcome-acts : (from : ℕ) (txn : TxnId) (commits : Bool) → Sent w from n (outcome_reported txn commits) → (step : Step)
      → OutcomeCase (here_at setup w n running) from txn commits step → IsActs setup w n step
  outcome-acts from txn commits reported step (of_outcomes.not_its_site h) = idle-acts setup w n running ready []
  outcome-acts from txn commits reported step (of_outcomes.known_already h) = idle-acts setup w n running ready []
  outcome-acts from txn commits reported step (of_outcomes.no_room news needed h) = idle-acts setup w n running ready _
  outcome-acts from txn commits reported step (of_outcomes.learns news needed room) =
      learn-acts txn commits (subst (λ m. Sent w m n (outcome_reported txn commits)) (eqb-true from txn.site.0 news.own) reported) news.unknown
  outcome-acts from txn commits reported step (of_outcomes.nothing_to_do news needless is) = idle-acts setup w n running ready []
  outcome-acts from txn commits reported step (of_outcomes.releases news needless is) =
      plain-acts setup w n running ready (without_grant running txn) [] [] (released-no-more running txn)
      (nothing-sent setup w n (At w n (records_at w n) (Some (without_grant running txn)) w.order))

  pub on-outcome-acts : (from : ℕ) (txn : TxnId) (commits : Bool) → Sent w from n (outcome_reported txn commits)
      → IsActs setup w n (on_outcome (here_at setup w n running) from txn commits)
  on-outcome-acts from txn commits reported = outcome-acts from txn commits reported _ (outcome-case (here_at setup w n running) from txn commits)

  -- Questions.

  module _ (txn : TxnId) (issued : is_issued (here_at setup w n running) txn ≡ true) where
    home : n ≡ home_of txn
    home = eqb-true n txn.site.0 (and_parts (n == txn.site.0) _ issued).0

    -- its number is passed
    given : IsPassed w txn
    given =
        subst (λ m. IsNumberPassed (records_at w m) (next_txn_in (memory_at w m)) txn.epoch txn.number) home
        (subst (λ memory. IsNumberPassed (records_at w n) (next_txn_in memory) txn.epoch txn.number) (sym ready.up)
        (⊎_elim
        (λ over. inl (subst (λ e. txn.epoch < e) ready.recorded (ltb-true txn.epoch running.epoch over)))
        (λ now.
        let parts = and_parts (txn.epoch == running.epoch) (nat_lt txn.number running.next_txn) now in
        inr (eqb-true txn.epoch running.epoch parts.0 ∙ ready.recorded, ltb-true txn.number running.next_txn parts.1))
        (or_cases (nat_lt txn.epoch running.epoch) _ (and_parts (n == txn.site.0) _ issued).1)))

    abbrev V : World
    V = At w n (records_at w n) (Some running) w.order

    v-records : records_at V (home_of txn) ≡ records_at w n
    v-records = ap (records_at V) (sym home) ∙ at-records w n there (records_at w n) (Some running) w.order

    uncommitted : known (records_at w n) txn ≢ Some true → is_committed w txn ≡ false
    uncommitted unknown = false_from_ne_true (is_committed w txn) (λ is.
        let listed : Contains (records_at w n) (outcome_known txn true) = subst (λ m. Contains (records_at w m) (outcome_known txn true)) (sym home) (yes-listed (records_at w (home_of txn)) txn is) in
        by is (listed-known (records_at w n) txn true listed).0 (listed-known (records_at w n) txn true listed).1) where
          by : is_committed w txn ≡ true → (outcome : Bool) → known (records_at w n) txn ≡ Some outcome → ⊥
          by is true knows = unknown knows
          by is false knows = false≢true (sym (ready.settled.decided.known n txn false (known-listed (records_at w n) txn false knows)).uncommitted ∙ is)

    yes-reported : (from : ℕ) → known (records_at w n) txn ≡ Some true → MaySend setup V n from (outcome_reported txn true)
    yes-reported from knows = record {
      home = home;
      outcome = subst (λ records. list_any (says_yes txn) records ≡ true) (sym v-records)
          (listed-yes (records_at w n) txn (known-listed (records_at w n) txn true knows));
    }

    no-reported : (from : ℕ) → known (records_at w n) txn ≢ Some true → works_on running txn ≡ false → MaySend setup V n from (outcome_reported txn false)
    no-reported from unknown idle = record {
      home = home;
      outcome = record {
        passed = passed-later setup txn w V (unmoved setup w n running ready) given;
        idle = subst (λ m. work_in (memory_at V m) txn ≡ None) home
            (subst (λ memory. work_in memory txn ≡ None) (sym (at-memory w n there (records_at w n) (Some running) w.order))
            (none-works (of_txn (λ (e : Entry). e.txn) txn running.entries) idle));
        uncommitted = subst (λ records. list_any (says_yes txn) records ≡ false) (sym v-records)
            (subst (λ m. list_any (says_yes txn) (records_at w m) ≡ false) (sym home) (uncommitted unknown));
      };
    }

  ask-acts : (from : ℕ) (txn : TxnId) (step : Step) → AskCase (here_at setup w n running) from txn step → IsActs setup w n step
  ask-acts from txn step (of_outcomes.not_issued h) = idle-acts setup w n running ready []
  ask-acts from txn step (of_outcomes.has_committed issued knows) = sending-acts setup w n running ready from (outcome_reported txn true) (yes-reported txn issued from knows)
  ask-acts from txn step (of_outcomes.still_works issued unknown works) = idle-acts setup w n running ready []
  ask-acts from txn step (of_outcomes.will_not_commit issued unknown idle) =
      sending-acts setup w n running ready from (outcome_reported txn false) (no-reported txn issued from unknown idle)

  pub on-ask-acts : (from : ℕ) (txn : TxnId) → IsActs setup w n (on_ask (here_at setup w n running) from txn)
  on-ask-acts from txn = ask-acts from txn _ (ask-case (here_at setup w n running) from txn)

  -- Ticks.

  abbrev Older : World
  Older = At w n (records_at w n) (Some (older running)) w.order

  older-acts : Acts setup w Older
  older-acts =
      then-forget setup w n there (records_at w n) (Some running) w.order (Some (older running)) (unmoved setup w n running ready) (older-no-more running ready.ordered)

  expiry-reported : (late : Entry) → Contains (expired_entries (older_entries running.entries)) late → (sent : Outgoing)
      → Contains (outcome_sends late.txn false (participants (here_at setup w n running) late)) sent → MaySend setup Older n sent.to sent.message
  expiry-reported late h sent k =
      let was = expired-was running ready.ordered late h in
      let works : WorksAgeless w n late.txn (record late { age = 0 }) = subst (λ memory. work_in memory late.txn ≡ Some (record late { age = 0 })) (sym ready.up) was.0 in
      let which = Contains-unmap (λ site. record { to = site; message = outcome_reported late.txn false }) (participants (here_at setup w n running) late) sent k in
      subst (λ (o : Outgoing). MaySend setup Older n o.to o.message) which.1.1
      (record {
        home = sym (ready.settled.sound.passed.entries n late.txn (record late { age = 0 }) works).home;
        outcome = dropped-dead setup w n running ready (older running) late.txn (record late { age = 0 }) works was.1 older-acts;
      })

  pub on-tick-acts : IsActs setup w n (on_tick (here_at setup w n running))
  unfolding on_tick
  on-tick-acts =
      let late : List Entry = expired_entries (older_entries running.entries) in
      let asked : List TxnId = ungranted (older running) (named_here (here_at setup w n running)) in
      plain-acts setup w n running ready (older running) (expiry_sends (here_at setup w n running) late ++ ask_sends asked) _ (older-no-more running ready.ordered)
      (λ sent h. ⊎_elim
      (λ reported. All-contains (λ (o : Outgoing). MaySend setup Older n o.to o.message) (expiry_sends (here_at setup w n running) late) sent
      (all-flat (λ (o : Outgoing). MaySend setup Older n o.to o.message) (λ (e : Entry). outcome_sends e.txn false (participants (here_at setup w n running) e)) late
      (λ e k. all-from (λ (o : Outgoing). MaySend setup Older n o.to o.message) (outcome_sends e.txn false (participants (here_at setup w n running) e)) (expiry-reported e k)))
      reported)
      (λ question.
      let which = Contains-unmap (λ (txn : TxnId). record { to = txn.site.0; message = ask txn }) asked sent question in
      subst (λ (o : Outgoing). MaySend setup Older n o.to o.message) which.1.1 tt)
      (Contains-append_cases (expiry_sends (here_at setup w n running) late) (ask_sends asked) sent h))
