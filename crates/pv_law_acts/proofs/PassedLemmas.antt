-- Every number that is in use is passed, by each step.
use Rattle.std.proofs.Common.{◌≡◌, ◌⊎◌, ⊎_elim, ℕ, zero, suc, Bool, true, false, Some, Option, List, [], ◌∷◌, replicate, inl, inr, refl, sym, subst}
use Rattle.std.specs.Prelude.{nat_lt, ◌==◌, get_or, if◌then◌else◌}
use Rattle.std.specs.List.{Contains}
use Rattle.std.proofs.lemmas.Option.{none-some}
use Rattle.pv_base.proofs.ContainsLemmas.{Contains-first, Contains-behind, Contains-nil, Contains-cases}
use Rattle.pv_base.proofs.MapLemmas.{Contains-unmap}
use Rattle.pv_base.specs.declared.grant.GrantId.{GrantId}
use Rattle.pv_base.specs.declared.txn.TxnId.{TxnId}
use Rattle.pv_format.specs.Message.{Message, lock, granted, denied, prepare, vote_yes, vote_no, outcome_reported, ask}
use Rattle.pv_format.specs.Record.{Record, epoch_begun, prepared, outcome_known}
use Rattle.pv_law_acts.proofs.ListLemmas.{found-listed}
use Rattle.pv_law_acts.proofs.NumberLemmas.{next-unpassed, given-passed}
use Rattle.pv_law_acts.proofs.RecordLemmas.{prepared-listed, yes-listed}
use Rattle.pv_law_acts.proofs.SiteLemmas.{up-within, changed-site}
use Rattle.pv_law_acts.proofs.StepLemmas.{sent-each, records-each, places-each, acts-hold}
use Rattle.pv_law_acts.specs.Acts.{Acts, with_begun, with_granted}
use Rattle.pv_law_acts.specs.Guards.{MaySend, HasOutcome}
use Rattle.pv_law_acts.specs.Passed.{IsEntryPassed, IsMessagePassed, IsRecordPassed, IsPlacePassed, AreNumbersPassed, GivesTxn, gives_txn, GivesGrant, gives_grant}
use Rattle.pv_law_acts.specs.Seen.{records_at, HoldsAgeless, holdings_in, WorksAgeless, work_in, IsPassed, IsGrantPassed, IsNumberPassed, next_txn_in, next_grant_in}
use Rattle.pv_law_acts.specs.Steps.{NewEntry, has_begun, has_taken, is_placed, has_counted, NewGrant, NewRecord, NewPlace, IsStep}
use Rattle.pv_protocol.specs.Committed.{home_of}
use Rattle.pv_protocol.specs.Coordinate.{with_taken}
use Rattle.pv_protocol.specs.State.{Setup, Site, Grant, Taken, Entry, TakenGrant, Placed, Running}
use Rattle.pv_protocol.specs.World.{World, site_at, opening, first_site, no_site}

-- What was taken, with one more.
pub taken-either : (taken : Taken) (all : List Taken) (other : Taken) → Contains (with_taken taken all) other → Contains all other ⊎ (taken ≡ other)
taken-either taken [] other h = ⊎_elim (λ same. inr same) (λ wrong. absurd (Contains-nil other wrong)) (Contains-cases taken [] other h)
taken-either taken (first ∷ rest) other h = by (nat_lt taken.site first.site) (taken-either taken rest other) h where
  by : (b : Bool) → (Contains (with_taken taken rest) other → Contains rest other ⊎ (taken ≡ other))
      → Contains (if b then taken ∷ (first ∷ rest) else first ∷ with_taken taken rest) other → Contains (first ∷ rest) other ⊎ (taken ≡ other)
  by true later h = ⊎_elim (λ same. inr same) (λ behind. inl behind) (Contains-cases taken (first ∷ rest) other h)
  by false later h =
      ⊎_elim
      (λ same. inl (subst (Contains (first ∷ rest)) same (Contains-first first rest)))
      (λ behind. ⊎_elim (λ old. inl (Contains-behind first rest other old)) (λ new. inr new) (later behind))
      (Contains-cases first (with_taken taken rest) other h)

module _ (setup : Setup) (w v : World) (step : IsStep setup w v) (all : AreNumbersPassed w) where
  same-entry : (n : ℕ) (txn : TxnId) (entry : Entry) → IsEntryPassed w n txn entry → IsEntryPassed v n txn entry
  same-entry n txn entry is = record {
    home = is.home;
    own = is.own;
    passed = step.txns txn is.passed;
    taken = λ taken h. step.ids taken.site taken.grant (is.taken taken h);
  }

  new-entry : (n : ℕ) (txn : TxnId) (entry : Entry) → NewEntry setup w v n txn entry → IsEntryPassed v n txn entry
  new-entry n txn entry (has_begun program home unpassed passed runs) =
      record { home = home; own = refl; passed = passed; taken = λ taken h. absurd (Contains-nil taken h) }
  new-entry n txn entry (has_taken old taken works may) =
      let was : IsEntryPassed v n txn old = same-entry n txn old (all.entries n txn old works) in
      record {
        home = was.home;
        own = was.own;
        passed = was.passed;
        taken = λ other h. ⊎_elim
            (λ before. was.taken other before)
            (λ (same : taken ≡ other). subst (λ (t : Taken). IsGrantPassed v t.site t.grant) same
            (step.ids taken.site taken.grant (all.sent taken.site n (granted txn taken.grant taken.values) may.reported).1))
            (taken-either taken old.taken other h);
      }
  new-entry n txn entry (is_placed old works may order) =
      let was : IsEntryPassed v n txn old = same-entry n txn old (all.entries n txn old works) in
      record { home = was.home; own = was.own; passed = was.passed; taken = was.taken }
  new-entry n txn entry (has_counted old from works may) =
      let was : IsEntryPassed v n txn old = same-entry n txn old (all.entries n txn old works) in
      record { home = was.home; own = was.own; passed = was.passed; taken = was.taken }

  old-message : (from to : ℕ) (message : Message) → IsMessagePassed w from to message → IsMessagePassed v from to message
  old-message from to (lock txn wants) is = step.txns txn is
  old-message from to (granted txn id values) is = (step.txns txn is.0, step.ids from id is.1)
  old-message from to (denied txn item holder) is = step.txns txn is
  old-message from to (prepare txn id writes) is = (step.txns txn is.0, step.ids to id is.1)
  old-message from to (vote_yes txn) is = step.txns txn is
  old-message from to (vote_no txn cause) is = step.txns txn is
  old-message from to (outcome_reported txn commits) is = step.txns txn is
  old-message from to (ask txn) is = tt

  outcome-passed : (txn : TxnId) (commits : Bool) → HasOutcome w txn commits → IsPassed w txn
  outcome-passed txn true is = all.records (home_of txn) (outcome_known txn true) (yes-listed (records_at w (home_of txn)) txn is)
  outcome-passed txn false is = is.passed

  new-message : (from to : ℕ) (message : Message) → MaySend setup w from to message → IsMessagePassed w from to message
  new-message from to (lock txn wants) may = (all.entries from txn may.entry may.works).passed
  new-message from to (granted txn id values) may = all.grants from _ may.holds
  new-message from to (denied txn item holder) may = all.sent to from (lock txn may.wants) may.asked
  new-message from to (prepare txn id writes) may =
      let entry : IsEntryPassed w from txn may.entry = all.entries from txn may.entry may.works in
      let taken : Taken = record { site = to; grant = id; values = may.reads } in
      (entry.passed, entry.taken taken (found-listed (λ (t : Taken). t.site == to) may.entry.taken taken may.taken))
  new-message from to (vote_yes txn) may =
      let found = prepared-listed (records_at w from) txn may.prepared in all.records from (prepared txn found.0) found.1
  new-message from to (vote_no txn cause) may = (all.sent to from (prepare txn may.id may.writes) may.asked).0
  new-message from to (outcome_reported txn commits) may = outcome-passed txn commits may.outcome
  new-message from to (ask txn) may = tt

  old-record : (kept : Record) → IsRecordPassed w kept → IsRecordPassed v kept
  old-record (epoch_begun epoch) is = tt
  old-record (prepared txn writes) is = step.txns txn is
  old-record (outcome_known txn commits) is = step.txns txn is

  new-record : (n : ℕ) (kept : Record) → NewRecord setup w v n kept → IsRecordPassed w kept
  new-record n (epoch_begun epoch) new = tt
  new-record n (prepared txn writes) new = (all.sent (home_of txn) n (prepare txn new.id writes) new.may.asked).0
  new-record n (outcome_known txn commits) new =
      ⊎_elim (λ decided. (all.entries n txn decided.entry decided.works).passed) (λ may. all.sent (home_of txn) n (outcome_reported txn commits) may.reported) new

  old-place : (placed : Placed) → IsPlacePassed w placed → IsPlacePassed v placed
  old-place placed is = record { passed = step.txns placed.txn is.passed; taken = λ taken h. step.ids taken.site taken.grant (is.taken taken h) }

  new-place : (placed : Placed) → NewPlace setup w v placed → IsPlacePassed w placed
  new-place placed new =
      let entry : IsEntryPassed w new.n new.txn new.entry = all.entries new.n new.txn new.entry new.works in
      subst (IsPlacePassed w) (sym new.is)
      (record {
        passed = subst (IsPassed w) (sym entry.own) entry.passed;
        taken = λ taken h.
            let found = Contains-unmap (λ (t : Taken). record { site = t.site; grant = t.grant }) new.entry.taken taken h in
            subst (λ (t : TakenGrant). IsGrantPassed w t.site t.grant) found.1.1 (entry.taken found.0 found.1.0);
      })

  pub numbers-passed : AreNumbersPassed v
  numbers-passed = record {
    entries = λ n txn entry works. ⊎_elim (λ old. same-entry n txn entry (all.entries n txn entry old)) (λ new. new-entry n txn entry new) (step.entries n txn entry works);
    grants = λ n grant h. ⊎_elim
        (λ old. let was = all.grants n grant old in (step.txns grant.txn was.0, step.ids n grant.id was.1))
        (λ (new : NewGrant setup w v n grant). (step.txns grant.txn (all.sent (home_of grant.txn) n (lock grant.txn grant.wants) new.asked), new.given))
        (step.grants n grant h);
    records = λ n. records-each setup w v step n (IsRecordPassed v) (λ kept h. old-record kept (all.records n kept h)) (λ kept new. old-record kept (new-record n kept new));
    sent = sent-each setup w v step (IsMessagePassed v) (λ from to message h. old-message from to message (all.sent from to message h))
        (λ from to message may. old-message from to message (new-message from to message may));
    order = places-each setup w v step (IsPlacePassed v) (λ placed h. old-place placed (all.order placed h)) (λ placed new. old-place placed (new-place placed new));
  }

-- Where runs begin.

opened-each : (P : Site → Type 0) → P first_site → P no_site → (count n : ℕ) → P (get_or (replicate count first_site) n no_site)
opened-each P first other zero n = other
opened-each P first other (suc count) zero = first
opened-each P first other (suc count) (suc n) = opened-each P first other count n

module _ (setup : Setup) where
  -- what holds of a site that was started once, and of no site, holds of each at the beginning
  pub opening-each : (P : Site → Type 0) → P first_site → P no_site → (n : ℕ) → P (site_at (opening setup) n)
  opening-each P first other n = opened-each P first other setup.catalog.sites n

  pub no-work-yet : (n : ℕ) (txn : TxnId) (entry : Entry) → WorksAgeless (opening setup) n txn entry → ⊥
  no-work-yet n txn entry = opening-each (λ (s : Site). work_in s.running txn ≡ Some entry → ⊥) (none-some entry) (none-some entry) n

  pub no-grant-yet : (n : ℕ) (grant : Grant) → HoldsAgeless (opening setup) n grant → ⊥
  no-grant-yet n grant = opening-each (λ (s : Site). Contains (holdings_in s.running) grant → ⊥) (Contains-nil grant) (Contains-nil grant) n

  pub only-epochs-yet : (P : Record → Type 0) → ((epoch : ℕ) → P (epoch_begun epoch)) → (n : ℕ) (kept : Record) → Contains (records_at (opening setup) n) kept → P kept
  only-epochs-yet P of_epochs n =
      opening-each (λ (s : Site). (kept : Record) → Contains s.records kept → P kept)
      (λ kept h. ⊎_elim (λ same. subst P same (of_epochs 1)) (λ wrong. absurd (Contains-nil kept wrong)) (Contains-cases (epoch_begun 1) [] kept h))
      (λ kept h. absurd (Contains-nil kept h)) n

  numbers-passed-first : AreNumbersPassed (opening setup)
  numbers-passed-first = record {
    entries = λ n txn entry works. absurd (no-work-yet n txn entry works);
    grants = λ n grant h. absurd (no-grant-yet n grant h);
    records = only-epochs-yet (IsRecordPassed (opening setup)) (λ epoch. tt);
    sent = λ from to message h. absurd (Contains-nil _ h);
    order = λ placed h. absurd (Contains-nil placed h);
  }

  pub numbers-always-passed : (world : World) → Acts setup (opening setup) world → AreNumbersPassed world
  numbers-always-passed world acts =
      acts-hold setup AreNumbersPassed (λ w v step all. numbers-passed setup w v step all) (opening setup) world acts numbers-passed-first

  -- Numbers that are given.

  pub txn-unpassed : (world after : World) (txn : TxnId) → GivesTxn setup world after txn → IsPassed world txn → ⊥
  txn-unpassed world after txn (gives_txn n running program may) passed =
      next-unpassed (records_at world n) running.next_txn
      (subst (λ (memory : Option Running). IsNumberPassed (records_at world n) (next_txn_in memory) txn.epoch txn.number) may.up passed)

  pub txn-passed : (world after : World) (txn : TxnId) → GivesTxn setup world after txn → IsPassed after txn
  txn-passed world after txn (gives_txn n running program may) =
      subst (λ (s : Site). IsNumberPassed s.records (next_txn_in s.running) txn.epoch txn.number)
      (sym (changed-site world n (records_at world n) (Some (with_begun running txn program)) (up-within world n running may.up)))
      (given-passed (records_at world n) running.next_txn)

  pub grant-unpassed : (world after : World) (n : ℕ) (id : GrantId) → GivesGrant world n after id → IsGrantPassed world n id → ⊥
  grant-unpassed world after n id (gives_grant running txn wants may) passed =
      next-unpassed (records_at world n) running.next_grant
      (subst (λ (memory : Option Running). IsNumberPassed (records_at world n) (next_grant_in memory) id.epoch id.number) may.up passed)

  pub grant-passed : (world after : World) (n : ℕ) (id : GrantId) → GivesGrant world n after id → IsGrantPassed after n id
  grant-passed world after n id (gives_grant running txn wants may) =
      subst (λ (s : Site). IsNumberPassed s.records (next_grant_in s.running) id.epoch id.number)
      (sym (changed-site world n (records_at world n) (Some (with_granted running txn id wants)) (up-within world n running may.up)))
      (given-passed (records_at world n) running.next_grant)

  pub passed-later : (txn : TxnId) (w v : World) → Acts setup w v → IsPassed w txn → IsPassed v txn
  passed-later txn w v acts passed = acts-hold setup (λ world. IsPassed world txn) (λ x y (step : IsStep setup x y) is. step.txns txn is) w v acts passed

  pub grant-passed-later : (n : ℕ) (id : GrantId) (w v : World) → Acts setup w v → IsGrantPassed w n id → IsGrantPassed v n id
  grant-passed-later n id w v acts passed = acts-hold setup (λ world. IsGrantPassed world n id) (λ x y (step : IsStep setup x y) is. step.ids n id is) w v acts passed
