-- What is committed, reported and recorded of outcomes stays so, and what is dead stays dead.
use Rattle.std.proofs.Common.{◌≡◌, ◌⊎◌, ⊎_elim, ℕ, Bool, true, false, Some, None, Option, inl, inr, refl, sym, subst, ◌∙◌}
use Rattle.std.specs.List.{Contains}
use Rattle.std.proofs.lemmas.Bool.{false≢true, false_from_ne_true}
use Rattle.std.proofs.lemmas.Option.{none-some}
use Rattle.pv_base.proofs.ContainsLemmas.{Contains-nil}
use Rattle.pv_base.specs.declared.txn.TxnId.{TxnId}
use Rattle.pv_format.specs.Message.{outcome_reported}
use Rattle.pv_format.specs.Record.{Record, epoch_begun, outcome_known}
use Rattle.pv_law_acts.proofs.ListLemmas.{all-listed, among-listed}
use Rattle.pv_law_acts.proofs.PassedLemmas.{numbers-passed, no-work-yet, only-epochs-yet}
use Rattle.pv_law_acts.proofs.RecordLemmas.{yes-listed, listed-yes}
use Rattle.pv_law_acts.proofs.StepLemmas.{acts-hold, sent-either, record-either, place-stays, promise-stays, commit-stays}
use Rattle.pv_law_acts.specs.Acts.{Acts, no_act}
use Rattle.pv_law_acts.specs.Guards.{HasOutcome, MayLearn, MaySendOutcome}
use Rattle.pv_law_acts.specs.Seen.{records_at, memory_at, work_in, WorksAgeless, parts_of, place_in_order, IsPassed, IsDead}
use Rattle.pv_law_acts.specs.Steps.{NewEntry, has_begun, has_taken, is_placed, has_counted, NewCommit, IsStep}
use Rattle.pv_law_outcomes.proofs.CoherentLemmas.{IsSound, stays-coherent, always-sound}
use Rattle.pv_law_outcomes.specs.Coherent.{IsEntryRight}
use Rattle.pv_law_outcomes.specs.Decided.{IsPreparedEverywhere, AreDecided}
use Rattle.pv_protocol.specs.Committed.{home_of, is_committed}
use Rattle.pv_protocol.specs.Here.{is_among}
use Rattle.pv_protocol.specs.State.{Setup, Entry}
use Rattle.pv_protocol.specs.World.{World, opening}

-- there is no entry where none can be
pub no-entry : (o : Option Entry) → ((entry : Entry) → o ≡ Some entry → ⊥) → o ≡ None
no-entry None never = refl
no-entry (Some entry) never = absurd (never entry refl)

module _ (setup : Setup) (w v : World) (step : IsStep setup w v) (sound : IsSound setup w) (decided : AreDecided w) where
  -- What is worked on after a step was worked on before, if its number was passed.
  pub worked-before : (n : ℕ) (txn : TxnId) (entry : Entry) → IsPassed w txn → WorksAgeless v n txn entry → (was : Entry) × WorksAgeless w n txn was
  worked-before n txn entry given works = ⊎_elim (λ old. (entry, old)) (λ new. by entry new) (step.entries n txn entry works) where
    by : (entry : Entry) → NewEntry setup w v n txn entry → (was : Entry) × WorksAgeless w n txn was
    by entry (has_begun program home unpassed passed runs) = absurd (unpassed given)
    by entry (has_taken was taken works may) = (was, works)
    by entry (is_placed was works may order) = (was, works)
    by entry (has_counted was from works may) = (was, works)

  -- What is committed after a step was so before, or is decided now.
  pub commit-either : (txn : TxnId) → is_committed v txn ≡ true → (is_committed w txn ≡ true) ⊎ NewCommit setup w v (home_of txn) txn true
  commit-either txn is =
      ⊎_elim
      (λ old. inl (listed-yes (records_at w (home_of txn)) txn old))
      (λ new. ⊎_elim
      (λ commit. inr commit)
      (λ (may : MayLearn w (home_of txn) txn true). inl (decided.reported (home_of txn) (home_of txn) txn true may.reported).outcome)
      new)
      (record-either setup w v step (home_of txn) (outcome_known txn true) (yes-listed (records_at v (home_of txn)) txn is))

  -- A dead transaction stays dead.
  pub stays-dead : (txn : TxnId) → IsDead w txn → IsDead v txn
  stays-dead txn dead = record {
    passed = step.txns txn dead.passed;
    idle = no-entry (work_in (memory_at v (home_of txn)) txn)
        (λ entry works. none-some _ (sym dead.idle ∙ (worked-before (home_of txn) txn entry dead.passed works).1));
    uncommitted = false_from_ne_true (is_committed v txn) (λ is. ⊎_elim
        (λ old. false≢true (sym dead.uncommitted ∙ old))
        (λ (commit : NewCommit setup w v (home_of txn) txn true). none-some _ (sym dead.idle ∙ commit.works))
        (commit-either txn is));
  }

  pub outcome-stays : (txn : TxnId) (commits : Bool) → HasOutcome w txn commits → HasOutcome v txn commits
  outcome-stays txn true is = commit-stays setup w v step txn is
  outcome-stays txn false is = stays-dead txn is

  commit-passed : (txn : TxnId) → is_committed w txn ≡ true → IsPassed w txn
  commit-passed txn is = sound.passed.records (home_of txn) (outcome_known txn true) (yes-listed (records_at w (home_of txn)) txn is)

  working-uncommitted : (n : ℕ) (txn : TxnId) (entry : Entry) → WorksAgeless v n txn entry → is_committed v txn ≡ false
  working-uncommitted n txn entry works = false_from_ne_true (is_committed v txn) (λ is. ⊎_elim
      (λ old. let was = worked-before n txn entry (commit-passed txn old) works in false≢true (sym (decided.working n txn was.0 was.1) ∙ old))
      (λ (commit : NewCommit setup w v (home_of txn) txn true).
      none-some _ (sym commit.over ∙ subst (λ m. WorksAgeless v m txn entry) (sym ((numbers-passed setup w v step sound.passed).entries n txn entry works).home) works))
      (commit-either txn is))

  -- A coordinator that may commit has the transaction prepared everywhere.
  pub voted-everywhere : (n : ℕ) (txn : TxnId) (outcome : Bool) → NewCommit setup w v n txn outcome → IsPreparedEverywhere w txn
  voted-everywhere n txn outcome commit =
      let entry : IsEntryRight setup w n txn commit.entry = sound.right.entries n txn commit.entry commit.works in
      let in_order : Contains w.order (place_in_order commit.entry) = entry.in_order commit.may.asks in
      record {
        placed = place_in_order commit.entry;
        in_order = in_order;
        own = (sound.passed.entries n txn commit.entry commit.works).own;
        prepared = λ taken h.
            let participant : is_among (parts_of setup commit.entry) taken.site ≡ true = (sound.right.places (place_in_order commit.entry) in_order).only taken h in
            let voted : is_among commit.entry.votes taken.site ≡ true =
            all-listed (is_among commit.entry.votes) (parts_of setup commit.entry) commit.may.whole taken.site (among-listed (parts_of setup commit.entry) taken.site participant) in
            (entry.votes taken.site (among-listed commit.entry.votes taken.site voted)).prepared;
      }

  everywhere-stays : (txn : TxnId) → IsPreparedEverywhere w txn → IsPreparedEverywhere v txn
  everywhere-stays txn is = record {
    placed = is.placed;
    in_order = place-stays setup w v step is.placed is.in_order;
    own = is.own;
    prepared = λ taken h. promise-stays setup w v step taken.site txn (is.prepared taken h);
  }

  known-stays : (n : ℕ) (txn : TxnId) (commits : Bool) → Contains (records_at v n) (outcome_known txn commits) → HasOutcome v txn commits
  known-stays n txn commits h =
      ⊎_elim
      (λ old. outcome-stays txn commits (decided.known n txn commits old))
      (λ new. ⊎_elim
      (λ (commit : NewCommit setup w v n txn commits).
      subst (HasOutcome v txn) (sym commit.yes)
      (listed-yes (records_at v (home_of txn)) txn
      (subst (λ m. Contains (records_at v m) (outcome_known txn true)) (sym (sound.passed.entries n txn commit.entry commit.works).home)
      (subst (λ b. Contains (records_at v n) (outcome_known txn b)) commit.yes h))))
      (λ (may : MayLearn w n txn commits). outcome-stays txn commits (decided.reported (home_of txn) n txn commits may.reported).outcome)
      new)
      (record-either setup w v step n (outcome_known txn commits) h)

  pub stays-decided : AreDecided v
  stays-decided = record {
    working = working-uncommitted;
    committed = λ txn is. everywhere-stays txn (⊎_elim (λ old. decided.committed txn old) (λ commit. voted-everywhere (home_of txn) txn true commit) (commit-either txn is));
    reported = λ from to txn commits h. ⊎_elim
        (λ old. let was = decided.reported from to txn commits old in record { home = was.home; outcome = outcome-stays txn commits was.outcome })
        (λ (may : MaySendOutcome w from txn commits). record { home = may.home; outcome = outcome-stays txn commits may.outcome })
        (sent-either setup w v step from to (outcome_reported txn commits) h);
    known = known-stays;
  }

module _ (setup : Setup) where
  not-known-first : (n : ℕ) (txn : TxnId) (commits : Bool) → Contains (records_at (opening setup) n) (outcome_known txn commits) → ⊥
  not-known-first n txn commits h = only-epochs-yet setup (λ (kept : Record). kept ≡ outcome_known txn commits → ⊥) (λ epoch. no-epoch epoch) n (outcome_known txn commits) h refl where
    no-epoch : (epoch : ℕ) → epoch_begun epoch ≡ outcome_known txn commits → ⊥
    no-epoch epoch is = cc

  decided-first : AreDecided (opening setup)
  decided-first = record {
    working = λ n txn entry works. absurd (no-work-yet setup n txn entry works);
    committed = λ txn is. absurd (not-known-first (home_of txn) txn true (yes-listed (records_at (opening setup) (home_of txn)) txn is));
    reported = λ from to txn commits h. absurd (Contains-nil _ h);
    known = λ n txn commits h. absurd (not-known-first n txn commits h);
  }

  -- All fits together, and outcomes are decided.
  pub record IsSettled (world : World) : Type 0 where
    pub sound : IsSound setup world
    pub decided : AreDecided world

  pub stays-settled : (w v : World) → IsStep setup w v → IsSettled w → IsSettled v
  stays-settled w v step is = record {
    sound = record { passed = numbers-passed setup w v step is.sound.passed; right = stays-coherent setup w v step is.sound.passed is.sound.right };
    decided = stays-decided setup w v step is.sound is.decided;
  }

  pub settled-first : IsSettled (opening setup)
  settled-first = record { sound = always-sound setup (opening setup) (no_act (opening setup)); decided = decided-first }

  pub always-settled : (world : World) → Acts setup (opening setup) world → IsSettled world
  always-settled world acts = acts-hold setup IsSettled stays-settled (opening setup) world acts settled-first
