-- What may commit after a step could before, if it was in the order.
use Rattle.std.proofs.Common.{◌≡◌, ⊎_elim, true, List, inl, inr, refl, sym, ap, subst, ◌∙◌}
use Rattle.std.specs.List.{Contains}
use Rattle.std.proofs.lemmas.Bool.{false≢true, false_from_ne_true}
use Rattle.pv_base.specs.Want.{Want}
use Rattle.pv_base.specs.declared.txn.TxnId.{TxnId}
use Rattle.pv_format.specs.Message.{prepare}
use Rattle.pv_format.specs.Record.{prepared}
use Rattle.pv_law_acts.proofs.RecordLemmas.{prepared-listed, listed-prepared}
use Rattle.pv_law_acts.proofs.StepLemmas.{record-either, place-either, commit-stays}
use Rattle.pv_law_acts.specs.Seen.{records_at, HoldsAgeless, IsPassed}
use Rattle.pv_law_acts.specs.Steps.{NewGrant, NewCommit, NewPromise, NewPlace, IsStep}
use Rattle.pv_law_outcomes.proofs.CoherentLemmas.{new-apart}
use Rattle.pv_law_outcomes.specs.Coherent.{IsWriting}
use Rattle.pv_law_outcomes.proofs.DecidedLemmas.{IsSettled, worked-before, commit-either, voted-everywhere}
use Rattle.pv_law_outcomes.specs.Decided.{IsPreparedEverywhere, IsBoundBy, is_promised, is_held, MayCommitYet, IsCommittedOrOpen}
use Rattle.pv_protocol.specs.Committed.{home_of, is_committed}
use Rattle.pv_protocol.specs.Records.{is_prepared}
use Rattle.pv_protocol.specs.State.{Setup, TakenGrant, Placed}
use Rattle.pv_protocol.specs.World.{World}

module _ (setup : Setup) (w v : World) (step : IsStep setup w v) (settled : IsSettled setup w) where
  -- The very grant that was taken: one that is new has another number.
  held-before : (placed : Placed) → Contains w.order placed → (txn : TxnId) (taken : TakenGrant) → Contains placed.grants taken → (wants : List Want)
      → HoldsAgeless v taken.site (record { txn = txn; id = taken.grant; wants = wants; age = 0 }) → IsBoundBy w txn taken
  held-before placed in_order txn taken h wants holds =
      ⊎_elim
      (λ old. is_held wants old)
      (λ (new : NewGrant setup w v taken.site (record { txn = txn; id = taken.grant; wants = wants; age = 0 })).
      absurd (new.fresh ((settled.sound.passed.order placed in_order).taken taken h)))
      (step.grants taken.site (record { txn = txn; id = taken.grant; wants = wants; age = 0 }) holds)

  -- A participant that promises now has the very grant that the order names.
  promised-before : (placed : Placed) → Contains w.order placed → (txn : TxnId) → placed.txn ≡ txn → (taken : TakenGrant) → Contains placed.grants taken
      → is_prepared (records_at v taken.site) txn ≡ true → IsBoundBy w txn taken
  promised-before placed in_order txn own taken h is =
      let found = prepared-listed (records_at v taken.site) txn is in
      ⊎_elim
      (λ old. is_promised (listed-prepared (records_at w taken.site) txn found.0 old))
      (λ (new : NewPromise setup w v taken.site txn found.0).
      let writing : IsWriting setup w taken.site txn new.id found.0 =
      (settled.sound.right.sent (home_of txn) taken.site (prepare txn new.id found.0) new.may.asked).writing in
      let same : writing.placed ≡ placed = settled.sound.right.same_place writing.placed placed writing.in_order in_order (writing.own ∙ sym own) in
      let one : record { site = taken.site; grant = new.id } ≡ taken =
      (settled.sound.right.places placed in_order).one (record { site = taken.site; grant = new.id }) taken
      (subst (λ (p : Placed). Contains p.grants (record { site = taken.site; grant = new.id })) same writing.granted) h refl in
      is_held new.wants
      (subst (λ id. HoldsAgeless w taken.site (record { txn = txn; id = id; wants = new.wants; age = 0 })) (ap (λ (t : TakenGrant). t.grant) one) new.may.holds))
      (record-either setup w v step taken.site (prepared txn found.0) found.1)

  bound-before : (placed : Placed) → Contains w.order placed → (txn : TxnId) → placed.txn ≡ txn → (taken : TakenGrant) → Contains placed.grants taken
      → IsBoundBy v txn taken → IsBoundBy w txn taken
  bound-before placed in_order txn own taken h (is_promised is) = promised-before placed in_order txn own taken h is
  bound-before placed in_order txn own taken h (is_held wants holds) = held-before placed in_order txn taken h wants holds

  -- A transaction that is decided now was open.
  open-before : (txn : TxnId) → NewCommit setup w v (home_of txn) txn true → MayCommitYet w txn
  open-before txn commit =
      let everywhere : IsPreparedEverywhere w txn = voted-everywhere setup w v step settled.sound settled.decided (home_of txn) txn true commit in
      record {
        placed = everywhere.placed;
        in_order = everywhere.in_order;
        own = everywhere.own;
        uncommitted = settled.decided.working (home_of txn) txn commit.entry commit.works;
        entry = commit.entry;
        works = commit.works;
        bound = λ taken h. is_promised (everywhere.prepared taken h);
      }

  -- Of a transaction of the order.
  module _ (placed : Placed) (in_order : Contains w.order placed) (txn : TxnId) (own : placed.txn ≡ txn) where
    still-open : MayCommitYet v txn → MayCommitYet w txn
    still-open is =
        ⊎_elim
        (λ old.
        let was = worked-before setup w v step settled.sound settled.decided (home_of txn) txn is.entry
        (subst (λ t. IsPassed w t) own (settled.sound.passed.order placed in_order).passed) is.works in
        record {
          placed = is.placed;
          in_order = old;
          own = is.own;
          uncommitted = false_from_ne_true (is_committed w txn) (λ yes_. false≢true (sym is.uncommitted ∙ commit-stays setup w v step txn yes_));
          entry = was.0;
          works = was.1;
          bound = λ taken h. bound-before is.placed old txn is.own taken h (is.bound taken h);
        })
        (λ (new : NewPlace setup w v is.placed).
        absurd (new-apart setup w v step settled.sound.passed settled.sound.right is.placed new placed in_order (own ∙ sym is.own)))
        (place-either setup w v step is.placed is.in_order)

    pub live-before : IsCommittedOrOpen v txn → IsCommittedOrOpen w txn
    live-before is =
        ⊎_elim
        (λ yes_. ⊎_elim (λ old. inl old) (λ commit. inr (open-before txn commit)) (commit-either setup w v step settled.sound settled.decided txn yes_))
        (λ open_. inr (still-open open_))
        is
