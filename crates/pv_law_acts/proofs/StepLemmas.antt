-- What holds of all that is there after a step, where it held of all before and holds of what is new.
use Rattle.std.proofs.Common.{◌≡◌, ◌⊎◌, inl, inr, ⊎_elim, ℕ, true, List, sym, subst}
use Rattle.std.specs.List.{Contains, list_any}
use Rattle.pv_format.specs.Message.{Message, Envelope}
use Rattle.pv_format.specs.Record.{Record}
use Rattle.pv_base.specs.declared.txn.TxnId.{TxnId}
use Rattle.pv_law_acts.proofs.ActSteps.{act-step}
use Rattle.pv_law_acts.proofs.ListLemmas.{listed-before, listed-either}
use Rattle.pv_law_acts.proofs.RecordLemmas.{prepared-stays, yes-stays}
use Rattle.pv_law_acts.specs.Acts.{Acts, no_act, Act}
use Rattle.pv_law_acts.specs.Acts as acts
use Rattle.pv_law_acts.specs.Guards.{MaySend}
use Rattle.pv_law_acts.specs.Seen.{records_at, Sent}
use Rattle.pv_law_acts.specs.Steps.{NewRecord, NewPlace, MayGrow, as_was, one_more, IsStep}
use Rattle.pv_protocol.specs.Committed.{home_of, is_committed, says_yes}
use Rattle.pv_protocol.specs.Records.{is_prepared}
use Rattle.pv_protocol.specs.State.{Setup, Placed}
use Rattle.pv_protocol.specs.World.{World}

module _ (setup : Setup) (w v : World) where
  pub grown-each : {X : Type 0} (Is : X → Type 0) (old new : List X) → MayGrow setup w v Is old new → (P : X → Type 0) → ((x : X) → Contains old x → P x)
      → ((x : X) → Is x → P x) → (x : X) → Contains new x → P x
  grown-each Is old new (as_was same) P of_old of_new x h = of_old x (subst (λ xs. Contains xs x) same h)
  grown-each Is old new (one_more more is same) P of_old of_new x h =
      ⊎_elim
      (λ was. of_old x was)
      (λ here. subst P here (of_new more is))
      (listed-either old more x (subst (λ xs. Contains xs x) same h))

  pub grown-listed : {X : Type 0} (Is : X → Type 0) (old new : List X) → MayGrow setup w v Is old new → (x : X) → Contains old x → Contains new x
  grown-listed Is old new (as_was same) x h = subst (λ xs. Contains xs x) (sym same) h
  grown-listed Is old new (one_more more is same) x h = subst (λ xs. Contains xs x) (sym same) (listed-before old more x h)

  module _ (step : IsStep setup w v) where
    pub sent-each : (P : ℕ → ℕ → Message → Type 0) → ((from to : ℕ) (message : Message) → Sent w from to message → P from to message)
        → ((from to : ℕ) (message : Message) → MaySend setup w from to message → P from to message)
        → (from to : ℕ) (message : Message) → Sent v from to message → P from to message
    sent-each P of_old of_new from to message h =
        grown-each (λ (e : Envelope). MaySend setup w e.from e.to e.message) w.sent v.sent step.sent (λ (e : Envelope). P e.from e.to e.message)
        (λ e was. of_old e.from e.to e.message was)
        (λ e may. of_new e.from e.to e.message may)
        (record { from = from; to = to; message = message }) h

    pub records-each : (n : ℕ) (P : Record → Type 0) → ((kept : Record) → Contains (records_at w n) kept → P kept)
        → ((kept : Record) → NewRecord setup w v n kept → P kept) → (kept : Record) → Contains (records_at v n) kept → P kept
    records-each n P of_old of_new kept h = grown-each (NewRecord setup w v n) (records_at w n) (records_at v n) (step.records n) P of_old of_new kept h

    pub places-each : (P : Placed → Type 0) → ((placed : Placed) → Contains w.order placed → P placed)
        → ((placed : Placed) → NewPlace setup w v placed → P placed) → (placed : Placed) → Contains v.order placed → P placed
    places-each P of_old of_new placed h = grown-each (NewPlace setup w v) w.order v.order step.order P of_old of_new placed h

    -- What there is, was or is new.

    pub sent-either : (from to : ℕ) (message : Message) → Sent v from to message → Sent w from to message ⊎ MaySend setup w from to message
    sent-either =
        sent-each (λ from to message. Sent w from to message ⊎ MaySend setup w from to message) (λ from to message h. inl h) (λ from to message may. inr may)

    pub record-either : (n : ℕ) (kept : Record) → Contains (records_at v n) kept → Contains (records_at w n) kept ⊎ NewRecord setup w v n kept
    record-either n = records-each n (λ kept. Contains (records_at w n) kept ⊎ NewRecord setup w v n kept) (λ kept h. inl h) (λ kept new. inr new)

    pub place-either : (placed : Placed) → Contains v.order placed → Contains w.order placed ⊎ NewPlace setup w v placed
    place-either = places-each (λ placed. Contains w.order placed ⊎ NewPlace setup w v placed) (λ placed h. inl h) (λ placed new. inr new)

    -- What was sent, recorded and placed stays so.

    pub sent-stays : (from to : ℕ) (message : Message) → Sent w from to message → Sent v from to message
    sent-stays from to message h = grown-listed (λ (e : Envelope). MaySend setup w e.from e.to e.message) w.sent v.sent step.sent _ h

    pub record-stays : (n : ℕ) (kept : Record) → Contains (records_at w n) kept → Contains (records_at v n) kept
    record-stays n kept h = grown-listed (NewRecord setup w v n) (records_at w n) (records_at v n) (step.records n) kept h

    pub place-stays : (placed : Placed) → Contains w.order placed → Contains v.order placed
    place-stays placed h = grown-listed (NewPlace setup w v) w.order v.order step.order placed h

    pub promise-stays : (n : ℕ) (txn : TxnId) → is_prepared (records_at w n) txn ≡ true → is_prepared (records_at v n) txn ≡ true
    promise-stays n txn is = by (step.records n) where
      by : MayGrow setup w v (NewRecord setup w v n) (records_at w n) (records_at v n) → is_prepared (records_at v n) txn ≡ true
      by (as_was same) = subst (λ (records : List Record). is_prepared records txn ≡ true) (sym same) is
      by (one_more more new same) = subst (λ (records : List Record). is_prepared records txn ≡ true) (sym same) (prepared-stays (records_at w n) more txn is)

    pub commit-stays : (txn : TxnId) → is_committed w txn ≡ true → is_committed v txn ≡ true
    commit-stays txn is = by (step.records (home_of txn)) where
      by : MayGrow setup w v (NewRecord setup w v (home_of txn)) (records_at w (home_of txn)) (records_at v (home_of txn)) → is_committed v txn ≡ true
      by (as_was same) = subst (λ (records : List Record). list_any (says_yes txn) records ≡ true) (sym same) is
      by (one_more more new same) =
          subst (λ (records : List Record). list_any (says_yes txn) records ≡ true) (sym same) (yes-stays (records_at w (home_of txn)) more txn is)

-- What holds where acts begin and is kept by each step holds where they end.
module _ (setup : Setup) (P : World → Type 0) (kept : (w v : World) → IsStep setup w v → P w → P v) where
  pub acts-hold : (w v : World) → Acts setup w v → P w → P v
  acts-hold w v (no_act world) holds = holds
  acts-hold w v (acts.one_more first next after before act) holds = kept next after (act-step setup next after act) (acts-hold first next before holds)
