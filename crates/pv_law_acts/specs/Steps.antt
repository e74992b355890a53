-- What one act does to a world: what is there afterwards was there before, or is new with its cause.
use Rattle.std.specs.Prelude.{◌≡◌, ℕ, ◌+◌, Bool, true, false, None, List, [], ◌∷◌, ◌++◌, ◌⊎◌}
use Rattle.pv_base.specs.Want.{Want}
use Rattle.pv_base.specs.declared.grant.GrantId.{GrantId}
use Rattle.pv_base.specs.declared.txn.TxnId.{TxnId}
use Rattle.pv_format.specs.Contents.{greatest_epoch}
use Rattle.pv_format.specs.Message.{lock, Envelope}
use Rattle.pv_format.specs.Record.{Record, epoch_begun, prepared, outcome_known}
use Rattle.pv_law_acts.specs.Acts.{first_entry, voting_of, counting}
use Rattle.pv_law_acts.specs.Guards.{MayTake, MayPlace, MayCount, MayPromise, MayCommit, MayLearn, MaySend}
use Rattle.pv_law_acts.specs.Seen.{records_at, memory_at, HoldsAgeless, work_in, WorksAgeless, Sent, place_in_order, IsPassed, IsGrantPassed, AreCompatible}
use Rattle.pv_model.specs.Alternatives.{Read}
use Rattle.pv_model.specs.Syntax.{Program}
use Rattle.pv_protocol.specs.Committed.{home_of}
use Rattle.pv_protocol.specs.Granted.{taking}
use Rattle.pv_protocol.specs.Records.{is_prepared}
use Rattle.pv_protocol.specs.State.{Setup, Grant, Taken, Entry, Placed}
use Rattle.pv_protocol.specs.WellFormed.{CanRun}
use Rattle.pv_protocol.specs.World.{World}

-- From a world w to a world v.
module _ (setup : Setup) (w v : World) where
  -- An entry is new: its transaction begins, or a grant was taken, the lock point reached or a vote counted in an entry that was there.
  pub data NewEntry (n : ℕ) (txn : TxnId) : Entry → Type 0 where
    has_begun : (program : Program) → home_of txn ≡ n → (IsPassed w txn → ⊥) → IsPassed v txn → CanRun setup.catalog program
        → NewEntry n txn (first_entry txn program)
    has_taken : (entry : Entry) (taken : Taken) → WorksAgeless w n txn entry → MayTake setup w n txn entry taken
        → NewEntry n txn (taking entry taken.site taken.grant taken.values)
    is_placed : (entry : Entry) → WorksAgeless w n txn entry → MayPlace setup entry → v.order ≡ w.order ++ place_in_order entry ∷ []
        → NewEntry n txn (voting_of entry)
    has_counted : (entry : Entry) (from : ℕ) → WorksAgeless w n txn entry → MayCount setup w n txn entry from → NewEntry n txn (counting entry from)

  -- A grant is new, and the only one that is.
  pub record NewGrant (n : ℕ) (grant : Grant) : Type 0 where
    pub fresh : IsGrantPassed w n grant.id → ⊥
    pub given : IsGrantPassed v n grant.id
    pub asked : Sent w (home_of grant.txn) n (lock grant.txn grant.wants)
    pub first : (other : Grant) → HoldsAgeless w n other → other.txn ≡ grant.txn → ⊥
    pub free : (other : Grant) → HoldsAgeless w n other → AreCompatible grant.wants other.wants
    pub unprepared : is_prepared (records_at w n) grant.txn ≡ false
    pub only : (other : Grant) → HoldsAgeless v n other → HoldsAgeless w n other ⊎ (other ≡ grant)

  -- A promise is new: its coordinator asked for it under a grant that stands.
  pub record NewPromise (n : ℕ) (txn : TxnId) (writes : List Read) : Type 0 where
    pub id : GrantId
    pub wants : List Want
    pub may : MayPromise w n txn id wants writes

  -- A commit is decided: all have voted, and the entry ends.
  pub record NewCommit (n : ℕ) (txn : TxnId) (outcome : Bool) : Type 0 where
    pub yes : outcome ≡ true
    pub entry : Entry
    pub works : WorksAgeless w n txn entry
    pub may : MayCommit setup entry
    pub over : work_in (memory_at v n) txn ≡ None

  -- A record is new.
  abbrev pub NewRecord : ℕ → Record → Type 0
  NewRecord n (epoch_begun epoch) = epoch ≡ greatest_epoch (records_at w n) + 1
  NewRecord n (prepared txn writes) = NewPromise n txn writes
  NewRecord n (outcome_known txn outcome) = NewCommit n txn outcome ⊎ MayLearn w n txn outcome

  -- A place of the order is new: it is that of an entry which then asks for votes.
  pub record NewPlace (placed : Placed) : Type 0 where
    pub n : ℕ
    pub txn : TxnId
    pub entry : Entry
    pub works : WorksAgeless w n txn entry
    pub may : MayPlace setup entry
    pub is : placed ≡ place_in_order entry
    pub after : WorksAgeless v n txn (voting_of entry)

  -- A list is as it was, or has one more at its end, of this kind.
  pub data MayGrow {X : Type 0} (Is : X → Type 0) (old new : List X) : Type 0 where
    as_was : new ≡ old → MayGrow Is old new
    one_more : (x : X) → Is x → new ≡ old ++ x ∷ [] → MayGrow Is old new

  -- Grants may end, and entries; messages, records and the order only grow, and numbers that are passed stay so.
  pub record IsStep : Type 0 where
    pub entries : (n : ℕ) (txn : TxnId) (entry : Entry) → WorksAgeless v n txn entry → WorksAgeless w n txn entry ⊎ NewEntry n txn entry
    pub grants : (n : ℕ) (grant : Grant) → HoldsAgeless v n grant → HoldsAgeless w n grant ⊎ NewGrant n grant
    pub records : (n : ℕ) → MayGrow (NewRecord n) (records_at w n) (records_at v n)
    pub sent : MayGrow (λ (e : Envelope). MaySend setup w e.from e.to e.message) w.sent v.sent
    pub order : MayGrow NewPlace w.order v.order
    pub txns : (txn : TxnId) → IsPassed w txn → IsPassed v txn
    pub ids : (n : ℕ) (id : GrantId) → IsGrantPassed w n id → IsGrantPassed v n id
