-- Locks that are asked for.
use Rattle.std.proofs.Common.{◌≡◌, ℕ, ◌+◌, Bool, true, false, ◌==◌, Some, None, Option, Result, Ok, Err, List, [], ◌∷◌, map, refl, sym, ap, subst, ◌∙◌}
use Rattle.std.specs.Prelude.{if◌then◌else◌, ⊤}
use Rattle.std.proofs.lemmas.Bool.{eqb-true, false≢true}
use Rattle.pv_base.proofs.Basics.{and-left, and-right}
use Rattle.pv_base.specs.Want.{Want}
use Rattle.pv_base.specs.declared.limits.TheConstants.{NEVER_GIVEN}
use Rattle.pv_base.specs.declared.txn.TxnId.{TxnId}
use Rattle.pv_format.specs.Message.{denied, granted}
use Rattle.pv_locks.specs.GrantAnswer as own
use Rattle.pv_locks.specs.GrantAnswer.{answer_to, unless_answered}
use Rattle.pv_locks.specs.LockTable as table
use Rattle.pv_locks.specs.LockTable.{LockTable}
use Rattle.pv_locks.specs.declared.plan.GrantPlan.{GrantPlan}
use Rattle.pv_locks.specs.declared.plan.GrantPlan.TheVariants.{Standing, Misfit, Conflict, Fresh}
use Rattle.pv_locks.specs.declared.plan.LockError.{LockError}
use Rattle.pv_locks.specs.declared.plan.LockError.TheVariants as error
use Rattle.pv_model.specs.Alternatives.{Read}
use Rattle.pv_protocol.specs.Here.{Here, grant_of, noting, nothing, only_to, sending, with_grant}
use Rattle.pv_protocol.specs.Keyed.{of_txn}
use Rattle.pv_protocol.specs.Lock as protocol
use Rattle.pv_protocol.specs.Lock.{are_same_wants, at_standing, at_conflict, first_conflict, granting, is_lock_ignored, is_same_want, next_grant, on_lock, values_of}
use Rattle.pv_protocol.specs.Shown.{shown}
use Rattle.pv_protocol.specs.State as model
use Rattle.pv_protocol.specs.State.{Grant, spent}
use Rattle.pv_site.proofs.Entries.{found-txn}
use Rattle.pv_site.proofs.Tied.{stepped, tied-locks}
use Rattle.pv_site.specs.Answer.{IsAnswer}
use Rattle.pv_site.specs.SiteParts.{AreKept, AreTied, HaveStepped, here_of}
use Rattle.pv_site.specs.Values.{note_of, outgoing_of}
use Rattle.pv_site.specs.declared.input.Step.{Step}
use Rattle.pv_site.specs.declared.parts.SiteParts.{SiteParts}

-- The same wants have the same values.
same-values : (here : Here) (wants others : List Want) → are_same_wants wants others ≡ true → values_of here wants ≡ values_of here others
same-values here [] [] same = refl
same-values here [] (other ∷ others) same = absurd (false≢true same)
same-values here (want ∷ wants) [] same = absurd (false≢true same)
same-values here (want ∷ wants) (other ∷ others) same =
    let item : want.item ≡ other.item =
    eqb-true want.item other.item (and-left (want.item == other.item) _ (and-left (is_same_want want other) (are_same_wants wants others) same)) in
    let rest : values_of here wants ≡ values_of here others = same-values here wants others (and-right (is_same_want want other) (are_same_wants wants others) same) in
    ap (λ (n : ℕ). record { item = n; cases = shown here.setup.catalog here.records n } ∷ values_of here wants) item
    ∙ ap (λ (values : List Read). record { item = other.item; cases = shown here.setup.catalog here.records other.item } ∷ values) rest

-- what a step on wants is, by what they are answered
abbrev pub IsLockStep : Here → TxnId → List Want → Result GrantPlan LockError → model.Step → Type 0
IsLockStep here txn wants (Ok (Standing id)) step = step ≡ sending here.running (only_to txn.site.0 (granted txn id (values_of here wants)))
IsLockStep here txn wants (Ok Misfit) step = step ≡ nothing here
IsLockStep here txn wants (Ok (Conflict item holder)) step = step ≡ sending here.running (only_to txn.site.0 (denied txn item.0 holder))
IsLockStep here txn wants (Ok (Fresh grant)) step =
    (grant ≡ next_grant here txn wants)
    × (step ≡ granting here (with_grant (record here.running { next_grant = here.running.next_grant + 1 }) (next_grant here txn wants)) (next_grant here txn wants))
IsLockStep here txn wants (Err error.Spent) step = step ≡ noting here spent
IsLockStep here txn wants (Err error.NoMemory) step = ⊤

module _ (parts : SiteParts) (txn : TxnId) (wants : List Want) where
  abbrev here : Here
  here = here_of parts

  abbrev next : Grant
  next = next_grant here txn wants

  number-by : (b : Bool)
      → IsLockStep here txn wants (if b then Err error.Spent else Ok (Fresh next))
      (if b then noting here spent else granting here (with_grant (record here.running { next_grant = here.running.next_grant + 1 }) next) next)
  number-by true = refl
  number-by false = (refl, refl)

  conflict-by : (found : Option protocol.Conflict)
      → IsLockStep here txn wants (unless_answered parts.locks next (own.at_conflict found)) (at_conflict here txn wants found)
  conflict-by None = number-by (parts.locks.next == NEVER_GIVEN)
  conflict-by (Some conflict) = refl

  standing-by : (grant : Grant) → txn ≡ grant.txn → (b : Bool) → are_same_wants wants grant.wants ≡ b
      → IsLockStep here txn wants (Ok (if b then Standing grant.id else Misfit)) (if b then granting here here.running grant else nothing here)
  standing-by grant of true same =
      ap (λ (t : TxnId). sending here.running (only_to t.site.0 (granted t grant.id (values_of here grant.wants)))) (sym of)
      ∙ ap (λ (values : List Read). sending here.running (only_to txn.site.0 (granted txn grant.id values))) (sym (same-values here wants grant.wants same))
  standing-by grant of false other = refl

  grant-by : (found : Option Grant) → of_txn (λ (grant : Grant). grant.txn) txn parts.locks.grants ≡ found
      → IsLockStep here txn wants (unless_answered parts.locks next (own.at_standing parts.locks.grants wants found)) (at_standing here txn wants found)
  grant-by None is = conflict-by (first_conflict parts.locks.grants wants)
  grant-by (Some grant) is =
      standing-by grant (found-txn (λ (g : Grant). g.txn) txn parts.locks.grants grant is) (are_same_wants wants grant.wants) refl

  -- Wants of which notice is taken are answered as the locks answer them.
  pub lock-step : (from : ℕ) (answer : Result GrantPlan LockError) → is_lock_ignored here from txn wants ≡ false → answer_to parts.locks txn wants ≡ answer
      → IsLockStep here txn wants answer (on_lock here from txn wants)
  unfolding on_lock
  lock-step from answer noticed is =
      subst (IsLockStep here txn wants answer)
      (sym (ap (λ (b : Bool). if b then nothing here else at_standing here txn wants (grant_of here.running txn)) noticed))
      (subst (λ (a : Result GrantPlan LockError). IsLockStep here txn wants a (at_standing here txn wants (grant_of here.running txn))) is
      (grant-by (of_txn (λ (grant : Grant). grant.txn) txn parts.locks.grants) refl))

  -- Of others none is taken.
  pub lock-ignored : (from : ℕ) → is_lock_ignored here from txn wants ≡ true → on_lock here from txn wants ≡ nothing here
  unfolding on_lock
  lock-ignored from ignored = ap (λ (b : Bool). if b then nothing here else at_standing here txn wants (grant_of here.running txn)) ignored

  module _ (tied : AreTied parts) (locks : LockTable) where
    -- Room for a grant was made.
    pub kept-room : locks ≡ record parts.locks { room = locks.room } → AreKept parts (record parts { locks = locks })
    kept-room is = record {
      here = ap (λ (l : LockTable). here_of (record parts { locks = l })) is;
      tied = tied-locks parts tied locks (ap (λ (l : LockTable). l.epoch) is);
    }

    -- A grant is made, and told.
    pub lock-granted : (grant : Grant) (room : table.Room) (step : model.Step) (answer : Step) → grant ≡ next
        → step ≡ granting here (with_grant (record here.running { next_grant = here.running.next_grant + 1 }) next) next
        → locks ≡ record (table.with_grant parts.locks grant) { next = parts.locks.next + 1; room = room }
        → map outgoing_of answer.sends.items ≡ only_to txn.site.0 (granted txn grant.id (values_of here wants)) → map note_of answer.notes.items ≡ [] → answer.locked ≡ None
        → HaveStepped parts (record parts { locks = locks }) step × IsAnswer answer step
    lock-granted grant room step answer is step-is made sent noted unlocked =
        let is-made : locks ≡ record (table.with_grant parts.locks next) { next = parts.locks.next + 1; room = room } =
        made ∙ ap (λ (g : Grant). record (table.with_grant parts.locks g) { next = parts.locks.next + 1; room = room }) is in
        subst (λ (s : model.Step). HaveStepped parts (record parts { locks = locks }) s × IsAnswer answer s) (sym step-is) (
          stepped parts (record parts { locks = locks }) (granting here (with_grant (record here.running { next_grant = here.running.next_grant + 1 }) next) next) refl
              (ap (λ (l : LockTable). here_of (record parts { locks = l })) is-made)
              (tied-locks parts tied locks (ap (λ (l : LockTable). l.epoch) is-made)),
          record {
            sends = sent ∙ ap (λ (g : Grant). only_to txn.site.0 (granted txn g.id (values_of here wants))) is;
            notes = noted;
            locked = unlocked;
          },
        )
