-- Which case of a participant's step fits, and what the step then is.
use Rattle.std.specs.Prelude.{◌≡◌, Bool, false, not, ◌&&◌, ◌||◌, List, Option, Some, None, if◌then◌else◌}
use Rattle.pv_base.specs.declared.grant.GrantId.{GrantId}
use Rattle.pv_base.specs.declared.txn.TxnId.{TxnId}
use Rattle.pv_format.specs.Message.{vote_yes}
use Rattle.pv_format.specs.Record.{outcome_known}
use Rattle.pv_model.specs.Alternatives.{Read}
use Rattle.pv_part.specs.declared.cases.OutcomeCase.{OutcomeCase}
use Rattle.pv_part.specs.declared.cases.OutcomeCase.TheVariants as outcome
use Rattle.pv_part.specs.declared.cases.PrepareCase.{PrepareCase}
use Rattle.pv_part.specs.declared.cases.PrepareCase.TheVariants as prepare
use Rattle.pv_protocol.specs.Here.{Here, grant_of, is_full, length_with, nothing, noting, only_to, remembering, sending, without_grant}
use Rattle.pv_protocol.specs.Outcome.{learning}
use Rattle.pv_protocol.specs.Records.{is_prepared, is_undecided}
use Rattle.pv_protocol.specs.State.{Grant, Step, full}
use Rattle.pv_protocol.specs.Vote.{is_same_grant, losing, with_writes}

-- What the site's records say of the transaction: whether it is prepared, and whether its outcome is known.
pub record IsReport (here : Here) (txn : TxnId) (prepared known : Bool) : Type 0 where
  pub is_prepared : prepared ≡ is_prepared here.records txn
  pub is_known : known ≡ not (is_undecided here.records txn)

-- A lock message is taken notice of, which is from the transaction's site or not.
abbrev pub lock_passes : (is_its_site prepared known : Bool) → Bool
lock_passes is_its_site prepared known = is_its_site && not (prepared || known)

-- The grant is the very one that stands.
abbrev pub is_the_grant : GrantId → Option Grant → Bool
is_the_grant grant None = false
is_the_grant grant (Some standing) = is_same_grant grant standing.id

-- the case of a prepare message, which is from the transaction's site or not, and names a grant that stands or doesn't
abbrev pub prepare_case : (is_its_site prepared stands : Bool) → PrepareCase
prepare_case is_its_site prepared stands =
    if not is_its_site then prepare.Nothing else
    (if prepared then prepare.Again else
    (if stands then prepare.Go else prepare.Lost))

-- The step on a prepare message is the one of the case.
abbrev pub IsPrepareStep : Here → TxnId → List Read → PrepareCase → Step → Type 0
IsPrepareStep here txn writes prepare.Nothing step = step ≡ nothing here
IsPrepareStep here txn writes prepare.Again step = step ≡ sending here.running (only_to txn.site.0 (vote_yes txn))
IsPrepareStep here txn writes prepare.Lost step = step ≡ losing here txn
IsPrepareStep here txn writes prepare.Go step =
    (standing : Grant) × (grant_of here.running txn ≡ Some standing) × (step ≡ with_writes here standing writes)

-- the case of an outcome message, which is from the transaction's site or not
abbrev pub outcome_case : (is_its_site commits known needed : Bool) → OutcomeCase
outcome_case is_its_site commits known needed =
    if not is_its_site || known then outcome.Nothing else
    (if needed then outcome.Record else
    (if commits then outcome.Nothing else outcome.Release))

-- The step on an outcome message is the one of the case.
abbrev pub IsOutcomeStep : Here → TxnId → Bool → OutcomeCase → Step → Type 0
IsOutcomeStep here txn commits outcome.Nothing step = step ≡ nothing here
IsOutcomeStep here txn commits outcome.Record step =
    step ≡ (if is_full here (outcome_known txn commits) then noting here (full (length_with here (outcome_known txn commits))) else learning here txn commits)
IsOutcomeStep here txn commits outcome.Release step = step ≡ remembering (without_grant here.running txn)
