-- The step is the one of the case that fits.
use Rattle.std.proofs.Common.{◌≡◌, ℕ, Bool, true, false, not, List, Option, Some, None, refl, sym, ap, subst, ◌∙◌}
use Rattle.std.specs.Prelude.{IsTrue, ◌||◌, ◌==◌, if◌then◌else◌}
use Rattle.std.specs.List.{list_all}
use Rattle.pv_base.specs.Want.{Want}
use Rattle.pv_base.specs.declared.grant.GrantId.{GrantId}
use Rattle.pv_base.specs.declared.txn.TxnId.{TxnId}
use Rattle.pv_format.specs.Message.{vote_yes}
use Rattle.pv_format.specs.Record.{outcome_known}
use Rattle.pv_model.specs.Alternatives.{Read}
use Rattle.pv_part.specs.Cases.{IsReport, lock_passes, is_the_grant, prepare_case, IsPrepareStep, outcome_case, IsOutcomeStep}
use Rattle.pv_part.specs.declared.cases.PrepareCase.TheVariants as prepare
use Rattle.pv_protocol.specs.Here.{Here, grant_of, is_full, length_with, nothing, noting, only_to, remembering, sending, without_grant}
use Rattle.pv_protocol.specs.Lock.{is_home, is_lock_ignored}
use Rattle.pv_protocol.specs.Outcome.{is_named_here, is_needed, learning, on_outcome}
use Rattle.pv_protocol.specs.Records.{is_prepared, is_undecided}
use Rattle.pv_protocol.specs.State.{Grant, full}
use Rattle.pv_protocol.specs.Vote.{at_prepare, is_same_grant, losing, on_prepare, with_writes}

lock-by : (a b c u : Bool) → c ≡ not u → lock_passes a b c ≡ not (not a || (not true || (b || not u)))
lock-by true true c u known = refl
lock-by true false c true known = ap not known
lock-by true false c false known = ap not known
lock-by false b c u known = refl

pub lock-step : (here : Here) (from : ℕ) (txn : TxnId) (prepared known : Bool) (wants : List Want) → IsReport here txn prepared known
    → IsTrue (list_all (λ (want : Want). is_home here.setup.catalog here.me want.item) wants)
    → lock_passes (from == txn.site.0) prepared known ≡ not (is_lock_ignored here from txn wants)
lock-step here from txn prepared known wants tells homes =
    lock-by (from == txn.site.0) prepared known (is_undecided here.records txn) tells.is_known
    ∙ ap (λ b. not (not (from == txn.site.0) || (not true || (b || not (is_undecided here.records txn))))) tells.is_prepared
    ∙ ap (λ b. not (not (from == txn.site.0) || (not b || (is_prepared here.records txn || not (is_undecided here.records txn))))) (sym homes)

module _ (here : Here) (txn : TxnId) (grant : GrantId) (writes : List Read) where
  under-by : (b : Bool) (standing : Grant) → grant_of here.running txn ≡ Some standing
      → IsPrepareStep here txn writes (if b then prepare.Go else prepare.Lost) (if b then with_writes here standing writes else losing here txn)
  under-by true standing found = (standing, found, refl)
  under-by false standing found = refl

  prepare-by : (a b : Bool) (o : Option Grant) → grant_of here.running txn ≡ o
      → IsPrepareStep here txn writes (prepare_case a b (is_the_grant grant o))
      (if not a then nothing here else (if b then sending here.running (only_to txn.site.0 (vote_yes txn)) else at_prepare here txn grant writes o))
  prepare-by false b o found = refl
  prepare-by true true o found = refl
  prepare-by true false None found = refl
  prepare-by true false (Some standing) found = under-by (is_same_grant grant standing.id) standing found

  pub prepare-step : (from : ℕ) (prepared known : Bool) → IsReport here txn prepared known
      → IsPrepareStep here txn writes (prepare_case (from == txn.site.0) prepared (is_the_grant grant (grant_of here.running txn))) (on_prepare here from txn grant writes)
  unfolding on_prepare
  prepare-step from prepared known tells =
      subst (λ b. IsPrepareStep here txn writes (prepare_case (from == txn.site.0) b (is_the_grant grant (grant_of here.running txn))) (on_prepare here from txn grant writes))
      (sym tells.is_prepared) (prepare-by (from == txn.site.0) (is_prepared here.records txn) (grant_of here.running txn) refl)

module _ (here : Here) (txn : TxnId) (commits : Bool) where
  outcome-by : (a k n : Bool)
      → IsOutcomeStep here txn commits (outcome_case a commits k n)
      (if not a || k then nothing here else
      (if n
      then (if is_full here (outcome_known txn commits) then noting here (full (length_with here (outcome_known txn commits))) else learning here txn commits)
      else (if commits then nothing here else remembering (without_grant here.running txn))))
  outcome-by false k n = refl
  outcome-by true true n = refl
  outcome-by true false true = refl
  outcome-by true false false = by commits where
    by : (b : Bool) → IsOutcomeStep here txn commits (outcome_case true b false false) (if b then nothing here else remembering (without_grant here.running txn))
    by true = refl
    by false = refl

  pub outcome-step : (from : ℕ) (known prepared named : Bool) → IsReport here txn prepared known → named ≡ is_named_here here txn
      → IsOutcomeStep here txn commits (outcome_case (from == txn.site.0) commits known (prepared || named)) (on_outcome here from txn commits)
  unfolding on_outcome
  outcome-step from known prepared named tells is =
      subst (λ k. IsOutcomeStep here txn commits (outcome_case (from == txn.site.0) commits k (prepared || named)) (on_outcome here from txn commits)) (sym tells.is_known)
      (subst (λ p. IsOutcomeStep here txn commits (outcome_case (from == txn.site.0) commits (not (is_undecided here.records txn)) (p || named)) (on_outcome here from txn commits)) (sym tells.is_prepared)
      (subst (λ n. IsOutcomeStep here txn commits (outcome_case (from == txn.site.0) commits (not (is_undecided here.records txn)) (is_prepared here.records txn || n)) (on_outcome here from txn commits)) (sym is)
      (outcome-by (from == txn.site.0) (not (is_undecided here.records txn)) (is_needed here txn))))
