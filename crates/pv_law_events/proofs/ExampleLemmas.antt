-- In the example's doubt both assignments fit, and its events and setup are what laws ask for.
use Rattle.std.proofs.Common.{◌≡◌, ⊎_elim, ℕ, zero, suc, false, [], ◌∷◌, inr, refl, sym, ap, subst, ◌∙◌}
use Rattle.std.specs.List.{list_any}
use Rattle.std.proofs.lemmas.Bool.{false≢true, or_cases}
use Rattle.pv_base.proofs.AssignmentLemmas.{same-eq}
use Rattle.pv_base.specs.Assignment.{is_same_txn}
use Rattle.pv_base.specs.Canonical.{canonical_cases}
use Rattle.pv_base.specs.declared.txn.TxnId.{TxnId}
use Rattle.pv_format.specs.Record.{epoch_begun, prepared}
use Rattle.pv_law_events.specs.Eventful.{in_doubt}
use Rattle.pv_law_world.specs.ExampleLines.{t, sure}
use Rattle.pv_model.specs.Meaning.{exec}
use Rattle.pv_model.specs.Plan.{plan_of}
use Rattle.pv_protocol.specs.Attempt.{begun}
use Rattle.pv_protocol.specs.Committed.{home_of, says_yes, is_committed, IsOpen, Fits}
use Rattle.pv_protocol.specs.Coordinate.{new_value, reply_value}
use Rattle.pv_protocol.specs.Granted.{on_denied, on_granted}
use Rattle.pv_protocol.specs.Lock.{on_lock, on_submit}
use Rattle.pv_protocol.specs.Outcome.{is_named_here, named_here, on_ask, on_outcome}
use Rattle.pv_protocol.specs.Records.{journal_bytes}
use Rattle.pv_protocol.specs.Run.{transitions_of}
use Rattle.pv_protocol.specs.Shown.{shown_within}
use Rattle.pv_protocol.specs.Tick.{on_tick}
use Rattle.pv_protocol.specs.Vote.{on_no, on_prepare, on_yes}
use Rattle.pv_protocol.specs.World.{site_at}
use Rattle.pv_protocol.specs.WorldStep.{transition_of}

first-records : (site_at in_doubt 0).records ≡ epoch_begun 1 ∷ (prepared t (record { item = 0; cases = sure 90 } ∷ []) ∷ [])
unfolding canonical_cases exec plan_of begun new_value reply_value on_denied on_granted on_lock on_submit is_named_here named_here on_ask on_outcome journal_bytes transitions_of shown_within on_tick on_no on_prepare on_yes transition_of
first-records = refl

second-records : (site_at in_doubt 1).records ≡ epoch_begun 1 ∷ (prepared t (record { item = 1; cases = sure 60 } ∷ []) ∷ [])
unfolding canonical_cases exec plan_of begun new_value reply_value on_denied on_granted on_lock on_submit is_named_here named_here on_ask on_outcome journal_bytes transitions_of shown_within on_tick on_no on_prepare on_yes transition_of
second-records = refl

no-records : (n : ℕ) → (site_at in_doubt (suc (suc n))).records ≡ []
unfolding canonical_cases exec plan_of begun new_value reply_value on_denied on_granted on_lock on_submit is_named_here named_here on_ask on_outcome journal_bytes transitions_of shown_within on_tick on_no on_prepare on_yes transition_of
no-records n = refl

open_now : IsOpen in_doubt t
unfolding canonical_cases exec plan_of begun new_value reply_value on_denied on_granted on_lock on_submit is_named_here named_here on_ask on_outcome journal_bytes transitions_of shown_within on_tick on_no on_prepare on_yes transition_of
open_now = refl

none-says : (txn : TxnId) (n : ℕ) → list_any (says_yes txn) (site_at in_doubt n).records ≡ false
none-says txn zero = ap (list_any (says_yes txn)) first-records
none-says txn (suc zero) = ap (list_any (says_yes txn)) second-records
none-says txn (suc (suc n)) = ap (list_any (says_yes txn)) (no-records n)

uncommitted : (txn : TxnId) → is_committed in_doubt txn ≡ false
uncommitted txn = none-says txn (home_of txn)

pub none-fits : Fits in_doubt []
none-fits = record {
  whole = λ txn is. absurd (false≢true (sym (uncommitted txn) ∙ is));
  only = λ txn is. absurd (false≢true is);
}

pub one-fits : Fits in_doubt (t ∷ [])
one-fits = record {
  whole = λ txn is. absurd (false≢true (sym (uncommitted txn) ∙ is));
  only = λ txn is. inr (⊎_elim
      (λ here. subst (IsOpen in_doubt) (same-eq {t = t} {u = txn} here) open_now)
      (λ wrong. absurd (false≢true wrong))
      (or_cases (is_same_txn t txn) false is));
}
