-- In the world in which the asker has committed, the transfer is still open: both assignments fit.
use Rattle.std.proofs.Common.{◌≡◌, ◌⊎◌, ℕ, ◌<◌, zero, suc, Bool, true, false, ◌||◌, List, [], ◌∷◌, inl, inr, eqb-true, refl, sym, ap, subst, ◌∙◌, arith}
use Rattle.std.specs.Prelude.{All, ⊤}
use Rattle.std.specs.List.{list_any}
use Rattle.std.specs.Prelude.{Contains, IsTrue, ◌==◌}
use Rattle.std.proofs.lemmas.Bool.{false≢true}
use Rattle.std.proofs.lemmas.List.Elements.{All-nil, All-cons}
use Rattle.pv_base.proofs.AssignmentLemmas.{same-eq}
use Rattle.pv_law_step.proofs.WantRanges.{ascend-nil, ascend-cons}
use Rattle.pv_base.proofs.ContainsLemmas.{Contains-first, Contains-nil}
use Rattle.pv_base.specs.Assignment.{is_same_txn, commits}
use Rattle.pv_base.specs.Canonical.{canonical_cases}
use Rattle.pv_base.specs.declared.txn.TxnId.{TxnId}
use Rattle.pv_format.specs.Record.{epoch_begun, prepared, outcome_known}
use Rattle.pv_law_answers.specs.Example.{after, asker, until_asked}
use Rattle.pv_law_events.proofs.PremiseLemmas.{can-run}
use Rattle.pv_law_events.specs.Eventful.{small}
use Rattle.pv_law_world.specs.ExampleLines.{t, sure}
use Rattle.pv_model.specs.Check.{names_item}
use Rattle.pv_model.specs.Events.{Event}
use Rattle.pv_model.specs.Syntax.{Expr, Program}
use Rattle.pv_protocol.specs.WellFormed.{IsWellFormed, CanRun}
use Rattle.pv_model.specs.Meaning.{exec}
use Rattle.pv_model.specs.Plan.{plan_of}
use Rattle.pv_protocol.specs.Attempt.{begun}
use Rattle.pv_protocol.specs.Committed.{home_of, says_yes, is_committed, IsOpen, Fits}
use Rattle.pv_protocol.specs.Coordinate.{new_value, reply_value}
use Rattle.pv_protocol.specs.Granted.{on_denied, on_granted}
use Rattle.pv_protocol.specs.Lock.{on_lock, on_submit}
use Rattle.pv_protocol.specs.Outcome.{is_named_here, named_here, on_ask, on_outcome}
use Rattle.pv_protocol.specs.Records.{journal_bytes}
use Rattle.pv_protocol.specs.Run.{transitions_of}
use Rattle.pv_protocol.specs.Shown.{shown_within}
use Rattle.pv_protocol.specs.Tick.{on_tick}
use Rattle.pv_protocol.specs.Vote.{on_no, on_prepare, on_yes}
use Rattle.pv_protocol.specs.World.{World, site_at}
use Rattle.pv_protocol.specs.WorldStep.{transition_of}

abbrev Then : World
Then = after until_asked

first-records : (site_at Then 0).records ≡ epoch_begun 1 ∷ (prepared t (record { item = 0; cases = sure 90 } ∷ []) ∷ [])
unfolding canonical_cases exec plan_of begun new_value reply_value on_denied on_granted on_lock on_submit is_named_here named_here on_ask on_outcome journal_bytes transitions_of shown_within on_tick on_no on_prepare on_yes transition_of
first-records = refl

second-records : (site_at Then 1).records
    ≡ epoch_begun 1 ∷ (prepared t (record { item = 1; cases = sure 60 } ∷ []) ∷ (prepared asker [] ∷ (outcome_known asker true ∷ [])))
unfolding canonical_cases exec plan_of begun new_value reply_value on_denied on_granted on_lock on_submit is_named_here named_here on_ask on_outcome journal_bytes transitions_of shown_within on_tick on_no on_prepare on_yes transition_of
second-records = refl

no-records : (n : ℕ) → (site_at Then (suc (suc n))).records ≡ []
unfolding canonical_cases exec plan_of begun new_value reply_value on_denied on_granted on_lock on_submit is_named_here named_here on_ask on_outcome journal_bytes transitions_of shown_within on_tick on_no on_prepare on_yes transition_of
no-records n = refl

open_then : IsOpen Then t
unfolding canonical_cases exec plan_of begun new_value reply_value on_denied on_granted on_lock on_submit is_named_here named_here on_ask on_outcome journal_bytes transitions_of shown_within on_tick on_no on_prepare on_yes transition_of
open_then = refl

asker_committed : is_committed Then asker ≡ true
unfolding canonical_cases exec plan_of begun new_value reply_value on_denied on_granted on_lock on_submit is_named_here named_here on_ask on_outcome journal_bytes transitions_of shown_within on_tick on_no on_prepare on_yes transition_of
asker_committed = refl

or-nothing : (b : Bool) → (b || false) ≡ true → b ≡ true
or-nothing true is = refl
or-nothing false is = is

-- Whoever is said to commit is the asker.
says-asker : (txn : TxnId) (n : ℕ) → list_any (says_yes txn) (site_at Then n).records ≡ true → asker ≡ txn
says-asker txn zero is = absurd (false≢true (sym (ap (list_any (says_yes txn)) first-records) ∙ is))
says-asker txn (suc zero) is = same-eq {t = asker} {u = txn} (or-nothing (is_same_txn asker txn) (sym (ap (list_any (says_yes txn)) second-records) ∙ is))
says-asker txn (suc (suc n)) is = absurd (false≢true (sym (ap (list_any (says_yes txn)) (no-records n)) ∙ is))

pub without-fits : Fits Then (asker ∷ [])
without-fits = record {
  whole = λ txn is. subst (λ x. commits (asker ∷ []) x ≡ true) (says-asker txn (home_of txn) is) refl;
  only = λ txn is. inl (subst (λ x. is_committed Then x ≡ true) (same-eq {t = asker} {u = txn} (or-nothing (is_same_txn asker txn) is)) asker_committed);
}

pub with-fits : Fits Then (t ∷ (asker ∷ []))
with-fits = record {
  whole = λ txn is. subst (λ x. commits (t ∷ (asker ∷ [])) x ≡ true) (says-asker txn (home_of txn) is) refl;
  only = λ txn is. either txn (is_same_txn t txn) refl is;
} where
  either : (txn : TxnId) (b : Bool) → is_same_txn t txn ≡ b → (b || (is_same_txn asker txn || false)) ≡ true → (is_committed Then txn ≡ true) ⊎ IsOpen Then txn
  either txn true same is = inr (subst (IsOpen Then) (same-eq {t = t} {u = txn} same) open_then)
  either txn false apart is = inl (subst (λ x. is_committed Then x ≡ true) (same-eq {t = asker} {u = txn} (or-nothing (is_same_txn asker txn) is)) asker_committed)

-- The events are well formed.

asked-reads : (n : ℕ) → IsTrue ((1 == n) || false) → 1 ≡ n
asked-reads n is = eqb-true 1 n (or-nothing (1 == n) is)

asked-runs : CanRun small.catalog (Program.return (Expr.item 1) Program.end)
asked-runs = record {
  runnable = record {
    items = 1 ∷ [];
    are = record {
      ascending = ascend-cons 1 [] (λ n h. absurd (Contains-nil n h)) ascend-nil;
      each = All-cons (λ n. IsTrue (names_item (Program.return (Expr.item 1) Program.end) n)) 1 [] refl (All-nil (λ n. IsTrue (names_item (Program.return (Expr.item 1) Program.end) n)));
      whole = λ n is. subst (Contains (1 ∷ [])) (asked-reads n is) (Contains-first 1 []);
    };
    some = omega arith;
    few = omega arith;
    known = All-cons (λ n. n < 2) 1 [] (omega arith) (All-nil (λ n. n < 2));
  };
  numbers = refl;
}

-- Each event by itself is well formed.
abbrev pub Each : List Event → Type 0
Each [] = ⊤
Each (event ∷ events) = IsWellFormed small.catalog event × Each events

pub each-fine : (events : List Event) → Each events → All (IsWellFormed small.catalog) events
each-fine [] each = All-nil (IsWellFormed small.catalog)
each-fine (event ∷ events) each = All-cons (IsWellFormed small.catalog) event events each.0 (each-fine events each.1)

zero-below : 0 < 2
zero-below = omega arith

one-below : 1 < 2
one-below = omega arith

pub asked-fine : All (IsWellFormed small.catalog) until_asked
asked-fine =
    each-fine until_asked
    ((zero-below, can-run), (tt, (one-below, (one-below, (one-below, ((one-below, asked-runs), (tt, (tt, (tt, (tt, tt))))))))))
