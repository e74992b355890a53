-- The serial run of a report as far as it is computed, whichever report it is of.
use Rattle.std.proofs.Common.{◌≡◌, ℕ, ℤ, ◌+◌, ◌<◌, ◌≤◌, Option, List, [], ◌∷◌, ◌++◌, length, take, drop, get_or, IfSome, sym, ap, subst, ◌∙◌, drop-cons, add-one}
use Rattle.std.proofs.lemmas.List.{take-append-drop, take_all, take_more}
use Rattle.pv_audit.specs.Limits.{PassesLimit}
use Rattle.pv_audit.specs.Reports.{Report, order_of}
use Rattle.pv_audit.specs.ToldView.{CanRun}
use Rattle.pv_audit.specs.Values.{AreAllValuesAfter, IsRunTo}
use Rattle.pv_audit.specs.declared.begun.Begun.{Begun}
use Rattle.pv_audit.specs.declared.outcomes.Outcomes.{Outcomes}
use Rattle.pv_audit.proofs.RunLemmas.{run-start, run-end}
use Rattle.pv_base.specs.Catalog.{Declared}
use Rattle.pv_base.specs.Polyvalue.{Case}
use Rattle.pv_base.specs.declared.txn.TxnId.{TxnId}

-- a list at one of its places
parted : {X : Type 0} (xs : List X) (i : ℕ) (d x : X) → i < length xs → x ≡ get_or xs i d → xs ≡ take i xs ++ x ∷ drop (i + 1) xs
parted {X} xs i d x within at =
    sym (take-append-drop i xs)
    ∙ ap (λ (rest : List X). take i xs ++ rest)
    (drop-cons xs i d within ∙ (λ k. sym at k ∷ drop (sym (add-one i) k) xs))

taken : {X : Type 0} (xs : List X) (i : ℕ) (d x : X) → i < length xs → x ≡ get_or xs i d → take i xs ++ x ∷ [] ≡ take (i + 1) xs
taken {X} xs i d x within at = ap (λ (y : X). take i xs ++ y ∷ []) at ∙ sym (take_more xs i d within)

-- Of each report of this order, the run has come to the end of the front.
pub record RunsTo (catalog : Declared) (begun : Begun) (outcomes : Outcomes) (txns front : List TxnId) (values : List (List (Case ℤ))) : Type 0 where
  pub count : length values ≡ length catalog.items
  pub run : (told : Report) → CanRun begun outcomes told → told.ordered ≡ txns → IsRunTo catalog told front values

-- what a transaction does to the run
abbrev pub Steps : Begun → Outcomes → TxnId → List (List (Case ℤ)) → List (List (Case ℤ)) → Type 0
Steps begun outcomes txn values new = (catalog : Declared) (told : Report) (front behind : List TxnId) → CanRun begun outcomes told → told.ordered ≡ front ++ txn ∷ behind
    → IsRunTo catalog told front values → IsRunTo catalog told (front ++ txn ∷ []) new

module _ (catalog : Declared) (begun : Begun) (outcomes : Outcomes) (txns : List TxnId) where
  pub so-far-more : (i : ℕ) (d txn : TxnId) (values new : List (List (Case ℤ))) → i < length txns → txn ≡ get_or txns i d → RunsTo catalog begun outcomes txns (take i txns) values
      → length new ≡ length values → Steps begun outcomes txn values new → RunsTo catalog begun outcomes txns (take (i + 1) txns) new
  so-far-more i d txn values new within at so-far long steps = record {
    count = long ∙ so-far.count;
    run = λ told can is.
        subst (λ (front : List TxnId). IsRunTo catalog told front new) (taken txns i d txn within at)
        (steps catalog told (take i txns) (drop (i + 1) txns) can (is ∙ parted txns i d txn within at) (so-far.run told can is));
  }

  pub so-far-limit : (i : ℕ) (d txn : TxnId) (values : List (List (Case ℤ))) (limit : Option ℕ) → i < length txns → txn ≡ get_or txns i d
      → RunsTo catalog begun outcomes txns (take i txns) values
      → ((catalog : Declared) (told : Report) (front behind : List TxnId) → CanRun begun outcomes told → told.ordered ≡ front ++ txn ∷ behind
      → IsRunTo catalog told front values → IfSome limit (PassesLimit catalog told))
      → (told : Report) → CanRun begun outcomes told → told.ordered ≡ txns → IfSome limit (PassesLimit catalog told)
  so-far-limit i d txn values limit within at so-far passes told can is =
      passes catalog told (take i txns) (drop (i + 1) txns) can (is ∙ parted txns i d txn within at) (so-far.run told can is)

  -- The whole order is run.
  so-far-all : (i : ℕ) (values : List (List (Case ℤ))) → length txns ≤ i → RunsTo catalog begun outcomes txns (take i txns) values
      → (told : Report) → CanRun begun outcomes told → told.ordered ≡ txns → IsRunTo catalog told told.ordered values
  so-far-all i values past so-far told can is =
      subst (λ (front : List TxnId). IsRunTo catalog told front values) (take_all i txns past ∙ sym is) (so-far.run told can is)

  pub so-far-after : (i : ℕ) (values : List (List (Case ℤ))) → length txns ≤ i → RunsTo catalog begun outcomes txns (take i txns) values
      → (told : Report) → CanRun begun outcomes told → told.ordered ≡ txns → AreAllValuesAfter catalog told (order_of told) values
  so-far-after i values past so-far told can is = (so-far-all i values past so-far told can is).after

  pub so-far-within : (i : ℕ) (values : List (List (Case ℤ))) → length txns ≤ i → RunsTo catalog begun outcomes txns (take i txns) values
      → (told : Report) → CanRun begun outcomes told → told.ordered ≡ txns → (count : ℕ) → PassesLimit catalog told count → ⊥
  so-far-within i values past so-far told can is = run-end catalog told values (so-far-all i values past so-far told can is)

  pub so-far-start : (values : List (List (Case ℤ))) → ((told : Report) → AreAllValuesAfter catalog told [] values) → RunsTo catalog begun outcomes txns (take 0 txns) values
  so-far-start values after = record { count = (after blank).count; run = λ told can is. run-start catalog told values (after told) }
    where
      blank : Report
      blank = record { begun = []; ordered = []; committed = []; open_ones = []; items = [] }
