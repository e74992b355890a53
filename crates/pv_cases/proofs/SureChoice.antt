-- The choice between two values that name nothing.
use Rattle.std.proofs.Common.{◌≡◌, ◌≤◌, ⊎_elim, ℕ, Some, false, true, List, [], ◌∷◌, ◌++◌, ap, subst, sym, unwrap_or}
use Rattle.std.proofs.lemmas.Bool.{false≢true}
use Rattle.std.specs.List.{Contains}
use Rattle.pv_base.specs.declared.txn.TxnId.{TxnId}
use Rattle.pv_base.specs.Polyvalue.{Case, value_at, under, tested, sure}
use Rattle.pv_base.proofs.ContainsLemmas.{Contains-first}
use Rattle.pv_cases.specs.NameLimits.{IsChosen}
use Rattle.pv_law_polyvalues.proofs.NameLemmas.{NamesAtMost-within}
use Rattle.pv_law_polyvalues.proofs.PolyvalueLemmas.{names-tested, value_at-tested}

module _ {V : Type 0} (limit : ℕ) (txn : TxnId) (old new : V) where
  -- the cases of one value
  abbrev pub before : List (Case V)
  before = record { when = []; value = old } ∷ []

  -- those of the other
  abbrev pub after : List (Case V)
  after = record { when = []; value = new } ∷ []

  -- The test of the transaction is the choice.
  two-chosen : 1 ≤ limit → (old ≡ new → ⊥) → IsChosen limit txn before after (under txn false before ++ under txn true after)
  two-chosen room differ = record {
    choice = value_at-tested txn before after;
    polyvalue = record {
      canonical = tested txn before after (sure old) (sure new) (λ u named. absurd (false≢true named)) (λ u named. absurd (false≢true named))
          (λ same. let values : Some old ≡ Some new = ap (λ (cases : List (Case V)). value_at cases []) same in differ (ap (λ found. unwrap_or found old) values));
      few = NamesAtMost-within limit (under txn false before ++ under txn true after) (txn ∷ [])
          (λ u named. ⊎_elim
          (λ same. subst (λ t. Contains (txn ∷ []) t) same (Contains-first txn []))
          (λ sides. absurd (⊎_elim (λ h. false≢true h) (λ h. false≢true h) sides))
          (names-tested txn before after u named))
          room;
    };
  }

  -- So are cases that are written as that.
  pub sure-chosen : 1 ≤ limit → (old ≡ new → ⊥) → (first second cases : List (Case V)) → first ≡ before → second ≡ after
      → cases ≡ under txn false before ++ under txn true after → IsChosen limit txn first second cases
  sure-chosen room differ first second cases is-first is-second is =
      subst (λ (all : List (Case V)). IsChosen limit txn first second all) (sym is)
      (subst (λ (f : List (Case V)). IsChosen limit txn f second (under txn false before ++ under txn true after)) (sym is-first)
      (subst (λ (s : List (Case V)). IsChosen limit txn before s (under txn false before ++ under txn true after)) (sym is-second) (two-chosen room differ)))
