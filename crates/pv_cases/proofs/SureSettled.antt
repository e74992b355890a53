-- A choice between two values by one transaction, once its outcome is known.
use Rattle.std.proofs.Common.{◌≡◌, ◌∙◌, Bool, false, true, List, [], ◌∷◌, ◌++◌, ap, refl, sym}
use Rattle.std.specs.Prelude.{if◌then◌else◌}
use Rattle.std.proofs.lemmas.List.Elements.{All-nil, All-cons}
use Rattle.pv_base.specs.Assignment.{with_outcome}
use Rattle.pv_base.specs.declared.literal.Literal.{Literal}
use Rattle.pv_base.specs.declared.txn.TxnId.{TxnId}
use Rattle.pv_base.specs.Polyvalue.{Case, IsSettled, names, under, value_at}
use Rattle.pv_base.proofs.AssignmentLemmas.{commits-with-same}
use Rattle.pv_law_polyvalues.proofs.PolyvalueLemmas.{value_at-tested}

module _ {V : Type 0} (txn : TxnId) (old new : V) where
  -- the cases of one value
  abbrev pub only : V → List (Case V)
  only value = record { when = []; value = value } ∷ []

  -- those of the choice
  abbrev pub both : List (Case V)
  both = under txn false (only old) ++ under txn true (only new)

  picked : (outcome : Bool) (a b : List TxnId) → value_at (only (if outcome then new else old)) a ≡ value_at (if outcome then only new else only old) b
  picked true a b = refl
  picked false a b = refl

  pub only-settled : (outcome : Bool) → IsSettled (record { txn = txn; commits = outcome } ∷ []) both (only (if outcome then new else old))
  only-settled outcome = record {
    same = λ a.
        let b = with_outcome txn outcome a in
        picked outcome a b
        ∙ sym (ap (λ (o : Bool). value_at (if o then only new else only old) b) (commits-with-same txn outcome a))
        ∙ sym (value_at-tested txn (only old) (only new) b);
    unnamed = All-cons (λ (literal : Literal). names (only (if outcome then new else old)) literal.txn ≡ false) (record { txn = txn; commits = outcome }) [] refl
        (All-nil (λ (literal : Literal). names (only (if outcome then new else old)) literal.txn ≡ false));
  }
