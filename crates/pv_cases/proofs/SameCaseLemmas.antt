-- What `==` says of two cases, and of two lists of them: whether they are one.
use Rattle.std.proofs.Common.{◌≡◌, Bool, true, false, ◌&&◌, Decides, MatchBool, List, refl, ap, subst}
use Rattle.std.specs.Bool.{beq}
use Rattle.std.specs.Cmp.{booleans_Decides}
use Rattle.std.specs.Cmp.Lexicographic.{pointwise, pointwise_decides}
use Rattle.std.proofs.lemmas.Bool.{false≢true}
use Rattle.std.proofs.lemmas.Bool.Decides.{Decides-and}
use Rattle.pv_base.specs.declared.literal.Literal.{Literal}
use Rattle.pv_base.specs.Canonical.{IsExact}
use Rattle.pv_base.specs.Polyvalue.{Case}
use Rattle.pv_cases.proofs.TxnTests.{equal_txn, txn-decided}

-- as the derived `==` tests it
abbrev equal_literal : Literal → Literal → Bool
equal_literal a b = equal_txn a.txn b.txn && beq a.commits b.commits

literal-decided : (a b : Literal) → Decides (equal_literal a b) (a ≡ b)
literal-decided a b =
    let both = Decides-and (equal_txn a.txn b.txn) (beq a.commits b.commits) (txn-decided a.txn b.txn) (booleans_Decides a.commits b.commits) in (
      λ test. let parts = both.0 test in λ i. record { txn = parts.0 i; commits = parts.1 i },
      λ same. both.1 (ap (λ (literal : Literal). literal.txn) same, ap (λ (literal : Literal). literal.commits) same),
    )

module _ {V : Type 0} {same : V → V → Bool} (is : IsExact same) where
  pub case-decided : (c d : Case V) → Decides (pointwise equal_literal c.when d.when && same c.value d.value) (c ≡ d)
  case-decided c d =
      let both = Decides-and (pointwise equal_literal c.when d.when) (same c.value d.value) (pointwise_decides literal-decided c.when d.when)
      (is.exact c.value d.value, λ equal. subst (λ v. same c.value v ≡ true) equal (is.itself c.value)) in (
        λ test. let parts = both.0 test in λ i. record { when = parts.0 i; value = parts.1 i },
        λ equal. both.1 (ap (λ (case : Case V). case.when) equal, ap (λ (case : Case V). case.value) equal),
      )

  pub cases-decided : (cases others : List (Case V)) → Decides (pointwise (λ (c d : Case V). pointwise equal_literal c.when d.when && same c.value d.value) cases others) (cases ≡ others)
  cases-decided = pointwise_decides case-decided

-- A test that decides a fact says whether it holds.
pub told : {P : Type 0} (b : Bool) → Decides b P → MatchBool b P (P → ⊥)
told true decides = decides.0 refl
told false decides = λ p. false≢true (decides.1 p)
