-- Cases are compared exactly where values are.
use Rattle.std.proofs.Common.{◌≡◌, Bool, true, false, List, refl, subst}
use Rattle.std.specs.Bool.{beq}
use Rattle.std.specs.Cmp.Lexicographic.{pointwise, pointwise_decides}
use Rattle.std.proofs.lemmas.Bool.{and_parts, and_from, false≢true}
use Rattle.pv_base.specs.Assignment.{is_same_txn}
use Rattle.pv_base.specs.Canonical.{IsExact, is_same_literal, is_same_case, are_same_cases}
use Rattle.pv_base.specs.Polyvalue.{Case}
use Rattle.pv_base.proofs.AssignmentLemmas.{same-refl, same-eq}

beq-same : (b c : Bool) → beq b c ≡ true → b ≡ c
beq-same true true h = refl
beq-same true false h = absurd (false≢true h)
beq-same false true h = absurd (false≢true h)
beq-same false false h = refl

beq-itself : (b : Bool) → beq b b ≡ true
beq-itself true = refl
beq-itself false = refl

-- the test holds exactly of what is one
abbrev Tells : {X : Type 0} → (X → X → Bool) → Type 0
Tells {X} test = (x y : X) → (test x y ≡ true → x ≡ y) × (x ≡ y → test x y ≡ true)

tells-by : {X : Type 0} (test : X → X → Bool) → ((x y : X) → test x y ≡ true → x ≡ y) → ((x : X) → test x x ≡ true) → Tells test
tells-by test exact itself x y = (exact x y, λ same. subst (λ z. test x z ≡ true) same (itself x))

literals-tell : Tells is_same_literal
literals-tell =
    tells-by is_same_literal
    (λ l m h. let parts = and_parts (is_same_txn l.txn m.txn) (beq l.commits m.commits) h in
    λ i. record { txn = same-eq {t = l.txn} {u = m.txn} parts.0 i; commits = beq-same l.commits m.commits parts.1 i })
    (λ l. and_from _ _ (same-refl l.txn) (beq-itself l.commits))

module _ {V : Type 0} {same : V → V → Bool} (is : IsExact same) where
  cases-tell : Tells (is_same_case same)
  cases-tell =
      tells-by (is_same_case same)
      (λ c d h. let parts = and_parts (pointwise is_same_literal c.when d.when) (same c.value d.value) h in
      λ i. record { when = (pointwise_decides literals-tell c.when d.when).0 parts.0 i; value = is.exact c.value d.value parts.1 i })
      (λ c. and_from _ _ ((pointwise_decides literals-tell c.when c.when).1 refl) (is.itself c.value))

  pub same-cases : (cases others : List (Case V)) → (are_same_cases same cases others ≡ true → cases ≡ others) × (cases ≡ others → are_same_cases same cases others ≡ true)
  same-cases cases others = pointwise_decides cases-tell cases others

  pub same-cases-exact : IsExact (are_same_cases same)
  same-cases-exact = record {
    exact = λ cases others h. (same-cases cases others).0 h;
    itself = λ cases. (same-cases cases cases).1 refl;
  }
