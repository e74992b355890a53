-- Two canonical cases are a choice between two values by one transaction.
use Rattle.std.proofs.Common.{◌≡◌, Bool, true, false, List, [], ◌∷◌, ◌++◌, Some, if◌then◌else◌, length, get_or, refl, sym, ap, subst, ◌∙◌, arith}
use Rattle.pv_base.specs.declared.literal.Literal.{Literal}
use Rattle.pv_base.specs.declared.txn.TxnId.{TxnId}
use Rattle.pv_base.specs.Assignment.{commits}
use Rattle.pv_base.specs.Polyvalue.{Case, IsCanonical, sure, tested, under, value_at}
use Rattle.pv_cases.specs.Sides.{AreSides}
use Rattle.pv_cases.proofs.CaseCounts.{length-tested, some_case}
use Rattle.pv_cases.proofs.TestLemmas.{test-value}
use Rattle.pv_cases.proofs.TestedCases.{IsTested}
use Rattle.pv_tree.proofs.RootLemmas.{one-alone}

module _ {V : Type 0} where
  -- the cases of one value
  abbrev pub alone : V → List (Case V)
  alone value = record { when = []; value = value } ∷ []

  -- The cases are those of a choice.
  pub record AreTwo (cases : List (Case V)) : Type 0 where
    pub txn : TxnId
    pub before : V
    pub after : V
    pub tested : IsTested txn (alone before) (alone after) cases

  pub two-tested : (cases : List (Case V)) → IsCanonical cases → length cases ≡ 2 → AreTwo cases
  two-tested cases (sure value) two = absurd (omega (arith, two))
  two-tested cases (tested txn aborted committed f b fb bb d) two =
      let front = one-alone aborted (omega (arith, some_case f, some_case b, length-tested txn aborted committed, two)) f in
      let back = one-alone committed (omega (arith, some_case f, some_case b, length-tested txn aborted committed, two)) b in
      let sides : AreSides txn aborted committed = record { aborted_canonical = f; committed_canonical = b; aborted_after = fb; committed_after = bb; differ = d } in
      record {
        txn = txn;
        before = front.0;
        after = back.0;
        tested = subst (λ (first : List (Case V)). IsTested txn first (alone back.0) (under txn false aborted ++ under txn true committed)) front.1
            (subst (λ (second : List (Case V)). IsTested txn aborted second (under txn false aborted ++ under txn true committed)) back.1
            (record { is = refl; sides = sides }));
      }

  -- What is read of two cases.

  first-of : (cases : List (Case V)) (is : AreTwo cases) (x : Case V) → x ≡ get_or cases 0 x → x ≡ record { when = record { txn = is.txn; commits = false } ∷ []; value = is.before }
  first-of cases is x read = read ∙ ap (λ (list : List (Case V)). get_or list 0 x) is.tested.is

  second-of : (cases : List (Case V)) (is : AreTwo cases) (x : Case V) → x ≡ get_or cases 1 x → x ≡ record { when = record { txn = is.txn; commits = true } ∷ []; value = is.after }
  second-of cases is x read = read ∙ ap (λ (list : List (Case V)). get_or list 1 x) is.tested.is

  pub two-when : (cases : List (Case V)) (x : Case V) (when : List Literal) → IsCanonical cases → length cases ≡ 2 → x ≡ get_or cases 0 x → when ≡ x.when → length when ≡ 1
  two-when cases x when canonical two read is =
      ap length is ∙ ap (λ (case : Case V). length case.when) (first-of cases (two-tested cases canonical two) x read)

  pub two-read : (cases : List (Case V)) (x y : Case V) (when : List Literal) (literal : Literal) (txn : TxnId) (before after : V) → IsCanonical cases → length cases ≡ 2
      → x ≡ get_or cases 0 x → y ≡ get_or cases 1 y → when ≡ x.when → literal ≡ get_or when 0 literal → txn ≡ literal.txn → before ≡ x.value → after ≡ y.value
      → IsTested txn (alone before) (alone after) cases
  two-read cases x y when literal txn before after canonical two first second is-when is-literal is-txn is-before is-after =
      let is = two-tested cases canonical two in
      let front = first-of cases is x first in
      let found : literal ≡ record { txn = is.txn; commits = false } =
      is-literal ∙ ap (λ (list : List Literal). get_or list 0 literal) (is-when ∙ ap (λ (case : Case V). case.when) front) in
      subst (λ (t : TxnId). IsTested t (alone before) (alone after) cases) (sym (is-txn ∙ ap (λ (l : Literal). l.txn) found))
      (subst (λ (v : V). IsTested is.txn (alone v) (alone after) cases) (sym (is-before ∙ ap (λ (case : Case V). case.value) front))
      (subst (λ (v : V). IsTested is.txn (alone is.before) (alone v) cases) (sym (is-after ∙ ap (λ (case : Case V). case.value) (second-of cases is y second)))
      is.tested))

  -- The value at an assignment is one of the two.

  pub two-committed : (cases : List (Case V)) (txn : TxnId) (before after : V) (a : List TxnId) → IsTested txn (alone before) (alone after) cases → commits a txn ≡ true
      → value_at cases a ≡ Some after
  two-committed cases txn before after a is commits-too =
      test-value is a ∙ ap (λ (o : Bool). value_at (if o then alone after else alone before) a) commits-too

  pub two-aborted : (cases : List (Case V)) (txn : TxnId) (before after : V) (a : List TxnId) → IsTested txn (alone before) (alone after) cases → commits a txn ≡ false
      → value_at cases a ≡ Some before
  two-aborted cases txn before after a is aborts =
      test-value is a ∙ ap (λ (o : Bool). value_at (if o then alone after else alone before) a) aborts
