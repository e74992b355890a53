-- Canonical cases stand in the order of the leaves of a decision tree.
use Rattle.std.proofs.Common.{◌≡◌, ℕ, zero, suc, ◌+◌, ◌^◌, ◌<◌, ◌-◌, ◌==◌, ◌≤◌, ℤ, Bool, true, false, ◌&&◌, ◌||◌, List, [], ◌∷◌, ◌++◌, length, drop, get_or, nat_le, All, eq-eqb, refl, sym, ap, ◌∙◌, arith}
use Rattle.std.specs.Bool.{beq}
use Rattle.std.specs.List.{list_all, list_any}
use Rattle.std.proofs.lemmas.Bool.{le-leb}
use Rattle.std.proofs.lemmas.Bool.Decides.{nat_tests}
use Rattle.std.proofs.lemmas.List.Elements.{All-head, All-tail}
use Rattle.pv_base.specs.Assignment.{is_same_txn, precedes}
use Rattle.pv_base.specs.Polyvalue.{Case, names, under, IsCanonical, IsPolyvalue, sure, tested}
use Rattle.pv_base.specs.declared.limits.TheConstants.{HELD_NAMES}
use Rattle.pv_base.specs.declared.literal.Literal.{Literal}
use Rattle.pv_base.specs.declared.txn.TxnId.{TxnId}
use Rattle.pv_law_format.proofs.CaseCount.{polyvalue-few}
use Rattle.pv_replay.specs.Order.{are_in_order, ascends, looks_canonical, stands_before}

beq_self : (b : Bool) → beq b b ≡ true
beq_self true = refl
beq_self false = refl

-- The first of two true tests.
left_true : (a b : Bool) → (a && b) ≡ true → a ≡ true
left_true true b both = refl
left_true false b both = both

right_true : (a b : Bool) → (a && b) ≡ true → b ≡ true
right_true true b both = both
right_true false b both = cc

both_true : (a b : Bool) → a ≡ true → b ≡ true → (a && b) ≡ true
both_true true b first second = second
both_true false b first second = first

or_true : (a b : Bool) → a ≡ true → (a || b) ≡ true
or_true true b first = refl
or_true false b first = cc

true_or : (a b : Bool) → b ≡ true → (a || b) ≡ true
true_or true b second = refl
true_or false b second = second

same_self : (txn : TxnId) → is_same_txn txn txn ≡ true
same_self txn =
    both_true (txn.site.0 == txn.site.0 && txn.epoch == txn.epoch) (txn.number == txn.number)
    (both_true (txn.site.0 == txn.site.0) (txn.epoch == txn.epoch) (eq-eqb txn.site.0 txn.site.0 refl) (eq-eqb txn.epoch txn.epoch refl))
    (eq-eqb txn.number txn.number refl)

-- The same literal in front of both changes nothing.
before_under : (literal : Literal) (when other : List Literal) → stands_before (literal ∷ when) (literal ∷ other) ≡ stands_before when other
before_under literal when other = rw (same_self literal.txn, beq_self literal.commits) refl

order_under : (txn : TxnId) (outcome : Bool) (cases : List (Case ℤ)) → are_in_order (under txn outcome cases) ≡ are_in_order cases
order_under txn outcome [] = refl
order_under txn outcome (case ∷ []) = refl
order_under txn outcome (case ∷ next ∷ cases) =
    let first = before_under (record { txn = txn; commits = outcome }) case.when next.when in
    let rest = order_under txn outcome (next ∷ cases) in
    (λ i. first i && rest i)

-- Cases in which a transaction doesn't commit stand before those in which it does.
order_both : (txn : TxnId) (front back : List (Case ℤ)) → are_in_order (under txn false front) ≡ true → are_in_order (under txn true back) ≡ true
    → are_in_order (under txn false front ++ under txn true back) ≡ true
order_both txn [] back first second = second
order_both txn (case ∷ []) [] first second = refl
order_both txn (case ∷ []) (next ∷ back) first second = rw (same_self txn) second
order_both txn (case ∷ next ∷ front) back first second =
    let here = left_true (stands_before (record { txn = txn; commits = false } ∷ case.when) (record { txn = txn; commits = false } ∷ next.when))
    (are_in_order (under txn false (next ∷ front))) first in
    let rest = right_true (stands_before (record { txn = txn; commits = false } ∷ case.when) (record { txn = txn; commits = false } ∷ next.when))
    (are_in_order (under txn false (next ∷ front))) first in
    both_true _ _ here (order_both txn (next ∷ front) back rest second)

-- Canonical cases are in order.
pub canonical_order : (cases : List (Case ℤ)) → IsCanonical cases → are_in_order cases ≡ true
canonical_order cases (sure value) = refl
canonical_order cases (tested txn front back front_is back_is front_later back_later differ) =
    order_both txn front back (order_under txn false front ∙ canonical_order front front_is) (order_under txn true back ∙ canonical_order back back_is)

-- Cases from a place on are in order, by the first two of them and the rest.
order_from : (cases : List (Case ℤ)) (k : ℕ) (left right : Case ℤ) → suc k < length cases → left ≡ get_or cases k left → right ≡ get_or cases (suc k) right
    → are_in_order (drop k cases) ≡ (stands_before left.when right.when && are_in_order (drop (suc k) cases))
order_from [] k left right inside left_is right_is = absurd (omega arith)
order_from (case ∷ []) k left right inside left_is right_is = absurd (omega arith)
order_from (case ∷ next ∷ cases) zero left right inside left_is right_is =
    λ i. stands_before ((sym left_is) i).when ((sym right_is) i).when && are_in_order (next ∷ cases)
order_from (case ∷ next ∷ cases) (suc k) left right inside left_is right_is = order_from (next ∷ cases) k left right (omega arith) left_is right_is

order_step : (cases : List (Case ℤ)) (place : ℕ) (left right : Case ℤ) → 0 < place → place < length cases → left ≡ get_or cases (place - 1) left
    → right ≡ get_or cases place right → are_in_order (drop (place - 1) cases) ≡ (stands_before left.when right.when && are_in_order (drop place cases))
order_step cases place left right some inside left_is right_is =
    let next : suc (place - 1) ≡ place = omega arith in
    order_from cases (place - 1) left right (omega arith) left_is (right_is ∙ ap (λ n. get_or cases n right) (sym next))
    ∙ ap (λ n. stands_before left.when right.when && are_in_order (drop n cases)) next

module _ (cases : List (Case ℤ)) (place : ℕ) (left right : Case ℤ) (first second : List Literal) (some : 0 < place) (inside : place < length cases)
    (left_is : left ≡ get_or cases (place - 1) left) (right_is : right ≡ get_or cases place right) (first_is : first ≡ left.when) (second_is : second ≡ right.when)
    (sofar : are_in_order (drop (place - 1) cases) ≡ are_in_order cases) where
  step_by : (stands : Bool) → stands ≡ stands_before first second → are_in_order cases ≡ (stands && are_in_order (drop place cases))
  step_by stands is =
      sym sofar ∙ order_step cases place left right some inside left_is right_is
      ∙ (λ i. stands_before ((sym first_is) i) ((sym second_is) i) && are_in_order (drop place cases)) ∙ ap (λ b. b && are_in_order (drop place cases)) (sym is)

  -- One case doesn't stand before the next one.
  pub order_breaks : (stands : Bool) → stands ≡ stands_before first second → stands ≡ false → false ≡ are_in_order cases
  order_breaks stands is wrong = sym (step_by stands is ∙ ap (λ b. b && are_in_order (drop place cases)) wrong)

  -- It does, so all depends on those from the next one on.
  pub order_goes_on : (stands : Bool) → stands ≡ stands_before first second → stands ≡ true → are_in_order (drop ((place + 1) - 1) cases) ≡ are_in_order cases
  order_goes_on stands is holds =
      let same : (place + 1) - 1 ≡ place = omega arith in
      ap (λ n. are_in_order (drop n cases)) same ∙ sym (step_by stands is ∙ ap (λ b. b && are_in_order (drop place cases)) holds)

-- Less than two cases are in order.
pub order_end : (cases : List (Case ℤ)) (k : ℕ) → length cases ≤ suc k → are_in_order (drop k cases) ≡ true
order_end [] zero short = refl
order_end [] (suc k) short = refl
order_end (case ∷ []) zero short = refl
order_end (case ∷ []) (suc k) short = order_end [] k (omega arith)
order_end (case ∷ next ∷ cases) zero short = absurd (omega arith)
order_end (case ∷ next ∷ cases) (suc k) short = order_end (next ∷ cases) k (omega arith)

module _ (txn : TxnId) (outcome : Bool) where
  -- A condition with an earlier transaction in front still ascends.
  ascends_after : (when : List Literal) → ((named : TxnId) → list_any (λ literal. is_same_txn named literal.txn) when ≡ true → precedes txn named ≡ true)
      → ascends when ≡ true → ascends (record { txn = txn; commits = outcome } ∷ when) ≡ true
  ascends_after [] later ascending = refl
  ascends_after (literal ∷ literals) later ascending =
      both_true (precedes txn literal.txn) (ascends (literal ∷ literals))
      (later literal.txn (or_true (is_same_txn literal.txn literal.txn) (list_any (λ other. is_same_txn literal.txn other.txn) literals) (same_self literal.txn))) ascending

  -- The same of all cases.
  all_ascend_under : (cases : List (Case ℤ)) → ((named : TxnId) → names cases named ≡ true → precedes txn named ≡ true)
      → list_all (λ (case : Case ℤ). ascends case.when) cases ≡ true → list_all (λ (case : Case ℤ). ascends case.when) (under txn outcome cases) ≡ true
  all_ascend_under [] later ascending = refl
  all_ascend_under (case ∷ cases) later ascending =
      both_true (ascends (record { txn = txn; commits = outcome } ∷ case.when)) (list_all (λ (other : Case ℤ). ascends other.when) (under txn outcome cases))
      (ascends_after case.when
      (λ named here. later named (or_true (list_any (λ literal. is_same_txn named literal.txn) case.when) (names cases named) here))
      (left_true (ascends case.when) (list_all (λ (other : Case ℤ). ascends other.when) cases) ascending))
      (all_ascend_under cases
      (λ named there. later named (true_or (list_any (λ literal. is_same_txn named literal.txn) case.when) (names cases named) there))
      (right_true (ascends case.when) (list_all (λ (other : Case ℤ). ascends other.when) cases) ascending))

all_append : (xs ys : List (Case ℤ)) → list_all (λ (case : Case ℤ). ascends case.when) xs ≡ true → list_all (λ (case : Case ℤ). ascends case.when) ys ≡ true
    → list_all (λ (case : Case ℤ). ascends case.when) (xs ++ ys) ≡ true
all_append [] ys first second = second
all_append (x ∷ xs) ys first second =
    both_true (ascends x.when) (list_all (λ (case : Case ℤ). ascends case.when) (xs ++ ys)) (left_true (ascends x.when) (list_all (λ (case : Case ℤ). ascends case.when) xs) first)
    (all_append xs ys (right_true (ascends x.when) (list_all (λ (case : Case ℤ). ascends case.when) xs) first) second)

-- The conditions of canonical cases ascend.
pub canonical_ascend : (cases : List (Case ℤ)) → IsCanonical cases → list_all (λ (case : Case ℤ). ascends case.when) cases ≡ true
canonical_ascend cases (sure value) = refl
canonical_ascend cases (tested txn front back front_is back_is front_later back_later differ) =
    all_append (under txn false front) (under txn true back)
    (all_ascend_under txn false front front_later (canonical_ascend front front_is)) (all_ascend_under txn true back back_later (canonical_ascend back back_is))

all_few : (cases : List (Case ℤ)) → All (λ (case : Case ℤ). length case.when ≤ HELD_NAMES) cases → list_all (λ (case : Case ℤ). nat_le (length case.when) HELD_NAMES) cases ≡ true
all_few [] few = refl
all_few (case ∷ cases) few =
    let here : length case.when ≤ HELD_NAMES = All-head (λ (other : Case ℤ). length other.when ≤ HELD_NAMES) case cases few in
    both_true (nat_le (length case.when) HELD_NAMES) (list_all (λ (other : Case ℤ). nat_le (length other.when) HELD_NAMES) cases)
    (grind (arith, nat_tests)) (all_few cases (All-tail (λ (other : Case ℤ). length other.when ≤ HELD_NAMES) case cases few))

-- A polyvalue's cases look like one's.
pub polyvalue_looks : (cases : List (Case ℤ)) → IsPolyvalue HELD_NAMES cases → looks_canonical cases ≡ true
polyvalue_looks cases is =
    let few = polyvalue-few HELD_NAMES cases is in
    both_true (nat_le (length cases) (2 ^ HELD_NAMES) && list_all (λ (case : Case ℤ). nat_le (length case.when) HELD_NAMES) cases && list_all (λ (case : Case ℤ). ascends case.when) cases)
    (are_in_order cases)
    (both_true (nat_le (length cases) (2 ^ HELD_NAMES) && list_all (λ (case : Case ℤ). nat_le (length case.when) HELD_NAMES) cases) (list_all (λ (case : Case ℤ). ascends case.when) cases)
    (both_true (nat_le (length cases) (2 ^ HELD_NAMES)) (list_all (λ (case : Case ℤ). nat_le (length case.when) HELD_NAMES) cases) (le-leb (length cases) (2 ^ HELD_NAMES) few.count) (all_few cases few.literals))
    (canonical_ascend cases is.canonical))
    (canonical_order cases is.canonical)
