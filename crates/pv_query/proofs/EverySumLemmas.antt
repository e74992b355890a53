-- The sums are those at all assignments: each assignment has its sum among them, and each of them is the sum at some assignment.
use Rattle.std.proofs.Common.{◌≡◌, List, [], ◌∷◌, refl, ap, ap₂, subst, ◌∙◌}
use Rattle.std.specs.Prelude.{ℤ, pos, ◌+ℤ◌, map, All, Option, IsTrue, ◌++◌, ◌||◌, unwrap_or}
use Rattle.std.specs.List.{Contains, filter, list_any}
use Rattle.std.specs.Ordering.{int_eq}
use Rattle.std.proofs.lemmas.Bool.{or_left, or_right}
use Rattle.std.proofs.lemmas.List.Elements.{All-weaker, All-contains_itself}
use Rattle.std.proofs.lemmas.List.Folds.{list_any-append}
use Rattle.pv_base.specs.declared.literal.Literal.{Literal}
use Rattle.pv_base.specs.declared.txn.TxnId.{TxnId}
use Rattle.pv_base.specs.Assignment.{is_same_txn, commits, assignments}
use Rattle.pv_base.specs.Polyvalue.{Case, names, AreNames}
use Rattle.pv_model.specs.PossibleAnswers.{sum_at, sums}
use Rattle.pv_base.proofs.MapLemmas.{Contains-map, Contains-unmap}
use Rattle.pv_law_polyvalues.proofs.TableLemmas.{chosen-is-assignment, value_at-chosen}
use Rattle.pv_query.specs.AllSums.{together}
use Rattle.pv_query.proofs.RepeatLemmas.{Contains-repeats, Contains-from-repeats}
use Rattle.pv_law_polyvalues.proofs.ExistenceLemmas.{numbers-exact}

-- Two lists of cases name together what either names.
names-either : (cases others : List (Case ℤ)) (txn : TxnId)
    → names (cases ++ others) txn ≡ (names cases txn || names others txn)
names-either cases others txn = list_any-append (λ (case : Case ℤ). list_any (λ (literal : Literal). is_same_txn txn literal.txn) case.when) cases others

-- The sum at an assignment is that at the one among the assignments of these transactions that agrees with it.
sum_at-chosen : (values : List (List (Case ℤ))) (txns : List TxnId) → ((txn : TxnId) → IsTrue (names (together values) txn) → Contains txns txn)
    → (a : List TxnId) → sum_at values (filter (λ txn. commits a txn) txns) ≡ sum_at values a
sum_at-chosen [] txns named a = refl
sum_at-chosen (value ∷ values) txns named a =
    let rest = together values in
    ap₂ (λ (n m : ℤ). n +ℤ m)
    (ap (λ (o : Option ℤ). unwrap_or o (pos 0))
    (value_at-chosen value txns (λ txn own. named txn (names-either value rest txn ∙ or_left (names value txn) (names rest txn) own)) a))
    (sum_at-chosen values txns (λ txn other. named txn (names-either value rest txn ∙ or_right (names value txn) (names rest txn) other)) a)

-- Each assignment has its sum among them.
pub every-sum : (values : List (List (Case ℤ))) (txns : List TxnId) → AreNames (together values) txns
    → (a : List TxnId) → Contains (sums values txns) (sum_at values a)
every-sum values txns are a =
    let chosen = filter (λ txn. commits a txn) txns in
    Contains-repeats int_eq numbers-exact.exact (map (sum_at values) (assignments txns)) (sum_at values a)
    (subst (Contains (map (sum_at values) (assignments txns))) (sum_at-chosen values txns are.whole a)
    (Contains-map (sum_at values) (assignments txns) chosen (chosen-is-assignment a txns)))

sum-somewhere : (values : List (List (Case ℤ))) (txns : List TxnId) (n : ℤ) → Contains (sums values txns) n
    → (a : List TxnId) × (sum_at values a ≡ n)
sum-somewhere values txns n h =
    let found = Contains-unmap (sum_at values) (assignments txns) n (Contains-from-repeats int_eq (map (sum_at values) (assignments txns)) n h) in
    (found.0, found.1.1)

-- Each of them is the sum at some assignment.
pub each-sum : (values : List (List (Case ℤ))) (txns : List TxnId)
    → All (λ n. (a : List TxnId) × (sum_at values a ≡ n)) (sums values txns)
each-sum values txns =
    All-weaker (Contains (sums values txns)) (λ n. (a : List TxnId) × (sum_at values a ≡ n)) (sum-somewhere values txns)
    (sums values txns) (All-contains_itself (sums values txns))
