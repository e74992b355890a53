-- How many transactions several polyvalues name together.
use Rattle.std.proofs.Common.{◌⊎◌, ⊎_elim, inl, inr, ℕ, ◌+◌, ◌*◌, ◌≤◌, ℤ, All, List, [], ◌∷◌, ◌++◌, length, length-append, mul-suc, arith}
use Rattle.std.specs.List.{Contains, flat_map}
use Rattle.std.proofs.lemmas.List.Elements.{Contains-append_left, Contains-append_right}
use Rattle.pv_base.specs.Named.{names_of, txns_in}
use Rattle.pv_base.specs.Polyvalue.{Case, IsPolyvalue}
use Rattle.pv_base.specs.declared.txn.TxnId.{TxnId}
use Rattle.pv_law_polyvalues.proofs.AscendingLemmas.{fewer-ascending}
use Rattle.pv_law_step.proofs.Lists.{all-head, all-tail}
use Rattle.pv_law_step.proofs.NameLists.{names-are, names-ascend, united}

named-in-one : (front back : List (Case ℤ)) (t : TxnId) → Contains (names_of (front ++ back)) t → Contains (names_of front) t ⊎ Contains (names_of back) t
named-in-one [] back t has = inr has
named-in-one (case ∷ front) back t has =
    let kept = united (txns_in case.when) (names_of front) (names-ascend front) in
    ⊎_elim (λ here. inl (kept.left t here))
    (λ later. ⊎_elim (λ before. inl (kept.right t before)) (λ behind. inr behind) (named-in-one front back t later))
    ((united (txns_in case.when) (names_of (front ++ back)) (names-ascend (front ++ back))).only t has)

pub names-of-two : (front back : List (Case ℤ)) → length (names_of (front ++ back)) ≤ length (names_of front) + length (names_of back)
names-of-two front back =
    let fewer =
    fewer-ascending (names_of (front ++ back)) (names_of front ++ names_of back) (names-ascend (front ++ back))
    (λ t has. ⊎_elim (Contains-append_left (names_of front) (names_of back) t) (Contains-append_right (names_of front) (names_of back) t) (named-in-one front back t has))
    in
    omega (arith, fewer, length-append (names_of front) (names_of back))

-- Values that each name so many transactions at most name at most so many each together.
pub names-of-all : {A : Type 0} (cases_of : A → List (Case ℤ)) (most : ℕ) (things : List A) → All (λ thing. length (names_of (cases_of thing)) ≤ most) things
    → length (names_of (flat_map cases_of things)) ≤ most * length things
names-of-all cases_of most [] few = omega arith
names-of-all cases_of most (thing ∷ things) few =
    let first = all-head (λ x. length (names_of (cases_of x)) ≤ most) thing things few in
    let rest = names-of-all cases_of most things (all-tail (λ x. length (names_of (cases_of x)) ≤ most) thing things few) in
    let two = names-of-two (cases_of thing) (flat_map cases_of things) in
    omega (arith, first, rest, two, mul-suc most (length things))

-- A polyvalue names few.
pub polyvalue-names : (limit : ℕ) (cases : List (Case ℤ)) → IsPolyvalue limit cases → length (names_of cases) ≤ limit
polyvalue-names limit cases is = is.few (names_of cases) (names-are cases)
