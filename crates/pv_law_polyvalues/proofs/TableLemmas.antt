-- Tables of the values of cases: cases are known everywhere by their values at the assignments of the transactions that they name.
use Rattle.std.proofs.Common.{◌≡◌, ⊎_elim, ◌^◌, Bool, true, false, Option, Some, List, [], ◌∷◌, cond, length, replicate, refl, sym, ap, subst, ◌∙◌, arith}
use Rattle.std.specs.Prelude.{IsTrue, ◌++◌, map, if◌then◌else◌, All}
use Rattle.std.specs.List.{Contains, filter}
use Rattle.std.specs.Cmp.{both_ways}
use Rattle.std.proofs.Math.Nat.{pow-suc}
use Rattle.std.proofs.lemmas.Bool.{or_cases, or_left, or_right, false≢true}
use Rattle.std.proofs.lemmas.List.{length-append, length-map, map-append}
use Rattle.std.proofs.lemmas.List.Elements.{All-contains, Contains-append_left, Contains-append_right, Contains-append_cases, filter_passes}
use Rattle.pv_base.specs.declared.txn.TxnId.{TxnId}
use Rattle.pv_base.specs.Assignment.{is_same_txn, precedes, commits, assignments}
use Rattle.pv_base.specs.Polyvalue.{Case, value_at, names, NamesOnlyAfter, under, AreSameEverywhere, AreValues}
use Rattle.pv_base.proofs.MapLemmas.{Contains-map, Contains-unmap, map-same, same-mapped, map-map, map-constant, map-replicate, Somes-same}
use Rattle.pv_base.proofs.ContainsLemmas.{Contains-first, Contains-behind, Contains-nil, Contains-cases, Contains-filter}
use Rattle.pv_base.proofs.AssignmentLemmas.{same-refl, same-eq, precedes-other}
use Rattle.pv_law_polyvalues.proofs.PolyvalueLemmas.{value_at-agree, value_at-tested, behind-unnamed, unnamed-free}

-- What commits.

pub commits-contained : (a : List TxnId) (t : TxnId) → commits a t ≡ true → Contains a t
commits-contained [] t h = absurd (false≢true h)
commits-contained (u ∷ us) t h =
    ⊎_elim
    (λ same. subst (Contains (u ∷ us)) (same-eq same) (Contains-first u us))
    (λ behind. Contains-behind u us t (commits-contained us t behind))
    (or_cases (is_same_txn u t) (commits us t) h)

pub contained-commits : (a : List TxnId) (t : TxnId) → Contains a t → commits a t ≡ true
contained-commits [] t h = absurd (Contains-nil t h)
contained-commits (u ∷ us) t h =
    ⊎_elim
    (λ same. or_left (is_same_txn u t) (commits us t) (subst (λ z. is_same_txn u z ≡ true) same (same-refl u)))
    (λ behind. or_right (is_same_txn u t) (commits us t) (contained-commits us t behind))
    (Contains-cases u us t h)

-- The assignments of transactions.

pub length-assignments : (txns : List TxnId) → length (assignments txns) ≡ 2 ^ length txns
length-assignments [] = refl
length-assignments (t ∷ ts) =
    omega (
      arith,
      length-append (assignments ts) (map (λ a. t ∷ a) (assignments ts)),
      length-map (assignments ts) (λ a. t ∷ a),
      length-assignments ts,
      pow-suc 2 (length ts),
    )

-- Of the assignments of one transaction more, each is one of the others, or one with that transaction in front.
chosen-step : (b : Bool) (t : TxnId) (ts chosen : List TxnId) → Contains (assignments ts) chosen → Contains (assignments (t ∷ ts)) (cond b (t ∷ chosen) chosen)
chosen-step true t ts chosen h =
    Contains-append_right (assignments ts) (map (λ a. t ∷ a) (assignments ts)) (t ∷ chosen) (Contains-map (λ a. t ∷ a) (assignments ts) chosen h)
chosen-step false t ts chosen h =
    Contains-append_left (assignments ts) (map (λ a. t ∷ a) (assignments ts)) chosen h

-- The transactions that commit in an assignment are one of the assignments.
pub chosen-is-assignment : (a : List TxnId) (txns : List TxnId) → Contains (assignments txns) (filter (λ t. commits a t) txns)
chosen-is-assignment a [] = Contains-first [] []
chosen-is-assignment a (t ∷ ts) = chosen-step (commits a t) t ts (filter (λ t. commits a t) ts) (chosen-is-assignment a ts)

pub chosen-agrees : (a : List TxnId) (txns : List TxnId) (t : TxnId) → Contains txns t → commits (filter (λ u. commits a u) txns) t ≡ commits a t
chosen-agrees a txns t h =
    let chosen = filter (λ u. commits a u) txns in
    both_ways (commits chosen t) (commits a t)
    (λ is. All-contains (λ u. commits a u ≡ true) chosen t (filter_passes (λ u. commits a u) txns) (commits-contained chosen t is))
    (λ is. contained-commits chosen t (Contains-filter (λ u. commits a u) txns t is h))

-- What commits in one of the assignments is one of the transactions.
pub assigned-listed : (txns : List TxnId) (a : List TxnId) → Contains (assignments txns) a → (t : TxnId) → Contains a t → Contains txns t
assigned-listed [] a h t in-a =
    ⊎_elim
    (λ same. absurd (Contains-nil t (subst (λ z. Contains z t) (sym same) in-a)))
    (λ behind. absurd (Contains-nil a behind))
    (Contains-cases [] [] a h)
assigned-listed (u ∷ us) a h t in-a =
    ⊎_elim
    (λ front. Contains-behind u us t (assigned-listed us a front t in-a))
    (λ back. let found = Contains-unmap (λ b. u ∷ b) (assignments us) a back in
    ⊎_elim
    (λ same. subst (Contains (u ∷ us)) same (Contains-first u us))
    (λ behind. Contains-behind u us t (assigned-listed us found.0 found.1.0 t behind))
    (Contains-cases u found.0 t (subst (λ z. Contains z t) (sym found.1.1) in-a)))
    (Contains-append_cases (assignments us) (map (λ b. u ∷ b) (assignments us)) a h)

-- A transaction before all of these commits in none of their assignments.
pub before-aborts : (t : TxnId) (txns : List TxnId) → All (λ u. IsTrue (precedes t u)) txns → (a : List TxnId) → Contains (assignments txns) a → commits a t ≡ false
before-aborts t txns before a h =
    both_ways (commits a t) false
    (λ is. sym (precedes-other t t (All-contains (λ u. IsTrue (precedes t u)) txns t before (assigned-listed txns a h t (commits-contained a t is)))) ∙ same-refl t)
    (λ is. absurd (false≢true is))

module _ {V : Type 0} where
  -- Cases are known by their tables.

  -- The value at an assignment is that at the one among the assignments of these transactions that agrees with it.
  pub value_at-chosen : (cases : List (Case V)) (txns : List TxnId) → ((t : TxnId) → IsTrue (names cases t) → Contains txns t)
      → (a : List TxnId) → value_at cases (filter (λ t. commits a t) txns) ≡ value_at cases a
  value_at-chosen cases txns named a =
      value_at-agree cases (filter (λ t. commits a t) txns) a (λ t is. chosen-agrees a txns t (named t is))

  pub same-by-values : (cases others : List (Case V)) (txns : List TxnId) → ((t : TxnId) → IsTrue (names cases t) → Contains txns t)
      → ((t : TxnId) → IsTrue (names others t) → Contains txns t)
      → map (value_at cases) (assignments txns) ≡ map (value_at others) (assignments txns) → AreSameEverywhere cases others
  same-by-values cases others txns named named-too same a =
      sym (value_at-chosen cases txns named a)
      ∙ same-mapped (value_at cases) (value_at others) (assignments txns) same (filter (λ t. commits a t) txns) (chosen-is-assignment a txns)
      ∙ value_at-chosen others txns named-too a

  pub everywhere-by-values : (P : Option V → Type 0) (cases : List (Case V)) (txns : List TxnId) → ((t : TxnId) → IsTrue (names cases t) → Contains txns t)
      → All P (map (value_at cases) (assignments txns)) → (a : List TxnId) → P (value_at cases a)
  everywhere-by-values P cases txns named all a =
      subst P (value_at-chosen cases txns named a)
      (All-contains P (map (value_at cases) (assignments txns)) (value_at cases (filter (λ t. commits a t) txns)) all
      (Contains-map (value_at cases) (assignments txns) (filter (λ t. commits a t) txns) (chosen-is-assignment a txns)))

  -- How the table of cases is made of those of their parts.

  pub values-sure : (txns : List TxnId) (v : V) → AreValues (record { when = []; value = v } ∷ []) txns (replicate (2 ^ length txns) v)
  values-sure txns v =
      map-replicate Some v (2 ^ length txns)
      ∙ sym (map-constant (Some v) (assignments txns) (2 ^ length txns) (length-assignments txns))

  -- A test on a transaction before these takes its front side.
  pub values-before : (t : TxnId) (rest : List TxnId) (front back : List (Case V)) (xs : List V)
      → All (λ u. IsTrue (precedes t u)) rest → AreValues front rest xs → AreValues (under t false front ++ under t true back) rest xs
  values-before t rest front back xs before are =
      are
      ∙ map-same (value_at front) (value_at (under t false front ++ under t true back)) (assignments rest)
      (λ a h. sym (value_at-tested t front back a ∙ ap (λ b. value_at (if b then back else front) a) (before-aborts t rest before a h)))

  -- The table of the assignments in which a first transaction commits.
  values-committed : (t : TxnId) (rest : List TxnId) (cases back : List (Case V)) (ys : List V)
      → ((a : List TxnId) → value_at cases (t ∷ a) ≡ value_at back a) → AreValues back rest ys
      → map Some ys ≡ map (value_at cases) (map (λ a. t ∷ a) (assignments rest))
  values-committed t rest cases back ys same are =
      are
      ∙ map-same (value_at back) (λ a. value_at cases (t ∷ a)) (assignments rest) (λ a h. sym (same a))
      ∙ sym (map-map (value_at cases) (λ a. t ∷ a) (assignments rest))

  -- A table is that of the assignments without the first transaction, and then that of those with it.
  values-both : (t : TxnId) (rest : List TxnId) (cases : List (Case V)) (xs ys : List V) → AreValues cases rest xs
      → map Some ys ≡ map (value_at cases) (map (λ a. t ∷ a) (assignments rest)) → AreValues cases (t ∷ rest) (xs ++ ys)
  values-both t rest cases xs ys front back =
      map-append Some xs ys
      ∙ ap (λ zs. zs ++ map Some ys) front
      ∙ ap (λ zs. map (value_at cases) (assignments rest) ++ zs) back
      ∙ sym (map-append (value_at cases) (assignments rest) (map (λ a. t ∷ a) (assignments rest)))

  -- A transaction that isn't named doubles the table.
  pub values-skip : (t : TxnId) (rest : List TxnId) (cases : List (Case V)) (xs : List V) → names cases t ≡ false
      → AreValues cases rest xs → AreValues cases (t ∷ rest) (xs ++ xs)
  values-skip t rest cases xs unnamed are =
      values-both t rest cases xs xs are
      (values-committed t rest cases cases xs (λ a. unnamed-free t cases unnamed true a) are)

  -- The table of a test is that of its front, and then that of its back.
  pub values-tested : (t : TxnId) (rest : List TxnId) (front back : List (Case V)) (xs ys : List V) → NamesOnlyAfter t front → NamesOnlyAfter t back
      → All (λ u. IsTrue (precedes t u)) rest → AreValues front rest xs → AreValues back rest ys
      → AreValues (under t false front ++ under t true back) (t ∷ rest) (xs ++ ys)
  values-tested t rest front back xs ys behind behind-too before are them =
      values-both t rest (under t false front ++ under t true back) xs ys
      (values-before t rest front back xs before are)
      (values-committed t rest (under t false front ++ under t true back) back ys
      (λ a. value_at-tested t front back (t ∷ a)
      ∙ ap (λ b. value_at (if b then back else front) (t ∷ a)) (or_left (is_same_txn t t) (commits a t) (same-refl t))
      ∙ unnamed-free t back (behind-unnamed t back behind-too) true a)
      them)

  pub length-values : (cases : List (Case V)) (txns : List TxnId) (values : List V) → AreValues cases txns values → length values ≡ 2 ^ length txns
  length-values cases txns values are =
      sym (length-map values Some) ∙ ap length are ∙ length-map (assignments txns) (value_at cases) ∙ length-assignments txns

  pub one-values : (cases : List (Case V)) (txns : List TxnId) (values others : List V) → AreValues cases txns values → AreValues cases txns others → values ≡ others
  one-values cases txns values others are them = Somes-same values others (are ∙ sym them)
