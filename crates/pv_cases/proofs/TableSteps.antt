-- How a table of values is put together from the tables of a tree's sides, and read from them.
use Rattle.std.proofs.Common.{◌≡◌, ⊎_elim, ◌⊎◌, ℕ, ◌+◌, ◌/◌, ◌^◌, suc, arith, false, List, ◌∷◌, ◌++◌, IsTrue, sym, ap, ap₂, ◌∙◌, subst, append_assoc}
use Rattle.std.specs.List.{All, Contains}
use Rattle.std.proofs.Math.Nat.{pow-suc}
use Rattle.pv_base.specs.declared.txn.TxnId.{TxnId}
use Rattle.pv_base.specs.Assignment.{precedes, assignments}
use Rattle.pv_base.specs.Polyvalue.{Case, names, NamesOnlyAfter, IsChoice, AreValues}
use Rattle.pv_base.proofs.AssignmentLemmas.{precedes-trans}
use Rattle.pv_law_polyvalues.proofs.AscendingLemmas.{Ascending, All-from_members, ascending-first}
use Rattle.pv_base.proofs.ContainsLemmas.{Contains-cases, Contains-first, Contains-behind}
use Rattle.pv_base.proofs.MapLemmas.{map-same}
use Rattle.pv_law_polyvalues.proofs.PolyvalueLemmas.{value_at-tested, behind-unnamed, names-tested}
use Rattle.pv_law_polyvalues.proofs.TableLemmas.{values-before, values-skip, values-tested, one-values}
use Rattle.pv_cases.proofs.CaseSplitLemmas.{first-before}
use Rattle.pv_cases.proofs.TestedCases.{IsTested}

-- what is before the first is before all
first-and-rest : (txn first : TxnId) (rest : List TxnId) → IsTrue (precedes txn first) → Ascending (first ∷ rest) →
    (u : TxnId) → Contains (first ∷ rest) u → IsTrue (precedes txn u)
first-and-rest txn first rest before up u within =
    ⊎_elim
    (λ same. subst (λ t. IsTrue (precedes txn t)) same before)
    (λ behind. precedes-trans txn first u before (ascending-first first rest up u behind))
    (Contains-cases first rest u within)

module _ {V : Type 0} where
  -- The values of the cases come after what the list held.
  abbrev pub AreAdded : List (Case V) → List TxnId → List V → List V → Type 0
  AreAdded cases txns old new = (added : List V) × (new ≡ old ++ added) × AreValues cases txns added

  -- a test of the first transaction: the values of both sides over the rest, one after the other
  pub added-tested : (cases aborted committed : List (Case V)) (txn : TxnId) (txns rest : List TxnId) (old middle new : List V) → IsTested txn aborted committed cases →
      txns ≡ txn ∷ rest → Ascending txns → AreAdded aborted rest old middle → AreAdded committed rest middle new → AreAdded cases txns old new
  added-tested cases aborted committed txn txns rest old middle new top is up (xs, first, are) (ys, second, them) = (
    xs ++ ys,
    second ∙ ap (λ zs. zs ++ ys) first ∙ append_assoc old xs ys,
    subst (λ us. AreValues cases us (xs ++ ys)) (sym is)
        (subst (λ all. AreValues all (txn ∷ rest) (xs ++ ys)) (sym top.is)
        (values-tested txn rest aborted committed xs ys top.sides.aborted_after top.sides.committed_after (first-before is up) are them)),
  )

  -- the first transaction isn't named: the values over the rest, twice
  pub added-skip : (cases : List (Case V)) (txn : TxnId) (txns rest : List TxnId) (old middle new : List V) → names cases txn ≡ false →
      txns ≡ txn ∷ rest → AreAdded cases rest old middle → AreAdded cases rest middle new → AreAdded cases txns old new
  added-skip cases txn txns rest old middle new unnamed is (xs, first, are) (ys, second, them) = (
    xs ++ xs,
    second ∙ ap₂ ◌++◌ first (one-values cases rest ys xs them are) ∙ append_assoc old xs xs,
    subst (λ us. AreValues cases us (xs ++ xs)) (sym is) (values-skip txn rest cases xs unnamed are),
  )

  -- a test of an earlier transaction: the values of the side where it doesn't commit
  pub added-before : (cases aborted committed : List (Case V)) (txn first : TxnId) (txns rest : List TxnId) (old new : List V) → IsTested txn aborted committed cases →
      txns ≡ first ∷ rest → Ascending txns → IsTrue (precedes txn first) → AreAdded aborted txns old new → AreAdded cases txns old new
  added-before cases aborted committed txn first txns rest old new top is up before (xs, added, are) =
      let all : (u : TxnId) → Contains (first ∷ rest) u → IsTrue (precedes txn u) = first-and-rest txn first rest before (subst Ascending is up) in (
        xs,
        added,
        subst (λ all. AreValues all txns xs) (sym top.is)
            (values-before txn txns aborted committed xs
            (subst (λ us. All (λ u. IsTrue (precedes txn u)) us) (sym is) (All-from_members (λ u. IsTrue (precedes txn u)) (first ∷ rest) all)) are),
      )

  -- A test of a later transaction doesn't name this one.
  pub later-unnamed : (cases aborted committed : List (Case V)) (txn first : TxnId) → IsTested txn aborted committed cases → IsTrue (precedes first txn) → names cases first ≡ false
  later-unnamed cases aborted committed txn first top before =
      behind-unnamed first cases
      (λ u named. ⊎_elim
      (λ same. subst (λ t. IsTrue (precedes first t)) same before)
      (λ sides. precedes-trans first txn u before (⊎_elim (top.sides.aborted_after u) (top.sides.committed_after u) sides))
      (names-tested txn aborted committed u (subst (λ all. IsTrue (names all u)) top.is named)))

  -- the values of what chooses between both sides
  pub values-choice : (cases aborted committed : List (Case V)) (txn : TxnId) (txns rest : List TxnId) (xs ys : List V) → IsChoice txn aborted committed cases →
      NamesOnlyAfter txn aborted → NamesOnlyAfter txn committed → txns ≡ txn ∷ rest → Ascending txns → AreValues aborted rest xs → AreValues committed rest ys →
      AreValues cases txns (xs ++ ys)
  values-choice cases aborted committed txn txns rest xs ys choice behind behind-too is up are them =
      subst (λ us. AreValues cases us (xs ++ ys)) (sym is)
      (values-tested txn rest aborted committed xs ys behind behind-too (first-before is up) are them
      ∙ map-same _ _ (assignments (txn ∷ rest)) (λ a _. value_at-tested txn aborted committed a ∙ sym (choice a)))

  -- A side that names only what is in the rest names only what comes after the first.
  pub rest-behind : (cases : List (Case V)) (txn : TxnId) (txns rest : List TxnId) → txns ≡ txn ∷ rest → Ascending txns →
      ((u : TxnId) → IsTrue (names cases u) → Contains rest u) → NamesOnlyAfter txn cases
  rest-behind cases txn txns rest is up within u named = ascending-first txn rest (subst Ascending is up) u (within u named)

  -- What a test names is the first transaction, or stands in the rest.
  pub table-names : (cases aborted committed : List (Case V)) (txn : TxnId) (txns rest : List TxnId) → txns ≡ txn ∷ rest →
      ((u : TxnId) → IsTrue (names aborted u) → Contains rest u) → ((u : TxnId) → IsTrue (names committed u) → Contains rest u) →
      ((u : TxnId) → IsTrue (names cases u) → (txn ≡ u) ⊎ (IsTrue (names aborted u) ⊎ IsTrue (names committed u))) →
      (u : TxnId) → IsTrue (names cases u) → Contains txns u
  table-names cases aborted committed txn txns rest is within within-too all u named =
      subst (λ us. Contains us u) (sym is)
      (⊎_elim
      (λ same. subst (λ t. Contains (txn ∷ rest) t) same (Contains-first txn rest))
      (λ side. Contains-behind txn rest u (⊎_elim (within u) (within-too u) side))
      (all u named))

-- half of a power of two
pub half : (count many more : ℕ) → count ≡ 2 ^ many → more + 1 ≡ many → count / 2 ≡ 2 ^ more
half count many more whole one =
    let next : many ≡ suc more = omega (arith, one) in
    omega (arith, whole, ap (λ n. 2 ^ n) next, pow-suc 2 more)
