-- The canonical cases of a function of outcomes: that they are canonical, what they name, and what values they have.
use Rattle.std.proofs.Common.{◌≡◌, ◌⊎◌, ⊎_elim, Bool, true, false, Some, List, [], ◌∷◌, inl, inr, cond, refl, sym, ap, ap₂, subst, ◌∙◌, filter}
use Rattle.std.specs.Prelude.{IsTrue, ◌++◌, map, if◌then◌else◌}
use Rattle.std.specs.List.{Contains}
use Rattle.std.proofs.lemmas.Bool.{false≢true}
use Rattle.pv_base.specs.declared.txn.TxnId.{TxnId}
use Rattle.pv_base.specs.Assignment.{AreAscending, commits, with_outcome, assignments}
use Rattle.pv_base.specs.Canonical.{IsExact, IsFunctionOf, are_same_cases, decision, canonical_cases}
use Rattle.pv_base.specs.Polyvalue.{Case, AreValues, IsCanonical, NamesOnlyAfter, sure, tested, names, under, value_at}
use Rattle.pv_law_polyvalues.proofs.AscendingLemmas.{ascending-tail, ascending-first}
use Rattle.pv_base.proofs.ContainsLemmas.{Contains-first, Contains-behind}
use Rattle.pv_base.proofs.MapLemmas.{map-same, map-map}
use Rattle.pv_law_polyvalues.proofs.PolyvalueLemmas.{names-tested, one-canonical, value_at-tested}
use Rattle.pv_law_polyvalues.proofs.TableLemmas.{assigned-listed, chosen-agrees}
use Rattle.pv_law_canonical.proofs.ComparedLemmas.{same-cases}
use Rattle.pv_law_canonical.proofs.FilterLemmas.{aborted-already, assignment-own, assignment-with, assignment-without, kept-listed}

module _ {V : Type 0} where
  -- What a decision is, by cases on whether the sides are the same.

  decision-names-by : (b : Bool) (t : TxnId) (aborted committed : List (Case V)) (u : TxnId)
      → IsTrue (names (if b then aborted else under t false aborted ++ under t true committed) u)
      → (t ≡ u) ⊎ (IsTrue (names aborted u) ⊎ IsTrue (names committed u))
  decision-names-by true t aborted committed u h = inr (inl h)
  decision-names-by false t aborted committed u h = names-tested t aborted committed u h

  decision-names : (same : V → V → Bool) (t : TxnId) (aborted committed : List (Case V)) (u : TxnId) → IsTrue (names (decision same t aborted committed) u)
      → (t ≡ u) ⊎ (IsTrue (names aborted u) ⊎ IsTrue (names committed u))
  decision-names same t aborted committed u h = decision-names-by (are_same_cases same aborted committed) t aborted committed u h

  decision-canonical-by : (b : Bool) (t : TxnId) (aborted committed : List (Case V)) → IsCanonical aborted → IsCanonical committed
      → NamesOnlyAfter t aborted → NamesOnlyAfter t committed → (aborted ≡ committed → b ≡ true)
      → IsCanonical (if b then aborted else under t false aborted ++ under t true committed)
  decision-canonical-by true t aborted committed left right after after-too tells = left
  decision-canonical-by false t aborted committed left right after after-too tells =
      tested t aborted committed left right after after-too (λ same. false≢true (tells same))

  if-one : (o : Bool) (aborted committed : List (Case V)) → aborted ≡ committed → aborted ≡ (if o then committed else aborted)
  if-one true aborted committed same = same
  if-one false aborted committed same = refl

  decision-value-by : (b : Bool) (t : TxnId) (aborted committed : List (Case V)) (a : List TxnId) → (b ≡ true → aborted ≡ committed)
      → value_at (if b then aborted else under t false aborted ++ under t true committed) a ≡ value_at (if commits a t then committed else aborted) a
  decision-value-by true t aborted committed a tells = ap (λ cases. value_at cases a) (if-one (commits a t) aborted committed (tells refl))
  decision-value-by false t aborted committed a tells = value_at-tested t aborted committed a

  -- the function with the outcome of a transaction put in
  abbrev side : (List TxnId → V) → TxnId → Bool → List TxnId → V
  side f t outcome a = f (with_outcome t outcome a)

  module _ (same : V → V → Bool) where
    pub names-listed : (txns : List TxnId) (f : List TxnId → V) (u : TxnId) → IsTrue (names (canonical_cases same txns f) u) → Contains txns u
    unfolding canonical_cases
    names-listed [] f u h = absurd (false≢true h)
    names-listed (t ∷ ts) f u h =
        ⊎_elim
        (λ first. subst (Contains (t ∷ ts)) first (Contains-first t ts))
        (λ inner. Contains-behind t ts u (⊎_elim (names-listed ts (side f t false) u) (names-listed ts (side f t true) u) inner))
        (decision-names same t (canonical_cases same ts (side f t false)) (canonical_cases same ts (side f t true)) u h)

    -- Equal functions on the assignments of the transactions have equal cases.

    side-aborted : (f : List TxnId → V) (t : TxnId) (ts : List TxnId) → AreAscending (t ∷ ts) → (a : List TxnId) → Contains (assignments ts) a → side f t false a ≡ f a
    side-aborted f t ts up a h = ap f (aborted-already t a (λ u in-a. ascending-first t ts up u (assigned-listed ts a h u in-a)))

    pub alike-cases : (txns : List TxnId) (f g : List TxnId → V) → AreAscending txns → ((a : List TxnId) → Contains (assignments txns) a → f a ≡ g a)
        → canonical_cases same txns f ≡ canonical_cases same txns g
    unfolding canonical_cases
    alike-cases [] f g up alike = ap (λ v. record { when = []; value = v } ∷ []) (alike [] (Contains-first [] []))
    alike-cases (t ∷ ts) f g up alike =
        ap₂ (decision same t)
        (alike-cases ts (side f t false) (side g t false) (ascending-tail t ts up)
        (λ a h. side-aborted f t ts up a h ∙ alike a (assignment-without t ts a h) ∙ sym (side-aborted g t ts up a h)))
        (alike-cases ts (side f t true) (side g t true) (ascending-tail t ts up)
        (λ a h. alike (t ∷ a) (assignment-with t ts a h)))

    module _ (is : IsExact same) where
      pub canonical-is : (txns : List TxnId) (f : List TxnId → V) → AreAscending txns → IsCanonical (canonical_cases same txns f)
      unfolding canonical_cases
      canonical-is [] f up = sure (f [])
      canonical-is (t ∷ ts) f up =
          decision-canonical-by (are_same_cases same (canonical_cases same ts (side f t false)) (canonical_cases same ts (side f t true)))
          t (canonical_cases same ts (side f t false)) (canonical_cases same ts (side f t true))
          (canonical-is ts (side f t false) (ascending-tail t ts up)) (canonical-is ts (side f t true) (ascending-tail t ts up))
          (λ u h. ascending-first t ts up u (names-listed ts (side f t false) u h)) (λ u h. ascending-first t ts up u (names-listed ts (side f t true) u h))
          (same-cases is _ _).1

      chosen-with : (t : TxnId) (ts a : List TxnId) (o : Bool) → AreAscending (t ∷ ts)
          → with_outcome t o (filter (λ u. commits a u) ts) ≡ cond o (t ∷ filter (λ u. commits a u) ts) (filter (λ u. commits a u) ts)
      chosen-with t ts a true up = refl
      chosen-with t ts a false up =
          aborted-already t (filter (λ u. commits a u) ts) (λ u h. ascending-first t ts up u (kept-listed (λ u. commits a u) ts u h))

      value-by : (t : TxnId) (ts : List TxnId) (f : List TxnId → V) (a chosen : List TxnId) (o : Bool) (aborted committed : List (Case V))
          → value_at aborted a ≡ Some (f (with_outcome t false chosen)) → value_at committed a ≡ Some (f (with_outcome t true chosen))
          → value_at (if o then committed else aborted) a ≡ Some (f (with_outcome t o chosen))
      value-by t ts f a chosen true aborted committed left right = right
      value-by t ts f a chosen false aborted committed left right = left

      pub value-listed : (txns : List TxnId) (f : List TxnId → V) → AreAscending txns → (a : List TxnId)
          → value_at (canonical_cases same txns f) a ≡ Some (f (filter (λ t. commits a t) txns))
      unfolding canonical_cases
      value-listed [] f up a = refl
      value-listed (t ∷ ts) f up a =
          let aborted = canonical_cases same ts (side f t false) in
          let committed = canonical_cases same ts (side f t true) in
          decision-value-by (are_same_cases same aborted committed) t aborted committed a (same-cases is aborted committed).0
          ∙ value-by t ts f a (filter (λ u. commits a u) ts) (commits a t) aborted committed
          (value-listed ts (side f t false) (ascending-tail t ts up) a) (value-listed ts (side f t true) (ascending-tail t ts up) a)
          ∙ ap (λ chosen. Some (f chosen)) (chosen-with t ts a (commits a t) up)

      pub value-is : (txns : List TxnId) (f : List TxnId → V) → AreAscending txns → IsFunctionOf txns f → (a : List TxnId)
          → value_at (canonical_cases same txns f) a ≡ Some (f a)
      value-is txns f up depends a =
          value-listed txns f up a ∙ ap Some (depends (filter (λ t. commits a t) txns) a (λ t h. chosen-agrees a txns t h))

      pub table-is : (txns : List TxnId) (f : List TxnId → V) → AreAscending txns → AreValues (canonical_cases same txns f) txns (map f (assignments txns))
      table-is txns f up =
          map-map Some f (assignments txns)
          ∙ map-same (λ a. Some (f a)) (value_at (canonical_cases same txns f)) (assignments txns)
          (λ a h. ap (λ b. Some (f b)) (sym (assignment-own txns a up h)) ∙ sym (value-listed txns f up a))

      pub only-one : (txns : List TxnId) (f : List TxnId → V) → AreAscending txns → IsFunctionOf txns f → (cases : List (Case V)) → IsCanonical cases
          → ((a : List TxnId) → value_at cases a ≡ Some (f a)) → cases ≡ canonical_cases same txns f
      only-one txns f up depends cases canonical values =
          one-canonical cases (canonical_cases same txns f) canonical (canonical-is txns f up) (λ a. values a ∙ sym (value-is txns f up depends a))
