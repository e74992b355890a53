-- Nodes that choose: below an earlier test, and over tables.
use Rattle.std.proofs.Common.{◌≡◌, ◌⊎◌, ℕ, get_or, ◌^◌, ◌<◌, Bool, true, false, List, [], ◌∷◌, ◌++◌, inl, inr, if◌then◌else◌, IsTrue, length, refl, sym, ap, subst, ◌∙◌, arith}
use Rattle.std.specs.List.{Contains}
use Rattle.pv_base.specs.declared.txn.TxnId.{TxnId}
use Rattle.pv_base.specs.Assignment.{precedes, commits}
use Rattle.pv_base.specs.Polyvalue.{Case, value_at, names, under, IsChoice, IsCanonical, NamesOnlyAfter, AreValues, sure}
use Rattle.pv_law_polyvalues.proofs.AscendingLemmas.{Ascending}
use Rattle.pv_law_polyvalues.proofs.PolyvalueLemmas.{value_at-tested, names-tested}
use Rattle.pv_cases.proofs.CountLemmas.{same-choice}
use Rattle.pv_cases.specs.From.{IsSide}
use Rattle.pv_cases.specs.Sides.{AreSides}
use Rattle.pv_cases.proofs.ChoiceLemmas.{new-canonical, chosen-behind, both-chosen-names}
use Rattle.pv_cases.proofs.TableSteps.{values-choice, rest-behind, table-names}
use Rattle.pv_tree.specs.Meanings.{cases_at, IsAt, Keeps, Chooses, Tabulates}

module _ {V : Type 0} where
  -- What was made before is there once more nodes are.
  pub chooses-kept : {txn : TxnId} {aborted committed : List (Case V)} (old new : List (List (Case V))) (number : ℕ) → Keeps old new → Chooses txn aborted committed old number
      → Chooses txn aborted committed new number
  chooses-kept {txn} {aborted} {committed} old new number keeps is =
      let same = sym (keeps.kept number is.there) in record {
        there = omega (arith, is.there, keeps.longer);
        choice = subst (λ (c : List (Case V)). IsChoice txn aborted committed c) same is.choice;
        named = subst (λ (c : List (Case V)). (u : TxnId) → IsTrue (names c u) → (txn ≡ u) ⊎ (IsTrue (names aborted u) ⊎ IsTrue (names committed u))) same is.named;
        canonical = subst IsCanonical same is.canonical;
      }

  -- A choice between nodes that were there before is one between what they were.
  pub chooses-of : {txn : TxnId} (old middle new : List (List (Case V))) (aborted committed number : ℕ) → Keeps old middle → aborted < length old → committed < length old
      → Chooses txn (cases_at middle aborted) (cases_at middle committed) new number → Chooses txn (cases_at old aborted) (cases_at old committed) new number
  chooses-of {txn} old middle new aborted committed number keeps first second is =
      subst (λ (c : List (Case V)). Chooses txn c (cases_at old committed) new number) (keeps.kept aborted first)
      (subst (λ (c : List (Case V)). Chooses txn (cases_at middle aborted) c new number) (keeps.kept committed second) is)

  -- A test is made.

  pub same-chooses : (txn : TxnId) (meanings : List (List (Case V))) (aborted committed : ℕ) → aborted < length meanings → IsCanonical (cases_at meanings aborted)
      → cases_at meanings aborted ≡ cases_at meanings committed → Chooses txn (cases_at meanings aborted) (cases_at meanings committed) meanings aborted
  same-chooses txn meanings aborted committed there canonical same = record {
    there = there;
    choice = same-choice txn same;
    named = λ u named. inr (inl named);
    canonical = canonical;
  }

  pub test-chooses : (txn : TxnId) (aborted committed : List (Case V)) (meanings : List (List (Case V))) (number : ℕ) → AreSides txn aborted committed
      → IsAt meanings number (under txn false aborted ++ under txn true committed) → Chooses txn aborted committed meanings number
  test-chooses txn aborted committed meanings number sides at = record {
    there = at.there;
    choice = subst (λ (c : List (Case V)). IsChoice txn aborted committed c) (sym at.is) (value_at-tested txn aborted committed);
    named = subst (λ (c : List (Case V)). (u : TxnId) → IsTrue (names c u) → (txn ≡ u) ⊎ (IsTrue (names aborted u) ⊎ IsTrue (names committed u))) (sym at.is)
        (names-tested txn aborted committed);
    canonical = subst IsCanonical (sym at.is) (new-canonical txn aborted committed sides);
  }

  -- A choice below an earlier test.

  picked : {t : TxnId} {o : Bool} {aborted committed aborted' committed' : List (Case V)} (p : Bool) (a : List TxnId) → IsSide t o aborted aborted' → IsSide t o committed committed'
      → commits a t ≡ o → value_at (if p then committed' else aborted') a ≡ value_at (if p then committed else aborted) a
  picked true a first second is = second.same a is
  picked false a first second is = first.same a is

  choice-by : {t : TxnId} (txn : TxnId) {aborted committed aborted0 committed0 aborted1 committed1 : List (Case V)} (front back : List (Case V)) (o : Bool) (a : List TxnId)
      → IsSide t false aborted aborted0 → IsSide t false committed committed0 → IsSide t true aborted aborted1 → IsSide t true committed committed1
      → IsChoice txn aborted0 committed0 front → IsChoice txn aborted1 committed1 back → commits a t ≡ o
      → value_at (if o then back else front) a ≡ value_at (if commits a txn then committed else aborted) a
  choice-by txn front back true a a0 c0 a1 c1 first second is = second a ∙ picked (commits a txn) a a1 c1 is
  choice-by txn front back false a a0 c0 a1 c1 first second is = first a ∙ picked (commits a txn) a a0 c0 is

  pub choose-below : {t txn : TxnId} {aborted committed aborted0 committed0 aborted1 committed1 : List (Case V)} (middle new : List (List (Case V))) (front back made : ℕ)
      → IsSide t false aborted aborted0 → IsSide t false committed committed0 → IsSide t true aborted aborted1 → IsSide t true committed committed1
      → IsTrue (names aborted t) ⊎ IsTrue (names committed t)
      → Chooses txn aborted0 committed0 middle front → Chooses txn aborted1 committed1 middle back → Chooses t (cases_at middle front) (cases_at middle back) new made
      → Chooses txn aborted committed new made
  choose-below {t} {txn} {aborted} {committed} middle new front back made a0 c0 a1 c1 top first second is = record {
    there = is.there;
    choice = λ a. is.choice a ∙ choice-by txn (cases_at middle front) (cases_at middle back) (commits a t) a a0 c0 a1 c1 first.choice second.choice refl;
    named = both-chosen-names {first-side = cases_at middle front} {second-side = cases_at middle back} (cases_at new made)
        (record { aborted_side = a0; committed_side = c0; names = first.named })
        (record { aborted_side = a1; committed_side = c1; names = second.named })
        is.named top;
    canonical = is.canonical;
  }

  pub below-behind : {t txn : TxnId} {o : Bool} {aborted committed aborted' committed' : List (Case V)} (meanings : List (List (Case V))) (number : ℕ)
      → IsSide t o aborted aborted' → IsSide t o committed committed' → IsTrue (precedes t txn) → Chooses txn aborted' committed' meanings number
      → NamesOnlyAfter t (cases_at meanings number)
  below-behind meanings number first second early is =
      chosen-behind {chosen = cases_at meanings number} (record { aborted_side = first; committed_side = second; names = is.named }) early

  -- Tables.

  pub tabulates-kept : {txns : List TxnId} {values : List V} (old new : List (List (Case V))) (number : ℕ) → Keeps old new → Tabulates txns values old number
      → Tabulates txns values new number
  tabulates-kept {txns} {values} old new number keeps is =
      let same = sym (keeps.kept number is.there) in record {
        there = omega (arith, is.there, keeps.longer);
        has = subst (λ (c : List (Case V)). AreValues c txns values) same is.has;
        named = subst (λ (c : List (Case V)). (u : TxnId) → IsTrue (names c u) → Contains txns u) same is.named;
        canonical = subst IsCanonical same is.canonical;
      }

  pub leaf-tabulates : (value : V) (meanings : List (List (Case V))) (number : ℕ) → IsAt meanings number (record { when = []; value = value } ∷ []) → Tabulates [] (value ∷ []) meanings number
  leaf-tabulates value meanings number at = record {
    there = at.there;
    has = subst (λ (c : List (Case V)). AreValues c [] (value ∷ [])) (sym at.is) refl;
    named = λ u named. absurd (let none : ⊥ = cc in none);
    canonical = subst IsCanonical (sym at.is) (sure value);
  }

  pub tabulates-behind : (txn : TxnId) (txns rest : List TxnId) (values : List V) (meanings : List (List (Case V))) (number : ℕ) → txns ≡ txn ∷ rest → Ascending txns
      → Tabulates rest values meanings number → NamesOnlyAfter txn (cases_at meanings number)
  tabulates-behind txn txns rest values meanings number is up table = rest-behind (cases_at meanings number) txn txns rest is up table.named

  pub test-tabulates : (txn : TxnId) (txns rest : List TxnId) (xs ys values : List V) (middle new : List (List (Case V))) (front back made : ℕ) → txns ≡ txn ∷ rest → Ascending txns
      → values ≡ xs ++ ys → Tabulates rest xs middle front → Tabulates rest ys middle back → Chooses txn (cases_at middle front) (cases_at middle back) new made
      → Tabulates txns values new made
  test-tabulates txn txns rest xs ys values middle new front back made is up whole first second chosen = record {
    there = chosen.there;
    has = subst (λ vs. AreValues (cases_at new made) txns vs) (sym whole)
        (values-choice (cases_at new made) (cases_at middle front) (cases_at middle back) txn txns rest xs ys chosen.choice
        (rest-behind (cases_at middle front) txn txns rest is up first.named) (rest-behind (cases_at middle back) txn txns rest is up second.named)
        is up first.has second.has);
    named = table-names (cases_at new made) (cases_at middle front) (cases_at middle back) txn txns rest is first.named second.named chosen.named;
    canonical = chosen.canonical;
  }

  one-value : (value : V) (values : List V) → length values ≡ 1 → value ≡ get_or values 0 value → values ≡ value ∷ []
  one-value value [] one is = absurd (omega (arith, one))
  one-value value (first ∷ []) one is = ap (λ (v : V). v ∷ []) (sym is)
  one-value value (first ∷ next ∷ more) one is = absurd (omega (arith, one))

  -- The only value of no transactions is a leaf.
  pub leaf-table : (txns : List TxnId) (values : List V) (value : V) (meanings : List (List (Case V))) (number : ℕ) → length txns ≡ 0 → length values ≡ 2 ^ length txns
      → value ≡ get_or values 0 value → IsAt meanings number (record { when = []; value = value } ∷ []) → Tabulates txns values meanings number
  leaf-table [] values value meanings number none whole is at =
      subst (λ (vs : List V). Tabulates [] vs meanings number) (sym (one-value value values whole is)) (leaf-tabulates value meanings number at)
  leaf-table (txn ∷ txns) values value meanings number none whole is at = absurd (omega (arith, none))
