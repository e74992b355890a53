-- What is known of the cases of a test, and that equal cases have equal sides.
use Rattle.std.proofs.Common.{◌≡◌, ◌⊎◌, ⊎_elim, Bool, true, false, List, inl, inr, if◌then◌else◌, IsTrue, refl, sym, ap, subst, ◌∙◌, arith}
use Rattle.pv_base.specs.declared.txn.TxnId.{TxnId}
use Rattle.pv_base.specs.Assignment.{precedes, commits, with_outcome}
use Rattle.pv_base.specs.Polyvalue.{Case, value_at, names, NamesOnlyAfter, IsCanonical}
use Rattle.pv_base.proofs.AssignmentLemmas.{precedes-irrefl, precedes-trans, commits-with-same}
use Rattle.pv_law_polyvalues.proofs.PolyvalueLemmas.{value_at-front, value_at-back, value_at-tested, names-tested, names-front, names-back, names-self, behind-unnamed, unnamed-free, one-canonical}
use Rattle.pv_cases.specs.From.{NamesFrom, IsSide}
use Rattle.pv_cases.proofs.TestedCases.{IsTested, aborted-shorter, committed-shorter}

module _ {V : Type 0} where
  -- A test names its transaction, what its sides name, and nothing else.
  pub test-named : {cases : List (Case V)} {t : TxnId} {aborted committed : List (Case V)} → IsTested t aborted committed cases → IsTrue (names cases t)
  test-named {t = t} {aborted} {committed} at = ap (λ (c : List (Case V)). names c t) at.is ∙ names-self t aborted committed at.sides.aborted_canonical

  pub test-names : {cases : List (Case V)} {t : TxnId} {aborted committed : List (Case V)} → IsTested t aborted committed cases → (u : TxnId) → IsTrue (names cases u)
      → (t ≡ u) ⊎ (IsTrue (names aborted u) ⊎ IsTrue (names committed u))
  test-names {t = t} {aborted} {committed} at u named = names-tested t aborted committed u (ap (λ (c : List (Case V)). names c u) (sym at.is) ∙ named)

  pub test-aborted : {cases : List (Case V)} {t : TxnId} {aborted committed : List (Case V)} → IsTested t aborted committed cases → (u : TxnId) → IsTrue (names aborted u) → IsTrue (names cases u)
  test-aborted {t = t} {aborted} {committed} at u named = ap (λ (c : List (Case V)). names c u) at.is ∙ names-front t aborted committed u named

  pub test-committed : {cases : List (Case V)} {t : TxnId} {aborted committed : List (Case V)} → IsTested t aborted committed cases → (u : TxnId) → IsTrue (names committed u) → IsTrue (names cases u)
  test-committed {t = t} {aborted} {committed} at u named = ap (λ (c : List (Case V)). names c u) at.is ∙ names-back t aborted committed u named

  pub test-from : {cases : List (Case V)} {t : TxnId} {aborted committed : List (Case V)} → IsTested t aborted committed cases → NamesFrom t cases
  test-from at u named =
      ⊎_elim (λ same. inl same) (λ side. inr (⊎_elim (at.sides.aborted_after u) (at.sides.committed_after u) side)) (test-names at u named)

  pub test-value : {cases : List (Case V)} {t : TxnId} {aborted committed : List (Case V)} → IsTested t aborted committed cases → (a : List TxnId)
      → value_at cases a ≡ value_at (if commits a t then committed else aborted) a
  test-value {t = t} {aborted} {committed} at a = ap (λ (c : List (Case V)). value_at c a) at.is ∙ value_at-tested t aborted committed a

  -- Equal cases have one top and equal sides.

  one-top : {cases : List (Case V)} {t u : TxnId} {aborted committed aborted' committed' : List (Case V)} → IsTested t aborted committed cases → IsTested u aborted' committed' cases → t ≡ u
  one-top {t = t} {u} at other =
      ⊎_elim
      (λ same. same)
      (λ before. ⊎_elim
      (λ same. sym same)
      (λ behind. absurd (precedes-irrefl t (precedes-trans t u t before behind)))
      (test-from other t (test-named at)))
      (test-from at u (test-named other))

  aborted-at : {cases : List (Case V)} {t : TxnId} {aborted committed : List (Case V)} → IsTested t aborted committed cases → (a : List TxnId)
      → value_at aborted a ≡ value_at cases (with_outcome t false a)
  aborted-at {t = t} {aborted} {committed} at a =
      sym (unnamed-free t aborted (behind-unnamed t aborted at.sides.aborted_after) false a)
      ∙ sym (value_at-front t aborted committed (with_outcome t false a) (commits-with-same t false a))
      ∙ ap (λ (c : List (Case V)). value_at c (with_outcome t false a)) (sym at.is)

  committed-at : {cases : List (Case V)} {t : TxnId} {aborted committed : List (Case V)} → IsTested t aborted committed cases → (a : List TxnId)
      → value_at committed a ≡ value_at cases (with_outcome t true a)
  committed-at {t = t} {aborted} {committed} at a =
      sym (unnamed-free t committed (behind-unnamed t committed at.sides.committed_after) true a)
      ∙ sym (value_at-back t aborted committed (with_outcome t true a) (commits-with-same t true a))
      ∙ ap (λ (c : List (Case V)). value_at c (with_outcome t true a)) (sym at.is)

  same-sides : {cases : List (Case V)} {t : TxnId} {aborted committed aborted' committed' : List (Case V)} → IsTested t aborted committed cases → IsTested t aborted' committed' cases
      → (aborted ≡ aborted') × (committed ≡ committed')
  same-sides {aborted = aborted} {committed} {aborted'} {committed'} at other = (
    one-canonical aborted aborted' at.sides.aborted_canonical other.sides.aborted_canonical (λ a. aborted-at at a ∙ sym (aborted-at other a)),
    one-canonical committed committed' at.sides.committed_canonical other.sides.committed_canonical (λ a. committed-at at a ∙ sym (committed-at other a)),
  )

  pub one-test : {cases others : List (Case V)} {t u : TxnId} {aborted committed aborted' committed' : List (Case V)} → IsTested t aborted committed cases → IsTested u aborted' committed' others
      → cases ≡ others → (t ≡ u) × ((aborted ≡ aborted') × (committed ≡ committed'))
  one-test {cases} {others} {t} {u} {aborted} {committed} {aborted'} {committed'} at other equal =
      let moved = subst (λ (c : List (Case V)). IsTested u aborted' committed' c) (sym equal) other in
      let top = one-top at moved in
      (top, same-sides at (subst (λ (w : TxnId). IsTested w aborted' committed' cases) (sym top) moved))

  -- Sides of cases that name nothing before a transaction.

  pub aborted-side : {cases : List (Case V)} {t : TxnId} {aborted committed : List (Case V)} → IsTested t aborted committed cases → IsSide t false cases aborted
  aborted-side {cases} {t} {aborted} {committed} at =
      record {
        same = λ a is. sym (value_at-front t aborted committed a is) ∙ ap (λ (c : List (Case V)). value_at c a) (sym at.is);
        named = test-aborted at;
        after = at.sides.aborted_after;
        canonical = at.sides.aborted_canonical;
        shorter = omega (arith, aborted-shorter at);
        smaller = λ named. aborted-shorter at;
      }

  pub committed-side : {cases : List (Case V)} {t : TxnId} {aborted committed : List (Case V)} → IsTested t aborted committed cases → IsSide t true cases committed
  committed-side {cases} {t} {aborted} {committed} at =
      record {
        same = λ a is. sym (value_at-back t aborted committed a is) ∙ ap (λ (c : List (Case V)). value_at c a) (sym at.is);
        named = test-committed at;
        after = at.sides.committed_after;
        canonical = at.sides.committed_canonical;
        shorter = omega (arith, committed-shorter at);
        smaller = λ named. committed-shorter at;
      }

  -- Cases that name only later transactions are their own side.
  pub whole-side : {cases : List (Case V)} (t : TxnId) (outcome : Bool) → IsCanonical cases → NamesOnlyAfter t cases → IsSide t outcome cases cases
  whole-side {cases} t outcome canonical behind =
      record {
        same = λ a is. refl;
        named = λ u named. named;
        after = behind;
        canonical = canonical;
        shorter = omega arith;
        smaller = λ named. absurd (precedes-irrefl t (behind t named));
      }

  -- Where the test is of another transaction and nothing before this one is named, all that is named is later.
  pub behind-other : {cases : List (Case V)} {t u : TxnId} {aborted committed : List (Case V)} → IsTested u aborted committed cases → (u ≡ t → ⊥) → NamesFrom t cases → NamesOnlyAfter t cases
  behind-other {cases} {t} {u} at apart from named here =
      let before : IsTrue (precedes t u) = ⊎_elim (λ same. absurd (apart (sym same))) (λ before. before) (from u (test-named at)) in
      ⊎_elim
      (λ same. subst (λ (w : TxnId). IsTrue (precedes t w)) same before)
      (λ later. precedes-trans t u named before later)
      (test-from at named here)

  pub side-is : {cases side other : List (Case V)} {t u : TxnId} {outcome given : Bool} → IsSide t outcome cases side → t ≡ u → given ≡ outcome → other ≡ side
      → IsSide u given cases other
  side-is {cases} {side} {other} {t} {u} {outcome} {given} is same goes there =
      subst (λ (c : List (Case V)). IsSide u given cases c) (sym there)
      (subst (λ (b : Bool). IsSide u b cases side) (sym goes)
      (subst (λ (w : TxnId). IsSide w outcome cases side) same is))
