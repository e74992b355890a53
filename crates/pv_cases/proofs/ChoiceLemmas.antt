-- Trees whose test is settled, and trees that choose by a transaction below an earlier test.
use Rattle.std.proofs.Common.{◌≡◌, ◌⊎◌, ⊎_elim, ◌+◌, ◌<◌, Bool, true, false, List, ◌∷◌, ◌++◌, length, Option, None, Some, inl, inr, if◌then◌else◌, IsTrue, refl, sym, ap, subst, ◌∙◌, arith}
use Rattle.std.proofs.lemmas.Bool.{false≢true, false_from_ne_true}
use Rattle.std.specs.List.{All}
use Rattle.pv_base.specs.declared.literal.Literal.{Literal}
use Rattle.pv_base.specs.declared.txn.TxnId.{TxnId}
use Rattle.pv_base.specs.Assignment.{precedes}
use Rattle.pv_base.specs.Polyvalue.{Case, names, NamesOnlyAfter, under, IsCanonical, IsChoice, IsSettled}
use Rattle.pv_base.specs.Polyvalue.IsCanonical.{tested}
use Rattle.pv_base.proofs.AssignmentLemmas.{precedes-trans, order-of-two}
use Rattle.pv_law_polyvalues.proofs.PolyvalueLemmas.{behind-unnamed, value_at-tested, names-tested}
use Rattle.pv_cases.proofs.SettledLemmas.{NamesKept, side-settled, test-settled, unnamed-settled}
use Rattle.pv_cases.specs.From.{NamesFrom, IsFirst, IsFirstOf, IsSide, before, first_before}
use Rattle.pv_cases.specs.Sides.{AreSides}
use Rattle.pv_cases.proofs.TestedCases.{IsTested}
use Rattle.pv_cases.proofs.TestLemmas.{test-named, test-aborted, test-committed, test-from}

module _ {V : Type 0} where
  -- What the cases of a tree may name that was made of two others.
  abbrev pub NamesOfBoth : TxnId → List (Case V) → List (Case V) → List (Case V) → Type 0
  NamesOfBoth txn aborted committed cases = (named : TxnId) → IsTrue (names cases named) → (txn ≡ named) ⊎ (IsTrue (names aborted named) ⊎ IsTrue (names committed named))

  -- A new test, whose sides were put into boxes.

  pub new-sides : (t : TxnId) {aborted committed aborted' committed' : List (Case V)} → aborted' ≡ aborted → committed' ≡ committed → IsCanonical aborted → IsCanonical committed
      → NamesOnlyAfter t aborted → NamesOnlyAfter t committed → (aborted ≡ committed → ⊥) → AreSides t aborted' committed'
  new-sides t {aborted} {committed} {aborted'} {committed'} first second f b fb bb differ =
      subst (λ (c : List (Case V)). AreSides t c committed') (sym first)
      (subst (λ (c : List (Case V)). AreSides t aborted c) (sym second)
      (record { aborted_canonical = f; committed_canonical = b; aborted_after = fb; committed_after = bb; differ = differ }))

  pub new-choice : (t : TxnId) {aborted committed aborted' committed' : List (Case V)} → aborted' ≡ aborted → committed' ≡ committed
      → IsChoice t aborted committed (under t false aborted' ++ under t true committed')
  new-choice t {aborted} {committed} {aborted'} {committed'} first second =
      subst (λ (c : List (Case V)). IsChoice t c committed (under t false aborted' ++ under t true committed')) first
      (subst (λ (c : List (Case V)). IsChoice t aborted' c (under t false aborted' ++ under t true committed')) second (value_at-tested t aborted' committed'))

  pub new-names : (t : TxnId) {aborted committed aborted' committed' : List (Case V)} → aborted' ≡ aborted → committed' ≡ committed
      → NamesOfBoth t aborted committed (under t false aborted' ++ under t true committed')
  new-names t {aborted} {committed} {aborted'} {committed'} first second =
      subst (λ (c : List (Case V)). NamesOfBoth t c committed (under t false aborted' ++ under t true committed')) first
      (subst (λ (c : List (Case V)). NamesOfBoth t aborted' c (under t false aborted' ++ under t true committed')) second (names-tested t aborted' committed'))

  pub new-canonical : (t : TxnId) (aborted committed : List (Case V)) → AreSides t aborted committed → IsCanonical (under t false aborted ++ under t true committed)
  new-canonical t aborted committed s = tested t aborted committed s.aborted_canonical s.committed_canonical s.aborted_after s.committed_after s.differ

  -- Where what is named begins.

  pub from-later : (t txn : TxnId) (cases : List (Case V)) → NamesFrom t cases → precedes t txn ≡ false → NamesFrom txn cases
  from-later t txn cases from late =
      ⊎_elim
      (λ early. absurd (false≢true (sym late ∙ early)))
      (⊎_elim
      (λ same. subst (λ (w : TxnId). NamesFrom w cases) same from)
      (λ early u named. inr (⊎_elim
      (λ same. subst (λ (w : TxnId). IsTrue (precedes txn w)) same early)
      (λ behind. precedes-trans txn t u early behind)
      (from u named))))
      (order-of-two t txn)

  pub from-earlier : (t txn : TxnId) (cases : List (Case V)) → NamesFrom t cases → IsTrue (precedes txn t) → NamesFrom txn cases
  from-earlier t txn cases from first u named =
      inr (⊎_elim
      (λ same. subst (λ (w : TxnId). IsTrue (precedes txn w)) same first)
      (λ behind. precedes-trans txn t u first behind)
      (from u named))

  pub from-unnamed : (txn : TxnId) (cases : List (Case V)) → names cases txn ≡ false → NamesFrom txn cases → NamesOnlyAfter txn cases
  from-unnamed txn cases unnamed from u named =
      ⊎_elim
      (λ same. absurd (false≢true (sym unnamed ∙ ap (names cases) same ∙ named)))
      (λ behind. behind)
      (from u named)

  pub nothing-from : (txn : TxnId) (cases : List (Case V)) → ((u : TxnId) → IsTrue (names cases u) → ⊥) → NamesFrom txn cases
  nothing-from txn cases nothing u named = absurd (nothing u named)

  -- The first of two tops before a transaction.

  before-is : (b : Bool) (txn t : TxnId) (aborted committed : List (Case V)) → precedes t txn ≡ b → NamesFrom t aborted → NamesFrom t committed
      → IsTrue (names aborted t) ⊎ IsTrue (names committed t) → IsFirstOf txn aborted committed (if b then Some t else None)
  before-is true txn t aborted committed is first second named = (is, (first, (second, named)))
  before-is false txn t aborted committed is first second named = (from-later t txn aborted first is, from-later t txn committed second is)

  earlier-is : (b : Bool) (txn t u : TxnId) (aborted committed : List (Case V)) → precedes u t ≡ b → NamesFrom t aborted → IsTrue (names aborted t) → NamesFrom u committed
      → IsTrue (names committed u) → IsFirstOf txn aborted committed (before txn (if b then u else t))
  earlier-is true txn t u aborted committed is first named second other =
      before-is (precedes u txn) txn u aborted committed refl (from-earlier t u aborted first is) second (inr other)
  earlier-is false txn t u aborted committed is first named second other =
      before-is (precedes t txn) txn t aborted committed refl first (from-later u t committed second is) (inl named)

  first-is : (txn : TxnId) (aborted committed : List (Case V)) (top other : Option TxnId) → IsFirst aborted top → IsFirst committed other
      → IsFirstOf txn aborted committed (first_before txn top other)
  first-is txn aborted committed None None top other = (nothing-from txn aborted top, nothing-from txn committed other)
  first-is txn aborted committed None (Some u) top other = before-is (precedes u txn) txn u aborted committed refl (nothing-from u aborted top) other.1 (inr other.0)
  first-is txn aborted committed (Some t) None top other = before-is (precedes t txn) txn t aborted committed refl top.1 (nothing-from t committed other) (inl top.0)
  first-is txn aborted committed (Some t) (Some u) top other = earlier-is (precedes u t) txn t u aborted committed refl top.1 top.0 other.1 other.0

  pub at-first : (txn : TxnId) (aborted committed : List (Case V)) (top other : Option TxnId) {found found' : Option TxnId} → IsFirst aborted top → IsFirst committed other
      → found ≡ first_before txn top other → found ≡ found' → IsFirstOf txn aborted committed found'
  at-first txn aborted committed top other first second is found =
      subst (λ (o : Option TxnId). IsFirstOf txn aborted committed o) (sym is ∙ found) (first-is txn aborted committed top other first second)

  -- Outcomes are settled.

  picked-behind : {t : TxnId} {cases aborted committed : List (Case V)} (outcome : Bool) → IsTested t aborted committed cases → NamesOnlyAfter t (if outcome then committed else aborted)
  picked-behind true at = at.sides.committed_after
  picked-behind false at = at.sides.aborted_after

  -- A tree that tests a later transaction than the first one settles only the others.
  pub earlier-settled : {t : TxnId} {cases aborted committed : List (Case V)} (literal : Literal) (rest : List Literal) (after : List (Case V)) → IsTested t aborted committed cases
      → IsTrue (precedes literal.txn t) → NamesKept after cases → IsSettled rest cases after → IsSettled (literal ∷ rest) cases after
  earlier-settled {cases = cases} literal rest after at early kept is =
      unnamed-settled literal rest cases after
      (behind-unnamed literal.txn cases (λ u named. ⊎_elim
      (λ same. subst (λ (w : TxnId). IsTrue (precedes literal.txn w)) same early)
      (λ later. precedes-trans literal.txn _ u early later)
      (test-from at u named)))
      kept is

  -- A tree that tests the first transaction settles the side that its outcome takes.
  equal-settled : {t : TxnId} {cases aborted committed : List (Case V)} (literal : Literal) (rest : List Literal) (after : List (Case V)) → IsTested t aborted committed cases
      → literal.txn ≡ t → NamesKept after (if literal.commits then committed else aborted) → IsSettled rest (if literal.commits then committed else aborted) after
      → IsSettled (literal ∷ rest) cases after
  equal-settled {t} {cases} {aborted} {committed} literal rest after at same kept is =
      subst (λ (c : List (Case V)). IsSettled (literal ∷ rest) c after) (sym (at.is ∙ ap (λ (w : TxnId). under w false aborted ++ under w true committed) (sym same)))
      (side-settled literal rest aborted committed after
      (subst (λ (w : TxnId). NamesOnlyAfter w (if literal.commits then committed else aborted)) (sym same) (picked-behind literal.commits at)) kept is)

  pub committed-settled : {t : TxnId} {cases aborted committed : List (Case V)} (literal : Literal) (rest : List Literal) (after : List (Case V)) → IsTested t aborted committed cases
      → literal.txn ≡ t → literal.commits ≡ true → NamesKept after committed → IsSettled rest committed after → IsSettled (literal ∷ rest) cases after
  committed-settled {aborted = aborted} {committed} literal rest after at same comes kept is =
      equal-settled literal rest after at same
      (subst (λ (b : Bool). NamesKept after (if b then committed else aborted)) (sym comes) kept)
      (subst (λ (b : Bool). IsSettled rest (if b then committed else aborted) after) (sym comes) is)

  pub aborted-settled : {t : TxnId} {cases aborted committed : List (Case V)} (literal : Literal) (rest : List Literal) (after : List (Case V)) → IsTested t aborted committed cases
      → literal.txn ≡ t → literal.commits ≡ false → NamesKept after aborted → IsSettled rest aborted after → IsSettled (literal ∷ rest) cases after
  aborted-settled {aborted = aborted} {committed} literal rest after at same aborts kept is =
      equal-settled literal rest after at same
      (subst (λ (b : Bool). NamesKept after (if b then committed else aborted)) (sym aborts) kept)
      (subst (λ (b : Bool). IsSettled rest (if b then committed else aborted) after) (sym aborts) is)

  -- A tree that tests an earlier transaction settles both sides.
  pub later-settled : {t : TxnId} {cases aborted committed aborted' committed' after : List (Case V)} (literals : List Literal) → IsTested t aborted committed cases
      → All (λ l. IsTrue (precedes t l.txn)) literals → IsSettled literals aborted aborted' → IsSettled literals committed committed' → IsChoice t aborted' committed' after
      → NamesOfBoth t aborted' committed' after → IsSettled literals cases after
  later-settled {t} {cases} {aborted} {committed} {aborted'} {committed'} {after} literals at before first second choice all =
      subst (λ (c : List (Case V)). IsSettled literals c after) (sym at.is)
      (test-settled t literals aborted committed aborted' committed' after before first second choice all)

  pub test-settled-names : {t : TxnId} {cases aborted committed : List (Case V)} (aborted' committed' after : List (Case V)) → IsTested t aborted committed cases
      → NamesKept aborted' aborted → NamesKept committed' committed → NamesOfBoth t aborted' committed' after → NamesKept after cases
  test-settled-names {cases = cases} aborted' committed' after at first second kept u named =
      ⊎_elim
      (λ same. subst (λ (w : TxnId). IsTrue (names cases w)) same (test-named at))
      (⊎_elim (λ here. test-aborted at u (first u here)) (λ here. test-committed at u (second u here)))
      (kept u named)

  -- A choice below an earlier test.

  pub side-unnamed : {t : TxnId} (txn : TxnId) {outcome : Bool} {cases side : List (Case V)} → IsSide t outcome cases side → names cases txn ≡ false → names side txn ≡ false
  side-unnamed txn {side = side} is unnamed =
      false_from_ne_true (names side txn) (λ named. false≢true (sym unnamed ∙ is.named txn named))

  -- what is known of one side of a choice below an earlier test
  pub record AreChosen (t txn : TxnId) (outcome : Bool) (aborted committed aborted' committed' chosen : List (Case V)) : Type 0 where
    pub aborted_side : IsSide t outcome aborted aborted'
    pub committed_side : IsSide t outcome committed committed'
    pub names : NamesOfBoth txn aborted' committed' chosen

  pub chosen-behind : {t txn : TxnId} {outcome : Bool} {aborted committed aborted' committed' chosen : List (Case V)} → AreChosen t txn outcome aborted committed aborted' committed' chosen
      → IsTrue (precedes t txn) → NamesOnlyAfter t chosen
  chosen-behind {t} {txn} are early u named =
      ⊎_elim
      (λ same. subst (λ (w : TxnId). IsTrue (precedes t w)) same early)
      (⊎_elim (are.aborted_side.after u) (are.committed_side.after u))
      (are.names u named)

  chosen-names : {t txn : TxnId} {outcome : Bool} {aborted committed aborted' committed' chosen : List (Case V)} → AreChosen t txn outcome aborted committed aborted' committed' chosen
      → NamesOfBoth txn aborted committed chosen
  chosen-names are u named =
      ⊎_elim
      (λ same. inl same)
      (λ side. inr (⊎_elim (λ here. inl (are.aborted_side.named u here)) (λ here. inr (are.committed_side.named u here)) side))
      (are.names u named)

  pub both-chosen-names : {t txn : TxnId} {aborted committed aborted0 committed0 aborted1 committed1 first-side second-side : List (Case V)} (cases : List (Case V))
      → AreChosen t txn false aborted committed aborted0 committed0 first-side → AreChosen t txn true aborted committed aborted1 committed1 second-side → NamesOfBoth t first-side second-side cases
      → IsTrue (names aborted t) ⊎ IsTrue (names committed t) → NamesOfBoth txn aborted committed cases
  both-chosen-names {t} {txn} {aborted} {committed} cases first second kept top u named =
      ⊎_elim
      (λ same. inr (subst (λ (w : TxnId). IsTrue (names aborted w) ⊎ IsTrue (names committed w)) same top))
      (⊎_elim (chosen-names first u) (chosen-names second u))
      (kept u named)

  -- The sides of a first test are together smaller than the two lists of cases.
  pub sides-smaller : {t : TxnId} {outcome : Bool} {aborted committed aborted' committed' : List (Case V)} → IsSide t outcome aborted aborted' → IsSide t outcome committed committed'
      → IsTrue (names aborted t) ⊎ IsTrue (names committed t) → length aborted' + length committed' < length aborted + length committed
  sides-smaller first second (inl named) = omega (arith, first.smaller named, second.shorter)
  sides-smaller first second (inr named) = omega (arith, second.smaller named, first.shorter)

  -- Copies of cases that name nothing before the transaction, nor the transaction.
  pub copy-behind : (txn : TxnId) {cases copy : List (Case V)} → copy ≡ cases → names cases txn ≡ false → NamesFrom txn cases → NamesOnlyAfter txn copy
  copy-behind txn {cases} same unnamed from =
      subst (λ (c : List (Case V)). NamesOnlyAfter txn c) (sym same) (from-unnamed txn cases unnamed from)
