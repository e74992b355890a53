-- Values that depend on finitely many transactions have canonical cases: so do choices, which so name some number of transactions.
use Rattle.std.proofs.Common.{◌≡◌, ◌⊎◌, ⊎_elim, ℕ, Bool, true, false, Some, List, [], ◌∷◌, inl, inr, length, refl, sym, ap, subst, ◌∙◌, arith}
use Rattle.std.specs.Prelude.{IsTrue, ◌++◌, if◌then◌else◌}
use Rattle.std.specs.List.{Contains}
use Rattle.std.specs.Ordering.{int_eq}
use Rattle.std.proofs.lemmas.Bool.{false≢true}
use Rattle.std.proofs.lemmas.Bool.Decides.{Decides-int_eq}
use Rattle.std.proofs.lemmas.List.Elements.{Contains-append_left, Contains-append_right, Contains-append_cases}
use Rattle.pv_base.specs.declared.literal.Literal.{Literal}
use Rattle.pv_base.specs.declared.txn.TxnId.{TxnId}
use Rattle.pv_base.specs.Assignment.{is_same_txn, commits, with_outcome}
use Rattle.pv_base.specs.Canonical.{IsExact}
use Rattle.pv_base.specs.Polyvalue.{Case, value_at, names, under, IsCanonical, sure, tested, IsChoice, ChoiceNames}
use Rattle.pv_base.proofs.Basics.{Some_inj, heads, tails}
use Rattle.pv_base.proofs.ContainsLemmas.{Contains-first, Contains-behind, Contains-nil, Contains-cases}
use Rattle.pv_base.proofs.AssignmentLemmas.{same-eq, same-from-eq, commits-with, commits-with-same, commits-with-alike}
use Rattle.pv_law_polyvalues.proofs.PolyvalueLemmas.{value_at-agree, value_at-tested, names-tested, behind-unnamed, canonical-complete, unnamed-free, one-canonical}
use Rattle.pv_law_polyvalues.proofs.AscendingLemmas.{Ascending, ascending-tail, ascending-first, some-ordered}
use Rattle.pv_law_polyvalues.proofs.NameLemmas.{some-names, one-names, listed-named}
use Rattle.pv_base.proofs.MapLemmas.{Contains-unmap}

-- Numbers are compared exactly.
pub numbers-exact : IsExact int_eq
numbers-exact = record { exact = λ x y. (Decides-int_eq x y).0; itself = λ x. (Decides-int_eq x x).1 refl }

-- Equality of cases is decided.

decided : {P : Type 0} (b : Bool) → (b ≡ true → P) → (P → b ≡ true) → P ⊎ (P → ⊥)
decided true to from = inl (to refl)
decided false to from = inr (λ p. false≢true (from p))

both-decided : {P Q R : Type 0} → P ⊎ (P → ⊥) → Q ⊎ (Q → ⊥) → (P → Q → R) → (R → P) → (R → Q) → R ⊎ (R → ⊥)
both-decided (inl p) (inl q) to left right = inl (to p q)
both-decided (inl p) (inr apart) to left right = inr (λ r. apart (right r))
both-decided (inr apart) q to left right = inr (λ r. apart (left r))

lists-equal : {X : Type 0} → ((x y : X) → (x ≡ y) ⊎ (x ≡ y → ⊥)) → (xs ys : List X) → (xs ≡ ys) ⊎ (xs ≡ ys → ⊥)
lists-equal equal [] [] = inl refl
lists-equal equal [] (y ∷ ys) = inr (λ e. omega (arith, ap length e))
lists-equal equal (x ∷ xs) [] = inr (λ e. omega (arith, ap length e))
lists-equal equal (x ∷ xs) (y ∷ ys) =
    both-decided (equal x y) (lists-equal equal xs ys) (λ first rest. ap (λ z. z ∷ xs) first ∙ ap (λ zs. y ∷ zs) rest) heads tails

outcomes-equal : (b c : Bool) → (b ≡ c) ⊎ (b ≡ c → ⊥)
outcomes-equal true true = inl refl
outcomes-equal true false = inr (λ e. false≢true (sym e))
outcomes-equal false true = inr false≢true
outcomes-equal false false = inl refl

literals-equal : (l m : Literal) → (l ≡ m) ⊎ (l ≡ m → ⊥)
literals-equal l m =
    both-decided
    (decided (is_same_txn l.txn m.txn) same-eq same-from-eq)
    (outcomes-equal l.commits m.commits)
    (λ same outcome i. record { txn = same i; commits = outcome i })
    (λ e. ap (λ z. z.txn) e)
    (λ e. ap (λ z. z.commits) e)

module _ {V : Type 0} where
  cases-equal-by : ((x y : V) → (x ≡ y) ⊎ (x ≡ y → ⊥)) → (c d : Case V) → (c ≡ d) ⊎ (c ≡ d → ⊥)
  cases-equal-by equal c d =
      both-decided
      (lists-equal literals-equal c.when d.when)
      (equal c.value d.value)
      (λ same value i. record { when = same i; value = value i })
      (λ e. ap (λ z. z.when) e)
      (λ e. ap (λ z. z.value) e)

  pub cases-equal : {same : V → V → Bool} → IsExact same → (cases others : List (Case V)) → (cases ≡ others) ⊎ (cases ≡ others → ⊥)
  cases-equal {same} laws cases others =
      lists-equal
      (cases-equal-by (λ x y. decided (same x y) (laws.exact x y) (λ e. subst (λ z. same x z ≡ true) e (laws.itself x))))
      cases others

-- Outcomes that are set.

own-by : (t : TxnId) (a : List TxnId) (x : TxnId) (b : Bool) → is_same_txn t x ≡ b → (if b then commits a t else commits a x) ≡ commits a x
own-by t a x true is = ap (commits a) (same-eq is)
own-by t a x false is = refl

-- To set the outcome that a transaction has changes nothing.
pub own-outcome : (t : TxnId) (outcome : Bool) (a : List TxnId) → commits a t ≡ outcome → (x : TxnId) → commits (with_outcome t outcome a) x ≡ commits a x
own-outcome t outcome a is x =
    commits-with t outcome a x ∙ ap (λ o. if is_same_txn t x then o else commits a x) (sym is) ∙ own-by t a x (is_same_txn t x) refl

-- The value depends only on the outcomes of these transactions.
abbrev pub DependsOn : {V : Type 0} → (List TxnId → V) → List TxnId → Type 0
DependsOn f txns = (a b : List TxnId) → ((t : TxnId) → Contains txns t → commits a t ≡ commits b t) → f a ≡ f b

set-alike : (t : TxnId) (outcome : Bool) (ts a b : List TxnId) → ((x : TxnId) → Contains ts x → commits a x ≡ commits b x)
    → (x : TxnId) → Contains (t ∷ ts) x → commits (with_outcome t outcome a) x ≡ commits (with_outcome t outcome b) x
set-alike t outcome ts a b alike x h =
    ⊎_elim
    (λ same. subst (λ z. commits (with_outcome t outcome a) z ≡ commits (with_outcome t outcome b) z) same
    (commits-with-same t outcome a ∙ sym (commits-with-same t outcome b)))
    (λ behind. commits-with-alike t outcome a b x (alike x behind))
    (Contains-cases t ts x h)

module _ {V : Type 0} where
  -- The cases are the canonical ones of the value, and name only these transactions.
  pub record ArePolyvalueOf (f : List TxnId → V) (txns : List TxnId) (cases : List (Case V)) : Type 0 where
    pub canonical : IsCanonical cases
    pub value : (a : List TxnId) → value_at cases a ≡ Some (f a)
    pub named : (u : TxnId) → IsTrue (names cases u) → Contains txns u

  -- the value with the outcome of a transaction set
  abbrev side : (List TxnId → V) → TxnId → Bool → List TxnId → V
  side f t outcome a = f (with_outcome t outcome a)

  side-depends : (f : List TxnId → V) (t : TxnId) (ts : List TxnId) (outcome : Bool) → DependsOn f (t ∷ ts) → DependsOn (side f t outcome) ts
  side-depends f t ts outcome depends a b alike =
      depends (with_outcome t outcome a) (with_outcome t outcome b) (set-alike t outcome ts a b alike)

  side-own : (f : List TxnId → V) (t : TxnId) (ts : List TxnId) (outcome : Bool) (a : List TxnId) → DependsOn f (t ∷ ts) → commits a t ≡ outcome → side f t outcome a ≡ f a
  side-own f t ts outcome a depends is = depends (with_outcome t outcome a) a (λ x h. own-outcome t outcome a is x)

  -- The value of the side that the assignment takes is the value.
  sides-value : (f : List TxnId → V) (t : TxnId) (ts : List TxnId) (front back : List (Case V)) (a : List TxnId) (outcome : Bool) → DependsOn f (t ∷ ts)
      → ArePolyvalueOf (side f t false) ts front → ArePolyvalueOf (side f t true) ts back → commits a t ≡ outcome
      → value_at (if outcome then back else front) a ≡ Some (f a)
  sides-value f t ts front back a true depends are them is = them.value a ∙ ap Some (side-own f t ts true a depends is)
  sides-value f t ts front back a false depends are them is = are.value a ∙ ap Some (side-own f t ts false a depends is)

  if-same : (b : Bool) (cases : List (Case V)) → (if b then cases else cases) ≡ cases
  if-same true cases = refl
  if-same false cases = refl

  -- Where both sides have the same cases, no test is made.
  untested-are : (f : List TxnId → V) (t : TxnId) (ts : List TxnId) (cases : List (Case V)) → DependsOn f (t ∷ ts)
      → ArePolyvalueOf (side f t false) ts cases → ArePolyvalueOf (side f t true) ts cases → ArePolyvalueOf f (t ∷ ts) cases
  untested-are f t ts cases depends are them = record {
    canonical = are.canonical;
    value = λ a. ap (λ cs. value_at cs a) (sym (if-same (commits a t) cases)) ∙ sides-value f t ts cases cases a (commits a t) depends are them refl;
    named = λ u h. Contains-behind t ts u (are.named u h);
  }

  tested-are : (f : List TxnId → V) (t : TxnId) (ts : List TxnId) (front back : List (Case V)) → Ascending (t ∷ ts) → DependsOn f (t ∷ ts)
      → ArePolyvalueOf (side f t false) ts front → ArePolyvalueOf (side f t true) ts back → (front ≡ back → ⊥)
      → ArePolyvalueOf f (t ∷ ts) (under t false front ++ under t true back)
  tested-are f t ts front back up depends are them apart = record {
    canonical = tested t front back are.canonical them.canonical
        (λ u h. ascending-first t ts up u (are.named u h)) (λ u h. ascending-first t ts up u (them.named u h)) apart;
    value = λ a. value_at-tested t front back a ∙ sides-value f t ts front back a (commits a t) depends are them refl;
    named = λ u h. ⊎_elim
        (λ same. subst (Contains (t ∷ ts)) same (Contains-first t ts))
        (λ inner. Contains-behind t ts u (⊎_elim (are.named u) (them.named u) inner))
        (names-tested t front back u h);
  }

  joined : (f : List TxnId → V) (t : TxnId) (ts : List TxnId) (front back : List (Case V)) → Ascending (t ∷ ts) → DependsOn f (t ∷ ts)
      → ArePolyvalueOf (side f t false) ts front → ArePolyvalueOf (side f t true) ts back → (front ≡ back) ⊎ (front ≡ back → ⊥)
      → (cases : List (Case V)) × ArePolyvalueOf f (t ∷ ts) cases
  joined f t ts front back up depends are them (inl same) =
      (front, untested-are f t ts front depends are (subst (ArePolyvalueOf (side f t true) ts) (sym same) them))
  joined f t ts front back up depends are them (inr apart) =
      (under t false front ++ under t true back, tested-are f t ts front back up depends are them apart)

  module _ {same : V → V → Bool} (laws : IsExact same) where
    some-ascending : (txns : List TxnId) (f : List TxnId → V) → Ascending txns → DependsOn f txns → (cases : List (Case V)) × ArePolyvalueOf f txns cases
    some-ascending [] f up depends = (
      record { when = []; value = f [] } ∷ [],
      record {
        canonical = sure (f []);
        value = λ a. ap Some (depends [] a (λ t h. absurd (Contains-nil t h)));
        named = λ u h. absurd (false≢true h);
      },
    )
    some-ascending (t ∷ ts) f up depends =
        let front = some-ascending ts (side f t false) (ascending-tail t ts up) (side-depends f t ts false depends) in
        let back = some-ascending ts (side f t true) (ascending-tail t ts up) (side-depends f t ts true depends) in
        joined f t ts front.0 back.0 up depends front.1 back.1 (cases-equal laws front.0 back.0)

    pub some-polyvalue-of : (f : List TxnId → V) (txns : List TxnId) → DependsOn f txns → (cases : List (Case V)) × ArePolyvalueOf f txns cases
    some-polyvalue-of f txns depends =
        let ordered = some-ordered txns in
        let found = some-ascending ordered.0 f ordered.1.ascending (λ a b alike. depends a b (λ t h. alike t (ordered.1.kept t h))) in
        (found.0, record { canonical = found.1.canonical; value = found.1.value; named = λ u h. ordered.1.only u (found.1.named u h) })

    pub some-polyvalue : (f : List TxnId → V) (txns : List TxnId) → ((a b : List TxnId) → ((t : TxnId) → Contains txns t → commits a t ≡ commits b t) → f a ≡ f b)
        → (cases : List (Case V)) × (IsCanonical cases × ((a : List TxnId) → value_at cases a ≡ Some (f a)))
    some-polyvalue f txns depends = let found = some-polyvalue-of f txns depends in (found.0, (found.1.canonical, found.1.value))

  -- the value of canonical cases at an assignment
  abbrev value-of : (cases : List (Case V)) → IsCanonical cases → List TxnId → V
  value-of cases canonical a = (canonical-complete cases canonical a).0

  value-of-at : (cases : List (Case V)) (canonical : IsCanonical cases) (a : List TxnId) → Some (value-of cases canonical a) ≡ value_at cases a
  value-of-at cases canonical a = sym (canonical-complete cases canonical a).1

  value-of-alike : (cases : List (Case V)) (canonical : IsCanonical cases) (a b : List TxnId)
      → ((u : TxnId) → IsTrue (names cases u) → commits a u ≡ commits b u) → value-of cases canonical a ≡ value-of cases canonical b
  value-of-alike cases canonical a b alike =
      Some_inj (value-of-at cases canonical a ∙ value_at-agree cases a b alike ∙ sym (value-of-at cases canonical b))

  if-alike : (o p : Bool) (x y z w : V) → o ≡ p → x ≡ z → y ≡ w → (if o then x else y) ≡ (if p then z else w)
  if-alike o p x y z w e f g = cc

  chosen-value : (front back : List (Case V)) (in-front : IsCanonical front) (in-back : IsCanonical back) (a : List TxnId) (o : Bool)
      → Some (if o then value-of back in-back a else value-of front in-front a) ≡ value_at (if o then back else front) a
  chosen-value front back in-front in-back a true = value-of-at back in-back a
  chosen-value front back in-front in-back a false = value-of-at front in-front a

  module _ {same : V → V → Bool} (laws : IsExact same) where
    pub some-choice : (t : TxnId) (front back : List (Case V)) → IsCanonical front → IsCanonical back
        → (cases : List (Case V)) × (IsCanonical cases × (IsChoice t front back cases × ((u : TxnId) → IsTrue (names cases u) → (t ≡ u) ⊎ (IsTrue (names front u) ⊎ IsTrue (names back u)))))
    some-choice t front back in-front in-back =
        let fronts = some-names front in
        let backs = some-names back in
        let f = λ (a : List TxnId). if commits a t then value-of back in-back a else value-of front in-front a in
        let txns = t ∷ (fronts.0 ++ backs.0) in
        let found = some-polyvalue-of laws f txns (λ a b alike.
        if-alike (commits a t) (commits b t) _ _ _ _
        (alike t (Contains-first t (fronts.0 ++ backs.0)))
        (value-of-alike back in-back a b (λ u h. alike u (Contains-behind t (fronts.0 ++ backs.0) u (Contains-append_right fronts.0 backs.0 u (backs.1.whole u h)))))
        (value-of-alike front in-front a b (λ u h. alike u (Contains-behind t (fronts.0 ++ backs.0) u (Contains-append_left fronts.0 backs.0 u (fronts.1.whole u h)))))) in (
          found.0,
          (
            found.1.canonical,
            (
              λ a. found.1.value a ∙ chosen-value front back in-front in-back a (commits a t),
              λ u h. ⊎_elim
                  (λ same. inl same)
                  (λ inner. inr (⊎_elim (λ here. inl (listed-named front fronts.0 fronts.1 u here)) (λ there. inr (listed-named back backs.0 backs.1 u there))
                  (Contains-append_cases fronts.0 backs.0 u inner)))
                  (Contains-cases t (fronts.0 ++ backs.0) u (found.1.named u h)),
            ),
          ),
        )

    -- Every choice names some number of transactions.
    pub some-choice-names : (t : TxnId) (front back : List (Case V)) → IsCanonical front → IsCanonical back → (count : ℕ) × ChoiceNames t front back count
    some-choice-names t front back in-front in-back =
        let found = some-choice t front back in-front in-back in
        let listed = some-names found.0 in (
          length listed.0,
          record { cases = found.0; canonical = found.1.0; choice = found.1.1.0; txns = listed.0; named = listed.1; counted = refl },
        )

  -- Two counts of what a choice names are equal.
  pub one-choice-names : (t : TxnId) (front back : List (Case V)) (count other : ℕ) → ChoiceNames t front back count → ChoiceNames t front back other → count ≡ other
  one-choice-names t front back count other are them =
      let same : are.cases ≡ them.cases =
      one-canonical are.cases them.cases are.canonical them.canonical (λ a. are.choice a ∙ sym (them.choice a)) in
      let listed : are.txns ≡ them.txns =
      one-names are.cases them.cases are.txns them.txns (λ u. ap (λ (cases : List (Case V)). names cases u) same) are.named them.named in
      sym are.counted ∙ ap length listed ∙ them.counted

  -- a case with one more literal in front
  abbrev under-one : TxnId → Bool → Case V → Case V
  under-one t outcome case = record { when = record { txn = t; commits = outcome } ∷ case.when; value = case.value }

  -- a side that the assignment takes has the value of its case
  side-met : (t : TxnId) (front back : List (Case V)) (outcome : Bool) (case : Case V) (a : List TxnId) → names (if outcome then back else front) t ≡ false
      → value_at (if outcome then back else front) a ≡ Some case.value
      → value_at (under t false front ++ under t true back) (with_outcome t outcome a) ≡ Some case.value
  side-met t front back outcome case a unnamed is =
      value_at-tested t front back (with_outcome t outcome a)
      ∙ ap (λ o. value_at (if o then back else front) (with_outcome t outcome a)) (commits-with-same t outcome a)
      ∙ unnamed-free t (if outcome then back else front) unnamed outcome a
      ∙ is

  -- Each of the cases is met somewhere.
  pub case-met : (cases : List (Case V)) → IsCanonical cases → (case : Case V) → Contains cases case → (a : List TxnId) × (value_at cases a ≡ Some case.value)
  case-met _ (sure value) case h =
      ([], ⊎_elim (λ same. ap (λ z. Some z.value) same) (λ behind. absurd (Contains-nil case behind)) (Contains-cases _ [] case h))
  case-met _ (tested t front back in-front in-back behind behind-too apart) case h =
      ⊎_elim
      (λ here.
      let inner = Contains-unmap (under-one t false) front case here in
      let met = case-met front in-front inner.0 inner.1.0 in
      (with_outcome t false met.0, side-met t front back false inner.0 met.0 (behind-unnamed t front behind) met.1 ∙ ap (λ z. Some z.value) inner.1.1))
      (λ there.
      let inner = Contains-unmap (under-one t true) back case there in
      let met = case-met back in-back inner.0 inner.1.0 in
      (with_outcome t true met.0, side-met t front back true inner.0 met.0 (behind-unnamed t back behind-too) met.1 ∙ ap (λ z. Some z.value) inner.1.1))
      (Contains-append_cases (under t false front) (under t true back) case h)
