-- The transactions that cases name: each list of cases has one ascending list of them, and how long it is.
use Rattle.std.proofs.Common.{◌≡◌, ◌⊎◌, ⊎_elim, ℕ, ◌+◌, ◌≤◌, Bool, true, false, List, [], ◌∷◌, inl, inr, length, refl, sym, subst, ◌∙◌, arith}
use Rattle.std.specs.Prelude.{IsTrue, ◌||◌, ◌↔◌}
use Rattle.std.specs.List.{Contains, list_any}
use Rattle.std.proofs.lemmas.Bool.{or_cases, or_left, or_right, false≢true, false_from_ne_true}
use Rattle.std.proofs.lemmas.List.Elements.{All-contains}
use Rattle.std.proofs.lemmas.List.Kept.{AllPairs-cons}
use Rattle.pv_base.specs.declared.literal.Literal.{Literal}
use Rattle.pv_base.specs.declared.txn.TxnId.{TxnId}
use Rattle.pv_base.specs.Assignment.{is_same_txn}
use Rattle.pv_base.specs.Polyvalue.{Case, names, AreNames, NamesAtMost}
use Rattle.pv_base.proofs.ContainsLemmas.{Contains-first, Contains-behind, Contains-nil, Contains-cases}
use Rattle.pv_law_polyvalues.proofs.AscendingLemmas.{Ascending, Distinct, IsInserted, All-from_members, ascending-distinct, one-ascending, fewer-ascending, fewer-distinct, some-inserted}
use Rattle.pv_base.proofs.AssignmentLemmas.{same-refl, same-eq}

-- The ascending list has the transactions of the set.
record IsListOf (set : TxnId → Bool) (txns : List TxnId) : Type 0 where
  pub ascending : Ascending txns
  pub each : (t : TxnId) → Contains txns t → IsTrue (set t)
  pub whole : (t : TxnId) → IsTrue (set t) → Contains txns t

of-none : IsListOf (λ t. false) []
of-none = record {
  ascending = λ i j d before within. absurd (omega (arith, within));
  each = λ t h. absurd (Contains-nil t h);
  whole = λ t h. absurd (false≢true h);
}

of-one-more : (set : TxnId → Bool) (u : TxnId) (txns more : List TxnId) → IsListOf set txns → IsInserted u txns more → IsListOf (λ t. is_same_txn t u || set t) more
of-one-more set u txns more of is = record {
  ascending = is.ascending;
  each = λ t h. ⊎_elim
      (λ same. or_left (is_same_txn t u) (set t) (subst (λ z. is_same_txn z u ≡ true) same (same-refl u)))
      (λ old. or_right (is_same_txn t u) (set t) (of.each t old))
      (is.only t h);
  whole = λ t h. ⊎_elim
      (λ same. subst (Contains more) (sym (same-eq same)) is.first)
      (λ old. is.kept t (of.whole t old))
      (or_cases (is_same_txn t u) (set t) h);
}

-- Some literal of the condition names the transaction.
abbrev names-in : List Literal → TxnId → Bool
names-in when t = list_any (λ (literal : Literal). is_same_txn t literal.txn) when

or-assoc : (a b c : Bool) → (a || (b || c)) ≡ ((a || b) || c)
or-assoc true b c = refl
or-assoc false b c = refl

of-same : (set other : TxnId → Bool) (txns : List TxnId) → ((t : TxnId) → set t ≡ other t) → IsListOf set txns → IsListOf other txns
of-same set other txns same of = record {
  ascending = of.ascending;
  each = λ t h. sym (same t) ∙ of.each t h;
  whole = λ t h. of.whole t (same t ∙ h);
}

some-of-when : (when : List Literal) (set : TxnId → Bool) (txns : List TxnId) → IsListOf set txns
    → (more : List TxnId) × IsListOf (λ t. names-in when t || set t) more
some-of-when [] set txns of = (txns, of)
some-of-when (literal ∷ rest) set txns of =
    let inner = some-of-when rest set txns of in
    let outer = some-inserted literal.txn inner.0 inner.1.ascending in (
      outer.0,
      of-same _ _ outer.0 (λ t. or-assoc (is_same_txn t literal.txn) (names-in rest t) (set t))
          (of-one-more (λ t. names-in rest t || set t) literal.txn inner.0 outer.0 inner.1 outer.1),
    )

module _ {V : Type 0} where
  some-of-cases : (cases : List (Case V)) → (txns : List TxnId) × IsListOf (names cases) txns
  some-of-cases [] = ([], of-none)
  some-of-cases (case ∷ cases) = let rest = some-of-cases cases in some-of-when case.when (names cases) rest.0 rest.1

  pub some-names : (cases : List (Case V)) → (txns : List TxnId) × AreNames cases txns
  some-names cases =
      let found = some-of-cases cases in (
        found.0,
        record {
          ascending = found.1.ascending;
          each = All-from_members (λ t. IsTrue (names cases t)) found.0 found.1.each;
          whole = found.1.whole;
        },
      )

  -- What is in the list is named.
  pub listed-named : (cases : List (Case V)) (txns : List TxnId) → AreNames cases txns → (t : TxnId) → Contains txns t → IsTrue (names cases t)
  listed-named cases txns are t h = All-contains (λ t. IsTrue (names cases t)) txns t are.each h

-- Cases that name the same transactions have the same list of them.
pub one-names : {V W : Type 0} (cases : List (Case V)) (others : List (Case W)) (txns us : List TxnId) → ((t : TxnId) → names cases t ≡ names others t)
    → AreNames cases txns → AreNames others us → txns ≡ us
one-names cases others txns us same are them =
    one-ascending txns us are.ascending them.ascending
    (λ t h. them.whole t (sym (same t) ∙ listed-named cases txns are t h))
    (λ t h. are.whole t (same t ∙ listed-named others us them t h))

pub fewer-names : {V W : Type 0} (cases : List (Case V)) (others : List (Case W)) (txns us : List TxnId)
    → ((t : TxnId) → IsTrue (names cases t) → IsTrue (names others t)) → AreNames cases txns → AreNames others us → length txns ≤ length us
fewer-names cases others txns us kept are them =
    fewer-ascending txns us are.ascending (λ t h. them.whole t (kept t (listed-named cases txns are t h)))

pub NamesAtMost-fewer : {V W : Type 0} (limit : ℕ) (cases : List (Case V)) (others : List (Case W))
    → ((t : TxnId) → IsTrue (names cases t) → IsTrue (names others t)) → NamesAtMost limit others → NamesAtMost limit cases
NamesAtMost-fewer limit cases others kept few txns are =
    let all = some-names others in
    omega (arith, fewer-names cases others txns all.0 kept are all.1, few all.0 all.1)

pub NamesAtMost-from : {V : Type 0} (limit : ℕ) (cases : List (Case V)) (txns : List TxnId) → AreNames cases txns → length txns ≤ limit → NamesAtMost limit cases
NamesAtMost-from limit cases txns are short us them =
    omega (arith, fewer-names cases cases us txns (λ t h. h) them are, short)

pub NamesAtMost-within : {V : Type 0} (limit : ℕ) (cases : List (Case V)) (txns : List TxnId) → ((t : TxnId) → IsTrue (names cases t) → Contains txns t)
    → length txns ≤ limit → NamesAtMost limit cases
NamesAtMost-within limit cases txns within short us them =
    omega (arith, fewer-ascending us txns them.ascending (λ t h. within t (listed-named cases us them t h)), short)

-- Cases that name one transaction more have a list that is longer by one.
pub names-one-more : {V W : Type 0} (cases : List (Case V)) (others : List (Case W)) (t : TxnId) (txns us : List TxnId)
    → ((u : TxnId) → IsTrue (names others u) ↔ ((t ≡ u) ⊎ IsTrue (names cases u))) → names cases t ≡ false
    → AreNames cases txns → AreNames others us → length us ≡ length txns + 1
names-one-more cases others t txns us more unnamed are them =
    let at-most = fewer-ascending us (t ∷ txns) them.ascending
    (λ u h. ⊎_elim
    (λ same. subst (Contains (t ∷ txns)) same (Contains-first t txns))
    (λ named. Contains-behind t txns u (are.whole u named))
    ((more u).0 (listed-named others us them u h))) in
    let other : (u : TxnId) → Contains txns u → is_same_txn t u ≡ false =
    λ u h. false_from_ne_true (is_same_txn t u)
    (λ same. false≢true (sym unnamed ∙ subst (λ z. IsTrue (names cases z)) (sym (same-eq same)) (listed-named cases txns are u h))) in
    let distinct : Distinct (t ∷ txns) =
    AllPairs-cons (λ txn later. is_same_txn txn later ≡ false) t txns (All-from_members (λ u. is_same_txn t u ≡ false) txns other) (ascending-distinct txns are.ascending) in
    let at-least = fewer-distinct (t ∷ txns) us distinct
    (λ u h. ⊎_elim
    (λ same. them.whole u ((more u).1 (inl same)))
    (λ old. them.whole u ((more u).1 (inr (listed-named cases txns are u old))))
    (Contains-cases t txns u h)) in
    omega (arith, at-most, at-least)
