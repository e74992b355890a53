-- Canonical cases of few names are few, and have few literals each.
use Rattle.std.proofs.Common.{◌≡◌, ⊎_elim, ℕ, zero, suc, ◌<◌, ◌≤◌, ◌^◌, Bool, true, false, List, [], ◌∷◌, ◌++◌, cond, length, sym, ap, subst, ◌∙◌, arith}
use Rattle.std.specs.Prelude.{IsTrue, All}
use Rattle.std.specs.List.{Contains, filter}
use Rattle.std.proofs.lemmas.Bool.{false_from_ne_true}
use Rattle.std.proofs.lemmas.List.Sums.{count_by-le-length, length-filter}
use Rattle.std.proofs.lemmas.List.{length-append, length-map}
use Rattle.std.proofs.lemmas.List.Elements.{All-append, All-cons, All-map, All-nil}
use Rattle.std.proofs.Math.Nat.{one-le-pow, pow-suc}
use Rattle.pv_base.specs.declared.txn.TxnId.{TxnId}
use Rattle.pv_base.specs.Assignment.{precedes}
use Rattle.pv_base.specs.Polyvalue.{Case, IsCanonical, sure, tested, IsPolyvalue, names, under}
use Rattle.pv_base.proofs.AssignmentLemmas.{precedes-irrefl}
use Rattle.pv_base.proofs.ContainsLemmas.{Contains-cases, Contains-nil, Contains-filter}
use Rattle.pv_law_polyvalues.proofs.NameLemmas.{some-names}
use Rattle.pv_law_polyvalues.proofs.PolyvalueLemmas.{names-self, names-front, names-back}

filtered : {X : Type 0} (p : X → Bool) (xs : List X) → length (filter p xs) ≤ length xs
filtered p xs = omega (arith, length-filter p xs, count_by-le-length p xs)

kept-less : {X : Type 0} (b : Bool) (x : X) (kept xs : List X) → length kept < length xs → length (cond b (x ∷ kept) kept) < length (x ∷ xs)
kept-less true x kept xs less = omega (arith, less)
kept-less false x kept xs less = omega (arith, less)

-- Where one is left out, fewer are kept.
pub filtered-less : {X : Type 0} (p : X → Bool) (xs : List X) (x : X) → Contains xs x → p x ≡ false → length (filter p xs) < length xs
filtered-less p [] x here out = absurd (Contains-nil x here)
filtered-less p (y ∷ ys) x here out =
    ⊎_elim
    (λ same. let less = filtered p ys in
    subst (λ (b : Bool). length (cond b (y ∷ filter p ys) (filter p ys)) < length (y ∷ ys)) (sym (ap p same ∙ out)) (omega (arith, less)))
    (λ later. kept-less (p y) y (filter p ys) ys (filtered-less p ys x later out))
    (Contains-cases y ys x here)

pub not-before : (txn : TxnId) → precedes txn txn ≡ false
not-before txn = false_from_ne_true (precedes txn txn) (precedes-irrefl txn)

module _ {V : Type 0} where
  -- the cases are at most a power of two, and have no more literals each than its exponent
  pub record AreFew (most : ℕ) (cases : List (Case V)) : Type 0 where
    pub count : length cases ≤ 2 ^ most
    pub literals : All (λ case. length case.when ≤ most) cases

  under-few : (txn : TxnId) (outcome : Bool) (most : ℕ) (cases : List (Case V)) → All (λ case. length case.when ≤ most) cases
      → All (λ case. length case.when ≤ suc most) (under txn outcome cases)
  under-few txn outcome most cases few =
      All-map (λ (case : Case V). length case.when ≤ suc most) (λ (case : Case V). record { when = record { txn = txn; commits = outcome } ∷ case.when; value = case.value }) cases
      (λ k d within. let less = few k d within in omega (arith, less))

  both-few : (txn : TxnId) (most : ℕ) (front back : List (Case V)) → AreFew most front → AreFew most back → AreFew (suc most) (under txn false front ++ under txn true back)
  both-few txn most front back left right = record {
    count = omega (
      arith,
      left.count,
      right.count,
      length-append (under txn false front) (under txn true back),
      pow-suc 2 most,
      length-map {B = Case V} front (λ (case : Case V). record { when = record { txn = txn; commits = false } ∷ case.when; value = case.value }),
      length-map {B = Case V} back (λ (case : Case V). record { when = record { txn = txn; commits = true } ∷ case.when; value = case.value }),
    );
    literals = All-append (λ (case : Case V). length case.when ≤ suc most) (under txn false front) (under txn true back)
        (under-few txn false most front left.literals) (under-few txn true most back right.literals);
  }

  few-within : (cases : List (Case V)) → IsCanonical cases → (txns : List TxnId) (most : ℕ) → length txns ≤ most
      → ((txn : TxnId) → IsTrue (names cases txn) → Contains txns txn) → AreFew most cases
  few-within cases (sure value) txns most few whole = record {
    count = one-le-pow most 2 (omega arith);
    literals = All-cons (λ (case : Case V). length case.when ≤ most) (record { when = []; value = value }) [] (omega arith) (All-nil (λ (case : Case V). length case.when ≤ most));
  }
  few-within cases (tested txn front back left right after_front after_back differ) txns zero few whole =
      let less = filtered-less (precedes txn) txns txn (whole txn (names-self txn front back left)) (not-before txn) in absurd (omega (arith, less, few))
  few-within cases (tested txn front back left right after_front after_back differ) txns (suc most) few whole =
      let less = filtered-less (precedes txn) txns txn (whole txn (names-self txn front back left)) (not-before txn) in
      both-few txn most front back
      (few-within front left (filter (precedes txn) txns) most (omega (arith, less, few))
      (λ named is. Contains-filter (precedes txn) txns named (after_front named is) (whole named (names-front txn front back named is))))
      (few-within back right (filter (precedes txn) txns) most (omega (arith, less, few))
      (λ named is. Contains-filter (precedes txn) txns named (after_back named is) (whole named (names-back txn front back named is))))

  pub polyvalue-few : (limit : ℕ) (cases : List (Case V)) → IsPolyvalue limit cases → AreFew limit cases
  polyvalue-few limit cases is =
      let listed = some-names cases in
      few-within cases is.canonical listed.0 limit (is.few listed.0 listed.1) listed.1.whole
