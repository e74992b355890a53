-- What is in a list once transactions are appended, and that all that cases name, in order, are their names.
use Rattle.std.proofs.Common.{◌≡◌, ⊎_elim, ℕ, ◌+◌, ◌<◌, ◌≤◌, Bool, false, ◌||◌, List, [], ◌∷◌, ◌++◌, get_or, drop, length, take, inl, inr, IsTrue, sym, ap, subst, ◌∙◌, arith}
use Rattle.std.specs.Prelude.{◌↔◌}
use Rattle.std.specs.List.{Contains, flat_map, list_any}
use Rattle.std.proofs.Math.Bool.{or-false}
use Rattle.std.proofs.lemmas.Bool.{false≢true, or_cases, or_left, or_right}
use Rattle.std.proofs.lemmas.Grind.{flat_map-append}
use Rattle.std.proofs.lemmas.List.{append-nil, length-take, take_more, take-append-drop, take-append-le}
use Rattle.std.proofs.lemmas.List.Elements.{All-weaker, All-contains_itself, Contains-append_left, Contains-push, Contains-push_cases}
use Rattle.std.proofs.lemmas.List.Folds.{list_any-append}
use Rattle.pv_base.specs.declared.txn.TxnId.{TxnId}
use Rattle.pv_base.specs.Assignment.{is_same_txn}
use Rattle.pv_base.specs.Polyvalue.{Case, names, AreNames}
use Rattle.pv_base.proofs.AssignmentLemmas.{same-eq, same-from-eq}
use Rattle.pv_base.proofs.ContainsLemmas.{Contains-nil}
use Rattle.pv_law_polyvalues.proofs.AscendingLemmas.{Ascending}
use Rattle.pv_cases.specs.Names.{Adds}
use Rattle.pv_cases.proofs.CountLemmas.{names-append}

-- What is added.

-- An empty set adds nothing.
pub adds-nothing : (set : TxnId → Bool) (old new : List TxnId) → ((txn : TxnId) → set txn ≡ false) → new ≡ old → Adds set old new
adds-nothing set old new nothing same txn = (
  λ here. inl (subst (λ list. Contains list txn) same here),
  ⊎_elim (λ here. subst (λ list. Contains list txn) (sym same) here) (λ within. absurd (false≢true (sym (nothing txn) ∙ within))),
)

-- A transaction that is there needn't be appended.
pub adds-present : (txn : TxnId) (old new : List TxnId) → Contains old txn → new ≡ old → Adds (λ t. is_same_txn t txn) old new
adds-present txn old new there same t = (
  λ here. inl (subst (λ list. Contains list t) same here),
  λ either. subst (λ list. Contains list t) (sym same)
      (⊎_elim (λ here. here) (λ is. subst (λ u. Contains old u) (sym (same-eq {t = t} {u = txn} is)) there) either),
)

-- One transaction is appended.
pub adds-push : (txn : TxnId) (old new : List TxnId) → new ≡ old ++ txn ∷ [] → Adds (λ t. is_same_txn t txn) old new
adds-push txn old new pushed t = (
  λ here. ⊎_elim (λ stood. inl stood) (λ same. inr (same-from-eq (sym same))) (Contains-push_cases old txn t (subst (λ list. Contains list t) pushed here)),
  λ either. subst (λ list. Contains list t) (sym pushed)
      (⊎_elim
      (λ stood. Contains-append_left old (txn ∷ []) t stood)
      (λ same. subst (λ u. Contains (old ++ txn ∷ []) u) (sym (same-eq {t = t} {u = txn} same)) (Contains-push old txn))
      either),
)

-- What two sets add, one after the other, is what both add together.
pub adds-both : (set other both : TxnId → Bool) → ((txn : TxnId) → both txn ≡ (set txn || other txn)) → (old middle new : List TxnId)
    → Adds set old middle → Adds other middle new → Adds both old new
adds-both set other both is old middle new added added-too txn = (
  λ here. ⊎_elim
      (λ there. ⊎_elim (λ stood. inl stood) (λ within. inr (is txn ∙ or_left (set txn) (other txn) within)) ((added txn).0 there))
      (λ within. inr (is txn ∙ or_right (set txn) (other txn) within))
      ((added-too txn).0 here),
  ⊎_elim
      (λ stood. (added-too txn).1 (inl ((added txn).1 (inl stood))))
      (λ within. ⊎_elim
      (λ first. (added-too txn).1 (inl ((added txn).1 (inr first))))
      (λ second. (added-too txn).1 (inr second))
      (or_cases (set txn) (other txn) (sym (is txn) ∙ within))),
)

-- Element by element.

any-next : {X : Type 0} (p : X → Bool) (xs : List X) (i : ℕ) (x : X) → i < length xs → list_any p (take (i + 1) xs) ≡ (list_any p (take i xs) || p (get_or xs i x))
any-next p xs i x within =
    ap (list_any p) (take_more xs i x within)
    ∙ list_any-append p (take i xs) (get_or xs i x ∷ [])
    ∙ ap (λ (b : Bool). list_any p (take i xs) || b) (or-false (p (get_or xs i x)))

-- What one element more adds.
pub adds-next : {X : Type 0} (p : TxnId → X → Bool) (xs : List X) (i : ℕ) (x : X) (old middle new : List TxnId) → i < length xs
    → Adds (λ t. list_any (p t) (take i xs)) old middle → Adds (λ t. p t (get_or xs i x)) middle new → Adds (λ t. list_any (p t) (take (i + 1) xs)) old new
adds-next p xs i x old middle new within added next =
    adds-both (λ t. list_any (p t) (take i xs)) (λ t. p t (get_or xs i x)) (λ t. list_any (p t) (take (i + 1) xs)) (λ t. any-next (p t) xs i x within)
    old middle new added next

-- What the cases of one element more add.
pub adds-cases : {X V : Type 0} (f : X → List (Case V)) (xs : List X) (i : ℕ) (x : X) (cases : List (Case V)) (old middle new : List TxnId) → i < length xs → x ≡ get_or xs i x
    → cases ≡ f x → Adds (names (flat_map f (take i xs))) old middle → Adds (names cases) middle new → Adds (names (flat_map f (take (i + 1) xs))) old new
adds-cases {V = V} f xs i x cases old middle new within is same added next =
    let before = flat_map f (take i xs) in
    adds-both (names before) (names cases) (names (flat_map f (take (i + 1) xs)))
    (λ t. ap (λ some. names (flat_map f some) t) (take_more xs i x within)
    ∙ ap (λ (all : List (Case V)). names all t) (flat_map-append f (take i xs) (get_or xs i x ∷ []))
    ∙ names-append before (f (get_or xs i x) ++ []) t
    ∙ ap (λ (all : List (Case V)). names before t || names all t) (append-nil (f (get_or xs i x)))
    ∙ ap (λ y. names before t || names (f y) t) (sym is)
    ∙ ap (λ (all : List (Case V)). names before t || names all t) (sym same))
    old middle new added next

-- What stays in front.

-- What a list held still stands in front after two steps that keep what there was.
pub kept-further : (old now new : List TxnId) → take (length old) now ≡ old → take (length now) new ≡ now → take (length old) new ≡ old
kept-further old now new first second =
    let short : length old ≤ length now = omega (arith, sym (ap length first), length-take (length old) now) in
    ap (λ (list : List TxnId). take (length old) list) (sym (take-append-drop (length now) new))
    ∙ ap (λ (list : List TxnId). take (length old) (list ++ drop (length now) new)) second
    ∙ take-append-le (length old) now (drop (length now) new) short
    ∙ first

-- One more is pushed, behind what the list held.
pub kept-pushed : (old now new : List TxnId) (txn : TxnId) → take (length old) now ≡ old → new ≡ now ++ txn ∷ [] → take (length old) new ≡ old
kept-pushed old now new txn first pushed =
    let short : length old ≤ length now = omega (arith, sym (ap length first), length-take (length old) now) in
    ap (λ (list : List TxnId). take (length old) list) pushed ∙ take-append-le (length old) now (txn ∷ []) short ∙ first

-- The names.

-- All that cases name, and nothing else, put in order, are their names.
pub AreNames-added : {V : Type 0} (cases : List (Case V)) (old all txns : List TxnId) → old ≡ [] → Adds (names cases) old all
    → Ascending txns → ((txn : TxnId) → Contains txns txn ↔ Contains all txn) → AreNames cases txns
AreNames-added cases old all txns none added ascending same = record {
  ascending = ascending;
  each = All-weaker (Contains txns) (λ (txn : TxnId). IsTrue (names cases txn))
      (λ txn here. ⊎_elim
      (λ stood. absurd (Contains-nil txn (subst (λ list. Contains list txn) none stood)))
      (λ named. named)
      ((added txn).0 ((same txn).0 here))) txns (All-contains_itself txns);
  whole = λ txn named. (same txn).1 ((added txn).1 (inr named));
}
