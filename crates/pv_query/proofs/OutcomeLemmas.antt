-- The outcomes that several values name together.
use Rattle.std.proofs.Common.{◌≡◌, ⊎_elim, ℕ, suc, ◌+◌, ◌*◌, ◌<◌, ◌≤◌, List, [], ◌∷◌, length, get_or, take, sym, subst, ◌∙◌, arith}
use Rattle.std.specs.Prelude.{All, ◌++◌, IsTrue}
use Rattle.std.specs.List.{Contains, list_any}
use Rattle.std.proofs.Math.Nat.{mul-suc}
use Rattle.std.proofs.lemmas.Bool.{or_cases, false≢true}
use Rattle.std.proofs.lemmas.List.{take_more, length-append}
use Rattle.std.proofs.lemmas.List.Elements.{All-append, All-nil, All-cons, All-head, All-tail, Contains-append_left, Contains-append_right}
use Rattle.std.proofs.lemmas.List.Folds.{list_any-append}
use Rattle.pv_base.specs.declared.literal.Literal.{Literal}
use Rattle.pv_base.specs.declared.txn.TxnId.{TxnId}
use Rattle.pv_base.specs.Assignment.{is_same_txn}
use Rattle.pv_base.specs.Polyvalue.{Case, names, AreNames, IsPolyvalue}
use Rattle.pv_query.specs.AllSums.{together}
use Rattle.pv_law_polyvalues.proofs.NameLemmas.{some-names, listed-named}
use Rattle.pv_law_polyvalues.proofs.AscendingLemmas.{fewer-ascending}

among-more : (limit count : ℕ) (own rest : List TxnId) → length own ≤ limit → length rest ≤ limit * count → length (own ++ rest) ≤ limit * (suc count)
among-more limit count own rest first others = omega (arith, length-append own rest, first, others, mul-suc limit count)

-- What holds of the values so far, and of the next, holds of one more.
pub All-take-next : {X : Type 0} (P : X → Type 0) (xs : List X) (i : ℕ) (x : X) → i < length xs → x ≡ get_or xs i x → P x → All P (take i xs) → All P (take (i + 1) xs)
All-take-next P xs i x within is holds before =
    subst (All P) (sym (take_more xs i x within))
    (All-append P (take i xs) (get_or xs i x ∷ []) before (All-cons P (get_or xs i x) [] (subst P is holds) (All-nil P)))

module _ {V : Type 0} where
  -- Some list no longer than this has all that values name together.
  record AreAmong (count : ℕ) (values : List (List (Case V))) (txns : List TxnId) : Type 0 where
    pub few : length txns ≤ count
    pub whole : (txn : TxnId) → IsTrue (names (together values) txn) → Contains txns txn

  in-either : (txn : TxnId) (cases others : List (Case V)) (txns us : List TxnId) → (IsTrue (names cases txn) → Contains txns txn) → (IsTrue (names others txn) → Contains us txn)
      → IsTrue (names (cases ++ others) txn) → Contains (txns ++ us) txn
  in-either txn cases others txns us left right named =
      ⊎_elim
      (λ here. Contains-append_left txns us txn (left here))
      (λ there. Contains-append_right txns us txn (right there))
      (or_cases (names cases txn) (names others txn)
      (sym (list_any-append (λ (case : Case V). list_any (λ (literal : Literal). is_same_txn txn literal.txn) case.when) cases others) ∙ named))

  some-among : (limit : ℕ) (values : List (List (Case V))) → All (IsPolyvalue limit) values → (txns : List TxnId) × AreAmong (limit * length values) values txns
  some-among limit [] all = ([], record { few = omega arith; whole = λ txn named. absurd (false≢true named) })
  some-among limit (value ∷ values) all =
      let own = some-names value in
      let rest = some-among limit values (All-tail (IsPolyvalue limit) value values all) in
      let first = All-head (IsPolyvalue limit) value values all in (
        own.0 ++ rest.0,
        record {
          few = among-more limit (length values) own.0 rest.0 (first.few own.0 own.1) rest.1.few;
          whole = λ txn. in-either txn value (together values) own.0 rest.0 (own.1.whole txn) (rest.1.whole txn);
        },
      )

  -- Values that name few outcomes each name not many together.
  pub few-together : (limit : ℕ) (values : List (List (Case V))) (txns : List TxnId) → All (IsPolyvalue limit) values → AreNames (together values) txns
      → length txns ≤ limit * length values
  few-together limit values txns all are =
      let among = some-among limit values all in
      omega (arith, fewer-ascending txns among.0 are.ascending (λ t h. among.1.whole t (listed-named (together values) txns are t h)), among.1.few)
