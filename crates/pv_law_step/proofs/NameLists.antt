-- Lists of names ascend and have the members that they are to have.
use Rattle.std.proofs.Common.{◌≡◌, ◌⊎◌, ⊎_elim, Bool, true, false, List, [], ◌∷◌, inl, inr, refl, sym, subst, ◌∙◌, arith}
use Rattle.std.specs.Prelude.{IsTrue, if◌then◌else◌}
use Rattle.std.specs.List.{Contains, list_any}
use Rattle.std.proofs.lemmas.Bool.{or_cases, or_left, or_right, false≢true}
use Rattle.std.proofs.lemmas.List.Elements.{All-contains, filter_passes}
use Rattle.std.proofs.lemmas.List.Kept.{AllPairs-filter}
use Rattle.pv_base.specs.declared.literal.Literal.{Literal}
use Rattle.pv_base.specs.declared.txn.TxnId.{TxnId}
use Rattle.pv_base.specs.Assignment.{AreAscending, is_same_txn, precedes}
use Rattle.pv_base.specs.Named.{with_txn, with_txns, txns_in, names_of}
use Rattle.pv_base.specs.Polyvalue.{Case, AreNames, names}
use Rattle.pv_format.specs.Record.{Record}
use Rattle.pv_law_canonical.proofs.FilterLemmas.{kept-listed}
use Rattle.pv_law_polyvalues.proofs.AscendingLemmas.{All-from_members, IsInserted, ascending-tail, ascending-cons, insert-behind, insert-first, insert-same}
use Rattle.pv_base.proofs.AssignmentLemmas.{same-refl, same-eq, order-of-two, apart-from-test}
use Rattle.pv_base.proofs.ContainsLemmas.{Contains-first, Contains-behind, Contains-nil, Contains-cases, Contains-filter}
use Rattle.pv_protocol.specs.Records.{is_undecided, undecided}

-- One more transaction.

pub precedes-not : (t u : TxnId) → precedes t u ≡ false → is_same_txn t u ≡ false → IsTrue (precedes u t)
precedes-not t u later apart =
    ⊎_elim (λ before. absurd (false≢true (sym later ∙ before)))
    (λ rest. ⊎_elim (λ same. absurd (apart-from-test apart same)) (λ behind. behind) rest)
    (order-of-two t u)

inserted-by : (t u : TxnId) (us more : List TxnId) → AreAscending (u ∷ us) → IsInserted t us more → (same before : Bool) → is_same_txn t u ≡ same → precedes t u ≡ before
    → IsInserted t (u ∷ us) (if same then u ∷ us else (if before then t ∷ (u ∷ us) else u ∷ more))
inserted-by t u us more up rest true before same earlier = insert-same t u us up (same-eq same)
inserted-by t u us more up rest false true apart earlier = insert-first t u us up earlier
inserted-by t u us more up rest false false apart later = insert-behind t u us more up (precedes-not t u later apart) rest

pub inserted : (t : TxnId) (txns : List TxnId) → AreAscending txns → IsInserted t txns (with_txn t txns)
inserted t [] up = record {
  ascending = ascending-cons t [] (λ u h. absurd (Contains-nil u h)) up;
  first = Contains-first t [];
  kept = λ x h. absurd (Contains-nil x h);
  only = λ x h. Contains-cases t [] x h;
}
inserted t (u ∷ us) up =
    inserted-by t u us (with_txn t us) up (inserted t us (ascending-tail u us up)) (is_same_txn t u) (precedes t u) refl refl

-- Some more transactions.

-- The ascending list has the members of both.
pub record IsUnion (more txns all : List TxnId) : Type 0 where
  pub ascending : AreAscending all
  pub left : (x : TxnId) → Contains more x → Contains all x
  pub right : (x : TxnId) → Contains txns x → Contains all x
  pub only : (x : TxnId) → Contains all x → Contains more x ⊎ Contains txns x

union-step : (t : TxnId) (more txns all whole : List TxnId) → IsUnion more txns all → IsInserted t all whole → IsUnion (t ∷ more) txns whole
union-step t more txns all whole is new = record {
  ascending = new.ascending;
  left = λ x h. ⊎_elim (λ same. subst (Contains whole) same new.first) (λ old. new.kept x (is.left x old)) (Contains-cases t more x h);
  right = λ x h. new.kept x (is.right x h);
  only = λ x h. ⊎_elim
      (λ same. inl (subst (Contains (t ∷ more)) same (Contains-first t more)))
      (λ old. ⊎_elim (λ here. inl (Contains-behind t more x here)) (λ there. inr there) (is.only x old))
      (new.only x h);
}

pub united : (more txns : List TxnId) → AreAscending txns → IsUnion more txns (with_txns more txns)
united [] txns up = record { ascending = up; left = λ x h. absurd (Contains-nil x h); right = λ x h. h; only = λ x h. inr h }
united (t ∷ more) txns up =
    let rest = united more txns up in
    union-step t more txns (with_txns more txns) (with_txn t (with_txns more txns)) rest (inserted t (with_txns more txns) rest.ascending)

-- The names of cases.

-- Some literal names the transaction.
abbrev is-named-in : List Literal → TxnId → Bool
is-named-in when t = list_any (λ (literal : Literal). is_same_txn t literal.txn) when

named-listed : (when : List Literal) (t : TxnId) → IsTrue (is-named-in when t) → Contains (txns_in when) t
named-listed [] t h = absurd (false≢true h)
named-listed (literal ∷ rest) t h =
    ⊎_elim
    (λ same. subst (λ z. Contains (literal.txn ∷ txns_in rest) z) (sym (same-eq same)) (Contains-first literal.txn (txns_in rest)))
    (λ behind. Contains-behind literal.txn (txns_in rest) t (named-listed rest t behind))
    (or_cases (is_same_txn t literal.txn) (is-named-in rest t) h)

listed-named : (when : List Literal) (t : TxnId) → Contains (txns_in when) t → IsTrue (is-named-in when t)
listed-named [] t h = absurd (Contains-nil t h)
listed-named (literal ∷ rest) t h =
    ⊎_elim
    (λ same. or_left (is_same_txn t literal.txn) (is-named-in rest t) (subst (λ z. is_same_txn t z ≡ true) (sym same) (same-refl t)))
    (λ behind. or_right (is_same_txn t literal.txn) (is-named-in rest t) (listed-named rest t behind))
    (Contains-cases literal.txn (txns_in rest) t h)

module _ {V : Type 0} where
  -- The ascending list has what the cases name.
  record AreNamed (cases : List (Case V)) (txns : List TxnId) : Type 0 where
    pub ascending : AreAscending txns
    pub each : (t : TxnId) → Contains txns t → IsTrue (names cases t)
    pub whole : (t : TxnId) → IsTrue (names cases t) → Contains txns t

  named-step : (case : Case V) (cases : List (Case V)) (txns all : List TxnId) → AreNamed cases txns → IsUnion (txns_in case.when) txns all → AreNamed (case ∷ cases) all
  named-step case cases txns all are is = record {
    ascending = is.ascending;
    each = λ t h. ⊎_elim
        (λ first. or_left (is-named-in case.when t) (names cases t) (listed-named case.when t first))
        (λ rest. or_right (is-named-in case.when t) (names cases t) (are.each t rest))
        (is.only t h);
    whole = λ t h. ⊎_elim
        (λ first. is.left t (named-listed case.when t first))
        (λ rest. is.right t (are.whole t rest))
        (or_cases (is-named-in case.when t) (names cases t) h);
  }

  are-named : (cases : List (Case V)) → AreNamed cases (names_of cases)
  are-named [] = record { ascending = λ i j d before within. absurd (omega (arith, within)); each = λ t h. absurd (Contains-nil t h); whole = λ t h. absurd (false≢true h) }
  are-named (case ∷ cases) =
      let rest = are-named cases in
      named-step case cases (names_of cases) (with_txns (txns_in case.when) (names_of cases)) rest (united (txns_in case.when) (names_of cases) rest.ascending)

  -- The list of names is of the names.
  pub names-are : (cases : List (Case V)) → AreNames cases (names_of cases)
  names-are cases =
      let are = are-named cases in
      record { ascending = are.ascending; each = All-from_members (λ t. IsTrue (names cases t)) (names_of cases) are.each; whole = are.whole }

  pub names-listed : (cases : List (Case V)) (t : TxnId) → IsTrue (names cases t) → Contains (names_of cases) t
  names-listed cases t h = (are-named cases).whole t h

  pub listed-names : (cases : List (Case V)) (t : TxnId) → Contains (names_of cases) t → IsTrue (names cases t)
  listed-names cases t h = (are-named cases).each t h

  pub names-ascend : (cases : List (Case V)) → AreAscending (names_of cases)
  names-ascend cases = (are-named cases).ascending

-- What is undecided.

pub undecided-ascend : (records : List Record) (txns : List TxnId) → AreAscending txns → AreAscending (undecided records txns)
undecided-ascend records txns up = AllPairs-filter (λ txn later. IsTrue (precedes txn later)) (is_undecided records) txns up

pub undecided-listed : (records : List Record) (txns : List TxnId) (t : TxnId) → Contains (undecided records txns) t → Contains txns t
undecided-listed records txns t h = kept-listed (is_undecided records) txns t h

pub undecided-is : (records : List Record) (txns : List TxnId) (t : TxnId) → Contains (undecided records txns) t → is_undecided records t ≡ true
undecided-is records txns t h = All-contains (λ t. is_undecided records t ≡ true) (undecided records txns) t (filter_passes (is_undecided records) txns) h

pub listed-undecided : (records : List Record) (txns : List TxnId) (t : TxnId) → is_undecided records t ≡ true → Contains txns t → Contains (undecided records txns) t
listed-undecided records txns t is h = Contains-filter (is_undecided records) txns t is h
