-- The values of the first cases that are met are those of the cases, and their names are no more than their literals.
use Rattle.std.proofs.Common.{◌≡◌, ⊎_elim, ℕ, ◌+◌, ◌<◌, ◌≤◌, true, false, List, [], ◌∷◌, ◌++◌, map, length, get_or, take, Option, Some, None, IsTrue, refl, sym, ap, subst, ◌∙◌, arith, length-append}
use Rattle.std.specs.Prelude.{is_none}
use Rattle.std.specs.List.{Contains, filter_map, cons_option, list_any, sum}
use Rattle.std.proofs.lemmas.Bool.{true≢false, false≢true, or_cases}
use Rattle.std.proofs.lemmas.List.{append-nil, take_more, length-map}
use Rattle.std.proofs.lemmas.List.Elements.{filter_map-append, Contains-append_left, Contains-append_right}
use Rattle.std.proofs.lemmas.List.Sums.{sum_by-cons}
use Rattle.pv_base.specs.declared.literal.Literal.{Literal}
use Rattle.pv_base.specs.declared.txn.TxnId.{TxnId}
use Rattle.pv_base.specs.Assignment.{is_same_txn, assignments}
use Rattle.pv_base.specs.Polyvalue.{Case, value_at, names, AreNames, AreValues, AreSameEverywhere}
use Rattle.pv_base.specs.CaseFaults.{AreComplete}
use Rattle.pv_base.proofs.ContainsLemmas.{Contains-first, Contains-behind}
use Rattle.pv_base.proofs.AssignmentLemmas.{same-eq}
use Rattle.pv_base.proofs.MapLemmas.{map-map, map-same}
use Rattle.pv_law_polyvalues.proofs.NameLemmas.{NamesAtMost-within}
use Rattle.pv_law_polyvalues.proofs.TableLemmas.{same-by-values}
use Rattle.pv_cases.specs.declared.meetings.Meeting.{Meeting}
use Rattle.pv_cases.specs.Meetings.{places_met, meeting_of, meetings_of}
use Rattle.pv_cases.specs.Joining.{value_met}
use Rattle.pv_cases.proofs.MeetingLemmas.{value-of-meeting}
use Rattle.pv_cases.proofs.OverlapLemmas.{meeting-comes}

-- One meeting more.

more-values : {X Y : Type 0} (h : X → Option Y) (xs : List X) (i : ℕ) (d : X) → i < length xs
    → filter_map h (take (i + 1) xs) ≡ filter_map h (take i xs) ++ cons_option (h (get_or xs i d)) []
more-values h xs i d within = ap (filter_map h) (take_more xs i d within) ∙ filter_map-append h (take i xs) (get_or xs i d ∷ [])

pub one-value-more : {X Y : Type 0} (h : X → Option Y) (xs : List X) (i : ℕ) (d : X) (ys zs : List Y) (y : Y) → i < length xs
    → ys ≡ filter_map h (take i xs) → h (get_or xs i d) ≡ Some y → zs ≡ ys ++ y ∷ [] → zs ≡ filter_map h (take (i + 1) xs)
one-value-more h xs i d ys zs y within so-far comes is =
    is ∙ ap (λ (all : List _). all ++ y ∷ []) so-far
    ∙ ap (λ (o : Option _). filter_map h (take i xs) ++ cons_option o []) (sym comes)
    ∙ sym (more-values h xs i d within)

pub no-value-more : {X Y : Type 0} (h : X → Option Y) (xs : List X) (i : ℕ) (d : X) (ys zs : List Y) → i < length xs
    → ys ≡ filter_map h (take i xs) → h (get_or xs i d) ≡ None → zs ≡ ys → zs ≡ filter_map h (take (i + 1) xs)
no-value-more h xs i d ys zs within so-far comes is =
    is ∙ so-far ∙ sym (append-nil (filter_map h (take i xs)))
    ∙ ap (λ (o : Option _). filter_map h (take i xs) ++ cons_option o []) (sym comes)
    ∙ sym (more-values h xs i d within)

-- Where each has a value, all values come.

values-step : {Y : Type 0} (o : Option Y) (ys : List Y) (zs : List (Option Y)) → is_none o ≡ false → map Some ys ≡ zs → map Some (cons_option o ys) ≡ o ∷ zs
values-step None ys zs some same = absurd (true≢false some)
values-step (Some y) ys zs some same = ap (λ (os : List (Option _)). Some y ∷ os) same

all-values : {X Y : Type 0} (h : X → Option Y) (xs : List X) → ((x : X) → Contains xs x → is_none (h x) ≡ false) → map Some (filter_map h xs) ≡ map h xs
all-values h [] some = refl
all-values h (x ∷ xs) some =
    values-step (h x) (filter_map h xs) (map h xs) (some x (Contains-first x xs))
    (all-values h xs (λ y in-xs. some y (Contains-behind x xs y in-xs)))

-- A transaction that the condition names is one of its literals.
asked-in : (when : List Literal) (t : TxnId) → list_any (λ literal. is_same_txn t literal.txn) when ≡ true → Contains (map (λ literal. literal.txn) when) t
asked-in [] t h = absurd (false≢true h)
asked-in (literal ∷ rest) t h =
    ⊎_elim
    (λ same. subst (Contains (map (λ (literal : Literal). literal.txn) (literal ∷ rest))) (sym (same-eq same))
    (Contains-first literal.txn (map (λ (literal : Literal). literal.txn) rest)))
    (λ later. Contains-behind literal.txn (map (λ (literal : Literal). literal.txn) rest) t (asked-in rest t later))
    (or_cases (is_same_txn t literal.txn) (list_any (λ (literal : Literal). is_same_txn t literal.txn) rest) h)

module _ {V : Type 0} where
  met-some : (cases : List (Case V)) (txns : List TxnId) → AreComplete cases → (meeting : Meeting) → Contains (meetings_of cases txns) meeting
      → is_none (value_met cases meeting) ≡ false
  met-some cases txns whole meeting h =
      let comes = meeting-comes cases txns meeting h in
      ap (λ (m : Meeting). is_none (value_met cases m)) (sym comes.1.1)
      ∙ ap (λ (o : Option V). is_none o) (value-of-meeting cases comes.0)
      ∙ whole comes.0

  -- The values of the meetings are those of the cases at the assignments.
  pub met-values : (cases : List (Case V)) (txns : List TxnId) → AreComplete cases
      → AreValues cases txns (filter_map (value_met cases) (meetings_of cases txns))
  met-values cases txns whole =
      all-values (value_met cases) (meetings_of cases txns) (met-some cases txns whole)
      ∙ map-map (value_met cases) (λ a. meeting_of (places_met cases a)) (assignments txns)
      ∙ map-same (λ a. value_met cases (meeting_of (places_met cases a))) (value_at cases) (assignments txns) (λ a h. value-of-meeting cases a)

  -- A polyvalue of these values, which names no other transactions, has the values of the cases.
  pub joined-same : (cases poly : List (Case V)) (txns : List TxnId) (values : List V) → AreNames cases txns → AreValues cases txns values
      → AreValues poly txns values → ((t : TxnId) → IsTrue (names poly t) → Contains txns t) → AreSameEverywhere poly cases
  joined-same cases poly txns values are of-cases of-poly named =
      same-by-values poly cases txns named are.whole (sym of-poly ∙ of-cases)

  -- the transactions of all literals
  abbrev asked : List (Case V) → List TxnId
  asked [] = []
  asked (case ∷ cases) = map (λ literal. literal.txn) case.when ++ asked cases

  length-asked : (cases : List (Case V)) → length (asked cases) ≡ sum (map (λ case. length case.when) cases)
  length-asked [] = refl
  length-asked (case ∷ cases) =
      length-append (map (λ (literal : Literal). literal.txn) case.when) (asked cases)
      ∙ omega (
        arith,
        length-map case.when (λ (literal : Literal). literal.txn),
        length-asked cases,
        sum_by-cons (λ (n : ℕ). n) (length case.when) (map (λ (case : Case V). length case.when) cases),
      )

  named-asked : (cases : List (Case V)) (t : TxnId) → names cases t ≡ true → Contains (asked cases) t
  named-asked [] t h = absurd (false≢true h)
  named-asked (case ∷ cases) t h =
      ⊎_elim
      (λ here. Contains-append_left (map (λ (literal : Literal). literal.txn) case.when) (asked cases) t (asked-in case.when t here))
      (λ later. Contains-append_right (map (λ (literal : Literal). literal.txn) case.when) (asked cases) t (named-asked cases t later))
      (or_cases (list_any (λ (literal : Literal). is_same_txn t literal.txn) case.when) (names cases t) h)

  -- The cases name no more transactions than they have literals.
  pub names-of-literals : (cases : List (Case V)) (txns : List TxnId) → AreNames cases txns → length txns ≤ sum (map (λ case. length case.when) cases)
  names-of-literals cases txns are =
      let few : length txns ≤ length (asked cases) =
      NamesAtMost-within (length (asked cases)) cases (asked cases) (λ t named. named-asked cases t named) (omega arith) txns are in
      omega (arith, few, length-asked cases)
