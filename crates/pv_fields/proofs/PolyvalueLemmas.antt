-- A polyvalue among the parts.
use Rattle.std.specs.Prelude.{◌==◌, if◌then◌else◌, IsTrue, IsFalse}
use Rattle.std.proofs.Common.{ℕ, true, false, zero, suc, ◌+◌, ◌*◌, ◌<◌, ◌≤◌, ℤ, Bool, List, [], ◌∷◌, length, map, All, Option, Some, None, refl, sym, subst, arith}
use Rattle.std.specs.List.{sum}
use Rattle.std.specs.Int.{w64}
use Rattle.std.specs.Int.RustNames.{FitsSigned}
use Rattle.std.proofs.lemmas.List.Elements.{All-nil, All-cons, All-weaker}
use Rattle.std.proofs.lemmas.List.Sums.{sum-map, sum_by-le}
use Rattle.pv_base.specs.BigEndian.{big_endian, twos_complement, IsSigned}
use Rattle.pv_base.proofs.BigEndianLemmas.{twos_complement-lt}
use Rattle.pv_base.specs.declared.limits.TheConstants.{HELD_NAMES}
use Rattle.pv_base.specs.Polyvalue.{Case, IsPolyvalue}
use Rattle.pv_bytes.specs.Reading.{Rest, HasTaken}
use Rattle.pv_format.specs.FirstFault.{Fault, bad_poly, NumberFault, is_short, is_refused, is_later, is_within, is_after, is_in_fields, is_no_polyvalue, is_not_sure, is_in_case_fields, are_no_polyvalue, HasFault, HasFieldFault}
use Rattle.pv_format.specs.Form.{in_tree, in_sure_tree, in_cases}
use Rattle.pv_format.specs.Layout.{Layout, anything, nothing_more, number_then, polyvalue_then, any, repeated, literal_layout, case_layout, cases_layout, node_layout, tree_layout, txn_layout}
use Rattle.pv_format.specs.OldSpelling.{SpellsCase, SpellsCases, SpellsInCases}
use Rattle.pv_format.specs.PolyvalueSpelling.{IsFit, SpellsPolyvalue, SpellsSure, SpellsTree}
use Rattle.pv_format.specs.Tree.{Tree, cases_of, is_sure}
use Rattle.pv_format.specs.Spelling.{SpellsEach}
use Rattle.pv_fields.specs.Decoding.{IsTaken, Passes, Stops}
use Rattle.pv_fields.proofs.PartLemmas.{passes_any}

-- A signed number was read.
pub passes_signed : (value : ℤ) (old new : Rest) → HasTaken (big_endian 8 (twos_complement value)) old new → FitsSigned w64 value
    → Passes (IsSigned value) (λ next. number_then 8 any (λ _. next)) old new
passes_signed value old new taken fits = record {
  taken = record { front = big_endian 8 (twos_complement value); is = record { fits = fits; spelled = refl }; taken = taken };
  later = (passes_any 8 (twos_complement value) old new taken (twos_complement-lt value fits)).later;
}

-- No polyvalue is expected in the layout.
abbrev pub OnlyNumbers : Layout → Type 0
OnlyNumbers anything = Unit {0}
OnlyNumbers nothing_more = Unit {0}
OnlyNumbers (number_then size allows next) = (value : ℕ) → OnlyNumbers (next value)
OnlyNumbers (polyvalue_then form next) = ⊥

number_fault : (size : ℕ) (allows : ℕ → Bool) (Later Other : ℕ → ℕ → List ℕ → Fault → Type 0)
    → ((value place : ℕ) (bytes : List ℕ) (fault : Fault) → Later value place bytes fault → Other value place bytes fault)
    → (place : ℕ) (bytes : List ℕ) (fault : Fault) → NumberFault size allows Later place bytes fault → NumberFault size allows Other place bytes fault
number_fault size allows Later Other weaker place bytes fault (is_short fewer) = is_short fewer
number_fault size allows Later Other weaker place bytes fault (is_refused value front rest whole is refused) = is_refused value front rest whole is refused
number_fault size allows Later Other weaker place bytes fault (is_later value front rest fault' whole is later) =
    is_later value front rest fault' whole is (weaker value (place + size) rest fault' later)

-- A fault of numbers alone is one whatever polyvalues are.
pub field_fault : (layout : Layout) → OnlyNumbers layout → (place : ℕ) (bytes : List ℕ) (fault : Fault) → HasFault layout place bytes fault → HasFieldFault layout place bytes fault
field_fault anything only place bytes fault has = has
field_fault nothing_more only place bytes fault has = has
field_fault (number_then size allows next) only place bytes fault has =
    number_fault size allows (λ value. HasFault (next value)) (λ value. HasFieldFault (next value)) (λ value. field_fault (next value) (only value)) place bytes fault has
field_fault (polyvalue_then form next) only place bytes fault has = absurd only

only_repeated : (count : ℕ) (each : Layout → Layout) → ((next : Layout) → OnlyNumbers next → OnlyNumbers (each next)) → (next : Layout) → OnlyNumbers next → OnlyNumbers (repeated count each next)
only_repeated zero each keeps next only = only
only_repeated (suc count) each keeps next only = keeps (repeated count each next) (only_repeated count each keeps next only)

only_literal : (next : Layout) → OnlyNumbers next → OnlyNumbers (literal_layout next)
only_literal next only = λ _ _ _ _. only

only_case : (next : Layout) → OnlyNumbers next → OnlyNumbers (case_layout next)
only_case next only = λ count. only_repeated count literal_layout only_literal (number_then 8 any (λ _. next)) (λ _. only)

-- The fields of cases are numbers.
pub only_cases : (next : Layout) → OnlyNumbers next → OnlyNumbers (cases_layout next)
only_cases next only = λ count. only_repeated count case_layout only_case next only

only_side : (is_leaf : Bool) (next other : Layout) → OnlyNumbers next → OnlyNumbers other → OnlyNumbers (if is_leaf then next else other)
only_side true next other only only_other = only
only_side false next other only only_other = only_other

only_txn : (next : Layout) → OnlyNumbers next → OnlyNumbers (txn_layout next)
only_txn next only = λ _ _ _. only

only_node : (tests : ℕ) (next : Layout) → OnlyNumbers next → OnlyNumbers (node_layout tests next)
only_node zero next only = λ _ _. only
only_node (suc tests) next only = λ kind.
    only_side (kind == 0) (number_then 8 any (λ _. next)) (txn_layout (node_layout tests (node_layout tests next))) (λ _. only)
    (only_txn (node_layout tests (node_layout tests next)) (only_node tests (node_layout tests next) (only_node tests next only)))

-- The fields of a tree are numbers.
pub only_tree : (next : Layout) → OnlyNumbers next → OnlyNumbers (tree_layout next)
only_tree next only = λ _. only_node HELD_NAMES next only

-- In cases: they weren't read, or are no polyvalue, or are one.

pub stops_cases : (old : Rest) (told : Option Fault) → Stops cases_layout old told → Stops (polyvalue_then in_cases) old told
stops_cases old (Some fault) stops = λ next.
    is_within fault (is_in_case_fields fault (field_fault (cases_layout anything) (only_cases anything tt) old.place old.left fault (stops anything)))
stops_cases old None stops = tt

pub stops_no_cases : (cases : List (Case ℤ)) (old new : Rest) → IsTaken (SpellsCases cases) old new → (IsPolyvalue HELD_NAMES cases → ⊥)
    → Stops (polyvalue_then in_cases) old (Some (bad_poly old.place))
stops_no_cases cases old new taken isnt = λ next. is_within (bad_poly old.place) (are_no_polyvalue cases taken.front new.left taken.taken.bytes taken.is isnt)

pub passes_cases : (cases : List (Case ℤ)) (old new : Rest) → IsTaken (SpellsCases cases) old new → IsPolyvalue HELD_NAMES cases
    → Passes (SpellsInCases cases) (polyvalue_then in_cases) old new
passes_cases cases old new taken is = record {
  taken = record { front = taken.front; is = record { polyvalue = is; spelled = taken.is }; taken = taken.taken };
  later = λ next fault has. is_after cases taken.front new.left fault taken.taken.bytes (record { polyvalue = is; spelled = taken.is })
      (subst (λ place. HasFault next place new.left fault) taken.taken.place has);
}

-- In a tree, likewise.

pub stops_tree : (old : Rest) (told : Option Fault) → Stops tree_layout old told → Stops (polyvalue_then in_tree) old told
stops_tree old (Some fault) stops = λ next.
    is_within fault (is_in_fields fault (field_fault (tree_layout anything) (only_tree anything tt) old.place old.left fault (stops anything)))
stops_tree old None stops = tt

pub stops_no_tree : (count : ℕ) (tree : Tree) (old new : Rest) → IsTaken (SpellsTree count tree) old new → (IsFit count tree → ⊥)
    → Stops (polyvalue_then in_tree) old (Some (bad_poly old.place))
stops_no_tree count tree old new taken isnt = λ next. is_within (bad_poly old.place) (is_no_polyvalue count tree taken.front new.left taken.taken.bytes taken.is isnt)

as_tree : (count : ℕ) (tree : Tree) (bytes : List ℕ) → SpellsTree count tree bytes → IsFit count tree → SpellsPolyvalue (cases_of tree) bytes
as_tree count tree bytes spelled fit =
    record { tree = tree; is = refl; polyvalue = fit.polyvalue; spelled = subst (λ (n : ℕ). SpellsTree n tree bytes) fit.counted spelled }

pub passes_tree : (count : ℕ) (tree : Tree) (old new : Rest) → IsTaken (SpellsTree count tree) old new → IsFit count tree
    → Passes (SpellsPolyvalue (cases_of tree)) (polyvalue_then in_tree) old new
passes_tree count tree old new taken fit = record {
  taken = record { front = taken.front; is = as_tree count tree taken.front taken.is fit; taken = taken.taken };
  later = λ next fault has. is_after (cases_of tree) taken.front new.left fault taken.taken.bytes (as_tree count tree taken.front taken.is fit)
      (subst (λ place. HasFault next place new.left fault) taken.taken.place has);
}

-- In a tree that is to be sure: a polyvalue was read that isn't, or that is.

pub stops_unsure : (cases : List (Case ℤ)) (old new : Rest) → IsTaken (SpellsPolyvalue cases) old new → IsFalse (is_sure cases)
    → Stops (polyvalue_then in_sure_tree) old (Some (bad_poly old.place))
stops_unsure cases old new taken unsure = λ next. is_within (bad_poly old.place) (is_not_sure cases taken.front new.left taken.taken.bytes taken.is unsure)

pub passes_sure : (cases : List (Case ℤ)) (old new : Rest) → IsTaken (SpellsPolyvalue cases) old new → IsTrue (is_sure cases)
    → Passes (SpellsSure cases) (polyvalue_then in_sure_tree) old new
passes_sure cases old new taken sure = record {
  taken = record { front = taken.front; is = record { polyvalue = taken.is; sure = sure }; taken = taken.taken };
  later = λ next fault has. is_after cases taken.front new.left fault taken.taken.bytes (record { polyvalue = taken.is; sure = sure })
      (subst (λ place. HasFault next place new.left fault) taken.taken.place has);
}

-- A case that is spelled has fewer than 256 literals.
pub few_literals : (cases : List (Case ℤ)) (bytes : List ℕ) → SpellsEach SpellsCase cases bytes → All (λ (case : Case ℤ). length case.when < 256) cases
few_literals [] bytes spelled = All-nil (λ (case : Case ℤ). length case.when < 256)
few_literals (case ∷ cases) bytes spelled =
    All-cons (λ (case : Case ℤ). length case.when < 256) case cases (let fits = spelled.first.first.fits in omega arith) (few_literals cases spelled.back spelled.second)

-- Cases that are spelled have at most 255 literals each.
pub counted_literals : (cases : List (Case ℤ)) (bytes : List ℕ) → SpellsEach SpellsCase cases bytes → sum (map (λ (case : Case ℤ). length case.when) cases) ≤ length cases * 255
counted_literals cases bytes spelled =
    let few = All-weaker (λ (case : Case ℤ). length case.when < 256) (λ case. length case.when ≤ 255) (λ case fits. omega arith) cases (few_literals cases bytes spelled) in
    subst (λ total. total ≤ length cases * 255) (sym (sum-map (λ (case : Case ℤ). length case.when) cases)) (sum_by-le (λ (case : Case ℤ). length case.when) 255 cases few)
