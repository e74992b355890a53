-- Polyvalues of each form are a code, and their faults are reported one at a time.
use Rattle.std.proofs.Common.{◌≡◌, ◌⊎◌, ⊎_elim, ℕ, ◌+◌, List, ◌++◌, length, inl, inr, refl, sym, ap, subst, ◌∙◌}
use Rattle.std.specs.Prelude.{ℤ, IsTrue}
use Rattle.std.proofs.lemmas.Bool.{cases_Bool, cases_eq, true≢false}
use Rattle.pv_base.specs.BigEndian.{AreBytes}
use Rattle.pv_base.specs.declared.limits.TheConstants.{HELD_NAMES}
use Rattle.pv_base.specs.Polyvalue.{Case, IsPolyvalue}
use Rattle.pv_format.specs.FirstFault.{Fault, bad_poly, HasFaultBy, HasFieldFault, PartFault, is_within, is_after, PolyvalueFault, TreeFault, is_in_fields, is_no_polyvalue, SureFault, is_of_tree, is_not_sure, CasesFault, is_in_case_fields, are_no_polyvalue}
use Rattle.pv_format.specs.Form.{Form, in_tree, in_sure_tree, in_cases, SpellsIn}
use Rattle.pv_format.specs.Layout.{Layout, anything, cases_layout, tree_layout, polyvalue_then}
use Rattle.pv_format.specs.OldSpelling.{SpellsCases, SpellsInCases}
use Rattle.pv_format.specs.PolyvalueSpelling.{SpellsPolyvalue, SpellsSure, SpellsTree, IsFit}
use Rattle.pv_format.specs.Tree.{Tree, cases_of, is_sure}
use Rattle.pv_law_format.proofs.Codes.{Begins, IsCode, IsReadOnce, IsSpelledOnce}
use Rattle.pv_law_format.proofs.OneFault.{IsPart}
use Rattle.pv_law_format.proofs.PartCodes.{cases-code}
use Rattle.pv_law_format.proofs.PartLaws.{NoPart, NoFault, IsUnfit, IsWhole, part-once, part-read, part-not-both, part-one, part-either}
use Rattle.pv_law_format.proofs.PolyvalueDecided.{polyvalue-or-not}
use Rattle.pv_law_format.proofs.TreeCode.{counted-code}
use Rattle.pv_law_format.proofs.TreeLemmas.{one-tree}

-- In cases.

cases-here : IsCode NoPart NoFault SpellsCases cases_layout
cases-here = cases-code NoPart NoFault

abbrev IsValue : List (Case ℤ) → Type 0
IsValue cases = IsPolyvalue HELD_NAMES cases

cases-so : (cases : List (Case ℤ)) (bytes : List ℕ) → SpellsInCases cases bytes → IsWhole SpellsCases IsValue (λ c. c) cases bytes
cases-so cases bytes s = record { value = cases; is = refl; fit = s.polyvalue; there = s.spelled }

cases-too : (cases : List (Case ℤ)) (bytes : List ℕ) → IsValue cases → SpellsCases cases bytes → SpellsInCases cases bytes
cases-too cases bytes is there = record { polyvalue = is; spelled = there }

cases-fault : (place : ℕ) (bytes : List ℕ) (fault : Fault) → CasesFault place bytes fault
    → HasFieldFault (cases_layout anything) place bytes fault ⊎ IsUnfit SpellsCases IsValue place bytes fault
cases-fault place bytes _ (is_in_case_fields fault wrong) = inl wrong
cases-fault place bytes _ (are_no_polyvalue cases front rest whole there none) =
    inr (record { value = cases; front = front; rest = rest; whole = whole; there = there; none = none; is = refl })

cases-unfit : (place : ℕ) (bytes : List ℕ) (fault : Fault) → IsUnfit SpellsCases IsValue place bytes fault → CasesFault place bytes fault
cases-unfit place bytes fault u =
    subst (λ (f : Fault). CasesFault place bytes f) (sym u.is) (are_no_polyvalue u.value u.front u.rest u.whole u.there u.none)

-- In a tree, which has its count before it.

abbrev Counted : Type 0
Counted = ℕ × Tree

abbrev Whole : Counted → List ℕ → Type 0
Whole p = SpellsTree p.0 p.1

abbrev cases_for : Counted → List (Case ℤ)
cases_for p = cases_of p.1

abbrev Fits : Counted → Type 0
Fits p = IsFit p.0 p.1

tree-here : IsCode NoPart NoFault Whole tree_layout
tree-here = counted-code NoPart NoFault HELD_NAMES

fit-or-not : (p : Counted) → Fits p ⊎ (Fits p → ⊥)
fit-or-not p =
    ⊎_elim
    (λ counted. ⊎_elim
    (λ is. inl (record { counted = counted; polyvalue = is }))
    (λ none. inr (λ fit. none fit.polyvalue))
    (polyvalue-or-not HELD_NAMES (cases_for p)))
    (λ other. inr (λ fit. other fit.counted))
    (cases_eq p.0 (length (cases_for p)))

one-counted : (p q : Counted) → Fits p → Fits q → cases_for p ≡ cases_for q → p ≡ q
one-counted p q fit fit_too same =
    let counts = fit.counted ∙ ap (λ (cs : List (Case ℤ)). length cs) same ∙ sym fit_too.counted in
    let trees = one-tree p.1 q.1 same in
    (λ i. (counts i, trees i))

tree-so : (cases : List (Case ℤ)) (bytes : List ℕ) → SpellsPolyvalue cases bytes → IsWhole Whole Fits cases_for cases bytes
tree-so cases bytes s = record {
  value = (length cases, s.tree);
  is = s.is;
  fit = record { counted = ap (λ (cs : List (Case ℤ)). length cs) (sym s.is); polyvalue = subst IsValue (sym s.is) s.polyvalue };
  there = s.spelled;
}

tree-too : (p : Counted) (bytes : List ℕ) → Fits p → Whole p bytes → SpellsPolyvalue (cases_for p) bytes
tree-too p bytes fit there = record {
  tree = p.1;
  is = refl;
  polyvalue = fit.polyvalue;
  spelled = subst (λ (n : ℕ). SpellsTree n p.1 bytes) fit.counted there;
}

tree-fault : (place : ℕ) (bytes : List ℕ) (fault : Fault) → TreeFault place bytes fault → HasFieldFault (tree_layout anything) place bytes fault ⊎ IsUnfit Whole Fits place bytes fault
tree-fault place bytes _ (is_in_fields fault wrong) = inl wrong
tree-fault place bytes _ (is_no_polyvalue count tree front rest whole there none) =
    inr (record { value = (count, tree); front = front; rest = rest; whole = whole; there = there; none = none; is = refl })

tree-unfit : (place : ℕ) (bytes : List ℕ) (fault : Fault) → IsUnfit Whole Fits place bytes fault → TreeFault place bytes fault
tree-unfit place bytes fault u =
    subst (λ (f : Fault). TreeFault place bytes f) (sym u.is) (is_no_polyvalue u.value.0 u.value.1 u.front u.rest u.whole u.there u.none)

-- In a tree that is sure.

abbrev FitsSure : Counted → Type 0
FitsSure p = Fits p × IsTrue (is_sure (cases_for p))

sure-or-not : (p : Counted) → FitsSure p ⊎ (FitsSure p → ⊥)
sure-or-not p =
    ⊎_elim
    (λ fit. ⊎_elim (λ is. inl (fit, is)) (λ unsure. inr (λ both. true≢false (sym both.1 ∙ unsure))) (cases_Bool (is_sure (cases_for p))))
    (λ none. inr (λ both. none both.0))
    (fit-or-not p)

sure-so : (cases : List (Case ℤ)) (bytes : List ℕ) → SpellsSure cases bytes → IsWhole Whole FitsSure cases_for cases bytes
sure-so cases bytes s =
    let all = tree-so cases bytes s.polyvalue in
    record { value = all.value; is = all.is; fit = (all.fit, subst (λ (cs : List (Case ℤ)). IsTrue (is_sure cs)) (sym all.is) s.sure); there = all.there }

sure-too : (p : Counted) (bytes : List ℕ) → FitsSure p → Whole p bytes → SpellsSure (cases_for p) bytes
sure-too p bytes fit there = record { polyvalue = tree-too p bytes fit.0 there; sure = fit.1 }

not-sure : (place : ℕ) (bytes : List ℕ) (fault : Fault) → IsUnfit Whole Fits place bytes fault → IsUnfit Whole FitsSure place bytes fault
not-sure place bytes fault u =
    record { value = u.value; front = u.front; rest = u.rest; whole = u.whole; there = u.there; none = λ both. u.none both.0; is = u.is }

sure-fault : (place : ℕ) (bytes : List ℕ) (fault : Fault) → SureFault place bytes fault
    → HasFieldFault (tree_layout anything) place bytes fault ⊎ IsUnfit Whole FitsSure place bytes fault
sure-fault place bytes _ (is_of_tree fault wrong) =
    ⊎_elim (λ field. inl field) (λ unfit. inr (not-sure place bytes fault unfit)) (tree-fault place bytes fault wrong)
sure-fault place bytes _ (is_not_sure cases front rest whole s unsure) =
    inr (record {
      value = (length cases, s.tree);
      front = front;
      rest = rest;
      whole = whole;
      there = s.spelled;
      none = λ both. true≢false (sym both.1 ∙ ap is_sure s.is ∙ unsure);
      is = refl;
    })

sure-unfit : (place : ℕ) (bytes : List ℕ) (fault : Fault) → IsUnfit Whole FitsSure place bytes fault → SureFault place bytes fault
sure-unfit place bytes fault u =
    subst (λ (f : Fault). SureFault place bytes f) (sym u.is)
    (⊎_elim
    (λ fit. ⊎_elim
    (λ sure. absurd (u.none (fit, sure)))
    (λ unsure. is_not_sure (cases_for u.value) u.front u.rest u.whole (tree-too u.value u.front fit u.there) unsure)
    (cases_Bool (is_sure (cases_for u.value))))
    (λ none. is_of_tree (bad_poly place) (is_no_polyvalue u.value.0 u.value.1 u.front u.rest u.whole u.there none))
    (fit-or-not u.value))

one-sure : (p q : Counted) → FitsSure p → FitsSure q → cases_for p ≡ cases_for q → p ≡ q
one-sure p q fit fit_too = one-counted p q fit.0 fit_too.0

-- Each form.

pub polyvalue-once : (form : Form) → IsSpelledOnce (SpellsIn form)
polyvalue-once in_tree =
    part-once Whole tree-here cases_for Fits fit-or-not one-counted SpellsPolyvalue tree-so tree-too TreeFault tree-fault (λ p b f. is_in_fields f) tree-unfit
polyvalue-once in_sure_tree =
    part-once Whole tree-here cases_for FitsSure sure-or-not one-sure SpellsSure sure-so sure-too SureFault sure-fault (λ p b f w. is_of_tree f (is_in_fields f w)) sure-unfit
polyvalue-once in_cases =
    part-once SpellsCases cases-here (λ c. c) IsValue (polyvalue-or-not HELD_NAMES) (λ c d is too same. same) SpellsInCases cases-so cases-too CasesFault cases-fault
    (λ p b f. is_in_case_fields f) cases-unfit

pub polyvalue-read : (form : Form) → IsReadOnce (SpellsIn form)
polyvalue-read in_tree =
    part-read Whole tree-here cases_for Fits fit-or-not one-counted SpellsPolyvalue tree-so tree-too TreeFault tree-fault (λ p b f. is_in_fields f) tree-unfit
polyvalue-read in_sure_tree =
    part-read Whole tree-here cases_for FitsSure sure-or-not one-sure SpellsSure sure-so sure-too SureFault sure-fault (λ p b f w. is_of_tree f (is_in_fields f w)) sure-unfit
polyvalue-read in_cases =
    part-read SpellsCases cases-here (λ c. c) IsValue (polyvalue-or-not HELD_NAMES) (λ c d is too same. same) SpellsInCases cases-so cases-too CasesFault cases-fault
    (λ p b f. is_in_case_fields f) cases-unfit

polyvalue-one : (form : Form) (place : ℕ) (bytes : List ℕ) (fault other : Fault) → PolyvalueFault form place bytes fault → PolyvalueFault form place bytes other → fault ≡ other
polyvalue-one in_tree =
    part-one Whole tree-here cases_for Fits fit-or-not one-counted SpellsPolyvalue tree-so tree-too TreeFault tree-fault (λ p b f. is_in_fields f) tree-unfit
polyvalue-one in_sure_tree =
    part-one Whole tree-here cases_for FitsSure sure-or-not one-sure SpellsSure sure-so sure-too SureFault sure-fault (λ p b f w. is_of_tree f (is_in_fields f w)) sure-unfit
polyvalue-one in_cases =
    part-one SpellsCases cases-here (λ c. c) IsValue (polyvalue-or-not HELD_NAMES) (λ c d is too same. same) SpellsInCases cases-so cases-too CasesFault cases-fault
    (λ p b f. is_in_case_fields f) cases-unfit

polyvalue-not-both : (form : Form) (cases : List (Case ℤ)) (front rest : List ℕ) (place : ℕ) (fault : Fault) → SpellsIn form cases front
    → PolyvalueFault form place (front ++ rest) fault → ⊥
polyvalue-not-both in_tree =
    part-not-both Whole tree-here cases_for Fits fit-or-not one-counted SpellsPolyvalue tree-so tree-too TreeFault tree-fault (λ p b f. is_in_fields f) tree-unfit
polyvalue-not-both in_sure_tree =
    part-not-both Whole tree-here cases_for FitsSure sure-or-not one-sure SpellsSure sure-so sure-too SureFault sure-fault (λ p b f w. is_of_tree f (is_in_fields f w)) sure-unfit
polyvalue-not-both in_cases =
    part-not-both SpellsCases cases-here (λ c. c) IsValue (polyvalue-or-not HELD_NAMES) (λ c d is too same. same) SpellsInCases cases-so cases-too CasesFault cases-fault
    (λ p b f. is_in_case_fields f) cases-unfit

-- Bytes begin with a polyvalue, or have a fault.
pub polyvalue-either : (form : Form) (bytes : List ℕ) → AreBytes bytes → (place : ℕ) → Begins (SpellsIn form) bytes ⊎ ((fault : Fault) × PolyvalueFault form place bytes fault)
polyvalue-either in_tree =
    part-either Whole tree-here cases_for Fits fit-or-not one-counted SpellsPolyvalue tree-so tree-too TreeFault tree-fault (λ p b f. is_in_fields f) tree-unfit
polyvalue-either in_sure_tree =
    part-either Whole tree-here cases_for FitsSure sure-or-not one-sure SpellsSure sure-so sure-too SureFault sure-fault (λ p b f w. is_of_tree f (is_in_fields f w)) sure-unfit
polyvalue-either in_cases =
    part-either SpellsCases cases-here (λ c. c) IsValue (polyvalue-or-not HELD_NAMES) (λ c d is too same. same) SpellsInCases cases-so cases-too CasesFault cases-fault
    (λ p b f. is_in_case_fields f) cases-unfit

pub polyvalue-part : IsPart SpellsIn PolyvalueFault
polyvalue-part = record { read = polyvalue-read; one = polyvalue-one; not_both = polyvalue-not-both }

abbrev Faulty : Layout → ℕ → List ℕ → Fault → Type 0
Faulty = HasFaultBy SpellsIn PolyvalueFault

after-polyvalue : (form : Form) (cases : List (Case ℤ)) (front rest : List ℕ) (next : Layout) (place : ℕ) (fault : Fault) → SpellsIn form cases front
    → PartFault SpellsIn PolyvalueFault form (Faulty next) place (front ++ rest) fault → Faulty next (place + length front) rest fault
after-polyvalue form cases front rest next place _ s (is_within fault wrong) = absurd (polyvalue-not-both form cases front rest place fault s wrong)
after-polyvalue form cases front rest next place _ s (is_after others begin end fault whole is wrong) =
    let parts = polyvalue-read form others cases begin front end rest is s (sym whole) in
    let same : begin ≡ front = polyvalue-once form cases begin front (subst (λ (cs : List (Case ℤ)). SpellsIn form cs begin) parts.0 is) s in
    subst (λ (r : List ℕ). Faulty next (place + length front) r fault) parts.1
    (subst (λ (b : List ℕ). Faulty next (place + length b) end fault) same wrong)

pub polyvalue-code : (form : Form) → IsCode SpellsIn PolyvalueFault (SpellsIn form) (polyvalue_then form)
polyvalue-code form = record {
  once = polyvalue-once form;
  read = polyvalue-read form;
  after = after-polyvalue form;
  before = λ cases front rest next place fault s wrong. is_after cases front rest fault refl s wrong;
  either = λ bytes all next place.
      ⊎_elim (λ b. inl b) (λ wrong. inr (wrong.0, is_within wrong.0 wrong.1)) (polyvalue-either form bytes all place);
}
