-- A tree that was read, and the polyvalue that it is.
use Rattle.std.proofs.Common.{◌≡◌, ◌∙◌, ◌<◌, ◌≤◌, ◌*◌, ◌^◌, ⊎_elim, ℕ, ℤ, List, [], ◌++◌, length, map, Option, Some, None, Result, Ok, Err, IfOk, IfErr, ap, ap₂, sym, subst, arith}
use Rattle.std.specs.List.{sum}
use Rattle.pv_base.specs.BigEndian.{IsNumber, big_endian}
use Rattle.pv_base.specs.declared.limits.TheConstants.{HELD_NAMES}
use Rattle.pv_base.specs.Polyvalue.{Case, IsPolyvalue}
use Rattle.pv_base.specs.declared.literal.Literal.{Literal}
use Rattle.pv_bytes.specs.Reading.{Rest, HasTaken}
use Rattle.pv_cases.proofs.CasesAtLemmas.{behind-none}
use Rattle.pv_cases.specs.CasesAt.{under_all}
use Rattle.pv_cases.specs.JoinedCases.{IsKept}
use Rattle.pv_format.specs.FirstFault.{Fault, bad_poly, TreeFault, PartFault, PolyvalueFault, HasFault, is_within, is_after, is_of_tree}
use Rattle.pv_format.specs.Form.{SpellsIn, in_tree, in_sure_tree}
use Rattle.pv_format.specs.Layout.{Layout, any, anything, node_layout, tree_layout, polyvalue_then}
use Rattle.pv_format.specs.PolyvalueSpelling.{IsFit, SpellsNode, SpellsPolyvalue, SpellsTree}
use Rattle.pv_format.specs.Tree.{Tree, cases_of}
use Rattle.pv_fields.specs.Decoding.{Passes, Stops}
use Rattle.pv_fields.proofs.PartLemmas.{number_any, passes_after_number, stops_after_number}
use Rattle.pv_fields.proofs.PolyvalueLemmas.{passes_tree, stops_no_tree}
use Rattle.pv_replay.specs.Faults.{fault_of}
use Rattle.pv_replay.proofs.NodeLemmas.{counted_tests}
use Rattle.pv_replay.specs.Nodes.{IsNodeRead}
use Rattle.pv_replay.specs.Refused.{IsRefused}
use Rattle.pv_replay.specs.declared.error.PolyError.{PolyError}

-- What comes after the count of the leaves.
abbrev pub after_leaves : ℕ → Layout → Layout
after_leaves count next = node_layout HELD_NAMES next

-- The count, and then the tree.
module _ (count : ℕ) (old mid : Rest) (counted : HasTaken (big_endian 2 count) old mid) (fits : count < 256 ^ 2) where
  pub tree_passes : (tree : Tree) (new : Rest) → Passes (SpellsNode HELD_NAMES tree) (node_layout HELD_NAMES) mid new → Passes (SpellsTree count tree) tree_layout old new
  tree_passes tree new passes =
      passes_after_number (IsNumber 2 count) 2 any count after_leaves old mid (number_any 2 count old mid counted fits) (SpellsNode HELD_NAMES tree) new passes

  pub tree_stops : (told : Option Fault) → Stops (node_layout HELD_NAMES) mid told → Stops tree_layout old told
  tree_stops = stops_after_number (IsNumber 2 count) 2 any count after_leaves old mid (number_any 2 count old mid counted fits)

-- The cases of a tree that was read behind nothing are its own.
pub node_cases : (tests : ℕ) (way : List Literal) (before after : List (Case ℤ)) (old new : Rest) (node : IsNodeRead tests way before after old new) → way ≡ [] → before ≡ []
    → after ≡ cases_of node.tree
node_cases tests way before after old new node no_way none =
    node.cases ∙ ap₂ (λ (front : List (Case ℤ)) (literals : List Literal). front ++ under_all literals (cases_of node.tree)) none no_way ∙ behind-none (cases_of node.tree)

few_literals : (n count : ℕ) → count < 65536 → n ≤ count * 12 → n < 2 ^ 32
few_literals n count few most = omega arith

-- They have few literals in all.
pub few_in_all : (count : ℕ) (cases : List (Case ℤ)) (tree : Tree) (bytes : List ℕ) → SpellsNode HELD_NAMES tree bytes → cases ≡ cases_of tree → length cases ≡ count → count < 65536
    → sum (map (λ (case : Case ℤ). length case.when) cases) < 2 ^ 32
few_in_all count cases tree bytes spelled are counted few =
    subst (λ (those : List (Case ℤ)). sum (map (λ (case : Case ℤ). length case.when) those) < 2 ^ 32) (sym are)
    (few_literals (sum (map (λ (case : Case ℤ). length case.when) (cases_of tree))) (length (cases_of tree))
    (subst (λ (n : ℕ). n < 65536) (sym counted ∙ ap (λ (those : List (Case ℤ)). length those) are) few) (counted_tests HELD_NAMES tree bytes spelled))

-- What becomes of a tree that was read.
module _ (count : ℕ) (tree : Tree) (old new : Rest) (read : Passes (SpellsTree count tree) tree_layout old new) (cases : List (Case ℤ)) (are : cases ≡ cases_of tree) where
  pub tree_kept : count ≡ length cases → (result : Result (List (Case ℤ)) PolyError) → IfOk result (IsKept HELD_NAMES cases)
      → IfOk result (λ poly. Passes (SpellsPolyvalue poly) (polyvalue_then in_tree) old new)
  tree_kept counted (Ok poly) is =
      subst (λ (those : List (Case ℤ)). Passes (SpellsPolyvalue those) (polyvalue_then in_tree) old new) (sym (is.kept ∙ are))
      (passes_tree count tree old new read.taken
      (record { counted = counted ∙ ap (λ (those : List (Case ℤ)). length those) are; polyvalue = subst (IsPolyvalue HELD_NAMES) (is.kept ∙ are) is.polyvalue }))
  tree_kept counted (Err e) is = tt

  pub tree_refused : (place : ℕ) (result : Result (List (Case ℤ)) PolyError) → place ≡ old.place → IfErr result (IsRefused cases place)
      → IfErr result (λ e. Stops (polyvalue_then in_tree) old (fault_of e))
  tree_refused place (Ok poly) here is = tt
  tree_refused place (Err e) here is =
      ⊎_elim
      (λ none. subst (λ (other : PolyError). Stops (polyvalue_then in_tree) old (fault_of other)) (sym none) tt)
      (λ bad. subst (λ (other : PolyError). Stops (polyvalue_then in_tree) old (fault_of other)) (sym bad.0)
      (subst (λ (at : ℕ). Stops (polyvalue_then in_tree) old (Some (bad_poly at))) (sym here)
      (stops_no_tree count tree old new read.taken (λ (fit : IsFit count tree). bad.1 (subst (IsPolyvalue HELD_NAMES) (sym are) fit.polyvalue)))))
      is

  -- The count isn't that of the leaves.
  pub tree_miscounted : (count ≡ length cases → ⊥) → Stops (polyvalue_then in_tree) old (Some (bad_poly old.place))
  tree_miscounted wrong =
      stops_no_tree count tree old new read.taken (λ (fit : IsFit count tree). wrong (fit.counted ∙ sym (ap (λ (those : List (Case ℤ)). length those) are)))

-- What is wrong before anything is wrong within the tree.
pub within_tree : (place : ℕ) (bytes : List ℕ) (fault : Fault) → PartFault SpellsIn PolyvalueFault in_tree (HasFault anything) place bytes fault → TreeFault place bytes fault
within_tree place bytes fault (is_within told has) = has
within_tree place bytes fault (is_after cases front rest told whole spelled later) = absurd later

-- A tree that isn't read isn't read as one that is to be sure either.
pub sure_stops : (old : Rest) (told : Option Fault) → Stops (polyvalue_then in_tree) old told → Stops (polyvalue_then in_sure_tree) old told
sure_stops old (Some fault) stops = λ next. is_within fault (is_of_tree fault (within_tree old.place old.left fault (stops anything)))
sure_stops old None stops = tt
