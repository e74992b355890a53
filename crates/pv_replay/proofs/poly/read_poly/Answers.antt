-- The count, the tree, and then whether they are a polyvalue.
use Rattle.std.proofs.Common.{◌≡◌, ◌∙◌, ◌∷◌, [], ℤ, List, Some, FitsSigned, of_z, to_z, w64, length, ap, refl, rules, subst, arith}
use Rattle.std.specs.Prelude.{IfErr, IfOk}
use Rattle.std.proofs.lemmas.Int.{to_z-of_z}
use Rattle.std.proofs.lemmas.Result.{err_from_is_err_and}
use Rattle.pv_base.specs.declared.limits.TheConstants.{HELD_NAMES}
use Rattle.pv_base.specs.declared.literal.Literal.{Literal}
use Rattle.pv_cases.specs.JoinedCases.{IsKept}
use Rattle.pv_format.specs.FirstFault.{short}
use Rattle.pv_format.specs.Layout.{any}
use Rattle.pv_fields.proofs.PartLemmas.{stops_at_number, stops_short}
use Rattle.pv_fields.proofs.PolyvalueLemmas.{stops_tree}
use Rattle.pv_replay.specs.Faults.{fault_of}
use Rattle.pv_replay.specs.Refused.{IsRefused}
use Rattle.pv_replay.proofs.LeftLemmas.{gone_further}
use Rattle.pv_replay.proofs.PolyLemmas.{after_leaves, few_in_all, node_cases, tree_kept, tree_miscounted, tree_passes, tree_refused, tree_stops}
use Rattle.pv_replay.proofs.poly.read_poly.Goals as goal

pub returns-in_err-count-clause-stops : goal.returns-in_err-count-clause-stops
returns-in_err-count-clause-stops c =
    let p = err_from_is_err_and c.from_residual.result c.from_residual.ensures.1 in
    rw (p.1, p.2)
    (stops_tree c.args.take.now (Some (short c.in_err-count.field-0.0.0))
    (stops_at_number 2 any after_leaves c.args.take.now (Some (short c.in_err-count.field-0.0.0))
    (stops_short 2 any c.args.take.now c.u16.new.self c.in_err-count.field-0.0 c.in_err-count.ensures.short)))

-- A leaf alone.

pub returns-in_err-value-clause-stops : goal.returns-in_err-value-clause-stops
returns-in_err-value-clause-stops c =
    let p = err_from_is_err_and c.from_residual-in_err-value.result c.from_residual-in_err-value.ensures.1 in
    rw (p.1, p.2)
    (stops_tree c.args.take.now (fault_of c.in_err-value.field-0.0)
    (tree_stops c.in_ok-count.count c.args.take.now c.u16.new.self c.in_ok-count.ensures.taken (omega arith) (fault_of c.in_err-value.field-0.0) c.in_err-value.ensures.stops))

pub returns-in_err-value-clause-left : goal.returns-in_err-value-clause-left
returns-in_err-value-clause-left c = gone_further c.args.take.now c.u16.new.self c.take_leaf.new.take (_, c.in_ok-count.ensures.taken) c.take_leaf.ensures.left

pub returns-then-begins_leaf-clause-passes : goal.returns-then-begins_leaf-clause-passes
returns-then-begins_leaf-clause-passes c =
    let node = c.in_ok-value.ensures.read in
    let fits : FitsSigned w64 c.in_ok-value.value = search rules in
    let value = to_z w64 (of_z w64 c.in_ok-value.value) in
    let are = ap (λ (number : ℤ). record { when = []; value = number } ∷ []) (to_z-of_z w64 c.in_ok-value.value fits)
    ∙ node_cases HELD_NAMES [] [] (record { when = []; value = c.in_ok-value.value } ∷ []) c.u16.new.self c.take_leaf.new.take node refl refl in
    let read = tree_passes c.in_ok-count.count c.args.take.now c.u16.new.self c.in_ok-count.ensures.taken (omega arith) node.tree c.take_leaf.new.take node.passes in
    tree_kept c.in_ok-count.count node.tree c.args.take.now c.take_leaf.new.take read (record { when = []; value = value } ∷ []) are (omega arith) c.poly_of_case.result
    (subst (λ (when : List Literal). IfOk c.poly_of_case.result (IsKept HELD_NAMES (record { when = when; value = value } ∷ []))) c.new.ensures.items c.poly_of_case.ensures.kept)

pub returns-then-begins_leaf-clause-stops : goal.returns-then-begins_leaf-clause-stops
returns-then-begins_leaf-clause-stops c =
    let node = c.in_ok-value.ensures.read in
    let fits : FitsSigned w64 c.in_ok-value.value = search rules in
    let value = to_z w64 (of_z w64 c.in_ok-value.value) in
    let are = ap (λ (number : ℤ). record { when = []; value = number } ∷ []) (to_z-of_z w64 c.in_ok-value.value fits)
    ∙ node_cases HELD_NAMES [] [] (record { when = []; value = c.in_ok-value.value } ∷ []) c.u16.new.self c.take_leaf.new.take node refl refl in
    let read = tree_passes c.in_ok-count.count c.args.take.now c.u16.new.self c.in_ok-count.ensures.taken (omega arith) node.tree c.take_leaf.new.take node.passes in
    tree_refused c.in_ok-count.count node.tree c.args.take.now c.take_leaf.new.take read (record { when = []; value = value } ∷ []) are c.place-place.result c.poly_of_case.result
    c.place-place.ensures.place
    (subst (λ (when : List Literal). IfErr c.poly_of_case.result (IsRefused (record { when = when; value = value } ∷ []) c.place-place.result)) c.new.ensures.items
    c.poly_of_case.ensures.refused)

pub returns-then-begins_leaf-clause-left : goal.returns-then-begins_leaf-clause-left
returns-then-begins_leaf-clause-left c = gone_further c.args.take.now c.u16.new.self c.take_leaf.new.take (_, c.in_ok-count.ensures.taken) c.take_leaf.ensures.left

-- A tree of any kind.

pub returns-in_err-take_node-clause-stops : goal.returns-in_err-take_node-clause-stops
returns-in_err-take_node-clause-stops c =
    let p = err_from_is_err_and c.from_residual-in_err-take_node.result c.from_residual-in_err-take_node.ensures.1 in
    rw (p.1, p.2)
    (stops_tree c.args.take.now (fault_of c.in_err-take_node.field-0.0)
    (tree_stops c.in_ok-count.count c.args.take.now c.u16.new.self c.in_ok-count.ensures.taken (omega arith) (fault_of c.in_err-take_node.field-0.0) c.in_err-take_node.ensures.stops))

pub poly_of-requires-clause-few_literals : goal.poly_of-requires-clause-few_literals
poly_of-requires-clause-few_literals c =
    let node = c.in_ok-take_node.ensures.read in
    let are = node_cases HELD_NAMES c.new-way.result.items c.in_ok-cases.cases.items c.take_node.new.cases.items c.u16.new.self c.take_node.new.take node c.new-way.ensures.items c.in_ok-cases.ensures in
    few_in_all c.in_ok-count.count c.take_node.new.cases.items node.tree node.passes.taken.front node.passes.taken.is are (omega arith) (omega arith)

pub returns-then-len-from-clause-stops : goal.returns-then-len-from-clause-stops
returns-then-len-from-clause-stops c =
    let node = c.in_ok-take_node.ensures.read in
    let are = node_cases HELD_NAMES c.new-way.result.items c.in_ok-cases.cases.items c.take_node.new.cases.items c.u16.new.self c.take_node.new.take node c.new-way.ensures.items c.in_ok-cases.ensures in
    let read = tree_passes c.in_ok-count.count c.args.take.now c.u16.new.self c.in_ok-count.ensures.taken (omega arith) node.tree c.take_node.new.take node.passes in
    rw c.place-place.ensures.place
    (tree_miscounted c.in_ok-count.count node.tree c.args.take.now c.take_node.new.take read c.take_node.new.cases.items are
    (λ (same : c.in_ok-count.count ≡ length c.take_node.new.cases.items). omega (arith, same)))

pub returns-clause-passes : goal.returns-clause-passes
returns-clause-passes c =
    let node = c.in_ok-take_node.ensures.read in
    let are = node_cases HELD_NAMES c.new-way.result.items c.in_ok-cases.cases.items c.take_node.new.cases.items c.u16.new.self c.take_node.new.take node c.new-way.ensures.items c.in_ok-cases.ensures in
    let read = tree_passes c.in_ok-count.count c.args.take.now c.u16.new.self c.in_ok-count.ensures.taken (omega arith) node.tree c.take_node.new.take node.passes in
    tree_kept c.in_ok-count.count node.tree c.args.take.now c.take_node.new.take read c.take_node.new.cases.items are (omega arith) c.poly_of.result c.poly_of.ensures.kept

pub returns-clause-stops : goal.returns-clause-stops
returns-clause-stops c =
    let node = c.in_ok-take_node.ensures.read in
    let are = node_cases HELD_NAMES c.new-way.result.items c.in_ok-cases.cases.items c.take_node.new.cases.items c.u16.new.self c.take_node.new.take node c.new-way.ensures.items c.in_ok-cases.ensures in
    let read = tree_passes c.in_ok-count.count c.args.take.now c.u16.new.self c.in_ok-count.ensures.taken (omega arith) node.tree c.take_node.new.take node.passes in
    tree_refused c.in_ok-count.count node.tree c.args.take.now c.take_node.new.take read c.take_node.new.cases.items are c.place-place.result c.poly_of.result c.place-place.ensures.place
    c.poly_of.ensures.refused

pub returns-in_err-take_node-clause-left : goal.returns-in_err-take_node-clause-left
returns-in_err-take_node-clause-left c = gone_further c.args.take.now c.u16.new.self c.take_node.new.take (_, c.in_ok-count.ensures.taken) c.take_node.ensures.left

pub returns-then-len-from-clause-left : goal.returns-then-len-from-clause-left
returns-then-len-from-clause-left c = gone_further c.args.take.now c.u16.new.self c.take_node.new.take (_, c.in_ok-count.ensures.taken) c.take_node.ensures.left

pub returns-clause-left : goal.returns-clause-left
returns-clause-left c = gone_further c.args.take.now c.u16.new.self c.take_node.new.take (_, c.in_ok-count.ensures.taken) c.take_node.ensures.left
