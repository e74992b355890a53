-- One declared value more, up to the last.
use Rattle.std.proofs.Common.{◌≡◌, ◌+◌, ℕ, ℤ, Some, List, length, map, FitsSigned, w64, to_z, of_z, ap, sym, subst, ◌∙◌, arith, rules}
use Rattle.std.specs.List.{slice_get}
use Rattle.std.proofs.lemmas.Int.{to_z-of_z}
use Rattle.std.proofs.lemmas.List.{length_push}
use Rattle.pv_audit.proofs.DeclaredLemmas.{AreDeclared, declared-more, declared-after}
use Rattle.pv_base.specs.Catalog.{Item}
use Rattle.pv_base.specs.Polyvalue.{Case}
use Rattle.pv_audit.proofs.values.declared_values.Goals as goal

pub loop-n-preserved : goal.loop-n-preserved
loop-n-preserved c =
    let fits : FitsSigned w64 c.declared.result = search rules in
    let value : to_z w64 (of_z w64 c.declared.result) ≡ c.declared.result = to_z-of_z w64 c.declared.result fits in
    let there : slice_get (map (λ (declared : Item). declared.value) c.args.catalog.now.items) (length c.loop-n.values.items) ≡ Some (to_z w64 (of_z w64 c.declared.result)) =
    subst (λ (n : ℕ). slice_get (map (λ (declared : Item). declared.value) c.args.catalog.now.items) n ≡ Some (to_z w64 (of_z w64 c.declared.result))) (sym c.loop-n.invariant.0)
    (c.declared.ensures ∙ ap (λ (z : ℤ). Some z) (sym value)) in (
      ap (λ (l : List (List (Case ℤ))). length l) c.in_ok-push.ensures.items
          ∙ length_push c.loop-n.values.items c.in_ok-sure.field-0
          ∙ ap (λ (n : ℕ). n + 1) c.loop-n.invariant.0,
      subst (λ (l : List (List (Case ℤ))). AreDeclared c.args.catalog.now l) (sym c.in_ok-push.ensures.items)
          (declared-more c.args.catalog.now c.loop-n.values.items c.in_ok-sure.field-0 (to_z w64 (of_z w64 c.declared.result)) c.loop-n.invariant.1 there c.in_ok-sure.ensures.polyvalue
          c.in_ok-sure.ensures.value),
    )

pub returns : goal.returns
returns c = λ told.
    let long = c.loop-n.invariant.0 in
    declared-after c.args.catalog.now told c.loop-n.values.items c.loop-n.invariant.1 (omega (arith, long, c.loop-n-test.false, c.loop-n.auto.n-end, c.len-n-end.ensures.count))
