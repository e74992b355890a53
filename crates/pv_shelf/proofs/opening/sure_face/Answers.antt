-- A polyvalue that has one value everywhere has one case.
use Rattle.std.proofs.Common.{◌≡◌, List, Some, FitsSigned, w64, rules, ap, ◌∙◌}
use Rattle.std.proofs.lemmas.Int.{to_z-of_z}
use Rattle.pv_base.specs.Polyvalue.{value_at}
use Rattle.pv_base.specs.Polyvalue.IsCanonical.{sure}
use Rattle.pv_base.specs.declared.txn.TxnId.{TxnId}
use Rattle.pv_law_polyvalues.proofs.PolyvalueLemmas.{one-canonical}
use Rattle.pv_shelf.specs.declared.face.Face.TheVariants.{Cases}
use Rattle.pv_shelf.proofs.opening.sure_face.Goals as goal

pub returns : goal.returns
returns c =
    let value = c.args.value in
    let fits : FitsSigned w64 value = search rules in
    let values : (a : List TxnId) → value_at c.in_ok-poly.poly a ≡ Some value = λ a. c.in_ok-poly.ensures.value a ∙ ap Some (to_z-of_z w64 value fits) in
    ap Cases (one-canonical c.in_ok-poly.poly _ c.in_ok-poly.ensures.polyvalue.canonical (sure value) values)
