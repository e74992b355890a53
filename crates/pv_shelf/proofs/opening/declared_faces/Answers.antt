-- The next item has its face where it is the site's.
use Rattle.std.proofs.Common.{◌≡◌, ◌==◌, ◌+◌, true, false, List, [], ◌∷◌, ◌++◌, drop, rules, subst, sym}
use Rattle.pv_shelf.specs.Opening.{declared_faces, sure}
use Rattle.pv_shelf.specs.declared.face.Face.{Face}
use Rattle.pv_shelf.proofs.ItemLemmas.{faces-listed, faces-skipped}
use Rattle.pv_shelf.proofs.opening.declared_faces.Goals as goal
use Rattle.pv_shelf.proofs.opening.declared_faces.Goals.{then-eq+in_ok-sure_face+in_ok-push, else-eq}

pub loop-item-preserved : goal.loop-item-preserved
loop-item-preserved c =
    let site = c.args.site.0 in
    let items = c.args.catalog.now.items in
    let item = c.loop-item.item in
    let faces = c.loop-item.faces.items in
    let all = declared_faces site items in
    let rest = declared_faces site (drop (item + 1) items) in
    elim c.if-eq.branch [
      | then-eq+in_ok-sure_face+in_ok-push w ↦
          let own : (c.site_of.result.0 == site) ≡ true = search rules in
          let pushed : c.if-eq.faces.items ≡ faces ++ sure w.declared.result ∷ [] = search rules in
          subst (λ (listed : List Face). listed ++ rest ≡ all) (sym pushed)
          (faces-listed items item site c.site_of.result.0 faces all w.declared.result c.site_of.ensures w.declared.ensures own c.loop-item.invariant)
      | else-eq w ↦
          let other : (c.site_of.result.0 == site) ≡ false = search rules in
          let same : c.if-eq.faces.items ≡ faces = search rules in
          subst (λ (listed : List Face). listed ++ rest ≡ all) (sym same) (faces-skipped items item site c.site_of.result.0 faces all c.site_of.ensures other c.loop-item.invariant)
    ]
