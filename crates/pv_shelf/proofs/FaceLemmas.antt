-- Faces and parts that compare equal are one.
use Rattle.std.proofs.Common.{◌≡◌, ◌==◌, true, Decides, List, refl, ap, subst}
use Rattle.std.specs.Cmp.{unsigned_Decides}
use Rattle.std.specs.Cmp.Lexicographic.{pointwise, pointwise_decides}
use Rattle.std.proofs.lemmas.Bool.Decides.{Decides-and}
use Rattle.pv_cases.proofs.SameCaseLemmas.{cases-decided}
use Rattle.pv_cases.proofs.TxnTests.{txn-decided}
use Rattle.pv_law_polyvalues.proofs.ExistenceLemmas.{numbers-exact}
use Rattle.pv_shelf.specs.Part.{Part}
use Rattle.pv_shelf.specs.contracts.face.FacePartialEq.TheImpl as face_eq
use Rattle.pv_shelf.specs.contracts.part.ShelfPartPartialEq.TheImpl as part_eq
use Rattle.pv_shelf.specs.declared.face.Face.{Face}
use Rattle.pv_shelf.specs.declared.face.Face.TheVariants.{Cases, Locked, Down}

face-exact : (a b : Face) → face_eq.ghosts.eq a b ≡ true → a ≡ b
face-exact (Cases p) (Cases q) equal = ap Cases ((cases-decided numbers-exact p q).0 equal)
face-exact (Cases p) (Locked u) equal = cc
face-exact (Cases p) Down equal = cc
face-exact (Locked t) (Cases q) equal = cc
face-exact (Locked t) (Locked u) equal = ap Locked ((txn-decided t u).0 equal)
face-exact (Locked t) Down equal = cc
face-exact Down (Cases q) equal = cc
face-exact Down (Locked u) equal = cc
face-exact Down Down equal = refl

face-itself : (a : Face) → face_eq.ghosts.eq a a ≡ true
face-itself (Cases p) = (cases-decided numbers-exact p p).1 refl
face-itself (Locked t) = (txn-decided t t).1 refl
face-itself Down = refl

face-decided : (a b : Face) → Decides (face_eq.ghosts.eq a b) (a ≡ b)
face-decided a b = (face-exact a b, λ same. subst (λ (face : Face). face_eq.ghosts.eq a face ≡ true) same (face-itself a))

part-decided : (a b : Part) → Decides (part_eq.ghosts.eq a b) (a ≡ b)
part-decided a b =
    let both = Decides-and (a.steps == b.steps) (pointwise face_eq.ghosts.eq a.faces b.faces) (unsigned_Decides a.steps b.steps) (pointwise_decides face-decided a.faces b.faces) in (
      λ test. let parts = both.0 test in λ i. record { steps = parts.0 i; faces = parts.1 i },
      λ same. both.1 (ap (λ (part : Part). part.steps) same, ap (λ (part : Part). part.faces) same),
    )

pub parts-decided : (parts others : List Part) → Decides (pointwise part_eq.ghosts.eq parts others) (parts ≡ others)
parts-decided = pointwise_decides part-decided
