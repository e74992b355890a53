-- The faces so far are copied.
use Rattle.std.proofs.Common.{◌≡◌, take}
use Rattle.pv_shelf.proofs.face.copy_faces.Given as goal

abbrev pub invariant-loop-face : goal.invariant-loop-face
invariant-loop-face l = l.copies.items ≡ take l.face-index l.faces
