-- What is published on a new shelf: what was declared, after no steps.
use Rattle.std.specs.Prelude.{ℕ, ℤ, ◌==◌, List, [], ◌∷◌, if◌then◌else◌}
use Rattle.pv_base.specs.Catalog.{Item}
use Rattle.pv_shelf.specs.Part.{Part}
use Rattle.pv_shelf.specs.declared.face.Face.{Face}
use Rattle.pv_shelf.specs.declared.face.Face.TheVariants.{Cases}

-- this value, whatever comes out
abbrev pub sure : ℤ → Face
sure value = Cases (record { when = []; value = value } ∷ [])

-- the declared values of the site's items, ascending
abbrev pub declared_faces : ℕ → List Item → List Face
declared_faces site [] = []
declared_faces site (declared ∷ items) =
    if declared.site == site then sure declared.value ∷ declared_faces site items else declared_faces site items

abbrev pub opening_of : ℕ → List Item → Part
opening_of site items = record { steps = 0; faces = declared_faces site items }
