-- Boxes whose rings are emptied.
use Rattle.std.specs.Prelude.{◌⊎◌, List}
use Rattle.pv_disk_model.specs.LogModel.{LogModel}
use Rattle.pv_rings.specs.Rings.{Each}
use Rattle.pv_cell.specs.Box.{IsBox, IsWorn}
use Rattle.pv_cell.specs.Course.{Became, HasCourse}
use Rattle.pv_cell.specs.Visits.{Visits}
use Rattle.pv_cell.specs.declared.site_box.SiteBox.{SiteBox}
use Rattle.pv_cell.specs.declared.visit.Visit.TheVariants.{Idle, Worn}

module _ {W : Type 0} (M : LogModel W) where
  -- The box can be called, and its history is whole.
  abbrev pub IsWhole : SiteBox W → Type 0
  IsWhole box = IsBox M box × HasCourse box

  -- A box later. One that is worn stays so.
  abbrev pub GoesOn : SiteBox W → SiteBox W → Type 0
  GoesOn old new = IsWhole new × Became M old new × (IsWorn old → IsWorn new)

  -- All boxes later.
  abbrev pub GoOn : List (SiteBox W) → List (SiteBox W) → Type 0
  GoOn old new = Each (λ k one other. GoesOn one other) old new

  -- It is as a visit leaves a box in which it finds nothing, or which is worn.
  abbrev pub IsQuiet : SiteBox W → Type 0
  IsQuiet box = (before : SiteBox W) × (Visits M before box Idle ⊎ Visits M before box Worn)
