-- What the fields of a text that declares a catalog say.
use Rattle.std.specs.Prelude.{◌≡◌, ◌≤◌, ◌==◌, [], length}
use Rattle.std.specs.List.{slice_split}
use Rattle.pv_model.specs.LineCauses.{at_first}
use Rattle.pv_model.specs.LineForms.{scheduled}
use Rattle.pv_model.specs.Schedule.{AreLines, significant}
use Rattle.pv_script.specs.Behind.{Declaring}
use Rattle.pv_script.specs.Said.{before_of, IsLimited}
use Rattle.pv_script.specs.declared.catalog_text.CatalogText.TheInside.{Inside}
use Rattle.pv_script.specs.declared.lines.TheConstants.{MAX_SCHEDULE}

abbrev pub declaring_of : Inside → Declaring
declaring_of inside = record { text = inside.text.items; catalog = inside.said.catalog }

-- The text was read and has no event, and with a line feed behind it has so many lines.
pub record IsRead (inside : Inside) : Type 0 where
  pub are : AreLines (at_first scheduled) (significant inside.text.items) [] (before_of inside.said)
  pub limited : IsLimited inside.said
  pub lines : inside.lines ≡ length (slice_split (λ b. b == 10) inside.text.items)
  pub short : length inside.text.items ≤ MAX_SCHEDULE
