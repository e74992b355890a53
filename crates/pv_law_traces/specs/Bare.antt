-- A line without the blanks at its ends.
use Rattle.pv_model.specs.LineForms.{after_blanks, before_blanks}
use Rattle.pv_model.specs.Text.{TextLine}

abbrev pub bare : TextLine → TextLine
bare line = before_blanks (after_blanks line)
