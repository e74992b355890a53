-- An entry that is read, as the plain data of the definitions.
use Rattle.std.specs.Prelude.{ℕ, List}
use Rattle.pv_audit.specs.Entries as model
use Rattle.pv_audit.specs.declared.entries.Entry.{Entry}
use Rattle.pv_audit.specs.declared.entries.Entry.TheVariants.{Said, Printed}

abbrev pub numbered_of : Entry → ℕ × model.Entry
numbered_of (Said line) = (line.number, model.said line.text.now)
numbered_of (Printed line) = (line.number, model.printed line.text.now)

-- the line of an entry
abbrev pub line_in : Entry → List ℕ
line_in (Said line) = line.text.now
line_in (Printed line) = line.text.now
