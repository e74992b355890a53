-- Of what was read, the items that have to be certain and aren't.
use Rattle.std.specs.Prelude.{ℕ, Bool, ◌&&◌, nat_lt, List, [], ◌∷◌, length, Option, Some, None, if◌then◌else◌}
use Rattle.pv_base.specs.Named.{names_of}
use Rattle.pv_format.specs.Record.{Record}
use Rattle.pv_model.specs.Alternatives.{Read}
use Rattle.pv_model.specs.Check.{requires_certain}
use Rattle.pv_model.specs.Syntax.{Program}
use Rattle.pv_protocol.specs.Coordinate.{settled_value}
use Rattle.pv_site.specs.declared.doubting.Doubt.{Doubt}

-- how many outcomes the value names, with those put in that the records tell
abbrev pub names_left : List Record → Read → ℕ
names_left records read = length (names_of (settled_value records read.cases))

-- The program requires the item of the read to be certain, and it isn't.
abbrev pub is_doubtful : List Record → Program → Read → Bool
is_doubtful records program read = requires_certain program read.item && nat_lt 0 (names_left records read)

-- the read's item with the number of these outcomes, if that is so
abbrev pub doubt_in : List Record → Program → Read → Option Doubt
doubt_in records program read =
    if is_doubtful records program read then Some (record { item = record { 0 = read.item }; outcomes = names_left records read }) else None

-- of two that of the lesser item
abbrev pub lesser : Option Doubt → Option Doubt → Option Doubt
lesser None other = other
lesser (Some one) None = Some one
lesser (Some one) (Some two) = if nat_lt two.item.0 one.item.0 then Some two else Some one

-- of this one and those of the reads that of the least item
abbrev pub least_from : List Record → Program → Option Doubt → List Read → Option Doubt
least_from records program first [] = first
least_from records program first (read ∷ reads) = least_from records program (lesser first (doubt_in records program read)) reads
