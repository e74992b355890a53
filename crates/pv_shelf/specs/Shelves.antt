-- What contracts see of a shelf's writer and readers.
use Rattle.std.specs.Prelude.{ℕ, List, ◌++◌, drop}
use Rattle.left_right.specs.Sides.{view}
use Rattle.pv_shelf.specs.Part.{Part}
use Rattle.pv_shelf.specs.declared.writer.ShelfWriter.{ShelfWriter}
use Rattle.pv_shelf.specs.declared.reader.ShelfReader.{ShelfReader}

-- all that is published, in order
abbrev pub published : ShelfWriter → List Part
published shelf = shelf.writer.desk.shown.value.parts.items

-- what was added and isn't published yet, in order
abbrev pub pending : ShelfWriter → List Part
pending shelf = drop shelf.writer.behind shelf.writer.log.items

abbrev pub added : ShelfWriter → List Part
added shelf = published shelf ++ pending shelf

-- the list that the writer's last publication left
abbrev pub known : ShelfWriter → List Part
known shelf = (view shelf.writer.desk.place).seen

-- the list that the reader's last look found
abbrev pub seen : ShelfReader → List Part
seen reader = (view reader.reader.place).seen

-- how often it has looked
abbrev pub look_count : ShelfReader → ℕ
look_count reader = (view reader.reader.place).looks

-- the items of the site, whose faces it looks at
abbrev pub items_of : ShelfReader → List ℕ
items_of reader = reader.items.items
