-- What a text is read with, as plain data.
use Rattle.pv_parse.specs.declared.parser.Parser.TheInside.{Inside}
use Rattle.pv_parse.specs.ReadingSteps.{Context}

abbrev pub source_of : Inside → Context
source_of inside = record { catalog = inside.catalog.now; after_text = inside.after_text }
