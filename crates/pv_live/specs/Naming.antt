-- Lines that clients were told, which name only items of a catalog.
use Rattle.std.specs.Prelude.{Vec, List, All, ⊤}
use Rattle.std.specs.declared.alloc.Global.{Global}
use Rattle.pv_base.specs.Catalog.{Declared}
use Rattle.pv_report.specs.NamesOnlyItems.{NamesOnlyItems}
use Rattle.pv_script.specs.LineView.{line_of}
use Rattle.pv_told.specs.declared.line.ClientLine.{ClientLine}
use Rattle.pv_told.specs.declared.line.ClientWhat.{ClientWhat}
use Rattle.pv_told.specs.declared.line.ClientWhat.TheVariants as what

-- What was told names only items of the catalog.
abbrev pub WhatNamesOnlyItems : Declared → ClientWhat → Type 0
WhatNamesOnlyItems catalog (what.Line line) = NamesOnlyItems catalog (line_of line)
WhatNamesOnlyItems catalog other = ⊤

abbrev pub ToldNamesOnlyItems : Declared → ClientLine → Type 0
ToldNamesOnlyItems catalog told = WhatNamesOnlyItems catalog told.what

-- So does all that each client was told.
abbrev pub AllNameOnlyItems : Declared → List (Vec ClientLine Global) → Type 0
AllNameOnlyItems catalog told = All (λ lines. All (ToldNamesOnlyItems catalog) lines.items) told
