-- What a line needs of the catalog by which it is printed.
use Rattle.std.specs.Prelude.{ℕ, ◌<◌, ⊤, length}
use Rattle.pv_base.specs.Catalog.{Declared}
use Rattle.pv_protocol.specs.Lines.{Line}
use Rattle.pv_protocol.specs.State.{Cause, conflict, uncertain}

-- The catalog has an item of this number.
abbrev pub HasItem : Declared → ℕ → Type 0
HasItem catalog item = item < length catalog.items

-- The item that the cause names, if it names one, is one of the catalog.
abbrev pub CauseNamesOnlyItems : Declared → Cause → Type 0
CauseNamesOnlyItems catalog (conflict site item holder) = HasItem catalog item
CauseNamesOnlyItems catalog (uncertain item names) = HasItem catalog item
CauseNamesOnlyItems catalog _ = ⊤

-- The item that the line names, if it names one, is one of the catalog.
abbrev pub NamesOnlyItems : Declared → Line → Type 0
NamesOnlyItems catalog (Line.refuse txn cause) = CauseNamesOnlyItems catalog cause
NamesOnlyItems catalog (Line.item item cases) = HasItem catalog item
NamesOnlyItems catalog (Line.item_locked item txn) = HasItem catalog item
NamesOnlyItems catalog (Line.item_down item) = HasItem catalog item
NamesOnlyItems catalog (Line.total_locked item) = HasItem catalog item
NamesOnlyItems catalog _ = ⊤
