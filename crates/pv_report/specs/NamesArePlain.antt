-- Names of items that need no escape.
use Rattle.std.specs.Prelude.{◌≡◌, ℕ, true, ⊤}
use Rattle.pv_base.specs.Catalog.{Declared}
use Rattle.pv_protocol.specs.LineText.{name_of}
use Rattle.pv_protocol.specs.Lines.{Line}
use Rattle.pv_protocol.specs.State.{Cause, conflict, uncertain}
use Rattle.pv_report.specs.Shown.{is_plain}

-- The item's name needs no escape.
abbrev pub HasPlainName : Declared → ℕ → Type 0
HasPlainName catalog item = is_plain (name_of catalog item) ≡ true

-- Nor does the name in the cause, if there is one.
abbrev pub CauseNamesArePlain : Declared → Cause → Type 0
CauseNamesArePlain catalog (conflict site item holder) = HasPlainName catalog item
CauseNamesArePlain catalog (uncertain item names) = HasPlainName catalog item
CauseNamesArePlain catalog _ = ⊤

-- The name in the line, if there is one, needs no escape.
abbrev pub NamesArePlain : Declared → Line → Type 0
NamesArePlain catalog (Line.refuse txn cause) = CauseNamesArePlain catalog cause
NamesArePlain catalog (Line.item item cases) = HasPlainName catalog item
NamesArePlain catalog (Line.item_locked item txn) = HasPlainName catalog item
NamesArePlain catalog (Line.item_down item) = HasPlainName catalog item
NamesArePlain catalog (Line.total_locked item) = HasPlainName catalog item
NamesArePlain catalog _ = ⊤
