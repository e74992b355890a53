-- The texts that are traces: a schedule, each of its events with the lines that it printed.
use Rattle.std.specs.Prelude.{◌≡◌, ℕ, ◌+◌, Some, ⊤, List, [], ◌∷◌, ◌++◌, length, map}
use Rattle.pv_audit.specs.Entries.{Entry, said, printed, entries, plain}
use Rattle.pv_audit.specs.Printed.{ArePrinted}
use Rattle.pv_base.specs.Catalog.{Declared, Item}
use Rattle.pv_base.specs.declared.txn.TxnId.{TxnId}
use Rattle.pv_model.specs.Events.{Event, submit, report}
use Rattle.pv_model.specs.LineCauses.{Before, at_first, declared_by}
use Rattle.pv_model.specs.LineForms.{scheduled}
use Rattle.pv_model.specs.Schedule.{Declares, IsEvent, with_event}
use Rattle.pv_model.specs.Text.{TextLine}
use Rattle.pv_protocol.specs.Lines.{Line}

-- an event, and the lines that it printed
pub record TracePart : Type 0 where
  pub event : Event
  pub lines : List Line

-- what is declared, and what happens and is printed
pub record Trace : Type 0 where
  pub catalog : Declared
  pub parts : List TracePart

-- The line is the one of this item.
abbrev pub IsItemLine : ℕ → Line → Type 0
IsItemLine n (Line.item item cases) = item ≡ n
IsItemLine n (Line.item_locked item txn) = item ≡ n
IsItemLine n (Line.item_down item) = item ≡ n
IsItemLine n line = ⊥

-- One line for each of these items, which are numbered from here on.
abbrev pub AreItemLines : ℕ → List Item → List Line → Type 0
AreItemLines n [] lines = lines ≡ []
AreItemLines n (item ∷ items) [] = ⊥
AreItemLines n (item ∷ items) (line ∷ lines) = IsItemLine n line × AreItemLines (n + 1) items lines

-- The lines are those of a report, in order, with one line for each item.
pub record IsReport (catalog : Declared) (lines : List Line) : Type 0 where
  pub ordered : List TxnId
  pub committed : List TxnId
  pub open_ones : List TxnId
  pub items : List Line
  pub is : lines ≡ Line.order ordered ∷ (Line.committed committed ∷ (Line.open_ones open_ones ∷ (items ++ Line.end ∷ [])))
  pub each : AreItemLines 0 catalog.items items

-- What stands below an event is whole: a request has one line, whichever it is, and a report has its lines. A line that isn't a printed form is a line too.
abbrev pub IsWhole : Declared → Event → List TextLine → Type 0
IsWhole catalog (submit site query text program) texts = length texts ≡ 1
IsWhole catalog report texts = (lines : List Line) × ArePrinted catalog texts lines × IsReport catalog lines
IsWhole catalog event texts = ⊤

-- Entries after what was said are declarations, and events with the lines that they printed. They end with this said. Printed lines stand below events alone.
pub data AreParts : Before → List Entry → List TracePart → Before → Type 0 where
  none : (before : Before) → AreParts before [] [] before
  declaration : (before after last : Before) (line : TextLine) (entries : List Entry) (parts : List TracePart) → Declares before line after
      → AreParts after entries parts last → AreParts before (said line ∷ entries) parts last
  event : (before last : Before) (line : TextLine) (texts : List TextLine) (entries : List Entry) (e : Event) (lines : List Line) (parts : List TracePart)
      → IsEvent before line e → IsWhole (declared_by before) e texts → ArePrinted (declared_by before) texts lines
      → AreParts (with_event before) entries parts last
      → AreParts before (said line ∷ (map printed texts ++ entries)) (record { event = e; lines = lines } ∷ parts) last

-- A text is a trace: its entries are one, and the count of sites is among them.
pub record IsTrace (text : List ℕ) (trace : Trace) : Type 0 where
  pub last : Before
  pub are : AreParts (at_first scheduled) (plain (entries text)) trace.parts last
  pub sites : ℕ
  pub said : last.sites ≡ Some sites
  pub catalog : trace.catalog ≡ declared_by last
