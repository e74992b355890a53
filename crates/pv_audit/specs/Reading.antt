-- What is read of a trace line by line.
use Rattle.std.specs.Prelude.{◌≡◌, ℕ, ◌<◌, Bool, true, false, Option, Some, None, List, [], ◌∷◌, ◌++◌, map, length}
use Rattle.pv_audit.specs.Entries.{Entry, printed, plain, printed_first}
use Rattle.pv_audit.specs.Printed.{ArePrinted, IsPrintedForm}
use Rattle.pv_audit.specs.TraceFaults.{IsCutShort}
use Rattle.pv_audit.specs.Traces.{IsWhole, TracePart}
use Rattle.pv_base.specs.Catalog.{Declared}
use Rattle.pv_model.specs.Events.{Event}
use Rattle.pv_model.specs.LineCauses.{Before, declared_by, LineCause, not_a_trace, IsFirstCause}
use Rattle.pv_model.specs.Schedule.{Declares, IsEvent, with_event}
use Rattle.pv_model.specs.Text.{TextLine}
use Rattle.pv_protocol.specs.Lines.{Line}

-- a printed line with its number
abbrev pub printed_at : ℕ × TextLine → ℕ × Entry
printed_at line = (line.0, printed line.1)

-- numbered lines without their numbers
abbrev pub texts_of : List (ℕ × TextLine) → List TextLine
texts_of lines = map (λ line. line.1) lines

-- These printed lines come next, and behind them no other one.
pub record ComeNext (below : List (ℕ × TextLine)) (rest left : List (ℕ × Entry)) : Type 0 where
  pub split : rest ≡ map printed_at below ++ left
  pub all : printed_first (plain left) ≡ []

-- Of the printed lines these are forms up to the first that isn't one, and perhaps more lines stand behind that.
pub record IsBrokenAt (catalog : Declared) (below : List (ℕ × TextLine)) (lines : List Line) (number : ℕ) (more : Bool) : Type 0 where
  pub front : List (ℕ × TextLine)
  pub text : TextLine
  pub behind : List (ℕ × TextLine)
  pub split : below ≡ front ++ (number, text) ∷ behind
  pub forms : ArePrinted catalog (texts_of front) lines
  pub none : IsPrintedForm catalog text → ⊥
  pub last : more ≡ false → behind ≡ []
  pub others : more ≡ true → 0 < length behind

-- The printed lines are these, or these up to the one of this number, which isn't a printed form.
abbrev pub AreRead : Declared → List (ℕ × TextLine) → List Line → Option ℕ → Bool → Type 0
AreRead catalog below lines None more = ArePrinted catalog (texts_of below) lines × (more ≡ false)
AreRead catalog below lines (Some number) more = IsBrokenAt catalog below lines number more

-- What a line of the schedule and the printed lines behind it say: a declaration, or an event with what it printed.
pub data TakesEntry (before : Before) (line : TextLine) (rest : List (ℕ × Entry)) : Before → List (ℕ × Entry) → List TracePart → Type 0 where
  declared : (after : Before) → Declares before line after → TakesEntry before line rest after rest []
  happened : (e : Event) (below : List (ℕ × TextLine)) (left : List (ℕ × Entry)) (lines : List Line) → IsEvent before line e → ComeNext below rest left
      → IsWhole (declared_by before) e (texts_of below) → ArePrinted (declared_by before) (texts_of below) lines
      → TakesEntry before line rest (with_event before) left (record { event = e; lines = lines } ∷ [])

-- Why the line of this number is no line of a trace, or else one that is printed behind it.
pub data IsEntryFault (before : Before) (number : ℕ) (line : TextLine) (rest : List (ℕ × Entry)) : ℕ → LineCause → Type 0 where
  malformed : (cause : LineCause) → IsFirstCause before line cause → IsEntryFault before number line rest number cause
  cut_short : IsCutShort before line (plain rest) → IsEntryFault before number line rest number not_a_trace
  no_form : (e : Event) (below : List (ℕ × TextLine)) (left : List (ℕ × Entry)) (lines : List Line) (other : ℕ) (more : Bool) → IsEvent before line e → ComeNext below rest left
      → IsWhole (declared_by before) e (texts_of below) → IsBrokenAt (declared_by before) below lines other more → IsEntryFault before number line rest other not_a_trace
