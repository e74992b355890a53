-- Where a text is no trace, and why: the least number of a line that has a cause.
use Rattle.std.specs.Prelude.{◌≡◌, ℕ, ◌+◌, ◌≤◌, false, List, [], ◌∷◌, ◌++◌, length, ◌⊎◌}
use Rattle.pv_audit.specs.Entries.{Entry, said, printed, entries, plain, said_in, printed_first}
use Rattle.pv_audit.specs.Printed.{IsPrintedForm}
use Rattle.pv_audit.specs.Traces.{IsWhole}
use Rattle.pv_model.specs.Events.{Event}
use Rattle.pv_model.specs.LineCauses.{Before, at_first, declared_by, LineCause, sites_expected, not_a_trace, IsFirstCause}
use Rattle.pv_model.specs.LineForms.{scheduled}
use Rattle.pv_model.specs.Schedule.{AreLines, IsEvent}
use Rattle.pv_model.specs.Text.{TextLine, lines}

-- The line is an event after what was said, and what is printed right behind it isn't what it prints.
pub record IsCutShort (before : Before) (line : TextLine) (behind : List Entry) : Type 0 where
  pub event : Event
  pub is : IsEvent before line event
  pub short : IsWhole (declared_by before) event (printed_first behind) → ⊥

-- The entry has this cause, after what was said and with these entries behind it. A line of the schedule has its own causes, and an event is to be whole. A
-- printed line stands behind an event, and is a printed form.
abbrev pub HasEntryCause : Before → Entry → List Entry → LineCause → Type 0
HasEntryCause before (said line) behind cause = IsFirstCause before line cause ⊎ ((cause ≡ not_a_trace) × IsCutShort before line behind)
HasEntryCause before (printed line) behind cause = (cause ≡ not_a_trace) × ((before.begun ≡ false) ⊎ (IsPrintedForm (declared_by before) line → ⊥))

-- The line of this number has this cause, where the lines of the schedule before it are one.
pub record HasTraceCause (text : List ℕ) (number : ℕ) (cause : LineCause) : Type 0 where
  pub front : List (ℕ × Entry)
  pub entry : Entry
  pub behind : List (ℕ × Entry)
  pub split : entries text ≡ front ++ (number, entry) ∷ behind
  pub events : List Event
  pub before : Before
  pub are : AreLines (at_first scheduled) (said_in (plain front)) events before
  pub has : HasEntryCause before entry (plain behind) cause

-- The line of this number has this cause, and none before it has one.
pub record HasFirstTraceCause (text : List ℕ) (number : ℕ) (cause : LineCause) : Type 0 where
  pub has : HasTraceCause text number cause
  pub first : (other : ℕ) (another : LineCause) → HasTraceCause text other another → number ≤ other

-- A text without entries lacks the count of sites after its last line.
pub record LacksSites (text : List ℕ) (number : ℕ) (cause : LineCause) : Type 0 where
  pub empty : entries text ≡ []
  pub place : number ≡ length (lines text) + 1
  pub is : cause ≡ sites_expected

-- A text is no trace at the line of this number, for this cause.
abbrev pub IsNoTrace : List ℕ → ℕ → LineCause → Type 0
IsNoTrace text number cause = HasFirstTraceCause text number cause ⊎ LacksSites text number cause
