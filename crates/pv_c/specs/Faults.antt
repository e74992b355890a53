-- Where what C gave is at fault, by the answer.
use Rattle.std.specs.Prelude.{◌≡◌, ℕ, Result, Ok, Err}
use Rattle.pv_check.specs.declared.plan.CheckError.{CheckError}
use Rattle.pv_check.specs.declared.plan.CheckError.TheVariants as checking
use Rattle.pv_embed.specs.declared.fault.OpenFault.{OpenFault}
use Rattle.pv_embed.specs.declared.fault.OpenFault.TheVariants as opening
use Rattle.pv_embed.specs.declared.fault.SubmitFault.{SubmitFault}
use Rattle.pv_embed.specs.declared.fault.SubmitFault.TheVariants as submitting
use Rattle.pv_handle.specs.declared.refused.Refused.{Refused}
use Rattle.pv_handle.specs.declared.refused.Refused.TheVariants.{Closed, InUse, Engine}
use Rattle.pv_parse.specs.declared.error.ParseError.{ParseError}
use Rattle.pv_parse.specs.declared.error.ParseError.TheVariants as parsing
use Rattle.pv_script.specs.declared.schedule.LineCause.{LineCause}
use Rattle.pv_script.specs.declared.schedule.LineCause.TheVariants.{ProgramColumn, UnknownName, TooDeep}
use Rattle.pv_c.specs.Status.{status_of}
use Rattle.pv_c.specs.declared.fault.Fault.{Fault}

-- nothing is told
abbrev pub no_fault : Fault
no_fault = record { line = 0; column = 0; number = 0 }

abbrev pub at_column : ℕ → Fault
at_column column = record { line = 0; column = column; number = 0 }

abbrev pub with_number : ℕ → Fault
with_number n = record { line = 0; column = 0; number = n }

-- the column of a line's program, where the cause has one
abbrev pub column_of : LineCause → ℕ
column_of (ProgramColumn column) = column
column_of (UnknownName column) = column
column_of (TooDeep column) = column
column_of other = 0

-- where an opening is refused: the line and the column of the configuration; where the bytes are no journal; which content is no record; how many outcomes there
-- would be; and how long the journal
abbrev pub opening_fault : OpenFault → Fault
opening_fault (opening.Malformed line cause) = record { line = line; column = column_of cause; number = 0 }
opening_fault (opening.NotOurs place) = with_number place
opening_fault (opening.BadRecord index) = with_number index
opening_fault (opening.TooManyOutcomes count) = with_number count
opening_fault (opening.Full length) = with_number length
opening_fault other = no_fault

-- where a text is no program: the column, or how many bytes it has
abbrev pub text_fault : ParseError → Fault
text_fault (parsing.TooLarge n) = with_number n
text_fault (parsing.Malformed column) = at_column column
text_fault (parsing.UnknownName column) = at_column column
text_fault (parsing.TooDeep column) = at_column column
text_fault parsing.NoMemory = no_fault

-- why a program may not run: how many items it names, where these are too many
abbrev pub program_fault : CheckError → Fault
program_fault (checking.TooManyItems n) = with_number n
program_fault other = no_fault

abbrev pub request_fault : SubmitFault → Fault
request_fault (submitting.Text error) = text_fault error
request_fault (submitting.Program error) = program_fault error
request_fault submitting.NoMemory = no_fault

-- where a call is refused by the engine
abbrev pub fault_of : {X E : Type 0} → (E → Fault) → Result X (Refused E) → Fault
fault_of at (Ok _) = no_fault
fault_of at (Err Closed) = no_fault
fault_of at (Err InUse) = no_fault
fault_of at (Err (Engine error)) = at error

-- The number and the fault are those of an answer of which this is true.
abbrev pub AnswersAt : {E : Type 0} → (E → ℕ) → (E → Fault) → ℕ → Fault → (Result (Unit {0}) (Refused E) → Type 0) → Type 0
AnswersAt {E = E} number at status fault IsSo =
    (answer : Result (Unit {0}) (Refused E)) × (status ≡ status_of number answer) × (fault ≡ fault_of at answer) × IsSo answer
