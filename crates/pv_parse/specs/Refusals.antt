-- Which refusal an error is, and what reading all tokens of a text gives.
use Rattle.std.specs.Prelude.{◌≡◌, Option, Some, None, []}
use Rattle.pv_model.specs.Syntax as model
use Rattle.pv_model.specs.Grammar.{ReadsProgram}
use Rattle.pv_model.specs.ProgramText.{malformed, unknown_name, too_deep, item_in, Refusal, too_large, at_fault}
use Rattle.pv_law_programs.specs.Prediction.{at_start, placed}
use Rattle.pv_parse.specs.declared.error.ParseError.{ParseError}
use Rattle.pv_parse.specs.declared.error.ParseError.TheVariants.{TooLarge, Malformed, UnknownName, TooDeep, NoMemory}
use Rattle.pv_parse.specs.ReadingSteps.{Columned, Context, fault_in, IsErrorFor}

-- `NoMemory` refuses no text.
abbrev pub refusal_of : ParseError → Option Refusal
refusal_of (TooLarge n) = Some (too_large n)
refusal_of (Malformed column) = Some (at_fault malformed column)
refusal_of (UnknownName column) = Some (at_fault unknown_name column)
refusal_of (TooDeep column) = Some (at_fault too_deep column)
refusal_of NoMemory = None

-- All tokens are the program, and none of them is at fault.
pub record IsWholeProgram (context : Context) (tokens : Columned) (program : model.Program) : Type 0 where
  pub reads : ReadsProgram (item_in context.catalog) 0 (placed at_start tokens) [] program
  pub faultless : fault_in context at_start tokens ≡ None

-- The error names the first fault of all tokens.
abbrev pub IsFirstError : Context → Columned → ParseError → Type 0
IsFirstError context tokens error = IsErrorFor (fault_in context at_start tokens) error
