-- Why a line isn't read.
use Rattle.std.specs.Prelude.{◌≡◌, ◌≢◌, ℕ, true, false, ◌==◌, Option, None, List, length, map, find}
use Rattle.std.specs.List.{list_all, Contains}
use denote.Ref.{Bor}
use Rattle.pv_base.specs.declared.catalog.CatalogError.{CatalogError}
use Rattle.pv_base.specs.declared.catalog.CatalogError.TheVariants as catalog
use Rattle.pv_check.specs.declared.plan.CheckError.{CheckError}
use Rattle.pv_check.specs.declared.plan.CheckError.TheVariants as check
use Rattle.pv_parse.specs.declared.error.ParseError.{ParseError}
use Rattle.pv_parse.specs.declared.error.ParseError.TheVariants as parse
use Rattle.pv_model.specs.LineCauses.{Before, mode_words, IsFirstCause}
use Rattle.pv_model.specs.LineForms.{Field, mode, fields_in, has_good_number}
use Rattle.pv_model.specs.Text.{TextLine}
use Rattle.pv_script.specs.ScriptErrors.{line_cause_of}
use Rattle.pv_script.specs.declared.fault.Fault.{Fault}
use Rattle.pv_script.specs.declared.fault.Fault.TheVariants.{At, NoMemory}
use Rattle.pv_script.specs.declared.schedule.LineCause.{LineCause}
use Rattle.pv_script.specs.declared.schedule.LineCause.TheVariants.{TooLong, WrongCount, BadNumber, BadMode, BadName, NameTaken, TooManyItems, ProgramColumn, UnknownName, TooDeep, NamesNoItem, TooManyNames, QueryAssigns, NoReturn}
use Rattle.pv_script.specs.declared.schedule.ScriptError.{ScriptError}
use Rattle.pv_script.specs.declared.schedule.ScriptError.TheVariants as error

-- the refusal of the line of this number
abbrev pub error_at : ℕ → Fault → ScriptError
error_at line (At cause) = error.Malformed line cause
error_at line NoMemory = error.NoMemory

abbrev pub fault_of_catalog : CatalogError → Fault
fault_of_catalog catalog.BadName = At BadName
fault_of_catalog (catalog.NameTaken item) = At NameTaken
fault_of_catalog catalog.NoSite = At BadNumber
fault_of_catalog catalog.TooMany = At TooManyItems
fault_of_catalog catalog.NoMemory = NoMemory

abbrev pub fault_of_parse : ParseError → Fault
fault_of_parse (parse.TooLarge n) = At TooLong
fault_of_parse (parse.Malformed column) = At (ProgramColumn column)
fault_of_parse (parse.UnknownName column) = At (UnknownName column)
fault_of_parse (parse.TooDeep column) = At (TooDeep column)
fault_of_parse parse.NoMemory = NoMemory

abbrev pub fault_of_check : CheckError → Fault
fault_of_check check.NoItem = At NamesNoItem
fault_of_check (check.TooManyItems n) = At (TooManyNames n)
fault_of_check check.Assigns = At QueryAssigns
fault_of_check check.NoReturn = At NoReturn
fault_of_check check.NoMemory = NoMemory

-- the bytes of words
abbrev pub texts : List (Bor (List ℕ)) → List (List ℕ)
texts words = map (λ word. word.now) words

-- the form of as many fields as there are words
abbrev pub form_among : List (List Field) → List (List ℕ) → Option (List Field)
form_among forms args = find (λ form. length form == length args) forms

-- Words after the first one that has these forms have this fault in their fields, and none before it. There are so many sites.
abbrev pub IsFieldFault : ℕ → List (List Field) → List (List ℕ) → LineCause → Type 0
IsFieldFault sites forms args WrongCount = form_among forms args ≡ None
IsFieldFault sites forms args BadNumber =
    (form_among forms args ≢ None) × (list_all (has_good_number sites) (fields_in (form_among forms args) args) ≡ false)
IsFieldFault sites forms args BadMode =
    (form_among forms args ≢ None) × (list_all (has_good_number sites) (fields_in (form_among forms args) args) ≡ true)
    × (word : List ℕ) × Contains (fields_in (form_among forms args) args) (mode, word) × (Contains mode_words word → ⊥)
IsFieldFault sites forms args _ = ⊥

-- The line has this cause first, or there was no memory.
abbrev pub IsLineFault : Before → TextLine → Fault → Type 0
IsLineFault before line (At reported) = IsFirstCause before line (line_cause_of reported)
IsLineFault before line NoMemory = Unit {0}

-- The error names the line of this number, with its first cause, or there was no memory.
abbrev pub IsErrorAt : Before → ℕ → TextLine → ScriptError → Type 0
IsErrorAt before number line (error.Malformed place reported) = (place ≡ number) × IsLineFault before line (At reported)
IsErrorAt before number line error.NoMemory = Unit {0}
