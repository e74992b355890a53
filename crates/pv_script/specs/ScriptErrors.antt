-- At which line a text is refused, and why.
use Rattle.std.specs.Prelude.{ℕ, List, Option, Some, None}
use Rattle.pv_model.specs.LineCauses as model
use Rattle.pv_model.specs.LineForms.{Script, scheduled, live}
use Rattle.pv_model.specs.Schedule.{IsMalformed}
use Rattle.pv_model.specs.ProgramText.{malformed, unknown_name, too_deep}
use Rattle.pv_script.specs.declared.schedule.LineCause.{LineCause}
use Rattle.pv_script.specs.declared.schedule.LineCause.TheVariants.{TooLong, NotText, SitesExpected, UnknownWord, Twice, TooLate, WrongCount, ClientExpected, TooManyClients, TooManyRequests, NoSuchItem, OtherSite, BadNumber, BadMode, BadName, NameTaken, TooManyItems, ProgramColumn, UnknownName, TooDeep, NamesNoItem, TooManyNames, QueryAssigns, NoReturn, NotATrace}
use Rattle.pv_script.specs.declared.schedule.ScriptError.{ScriptError}
use Rattle.pv_script.specs.declared.schedule.ScriptError.TheVariants.{Malformed, NoMemory}

-- the same cause, as the definitions have it
abbrev pub line_cause_of : LineCause → model.LineCause
line_cause_of TooLong = model.too_long
line_cause_of NotText = model.not_text
line_cause_of SitesExpected = model.sites_expected
line_cause_of UnknownWord = model.unknown_word
line_cause_of Twice = model.twice
line_cause_of TooLate = model.too_late
line_cause_of WrongCount = model.wrong_count
line_cause_of ClientExpected = model.client_expected
line_cause_of TooManyClients = model.too_many_clients
line_cause_of TooManyRequests = model.too_many_requests
line_cause_of NoSuchItem = model.no_such_item
line_cause_of OtherSite = model.other_site
line_cause_of BadNumber = model.bad_number
line_cause_of BadMode = model.bad_mode
line_cause_of BadName = model.bad_name
line_cause_of NameTaken = model.name_taken
line_cause_of TooManyItems = model.too_many_items
line_cause_of (ProgramColumn column) = model.at_program malformed column
line_cause_of (UnknownName column) = model.at_program unknown_name column
line_cause_of (TooDeep column) = model.at_program too_deep column
line_cause_of NamesNoItem = model.names_no_item
line_cause_of (TooManyNames n) = model.too_many_names n
line_cause_of QueryAssigns = model.query_assigns
line_cause_of NoReturn = model.no_return
line_cause_of NotATrace = model.not_a_trace

-- A line, by its number, and why a text is refused there.
pub record RefusedLine : Type 0 where
  pub number : ℕ
  pub cause : model.LineCause

-- The text is no script of this kind: it is malformed at this line, for this cause.
abbrev pub IsMalformedIn : Script → List ℕ → RefusedLine → Type 0
IsMalformedIn script text refused = IsMalformed script text refused.number refused.cause

-- It is no schedule.
abbrev pub IsMalformedAt : List ℕ → RefusedLine → Type 0
IsMalformedAt text refused = IsMalformedIn scheduled text refused

-- It is no live script.
abbrev pub IsMalformedLiveAt : List ℕ → RefusedLine → Type 0
IsMalformedLiveAt text refused = IsMalformedIn live text refused

-- the line that an error names
abbrev pub refused_line : ScriptError → Option RefusedLine
refused_line (Malformed line reported) = Some (record { number = line; cause = line_cause_of reported })
refused_line NoMemory = None
