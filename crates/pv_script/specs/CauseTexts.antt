-- How a refused line and its cause are printed.
use Rattle.std.specs.Prelude.{ℕ, List, ◌++◌, codes}
use Rattle.std.specs.Fmt.{decimal}
use Rattle.pv_model.specs.LineCauses.{LineCause, too_long, not_text, sites_expected, unknown_word, twice, too_late, wrong_count, client_expected, too_many_clients, too_many_requests, no_such_item, other_site, bad_number, bad_mode, bad_name, name_taken, too_many_items, at_program, names_no_item, too_many_names, query_assigns, no_return, not_a_trace}
use Rattle.pv_model.specs.ProgramText.{malformed, unknown_name, too_deep}
use Rattle.pv_script.specs.ScriptErrors.{line_cause_of}
use Rattle.pv_script.specs.declared.schedule.ScriptError.{ScriptError}
use Rattle.pv_script.specs.declared.schedule.ScriptError.TheVariants.{Malformed, NoMemory}

-- what is wrong with a line, as it is printed
unfoldable pub cause_text : LineCause → List ℕ
cause_text too_long = codes "too long"
cause_text not_text = codes "not text"
cause_text sites_expected = codes "sites expected"
cause_text unknown_word = codes "unknown word"
cause_text twice = codes "twice"
cause_text too_late = codes "too late"
cause_text wrong_count = codes "wrong count"
cause_text client_expected = codes "client expected"
cause_text too_many_clients = codes "too many clients"
cause_text too_many_requests = codes "too many requests"
cause_text no_such_item = codes "no such item"
cause_text other_site = codes "other site"
cause_text bad_number = codes "bad number"
cause_text bad_mode = codes "bad mode"
cause_text bad_name = codes "bad name"
cause_text name_taken = codes "name taken"
cause_text too_many_items = codes "too many items"
cause_text (at_program malformed column) = codes "program column " ++ decimal column
cause_text (at_program unknown_name column) = codes "unknown name column " ++ decimal column
cause_text (at_program too_deep column) = codes "too deep column " ++ decimal column
cause_text names_no_item = codes "names no item"
cause_text (too_many_names n) = codes "too many names " ++ decimal n
cause_text query_assigns = codes "query assigns"
cause_text no_return = codes "no return"
cause_text not_a_trace = codes "not a trace"

-- `line N: CAUSE`
abbrev pub refused_text : ℕ → LineCause → List ℕ
refused_text number cause = codes "line " ++ (decimal number ++ (codes ": " ++ cause_text cause))

-- why a text wasn't read, as it is printed
abbrev pub error_text : ScriptError → List ℕ
error_text (Malformed line reported) = refused_text line (line_cause_of reported)
error_text NoMemory = codes "no memory"
