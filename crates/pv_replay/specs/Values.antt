-- What the records of the code are.
use Rattle.std.specs.Prelude.{ℕ, List, map, Option, Some, None}
use Rattle.std.specs.Global.{Vec}
use Rattle.pv_format.specs.Form as model_form
use Rattle.pv_format.specs.Form.{in_tree, in_sure_tree, in_cases}
use Rattle.pv_format.specs.Record as model
use Rattle.pv_format.specs.Record.{epoch_begun, prepared, outcome_known}
use Rattle.pv_replay.specs.declared.error.ReplayError.{ReplayError}
use Rattle.pv_replay.specs.declared.error.ReplayError.TheVariants.{BadRecord, NoMemory}
use Rattle.pv_replay.specs.declared.form.Form.{Form}
use Rattle.pv_replay.specs.declared.form.Form.TheVariants.{Tree, SureTree, Cases}
use Rattle.pv_replay.specs.declared.record.Record.{Record}
use Rattle.pv_replay.specs.declared.record.Record.TheVariants.{Epoch, Prepared, Outcome}

-- The form as plain data.
abbrev pub form_of : Form → model_form.Form
form_of Tree = in_tree
form_of SureTree = in_sure_tree
form_of Cases = in_cases

-- The record as plain data.
abbrev pub record_of : Record → model.Record
record_of (Epoch epoch) = epoch_begun epoch
record_of (Prepared txn writes) = prepared txn writes.items
record_of (Outcome txn commits) = outcome_known txn commits

-- The index of the content that is no record; none where there was no memory.
abbrev pub index_of : ReplayError → Option ℕ
index_of (BadRecord index) = Some index
index_of NoMemory = None

abbrev pub records_of : List Record → List model.Record
records_of records = map record_of records

-- What the contents are, as bytes.
abbrev pub contents_of : List (Vec ℕ) → List (List ℕ)
contents_of contents = map (λ (content : Vec ℕ). content.items) contents
