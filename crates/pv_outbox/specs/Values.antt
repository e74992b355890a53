-- Records and contents as plain data.
use Rattle.std.specs.Prelude.{ℕ, List, map}
use Rattle.std.specs.Global.{Vec}
use Rattle.pv_disk_model.specs.Size.{Contents}
use Rattle.pv_law_outbox.specs.State as law
use Rattle.pv_law_outbox.specs.State.{held, learnt, taken}
use Rattle.pv_outbox.specs.declared.record.Record.{Record}
use Rattle.pv_outbox.specs.declared.record.Record.TheVariants.{Held, Learnt, Taken}

-- The record as plain data.
abbrev pub record_of : Record → law.Record
record_of (Held output when) = held output when
record_of (Learnt txn commits) = learnt txn commits
record_of (Taken output) = taken output

-- What the contents are, as bytes.
abbrev pub contents_of : List (Vec ℕ) → Contents
contents_of contents = map (λ (content : Vec ℕ). content.items) contents
