-- What processes were asked to run, with the numbers that they gave to it.
use Rattle.std.specs.Prelude.{List, [], ◌∷◌, ◌++◌, Option, Some, None, if◌then◌else◌}
use Rattle.std.specs.Option.{option_or}
use Rattle.pv_base.specs.Assignment.{is_same_txn}
use Rattle.pv_base.specs.declared.txn.TxnId.{TxnId}
use Rattle.pv_model.specs.Syntax.{Program}
use Rattle.pv_protocol.specs.State.{Input, Note, submit, receive, tick, began, committed, refused, full, spent}
use Rattle.pv_embed.specs.Held.{Held, Out, message, note}

-- A program that a process was asked to run, and the number of the transaction that has begun so.
pub record Asked : Type 0 where
  pub txn : TxnId
  pub program : Program

-- the program that a process was asked for last under this number
abbrev pub asked_as : List Asked → TxnId → Option Program
asked_as [] txn = None
asked_as (first ∷ later) txn = option_or (asked_as later txn) (if is_same_txn first.txn txn then Some first.program else None)

-- what a report says has begun, where the site was asked to run this program
abbrev pub begun_note : Program → Note → List Asked
begun_note program (began txn) = record { txn = txn; program = program } ∷ []
begun_note program (committed txn replies) = []
begun_note program (refused txn cause) = []
begun_note program (full length) = []
begun_note program spent = []

abbrev pub begun_out : Program → Out → List Asked
begun_out program (message envelope) = []
begun_out program (note reported) = begun_note program reported

-- what has begun, by what the site has made of the request
abbrev pub begun_of : Program → List Held → List Asked
begun_of program [] = []
begun_of program (first ∷ made) = begun_out program first.out ++ begun_of program made

-- what was asked for once the site has taken an input and made this of it
abbrev pub asked_after : List Asked → Input → List Held → List Asked
asked_after asked (submit program) made = asked ++ begun_of program made
asked_after asked (receive from brought) made = asked
asked_after asked tick made = asked
