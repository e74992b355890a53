-- Where what clients are told stands in the history of their site.
use Rattle.std.specs.Prelude.{◌≡◌, ◌⊎◌, ℕ, Option, Some, None, List, [], ◌∷◌, Contains, flat_map, ⊤}
use Rattle.pv_base.specs.declared.txn.TxnId.{TxnId}
use Rattle.pv_law_histories.specs.History.{Came, done, Stamped, lines_of_came}
use Rattle.pv_mail.specs.Answers.{asker_of}
use Rattle.pv_mail.specs.declared.asked.Asker.{Asker}
use Rattle.pv_protocol.specs.Lines.{Line}
use Rattle.pv_protocol.specs.State.{began}

-- what is printed of a history, entry by entry, at the site of this number
abbrev pub lines_of_history : ℕ → List Stamped → List Line
lines_of_history me history = flat_map (λ entry. lines_of_came me entry.came) history

-- the transaction of which the line says that it has committed, or is refused
abbrev pub decided_by : Line → Option TxnId
decided_by (Line.commit txn replies) = Some txn
decided_by (Line.refuse txn cause) = Some txn
decided_by other = None

-- The step began the transaction, if there is one.
abbrev pub HasBegun : Option TxnId → Came → Type 0
HasBegun None came = ⊤
HasBegun (Some txn) (done notes) = Contains notes (began txn)
HasBegun (Some txn) other = ⊥

-- The request stands in the history, the line is printed with it or after it, and where the line decides a transaction, it's one that the request began.
abbrev pub IsOwn : (me : ℕ) → Asker → Line → List Stamped → Type 0
IsOwn me asker line [] = ⊥
IsOwn me asker line (entry ∷ entries) =
    ((asker_of entry.intake ≡ Some asker) × HasBegun (decided_by line) entry.came × Contains (lines_of_history me (entry ∷ entries)) line)
    ⊎ IsOwn me asker line entries
