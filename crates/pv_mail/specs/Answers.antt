-- What clients hear of a step.
use Rattle.std.specs.Prelude.{◌≡◌, ℕ, ◌==◌, Option, Some, None, List, [], ◌∷◌, ◌++◌, if◌then◌else◌, ⊤}
use Rattle.pv_base.specs.Assignment.{is_same_txn}
use Rattle.pv_base.specs.declared.txn.TxnId.{TxnId}
use Rattle.pv_law_histories.specs.History.{Intake, request, Came, done, fault, down}
use Rattle.pv_protocol.specs.Lines as model
use Rattle.pv_protocol.specs.Lines.{Line}
use Rattle.pv_protocol.specs.State.{Note, began, committed, refused, spent}
use Rattle.pv_script.specs.LineView.{line_of}
use Rattle.pv_mail.specs.declared.answer.Answer.{Answer}
use Rattle.pv_mail.specs.declared.answer.What.{What}
use Rattle.pv_mail.specs.declared.answer.What.TheVariants as what
use Rattle.pv_mail.specs.declared.asked.Asker.{Asker}
use Rattle.pv_mail.specs.declared.asked.Begun.{Begun}

-- Who asked for what was taken in: a client, with the number of its request.
abbrev pub asker_of : Intake → Option Asker
asker_of (request client asked) = Some record { client = client; number = asked.number }
asker_of other = None

-- who asked for the transaction, among those that were begun and aren't decided
abbrev pub asker_in : List Begun → TxnId → Option Asker
asker_in [] txn = None
asker_in (first ∷ rest) txn = if is_same_txn first.txn txn then Some first.asker else asker_in rest txn

-- without the transaction
abbrev pub without : List Begun → TxnId → List Begun
without [] txn = []
without (first ∷ rest) txn = if is_same_txn first.txn txn then rest else first ∷ without rest txn

-- a client is to hear this line of its request
pub record Told : Type 0 where
  pub asker : Asker
  pub line : Line

abbrev pub told : Option Asker → Line → List Told
told None line = []
told (Some asker) line = record { asker = asker; line = line } ∷ []

-- one more that this client asked for
abbrev pub with_begun : Option Asker → TxnId → List Begun → List Begun
with_begun None txn begun = begun
with_begun (Some asker) txn begun = begun ++ record { txn = txn; asker = asker } ∷ []

-- who is left of the client whose request the step took: it begins one transaction
abbrev pub asker_after : Option Asker → Note → Option Asker
asker_after asker (began txn) = None
asker_after asker other = asker

-- what is begun and not decided, after a note of a step of what this client asked for
abbrev pub begun_after : Option Asker → List Begun → Note → List Begun
begun_after asker begun (began txn) = with_begun asker txn begun
begun_after asker begun (committed txn replies) = without begun txn
begun_after asker begun (refused txn cause) = without begun txn
begun_after asker begun other = begun

-- the same of all notes, in order
abbrev pub begun_after_all : Option Asker → List Begun → List Note → List Begun
begun_after_all asker begun [] = begun
begun_after_all asker begun (note ∷ notes) = begun_after_all (asker_after asker note) (begun_after asker begun note) notes

module _ (me : ℕ) where
  -- what clients hear of the note
  abbrev pub told_of : Option Asker → List Begun → Note → List Told
  told_of asker begun (committed txn replies) = told (asker_in begun txn) (model.line_of me (committed txn replies))
  told_of asker begun (refused txn cause) = told (asker_in begun txn) (model.line_of me (refused txn cause))
  told_of asker begun spent = told asker (model.line_of me spent)
  told_of asker begun other = []

  -- the same of all notes, in order
  abbrev pub told_of_all : Option Asker → List Begun → List Note → List Told
  told_of_all asker begun [] = []
  told_of_all asker begun (note ∷ notes) = told_of asker begun note ++ told_of_all (asker_after asker note) (begun_after asker begun note) notes

-- What is begun and not decided, after what came of this intake. What was begun before a fault is heard of no more.
abbrev pub begun_by : List Begun → Intake → Came → List Begun
begun_by begun intake (done notes) = begun_after_all (asker_of intake) begun notes
begun_by begun intake other = begun

-- what clients hear of what came of this intake
abbrev pub told_by : ℕ → List Begun → Intake → Came → List Told
told_by me begun intake (done notes) = told_of_all me (asker_of intake) begun notes
told_by me begun intake fault = []
told_by me begun intake down = told (asker_of intake) (Line.down me)

-- of these, what this client hears
abbrev pub told_to : ℕ → List Told → List Told
told_to client [] = []
told_to client (first ∷ rest) = if first.asker.client == client then first ∷ told_to client rest else told_to client rest

-- The answer says this, or that there was no memory.
abbrev pub Says : What → Line → Type 0
Says (what.Line said) line = line_of said ≡ line
Says what.NoMemory line = ⊤

abbrev pub Tells : ℕ → Answer → Told → Type 0
Tells seen answer one = (answer.number ≡ one.asker.number) × (answer.seen ≡ seen) × Says answer.what one.line

-- One by one, these answers, made when the history had so many entries, say that.
abbrev pub AllTell : ℕ → List Answer → List Told → Type 0
AllTell seen [] [] = ⊤
AllTell seen (answer ∷ answers) (one ∷ more) = Tells seen answer one × AllTell seen answers more
AllTell seen answers other = ⊥
