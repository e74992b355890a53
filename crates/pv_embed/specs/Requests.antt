-- What a site with a host makes of requests, messages and readings, by the answer.
use Rattle.std.specs.Prelude.{◌≡◌, ◌≢◌, ℕ, ◌≤◌, ◌<◌, Bool, List, [], ◌∷◌, ◌++◌, Option, Some, None, Result, Ok, Err, length, slice_get}
use Rattle.pv_base.specs.Catalog.{place_of, Item}
use Rattle.pv_base.specs.declared.limits.TheConstants.{MAX_PROGRAM_ITEMS}
use Rattle.pv_base.specs.declared.txn.TxnId.{TxnId}
use Rattle.pv_check.specs.CheckRefusal.{check_refusal}
use Rattle.pv_format.specs.FirstFault.{Fault, EnvelopeFault}
use Rattle.pv_format.specs.Message.{Envelope}
use Rattle.pv_format.specs.MessageSpelling.{SpellsEnvelope}
use Rattle.pv_model.specs.Check.{AreItems}
use Rattle.pv_model.specs.ProgramText.{IsProgramText, IsRefused, Refusal}
use Rattle.pv_model.specs.Syntax.{Program}
use Rattle.pv_parse.specs.Refusals.{refusal_of}
use Rattle.pv_protocol.specs.State.{Note, began, committed, full, receive, refused, spent, submit}
use Rattle.pv_site.specs.Asked.{Shows}
use Rattle.pv_site.specs.declared.input.Shown.{Shown}
use Rattle.pv_wire.specs.Faults.{fault_of}
use Rattle.pv_embed.specs.Held.{Held, Out, message, note}
use Rattle.pv_embed.specs.Hosted.{HostedState, HasStepped, Stays, log_length, stored_length}
use Rattle.pv_embed.specs.declared.fault.ReadFault.{ReadFault}
use Rattle.pv_embed.specs.declared.fault.ReadFault.TheVariants.{UnknownName, NotHere, Unwritten}
use Rattle.pv_embed.specs.declared.fault.ReceiveFault.{ReceiveFault}
use Rattle.pv_embed.specs.declared.fault.ReceiveFault.TheVariants as receiving
use Rattle.pv_embed.specs.declared.fault.SubmitFault.{SubmitFault}
use Rattle.pv_embed.specs.declared.fault.SubmitFault.TheVariants as submitting

-- A request, by its answer: the site is asked to run the program that the text is; or the text is none, or the program may not run, and the site
-- stays as it is.
abbrev pub SubmitsBy : {X : Type 0} → HostedState → HostedState → List ℕ → Bool → Result X SubmitFault → Type 0
SubmitsBy old new text query (Ok _) =
    (program : Program) × IsProgramText old.site.catalog text program
    × ((items : List ℕ) → AreItems program items → check_refusal MAX_PROGRAM_ITEMS (length items) program query ≡ None)
    × HasStepped old new (submit program)
SubmitsBy old new text query (Err (submitting.Text error)) =
    (new ≡ old) × ((refusal : Refusal) × (refusal_of error ≡ Some refusal) × IsRefused old.site.catalog text refusal)
SubmitsBy old new text query (Err (submitting.Program error)) =
    (new ≡ old) × ((program : Program) × IsProgramText old.site.catalog text program
    × ((items : List ℕ) → AreItems program items → check_refusal MAX_PROGRAM_ITEMS (length items) program query ≡ Some error))
SubmitsBy old new text query (Err submitting.NoMemory) = Stays old new

-- the transaction that a report says has begun
abbrev pub begun_by : Note → Option TxnId
begun_by (began txn) = Some txn
begun_by (committed txn replies) = None
begun_by (refused txn cause) = None
begun_by (full length) = None
begun_by spent = None

-- the transaction that the first report of these says has begun, if it is such a one; before it there may be messages
abbrev pub begun_first : List Note → Option TxnId
begun_first [] = None
begun_first (first ∷ notes) = begun_by first

abbrev pub begun_at : Out → Option TxnId → Option TxnId
begun_at (message envelope) later = later
begun_at (note reported) later = begun_by reported

abbrev pub begun_in : List Held → Option TxnId
begun_in [] = None
begun_in (first ∷ held) = begun_at first.out (begun_in held)

-- What the call has added to what is to be let out begins so: its first report is the number of this transaction, or none.
abbrev pub Begins : HostedState → HostedState → Option TxnId → Type 0
Begins old new begun = (made : List Held) × (new.held ≡ old.held ++ made) × (begun ≡ begun_in made)

-- A message, by its answer: the site takes the message that the bytes spell; or they spell none, or one that isn't for this site or of none of the sites, and the
-- site stays as it is.
abbrev pub ReceivesBy : {X : Type 0} → HostedState → HostedState → List ℕ → Result X ReceiveFault → Type 0
ReceivesBy old new bytes (Ok _) =
    (envelope : Envelope) × SpellsEnvelope envelope bytes × (envelope.to ≡ old.site.me) × (envelope.from < old.site.catalog.sites)
    × HasStepped old new (receive envelope.from envelope.message)
ReceivesBy old new bytes (Err (receiving.Malformed error)) = (new ≡ old) × ((fault : Fault) × (fault_of error ≡ Some fault) × EnvelopeFault bytes fault)
ReceivesBy old new bytes (Err receiving.NotForHere) = (new ≡ old) × ((envelope : Envelope) × SpellsEnvelope envelope bytes × (envelope.to ≢ old.site.me))
ReceivesBy old new bytes (Err receiving.NoSender) =
    (new ≡ old) × ((envelope : Envelope) × SpellsEnvelope envelope bytes × (envelope.to ≡ old.site.me) × (old.site.catalog.sites ≤ envelope.from))
ReceivesBy old new bytes (Err receiving.NoMemory) = Stays old new

-- A reading of the item of this name, by its answer. The site shows something only where all of its log is in the host's file, so that no crash undoes what it
-- rests on.
abbrev pub ReadsBy : HostedState → List ℕ → Result Shown ReadFault → Type 0
ReadsBy hosted name (Ok shown) =
    (n : ℕ) × (item : Item) × (place_of name hosted.site.catalog.items ≡ Some n) × (slice_get hosted.site.catalog.items n ≡ Some item)
    × (item.site ≡ hosted.site.me) × Shows hosted.site hosted.site.running n shown × (log_length hosted ≤ stored_length hosted)
ReadsBy hosted name (Err UnknownName) = place_of name hosted.site.catalog.items ≡ None
ReadsBy hosted name (Err NotHere) =
    (n : ℕ) × (item : Item) × (place_of name hosted.site.catalog.items ≡ Some n) × (slice_get hosted.site.catalog.items n ≡ Some item)
    × (item.site ≢ hosted.site.me)
ReadsBy hosted name (Err Unwritten) =
    (n : ℕ) × (item : Item) × (place_of name hosted.site.catalog.items ≡ Some n) × (slice_get hosted.site.catalog.items n ≡ Some item)
    × (item.site ≡ hosted.site.me) × (stored_length hosted < log_length hosted)
