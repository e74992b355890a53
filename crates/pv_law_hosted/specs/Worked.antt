-- A deployment of one site, computed. It is opened for the first time, and its process goes before anything is written; it is opened anew, and its process goes once the
-- record of its epoch is in the file, but before its host has told so. Or its host tells so, and it takes a request, whose number is let out; then its process is killed.
use Rattle.std.specs.Prelude.{Bool, true, false, List, ℕ, pos, Some, None, [], ◌∷◌, ◌++◌, codes}
use Rattle.pv_base.specs.Catalog.{Declared}
use Rattle.pv_base.specs.declared.limits.TheConstants.{MAX_JOURNAL}
use Rattle.pv_base.specs.Want.{Want}
use Rattle.pv_base.specs.declared.txn.TxnId.{TxnId}
use Rattle.pv_embed.specs.Held.{Held, Out, message, note}
use Rattle.pv_embed.specs.Hosted.{HostedState}
use Rattle.pv_format.specs.Journal.{header, framed}
use Rattle.pv_format.specs.Message.{lock}
use Rattle.pv_format.specs.Record.{Record, epoch_begun}
use Rattle.pv_host.specs.HostLog.{HostState}
use Rattle.pv_law_hosted.specs.Asked.{Asked}
use Rattle.pv_law_hosted.specs.Deployment.{Deployment}
use Rattle.pv_model.specs.Events.{Schedule}
use Rattle.pv_model.specs.Syntax.{Expr, Program}
use Rattle.pv_protocol.specs.Start.{just_started}
use Rattle.pv_protocol.specs.State as State

-- ## What is declared
abbrev pub config : List ℕ
config = codes "sites 1" ++ 10 ∷ codes "item a 0 5"

abbrev pub catalog : Declared
catalog = record { sites = 1; journal = MAX_JOURNAL; items = record { name = codes "a"; site = 0; value = pos 5 } ∷ [] }

abbrev pub schedule : Schedule
schedule = record { catalog = catalog; events = [] }

-- ## The file
-- the content of the record of the first epoch
abbrev pub first_epoch : List ℕ
first_epoch = 1 ∷ 0 ∷ 0 ∷ 0 ∷ 1 ∷ []

-- a new file
abbrev pub new_file : List ℕ
new_file = header ++ 0 ∷ []

-- the file once the record is written behind the closed gate, and once this is open
abbrev pub written_file : List ℕ
written_file = header ++ 0 ∷ (framed first_epoch ++ 0 ∷ [])

abbrev pub found_file : List ℕ
found_file = header ++ 1 ∷ (framed first_epoch ++ 0 ∷ [])

-- ## The site
-- the log as it is opened on the new file, and once the epoch was begun
abbrev pub opened_log : HostState
opened_log = record { stored = []; asked = []; pending = []; behind_gate = false; limit = MAX_JOURNAL; is_down = false; is_read = false; bytes = 0 }

abbrev pub begun_log : HostState
begun_log = record opened_log { pending = first_epoch ∷ []; is_read = true }

-- the log once the host was asked to write the record, which stands behind the gate or doesn't
abbrev pub asked_log : Bool → HostState
asked_log behind_gate = record begun_log { asked = first_epoch ∷ []; pending = []; behind_gate = behind_gate }

abbrev pub begun_records : List Record
begun_records = epoch_begun 1 ∷ []

-- the site in its first epoch, with this log
abbrev pub begun : HostState → HostedState
begun log = record {
  site = record {
    me = 0;
    catalog = catalog;
    records = begun_records;
    running = Some (just_started 1);
    epoch = 1;
    first = true;
    surplus = 0;
    log = log;
  };
  held = [];
}

-- ## The deployment
-- no process, and a new file: at first, and once the first process is gone
abbrev pub fresh : Deployment
fresh = record { file = new_file; hosted = None; let_out = []; asked = [] } ∷ []

-- a process on a new file
abbrev pub up : Deployment
up = record { file = new_file; hosted = Some (begun begun_log); let_out = []; asked = [] } ∷ []

-- its host was asked to write the record
abbrev pub asked : Deployment
asked = record { file = new_file; hosted = Some (begun (asked_log false)); let_out = []; asked = [] } ∷ []

-- the record is in the file, and the gate is to be opened
abbrev pub writing : Deployment
writing = record { file = written_file; hosted = Some (begun (asked_log true)); let_out = []; asked = [] } ∷ []

-- the process is gone, and left the gate open
abbrev pub found : Deployment
found = record { file = found_file; hosted = None; let_out = []; asked = [] } ∷ []

-- a process of this site on the file that was left
abbrev pub found_again : HostedState → Deployment
found_again site = record { file = found_file; hosted = Some site; let_out = []; asked = [] } ∷ []

-- the record that it finds, and that of its own epoch
abbrev pub found_records : List Record
found_records = begun_records ++ epoch_begun 2 ∷ []

-- ## A request
-- `return a`, the number that it gets, and the locks that it wants
abbrev pub program : Program
program = Program.return (Expr.item 0) Program.end

abbrev pub number : TxnId
number = record { site = record { 0 = 0 }; epoch = 1; number = 0 }

abbrev pub wants : List Want
wants = record { item = 0; exclusive = false } ∷ []

-- the log once its host has told that the gate is open
abbrev pub stored_log : HostState
stored_log = record begun_log { stored = first_epoch ∷ []; pending = [] }

-- what the site lets out of it, first that it asks itself for the locks; both rest on the journal as it is, of 19 bytes
abbrev pub asks_itself : Out
asks_itself = message (record { from = 0; to = 0; message = lock number wants })

abbrev pub asking : Held
asking = record { length = 19; out = asks_itself }

abbrev pub numbering : Held
numbering = record { length = 19; out = note (State.began number) }

-- the site that has taken the request, while it holds this
abbrev pub asked_by : List Held → HostedState
asked_by held = record {
  site = record {
    me = 0;
    catalog = catalog;
    records = begun_records;
    running = Some (record (just_started 1) { next_txn = 1; entries = record { txn = number; program = program; stage = State.locking; age = 0; taken = []; votes = [] } ∷ [] });
    epoch = 1;
    first = true;
    surplus = 0;
    log = stored_log;
  };
  held = held;
}

-- its host has told that the record is stored
abbrev pub stored : Deployment
stored = record { file = found_file; hosted = Some (begun stored_log); let_out = []; asked = [] } ∷ []

-- what it was asked to run
abbrev pub requests : List Asked
requests = record { txn = number; program = program } ∷ []

-- it has taken the request
abbrev pub requested : Deployment
requested = record { file = found_file; hosted = Some (asked_by (asking ∷ numbering ∷ [])); let_out = []; asked = requests } ∷ []

-- that it asks itself is let out
abbrev pub sent : Deployment
sent = record { file = found_file; hosted = Some (asked_by (numbering ∷ [])); let_out = asks_itself ∷ []; asked = requests } ∷ []

-- and so is the number
abbrev pub numbered : Deployment
numbered = record { file = found_file; hosted = Some (asked_by []); let_out = asks_itself ∷ note (State.began number) ∷ []; asked = requests } ∷ []

-- the process is gone
abbrev pub killed : Deployment
killed = record { file = found_file; hosted = None; let_out = asks_itself ∷ note (State.began number) ∷ []; asked = requests } ∷ []

-- a process of this site on the file that was left
abbrev pub opened_again : HostedState → Deployment
opened_again site = record { file = found_file; hosted = Some site; let_out = asks_itself ∷ note (State.began number) ∷ []; asked = requests } ∷ []
