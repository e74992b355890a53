-- How the program ends, by its words: each command has one relation, which says all of how it ends, of a type that has the ways in which it can.
use Rattle.std.specs.Bool.{⊤}
use Rattle.std.specs.Prelude.{◌≡◌, Result, Ok, Err}
use Rattle.pv_app.specs.Commands.{usage_text}
use Rattle.pv_app.specs.TourEnds.{EndsTour, tour_status}
use Rattle.pv_app.specs.declared.command.Command.{Command}
use Rattle.pv_app.specs.declared.command.Command.TheVariants.{Run, Make, Big, Live, Over, Audit, Outbox, Quorum}
use Rattle.pv_app.specs.declared.tour_end.TourEnd.{TourEnd}
use Rattle.pv_audit_run.specs.AuditEnds.{EndsAudit, audit_status}
use Rattle.pv_audit_run.specs.declared.audit_end.AuditEnd.{AuditEnd}
use Rattle.pv_base.specs.declared.failure.Failed.{Failed}
use Rattle.pv_disk.specs.BayModel.{BayModel}
use Rattle.pv_io.specs.SinkEffects.{WritesAll}
use Rattle.pv_io.specs.declared.read_end.ReadEnd.{ReadEnd}
use Rattle.pv_io.specs.declared.sink.Sink as sinks
use Rattle.pv_io.specs.declared.source.Source as sources
use Rattle.pv_lines.specs.declared.end.ScriptEnd.{ScriptEnd}
use Rattle.pv_lines.specs.declared.end.ScriptEnd.TheVariants as script
use Rattle.pv_live.specs.LiveEnds.{EndsLive, live_status}
use Rattle.pv_live.specs.declared.live_end.LiveEnd.{LiveEnd}
use Rattle.pv_disk_model.specs.DiskModel.{DiskModel}
use Rattle.pv_outbox_run.specs.Answer.{EndsOutbox}
use Rattle.pv_quorum_run.specs.Ends.{EndsQuorum}
use Rattle.pv_run.specs.Ends.{EndsBig, EndsMake, EndsRun}
use Rattle.pv_run.specs.Statuses.{big_status, make_status, run_status, unread_status}
use Rattle.pv_run.specs.declared.status.Status.{Status}
use Rattle.pv_run.specs.declared.status.Status.TheVariants.{Done, Usage, Malformed, WriteFault, NoMemory}
use Rattle.pv_run.specs.declared.text_end.LongText.{LongText}
use Rattle.pv_run.specs.declared.text_end.TextEnd.{TextEnd}
use Rattle.pv_run.specs.declared.write_end.WriteEnd.{WriteEnd}

-- the status of a command over a small script
abbrev pub script_status : Result ScriptEnd ReadEnd → Status
script_status (Ok script.Done) = Done
script_status (Ok script.Malformed) = Malformed
script_status (Ok script.WriteFault) = WriteFault
script_status (Ok script.NoMemory) = NoMemory
script_status (Err reason) = unread_status reason

-- the status of words that are no command, by how the usage line was written
abbrev pub usage_status : Result ⊤ Failed → Status
usage_status (Ok all) = Usage
usage_status (Err failed) = WriteFault

module _ {R W B V : Type 0} (source : sources.Ghosts R) (sink : sinks.Ghosts W) (M : BayModel B) (D : DiskModel V) (unread left : R) (before after : W) (old new : B)
    (status : Status) where
  -- Nothing was read, and the bay is as it was.
  abbrev pub IsUntouched : Type 0
  IsUntouched = (left ≡ unread) × (new ≡ old)

  -- How a command ends, and the status, which is that of this end. `EndsRun` has the headline.
  abbrev pub Ends : Command → Type 0
  Ends (Run form) = (ended : Result TextEnd ReadEnd) × (status ≡ run_status ended) × EndsRun source sink M form unread left before after old new ended
  Ends (Make n) = (ended : Result ⊤ WriteEnd) × (status ≡ make_status ended) × EndsMake sink n before after ended × IsUntouched
  Ends (Big n) = (ended : Result TextEnd LongText) × (status ≡ big_status ended) × EndsBig sink n before after ended × IsUntouched
  Ends (Live workers) = (ended : Result LiveEnd ReadEnd) × (status ≡ live_status ended) × EndsLive source sink M D unread left before after old new ended
  Ends Audit = (ended : Result AuditEnd ReadEnd) × (status ≡ audit_status ended) × EndsAudit source sink unread left before after ended × (new ≡ old)
  Ends Outbox = (ended : Result ScriptEnd ReadEnd) × (status ≡ script_status ended) × EndsOutbox source sink unread left before after ended × (new ≡ old)
  Ends Quorum = (ended : Result ScriptEnd ReadEnd) × (status ≡ script_status ended) × EndsQuorum source sink unread left before after ended × (new ≡ old)
  Ends (Over tour) = (ended : Result TourEnd ReadEnd) × (status ≡ tour_status ended) × EndsTour source sink M D tour unread left before after old new ended

  -- How words end that are no command: the usage line was written, or a beginning of it.
  abbrev pub EndsUsage : Type 0
  EndsUsage = (ended : Result ⊤ Failed) × (status ≡ usage_status ended) × WritesAll sink (λ failed. Unit {0}) before after usage_text ended × IsUntouched
