-- What a mirrored deployment promises, in the words of its users.
use Rattle.std.specs.Prelude.{◌≡◌, ◌⊎◌, ℕ, None, List, [], IsTrue}
use Rattle.std.specs.List.{Contains}
use Rattle.pv_base.specs.declared.reply.Reply.{Reply}
use Rattle.pv_base.specs.declared.txn.TxnId.{TxnId}
use Rattle.pv_disk_model.specs.Size.{Contents}
use Rattle.pv_format.specs.Contents.{SpellRecords}
use Rattle.pv_format.specs.Journal.{IsJournal}
use Rattle.pv_model.specs.Events.{Event}
use Rattle.pv_protocol.specs.Causes.{HasCause}
use Rattle.pv_protocol.specs.CommitAnswers.{ArePossible, HaveSerialReplies}
use Rattle.pv_protocol.specs.Committed.{is_committed}
use Rattle.pv_protocol.specs.Lines.{Line}
use Rattle.pv_protocol.specs.Outcomes.{IsOut}
use Rattle.pv_protocol.specs.Places.{Place, world_before}
use Rattle.pv_protocol.specs.Run.{run}
use Rattle.pv_protocol.specs.State.{Cause, Setup, Site}
use Rattle.pv_protocol.specs.World.{first_site, opening}
use Rattle.pv_law_hosted.specs.Mirrored.{world_of}

-- The file is a journal of exactly the site's records, and the site is down; or of none, and the site was started once and nothing has happened in it.
abbrev pub HoldsSite : List ℕ → Site → Type 0
HoldsSite file site =
    ((contents : Contents) × IsJournal contents file × SpellRecords site.records contents × (site.running ≡ None))
    ⊎ (IsJournal [] file × (site ≡ first_site))

-- The run answers so: in a transition of it the transaction commits, with these replies. They are the possible ones, and those of each serial run that fits the world
-- after it are among them. And in the world after all of it the transaction is committed.
pub record IsAnswered (setup : Setup) (events : List Event) (txn : TxnId) (replies : List Reply) : Type 0 where
  pub place : Place (run setup (opening setup) events)
  pub printed : Contains place.transition.lines (Line.commit txn replies)
  pub possible : ArePossible (world_before (opening setup) place) place.transition txn replies
  pub serial : HaveSerialReplies setup place.transition.world txn replies
  pub committed : IsTrue (is_committed (world_of setup events) txn)

-- The run refuses the transaction in a transition of it, for this cause; and in the world after all of it the transaction is neither committed nor open.
pub record IsRefused (setup : Setup) (events : List Event) (txn : TxnId) (cause : Cause) : Type 0 where
  pub place : Place (run setup (opening setup) events)
  pub printed : Contains place.transition.lines (Line.refuse txn cause)
  pub reason : HasCause setup (opening setup) place.earlier place.transition txn cause
  pub out : IsOut txn (world_of setup events)
