-- What may happen in a deployment.
use Rattle.std.specs.Prelude.{◌≡◌, ◌⊎◌, ℕ, ◌<◌, ◌≤◌, Option, Some, None, List, [], ◌∷◌, ◌++◌, drop, length}
use Rattle.pv_base.specs.Catalog.{Declared}
use Rattle.pv_disk_model.specs.Disk.{overlaid}
use Rattle.pv_disk_model.specs.Size.{Contents}
use Rattle.pv_format.specs.Journal.{IsJournal}
use Rattle.pv_format.specs.Message.{Envelope}
use Rattle.pv_model.specs.Syntax.{Program}
use Rattle.pv_protocol.specs.State as model
use Rattle.pv_protocol.specs.State.{submit, receive, tick}
use Rattle.pv_protocol.specs.WellFormed.{CanRun}
use Rattle.pv_site.specs.Steps.{IsReady}
use Rattle.pv_host.specs.HostFile.{MayLeave}
use Rattle.pv_host.specs.HostLaws.{host_model}
use Rattle.pv_host.specs.HostLog.{HostState, HostWrite, next_write, with_written}
use Rattle.pv_embed.specs.Held.{Held}
use Rattle.pv_embed.specs.Hosted.{AsksForGroup, HostedState, HasStepped, Stays, Writes, stored_length}
use Rattle.pv_embed.specs.Opening.{HasOpenedOn}
use Rattle.pv_law_hosted.specs.Asked.{asked_after}
use Rattle.pv_law_hosted.specs.Deployment.{Deployment, Station, IsCarried, station_at, with_station}

-- What the site of this number may be given: a request for a program that can run, a message that was let out and goes to it, and time.
pub data MayTake (catalog : Declared) (d : Deployment) (n : ℕ) : model.Input → Type 0 where
  request : (program : Program) → CanRun catalog program → MayTake catalog d n (submit program)
  carried : (envelope : Envelope) → IsCarried d envelope → envelope.to ≡ n → envelope.from < catalog.sites
      → MayTake catalog d n (receive envelope.from envelope.message)
  time : MayTake catalog d n tick

-- The site is up, and its log holds its records.
pub record Stands (hosted : HostedState) : Type 0 where
  pub ready : IsReady host_model hosted.site
  pub running : model.Running
  pub up : hosted.site.running ≡ Some running

-- What a host leaves of the file that may write on before it says so: what it leaves of that which it has said; or where it has written all that it was to write next, what
-- it leaves once it has said that. So a group may stand in the file with its gate open, as one write, and nobody was told of either.
abbrev pub MayLeaveAhead : HostState → List ℕ → List ℕ → Type 0
MayLeaveAhead log file left =
    MayLeave log file left
    ⊎ ((write : HostWrite) × (next_write log ≡ Some write) × MayLeave (with_written log) (overlaid file write.place write.bytes) left)

-- What may happen to a station whose process is there, with its site so.
pub data HappensTo (catalog : Declared) (d : Deployment) (n : ℕ) (site : HostedState) (old : Station) : Station → Type 0 where
  -- it takes something; where that is a request, what begins by it was asked for
  takes : (next : HostedState) (input : model.Input) → MayTake catalog d n input → HasStepped site next input
      → HappensTo catalog d n site old (record old { hosted = Some next; asked = asked_after old.asked input (drop (length site.held) next.held) })
  -- a call is refused, or changes nothing
  stays : (next : HostedState) → Stays site next → HappensTo catalog d n site old (record old { hosted = Some next })
  -- the host is asked to write a group of what waits, which stays as it is until the host has said that it is written
  asks : (next : HostedState) (room : ℕ) → AsksForGroup room site next → HappensTo catalog d n site old (record old { hosted = Some next })
  -- some of what the host writes has come into the file, and more is to come or the write has failed
  is_writing : (left : List ℕ) → MayLeave site.site.log old.file left → HappensTo catalog d n site old (record old { file = left })
  -- the write is in the file, and the host says so; or it says so where there is nothing to write
  writes : (next : HostedState) (write : HostWrite) → next_write site.site.log ≡ Some write → Writes site next
      → HappensTo catalog d n site old (record old { file = overlaid old.file write.place write.bytes; hosted = Some next })
  idles : (next : HostedState) → next_write site.site.log ≡ None → Writes site next
      → HappensTo catalog d n site old (record old { hosted = Some next })
  -- the next thing is let out: as much of the log is in the file as there was when it was made
  lets_out : (next : HostedState) (first : Held) (later : List Held) → site.held ≡ first ∷ later → first.length ≤ stored_length site
      → next ≡ record site { held = later } → HappensTo catalog d n site old (record old { hosted = Some next; let_out = old.let_out ++ first.out ∷ [] })
  -- the process goes: by a crash, by a kill, or closed; and the file is, as the next opening finds it, one that this may leave. Nobody else has read the file before: so what
  -- the host has written ahead of what it said counts now.
  goes : (left : List ℕ) → MayLeaveAhead site.site.log old.file left → HappensTo catalog d n site old (record old { file = left; hosted = None })

-- Both are journals of the same contents. So they differ in no more than a closed gate and what stands behind it.
abbrev pub HoldTheSame : List ℕ → List ℕ → Type 0
HoldTheSame file left = (contents : Contents) × IsJournal contents file × IsJournal contents left

-- What may happen to a station. One without a process gets one: the site is opened on the file that the last one left, or on another one that holds the same, and has that then.
abbrev pub HappensAt : List ℕ → Declared → Deployment → ℕ → Station → Option HostedState → Station → Type 0
HappensAt config catalog d n old (Some site) new = HappensTo catalog d n site old new
HappensAt config catalog d n old None new =
    (site : HostedState) × (left : List ℕ) × HoldTheSame old.file left × HasOpenedOn config n left site × (new ≡ record old { file = left; hosted = Some site })

-- One thing happens, at one station. The site that its process has then stands ready, as it does between any two calls.
pub record Happens (config : List ℕ) (catalog : Declared) (d later : Deployment) : Type 0 where
  pub n : ℕ
  pub known : n < catalog.sites
  pub new : Station
  pub at : HappensAt config catalog d n (station_at d n) (station_at d n).hosted new
  pub stands : (site : HostedState) → new.hosted ≡ Some site → Stands site
  pub after : later ≡ with_station d n new
