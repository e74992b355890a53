-- When the run of some events mirrors a deployment.
use Rattle.std.specs.Prelude.{◌≡◌, ℕ, ◌<◌, ◌≤◌, Bool, Option, Some, None, List, [], ◌++◌, length, map, All}
use Rattle.std.specs.List.{Contains}
use Rattle.pv_base.specs.declared.txn.TxnId.{TxnId}
use Rattle.pv_disk_model.specs.Size.{Contents}
use Rattle.pv_format.specs.Checkpoint.{first_standing}
use Rattle.pv_format.specs.Contents.{AreWritten}
use Rattle.pv_format.specs.Journal.{IsJournal}
use Rattle.pv_format.specs.Record.{Record}
use Rattle.pv_model.specs.Events.{Event, submit}
use Rattle.pv_model.specs.Syntax.{Program}
use Rattle.pv_protocol.specs.Committed.{home_of}
use Rattle.pv_protocol.specs.Lines.{Line}
use Rattle.pv_protocol.specs.Run.{run, world_after}
use Rattle.pv_protocol.specs.State.{Entry, Placed, Setup, Running, Site}
use Rattle.pv_protocol.specs.WellFormed.{IsWellFormed}
use Rattle.pv_protocol.specs.World.{World, first_site, opening, site_at}
use Rattle.pv_protocol.specs.WorldStep.{Transition}
use Rattle.pv_site.specs.SiteState.{setup_of}
use Rattle.pv_host.specs.HostFile.{IsFile}
use Rattle.pv_host.specs.HostLog.{contents_of}
use Rattle.pv_embed.specs.Held.{Held, Out}
use Rattle.pv_embed.specs.Hosted.{HostedState, stored_length}
use Rattle.pv_law_hosted.specs.Asked.{Asked, asked_as}
use Rattle.pv_law_hosted.specs.Deployment.{Deployment, station_at}
use Rattle.pv_law_hosted.specs.DeploymentEvents.{Stands}
use Rattle.pv_law_hosted.specs.Given.{Content, Given, MayAllBeGiven, WaitsForRecord, held_for, with_all}
use Rattle.pv_law_hosted.specs.Made.{Made, IsWithin, made_as, made_by}

-- the world after the run of these events
abbrev pub world_of : Setup → List Event → World
world_of setup events = world_after (opening setup) (run setup (opening setup) events)

-- the world's site with these records and this memory: no fault is armed, and its log was never written anew
abbrev pub plain_site : List Record → Option Running → Site
plain_site records running = record { records = records; standing = first_standing; arm = None; running = running }

-- How the world's site stands for what is in a station's file. Before the first opening is written it is a site that was started once, since the world begins so,
-- and nothing has happened in it.
pub data IsSeenAs : Content → Site → Type 0 where
  same : (records : List Record) (running : Option Running) → IsSeenAs (record { records = records; running = running }) (plain_site records running)
  unborn : IsSeenAs (record { records = []; running = None }) first_site

-- The world's site has made all that the host has told to be in the file, and what comes after it waits: for a record that isn't said to be there. What was made and
-- not let out is of those steps that are in the file, and then of those that wait; and of none that are in the file, where the process's own opening waits.
pub record FollowsHosted (setup : Setup) (d : Deployment) (n : ℕ) (asked : List Asked) (file : List ℕ) (hosted : HostedState) (content : Content) (rest : List Out) : Type 0 where
  pub is_file : IsFile hosted.site.log file
  pub stands : Stands hosted
  pub me : hosted.site.me ≡ n
  pub catalog : setup_of hosted.site.catalog ≡ setup
  pub surplus : hosted.site.surplus ≡ 0
  pub stored : AreWritten content.records hosted.site.log.stored
  pub whole : AreWritten hosted.site.records (contents_of hosted.site.log)
  pub waiting : List Given
  pub allowed : MayAllBeGiven setup n d asked content waiting
  pub first : WaitsForRecord setup n content waiting
  pub come : with_all setup n content waiting ≡ record { records = hosted.site.records; running = hosted.site.running }
  pub ready : List Held
  pub held : hosted.held ≡ ready ++ held_for setup n content waiting
  pub in_file : All (λ (one : Held). one.length ≤ stored_length hosted) ready
  pub rest_is : rest ≡ map (λ (one : Held). one.out) ready
  pub unopened : content.running ≡ None → ready ≡ []

-- The process is gone. The file has the records, the site is down, and nothing more is let out.
pub record FollowsGone (file : List ℕ) (content : Content) (rest : List Out) : Type 0 where
  pub contents : Contents
  pub journal : IsJournal contents file
  pub spelled : AreWritten content.records contents
  pub down : content.running ≡ None
  pub silent : rest ≡ []

abbrev pub FollowsProcess : Setup → Deployment → ℕ → List Asked → List ℕ → Option HostedState → Content → List Out → Type 0
FollowsProcess setup d n asked file None content rest = FollowsGone file content rest
FollowsProcess setup d n asked file (Some hosted) content rest = FollowsHosted setup d n asked file hosted content rest

-- The world's site stands for the station of this number. What the station has let out, and what it is ready to let out, is within what the site made in the run.
pub record Follows (setup : Setup) (d : Deployment) (n : ℕ) (site : Site) (made : List Made) : Type 0 where
  pub content : Content
  pub seen : IsSeenAs content site
  pub rest : List Out
  pub within : IsWithin n (map (made_as n) ((station_at d n).let_out ++ rest)) made
  pub process : FollowsProcess setup d n (station_at d n).asked (station_at d n).file (station_at d n).hosted content rest

-- What a request begins in the transition was asked for of a process of that site, and was last of what got this number.
abbrev pub IsAskedIn : Deployment → Transition → Type 0
IsAskedIn d transition =
    (n : ℕ) (query : Bool) (text : List ℕ) (program : Program) (txn : TxnId) → transition.event ≡ submit n query text program
    → Contains transition.lines (Line.txn txn) → asked_as (station_at d n).asked txn ≡ Some program

-- One of these transitions begins the transaction by a request for this program, at its own site, which is this one.
pub record IsBegunIn (transitions : List Transition) (n : ℕ) (txn : TxnId) (program : Program) : Type 0 where
  pub home : home_of txn ≡ n
  pub transition : Transition
  pub there : Contains transitions transition
  pub query : Bool
  pub text : List ℕ
  pub event : transition.event ≡ submit n query text program
  pub printed : Contains transition.lines (Line.txn txn)

abbrev pub WorksAsBegun : List Transition → ℕ → Entry → Type 0
WorksAsBegun transitions n entry = IsBegunIn transitions n entry.txn entry.program

abbrev pub IsPlacedAsBegun : List Transition → Placed → Type 0
IsPlacedAsBegun transitions placed = IsBegunIn transitions (home_of placed.txn) placed.txn placed.program

-- All that the sites of the world work on, and all of its order, began so.
pub record RunsAsBegun (sites : ℕ) (transitions : List Transition) (world : World) : Type 0 where
  pub works : (n : ℕ) (running : Running) → n < sites → (site_at world n).running ≡ Some running → All (WorksAsBegun transitions n) running.entries
  pub order : All (IsPlacedAsBegun transitions) world.order

-- The run of these events mirrors the deployment.
pub record IsMirrored (setup : Setup) (d : Deployment) (events : List Event) : Type 0 where
  pub well : All (IsWellFormed setup.catalog) events
  pub stations : length d ≡ setup.catalog.sites
  pub sites : length (world_of setup events).sites ≡ setup.catalog.sites
  pub asked : All (IsAskedIn d) (run setup (opening setup) events)
  pub programs : RunsAsBegun setup.catalog.sites (run setup (opening setup) events) (world_of setup events)
  pub each : (n : ℕ) → n < setup.catalog.sites → Follows setup d n (site_at (world_of setup events) n) (made_by setup n events)
