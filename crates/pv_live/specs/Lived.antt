-- What a live run of a script comes to: what is written of it, and what is handed back to the bay.
use Rattle.std.specs.Prelude.{◌≡◌, ◌≢◌, ℕ, ◌<◌, ◌≤◌, true, Vec, List, [], All, Contains, length, get_or}
use Rattle.std.specs.declared.alloc.Global.{Global}
use Rattle.pv_base.specs.Fault.{Rose}
use Rattle.pv_cell.specs.Box.{course_site}
use Rattle.pv_cell.specs.Together.{histories_of}
use Rattle.pv_cell.specs.declared.site_box.SiteBox.{SiteBox}
use Rattle.pv_ckpt.specs.CkptModel.{ckpt_model}
use Rattle.pv_ckpt.specs.declared.ckpt_log.CkptLog.{CkptLog}
use Rattle.pv_closing.specs.Boxes.{IsClosedBox}
use Rattle.pv_closing.specs.Clients.{AreServed}
use Rattle.pv_cluster.specs.Endings.{AllPassInOrder, AskedForAll, KeptItsLog, NobodyElseAsked}
use Rattle.pv_disk.specs.BayModel.{BayModel}
use Rattle.pv_disk_model.specs.DiskModel.{DiskModel}
use Rattle.pv_disk_model.specs.Size.{Contents}
use Rattle.pv_format.specs.Contents.{SpellRecords}
use Rattle.pv_format.specs.Record.{Record}
use Rattle.pv_launch.specs.Disks.{disk_of}
use Rattle.pv_launch.specs.Launching.{IsBack, IsLaunched}
use Rattle.pv_law_checkpoints.specs.TwoAreas.{IsTwoAreas}
use Rattle.pv_law_histories.specs.Fitting.{CanAllBeDone, FitTogether, history_of}
use Rattle.pv_law_histories.specs.History.{Stamped, fault}
use Rattle.pv_law_histories.specs.Merge.{Moment, IsMerge, events_of_merge, lines_of_merge}
use Rattle.pv_model.specs.Events.{Event}
use Rattle.pv_model.specs.LiveScript.{LiveScript}
use Rattle.pv_opening.specs.Opened.{FailsBy, plan_in}
use Rattle.pv_protocol.specs.Run.{printed, run, world_after}
use Rattle.pv_protocol.specs.State.{Setup}
use Rattle.pv_protocol.specs.World.{World, opening, site_at}
use Rattle.pv_script.specs.LiveView.{live_script_of}
use Rattle.pv_script.specs.declared.live.LiveScript as read
use Rattle.pv_show.specs.Bays.{IsAtRest}
use Rattle.pv_site.specs.SiteState.{SiteState, setup_of}
use Rattle.pv_told.specs.declared.line.ClientLine.{ClientLine}
use Rattle.pv_transcript.specs.Transcript.{transcript}
use Rattle.pv_live.specs.Told.{heard_of}

-- the world in which a run of these events ends
abbrev pub world_of : Setup → List Event → World
world_of setup events = world_after (opening setup) (run setup (opening setup) events)

-- The bytes are a log in two areas that has these records.
abbrev pub IsLogOf : List Record → List ℕ → Type 0
IsLogOf records bytes = (contents : Contents) × IsTwoAreas contents bytes × SpellRecords records contents

-- A step of the site met a fault.
abbrev pub HasMetFault : List Stamped → Type 0
HasMetFault history = (entry : Stamped) × Contains history entry × (entry.came ≡ fault)

-- The histories of all sites are one run, whose events and lines are those of their merge.
pub record IsRunOf (setup : Setup) (histories : List (List Stamped)) (moments : List Moment) : Type 0 where
  pub fit : FitTogether setup histories
  pub done : CanAllBeDone setup.catalog histories
  pub merged : IsMerge histories moments
  pub prints : printed setup (events_of_merge moments) ≡ lines_of_merge moments

module _ {B V : Type 0} (M : BayModel B) (D : DiskModel V) (script : LiveScript) (old new : B) where
  -- The site of this number was launched on the disk that was handed out for it, and ran in the box. It is up at the end, or its disk has failed; and the disk is handed
  -- back.
  pub record IsServedBy (n : ℕ) (box : SiteBox (CkptLog V)) : Type 0 where
    pub site : SiteState (CkptLog V)
    pub launched : IsLaunched M D script.catalog old n site
    pub closed : IsClosedBox (ckpt_model D) script.catalog n box
    pub kept : KeptItsLog (ckpt_model D) site box.site
    pub back : IsBack M D old new n (disk_of box.site)

  -- Of others than the sites' disks, and of the bay's own count, nothing is changed.
  pub record IsElseUnchanged : Type 0 where
    pub beyond : (n : ℕ) → script.catalog.sites ≤ n → M.berth new n ≡ M.berth old n
    pub faults : M.faults new ≡ M.faults old
    pub tells : M.tells new ≡ M.tells old

  -- Where no disk was out, nothing is changed of a site of whose disk the bay tells that it isn't empty.
  abbrev pub KeepsFullDisks : Type 0
  KeepsFullDisks =
      IsAtRest M old → M.tells old ≡ true → (n : ℕ) → n < script.catalog.sites → (M.berth old n).holds ≢ [] → M.berth new n ≡ M.berth old n

  -- What is handed back, by the histories and by the world in which their run ends. Where the bay tells what its disks hold, the disk of a site whose steps met no fault
  -- has the records that the run leaves the site. The steps of a site met a fault only where the bay's count of it rose.
  pub record AreLeftBy (histories : List (List Stamped)) (last : World) : Type 0 where
    pub holds : M.tells old ≡ true → (n : ℕ) → n < script.catalog.sites → (HasMetFault (history_of histories n) → ⊥) → IsLogOf (site_at last n).records (M.berth new n).holds
    pub faults : (n : ℕ) → n < script.catalog.sites → HasMetFault (history_of histories n) → Rose (M.berth old n).faults (M.berth new n).faults

  -- A run of the script by sites in boxes.
  pub record HasRun (boxes : List (SiteBox (CkptLog V))) (moments : List Moment) : Type 0 where
    pub count : length boxes ≡ script.catalog.sites
    pub served : (n : ℕ) (any : SiteBox (CkptLog V)) → n < length boxes → IsServedBy n (get_or boxes n any)
    pub unchanged : IsElseUnchanged
    pub is_run : IsRunOf (setup_of script.catalog) (histories_of boxes) moments
    -- Each box stands where that run leaves its site.
    pub stands : (n : ℕ) (any : SiteBox (CkptLog V)) → n < length boxes →
        course_site (get_or boxes n any).site ≡ site_at (world_of (setup_of script.catalog) (events_of_merge moments)) n
    pub left : AreLeftBy (histories_of boxes) (world_of (setup_of script.catalog) (events_of_merge moments))

  -- A live run of the script, and the text that is written of it: the merge of what its boxes took in, what its clients heard by these, and what the merge prints.
  pub record Lives (text : List ℕ) : Type 0 where
    pub boxes : List (SiteBox (CkptLog V))
    pub moments : List Moment
    pub has_run : HasRun boxes moments
    -- The clients of the script, as they were read. Each has one line for each request.
    pub clients : read.LiveScript
    pub read_so : script ≡ live_script_of clients
    pub told : List (Vec ClientLine Global)
    pub served : AreServed boxes clients.clients.items told
    -- They asked for all that the script says, unless the box of their site is worn, and nobody else asked.
    pub asked : AskedForAll clients.clients.items boxes
    pub nobody : NobodyElseAsked clients.clients.items boxes
    -- Messages passed in order, each as often as the script's plan says, less what was lost.
    pub passed : AllPassInOrder script.catalog boxes
    pub plans : All (FailsBy (plan_in clients)) boxes
    pub text_is : text ≡ transcript script.catalog (setup_of script.catalog) (events_of_merge moments) (heard_of clients.clients.items told)
