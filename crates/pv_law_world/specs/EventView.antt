-- How an event begins: the few kinds of events that the laws on worlds and runs go by.
use Rattle.std.specs.Prelude.{◌≡◌, ℕ, Bool, false, Option, Some, List, [], slice_get}
use Rattle.pv_base.specs.Catalog.{Declared}
use Rattle.pv_law_world.specs.Transitions.{site_of}
use Rattle.pv_model.specs.Events.{Event}
use Rattle.pv_protocol.specs.Attempt.{Begun, at_once, begun, given, delivered, lost, without_site, halted, opened, packed, with_arm}
use Rattle.pv_protocol.specs.Lines.{Line}
use Rattle.pv_protocol.specs.Report.{report_of, total_of, sent_lines}
use Rattle.pv_protocol.specs.State.{Setup, Arm, Input, submit, receive, tick}
use Rattle.pv_protocol.specs.Waiting.{is_tick_of}
use Rattle.pv_protocol.specs.WellFormed.{HasSite, IsWellFormed}
use Rattle.pv_protocol.specs.World.{World, site_at}

-- what an event prints that does nothing besides
pub data Printed : Type 0 where
  nothing : Printed
  messages : Printed
  reported : Printed
  summed : Printed

-- How an event begins, whatever the world.
pub data Beginning : Type 0 where
  -- a site is given this to do
  gives : (site : ℕ) (input : Input) → Beginning
  -- a message is done, and its receiver takes it
  delivers : (number : ℕ) → Beginning
  -- a message is done without being taken, or all messages to a site are
  loses : (number : ℕ) → Beginning
  drops : (site : ℕ) → Beginning
  -- a site stops between steps, or is started
  halts : (site : ℕ) → Beginning
  opens : (site : ℕ) → Beginning
  -- a site writes its log anew
  packs : (site : ℕ) → Beginning
  -- a site's disk is armed with this fault, or with none
  arms : (site : ℕ) (arm : Option Arm) → Beginning
  -- nothing is done
  prints : Printed → Beginning

-- the lines of an event that does nothing besides
abbrev pub lines_printed : Setup → World → Printed → List Line
lines_printed setup world Printed.nothing = []
lines_printed setup world Printed.messages = sent_lines world
lines_printed setup world Printed.reported = report_of setup world
lines_printed setup world Printed.summed = total_of setup world

-- what a beginning comes to in this world
abbrev pub begun_by : Setup → World → Beginning → Begun
begun_by setup world (Beginning.gives n input) = given setup world n input (site_at world n).running
begun_by setup world (Beginning.delivers number) = delivered setup world number (slice_get world.sent number)
begun_by setup world (Beginning.loses number) = lost world number (slice_get world.sent number)
begun_by setup world (Beginning.drops n) = at_once [] (record world { fresh = without_site n world.sent world.fresh })
begun_by setup world (Beginning.halts n) = halted world n (site_at world n).running
begun_by setup world (Beginning.opens n) = opened setup world n (site_at world n).running
begun_by setup world (Beginning.packs n) = packed world n (site_at world n).running
begun_by setup world (Beginning.arms n arm) = at_once [] (with_arm world n arm)
begun_by setup world (Beginning.prints printed) = at_once (lines_printed setup world printed) world

-- The event asks this of the site: a request, or a tick.
abbrev pub IsAsked : Event → ℕ → Input → Type 0
IsAsked event n (submit program) = (query : Bool) × ((text : List ℕ) × (event ≡ Event.submit n query text program))
IsAsked event n (receive from message) = ⊥
IsAsked event n tick = event ≡ Event.tick n

-- The event is a tick of no site.
abbrev pub IsTimeless : Event → Type 0
IsTimeless event = (n : ℕ) → is_tick_of n event ≡ false

-- The event is of this site, of one of the catalog where it is well formed, and no tick.
pub record IsOfSite (event : Event) (n : ℕ) : Type 0 where
  pub timeless : IsTimeless event
  pub of : (world : World) → site_of world event ≡ Some n
  pub within : (catalog : Declared) → IsWellFormed catalog event → HasSite catalog n

-- What holds of an event that begins so.
abbrev pub IsGuarded : Event → Beginning → Type 0
IsGuarded event (Beginning.gives n input) = IsAsked event n input
IsGuarded event (Beginning.delivers number) = event ≡ Event.deliver number
IsGuarded event (Beginning.opens n) = IsOfSite event n
IsGuarded event (Beginning.packs n) = IsOfSite event n
IsGuarded event other = IsTimeless event

-- The event begins so, in whatever world.
pub record Begins (event : Event) (beginning : Beginning) : Type 0 where
  pub same : (setup : Setup) (world : World) → begun setup world event ≡ begun_by setup world beginning
  pub guard : IsGuarded event beginning
