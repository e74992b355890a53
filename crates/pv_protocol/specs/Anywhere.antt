-- The run in which any write or sync may stop its site or fail, whatever is armed.
use Rattle.std.specs.Prelude.{◌≡◌, ℕ, ◌<◌, Bool, true, false, Some, None, List, [], ◌∷◌, map}
use Rattle.pv_format.specs.Checkpoint.{Standing, MayLeaveInAll}
use Rattle.pv_format.specs.Record.{Record}
use Rattle.pv_protocol.specs.Arms.{calls_of, completed, broken, broken_line}
use Rattle.pv_protocol.specs.Attempt.{Attempt, Begun, at_once, attempts, begun}
use Rattle.pv_protocol.specs.Lines.{Line}
use Rattle.pv_protocol.specs.State.{Setup, Site}
use Rattle.pv_protocol.specs.WellFormed.{IsWellFormed}
use Rattle.pv_protocol.specs.World.{World, site_at}
use Rattle.pv_protocol.specs.WorldStep.{Transition}

-- How the log may stand where a write or sync stops the site or fails: as before, or, where it is packed, with the other gate not 1 or as after a checkpoint that is done.
abbrev pub MayStand : Bool → Standing → Standing → Type 0
MayStand false was left = left ≡ was
MayStand true was left = MayLeaveInAll was left

-- An attempt may end so: all of it is written; or, where it makes writes or syncs, the site stops in one of them or one of them
-- fails, its record, if it appends one, is there or isn't, and its log may stand so.
pub data MayEnd (world : World) (n : ℕ) (attempt : Attempt) : List Line → World → Type 0 where
  whole : MayEnd world n attempt attempt.lines (completed world n attempt None)
  without : (stops : Bool) → 0 < calls_of attempt → (left : Standing) → MayStand attempt.packs (site_at world n).standing left
      → MayEnd world n attempt (broken_line n stops ∷ []) (broken world n None left)
  with_record : (stops : Bool) (appended : Record) → attempt.appended ≡ Some appended → (left : Standing) → MayStand attempt.packs (site_at world n).standing left
      → MayEnd world n attempt (broken_line n stops ∷ []) (broken world n (Some appended) left)

-- What an event has begun may come to these lines and this world.
pub data MayCome : Begun → List Line → World → Type 0 where
  without_attempt : (lines : List Line) (world : World) → MayCome (at_once lines world) lines world
  by_attempt : (world after : World) (n : ℕ) (attempt : Attempt) (lines : List Line) → MayEnd world n attempt lines after
      → MayCome (attempts world n attempt) lines after

-- the site without an armed fault
abbrev pub disarmed_site : Site → Site
disarmed_site site = record site { arm = None }

-- the world without armed faults
abbrev pub disarmed : World → World
disarmed world = record world { sites = map disarmed_site world.sites }

-- The transition is one that its event may have in this world: the event is well formed, and what it has begun may come to the
-- transition's lines and world. What it arms is forgotten.
pub record MayFollow (setup : Setup) (world : World) (transition : Transition) : Type 0 where
  pub well : IsWellFormed setup.catalog transition.event
  pub left : World
  pub comes : MayCome (begun setup world transition.event) transition.lines left
  pub after : transition.world ≡ disarmed left

-- Transitions that may follow one another from this world on, with a stop or a fault in any write or sync. The deliveries of a
-- pump are transitions of their own; a `pump` by itself is a transition that does nothing.
pub data IsRunWithFaults (setup : Setup) : World → List Transition → Type 0 where
  ends : (world : World) → IsRunWithFaults setup world []
  goes_on : (world : World) (transition : Transition) (transitions : List Transition) → MayFollow setup world transition → IsRunWithFaults setup transition.world transitions
      → IsRunWithFaults setup world (transition ∷ transitions)

-- the transition without armed faults
abbrev pub without_arms : Transition → Transition
without_arms transition = record transition { world = disarmed transition.world }
