-- What a site with a host is, and what its steps make of it.
use Rattle.std.specs.Prelude.{◌≡◌, ℕ, List, ◌++◌, length, Option, Some, Result, Ok, Err, map, All}
use Rattle.pv_disk_model.specs.Size.{size_of}
use Rattle.pv_protocol.specs.State as model
use Rattle.pv_protocol.specs.Step.{step_on}
use Rattle.pv_site.specs.Inputs.{IsSpelledFrom}
use Rattle.pv_site.specs.SiteState.{SiteState, here_with}
use Rattle.pv_site.specs.Steps.{Steps}
use Rattle.pv_site.specs.declared.input.Step.{Step}
use Rattle.pv_host.specs.HostLaws.{host_model}
use Rattle.pv_host.specs.HostLog.{HostState, IsSameBesideRoom, contents_of, with_asked, with_written}
use Rattle.pv_embed.specs.Held.{Held}
use Rattle.pv_embed.specs.Outputs.{TakesFrom, outs}
use Rattle.pv_embed.specs.declared.made.Output.{Output}

-- A site with a host: the site over its log, and what it is to let out, the oldest first.
pub record HostedState : Type 0 where
  pub site : SiteState HostState
  pub held : List Held

-- how long the log is, and how much of it is in the host's file
abbrev pub log_length : HostedState → ℕ
log_length hosted = size_of (contents_of hosted.site.log)

abbrev pub stored_length : HostedState → ℕ
stored_length hosted = size_of hosted.site.log.stored

-- how many records are in the host's file, by what the host has told: the first of those that the site's log has
abbrev pub stored_records : HostedState → ℕ
stored_records hosted = length hosted.site.log.stored

-- What the step makes is held until the log of now is in the file.
abbrev pub held_after : HostedState → List Held → model.Step → List Held
held_after new held step = held ++ map (λ out. record { length = log_length new; out = out }) (outs new.site.me step.sends step.notes)

-- The site is as it was, but for the room in its log.
abbrev pub Stays : HostedState → HostedState → Type 0
Stays old new = IsSameBesideRoom old.site.log new.site.log × (new ≡ record old { site = record old.site { log = new.site.log } })

-- The site made the step that it makes of this input, and holds what the step sends and reports. Each message that it sends has a spelling.
pub record HasStepped (old new : HostedState) (input : model.Input) : Type 0 where
  pub running : model.Running
  pub was : old.site.running ≡ Some running
  pub answer : Step
  pub steps : Steps host_model old.site new.site (Some running) input (Ok answer)
  pub spelled : All (IsSpelledFrom old.site.me) answer.sends.items
  pub held : new.held ≡ held_after new old.held (step_on (here_with old.site running) input)

-- The site is given an input, by the answer.
abbrev pub Gives : {X E : Type 0} → HostedState → HostedState → model.Input → Result X E → Type 0
Gives old new input (Ok _) = HasStepped old new input
Gives old new input (Err _) = Stays old new

-- The host is asked to write a group of what waits, as far as it has so much room.
pub record AsksForGroup (room : ℕ) (old new : HostedState) : Type 0 where
  pub log : new.site.log ≡ with_asked room old.site.log
  pub same : new ≡ record old { site = record old.site { log = new.site.log } }

-- The host has told that it has written what came next.
pub record Writes (old new : HostedState) : Type 0 where
  pub log : IsSameBesideRoom (with_written old.site.log) new.site.log
  pub same : new ≡ record old { site = record old.site { log = new.site.log } }

-- The next thing is let out, or nothing is.
abbrev pub TakesNext : HostedState → HostedState → Option Output → Type 0
TakesNext old new result = TakesFrom (stored_length old) old.held new.held result × (new ≡ record old { held = new.held })
