-- What a site with a host goes through between a step and later calls, and what of the step was let out meanwhile.
use Rattle.std.specs.Prelude.{◌≡◌, ℕ, List, ◌∷◌, Option, Some, drop, length}
use Rattle.std.specs.List.{Contains}
use Rattle.pv_protocol.specs.State as model
use Rattle.pv_embed.specs.Held.{Held}
use Rattle.pv_embed.specs.Hosted.{AsksForGroup, HasStepped, HostedState, Stays, TakesNext, Writes}
use Rattle.pv_embed.specs.declared.made.Output.{Output}

-- What a call makes of the site: a step, or room for one; or the host is asked to write, has told of a write, or has asked for what is let out.
pub data Goes (old new : HostedState) : Type 0 where
  steps : (input : model.Input) → HasStepped old new input → Goes old new
  stays : Stays old new → Goes old new
  asks : (room : ℕ) → AsksForGroup room old new → Goes old new
  writes : Writes old new → Goes old new
  takes : (result : Option Output) → TakesNext old new result → Goes old new

-- Some calls were made, one after another.
pub data GoesOn (old : HostedState) : HostedState → Type 0 where
  none : GoesOn old old
  one_more : (mid new : HostedState) → GoesOn old mid → Goes mid new → GoesOn old new

-- A step left the site as `made`. Something that it made was the next to be let out after some calls, and was let out; and after some more calls the site is as `now`.
pub record WasLetOut (made : HostedState) (output : Output) (now : HostedState) : Type 0 where
  pub before : HostedState
  pub input : model.Input
  pub stepped : HasStepped before made input
  pub held : Held
  pub is_new : Contains (drop (length before.held) made.held) held
  pub at : HostedState
  pub waited : GoesOn made at
  pub later : List Held
  pub next : at.held ≡ held ∷ later
  pub after : HostedState
  pub taken : TakesNext at after (Some output)
  pub since : GoesOn after now
