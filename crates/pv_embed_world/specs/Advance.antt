-- What the event of a step makes of the world in memory and of the text that is kept.
use Rattle.std.specs.Prelude.{◌≡◌, ℕ, Some, Result, Ok, Err, List, ◌++◌}
use Rattle.pv_model.specs.Events.{Event}
use Rattle.pv_protocol.specs.Limit.{over_limit}
use Rattle.pv_protocol.specs.Run.{lines_of_transitions, transitions_of, world_after}
use Rattle.pv_protocol.specs.World as model
use Rattle.pv_site.specs.SiteState.{setup_of}
use Rattle.pv_world.specs.Stands.{StandsFor}
use Rattle.pv_world.specs.Steps.{IsSameBeside}
use Rattle.pv_world.specs.declared.world.World.{World}
use Rattle.pv_run.specs.Forms.{lines_in}
use Rattle.pv_run.specs.declared.form.Form.TheVariants.{Text}
use Rattle.pv_embed_world.specs.declared.fault.WorldFault.{WorldFault}
use Rattle.pv_embed_world.specs.declared.fault.WorldFault.TheVariants.{SentLimit, BrokenOff}

module _ (old new : World) (before after : List ℕ) (event : Event) (is : model.World) where
  -- The world has made the step of the event, and the text of its lines is kept behind what was.
  pub record HasAdvanced : Type 0 where
    pub stands : StandsFor new (world_after is (transitions_of (setup_of old.catalog) is event))
    pub same : IsSameBeside old new
    pub kept : after ≡ before ++ lines_in Text old.catalog (lines_of_transitions (transitions_of (setup_of old.catalog) is event))

  -- By the answer: where it hasn't, the text is as it was.
  abbrev pub Advances : {X : Type 0} → Result X WorldFault → Type 0
  Advances (Ok _) = HasAdvanced
  Advances (Err (SentLimit total)) = (over_limit old.mail.limit (world_after is (transitions_of (setup_of old.catalog) is event)) ≡ Some total) × (after ≡ before)
  Advances (Err BrokenOff) = after ≡ before
  Advances (Err other) = ⊥
