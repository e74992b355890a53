-- What the fields of a world with a host say.
use Rattle.std.specs.Prelude.{◌≡◌, ◌≤◌, IfSome, length}
use Rattle.pv_base.specs.declared.limits.TheConstants.{MAX_INPUT, MAX_SENT}
use Rattle.pv_world.specs.Stands.{StandsForSome}
use Rattle.pv_world.specs.declared.world.World.{World}
use Rattle.pv_embed_world.specs.World.{Hosted}
use Rattle.pv_embed_world.specs.declared.hosted_world.HostedWorld.TheInside.{Inside}

abbrev pub hosted_of : Inside → Hosted
hosted_of inside = record { text = inside.declared.text; catalog = inside.declared.catalog; world = inside.world; kept = inside.kept }

-- The world is one that a run has reached, over this catalog and with the limit of runs on the bytes of messages.
pub record IsOver (inside : Inside) (world : World) : Type 0 where
  pub stands : StandsForSome world
  pub catalog : world.catalog ≡ inside.declared.catalog
  pub limit : world.mail.limit ≡ MAX_SENT

-- The text is no longer than an input, and the world takes steps, unless there is none.
pub record IsHosted (inside : Inside) : Type 0 where
  pub short : length inside.declared.text ≤ MAX_INPUT
  pub world : IfSome inside.world (IsOver inside)
