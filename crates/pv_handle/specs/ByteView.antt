-- What the fields of a site in bytes say.
use Rattle.std.specs.Prelude.{◌≤◌, All, IfSome}
use Rattle.pv_embed.specs.Held.{Held}
use Rattle.pv_embed.specs.Hosted.{stored_length}
use Rattle.pv_handle.specs.ByteSite.{CanGive}
use Rattle.pv_handle.specs.ByteState.{ByteState}
use Rattle.pv_handle.specs.Waiting.{waits_before}
use Rattle.pv_handle.specs.declared.bytes.ByteSite.TheInside.{Inside}

-- a site with a host, which has yet to let out what waits
abbrev pub state_of : Inside → ByteState
state_of inside = record { hosted = record inside.site { held = waits_before inside.waiting inside.site.held }; taken = inside.taken; tags = inside.tags.items }

-- What waits may have been let out, and all that is to be let out has bytes.
pub record IsByteSite (inside : Inside) : Type 0 where
  pub stored : IfSome inside.waiting (λ waiting. waiting.length ≤ stored_length inside.site)
  pub given : All (λ (held : Held). CanGive inside.site.site.me inside.site.site.catalog held.out) (waits_before inside.waiting inside.site.held)
