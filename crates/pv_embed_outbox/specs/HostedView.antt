-- What the fields of an outbox with a host say.
use Rattle.std.specs.Prelude.{◌≡◌, ◌≤◌, false, All}
use Rattle.pv_host.specs.HostLaws.{host_model}
use Rattle.pv_outbox.specs.OutboxState.{IsUsable}
use Rattle.pv_embed_outbox.specs.Hosted.{HostedState, log_length}
use Rattle.pv_embed_outbox.specs.declared.hosted.HostedOutbox.TheInside.{Inside}
use Rattle.pv_embed_outbox.specs.declared.release.Release.{Release}

abbrev pub hosted_of : Inside → HostedState
hosted_of inside = record { outbox = inside.outbox; released = inside.released.items }

-- The outbox isn't down, and the log was no longer at any release than it is now.
pub record IsHosted (inside : Inside) : Type 0 where
  pub up : inside.outbox.is_down ≡ false
  pub usable : IsUsable host_model inside.outbox
  pub no_longer : All (λ (release : Release). release.length ≤ log_length (hosted_of inside)) inside.released.items
