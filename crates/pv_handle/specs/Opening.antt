-- An opening on the bytes that a file begins with.
use Rattle.std.specs.Prelude.{Bool, true, false, Result, Err}
use Rattle.pv_embed.specs.Hosted.{HostedState}
use Rattle.pv_embed.specs.declared.fault.OpenFault.{OpenFault}
use Rattle.pv_embed.specs.declared.fault.OpenFault.TheVariants.{NotOurs}

-- whether it is refused because the bytes are no journal
abbrev pub is_not_ours : Result HostedState OpenFault → Bool
is_not_ours (Err (NotOurs place)) = true
is_not_ours other = false
