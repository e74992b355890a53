-- The first of what is held is the first step's.
use Rattle.std.proofs.Common.{◌≡◌, Some, subst, rules}
use Rattle.std.specs.Option.{option_map}
use Rattle.std.specs.Prelude.{slice_get}
use Rattle.pv_embed.proofs.MadeLemmas.{held_first}
use Rattle.pv_embed.proofs.hosted.HostedSite.waits_for.Goals as goal
use Rattle.pv_embed.specs.Held.{Held}
use Rattle.pv_embed.specs.Hosted.{HostedState}

pub returns : goal.returns
returns c =
    subst (λ (hosted : HostedState). Some c.in_ok-front.field-0.now.length ≡ option_map (λ (held : Held). held.length) (slice_get hosted.held 0)) c.self.view_is
    (held_first c.self.inside.me.0 c.self.inside.made.items c.in_ok-front.field-0.now (search rules) (search rules) c.self.invariant.some)
