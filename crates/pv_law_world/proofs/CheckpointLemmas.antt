-- What a checkpoint without a line makes of how its site's log stands.
use Rattle.std.proofs.Common.{◌≡◌, ℕ, ◌<◌, Some, None, Option, [], length, ap}
use Rattle.std.specs.Prelude.{nat_lt}
use Rattle.std.proofs.lemmas.List.{get_or-set_same}
use Rattle.pv_format.specs.Checkpoint.{done, greatest_number}
use Rattle.pv_law_step.proofs.StepCases.{if_case}
use Rattle.pv_model.specs.Events.{Event}
use Rattle.pv_protocol.specs.Arms.{Reached, waits, fires, reached, calls_of, attempted}
use Rattle.pv_protocol.specs.Attempt.{Begun, begun, packed, of_checkpoint}
use Rattle.pv_protocol.specs.State.{Setup, Running, Site}
use Rattle.pv_protocol.specs.World.{World, no_site, site_at}
use Rattle.pv_protocol.specs.WorldStep.{ended, transition_of}

module _ (world : World) (n : ℕ) (within : n < length world.sites) where
  -- Where no line is printed the log is packed.
  abbrev IsCounted : Begun → Type 0
  IsCounted now = (ended now).0 ≡ [] → (site_at (ended now).1 n).standing ≡ done (site_at world n).standing

  attempted-counted : (running : Running) (left : Reached) → let attempt = of_checkpoint (site_at world n).standing running in
      (attempted world n attempt left).0 ≡ [] → (site_at (attempted world n attempt left).1 n).standing ≡ done (site_at world n).standing
  attempted-counted running (waits arm) silent = ap (λ (site : Site). site.standing) (get_or-set_same world.sites n _ no_site within)
  attempted-counted running (fires arm) silent = let wrong : ⊥ = cc in absurd wrong

  packed-counted : (running : Option Running) → IsCounted (packed world n running)
  packed-counted None = λ silent. let wrong : ⊥ = cc in absurd wrong
  packed-counted (Some running) =
      if_case IsCounted (nat_lt (site_at world n).standing.number greatest_number)
      (λ left. attempted-counted running (reached (calls_of (of_checkpoint (site_at world n).standing running)) (site_at world n).arm))
      (λ spent silent. let wrong : ⊥ = cc in absurd wrong)

pub checkpoint-counted : (setup : Setup) (world : World) (n : ℕ) → n < length world.sites → (transition_of setup world (Event.checkpoint n)).lines ≡ []
    → (site_at (transition_of setup world (Event.checkpoint n)).world n).standing ≡ done (site_at world n).standing
unfolding transition_of begun
checkpoint-counted setup world n within silent = packed-counted world n within (site_at world n).running silent
