use Rattle.std.specs.Prelude.{◌<◌}
use Rattle.std.proofs.lemmas.List.Elements.{All-weaker}
use Rattle.pv_format.specs.Message.{Envelope}
use Rattle.pv_format.specs.Range.{IsEnvelopeWithin}
use Rattle.pv_law_world.proofs.ranges.receivers_are_sites.Goals as goal

pub returns : goal.returns
returns c setup world fine =
    All-weaker (IsEnvelopeWithin setup.catalog.sites) (λ (envelope : Envelope). (envelope.from < setup.catalog.sites) × (envelope.to < setup.catalog.sites))
    (λ envelope is. (is.from, is.to)) world.sent fine.sent
