-- What is in range can be read anew.
use Rattle.std.proofs.Common.{ℕ, List}
use Rattle.std.specs.Prelude.{All}
use Rattle.std.proofs.lemmas.List.Elements.{All-weaker}
use Rattle.pv_format.specs.Range.{IsRecordWithin}
use Rattle.pv_format.specs.Record.{Record}
use Rattle.pv_format.specs.RecordSpelling.{SpellsRecord}
use Rattle.pv_law_events.specs.Replays.{AreReplayable}
use Rattle.pv_law_format.proofs.RangeLemmas.{record-spelled}
use Rattle.pv_law_step.proofs.WiderLemmas.{record-wider}
use Rattle.pv_law_world.specs.Ranges.{IsSiteInRange, IsWorldInRange}
use Rattle.pv_protocol.specs.Sound.{IsSetupInRange}
use Rattle.pv_protocol.specs.State.{Setup}
use Rattle.pv_protocol.specs.World.{World, site_at}

module _ (setup : Setup) (fine : IsSetupInRange setup) where
  replayable : (world : World) → IsWorldInRange setup world → AreReplayable setup world
  replayable world is n below =
      let site : IsSiteInRange setup n (site_at world n) = is.sites n below in
      record {
        spelled = All-weaker (IsRecordWithin setup.catalog.sites) (λ (kept : Record). (bytes : List ℕ) × SpellsRecord kept bytes)
            (λ kept within. record-spelled kept (record-wider setup.catalog.sites fine.sites kept within)) (site_at world n).records site.records;
        room = site.room;
        narrow = site.narrow;
      }

  pub all-replayable : (worlds : List World) → All (IsWorldInRange setup) worlds → All (AreReplayable setup) worlds
  all-replayable worlds all = All-weaker (IsWorldInRange setup) (AreReplayable setup) replayable worlds all
