-- Every world of a run is in range, wherever its sites stop.
use Rattle.std.proofs.Common.{ℕ, ◌<◌, None, Option, List, [], ◌∷◌, ◌++◌, length, refl, sym, ap, ◌∙◌, subst}
use Rattle.std.specs.Prelude.{option_to_list, All}
use Rattle.std.proofs.lemmas.List.{append-nil, length-map}
use Rattle.std.proofs.lemmas.List.Elements.{All-cons, All-nil}
use Rattle.pv_format.specs.Range.{IsEnvelopeWithin}
use Rattle.pv_format.specs.Record.{Record, epoch_begun}
use Rattle.pv_law_world.proofs.DisarmLemmas.{site-disarmed}
use Rattle.pv_law_world.proofs.RangeLemmas.{SendsInRange, StaysSound, StartsSound, IsAttemptInRange, IsBegunInRange, settles, goes_on, down-in-range, put-world, attempted-range, begun-range}
use Rattle.pv_law_world.proofs.RunRangeLemmas.{opening-fine}
use Rattle.pv_law_world.specs.Ranges.{IsSiteInRange, IsWorldInRange}
use Rattle.pv_protocol.specs.Anywhere as anywhere
use Rattle.pv_protocol.specs.Anywhere.{MayEnd, MayCome, MayFollow, IsRunWithFaults, disarmed_site, disarmed}
use Rattle.pv_protocol.specs.Arms.{waits}
use Rattle.pv_protocol.specs.Attempt.{Attempt, Begun, begun}
use Rattle.pv_protocol.specs.Lines.{Line}
use Rattle.pv_protocol.specs.Run.{worlds_of}
use Rattle.pv_protocol.specs.Sound.{IsSetupInRange}
use Rattle.pv_protocol.specs.State.{Setup}
use Rattle.pv_protocol.specs.Width.{IsNarrow}
use Rattle.pv_protocol.specs.World.{World, site_at, from_site, opening}
use Rattle.pv_protocol.specs.WorldStep.{Transition}

module _ (setup : Setup) where
  disarmed-fine : (world : World) → IsWorldInRange setup world → IsWorldInRange setup (disarmed world)
  disarmed-fine world fine = record {
    count = length-map world.sites disarmed_site ∙ fine.count;
    sites = λ n below.
        let site : IsSiteInRange setup n (site_at world n) = fine.sites n below in
        subst (IsSiteInRange setup n) (sym (site-disarmed world n))
        (record { records = site.records; narrow = site.narrow; room = site.room; running = site.running });
    sent = fine.sent;
  }

  module _ (before : World) (n : ℕ) (attempt : Attempt) (fine : IsWorldInRange setup before)
      (may : n < length before.sites → IsSiteInRange setup n (site_at before n) → IsAttemptInRange setup (site_at before n) n attempt)
      (sends : All (IsEnvelopeWithin setup.catalog.sites) (from_site n attempt.sends)) where
    end-fine : (lines : List Line) (after : World) → MayEnd before n attempt lines after → IsWorldInRange setup after
    end-fine lines after anywhere.whole = attempted-range setup before n attempt fine may sends (waits None)
    end-fine lines after (anywhere.without stops some standing stands) = put-world setup before n _ fine (λ within site. down-in-range site _ (append-nil _) refl)
    end-fine lines after (anywhere.with_record stops appended is standing stands) =
        put-world setup before n _ fine
        (λ within site.
        down-in-range
        ((may within site).whole (record { records = (site_at before n).records ++ option_to_list attempt.appended; standing = standing; arm = None; running = attempt.running }) refl refl)
        _ (ap (λ (left : Option Record). (site_at before n).records ++ option_to_list left) (sym is)) refl)

  come-fine : (b : Begun) (lines : List Line) (after : World) → IsBegunInRange setup b → MayCome b lines after → IsWorldInRange setup after
  come-fine b lines after (settles reported world fine) (anywhere.without_attempt reported' world') = fine
  come-fine b lines after (goes_on before n attempt fine may sends) (anywhere.by_attempt before' after' n' attempt' lines' ends) =
      end-fine before n attempt fine may sends lines after ends

module _ (sends_stay : SendsInRange) (sound_stays : StaysSound) (starts_sound : StartsSound) (setup : Setup) (setup_fine : IsSetupInRange setup) where
  follow-fine : (world : World) (transition : Transition) → IsWorldInRange setup world → MayFollow setup world transition
      → IsWorldInRange setup transition.world
  follow-fine world transition fine follows =
      subst (IsWorldInRange setup) (sym follows.after)
      (disarmed-fine setup follows.left
      (come-fine setup (begun setup world transition.event) transition.lines follows.left
      (begun-range sends_stay sound_stays starts_sound setup setup_fine world fine transition.event follows.well) follows.comes))

  any-worlds : (world : World) (transitions : List Transition) → IsWorldInRange setup world → IsRunWithFaults setup world transitions
      → All (IsWorldInRange setup) (worlds_of world transitions)
  any-worlds world transitions fine (anywhere.ends world') = All-cons (IsWorldInRange setup) world [] fine (All-nil (IsWorldInRange setup))
  any-worlds world transitions fine (anywhere.goes_on world' transition rest follows run) =
      All-cons (IsWorldInRange setup) world (worlds_of transition.world rest) fine
      (any-worlds transition.world rest (follow-fine world transition fine follows) run)

  pub any-run-range : ((n : ℕ) → IsNarrow setup.held_names setup.catalog n (epoch_begun 1 ∷ []))
      → (transitions : List Transition) → IsRunWithFaults setup (opening setup) transitions
      → All (IsWorldInRange setup) (worlds_of (opening setup) transitions)
  any-run-range narrow transitions run =
      any-worlds (opening setup) transitions (opening-fine sends_stay sound_stays starts_sound setup setup_fine narrow) run
