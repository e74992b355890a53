-- The first start of a site, on an empty journal.
use Rattle.std.proofs.Common.{◌≡◌, ℕ, ◌≤◌, Bool, true, false, List, [], ◌∷◌, Option, None, refl, sym, ap, subst, arith}
use Rattle.std.specs.Prelude.{if◌then◌else◌, nat_lt}
use Rattle.std.proofs.lemmas.Bool.Decides.{nat_tests}
use Rattle.std.proofs.lemmas.List.Elements.{All-cons, All-nil}
use Rattle.pv_base.specs.Catalog.{Declared}
use Rattle.pv_base.specs.declared.limits.TheConstants.{HELD_NAMES, MIN_JOURNAL}
use Rattle.pv_disk.specs.MemDisk.{MemState}
use Rattle.pv_format.specs.Checkpoint.{first_standing}
use Rattle.pv_format.specs.Record.{Record, epoch_begun}
use Rattle.pv_format.specs.RecordSpelling.{SpellsRecord}
use Rattle.pv_law_events.specs.Replays.{CanBeReplayed}
use Rattle.pv_law_format.proofs.RangeLemmas.{record-spelled}
use Rattle.pv_protocol.specs.Arms.{calls_of, reached, waits}
use Rattle.pv_protocol.specs.Attempt.{of_start}
use Rattle.pv_protocol.specs.Records.{journal_bytes}
use Rattle.pv_protocol.specs.Start.{Started, just_started, site_start, starts, too_long}
use Rattle.pv_protocol.specs.State.{Arm}
use Rattle.pv_protocol.specs.Width.{IsNarrow}
use Rattle.pv_protocol.specs.World.{first_site, no_site}
use Rattle.pv_site.specs.Recovered.{Remains}
use Rattle.pv_site.specs.SiteState.{setup_of}
use Rattle.pv_world.specs.Cells.{CanStart, HasBegun, IsBroken, IsDone, completed_site, site_after, start_attempt}
use Rattle.pv_world.specs.Disks.{Spells}
use Rattle.pv_world.specs.Stands.{IsDown, StandsForSite}
use Rattle.pv_world.specs.declared.cell.Cell.TheVariants.{Down}
use Rattle.pv_world.specs.declared.cell.Cell.{Cell}
use Rattle.pv_world.specs.declared.cell.Start.TheVariants as start
use Rattle.pv_world.specs.declared.cell.Start.{Start}

module _ (catalog : Declared) (least : MIN_JOURNAL ≤ catalog.journal) where
  first-start : site_start (setup_of catalog) 0 [] ≡ starts (just_started 1) (epoch_begun 1)
  unfolding site_start journal_bytes
  first-start = by (nat_lt catalog.journal 19) (grind (arith, nat_tests, least))
    where
      by : (full : Bool) → full ≡ false → (if full then too_long 19 else starts (just_started 1) (epoch_begun 1)) ≡ starts (just_started 1) (epoch_begun 1)
      by false is = refl
      by true is = absurd (let wrong : ⊥ = cc in wrong)

  -- Nothing is armed, so all is written: the site is up in its first epoch.
  all-done : (n : ℕ) (new : Cell) → IsDone catalog n new no_site (start_attempt catalog n no_site) → StandsForSite catalog n new first_site
  all-done n new done =
      let first = of_start n (starts (just_started 1) (epoch_begun 1)) in
      let now : IsDone catalog n new no_site first = subst (λ (started : Started). IsDone catalog n new no_site (of_start n started)) first-start done in
      let unarmed : waits None ≡ waits now.armed = now.waits in
      let none : None ≡ now.armed = cc in
      subst (λ (armed : Option Arm). StandsForSite catalog n new (completed_site no_site first armed)) (sym none) now.stands

  pub first-begun : (n : ℕ) (new : Cell) (answer : Start) → HasBegun catalog n new no_site answer → StandsForSite catalog n new first_site
  first-begun n new start.Up begun = absurd begun
  first-begun n new (start.Started epoch) begun = all-done n new begun.1
  first-begun n new (start.Full length) begun = all-done n new begun.1
  first-begun n new start.Spent begun = all-done n new begun.1
  first-begun n new (start.Broke stops) broken =
      let first = of_start n (starts (just_started 1) (epoch_begun 1)) in
      let now : IsBroken catalog n new no_site first stops = subst (λ (started : Started). IsBroken catalog n new no_site (of_start n started) stops) first-start broken in
      let fired = now.fires in
      absurd (let wrong : ⊥ = cc in wrong)

  -- Before it the site is down and has no records.
  pub stands-empty : (n : ℕ) (on : MemState) (left : Remains) → Spells [] first_standing None None on → left ≡ record { me = n; catalog = catalog; records = []; surplus = 0 }
      → IsDown catalog n on left no_site
  stands-empty n on left disk empty = record {
    me = ap (λ (now : Remains). now.me) empty;
    catalog = ap (λ (now : Remains). now.catalog) empty;
    records = ap (λ (now : Remains). now.records) empty;
    surplus = ap (λ (now : Remains). now.surplus) empty;
    down = refl;
    disk = disk;
  }

  module _ (n : ℕ) (narrow : IsNarrow HELD_NAMES catalog n []) (narrow_then : IsNarrow HELD_NAMES catalog n (epoch_begun 1 ∷ [])) where
    empty-replayable : CanBeReplayed (setup_of catalog) n []
    unfolding journal_bytes
    empty-replayable = record {
      spelled = All-nil (λ (kept : Record). (bytes : List ℕ) × SpellsRecord kept bytes);
      room = omega (arith, least);
      narrow = narrow;
    }

    first-replayable : CanBeReplayed (setup_of catalog) n (epoch_begun 1 ∷ [])
    unfolding journal_bytes
    first-replayable = record {
      spelled = All-cons (λ (kept : Record). (bytes : List ℕ) × SpellsRecord kept bytes) (epoch_begun 1) [] (record-spelled (epoch_begun 1) (omega arith, omega arith))
          (All-nil (λ (kept : Record). (bytes : List ℕ) × SpellsRecord kept bytes));
      room = omega (arith, least);
      narrow = narrow_then;
    }

    pub can-start : (on : MemState) (left : Remains) → Spells [] first_standing None None on → left ≡ record { me = n; catalog = catalog; records = []; surplus = 0 }
        → CanStart catalog n (Down on left)
    can-start on left disk empty = record {
      is = no_site;
      stands = stands-empty n on left disk empty;
      replayable = empty-replayable;
      after = subst (λ (started : Started). CanBeReplayed (setup_of catalog) n (site_after no_site (of_start n started) (reached (calls_of (of_start n started)) None)).records)
          (sym first-start) first-replayable;
    }
