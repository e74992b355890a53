-- A start is one of its cases, and a site that starts is sound.
use Rattle.std.proofs.Common.{◌≡◌, ℕ, ◌+◌, ◌<◌, ◌≤◌, false, List, [], ◌∷◌, ◌++◌, subst, arith}
use Rattle.std.specs.Prelude.{All, nat_le, nat_lt}
use Rattle.std.proofs.lemmas.Bool.{ltb-false}
use Rattle.std.proofs.lemmas.Bool.{leb-false}
use Rattle.std.proofs.lemmas.List.Elements.{All-append, All-cons, All-nil}
use Rattle.pv_base.specs.declared.limits.TheConstants.{MAX_SITES, NEVER_GIVEN}
use Rattle.pv_format.specs.Contents.{greatest_epoch}
use Rattle.pv_format.specs.Range.{IsRecordWithin}
use Rattle.pv_format.specs.Record.{Record, epoch_begun}
use Rattle.pv_law_step.proofs.JournalLemmas.{longer-more}
use Rattle.pv_law_step.proofs.StepCases.{if_case}
use Rattle.pv_law_step.proofs.WidthLemmas.{other-narrow}
use Rattle.pv_law_step.specs.StartCases.{StartCase, no_epoch_left, no_room, begins}
use Rattle.pv_protocol.specs.Records.{record_bytes, longer_journal}
use Rattle.pv_protocol.specs.Sound.{IsSetupInRange, IsHeldInRange, IsEntryInRange, IsHereInRange}
use Rattle.pv_protocol.specs.Start.{Started, starts, just_started, site_start}
use Rattle.pv_protocol.specs.State.{Setup, Running}
use Rattle.pv_protocol.specs.Width.{IsNarrow}

pub start-case : (setup : Setup) (surplus : ℕ) (records : List Record) → StartCase setup surplus records (site_start setup surplus records)
unfolding site_start
start-case setup surplus records =
    if_case (StartCase setup surplus records) (nat_le NEVER_GIVEN (greatest_epoch records + 1)) no_epoch_left
    (λ left. if_case (StartCase setup surplus records) (nat_lt setup.catalog.journal (longer_journal surplus records + record_bytes (epoch_begun (greatest_epoch records + 1))))
    (no_room left) (begins left))

module _ (sites : ℕ) (setup : Setup) (bound : setup.catalog.sites ≤ sites) (most : sites ≤ MAX_SITES) (me : ℕ) (surplus : ℕ) (records : List Record) (fine : IsSetupInRange setup) (here : me < setup.catalog.sites) (all : All (IsRecordWithin sites) records)
    (narrow : IsNarrow setup.held_names setup.catalog me records) where
  -- The site with its new record and this memory is sound.
  abbrev Sound : Running → Record → Type 0
  Sound running new = IsHereInRange sites (record { me = me; setup = setup; records = records ++ new ∷ []; surplus = surplus; running = running })

  started-sound : nat_le NEVER_GIVEN (greatest_epoch records + 1) ≡ false
      → nat_lt setup.catalog.journal (longer_journal surplus records + record_bytes (epoch_begun (greatest_epoch records + 1))) ≡ false
      → Sound (just_started (greatest_epoch records + 1)) (epoch_begun (greatest_epoch records + 1))
  started-sound left room =
      let epoch = greatest_epoch records + 1 in
      let below : greatest_epoch records + 1 < NEVER_GIVEN = leb-false NEVER_GIVEN (greatest_epoch records + 1) left in
      record {
        me = here;
        bound = bound;
        most = most;
        setup = fine;
        records = All-append (IsRecordWithin sites) records (epoch_begun (greatest_epoch records + 1) ∷ []) all
            (All-cons (IsRecordWithin sites) (epoch_begun (greatest_epoch records + 1)) [] (omega arith, omega (arith, below)) (All-nil (IsRecordWithin sites)));
        narrow = other-narrow setup.catalog setup.held_names me records narrow (epoch_begun (greatest_epoch records + 1)) (λ txn writes same. cc);
        room = omega (arith, longer-more surplus records (epoch_begun (greatest_epoch records + 1)), ltb-false _ _ room);
        running = record { epoch = below; next_txn = omega arith; next_grant = omega arith; grants = All-nil (IsHeldInRange sites setup.catalog me); entries = All-nil (IsEntryInRange sites setup.catalog) };
      }

  pub start-sound : (started : Started) → StartCase setup surplus records started → (running : Running) (new : Record) → started ≡ starts running new → Sound running new
  start-sound started (no_epoch_left h) running new same = absurd (let wrong : ⊥ = cc in wrong)
  start-sound started (no_room h i) running new same = absurd (let wrong : ⊥ = cc in wrong)
  start-sound started (begins left room) running new same =
      let memory : just_started (greatest_epoch records + 1) ≡ running = cc in
      let written : epoch_begun (greatest_epoch records + 1) ≡ new = cc in
      subst (λ r. Sound r new) memory (subst (λ w. Sound (just_started (greatest_epoch records + 1)) w) written (started-sound left room))
