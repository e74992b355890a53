-- A site that is up is in the epoch that it recorded last, and its memory stands in order.
use Rattle.std.proofs.Common.{arith, ◌≡◌, ℕ, ◌+◌, Option, List, ◌++◌, refl, sym, ap, ◌∙◌, subst}
use Rattle.std.specs.Prelude.{option_to_list}
use Rattle.std.proofs.lemmas.List.{append-nil}
use Rattle.std.proofs.lemmas.Option.{none-some}
use Rattle.pv_base.proofs.Basics.{Some_inj}
use Rattle.pv_format.specs.Contents.{greatest_epoch}
use Rattle.pv_format.specs.Record.{Record, prepared, outcome_known}
use Rattle.pv_law_step.proofs.Appended.{steady}
use Rattle.pv_law_step.proofs.EpochLemmas.{epoch-stays, epoch-rises}
use Rattle.pv_law_step.proofs.OrderLemmas.{stays-in-order}
use Rattle.pv_law_step.proofs.ShownLemmas.{none-ascend}
use Rattle.pv_law_step.proofs.StartLemmas.{start-case}
use Rattle.pv_law_step.specs.Appends.{Appends, nothing_at_all, an_outcome, a_promise}
use Rattle.pv_law_step.specs.StartCases.{StartCase, no_epoch_left, no_room, begins}
use Rattle.pv_law_world.proofs.SiteLemmas.{IsKept, WhereUp}
use Rattle.pv_protocol.specs.Attempt.{of_start}
use Rattle.pv_protocol.specs.Here.{Here}
use Rattle.pv_protocol.specs.Sound.{IsInOrder}
use Rattle.pv_protocol.specs.Start.{Started, just_started, site_start}
use Rattle.pv_protocol.specs.State.{Setup, Running}

-- What a step appends begins no epoch.
appended-epoch : (here : Here) (more : Option Record) → Appends here more → greatest_epoch (here.records ++ option_to_list more) ≡ greatest_epoch here.records
appended-epoch here more nothing_at_all = ap greatest_epoch (append-nil here.records)
appended-epoch here more (an_outcome txn commits room) = epoch-stays here.records (outcome_known txn commits) refl
appended-epoch here more (a_promise txn writes is room) = epoch-stays here.records (prepared txn writes) refl

-- The site's epoch is the greatest that its records began.
abbrev pub IsRecorded : ℕ → List Record → Running → Type 0
IsRecorded n records running = running.epoch ≡ greatest_epoch records

started-recorded : (n : ℕ) (setup : Setup) (records : List Record) (started : Started) → StartCase setup 0 records started
    → WhereUp IsRecorded n (records ++ option_to_list (of_start n started).appended) (of_start n started).running
started-recorded n setup records started (no_epoch_left h) up is = absurd (none-some _ is)
started-recorded n setup records started (no_room h i) up is = absurd (none-some _ is)
started-recorded n setup records started (begins h i) up is =
    ap (λ (running : Running). running.epoch) (sym (Some_inj is)) ∙ sym (epoch-rises records (greatest_epoch records + 1) (omega arith))

pub epochs-kept : (setup : Setup) → IsKept setup (WhereUp IsRecorded)
epochs-kept setup = record {
  stops = λ n records running is up none. absurd (none-some _ none);
  steps = λ n records running input is up now.
      let here : Here = record { me = n; setup = setup; records = records; surplus = 0; running = running } in
      ap (λ (after : Running). after.epoch) (sym (Some_inj now)) ∙ ((steady here input).rises.epoch ∙ (is running refl ∙ sym (appended-epoch here _ (steady here input).appends)));
  begins = λ n records none. started-recorded n setup records (site_start setup 0 records) (start-case setup 0 records);
  first = λ n up is. ap (λ (running : Running). running.epoch) (sym (Some_inj is));
}

-- The site's memory stands in order.
abbrev pub IsOrdered : ℕ → List Record → Running → Type 0
IsOrdered n records running = IsInOrder running

fresh-ordered : (epoch : ℕ) → IsInOrder (just_started epoch)
fresh-ordered epoch = record { grants = none-ascend; entries = none-ascend }

started-ordered : (n : ℕ) (records : List Record) (setup : Setup) (started : Started) → StartCase setup 0 records started
    → WhereUp IsOrdered n (records ++ option_to_list (of_start n started).appended) (of_start n started).running
started-ordered n records setup started (no_epoch_left h) up is = absurd (none-some _ is)
started-ordered n records setup started (no_room h i) up is = absurd (none-some _ is)
started-ordered n records setup started (begins h i) up is = subst IsInOrder (Some_inj is) (fresh-ordered (greatest_epoch records + 1))

pub order-kept : (setup : Setup) → IsKept setup (WhereUp IsOrdered)
order-kept setup = record {
  stops = λ n records running is up none. absurd (none-some _ none);
  steps = λ n records running input is up now.
      subst IsInOrder (Some_inj now)
      (stays-in-order (record { me = n; setup = setup; records = records; surplus = 0; running = running }) (is running refl) input);
  begins = λ n records none. started-ordered n records setup (site_start setup 0 records) (start-case setup 0 records);
  first = λ n up is. subst IsInOrder (Some_inj is) (fresh-ordered 1);
}
