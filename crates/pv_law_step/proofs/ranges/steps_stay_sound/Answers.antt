-- By what a step may append.
use Rattle.std.proofs.Common.{◌≡◌, ℕ, ◌≤◌, false, Option, [], ◌∷◌, ◌++◌, sym, subst, arith}
use Rattle.std.specs.Option.{option_to_list}
use Rattle.std.proofs.lemmas.Bool.{ltb-false}
use Rattle.std.proofs.lemmas.List.{append-nil}
use Rattle.pv_format.specs.Record.{Record}
use Rattle.pv_law_step.proofs.Appended.{steady}
use Rattle.pv_law_step.proofs.JournalLemmas.{longer-more}
use Rattle.pv_law_step.proofs.SoundSteps.{all-records, safe}
use Rattle.pv_law_step.proofs.WidthSteps.{step-narrow}
use Rattle.pv_law_step.proofs.ranges.steps_stay_sound.Goals as goal
use Rattle.pv_law_step.specs.Appends.{Appends, nothing_at_all, an_outcome, a_promise}
use Rattle.pv_protocol.specs.Here.{Here, is_full, length_with}
use Rattle.pv_protocol.specs.Records.{longer_journal}
use Rattle.pv_protocol.specs.Sound.{IsHereInRange}

module _ (sites : ℕ) (here : Here) (sound : IsHereInRange sites here) where
  with-room : (more : Record) → is_full here more ≡ false → longer_journal here.surplus (here.records ++ more ∷ []) ≤ here.setup.catalog.journal
  with-room more room = omega (arith, longer-more here.surplus here.records more, ltb-false here.setup.catalog.journal (length_with here more) room)

  room-left : (more : Option Record) → Appends here more → longer_journal here.surplus (here.records ++ option_to_list more) ≤ here.setup.catalog.journal
  room-left more nothing_at_all = subst (λ records. longer_journal here.surplus records ≤ here.setup.catalog.journal) (sym (append-nil here.records)) sound.room
  room-left more (an_outcome txn commits room) = with-room _ room
  room-left more (a_promise txn writes is room) = with-room _ room

pub returns : goal.returns
returns c = λ sites here input sound is.
    let after = safe sites here sound input is in
    record {
      me = sound.me;
      bound = sound.bound;
      most = sound.most;
      setup = sound.setup;
      records = all-records sites here sound _ after.appended;
      narrow = step-narrow here input sound.narrow;
      room = room-left sites here sound _ (steady here input).appends;
      running = after.running;
    }
