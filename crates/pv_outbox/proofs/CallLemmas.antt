-- What a call comes to, by where it ends.
use Rattle.std.proofs.Common.{◌≡◌, ℕ, ℤ, Bool, true, false, Result, Ok, Err, List, length, inl, inr, refl, sym, ap, subst, ◌∙◌}
use Rattle.pv_disk_model.specs.Calls.{reserve}
use Rattle.pv_disk_model.specs.Log.{Keeps, StaysUp}
use Rattle.pv_disk_model.specs.LogModel.{LogModel}
use Rattle.pv_disk_model.proofs.LogLemmas.{Keeps-refl, keeping_may_add}
use Rattle.pv_law_outbox.specs.State.{Record, held, learnt, after}
use Rattle.pv_base.specs.Polyvalue.{Case}
use Rattle.pv_base.specs.declared.txn.TxnId.{TxnId}
use Rattle.pv_law_outbox.specs.Runs.{MayWrite}
use Rattle.pv_outbox.specs.Calls.{Writes, Stays, Fails, Holds, Learns}
use Rattle.pv_outbox.specs.OutboxState.{OutboxState, IsUsable}
use Rattle.pv_outbox.specs.Spelling.{SpellsRecord}
use Rattle.pv_outbox.specs.Writing.{MakesRoom, AppendsBytes, has_failed}
use Rattle.pv_outbox.specs.declared.error.BoxError.{BoxError}
use Rattle.pv_outbox.specs.declared.error.BoxError.TheVariants.{Again, Known, Failed, Down, Full, NoMemory}
use Rattle.pv_outbox.proofs.LogLemmas.{adds-after, may-add-after}

same-box : {W : Type 0} (one other : OutboxState W) → one.state ≡ other.state → one.is_down ≡ other.is_down → one.log ≡ other.log → one ≡ other
same-box one other state down log = λ k. record { state = state k; is_down = down k; log = log k }

module _ {W : Type 0} (M : LogModel W) (old : OutboxState W) (usable : IsUsable M old) (up : old.is_down ≡ false) where
  -- There was no memory, and nothing was done.
  pub stays-early : (new : OutboxState W) → new.state ≡ old.state → new.is_down ≡ old.is_down → new.log ≡ old.log → Stays M old new
  stays-early new state down log = record {
    outbox = same-box new (record old { log = new.log }) state down refl;
    up = record {
      was_up = usable.up up;
      is_up = ap M.is_down log ∙ usable.up up;
      faults = ap M.faults log;
    };
    log = subst (λ (now : W). Keeps M old.log now) (sym log) (Keeps-refl M old.log);
    asked = inl log;
  }

  module _ (entry : Record) (bytes : List ℕ) (spelled : SpellsRecord entry bytes) where
    pub fails-room : (X : Type 0) (new : OutboxState W) (e : BoxError) → MakesRoom M {X = X} old.log new.log bytes (Err e) → new.is_down ≡ has_failed {X = X} (Err e)
        → new.state ≡ old.state → Fails M old new entry e
    fails-room X new Again room down state = absurd room
    fails-room X new (Known outcome) room down state = absurd room
    fails-room X new Failed room down state = record {
      bytes = bytes;
      spelled = spelled;
      outbox = same-box new (record old { is_down = true; log = new.log }) state down refl;
      down = room.0;
      log = keeping_may_add M old.log new.log bytes usable.intact (usable.up up) room.1;
      asked = record { within = room.2; calls = inl (refl, room.3) };
    }
    fails-room X new Down room down state = absurd room
    fails-room X new (Full with_it) room down state = record {
      bytes = bytes;
      spelled = spelled;
      outbox = same-box new old state (down ∙ sym up) room.0;
      length_is = room.1;
      above = room.2;
    }
    fails-room X new NoMemory room down state = record {
      outbox = same-box new (record old { log = new.log }) state (down ∙ sym up) refl;
      up = room.0;
      log = room.1;
      asked = inr (length bytes, false, room.2);
    }

    module _ (mid : W) {X : Type 0} (x : X) (room : MakesRoom M old.log mid bytes (Ok x)) where
      -- There was no memory after room was made.
      pub stays-late : (new : OutboxState W) → new.state ≡ old.state → new.is_down ≡ false → new.log ≡ mid → Stays M old new
      stays-late new state down log = record {
        outbox = same-box new (record old { log = new.log }) state (down ∙ sym up) refl;
        up = subst (λ (now : W). StaysUp M old.log now) (sym log) room.0;
        log = subst (λ (now : W). Keeps M old.log now) (sym log) room.1;
        asked = inr (length bytes, true, subst (λ (now : W). M.goes old.log (reserve (length bytes)) true now) (sym log) room.4);
      }

      pub fails-append : (Y : Type 0) (new : OutboxState W) (e : BoxError) → AppendsBytes M {X = Y} mid new.log bytes (Err e) → new.is_down ≡ has_failed {X = Y} (Err e)
          → new.state ≡ old.state → Fails M old new entry e
      fails-append Y new Again done down state = absurd done
      fails-append Y new (Known outcome) done down state = absurd done
      fails-append Y new Failed done down state =
          let failed = may-add-after M old.log mid new.log bytes usable.intact room.0 room.1 (done.0, done.1) in
          record {
            bytes = bytes;
            spelled = spelled;
            outbox = same-box new (record old { is_down = true; log = new.log }) state down refl;
            down = failed.0;
            log = failed.1;
            asked = record { within = room.3; calls = inr (mid, room.4, inl (refl, done.2)) };
          }
      fails-append Y new Down done down state = absurd done
      fails-append Y new (Full with_it) done down state = absurd done
      fails-append Y new NoMemory done down state = absurd done

      pub written-append : (new : OutboxState W) {Y : Type 0} (y : Y) → AppendsBytes M mid new.log bytes (Ok y) → new.is_down ≡ false
          → new.state ≡ after old.state entry → Writes M old new entry
      written-append new y done down state =
          let added = adds-after M old.log mid new.log bytes usable.intact room.0 room.1 (done.0, done.1) in
          record {
            bytes = bytes;
            spelled = spelled;
            state = state;
            is_up = down;
            up = added.0;
            log = added.1;
            asked = record { within = room.3; calls = inr (mid, room.4, inr (new.log, done.2, (refl, refl))) };
          }

-- A call that is refused because its record isn't written comes to the same, by its error.
module _ {W : Type 0} (M : LogModel W) (old new : OutboxState W) where
  pub held-fails : (output : ℕ) (when : List (Case ℤ)) (e : BoxError) (X : Type 0) → MayWrite old.state (held output when) → Fails M old new (held output when) e
      → Holds M old new output when {X = X} (Err e)
  held-fails output when Again X may fails = absurd fails
  held-fails output when (Known outcome) X may fails = absurd fails
  held-fails output when Failed X may fails = (may, fails)
  held-fails output when Down X may fails = absurd fails
  held-fails output when (Full with_it) X may fails = (may, fails)
  held-fails output when NoMemory X may fails = (may, fails)

  pub learnt-fails : (txn : TxnId) (commits : Bool) (e : BoxError) (X : Type 0) → MayWrite old.state (learnt txn commits) → Fails M old new (learnt txn commits) e
      → Learns M old new txn commits {X = X} (Err e)
  learnt-fails txn commits Again X may fails = absurd fails
  learnt-fails txn commits (Known outcome) X may fails = absurd fails
  learnt-fails txn commits Failed X may fails = (may, fails)
  learnt-fails txn commits Down X may fails = absurd fails
  learnt-fails txn commits (Full with_it) X may fails = (may, fails)
  learnt-fails txn commits NoMemory X may fails = (may, fails)

-- What a call comes to whose record isn't written, where it comes to something by each error.
module _ {W : Type 0} (M : LogModel W) (old new : OutboxState W) (usable : IsUsable M old) (up : old.is_down ≡ false) (entry : Record) {Y : Type 0}
    (P : Result Y BoxError → Type 0) (by : (e : BoxError) → Fails M old new entry e → P (Err e)) where
  -- There was no memory before room was made.
  pub ends-early : (answer : Result Y BoxError) → answer ≡ Err NoMemory → new.state ≡ old.state → new.is_down ≡ old.is_down → new.log ≡ old.log → P answer
  ends-early answer is state down log = subst P (sym is) (by NoMemory (stays-early M old usable up new state down log))

  module _ (bytes : List ℕ) (spelled : SpellsRecord entry bytes) where
    -- No room was made.
    pub ends-room : (e : BoxError) {X : Type 0} (made : Result X BoxError) (answer : Result Y BoxError) → made ≡ Err e → answer ≡ Err e
        → MakesRoom M old.log new.log bytes made → new.is_down ≡ has_failed made → new.state ≡ old.state → P answer
    ends-room e {X} made answer was is effect down state =
        subst P (sym is)
        (by e
        (fails-room M old usable up entry bytes spelled X new e
        (subst (λ (r : Result X BoxError). MakesRoom M old.log new.log bytes r) was effect) (down ∙ ap (λ (r : Result X BoxError). has_failed r) was) state))

    module _ (mid : W) {X : Type 0} (x : X) (room : MakesRoom M old.log mid bytes (Ok x)) where
      -- There was no memory after that.
      pub ends-late : (answer : Result Y BoxError) → answer ≡ Err NoMemory → new.state ≡ old.state → new.is_down ≡ false → new.log ≡ mid → P answer
      ends-late answer is state down log =
          subst P (sym is) (by NoMemory (stays-late M old usable up entry bytes spelled mid x room new state down log))

      -- The log failed as the record was appended.
      pub ends-append : (e : BoxError) {Z : Type 0} (done : Result Z BoxError) (answer : Result Y BoxError) → done ≡ Err e → answer ≡ Err e
          → AppendsBytes M mid new.log bytes done → new.is_down ≡ has_failed done → new.state ≡ old.state → P answer
      ends-append e {Z} done answer was is effect down state =
          subst P (sym is)
          (by e
          (fails-append M old usable up entry bytes spelled mid x room Z new e
          (subst (λ (r : Result Z BoxError). AppendsBytes M mid new.log bytes r) was effect) (down ∙ ap (λ (r : Result Z BoxError). has_failed r) was) state))
