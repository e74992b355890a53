-- Each message that was sent has its mark.
use Rattle.std.proofs.Common.{◌≡◌, ℕ, suc, Bool, true, false, Option, Some, None, List, [], ◌∷◌, ◌++◌, length, map, refl, sym, ap, subst, ◌∙◌, arith}
use Rattle.std.specs.Prelude.{slice_get}
use Rattle.std.proofs.lemmas.List.{length-append, length-map, length-set}
use Rattle.pv_law_decisions.specs.Lines.{Line}
use Rattle.pv_law_decisions.specs.Runs.{Delivers, Happens, Runs}
use Rattle.pv_law_decisions.specs.Scene as scenes
use Rattle.pv_law_decisions.specs.Scene.{Scene, answer_of, arm_at, at_first, attempted, ending_by, memory_at, reached_by, with_done, without}
use Rattle.pv_law_quorum.specs.Decider.{Setup, Entry, Input, Outgoing, propose, receive}
use Rattle.pv_law_quorum.specs.World as law
use Rattle.pv_law_quorum.specs.World.{World, Ending, Envelope, Event, whole, proposal, delivery, after_event, from_decider}
use Rattle.pv_moored.specs.Reached.{Reached, waits, fires, reached}
use Rattle.pv_quorum_script.specs.declared.event.QuorumEvent.{QuorumEvent}
use Rattle.pv_quorum_script.specs.declared.event.QuorumEvent.TheVariants.{Propose, Deliver, Pump, Lose, Drop, Stop, Start, Arm, Mend}

-- There are as many marks as messages.
abbrev pub IsLong : Scene → Type 0
IsLong scene = length scene.fresh ≡ length scene.world.sent

long-more : (marks : List Bool) (sent : List Envelope) (n : ℕ) (sends : List Outgoing) → length marks ≡ length sent
    → length (marks ++ map (λ send. true) sends) ≡ length (sent ++ from_decider n sends)
long-more marks sent n sends long =
    let one = length-append marks (map (λ (send : Outgoing). true) sends) in
    let two = length-append sent (from_decider n sends) in
    let three = length-map sends (λ (send : Outgoing). true) in
    let four = length-map {B = Envelope} sends (λ (outgoing : Outgoing). record { from = n; to = outgoing.to; message = outgoing.message }) in
    omega (arith, one, two, three, four, long)

without-long : (n : ℕ) (sent : List Envelope) (marks : List Bool) → length marks ≡ length sent → length (without n sent marks) ≡ length sent
without-long n [] [] long = refl
without-long n [] (mark ∷ marks) long = absurd (omega (arith, long))
without-long n (envelope ∷ sent) [] long = absurd (omega (arith, long))
without-long n (envelope ∷ sent) (mark ∷ marks) long = ap suc (without-long n sent marks (omega (arith, long)))

module _ (setup : Setup) where
  given-long : (scene : Scene) (n : ℕ) (input : Input) (made : Ending → Event) (memory : Option (List Entry))
      → ((ending : Ending) → after_event setup scene.world (made ending) ≡ law.given setup scene.world n input ending memory) → IsLong scene
      → IsLong (scenes.given setup scene n input made memory).1
  given-long scene n input made None is long = long
  given-long scene n input made (Some entries) is long = by (reached_by (answer_of setup scene n input entries).appended (arm_at scene n)) where
    by : (r : Reached) → IsLong (attempted setup scene n (answer_of setup scene n input entries) made r).1
    by (waits rest) =
        long-more scene.fresh scene.world.sent n (answer_of setup scene n input entries).sends long ∙ sym (ap (λ (w : World). length w.sent) (is whole))
    by (fires arm) = long ∙ sym (ap (λ (w : World). length w.sent) (is (ending_by arm)))

  done-long : (scene : Scene) (number : ℕ) → IsLong scene → IsLong (with_done scene number)
  done-long scene number long = length-set scene.fresh number false ∙ long

  taken-long : (scene : Scene) (number : ℕ) (found : Option Envelope) → slice_get scene.world.sent number ≡ found → IsLong scene → IsLong (scenes.taken setup scene number found).1
  taken-long scene number None is long = long
  taken-long scene number (Some envelope) is long =
      given-long (with_done scene number) envelope.to (receive envelope.from envelope.message) (λ ending. delivery number ending) (memory_at scene envelope.to)
      (λ ending. ap (λ (o : Option Envelope). law.delivered setup scene.world ending o) is) (done-long scene number long)

  delivers-long : (before : Scene) (k : ℕ) (lines : List Line) (after : Scene) → Delivers setup before k lines after → IsLong before → IsLong after
  delivers-long before k lines after Delivers.none long = long
  delivers-long before k lines after (Delivers.more fewer said mid number delivers next) long =
      taken-long mid number (slice_get mid.world.sent number) refl (delivers-long before fewer said mid delivers long)

  lost-long : (scene : Scene) (number : ℕ) (found : Option Envelope) → IsLong scene → IsLong (scenes.lost scene number found).1
  lost-long scene number None long = long
  lost-long scene number (Some envelope) long = done-long scene number long

  halted-long : (scene : Scene) (n : ℕ) (memory : Option (List Entry)) → IsLong scene → IsLong (scenes.halted setup scene n memory).1
  halted-long scene n None long = long
  halted-long scene n (Some entries) long = long

  opened-long : (scene : Scene) (n : ℕ) (r : Reached) → IsLong scene → IsLong (scenes.opened setup scene n r).1
  opened-long scene n (waits rest) long = long
  opened-long scene n (fires arm) long = long

  begun-long : (scene : Scene) (n : ℕ) (memory : Option (List Entry)) → IsLong scene → IsLong (scenes.begun setup scene n memory).1
  begun-long scene n (Some entries) long = long
  begun-long scene n None long = opened-long scene n (reached 1 (arm_at scene n)) long

  pub event-long : (before : Scene) (event : QuorumEvent) (lines : List Line) (after : Scene) → Happens setup before event lines after → IsLong before → IsLong after
  event-long before (Propose n txn v) lines after is long =
      subst IsLong (sym is.1) (given-long before n (propose txn v) (λ ending. proposal n txn v ending) (memory_at before n) (λ ending. refl) long)
  event-long before (Deliver number) lines after is long = subst IsLong (sym is.1) (taken-long before number (slice_get before.world.sent number) refl long)
  event-long before (Pump most) lines after is long = delivers-long before is.0 lines after is.1 long
  event-long before (Lose number) lines after is long = subst IsLong (sym is.1) (lost-long before number (slice_get before.world.sent number) long)
  event-long before (Drop n) lines after is long = subst IsLong (sym is.1) (without-long n before.world.sent before.fresh long)
  event-long before (Stop n) lines after is long = subst IsLong (sym is.1) (halted-long before n (memory_at before n) long)
  event-long before (Start n) lines after is long = subst IsLong (sym is.1) (begun-long before n (memory_at before n) long)
  event-long before (Arm n call mode stops) lines after is long = subst IsLong (sym is.1) long
  event-long before (Mend n) lines after is long = subst IsLong (sym is.1) long

  pub run-long : (first : Scene) (events : List QuorumEvent) (lines : List Line) (last : Scene) → Runs setup first events lines last → IsLong first → IsLong last
  run-long first events lines last Runs.none long = long
  run-long first events lines last (Runs.more front said before event now after runs happens) long =
      event-long before event now after happens (run-long first front said before runs long)
