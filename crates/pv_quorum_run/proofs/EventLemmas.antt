-- What the other events make of the scene.
use Rattle.std.proofs.Common.{◌≡◌, ℕ, zero, suc, ◌<◌, Bool, false, Option, Some, None, List, [], ◌∷◌, ◌++◌, All, Result, Ok, Err, map, set, get_or, length, refl, sym, ap, subst, ◌∙◌}
use Rattle.std.specs.Prelude.{OnOk, slice_get}
use Rattle.std.specs.Option.{option_map}
use Rattle.std.proofs.lemmas.List.{append-nil, get_or-set_same, get_or-set_other, length-set, set-get_or}
use Rattle.std.proofs.lemmas.List.Elements.{All-head, All-tail}
use Rattle.pv_disk.specs.declared.arms.Arm.{Arm}
use Rattle.pv_law_decisions.specs.Lines.{Line, down, line_text, lines_text, no_message, started, stopped, up}
use Rattle.pv_law_decisions.specs.Scene as scenes
use Rattle.pv_law_decisions.specs.Scene.{Scene, arm_at, broken_line, memory_at, opened, with_arm, with_done}
use Rattle.pv_law_quorum.specs.Decider.{Entry, receive}
use Rattle.pv_law_quorum.specs.Record.{Record}
use Rattle.pv_law_quorum.specs.World as law
use Rattle.pv_law_quorum.specs.World.{Decider, World, Ending, Envelope, after_event, decider_at, delivery, no_decider, records_at, start, stop, with_content}
use Rattle.pv_moored.specs.Reached.{Reached, reached}
use Rattle.pv_quorum.specs.Values.{message_of}
use Rattle.pv_quorum_run.proofs.GiveLemmas.{line-more}
use Rattle.pv_quorum_run.proofs.StandLemmas.{Changes, in-arms, in-deciders, put-stands, same-stands, with_cell}
use Rattle.pv_quorum_run.specs.Cells.{HasBegun, HasStarted, HasStopped, StandsForSeat}
use Rattle.pv_quorum_run.specs.LineView.{start_line, stop_line}
use Rattle.pv_quorum_run.specs.Mail.{envelope_of}
use Rattle.pv_quorum_run.specs.Stands.{Becomes, StandsFor, seat_at, setup_for}
use Rattle.pv_quorum_run.specs.declared.cell.Cell.{Cell}
use Rattle.pv_quorum_run.specs.declared.cell.Start.{Start}
use Rattle.pv_quorum_run.specs.declared.cell.Start.TheVariants as starting
use Rattle.pv_quorum_run.specs.declared.mail.Sent.{Sent}
use Rattle.pv_quorum_run.specs.declared.table.Table.{Table}

-- A result with what it stands for where it is no error.
pub becomes-on : {X E : Type 0} (old new : Table) (before after : List ℕ) (now : List Line × Scene) (result : Result X E) (P : Type 0) → OnOk result P
    → (P → Becomes {X = Unit {0}} {E = Unit {0}} old new before after now (Ok tt)) → Becomes old new before after now result
becomes-on old new before after now (Ok x) P holds becomes = becomes holds
becomes-on old new before after now (Err e) P holds becomes = tt

-- A decider that has these records and this in memory.
content-changes : (scene : Scene) (n : ℕ) (records : List Record) (memory : Option (List Entry)) (rest : Option Arm) (next : Scene) → n < length scene.world.deciders → n < length scene.arms
    → next.world ≡ with_content scene.world n records memory → next.arms ≡ set scene.arms n rest → Changes scene next n (record { records = records; memory = memory; arm = rest })
content-changes scene n records memory rest next small room world arms = record {
  own = λ i. record {
    records = ((ap (λ (w : World). decider_at w n) world ∙ get_or-set_same scene.world.deciders n (record { records = records; memory = memory }) no_decider small) i).records;
    memory = ((ap (λ (w : World). decider_at w n) world ∙ get_or-set_same scene.world.deciders n (record { records = records; memory = memory }) no_decider small) i).memory;
    arm = (ap (λ (all : List (Option Arm)). get_or all n None) arms ∙ get_or-set_same scene.arms n rest None room) i;
  };
  others = λ k apart i. record {
    records = ((ap (λ (w : World). decider_at w k) world ∙ get_or-set_other scene.world.deciders n k (record { records = records; memory = memory }) no_decider apart) i).records;
    memory = ((ap (λ (w : World). decider_at w k) world ∙ get_or-set_other scene.world.deciders n k (record { records = records; memory = memory }) no_decider apart) i).memory;
    arm = (ap (λ (all : List (Option Arm)). get_or all k None) arms ∙ get_or-set_other scene.arms n k rest None apart) i;
  };
  deciders = ap (λ (w : World). length w.deciders) world ∙ length-set scene.world.deciders n (record { records = records; memory = memory });
  arms = ap (λ (all : List (Option Arm)). length all) arms ∙ length-set scene.arms n rest;
}

arm-changes : (scene : Scene) (n : ℕ) (rest : Option Arm) → n < length scene.arms → Changes scene (with_arm scene n rest) n (record (seat_at scene n) { arm = rest })
arm-changes scene n rest room = record {
  own = λ i. record { records = records_at scene.world n; memory = memory_at scene n; arm = get_or-set_same scene.arms n rest None room i };
  others = λ k apart i. record { records = records_at scene.world k; memory = memory_at scene k; arm = get_or-set_other scene.arms n k rest None apart i };
  deciders = refl;
  arms = length-set scene.arms n rest;
}

module _ (old : Table) (scene : Scene) (stands : StandsFor old scene) (n : ℕ) (within : n < old.count) (cell : Cell) (at : cell ≡ get_or old.cells.items n cell) (new : Cell) where
  -- Something is armed there, or nothing.
  pub armed-stands : (rest : Option Arm) → StandsForSeat old.count n new (record (seat_at scene n) { arm = rest }) → StandsFor (with_cell old n new old.mail) (with_arm scene n rest)
  armed-stands rest now =
      put-stands old scene stands n within cell at new old.mail (with_arm scene n rest) (record (seat_at scene n) { arm = rest })
      (arm-changes scene n rest (in-arms old scene stands n within cell at)) now
      (record { sent = stands.sent; fresh = stands.fresh; posted = stands.posted })

  module _ (before after : List ℕ) where
    -- A stop.
    pub halted-become : (memory : Option (List Entry)) → (was_up : Bool) → HasStopped old.count n cell new (seat_at scene n) memory was_up → after ≡ before ++ line_text (stop_line n was_up)
        → Becomes {X = Unit {0}} {E = Unit {0}} old (with_cell old n new old.mail) before after (scenes.halted (setup_for old) scene n memory) (Ok tt)
    halted-become None was_up has printed = (
      same-stands old scene stands n within cell at new has.1,
      refl,
      line-more before after (down n) (printed ∙ ap (λ (rose : Bool). before ++ line_text (stop_line n rose)) has.0),
    )
    halted-become (Some entries) was_up has printed =
        let next : Scene = record scene { world = after_event (setup_for old) scene.world (stop n) } in (
          put-stands old scene stands n within cell at new old.mail next (record (seat_at scene n) { memory = None })
              (content-changes scene n (records_at scene.world n) None (arm_at scene n) next (in-deciders old scene stands n within cell at) (in-arms old scene stands n within cell at) refl
              (sym (set-get_or scene.arms n None)))
              has.1 (record { sent = stands.sent; fresh = stands.fresh; posted = stands.posted }),
          refl,
          line-more before after (stopped n) (printed ∙ ap (λ (rose : Bool). before ++ line_text (stop_line n rose)) has.0),
        )

    -- A start of a decider that is down.
    opened-become : (answer : Start) → memory_at scene n ≡ None → HasBegun old.count n new (seat_at scene n) answer → after ≡ before ++ line_text (start_line n answer)
        → Becomes {X = Unit {0}} {E = Unit {0}} old (with_cell old n new old.mail) before after (opened (setup_for old) scene n (reached 1 (arm_at scene n))) (Ok tt)
    opened-become starting.Up is_down has printed = absurd has
    opened-become starting.Started is_down has printed =
        let next : Scene = record scene { world = after_event (setup_for old) scene.world (start n); arms = set scene.arms n has.0 } in
        subst (λ (r : Reached). Becomes {X = Unit {0}} {E = Unit {0}} old (with_cell old n new old.mail) before after (opened (setup_for old) scene n r) (Ok tt)) (sym has.1) (
          put-stands old scene stands n within cell at new old.mail next (record (seat_at scene n) { memory = Some []; arm = has.0 })
              (content-changes scene n (records_at scene.world n) (Some []) has.0 next (in-deciders old scene stands n within cell at) (in-arms old scene stands n within cell at)
              (ap (λ (memory : Option (List Entry)). with_content scene.world n (records_at scene.world n) (law.started memory)) is_down) refl)
              has.2 (record { sent = stands.sent; fresh = stands.fresh; posted = stands.posted }),
          refl,
          line-more before after (started n) printed,
        )
    opened-become (starting.Broke stops) is_down has printed =
        subst (λ (r : Reached). Becomes {X = Unit {0}} {E = Unit {0}} old (with_cell old n new old.mail) before after (opened (setup_for old) scene n r) (Ok tt)) (sym has.1) (
          armed-stands None has.3,
          refl,
          line-more before after (broken_line n has.0.stop) (printed ∙ ap (λ (s : Bool). before ++ line_text (broken_line n s)) (sym has.2)),
        )

    pub begun-become : (memory : Option (List Entry)) → memory_at scene n ≡ memory → (answer : Start) → HasStarted old.count n cell new (seat_at scene n) memory answer
        → after ≡ before ++ line_text (start_line n answer)
        → Becomes {X = Unit {0}} {E = Unit {0}} old (with_cell old n new old.mail) before after (scenes.begun (setup_for old) scene n memory) (Ok tt)
    begun-become (Some entries) is answer has printed = (
      same-stands old scene stands n within cell at new has.1,
      refl,
      line-more before after (up n) (printed ∙ ap (λ (a : Start). before ++ line_text (start_line n a)) has.0),
    )
    begun-become None is answer has printed = opened-become answer is has printed

-- Messages by their numbers.

pub mapped-at : {X Y : Type 0} (f : X → Y) (xs : List X) (k : ℕ) → slice_get (map f xs) k ≡ option_map f (slice_get xs k)
mapped-at f [] k = refl
mapped-at f (x ∷ xs) zero = refl
mapped-at f (x ∷ xs) (suc k) = mapped-at f xs k

pub each-at : {X : Type 0} (P : X → Type 0) (xs : List X) (k : ℕ) (x : X) → All P xs → slice_get xs k ≡ Some x → P x
each-at P [] k x all there = absurd (let wrong : ⊥ = cc in wrong)
each-at P (y ∷ ys) zero x all there =
    let told : Some y ≡ Some x = there in
    let same : y ≡ x = cc in
    subst P same (All-head P y ys all)
each-at P (y ∷ ys) (suc k) x all there = each-at P ys k x (All-tail P y ys all) there

module _ (old : Table) (scene : Scene) (stands : StandsFor old scene) (number : ℕ) where
  pub found-envelope : (found : Option Sent) → slice_get old.mail.sent number ≡ found → slice_get scene.world.sent number ≡ option_map envelope_of found
  found-envelope found is =
      ap (λ (sent : List Envelope). slice_get sent number) (sym stands.sent) ∙ mapped-at envelope_of old.mail.sent number ∙ ap (option_map envelope_of) is

  -- A message is done.
  pub done-stands : StandsFor (record old { mail = record old.mail { fresh = set old.mail.fresh number false } }) (with_done scene number)
  done-stands = record {
    fewest = stands.fewest;
    most = stands.most;
    cells = stands.cells;
    deciders = stands.deciders;
    arms = stands.arms;
    seats = stands.seats;
    sent = stands.sent;
    fresh = ap (λ (marks : List Bool). set marks number false) stands.fresh;
    posted = stands.posted;
  }

  -- There is no such message.
  pub no-message : (before after : List ℕ) → slice_get old.mail.sent number ≡ None → after ≡ before ++ line_text (no_message number)
      → Becomes {X = Unit {0}} {E = Unit {0}} old old before after (scenes.delivered (setup_for old) scene number) (Ok tt)
  no-message before after none printed =
      subst (λ (found : Option Envelope). Becomes {X = Unit {0}} {E = Unit {0}} old old before after (scenes.taken (setup_for old) scene number found) (Ok tt)) (sym (found-envelope None none))
      (stands, refl, line-more before after (no_message number) printed)

  pub none-lost : (before after : List ℕ) → slice_get old.mail.sent number ≡ None → after ≡ before ++ line_text (no_message number)
      → Becomes {X = Unit {0}} {E = Unit {0}} old old before after (scenes.lost scene number (slice_get scene.world.sent number)) (Ok tt)
  none-lost before after none printed =
      subst (λ (found : Option Envelope). Becomes {X = Unit {0}} {E = Unit {0}} old old before after (scenes.lost scene number found) (Ok tt)) (sym (found-envelope None none))
      (stands, refl, line-more before after (no_message number) printed)

  pub one-lost : (text : List ℕ) (post : Sent) → slice_get old.mail.sent number ≡ Some post
      → Becomes {X = Unit {0}} {E = Unit {0}} old (record old { mail = record old.mail { fresh = set old.mail.fresh number false } }) text text
      (scenes.lost scene number (slice_get scene.world.sent number)) (Ok tt)
  one-lost text post found =
      subst (λ (envelope : Option Envelope). Becomes {X = Unit {0}} {E = Unit {0}} old (record old { mail = record old.mail { fresh = set old.mail.fresh number false } }) text text
      (scenes.lost scene number envelope) (Ok tt)) (sym (found-envelope (Some post) found))
      (done-stands, refl, sym (append-nil text))

  -- What its receiver makes of it is what comes of the delivery.
  pub becomes-found : {E : Type 0} (post : Sent) → slice_get old.mail.sent number ≡ Some post → (mid new : Table) (before after : List ℕ) (result : Result (Unit {0}) E)
      → Becomes mid new before after
      (scenes.given (setup_for old) (with_done scene number) post.to (receive post.from (message_of post.message)) (λ ending. delivery number ending) (memory_at scene post.to)) result
      → mid.count ≡ old.count → Becomes old new before after (scenes.delivered (setup_for old) scene number) result
  becomes-found post found mid new before after (Ok x) becomes same = (
    subst (λ (envelope : Option Envelope). StandsFor new (scenes.taken (setup_for old) scene number envelope).1) (sym (found-envelope (Some post) found)) becomes.0,
    becomes.1 ∙ same,
    subst (λ (envelope : Option Envelope). after ≡ before ++ lines_text (scenes.taken (setup_for old) scene number envelope).0) (sym (found-envelope (Some post) found)) becomes.2,
  )
  becomes-found post found mid new before after (Err e) becomes same = tt
