-- A run of a script is a run of the rules: its world is the one after events of the rules, and its lines tell what is reported there.
use Rattle.std.proofs.Common.{◌≡◌, ⊎_elim, ℕ, Bool, true, false, Option, Some, None, List, [], ◌∷◌, ◌++◌, map, refl, sym, ap, subst, ◌∙◌}
use Rattle.std.specs.Prelude.{slice_get}
use Rattle.std.specs.List.{Contains}
use Rattle.std.proofs.lemmas.List.{append-nil, append_assoc}
use Rattle.std.proofs.lemmas.List.Concat.{flat_map-append}
use Rattle.std.proofs.lemmas.List.Elements.{Contains-append_left, Contains-append_right, Contains-append_cases}
use Rattle.pv_base.proofs.ContainsLemmas.{Contains-cases, Contains-first, Contains-nil}
use Rattle.pv_base.specs.declared.txn.TxnId.{TxnId}
use Rattle.pv_law_decisions.specs.Lines.{Line, told, told_by, told_of}
use Rattle.pv_law_decisions.specs.Runs.{Delivers, none, more, Happens, Runs}
use Rattle.pv_law_decisions.specs.Scene as scenes
use Rattle.pv_law_decisions.specs.Scene.{Scene, answer_of, arm_at, attempted, broken_line, ending_by, reached_by, with_done, memory_at}
use Rattle.pv_law_quorum.specs.Decider as rules
use Rattle.pv_law_quorum.specs.Decider.{Setup, Entry, Input, Answer, propose, receive}
use Rattle.pv_law_quorum.specs.World.{World, Envelope, Ending, whole, broken, Event, proposal, delivery, stop, start, decider_at, after_event, after}
use Rattle.pv_law_quorum.specs.World as world
use Rattle.pv_moored.specs.Reached.{Reached, waits, fires, reached}
use Rattle.pv_quorum_script.specs.declared.event.QuorumEvent.{QuorumEvent}
use Rattle.pv_quorum_script.specs.declared.event.QuorumEvent.TheVariants.{Propose, Deliver, Pump, Lose, Drop, Stop, Start, Arm, Mend}

-- Of these events of a script, with what they print, come these of the rules: the world after is the one after them, what is told was reported in them, and what they propose is
-- proposed in the script.
pub record Follows (setup : Setup) (first : Scene) (events : List QuorumEvent) (lines : List Line) (last : Scene) : Type 0 where
  pub happened : List Event
  pub world_is : last.world ≡ after setup first.world happened
  pub lines_are : last.world.lines ≡ first.world.lines ++ told_of lines
  pub proposals : (n : ℕ) (txn : TxnId) (v : Bool) (ending : Ending) → Contains happened (proposal n txn v ending) → Contains events (Propose n txn v)

pub after-append : (setup : Setup) (events rest : List Event) (w : World) → after setup w (events ++ rest) ≡ after setup (after setup w events) rest
after-append setup [] rest w = refl
after-append setup (event ∷ events) rest w = after-append setup events rest (after_event setup w event)

pub told-all : (lines : List rules.Line) → told_of (map told lines) ≡ lines
told-all [] = refl
told-all (line ∷ lines) = ap (λ (ls : List rules.Line). line ∷ ls) (told-all lines)

told-broken : (n : ℕ) (stops : Bool) → told_of (broken_line n stops ∷ []) ≡ []
told-broken n true = refl
told-broken n false = refl

module _ (setup : Setup) where
  -- what came first, and then what came of the rest
  pub follows-join : (first mid last : Scene) (events rest : List QuorumEvent) (lines later : List Line) → Follows setup first events lines mid → Follows setup mid rest later last
      → Follows setup first (events ++ rest) (lines ++ later) last
  follows-join first mid last events rest lines later one two = record {
    happened = one.happened ++ two.happened;
    world_is = two.world_is ∙ ap (λ (w : World). after setup w two.happened) one.world_is ∙ sym (after-append setup one.happened two.happened first.world);
    lines_are =
        two.lines_are ∙ ap (λ (ls : List rules.Line). ls ++ told_of later) one.lines_are ∙ append_assoc first.world.lines (told_of lines) (told_of later)
        ∙ ap (λ (ls : List rules.Line). first.world.lines ++ ls) (sym (flat_map-append told_by lines later));
    proposals = λ n txn v ending h.
        ⊎_elim (λ front. Contains-append_left events rest (Propose n txn v) (one.proposals n txn v ending front))
        (λ back. Contains-append_right events rest (Propose n txn v) (two.proposals n txn v ending back)) (Contains-append_cases one.happened two.happened (proposal n txn v ending) h);
  }

  -- where nothing of the rules happens
  pub follows-none : (first last : Scene) (events : List QuorumEvent) (lines : List Line) → last.world ≡ first.world → told_of lines ≡ [] → Follows setup first events lines last
  follows-none first last events lines same untold = record {
    happened = [];
    world_is = same;
    lines_are = ap (λ (w : World). w.lines) same ∙ sym (append-nil first.world.lines) ∙ ap (λ (ls : List rules.Line). first.world.lines ++ ls) (sym untold);
    proposals = λ n txn v ending h. absurd (Contains-nil (proposal n txn v ending) h);
  }

  -- The script's event makes this one of the rules.
  abbrev pub Makes : QuorumEvent → Event → Type 0
  Makes event made = (n : ℕ) (txn : TxnId) (v : Bool) (ending : Ending) → made ≡ proposal n txn v ending → Contains (event ∷ []) (Propose n txn v)

  -- where one event of the rules happens
  pub follows-one : (first last : Scene) (event : QuorumEvent) (lines : List Line) (made : Event) → Makes event made → last.world ≡ after_event setup first.world made
      → (after_event setup first.world made).lines ≡ first.world.lines ++ told_of lines → Follows setup first (event ∷ []) lines last
  follows-one first last event lines made makes same reported = record {
    happened = made ∷ [];
    world_is = same;
    lines_are = ap (λ (w : World). w.lines) same ∙ reported;
    proposals = λ n txn v ending h.
        ⊎_elim (λ is. makes n txn v ending is) (λ behind. absurd (Contains-nil (proposal n txn v ending) behind)) (Contains-cases made [] (proposal n txn v ending) h);
  }

  -- a step of a decider that has this in memory
  module _ (first : Scene) (event : QuorumEvent) (n : ℕ) (input : Input) (made : Ending → Event) (makes : (ending : Ending) → Makes event (made ending)) (entries : List Entry)
      (is : (ending : Ending) → after_event setup first.world (made ending) ≡ world.given setup first.world n input ending (Some entries)) where
    abbrev answer : Answer
    answer = answer_of setup first n input entries

    pub attempted-follows : (r : Reached) → Follows setup first (event ∷ []) (attempted setup first n answer made r).0 (attempted setup first n answer made r).1
    attempted-follows (waits rest) =
        follows-one first (attempted setup first n answer made (waits rest)).1 event (map told answer.lines) (made whole) (makes whole) refl
        (ap (λ (w : World). w.lines) (is whole) ∙ ap (λ (ls : List rules.Line). first.world.lines ++ ls) (sym (told-all answer.lines)))
    attempted-follows (fires arm) =
        follows-one first (attempted setup first n answer made (fires arm)).1 event (broken_line n arm.stop ∷ []) (made (ending_by arm)) (makes (ending_by arm)) refl
        (ap (λ (w : World). w.lines) (is (ending_by arm)) ∙ sym (append-nil first.world.lines) ∙ ap (λ (ls : List rules.Line). first.world.lines ++ ls) (sym (told-broken n arm.stop)))

  pub given-follows : (first : Scene) (event : QuorumEvent) (n : ℕ) (input : Input) (made : Ending → Event) → ((ending : Ending) → Makes event (made ending)) → (memory : Option (List Entry))
      → ((ending : Ending) → after_event setup first.world (made ending) ≡ world.given setup first.world n input ending memory)
      → Follows setup first (event ∷ []) (scenes.given setup first n input made memory).0 (scenes.given setup first n input made memory).1
  given-follows first event n input made makes None is = follows-none first first (event ∷ []) _ refl refl
  given-follows first event n input made makes (Some entries) is =
      attempted-follows first event n input made makes entries is (reached_by (answer_of setup first n input entries).appended (arm_at first n))

  -- a message delivered, by an event that proposes nothing
  delivery-makes : (event : QuorumEvent) (number : ℕ) (ending : Ending) → Makes event (delivery number ending)
  delivery-makes event number ending n txn v other same = absurd (cc)

  -- The same from a scene with the same world and the same faults.
  taken-follows : (first : Scene) (event : QuorumEvent) (number : ℕ) (found : Option Envelope) → slice_get first.world.sent number ≡ found
      → Follows setup first (event ∷ []) (scenes.taken setup first number found).0 (scenes.taken setup first number found).1
  taken-follows first event number None is = follows-none first first (event ∷ []) _ refl refl
  taken-follows first event number (Some envelope) is =
      let done = given-follows (with_done first number) event envelope.to (receive envelope.from envelope.message) (λ ending. delivery number ending)
      (λ ending. delivery-makes event number ending) (memory_at first envelope.to)
      (λ ending. ap (λ (o : Option Envelope). world.delivered setup first.world ending o) is) in
      record { happened = done.happened; world_is = done.world_is; lines_are = done.lines_are; proposals = done.proposals }

  pub delivered-follows : (first : Scene) (event : QuorumEvent) (number : ℕ) → Follows setup first (event ∷ []) (scenes.delivered setup first number).0 (scenes.delivered setup first number).1
  delivered-follows first event number = taken-follows first event number (slice_get first.world.sent number) refl

  -- where nothing is proposed by any of it, the script's events may be others
  unproposing : (first last : Scene) (event : QuorumEvent) (events : List QuorumEvent) (lines : List Line) → ((n : ℕ) (txn : TxnId) (v : Bool) → Contains events (Propose n txn v) → ⊥)
      → Follows setup first events lines last → Follows setup first (event ∷ []) lines last
  unproposing first last event events lines nothing follows = record {
    happened = follows.happened;
    world_is = follows.world_is;
    lines_are = follows.lines_are;
    proposals = λ n txn v ending h. absurd (nothing n txn v (follows.proposals n txn v ending h));
  }

  -- so many deliveries
  deliveries-follow : (first : Scene) (k : ℕ) (lines : List Line) (last : Scene) → Delivers setup first k lines last → (events : List QuorumEvent) × Follows setup first events lines last
      × ((n : ℕ) (txn : TxnId) (v : Bool) → Contains events (Propose n txn v) → ⊥)
  deliveries-follow first k lines last none = ([], follows-none first first [] [] refl refl, λ n txn v h. Contains-nil (Propose n txn v) h)
  deliveries-follow first k lines last (more before said mid number delivers next) =
      let front = deliveries-follow first before said mid delivers in (
        front.0 ++ Deliver number ∷ [],
        follows-join first mid (scenes.delivered setup mid number).1 front.0 (Deliver number ∷ []) said (scenes.delivered setup mid number).0 front.1 (delivered-follows mid (Deliver number) number),
        λ n txn v h. ⊎_elim (λ early. front.2 n txn v early) (λ late. deliver-unproposing number n txn v late) (Contains-append_cases front.0 (Deliver number ∷ []) (Propose n txn v) h),
      ) where
        deliver-unproposing : (number n : ℕ) (txn : TxnId) (v : Bool) → Contains (Deliver number ∷ []) (Propose n txn v) → ⊥
        deliver-unproposing number n txn v h =
            ⊎_elim (λ same. let e : Deliver number ≡ Propose n txn v = same in cc) (λ behind. Contains-nil (Propose n txn v) behind) (Contains-cases (Deliver number) [] (Propose n txn v) h)

  stop-makes : (event : QuorumEvent) (m : ℕ) → Makes event (stop m)
  stop-makes event m n txn v other same = absurd (cc)

  start-makes : (event : QuorumEvent) (m : ℕ) → Makes event (start m)
  start-makes event m n txn v other same = absurd (cc)

  lost-follows : (first : Scene) (event : QuorumEvent) (number : ℕ) (found : Option Envelope) → Follows setup first (event ∷ []) (scenes.lost first number found).0 (scenes.lost first number found).1
  lost-follows first event number None = follows-none first first (event ∷ []) _ refl refl
  lost-follows first event number (Some envelope) = follows-none first (with_done first number) (event ∷ []) _ refl refl

  halted-follows : (first : Scene) (event : QuorumEvent) (n : ℕ) (memory : Option (List Entry)) → Follows setup first (event ∷ []) (scenes.halted setup first n memory).0 (scenes.halted setup first n memory).1
  halted-follows first event n None = follows-none first first (event ∷ []) _ refl refl
  halted-follows first event n (Some entries) =
      follows-one first (scenes.halted setup first n (Some entries)).1 event _ (stop n) (stop-makes event n) refl (sym (append-nil first.world.lines))

  opened-follows : (first : Scene) (event : QuorumEvent) (n : ℕ) (r : Reached) → Follows setup first (event ∷ []) (scenes.opened setup first n r).0 (scenes.opened setup first n r).1
  opened-follows first event n (waits rest) =
      follows-one first (scenes.opened setup first n (waits rest)).1 event _ (start n) (start-makes event n) refl (sym (append-nil first.world.lines))
  opened-follows first event n (fires arm) = follows-none first (scenes.opened setup first n (fires arm)).1 (event ∷ []) _ refl (told-broken n arm.stop)

  begun-follows : (first : Scene) (event : QuorumEvent) (n : ℕ) (memory : Option (List Entry)) → Follows setup first (event ∷ []) (scenes.begun setup first n memory).0 (scenes.begun setup first n memory).1
  begun-follows first event n (Some entries) = follows-none first first (event ∷ []) _ refl refl
  begun-follows first event n None = opened-follows first event n (reached 1 (arm_at first n))

  proposal-makes : (n : ℕ) (txn : TxnId) (v : Bool) (ending : Ending) → Makes (Propose n txn v) (proposal n txn v ending)
  proposal-makes n txn v ending m other_txn u other same =
      let is : Propose m other_txn u ≡ Propose n txn v = cc in subst (λ (e : QuorumEvent). Contains (Propose n txn v ∷ []) e) (sym is) (Contains-first (Propose n txn v) [])

  -- what comes so
  comes : (first : Scene) (event : QuorumEvent) (now : List Line × Scene) (lines : List Line) (last : Scene) → (lines ≡ now.0) × (last ≡ now.1) → Follows setup first (event ∷ []) now.0 now.1
      → Follows setup first (event ∷ []) lines last
  comes first event now lines last is follows =
      subst (λ (l : Scene). Follows setup first (event ∷ []) lines l) (sym is.1) (subst (λ (ls : List Line). Follows setup first (event ∷ []) ls now.1) (sym is.0) follows)

  pub event-follows : (first : Scene) (event : QuorumEvent) (lines : List Line) (last : Scene) → Happens setup first event lines last → Follows setup first (event ∷ []) lines last
  event-follows first (Propose n txn v) lines last is =
      comes first (Propose n txn v) _ lines last is
      (given-follows first (Propose n txn v) n (propose txn v) (λ ending. proposal n txn v ending) (proposal-makes n txn v) (memory_at first n) (λ ending. refl))
  event-follows first (Deliver number) lines last is = comes first (Deliver number) _ lines last is (delivered-follows first (Deliver number) number)
  event-follows first (Pump most) lines last is =
      let delivers = deliveries-follow first is.0 lines last is.1 in unproposing first last (Pump most) delivers.0 lines delivers.2 delivers.1
  event-follows first (Lose number) lines last is = comes first (Lose number) _ lines last is (lost-follows first (Lose number) number (slice_get first.world.sent number))
  event-follows first (Drop n) lines last is = comes first (Drop n) _ lines last is (follows-none first _ (Drop n ∷ []) [] refl refl)
  event-follows first (Stop n) lines last is = comes first (Stop n) _ lines last is (halted-follows first (Stop n) n (memory_at first n))
  event-follows first (Start n) lines last is = comes first (Start n) _ lines last is (begun-follows first (Start n) n (memory_at first n))
  event-follows first (Arm n call mode stops) lines last is = comes first (Arm n call mode stops) _ lines last is (follows-none first _ (Arm n call mode stops ∷ []) [] refl refl)
  event-follows first (Mend n) lines last is = comes first (Mend n) _ lines last is (follows-none first _ (Mend n ∷ []) [] refl refl)

  pub run-follows : (first : Scene) (events : List QuorumEvent) (lines : List Line) (last : Scene) → Runs setup first events lines last → Follows setup first events lines last
  run-follows first events lines last Runs.none = follows-none first first [] [] refl refl
  run-follows first events lines last (Runs.more front said before event now after_it runs happens) =
      follows-join first before after_it front (event ∷ []) said now (run-follows first front said before runs) (event-follows before event now after_it happens)
