-- Reports that were let out are lines of transitions of the run, of which the laws of runs hold.
use Rattle.std.proofs.Common.{◌≡◌, inl, inr, Bool, true, false, if◌then◌else◌, Option, Some, None, List, [], ◌∷◌, ◌++◌, filter, map, All, IsTrue, sym, ap, ◌∙◌, subst, refl}
use Rattle.std.specs.List.{Contains}
use Rattle.std.proofs.lemmas.List.{append_assoc}
use Rattle.std.proofs.lemmas.List.Elements.{All-cons, All-contains, Contains-append_cases}
use Rattle.std.proofs.lemmas.Option.{none-some}
use Rattle.pv_base.proofs.AssignmentLemmas.{same-eq}
use Rattle.pv_base.proofs.ContainsLemmas.{Contains-nil}
use Rattle.pv_base.proofs.MapLemmas.{Contains-unmap}
use Rattle.pv_base.specs.Assignment.{commits, is_same_txn}
use Rattle.pv_base.specs.declared.reply.Reply.{Reply}
use Rattle.pv_base.specs.declared.txn.TxnId.{TxnId}
use Rattle.pv_law_acts.proofs.ListLemmas.{any-listed}
use Rattle.pv_law_acts.specs.Acts.{Acts, no_act}
use Rattle.pv_law_answers.proofs.RunLemmas.{there, worlds-cut}
use Rattle.pv_law_answers.specs.Orders.{CommittedFit, committed_in}
use Rattle.pv_law_events.proofs.FoundLemmas.{kept-passes}
use Rattle.pv_law_events.specs.Reached.{AreReached}
use Rattle.pv_law_world.proofs.AppendLemmas.{world_after-append}
use Rattle.pv_model.specs.Events.{Event}
use Rattle.pv_model.specs.Meaning.{Row, exec}
use Rattle.pv_model.specs.Serial.{Ordered, declared_rows, rows_after, serial_reply}
use Rattle.pv_protocol.specs.Causes.{RefusalsHold}
use Rattle.pv_protocol.specs.CommitAnswers.{CommitsAnswer, HaveSerialReplies}
use Rattle.pv_protocol.specs.Committed.{is_committed, programs_of}
use Rattle.pv_protocol.specs.Lines.{Line}
use Rattle.pv_protocol.specs.Outcomes.{IsOut}
use Rattle.pv_protocol.specs.Places.{Place, world_before}
use Rattle.pv_protocol.specs.Run.{lines_of_transitions, printed, run, world_after, worlds_of}
use Rattle.pv_protocol.specs.State.{Cause, Placed, Setup}
use Rattle.pv_protocol.specs.World.{World, opening}
use Rattle.pv_protocol.specs.WorldStep.{Transition}
use Rattle.pv_law_hosted.proofs.AgreeLemmas.{last-world}
use Rattle.pv_law_hosted.specs.Claims.{IsAnswered, IsRefused}
use Rattle.pv_law_hosted.specs.Mirrored.{world_of}

-- A transition among these prints the line.
pub record PrintedAt (transitions : List Transition) (line : Line) : Type 0 where
  pub place : Place transitions
  pub there : Contains place.transition.lines line

printed-later : (first : Transition) (transitions : List Transition) (line : Line) → PrintedAt transitions line → PrintedAt (first ∷ transitions) line
printed-later first transitions line at = record {
  place = record {
    earlier = first ∷ at.place.earlier;
    transition = at.place.transition;
    later = at.place.later;
    split = ap (λ (l : List Transition). first ∷ l) at.place.split;
  };
  there = at.there;
}

pub printed-at : (transitions : List Transition) (line : Line) → Contains (lines_of_transitions transitions) line → PrintedAt transitions line
printed-at [] line is = absurd (Contains-nil line is)
printed-at (first ∷ transitions) line is = elim (Contains-append_cases first.lines (lines_of_transitions transitions) line is) [
  | inl now ↦ record { place = record { earlier = []; transition = first; later = transitions; split = refl }; there = now }
  | inr later ↦ printed-later first transitions line (printed-at transitions line later)
]

pub in-run : (setup : Setup) (events : List Event) (line : Line) → Contains (printed setup events) line → PrintedAt (run setup (opening setup) events) line
unfolding printed
in-run setup events line is = printed-at (run setup (opening setup) events) line is

-- What is so in the world after a transition and in each later one is so in the last world.
last-of : (P : World → Type 0) (first : World) (transitions : List Transition) (place : Place transitions) → P (world_after place.transition.world place.later)
    → P (world_after first transitions)
last-of P first transitions place holds =
    subst P
    (sym (ap (world_after first) place.split ∙ world_after-append first place.earlier (place.transition ∷ place.later))) holds

-- ## Commits
replies-if : (own is_in : Bool) (answer later : Option Reply) (reply : Reply) → (later ≡ Some reply → is_in ≡ true)
    → (if own then (if is_in then answer else None) else later) ≡ Some reply → is_in ≡ true
replies-if true true answer later reply rest is = refl
replies-if true false answer later reply rest is = absurd (none-some reply is)
replies-if false is_in answer later reply rest is = rest is

-- In the serial run a transaction replies only where the assignment commits it.
serial-commits : (rows : List Row) (order : List Ordered) (assignment : List TxnId) (txn : TxnId) (reply : Reply)
    → serial_reply rows order assignment txn ≡ Some reply → commits assignment txn ≡ true
serial-commits rows [] assignment txn reply is = absurd (none-some reply is)
serial-commits rows (entry ∷ order) assignment txn reply is =
    replies-if (is_same_txn entry.txn txn) (commits assignment txn) (Some (exec entry.program rows).reply) (serial_reply (rows_after assignment rows entry) order assignment txn)
    reply (serial-commits (rows_after assignment rows entry) order assignment txn reply) is

listed-committed : (world : World) (txn : TxnId) → commits (committed_in world) txn ≡ true → is_committed world txn ≡ true
listed-committed world txn is =
    let is_done : Placed → Bool = λ placed. is_committed world placed.txn in
    let found = any-listed (λ t. is_same_txn t txn) (committed_in world) is in
    let place = Contains-unmap (λ (placed : Placed). placed.txn) (filter is_done world.order) found.0 found.1.0 in
    subst (λ t. is_committed world t ≡ true) (place.1.1 ∙ same-eq {t = found.0} {u = txn} found.1.1) (kept-passes is_done world.order place.0 place.1.0)

-- What has a reply of each serial run that fits has one of that in which the committed transactions commit alone.
answered-committed : (setup : Setup) (world : World) (txn : TxnId) (replies : List Reply) → CommittedFit world → HaveSerialReplies setup world txn replies
    → IsTrue (is_committed world txn)
answered-committed setup world txn replies fit serial =
    let answer = serial (committed_in world) fit in
    listed-committed world txn (serial-commits (declared_rows setup.catalog) (programs_of world.order) (committed_in world) txn answer.0 answer.1)

module _ (setup : Setup) (events : List Event) (reached : AreReached setup (worlds_of (opening setup) (run setup (opening setup) events))) where
  abbrev transitions : List Transition
  transitions = run setup (opening setup) events

  -- Acts lead from the world after a transition to the last one.
  pub to-the-last : (place : Place (run setup (opening setup) events)) → Acts setup place.transition.world (world_of setup events)
  to-the-last place =
      let after = place.transition.world in
      let behind = map (λ (t : Transition). t.world) place.later in
      let now = world_before (opening setup) place in
      let cut = worlds-cut (opening setup) place.earlier place.transition place.later in
      let split : worlds_of (opening setup) transitions ≡ (cut.0 ++ now ∷ []) ++ after ∷ behind =
      ap (worlds_of (opening setup)) place.split ∙ cut.1 ∙ sym (append_assoc cut.0 (now ∷ []) (after ∷ behind)) in
      last-of (Acts setup after) (opening setup) transitions place
      (last-world (Acts setup after) after place.later (All-cons (Acts setup after) after behind (no_act after) (reached (cut.0 ++ now ∷ []) behind after split).1))

  pub commit-answered : (txn : TxnId) (replies : List Reply) → CommitsAnswer setup (opening setup) (run setup (opening setup) events)
      → All CommittedFit (worlds_of (opening setup) (run setup (opening setup) events))
      → ((world later : World) → Acts setup world later → IsTrue (is_committed world txn) → IsTrue (is_committed later txn))
      → Contains (printed setup events) (Line.commit txn replies) → IsAnswered setup events txn replies
  commit-answered txn replies law fit stays is =
      let at = in-run setup events (Line.commit txn replies) is in
      let after = at.place.transition.world in
      let answers = law at.place txn replies at.there in
      let fits = All-contains CommittedFit (worlds_of (opening setup) transitions) after fit (there setup transitions reached at.place).after in
      record {
        place = at.place;
        printed = at.there;
        possible = answers.0;
        serial = answers.1;
        committed = stays after (world_of setup events) (to-the-last at.place) (answered-committed setup after txn replies fits answers.1);
      }

-- ## Refusals
pub refusal-held : (setup : Setup) (events : List Event) (txn : TxnId) (cause : Cause) → RefusalsHold setup (opening setup) (run setup (opening setup) events)
    → Contains (printed setup events) (Line.refuse txn cause) → IsRefused setup events txn cause
refusal-held setup events txn cause law is =
    let at = in-run setup events (Line.refuse txn cause) is in
    let holds = law at.place txn cause at.there in
    record {
      place = at.place;
      printed = at.there;
      reason = holds.1;
      out =
          last-of (IsOut txn) (opening setup) (run setup (opening setup) events) at.place
          (last-world (IsOut txn) at.place.transition.world at.place.later holds.0);
    }
