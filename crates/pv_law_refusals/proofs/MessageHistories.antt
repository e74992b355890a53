-- Each denial and each no that was sent came of what it has to.
use Rattle.std.proofs.Common.{◌≡◌, ⊎_elim, ℕ, ◌<◌, false, Some, List, [], ◌∷◌, ◌++◌, map, refl, sym, ap, subst, ◌∙◌}
use Rattle.std.specs.Prelude.{slice_get, ⊤}
use Rattle.std.specs.List.{Contains}
use Rattle.std.proofs.lemmas.Bool.{ltb-true}
use Rattle.std.proofs.lemmas.List.{append_assoc}
use Rattle.std.proofs.lemmas.Option.{slice_get_within, get_or_from_slice_get}
use Rattle.pv_base.specs.declared.grant.GrantId.{GrantId}
use Rattle.pv_protocol.specs.Records.{is_prepared}
use Rattle.pv_base.proofs.ContainsLemmas.{Contains-nil}
use Rattle.pv_base.specs.Want.{Want}
use Rattle.pv_base.specs.declared.txn.TxnId.{TxnId}
use Rattle.pv_format.specs.Message.{Message, lock, granted, denied, prepare, vote_yes, vote_no, outcome_reported, ask, NoCause, grant_lost, journal_full}
use Rattle.pv_format.specs.Record.{prepared}
use Rattle.pv_law_acts.proofs.StepLemmas.{acts-hold, sent-each}
use Rattle.pv_law_acts.specs.Acts.{Acts}
use Rattle.pv_law_acts.specs.Guards.{MaySend}
use Rattle.pv_law_acts.specs.Seen.{records_at, Sent}
use Rattle.pv_law_refusals.proofs.Chains.{IsLink, AreLinks, each-front, whole-run}
use Rattle.pv_law_refusals.proofs.Origins.{IsDenial, HasReason, Origin, step-origins}
use Rattle.pv_law_refusals.specs.Histories.{NoCameOf, MessageCameOf, MessagesCameOf}
use Rattle.pv_law_refusals.proofs.Moves.{TakesInput, IsSentNow}
use Rattle.pv_law_events.proofs.StepActs.{here_at}
use Rattle.pv_law_step.proofs.ConflictLemmas.{least-conflict}
use Rattle.pv_law_step.proofs.WantRanges.{Ascend, wants-ascend}
use Rattle.pv_law_world.proofs.AppendLemmas.{world_after-append}
use Rattle.pv_model.specs.Alternatives.{Read}
use Rattle.pv_protocol.specs.Conflicts.{IsLeastConflict, WasDenied}
use Rattle.pv_protocol.specs.Here.{length_with}
use Rattle.pv_protocol.specs.Places as places
use Rattle.pv_protocol.specs.Places.{Place, world_before}
use Rattle.pv_protocol.specs.Run.{world_after}
use Rattle.pv_protocol.specs.State.{Setup, Running, Input, receive}
use Rattle.pv_protocol.specs.World.{World, opening}
use Rattle.pv_protocol.specs.WorldStep.{Transition}

-- Locks are asked for by ascending items.

abbrev pub LocksAscend : World → Type 0
LocksAscend world = (from to : ℕ) (txn : TxnId) (wants : List Want) → Sent world from to (lock txn wants) → Ascend (map (λ (want : Want). want.item) wants)

-- of a message: if it asks for locks, they ascend
abbrev Ascends : Message → Type 0
Ascends (lock txn wants) = Ascend (map (λ (want : Want). want.item) wants)
Ascends (granted txn grant values) = ⊤
Ascends (denied txn item holder) = ⊤
Ascends (prepare txn grant writes) = ⊤
Ascends (vote_yes txn) = ⊤
Ascends (vote_no txn cause) = ⊤
Ascends (outcome_reported txn commits) = ⊤
Ascends (ask txn) = ⊤

-- A place in more transitions.

pub later-split : (transitions : List Transition) (more : Transition) (place : Place transitions)
    → transitions ++ more ∷ [] ≡ place.earlier ++ place.transition ∷ (place.later ++ more ∷ [])
later-split transitions more place =
    ap (λ (all : List Transition). all ++ more ∷ []) place.split ∙ append_assoc place.earlier (place.transition ∷ place.later) (more ∷ [])

abbrev pub later_place : (transitions : List Transition) (more : Transition) → Place transitions → Place (transitions ++ more ∷ [])
later_place transitions more place = record {
  earlier = place.earlier;
  transition = place.transition;
  later = place.later ++ more ∷ [];
  split = later-split transitions more place;
}

-- What is found in a list is there.
slice-listed : {X : Type 0} (xs : List X) (n : ℕ) (x : X) → slice_get xs n ≡ Some x → Contains xs x
slice-listed xs n x is = (n, slice_get_within xs n x is, get_or_from_slice_get xs n x x is)

module _ (setup : Setup) where
  abbrev AllAscend : World → Type 0
  AllAscend world = (from to : ℕ) (message : Message) → Sent world from to message → Ascends message

  new-ascends : (world : World) (from to : ℕ) (message : Message) → MaySend setup world from to message → Ascends message
  new-ascends world from to (lock txn wants) may =
      subst (λ (all : List Want). Ascend (map (λ (want : Want). want.item) all)) (sym may.wanted) (wants-ascend may.entry.program to setup.catalog.items)
  new-ascends world from to (granted txn grant values) may = tt
  new-ascends world from to (denied txn item holder) may = tt
  new-ascends world from to (prepare txn grant writes) may = tt
  new-ascends world from to (vote_yes txn) may = tt
  new-ascends world from to (vote_no txn cause) may = tt
  new-ascends world from to (outcome_reported txn commits) may = tt
  new-ascends world from to (ask txn) may = tt

  pub locks-ascend : (world : World) → Acts setup (opening setup) world → LocksAscend world
  locks-ascend world reached from to txn wants h =
      acts-hold setup AllAscend
      (λ w v step all. sent-each setup w v step (λ from to message. Ascends message) all (new-ascends w))
      (opening setup) world reached (λ from to message k. absurd (Contains-nil _ k)) from to (lock txn wants) h

  module _ (first : World) (earlier : List Transition) (transition : Transition) where
    abbrev More : List Transition
    More = earlier ++ transition ∷ []

    no-stays : (from : ℕ) (txn : TxnId) (cause : NoCause) → NoCameOf setup first earlier from txn cause → NoCameOf setup first More from txn cause
    no-stays from txn grant_lost was = record {
      place = later_place earlier transition was.place;
      from = was.from;
      grant = was.grant;
      writes = was.writes;
      takes = was.takes;
      unprepared = was.unprepared;
      gone = was.gone;
    }
    no-stays from txn (journal_full bytes) was = record {
      place = later_place earlier transition was.place;
      from = was.from;
      grant = was.grant;
      writes = was.writes;
      takes = was.takes;
      long = was.long;
    }

    stays : (from : ℕ) (message : Message) → MessageCameOf setup first earlier from message → MessageCameOf setup first More from message
    stays from (denied txn item holder) was = record {
      place = later_place earlier transition was.place;
      from = was.from;
      wants = was.wants;
      takes = was.takes;
      least = was.least;
    }
    stays from (vote_no txn cause) was = no-stays from txn cause was
    stays from (lock txn wants) was = tt
    stays from (granted txn grant values) was = tt
    stays from (prepare txn grant writes) was = tt
    stays from (vote_yes txn) was = tt
    stays from (outcome_reported txn commits) was = tt
    stays from (ask txn) was = tt

    abbrev here : Place More
    here = record { earlier = earlier; transition = transition; later = []; split = refl }

    -- In this transition the site takes the message.
    abbrev took : (n from : ℕ) (running : Running) (message : Message) → TakesInput (world_after first earlier) transition.event n running (receive from message)
        → places.Takes (world_after first earlier) transition n from message
    took n from running message takes =
        record { number = takes.comes.0; event = takes.comes.1.0; sent = takes.comes.1.1; running = running; up = takes.up }

    module _ (link : IsLink setup (world_after first earlier) transition) where
      abbrev w : World
      w = world_after first earlier

      new-no : (n : ℕ) (running : Running) (txn : TxnId) (from : ℕ) (grant : GrantId) (writes : List Read) (cause : NoCause)
          → TakesInput w transition.event n running (receive from (prepare txn grant writes)) → is_prepared (records_at w n) txn ≡ false
          → HasReason (here_at setup w n running) txn grant writes cause → NoCameOf setup first More n txn cause
      new-no n running txn from grant writes grant_lost takes unprepared reason = record {
        place = here;
        from = from;
        grant = grant;
        writes = writes;
        takes = took n from running (prepare txn grant writes) takes;
        unprepared = unprepared;
        gone = reason;
      }
      new-no n running txn from grant writes (journal_full bytes) takes unprepared reason = record {
        place = here;
        from = from;
        grant = grant;
        writes = writes;
        takes = took n from running (prepare txn grant writes) takes;
        long = record {
          sum = reason.0;
          above = subst (λ long. setup.catalog.journal < long) (sym reason.0) (ltb-true setup.catalog.journal (length_with (here_at setup w n running) (prepared txn writes)) reason.1);
        };
      }

      new-denial : (n : ℕ) (running : Running) (input : Input) (txn : TxnId) (item : ℕ) (holder : TxnId) → TakesInput w transition.event n running input
          → IsDenial (here_at setup w n running) input txn item holder → WasDenied first More txn n item holder
      new-denial n running input txn item holder takes is =
          let now : TakesInput w transition.event n running (receive is.from (lock txn is.wants)) = subst (TakesInput w transition.event n running) is.is takes in
          let asked : Sent w is.from n (lock txn is.wants) = slice-listed w.sent now.comes.0 (record { from = is.from; to = n; message = lock txn is.wants }) now.comes.1.1 in
          let least : IsLeastConflict running.grants is.wants is.clash.item is.clash.holder =
          least-conflict running.grants (link.known.ordered n running takes.up).grants is.wants (locks-ascend w link.known.reached is.from n txn is.wants asked) is.clash is.found in
          record {
            place = here;
            from = is.from;
            wants = is.wants;
            takes = took n is.from running (lock txn is.wants) now;
            least = subst (λ i. IsLeastConflict running.grants is.wants i holder) is.item_is (subst (IsLeastConflict running.grants is.wants is.clash.item) is.holder_is least);
          }

      new-message : (n to : ℕ) (message : Message) → IsSentNow setup w transition.event n to message → MessageCameOf setup first More n message
      new-message n to message now =
          by message (step-origins (here_at setup w n now.running) (link.known.ordered n now.running now.takes.up) now.input (record { to = to; message = message }) now.sent) where
            by : (m : Message) → Origin (here_at setup w n now.running) (link.known.ordered n now.running now.takes.up) now.input m → MessageCameOf setup first More n m
            by (denied txn item holder) is = new-denial n now.running now.input txn item holder now.takes is
            by (vote_no txn cause) is =
                new-no n now.running txn is.from is.grant is.writes cause (subst (TakesInput w transition.event n now.running) is.is now.takes) is.unprepared is.reason
            by (lock txn wants) is = tt
            by (granted txn grant values) is = tt
            by (prepare txn grant writes) is = tt
            by (vote_yes txn) is = tt
            by (outcome_reported txn commits) is = tt
            by (ask txn) is = tt

      came-more : MessagesCameOf setup first earlier → MessagesCameOf setup first More
      came-more was from to message h =
          ⊎_elim
          (λ old. stays from message (was from to message old))
          (λ new. new-message from to message new)
          (link.move.sent from to message (subst (λ (v : World). Sent v from to message) (world_after-append first earlier (transition ∷ [])) h))

  pub messages-came : (transitions : List Transition) → AreLinks setup (opening setup) transitions → MessagesCameOf setup (opening setup) transitions
  messages-came transitions links =
      whole-run setup (opening setup) (MessagesCameOf setup (opening setup)) (λ earlier transition link was. came-more (opening setup) earlier transition link was)
      transitions links (λ from to message h. absurd (Contains-nil _ h))

  pub messages-came-before : (transitions : List Transition) → AreLinks setup (opening setup) transitions → (place : Place transitions) → MessagesCameOf setup (opening setup) place.earlier
  messages-came-before transitions links place =
      each-front setup (opening setup) (MessagesCameOf setup (opening setup)) (λ earlier transition link was. came-more (opening setup) earlier transition link was)
      transitions links (λ from to message h. absurd (Contains-nil _ h)) place
