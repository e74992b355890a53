-- Whether a transaction is undisturbed, as a test that computes.
use Rattle.std.proofs.Common.{◌≡◌, ◌⊎◌, ⊎_elim, inl, inr, ℕ, zero, suc, ◌<◌, ◌≤◌, Bool, true, false, ◌||◌, Some, None, Option, List, [], ◌∷◌, ◌++◌, length, eqb-true, leb-true, refl, sym, ap, subst, ◌∙◌, arith}
use Rattle.std.specs.Prelude.{◌==◌, not, ◌&&◌, nat_le, IsSome, is_some, is_none, map, slice_get}
use Rattle.std.specs.List.{Contains, list_all}
use Rattle.std.proofs.lemmas.Bool.{false≢true, and_parts}
use Rattle.std.proofs.lemmas.Option.{none-some, slice_get_within, slice_get_past}
use Rattle.pv_base.proofs.Basics.{Some_inj}
use Rattle.pv_base.proofs.ContainsLemmas.{Contains-first, Contains-behind, Contains-cases}
use Rattle.pv_base.specs.declared.limits.TheConstants.{NEVER_GIVEN}
use Rattle.pv_base.specs.declared.txn.TxnId.{TxnId}
use Rattle.pv_format.specs.Message.{Envelope, Message, lock, granted, denied, prepare, vote_yes, vote_no, outcome_reported, ask}
use Rattle.pv_format.specs.Record.{prepared, outcome_known}
use Rattle.pv_law_acts.proofs.ListLemmas.{all-listed}
use Rattle.pv_law_acts.specs.Seen.{records_at, memory_at}
use Rattle.pv_law_complete.proofs.FoundLists.{one-is}
use Rattle.pv_law_complete.proofs.GoesLemmas.{Goes, stays, halts, opens, steps, follow-goes}
use Rattle.pv_law_complete.proofs.GoingLemmas.{same-or-not}
use Rattle.pv_law_step.proofs.DoubtLemmas.{none-are}
use Rattle.pv_law_complete.specs.Undisturbed.{IsConcerned, here_in, IsFree, AreCertain, IsCalm, AreCalm, IsDelivered, AreDelivered}
use Rattle.pv_model.specs.Events.{Event}
use Rattle.pv_model.specs.Plan.{participants_of}
use Rattle.pv_model.specs.Syntax.{Program}
use Rattle.pv_protocol.specs.Anywhere as anywhere
use Rattle.pv_protocol.specs.Anywhere.{IsRunWithFaults}
use Rattle.pv_protocol.specs.Committed.{home_of}
use Rattle.pv_protocol.specs.Coordinate.{locking_entry, names_taken}
use Rattle.pv_protocol.specs.Granted.{taking, first_uncertain}
use Rattle.pv_protocol.specs.Here.{Here, is_full}
use Rattle.pv_protocol.specs.Lock.{first_conflict}
use Rattle.pv_protocol.specs.Places.{Place}
use Rattle.pv_protocol.specs.Run.{world_after, worlds_of}
use Rattle.pv_protocol.specs.State.{Setup, Entry, Running}
use Rattle.pv_protocol.specs.Step.{site_step}
use Rattle.pv_protocol.specs.Waiting.{is_tick_of}
use Rattle.pv_protocol.specs.World.{World, from_site}
use Rattle.pv_protocol.specs.WorldStep.{Transition}

unless : (b : Bool) → not b ≡ true → b ≡ false
unless false is = refl
unless true is = absurd (false≢true is)

is-none : {X : Type 0} (o : Option X) → is_none o ≡ true → o ≡ None
is-none None is = refl
is-none (Some x) is = absurd (false≢true is)

-- the entry, if there is one, would have taken few outcomes
abbrev few_with : ℕ → (Entry → ℕ) → Option Entry → Bool
few_with most names None = true
few_with most names (Some entry) = nat_le (names entry) most

few-of : (most : ℕ) (names : Entry → ℕ) (o : Option Entry) (entry : Entry) → o ≡ Some entry → few_with most names o ≡ true → names entry ≤ most
few-of most names None entry is few = let wrong : ⊥ = cc in absurd wrong
few-of most names (Some found) entry is few = subst (λ e. names e ≤ most) (Some_inj is) (leb-true (names found) most few)

-- the entry, if there is one, would have to be certain only of what is
abbrev certain_with : Here → (Entry → Entry) → Option Entry → Bool
certain_with here with_more None = true
certain_with here with_more (Some entry) = is_none (first_uncertain here (with_more entry))

certain-of : (here : Here) (with_more : Entry → Entry) (o : Option Entry) (entry : Entry) → o ≡ Some entry → certain_with here with_more o ≡ true
    → AreCertain here (with_more entry)
certain-of here with_more None entry is certain = let wrong : ⊥ = cc in absurd wrong
certain-of here with_more (Some found) entry is certain =
    subst (λ e. AreCertain here (with_more e)) (Some_inj is)
    (λ item within. none-are here.records (with_more found) 0 here.setup.catalog.items (is-none (first_uncertain here (with_more found)) certain) item (omega arith) (omega (arith, within)))

abbrev frees : Here → ℕ → Message → Bool
frees here from (lock txn wants) = is_none (first_conflict here.running.grants wants) && not (here.running.next_grant == NEVER_GIVEN)
frees here from (granted txn id values) =
    few_with here.setup.read_names (λ e. length (names_taken (taking e from id values))) (locking_entry here.running txn)
    && certain_with here (λ e. taking e from id values) (locking_entry here.running txn)
frees here from (denied txn item holder) = true
frees here from (prepare txn id writes) = not (is_full here (prepared txn writes))
frees here from (vote_yes txn) = not (is_full here (outcome_known txn true))
frees here from (vote_no txn cause) = true
frees here from (outcome_reported txn commits) = true
frees here from (ask txn) = true

free-by : (here : Here) (from : ℕ) (message : Message) → frees here from message ≡ true → IsFree here from message
free-by here from (lock txn wants) is =
    let both = and_parts (is_none (first_conflict here.running.grants wants)) (not (here.running.next_grant == NEVER_GIVEN)) is in
    λ none. (is-none (first_conflict here.running.grants wants) both.0, unless (here.running.next_grant == NEVER_GIVEN) both.1)
free-by here from (granted txn id values) is =
    let found_in = locking_entry here.running txn in
    let both = and_parts (few_with here.setup.read_names (λ e. length (names_taken (taking e from id values))) found_in) (certain_with here (λ e. taking e from id values) found_in) is in
    λ entry found heard. (
      few-of here.setup.read_names (λ e. length (names_taken (taking e from id values))) found_in entry found both.0,
      λ whole. certain-of here (λ e. taking e from id values) found_in entry found both.1,
    )
free-by here from (denied txn item holder) is = tt
free-by here from (prepare txn id writes) is = λ unprepared. unless (is_full here (prepared txn writes)) is
free-by here from (vote_yes txn) is = λ entry found heard. unless (is_full here (outcome_known txn true)) is
free-by here from (vote_no txn cause) is = tt
free-by here from (outcome_reported txn commits) is = tt
free-by here from (ask txn) is = tt

module _ (setup : Setup) (txn : TxnId) (program : Program) where
  abbrev Concerned : List ℕ
  Concerned = home_of txn ∷ participants_of program setup.catalog.items

  concerned-listed : (n : ℕ) → IsConcerned setup txn program n → Contains Concerned n
  concerned-listed n c =
      ⊎_elim
      (λ same. subst (Contains Concerned) (sym same) (Contains-first (home_of txn) (participants_of program setup.catalog.items)))
      (λ part. Contains-behind (home_of txn) (participants_of program setup.catalog.items) n part) c

  -- All sites that are concerned are up.
  abbrev pub all_up : World → Bool
  all_up world = list_all (λ n. is_some (memory_at world n)) Concerned

  pub up-all : (world : World) → all_up world ≡ true → (n : ℕ) → IsConcerned setup txn program n → IsSome (memory_at world n)
  up-all world is n c = all-listed (λ n. is_some (memory_at world n)) Concerned is n (concerned-listed n c)

  abbrev frees_up : World → ℕ → ℕ → Message → Option Running → Bool
  frees_up world n from message None = true
  frees_up world n from message (Some running) = frees (here_in setup world n running) from message

  abbrev frees_sent : World → Option Envelope → Bool
  frees_sent world None = true
  frees_sent world (Some envelope) = frees_up world envelope.to envelope.from envelope.message (memory_at world envelope.to)

  abbrev frees_event : World → Event → Bool
  frees_event world (Event.deliver number) = frees_sent world (slice_get world.sent number)
  frees_event world other = true

  abbrev calms : World → Transition → Bool
  calms world t = list_all (λ n. is_some (memory_at t.world n) && not (is_tick_of n t.event)) Concerned && frees_event world t.event

  calm-by : (world : World) (t : Transition) → calms world t ≡ true → IsCalm setup txn program world t
  calm-by world t is =
      let both = and_parts (list_all (λ n. is_some (memory_at t.world n) && not (is_tick_of n t.event)) Concerned) (frees_event world t.event) is in
      let each : (n : ℕ) → IsConcerned setup txn program n → (is_some (memory_at t.world n) ≡ true) × (not (is_tick_of n t.event) ≡ true) =
      λ n c. and_parts (is_some (memory_at t.world n)) (not (is_tick_of n t.event))
      (all-listed (λ n. is_some (memory_at t.world n) && not (is_tick_of n t.event)) Concerned both.0 n (concerned-listed n c)) in
      record {
        up = λ n c. (each n c).0;
        timeless = λ n c. unless (is_tick_of n t.event) (each n c).1;
        free = λ n from message takes of.
            free-by (here_in setup world n takes.running) from message
            (subst (λ o. frees_up world n from message o ≡ true) takes.up
            (subst (λ o. frees_sent world o ≡ true) takes.sent (subst (λ e. frees_event world e ≡ true) takes.event both.1)));
      }

  abbrev pub all_calm : World → List Transition → Bool
  all_calm world [] = true
  all_calm world (t ∷ later) = calms world t && all_calm t.world later

  pub calm-all : (world : World) (later : List Transition) → all_calm world later ≡ true → AreCalm setup txn program world later
  calm-all world [] is = tt
  calm-all world (t ∷ later) is = let both = and_parts (calms world t) (all_calm t.world later) is in (λ uncommitted. calm-by world t both.0, calm-all t.world later both.1)

-- Deliveries.

abbrev is_delivery : ℕ → Event → Bool
is_delivery number (Event.deliver n) = n == number
is_delivery number other = false

delivery-is : (number : ℕ) (event : Event) → is_delivery number event ≡ true → event ≡ Event.deliver number
delivery-is number (Event.deliver n) is = ap Event.deliver (eqb-true n number is)
delivery-is number other is = absurd (false≢true is)

-- The message of this number is delivered after it was sent.
abbrev delivers : World → List Transition → ℕ → Bool
delivers world [] number = false
delivers world (t ∷ later) number = is_delivery number t.event && is_some (slice_get world.sent number) || delivers t.world later number

some-there : {X : Type 0} (o : Option X) → is_some o ≡ true → (x : X) × (o ≡ Some x)
some-there None is = absurd (false≢true is)
some-there (Some x) is = (x, refl)

or-either : (a b : Bool) → (a || b) ≡ true → (a ≡ true) ⊎ (b ≡ true)
or-either true b is = inl refl
or-either false b is = inr is

left-there : {X : Type 0} (xs ys : List X) (n : ℕ) (x : X) → slice_get xs n ≡ Some x → slice_get (xs ++ ys) n ≡ Some x
left-there [] ys n x is = absurd (none-some _ (sym (slice_get_past [] n (omega arith)) ∙ is))
left-there (y ∷ xs) ys zero x is = is
left-there (y ∷ xs) ys (suc n) x is = left-there xs ys n x is

module _ (setup : Setup) where
  -- What was sent stays at its number.
  sent-there : (w v : World) (event : Event) (number : ℕ) (envelope : Envelope) → Goes setup w event v → slice_get w.sent number ≡ Some envelope → slice_get v.sent number ≡ Some envelope
  sent-there w v event number envelope (stays same sent) is = ap (λ all. slice_get all number) sent ∙ is
  sent-there w v event number envelope (halts m same down sent) is = ap (λ all. slice_get all number) sent ∙ is
  sent-there w v event number envelope (opens m same down sent) is = ap (λ all. slice_get all number) sent ∙ is
  sent-there w v event number envelope (steps m running input comes up makes) is =
      ap (λ all. slice_get all number) makes.sent
      ∙ left-there w.sent (from_site m (site_step setup m (records_at w m) running input).sends) number envelope is

  sent-later : (first : World) (later : List Transition) → IsRunWithFaults setup first later → (world : World) → Contains (worlds_of first later) world → (number : ℕ) (envelope : Envelope)
      → slice_get world.sent number ≡ Some envelope → slice_get (world_after first later).sent number ≡ Some envelope
  sent-later first [] run world h number envelope is = subst (λ w. slice_get w.sent number ≡ Some envelope) (sym (one-is first world h)) is
  sent-later first (t ∷ later) (anywhere.goes_on first' t' later' follows run) world h number envelope is =
      ⊎_elim
      (λ same. sent-later t.world later run t.world (Contains-first t.world (map (λ (e : Transition). e.world) later)) number envelope
      (sent-there first t.world t.event number envelope (follow-goes setup first t follows) (subst (λ w. slice_get w.sent number ≡ Some envelope) (sym same) is)))
      (λ behind. sent-later t.world later run world behind number envelope is)
      (Contains-cases first (worlds_of t.world later) world h)

  delivered-by : (first : World) (later : List Transition) → IsRunWithFaults setup first later → (number : ℕ) (envelope : Envelope) → slice_get (world_after first later).sent number ≡ Some envelope
      → delivers first later number ≡ true → IsDelivered first later number envelope
  delivered-by first [] run number envelope is found = absurd (false≢true found)
  delivered-by first (t ∷ later) (anywhere.goes_on first' t' later' follows run) number envelope is found =
      ⊎_elim
      (λ now.
      let both = and_parts (is_delivery number t.event) (is_some (slice_get first.sent number)) now in
      let there = some-there (slice_get first.sent number) both.1 in
      let last = sent-later first (t ∷ later) (anywhere.goes_on first t later follows run) first (Contains-first first (map (λ (e : Transition). e.world) (t ∷ later))) number there.0 there.1 in
      (record { earlier = []; transition = t; later = later; split = refl }, (delivery-is number t.event both.0, there.1 ∙ (sym last ∙ is))))
      (λ behind.
      let rest = delivered-by t.world later run number envelope is behind in
      let place : Place later = rest.0 in
      (record { earlier = t ∷ place.earlier; transition = place.transition; later = place.later; split = ap (λ ts. t ∷ ts) place.split }, rest.1))
      (or-either (is_delivery number t.event && is_some (slice_get first.sent number)) (delivers t.world later number) found)

  -- All messages of these numbers are delivered.
  abbrev pub all_delivered : World → List Transition → ℕ → Bool
  all_delivered first later zero = true
  all_delivered first later (suc count) = delivers first later count && all_delivered first later count

  delivered-below : (first : World) (later : List Transition) (count : ℕ) → all_delivered first later count ≡ true → (number : ℕ) → number < count → delivers first later number ≡ true
  delivered-below first later zero is number less = absurd (omega (arith, less))
  delivered-below first later (suc count) is number less =
      let both = and_parts (delivers first later count) (all_delivered first later count) is in
      ⊎_elim
      (λ same. subst (λ n. delivers first later n ≡ true) (sym same) both.0)
      (λ other. delivered-below first later count both.1 number (omega (arith, less, other)))
      (same-or-not number count)

  pub delivered-all : (txn : TxnId) (first : World) (later : List Transition) → IsRunWithFaults setup first later → all_delivered first later (length (world_after first later).sent) ≡ true
      → AreDelivered txn first later
  delivered-all txn first later run is world listed uncommitted number envelope there of =
      let last = sent-later first later run world listed number envelope there in
      delivered-by first later run number envelope last
      (delivered-below first later (length (world_after first later).sent) is number (slice_get_within (world_after first later).sent number envelope last))
