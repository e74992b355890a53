-- A pump comes to its end: each delivery leaves less to deliver.
use Rattle.std.proofs.Common.{arith, ◌≡◌, ℕ, zero, suc, ◌+◌, ◌<◌, ◌≤◌, Bool, true, false, Option, Some, None, List, [], ◌∷◌, ◌++◌, length, refl, sym, ap, ◌∙◌, subst, length-append}
use Rattle.std.specs.Prelude.{get_or, set, slice_get, replicate}
use Rattle.std.proofs.lemmas.List.{length-set, length-replicate}
use Rattle.std.proofs.lemmas.List.Quantifiers.{position-Some}
use Rattle.std.proofs.lemmas.Option.{slice_get-get_or}
use Rattle.pv_format.specs.Message.{Message, ask, Envelope}
use Rattle.pv_law_world.proofs.WeightLemmas.{weight_sent, message-light}
use Rattle.pv_law_world.specs.Pumps.{AreMarked, HasFewSites}
use Rattle.pv_base.proofs.Basics.{Some_inj}
use Rattle.pv_model.specs.Events.{deliver}
use Rattle.pv_protocol.specs.Arms.{Reached, waits, fires, attempted}
use Rattle.pv_protocol.specs.Attempt.{Attempt, begun, given, delivered, of_step}
use Rattle.pv_protocol.specs.Pump.{next_fresh, with_fresh, deliveries, weight, weight_left, enough}
use Rattle.pv_protocol.specs.Run.{world_after}
use Rattle.pv_protocol.specs.State.{Setup, Running, receive, Outgoing}
use Rattle.pv_protocol.specs.Step.{site_step}
use Rattle.pv_protocol.specs.World.{World, site_at, with_done, from_site}
use Rattle.pv_protocol.specs.WorldStep.{Transition, ended, transition_of}

-- an envelope that isn't there
abbrev no_envelope : Envelope
no_envelope = record { from = 0; to = 0; message = ask (record { site = record { 0 = 0 }; epoch = 0; number = 0 }) }

zero_plus : (n : ℕ) → 0 + n ≡ n
zero_plus n = omega arith

suc_plus : (n m : ℕ) → suc n + m ≡ suc (n + m)
suc_plus n m = omega arith

-- ---- weights

-- one message done
done-lighter : (sent : List Envelope) (fresh : List Bool) (n : ℕ) (envelope : Envelope) → get_or fresh n false ≡ true
    → slice_get sent n ≡ Some envelope → weight_left sent (set fresh n false) + weight envelope.message ≡ weight_left sent fresh
done-lighter [] fresh n envelope is there = absurd cc
done-lighter (first ∷ sent) [] n envelope is there = absurd cc
done-lighter (first ∷ sent) (true ∷ fresh) zero envelope is there =
    let same : weight first.message ≡ weight envelope.message = ap (λ (e : Envelope). weight e.message) (Some_inj there) in omega arith
done-lighter (first ∷ sent) (false ∷ fresh) zero envelope is there = absurd cc
done-lighter (first ∷ sent) (true ∷ fresh) (suc n) envelope is there =
    let rest : weight_left sent (set fresh n false) + weight envelope.message ≡ weight_left sent fresh = done-lighter sent fresh n envelope is there in omega arith
done-lighter (first ∷ sent) (false ∷ fresh) (suc n) envelope is there = done-lighter sent fresh n envelope is there

-- more messages sent, each fresh
sent-heavier : (sent : List Envelope) (fresh : List Bool) (n : ℕ) (sends : List Outgoing) → length sent ≡ length fresh
    → weight_left (sent ++ from_site n sends) (fresh ++ replicate (length (from_site n sends)) true) ≡ weight_left sent fresh + weight_sent sends
sent-heavier [] [] n [] same = refl
sent-heavier [] [] n (first ∷ sends) same =
    let rest : weight_left (from_site n sends) (replicate (length (from_site n sends)) true) ≡ 0 + weight_sent sends = sent-heavier [] [] n sends refl in omega arith
sent-heavier [] (mark ∷ fresh) n sends same = absurd (omega arith)
sent-heavier (first ∷ sent) [] n sends same = absurd (omega arith)
sent-heavier (first ∷ sent) (true ∷ fresh) n sends same =
    let rest : weight_left (sent ++ from_site n sends) (fresh ++ replicate (length (from_site n sends)) true) ≡ weight_left sent fresh + weight_sent sends
    = sent-heavier sent fresh n sends (omega arith) in omega arith
sent-heavier (first ∷ sent) (false ∷ fresh) n sends same = sent-heavier sent fresh n sends (omega arith)

some-weight : (message : Message) → 0 < weight message
some-weight (Message.lock txn wants) = omega arith
some-weight (Message.granted txn grant values) = omega arith
some-weight (Message.denied txn item holder) = omega arith
some-weight (Message.prepare txn grant writes) = omega arith
some-weight (Message.vote_yes txn) = omega arith
some-weight (Message.vote_no txn cause) = omega arith
some-weight (Message.outcome_reported txn commits) = omega arith
some-weight (Message.ask txn) = omega arith

-- ---- one delivery

-- The world has its messages marked, and less of them is fresh than this.
pub record IsLighter (bound : ℕ) (world : World) : Type 0 where
  pub marked : AreMarked world
  pub less : enough world < bound

module _ (setup : Setup) (few : HasFewSites setup.catalog) (world : World) (marked : AreMarked world) where
  module _ (n : ℕ) (envelope : Envelope) (is : get_or world.fresh n false ≡ true) (there : slice_get world.sent n ≡ Some envelope) where
    done-marked : AreMarked (with_done world n)
    done-marked = marked ∙ sym (length-set world.fresh n false)

    done-less : enough (with_done world n) + weight envelope.message ≡ enough world
    done-less = done-lighter world.sent world.fresh n envelope is there

    attempted-lighter : (to : ℕ) (attempt : Attempt) → weight_sent attempt.sends < weight envelope.message → (left : Reached)
        → IsLighter (enough world) (attempted (with_done world n) to attempt left).1
    attempted-lighter to attempt light (waits arm) = record {
      marked = sent-marked;
      less =
          let sum : weight_left (world.sent ++ from_site to attempt.sends) (set world.fresh n false ++ replicate (length (from_site to attempt.sends)) true)
          ≡ enough (with_done world n) + weight_sent attempt.sends
          = sent-heavier world.sent (set world.fresh n false) to attempt.sends done-marked in
          let less : enough (with_done world n) + weight envelope.message ≡ enough world = done-less in
          omega arith;
    }
      where
        sent-marked : length (world.sent ++ from_site to attempt.sends)
            ≡ length (set world.fresh n false ++ replicate (length (from_site to attempt.sends)) true)
        sent-marked =
            rw (
              length-append world.sent (from_site to attempt.sends),
              length-append (set world.fresh n false) (replicate (length (from_site to attempt.sends)) true),
              length-replicate (length (from_site to attempt.sends)) true,
            )
            (ap (λ (count : ℕ). count + length (from_site to attempt.sends)) done-marked)
    attempted-lighter to attempt light (fires arm) = record {
      marked = done-marked;
      less = let less : enough (with_done world n) + weight envelope.message ≡ enough world = done-less in omega arith;
    }

    given-lighter : (running : Option Running)
        → IsLighter (enough world) (ended (given setup (with_done world n) envelope.to (receive envelope.from envelope.message) running)).1
    given-lighter None = record {
      marked = done-marked;
      less =
          let less : enough (with_done world n) + weight envelope.message ≡ enough world = done-less in
          let some : 0 < weight envelope.message = some-weight envelope.message in omega arith;
    }
    given-lighter (Some running) =
        attempted-lighter envelope.to
        (of_step envelope.to (site_step setup envelope.to (site_at (with_done world n) envelope.to).records running (receive envelope.from envelope.message)))
        (message-light (record { me = envelope.to; setup = setup; records = (site_at (with_done world n) envelope.to).records; surplus = 0; running = running }) few envelope.from envelope.message) _

  -- The least fresh message is one that was sent.
  next-sent : (n : ℕ) → next_fresh world ≡ Some n → (n < length world.sent) × (get_or world.fresh n false ≡ true)
  next-sent n next =
      let place = position-Some (λ (fresh : Bool). fresh) world.fresh n false next in
      (subst (λ (count : ℕ). n < count) (sym marked) place.0, place.1)

  -- A delivery of the least fresh message leaves less to deliver.
  pub delivery-lighter : (n : ℕ) → next_fresh world ≡ Some n → IsLighter (enough world) (transition_of setup world (deliver n)).world
  unfolding transition_of begun
  delivery-lighter n next =
      let place = next-sent n next in
      let found : slice_get world.sent n ≡ Some (get_or world.sent n no_envelope) = slice_get-get_or world.sent n no_envelope place.0 in
      let envelope = get_or world.sent n no_envelope in
      subst (λ (sent : Option Envelope). IsLighter (enough world) (ended (delivered setup world n sent)).1) (sym found)
      (given-lighter n envelope place.1 found (site_at world envelope.to).running)

  -- Where a message is fresh there is something to deliver.
  next-some : (n : ℕ) → next_fresh world ≡ Some n → 0 < enough world
  next-some n next =
      let lighter : IsLighter (enough world) (transition_of setup world (deliver n)).world = delivery-lighter n next in
      let less : enough (transition_of setup world (deliver n)).world < enough world = lighter.less in omega arith

-- ---- all deliveries

module _ (setup : Setup) (few : HasFewSites setup.catalog) where
  -- with nothing left to deliver no message is fresh
  none-fresh : (world : World) → AreMarked world → enough world ≤ 0 → (next : Option ℕ) → next_fresh world ≡ next → next ≡ None
  none-fresh world marked nothing None is = refl
  none-fresh world marked nothing (Some n) is =
      let some : 0 < enough world = next-some setup few world marked n is in absurd (omega arith)

  abbrev Going : ℕ → World → Option ℕ → List Transition
  Going fuel world next = with_fresh next (λ n. let transition = transition_of setup world (deliver n) in transition ∷ deliveries fuel setup transition.world)

  -- no delivery where no message is fresh
  none-delivered : (more : ℕ) (world : World) → next_fresh world ≡ None → deliveries more setup world ≡ []
  none-delivered zero world is = refl
  none-delivered (suc more) world is = ap (Going more world) is

  -- one delivery, and the rest as it is for the world after it
  going-same : (fuel count : ℕ) (world : World) → AreMarked world → enough world ≤ suc fuel
      → ((after : World) → AreMarked after → enough after ≤ fuel → deliveries count setup after ≡ deliveries fuel setup after)
      → (next : Option ℕ) → next_fresh world ≡ next → Going count world next ≡ Going fuel world next
  going-same fuel count world marked least rest None is = refl
  going-same fuel count world marked least rest (Some n) is =
      let lighter : IsLighter (enough world) (transition_of setup world (deliver n)).world = delivery-lighter setup few world marked n is in
      let less : enough (transition_of setup world (deliver n)).world < enough world = lighter.less in
      ap (λ (transitions : List Transition). transition_of setup world (deliver n) ∷ transitions)
      (rest (transition_of setup world (deliver n)).world lighter.marked (omega arith))

  pub more-fuel : (fuel more : ℕ) (world : World) → AreMarked world → enough world ≤ fuel → deliveries (fuel + more) setup world ≡ deliveries fuel setup world
  more-fuel zero more world marked least =
      let idle : next_fresh world ≡ None = none-fresh world marked least (next_fresh world) refl in
      subst (λ (count : ℕ). deliveries count setup world ≡ []) (sym (zero_plus more)) (none-delivered more world idle)
  more-fuel (suc fuel) more world marked least =
      subst (λ (count : ℕ). deliveries count setup world ≡ deliveries (suc fuel) setup world) (sym (suc_plus fuel more))
      (going-same fuel (fuel + more) world marked least (λ after after_marked enough_fuel. more-fuel fuel more after after_marked enough_fuel) (next_fresh world) refl)

  -- after one delivery, as after the rest
  going-idle : (fuel : ℕ) (world : World) → AreMarked world → enough world ≤ suc fuel
      → ((after : World) → AreMarked after → enough after ≤ fuel → next_fresh (world_after after (deliveries fuel setup after)) ≡ None)
      → (next : Option ℕ) → next_fresh world ≡ next → next_fresh (world_after world (Going fuel world next)) ≡ None
  going-idle fuel world marked least rest None is = is
  going-idle fuel world marked least rest (Some n) is =
      let lighter : IsLighter (enough world) (transition_of setup world (deliver n)).world = delivery-lighter setup few world marked n is in
      let less : enough (transition_of setup world (deliver n)).world < enough world = lighter.less in
      rest (transition_of setup world (deliver n)).world lighter.marked (omega arith)

  pub none-left : (fuel : ℕ) (world : World) → AreMarked world → enough world ≤ fuel → next_fresh (world_after world (deliveries fuel setup world)) ≡ None
  none-left zero world marked least = none-fresh world marked least (next_fresh world) refl
  none-left (suc fuel) world marked least =
      going-idle fuel world marked least (λ after after_marked enough_fuel. none-left fuel after after_marked enough_fuel) (next_fresh world) refl
