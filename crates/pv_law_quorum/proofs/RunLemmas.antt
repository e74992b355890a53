-- Every world of a run is sound.
use Rattle.std.proofs.Common.{◌≡◌, ℕ, zero, suc, Bool, Some, List, [], ◌∷◌, ◌++◌, replicate, refl, sym, subst, arith}
use Rattle.std.specs.Prelude.{⊤, get_or}
use Rattle.std.specs.List.{Contains}
use Rattle.std.proofs.lemmas.List.{length-replicate}
use Rattle.pv_base.proofs.ContainsLemmas.{Contains-first, Contains-behind, Contains-nil}
use Rattle.pv_base.specs.declared.txn.TxnId.{TxnId}
use Rattle.pv_law_quorum.specs.Record.{Record, value_accepted}
use Rattle.pv_law_quorum.specs.Decider.{Setup, Entry, decided}
use Rattle.pv_law_quorum.specs.World.{Decider, World, Ending, Event, proposal, delivery, stop, start, no_decider, after_event, after, opening, IsChosen, IsFit}
use Rattle.pv_law_quorum.specs.Steps.{Has, Holds, entries_in}
use Rattle.pv_law_quorum.specs.Sound.{IsSound}
use Rattle.pv_law_quorum.proofs.AgreementLemmas.{one-chosen, chosen-proposed}
use Rattle.pv_law_quorum.proofs.EventLemmas.{MayPropose, event-step}
use Rattle.pv_law_quorum.proofs.SoundLemmas.{sound-stays}
use Rattle.pv_law_quorum.proofs.StableLemmas.{chosen-stays}

abbrev first_decider : Decider
first_decider = record { records = []; memory = Some [] }

opening-each : (P : Decider → Type 0) → P first_decider → P no_decider → (count n : ℕ) → P (get_or (replicate count first_decider) n no_decider)
opening-each P first none zero n = none
opening-each P first none (suc count) zero = first
opening-each P first none (suc count) (suc n) = opening-each P first none count n

module _ (setup : Setup) (fit : IsFit setup) (Proposed : TxnId → Bool → Type 0) where
  nothing-recorded : (n : ℕ) (kept : Record) → Has (opening setup) n kept → ⊥
  nothing-recorded n kept =
      opening-each (λ (d : Decider). Contains d.records kept → ⊥) (Contains-nil kept) (Contains-nil kept) setup.deciders n

  nothing-held : (n : ℕ) (entry : Entry) → Holds (opening setup) n entry → ⊥
  nothing-held n entry =
      opening-each (λ (d : Decider). Contains (entries_in d.memory) entry → ⊥) (Contains-nil entry) (Contains-nil entry) setup.deciders n

  sound-first : IsSound setup Proposed (opening setup)
  sound-first = record {
    few = omega (arith, fit.most, length-replicate setup.deciders first_decider);
    records = λ n kept h. absurd (nothing-recorded n kept h);
    one = λ txn ballot one other h k. absurd (nothing-recorded ballot.decider (value_accepted txn ballot one) h);
    sent = λ envelope h. absurd (Contains-nil envelope h);
    entries = λ n entry h. absurd (nothing-held n entry h);
    lines = λ line h. absurd (Contains-nil line h);
  }

  sound-after : (events : List Event) (w : World) → ((event : Event) → Contains events event → MayPropose Proposed event) → IsSound setup Proposed w
      → IsSound setup Proposed (after setup w events)
  sound-after [] w may sound = sound
  sound-after (event ∷ events) w may sound =
      sound-after events (after_event setup w event) (λ other h. may other (Contains-behind event events other h))
      (sound-stays setup Proposed w sound (after_event setup w event) (event-step setup Proposed w event (may event (Contains-first event events))))

  pub sound-run : (events : List Event) → ((event : Event) → Contains events event → MayPropose Proposed event) → IsSound setup Proposed (after setup (opening setup) events)
  sound-run events may = sound-after events (opening setup) may sound-first

-- Any event proposes something.
any-proposal : (event : Event) → MayPropose (λ txn commits. ⊤) event
any-proposal (proposal n txn commits ending) = tt
any-proposal (delivery number ending) = tt
any-proposal (stop n) = tt
any-proposal (start n) = tt

chosen-after : (setup : Setup) (events : List Event) (w : World) (txn : TxnId) (commits : Bool) → IsChosen setup w txn commits → IsChosen setup (after setup w events) txn commits
chosen-after setup [] w txn commits is = is
chosen-after setup (event ∷ events) w txn commits is =
    chosen-after setup events (after_event setup w event) txn commits
    (chosen-stays setup (λ txn commits. ⊤) w (after_event setup w event) (event-step setup (λ txn commits. ⊤) w event (any-proposal event)) txn commits is)

after-append : (setup : Setup) (events more : List Event) (w : World) → after setup w (events ++ more) ≡ after setup (after setup w events) more
after-append setup [] more w = refl
after-append setup (event ∷ events) more w = after-append setup events more (after_event setup w event)

module _ (setup : Setup) (fit : IsFit setup) where
  pub sound-any : (events : List Event) → IsSound setup (λ txn commits. ⊤) (after setup (opening setup) events)
  sound-any events = sound-run setup fit (λ txn commits. ⊤) events (λ event h. any-proposal event)

  pub one-ever-chosen : (events more : List Event) (txn : TxnId) (one other : Bool) → IsChosen setup (after setup (opening setup) events) txn one
      → IsChosen setup (after setup (opening setup) (events ++ more)) txn other → one ≡ other
  one-ever-chosen events more txn one other first second =
      one-chosen setup (λ txn commits. ⊤) (after setup (opening setup) (events ++ more)) (sound-any (events ++ more)) txn one other
      (subst (λ (w : World). IsChosen setup w txn one) (sym (after-append setup events more (opening setup)))
      (chosen-after setup more (after setup (opening setup) events) txn one first))
      second

  pub decided-chosen : (events : List Event) (n : ℕ) (txn : TxnId) (commits : Bool) → Contains (after setup (opening setup) events).lines (decided n txn commits)
      → IsChosen setup (after setup (opening setup) events) txn commits
  decided-chosen events n txn commits h = (sound-any events).lines (decided n txn commits) h

  -- The value is proposed for the transaction by one of the events.
  abbrev IsAmong : List Event → TxnId → Bool → Type 0
  IsAmong events txn commits = (n : ℕ) × ((ending : Ending) × Contains events (proposal n txn commits ending))

  proposed-here : (events : List Event) (event : Event) → Contains events event → MayPropose (IsAmong events) event
  proposed-here events (proposal n txn commits ending) h = (n, (ending, h))
  proposed-here events (delivery number ending) h = tt
  proposed-here events (stop n) h = tt
  proposed-here events (start n) h = tt

  pub was-proposed : (events : List Event) (txn : TxnId) (commits : Bool) → IsChosen setup (after setup (opening setup) events) txn commits → IsAmong events txn commits
  was-proposed events txn commits is =
      chosen-proposed setup (IsAmong events) (after setup (opening setup) events)
      (sound-run setup fit (IsAmong events) events (proposed-here events)) txn commits is
