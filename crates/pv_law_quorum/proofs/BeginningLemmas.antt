-- A proposal begins a ballot that is new, and all that deliveries keep holds then.
use Rattle.std.proofs.Common.{◌≡◌, ℕ, ◌+◌, ◌<◌, Bool, true, Some, None, Option, List, [], ◌∷◌, ◌++◌, length, inl, refl, sym, subst, ◌∙◌, arith}
use Rattle.std.specs.Prelude.{nat_lt, nat_le, slice_get, ⊤}
use Rattle.std.specs.List.{Contains}
use Rattle.std.proofs.lemmas.List.Elements.{Contains-append_left}
use Rattle.pv_base.proofs.ContainsLemmas.{Contains-first, Contains-nil}
use Rattle.pv_base.specs.declared.txn.TxnId.{TxnId}
use Rattle.pv_law_quorum.specs.Ballot.{Ballot, rank}
use Rattle.pv_law_quorum.specs.Record.{Record, ballot_promised, value_accepted, promised, last_vote}
use Rattle.pv_law_quorum.specs.Decider.{Setup, Message, prepare, asking, Entry, Here, propose, receive, Line, spent, full, Answer, entry_of, number_in, begin_ballot, within_limit, step}
use Rattle.pv_law_quorum.specs.World.{Decider, Envelope, World, Event, whole, delivery, proposal, decider_at, records_at, given, delivered, after_event, after, opening, IsFit}
use Rattle.pv_law_quorum.specs.Steps.{Has, entries_in, as_was, IsStep}
use Rattle.pv_law_quorum.specs.Sound.{IsValueSound, IsSound}
use Rattle.pv_law_quorum.specs.Undisturbed.{unreported, next_ballot, after_all, IsUndisturbed, IsSettled, by_full_log, by_last_number}
use Rattle.pv_law_quorum.proofs.BallotLemmas.{if-either}
use Rattle.pv_law_quorum.proofs.RecordLemmas.{named-reached, promise-named, promised-each}
use Rattle.pv_law_quorum.proofs.EventLemmas.{up-listed, event-step}
use Rattle.pv_law_quorum.proofs.SoundLemmas.{IsSmall, next-above, next-above-value, named-small, sound-stays}
use Rattle.pv_law_quorum.proofs.TurnLemmas.{none-some, put-own, single-few, others-told, among-first}
use Rattle.pv_law_quorum.proofs.StageLemmas.{After, other-same, now-here, sent-new, line-new, Stage, works}
use Rattle.pv_law_quorum.proofs.ReplyLemmas.{Any, Replied}
use Rattle.pv_law_quorum.proofs.DeliveryLemmas.{Kept, run}
use Rattle.pv_law_quorum.proofs.UndisturbedLemmas.{settles}
use Rattle.pv_law_quorum.proofs.RunLemmas.{sound-any}

-- What was reported stays so.

given-line : (setup : Setup) (u : World) (k from : ℕ) (message : Message) (memory : Option (List Entry)) (line : Line) → Contains u.lines line
    → Contains (given setup u k (receive from message) whole memory).lines line
given-line setup u k from message None line h = h
given-line setup u k from message (Some memory) line h =
    Contains-append_left u.lines (step setup (record { me = k; records = records_at u k; entries = memory }) (receive from message)).lines line h

delivered-line : (setup : Setup) (u : World) (found : Option Envelope) (line : Line) → Contains u.lines line → Contains (delivered setup u whole found).lines line
delivered-line setup u None line h = h
delivered-line setup u (Some envelope) line h = given-line setup u envelope.to envelope.from envelope.message (decider_at u envelope.to).memory line h

lines-all : (setup : Setup) (numbers : List ℕ) (u : World) (line : Line) → Contains u.lines line → Contains (after_all setup u numbers).lines line
lines-all setup [] u line h = h
lines-all setup (number ∷ numbers) u line h =
    lines-all setup numbers (after_event setup u (delivery number whole)) line (delivered-line setup u (slice_get u.sent number) line h)

-- A world from which on lines are counted anew is sound.
unreported-sound : (setup : Setup) (w : World) → IsSound setup Any w → IsSound setup Any (unreported w)
unreported-sound setup w sound = sound-stays setup Any w sound (unreported w) now where
  now : IsStep setup Any w (unreported w)
  now = record {
    count = refl;
    records = λ m. as_was refl;
    entries = λ m entry h. inl (h, λ commits has. inl has);
    sent = λ envelope h. inl h;
    lines = λ line h. absurd (Contains-nil line h);
  }

module _ (setup : Setup) (fit : IsFit setup) (w : World) (sound : IsSound setup Any w) (n : ℕ) (txn : TxnId) (commits : Bool) (members : ℕ → Bool) (numbers : List ℕ) where
  abbrev ballot : Ballot
  ballot = next_ballot w n txn

  abbrev Undisturbed : World → Type 0
  Undisturbed v = IsUndisturbed setup members n txn ballot v numbers

  abbrev Settled : World → Type 0
  Settled v = IsSettled members (after_all setup v numbers) n txn

  -- No decider has a record of the ballot.

  no-promise : Has w n (ballot_promised txn ballot) → ⊥
  no-promise h =
      let less : rank ballot < rank ballot = next-above (promised txn (records_at w n)) n (rank ballot)
      (promised-each IsSmall tt txn (records_at w n) (named-small setup Any w sound n txn))
      (named-reached txn (records_at w n) (ballot_promised txn ballot) ballot h (promise-named txn ballot)) in
      omega (arith, less)

  no-value : (value : Bool) → Has w n (value_accepted txn ballot value) → ⊥
  no-value value h =
      let less : rank ballot < rank ballot = next-above-value setup Any w sound n txn n ballot value h in
      omega (arith, less)

  fresh : (v : World) (k : ℕ) (kept : Record) → Has w k kept → Replied n txn ballot refl v k kept
  fresh v k (ballot_promised other taken) h = λ same_txn same_ballot.
      absurd (no-promise (sound.records k (ballot_promised txn ballot)
      (subst (λ (t : TxnId). Has w k (ballot_promised t ballot)) same_txn
      (subst (λ (b : Ballot). Has w k (ballot_promised other b)) same_ballot h))))
  fresh v k (value_accepted other taken value) h = λ same_txn same_ballot.
      let is : IsValueSound setup Any w txn ballot value = sound.records k (value_accepted txn ballot value)
      (subst (λ (t : TxnId). Has w k (value_accepted t ballot value)) same_txn
      (subst (λ (b : Ballot). Has w k (value_accepted other b value)) same_ballot h)) in
      absurd (no-value value is.own)

  module _ (memory : List Entry) (up : (decider_at w n).memory ≡ Some memory) where
    abbrev here : Here
    here = record { me = n; records = records_at w n; entries = memory }

    abbrev begun : Answer
    begun = begin_ballot setup here txn commits ballot

    abbrev first : Entry
    first = record { txn = txn; ballot = ballot; commits = commits; phase = asking; counted = n ∷ []; last = last_vote txn (records_at w n) }

    begun-stage : (included : members n ≡ true) → Stage setup fit.least members n included txn ballot (λ entry. ⊤) (After w n begun)
    begun-stage included =
        works first (record {
          found = subst (λ (d : Decider). entry_of txn (entries_in d.memory) ≡ Some first) (sym (now-here w n begun (up-listed w.deciders n memory up))) (put-own first memory);
          of = refl;
          taken = refl;
          few = single-few setup n fit.least;
          itself = among-first n [];
          asked = tt;
        }) tt

    begun-settled : IsSound setup Any (After w n begun) → Undisturbed (After w n begun) → Settled (After w n begun)
    begun-settled begun_sound is =
        let small : n < setup.deciders = is.within n is.own in
        let kept : Kept setup fit members n txn ballot refl small is.own (After w n begun) = record {
          sound = begun_sound;
          up = is.up;
          stage = begun-stage is.own;
          replies = λ k apart kept h. fresh (After w n begun) k kept (subst (λ (d : Decider). Contains d.records kept) (other-same w n begun k apart) h);
        } in
        settles setup fit members n txn ballot refl small is.own is.most is.within numbers (After w n begun)
        (run setup fit members n txn ballot refl small is.own numbers (After w n begun) kept is.unpassed)
        (λ k inside apart. sent-new w n begun k (prepare txn ballot) (others-told setup.deciders n (prepare txn ballot) k inside apart))
        is.delivered

    -- In the world after this answer the proposal is settled.
    abbrev Settles : Answer → Type 0
    Settles answer = IsSound setup Any (After w n answer) → Undisturbed (After w n answer) → Settled (After w n answer)

    abbrev none_left : Answer
    none_left = record { entries = memory; appended = None; sends = []; lines = spent n ∷ [] }

    proposed-settled : Settles (step setup here (propose txn commits))
    proposed-settled =
        if-either (λ (a : Answer). Settles (within_limit setup here a a.appended)) (nat_le 4294967294 (number_in (promised txn (records_at w n))))
        none_left begun
        (λ answer_sound is. by_last_number (lines-all setup numbers (After w n none_left) (spent n) (line-new w n none_left (spent n) (Contains-first (spent n) []))))
        within_log where
          within_log : Settles (within_limit setup here begun (Some (ballot_promised txn ballot)))
          within_log =
              let long = setup.length (records_at w n ++ ballot_promised txn ballot ∷ []) in
              let over : Answer = record { entries = memory; appended = None; sends = []; lines = full n long ∷ [] } in
              if-either Settles (nat_lt setup.limit long) over begun
              (λ answer_sound is. by_full_log n long is.own (lines-all setup numbers (After w n over) (full n long) (line-new w n over (full n long) (Contains-first (full n long) []))))
              begun-settled

  given-settled : (memory : Option (List Entry)) → (decider_at w n).memory ≡ memory → IsSound setup Any (given setup w n (propose txn commits) whole memory)
      → Undisturbed (given setup w n (propose txn commits) whole memory) → Settled (given setup w n (propose txn commits) whole memory)
  given-settled None down now_sound is =
      let up = is.up n is.own in absurd (none-some (sym down ∙ up.1))
  given-settled (Some memory) up now_sound is = proposed-settled memory up now_sound is

  pub proposal-settled : Undisturbed (after_event setup w (proposal n txn commits whole)) → Settled (after_event setup w (proposal n txn commits whole))
  proposal-settled is =
      given-settled (decider_at w n).memory refl
      (sound-stays setup Any w sound (after_event setup w (proposal n txn commits whole)) (event-step setup Any w (proposal n txn commits whole) tt)) is

-- After any events of a run a proposal that nothing disturbs is settled.
pub undisturbed-settled : (setup : Setup) → IsFit setup → (events : List Event) (n : ℕ) (txn : TxnId) (commits : Bool) (members : ℕ → Bool) (numbers : List ℕ)
    → IsUndisturbed setup members n txn (next_ballot (unreported (after setup (opening setup) events)) n txn)
    (after_event setup (unreported (after setup (opening setup) events)) (proposal n txn commits whole)) numbers
    → IsSettled members (after_all setup (after_event setup (unreported (after setup (opening setup) events)) (proposal n txn commits whole)) numbers) n txn
undisturbed-settled setup fit events n txn commits members numbers is =
    let w = after setup (opening setup) events in
    proposal-settled setup fit (unreported w) (unreported-sound setup w (sound-any setup fit events)) n txn commits members numbers is
