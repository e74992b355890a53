-- At the end of the deliveries an undisturbed transaction has committed.
use Rattle.std.proofs.Common.{◌≡◌, ◌⊎◌, ⊎_elim, inl, inr, ℕ, ◌<◌, Bool, true, false, Some, None, Option, List, [], ◌∷◌, ◌++◌, length, eqb-true, refl, sym, subst, ◌∙◌, arith}
use Rattle.std.specs.Prelude.{◌==◌, map, slice_get}
use Rattle.std.specs.List.{Contains}
use Rattle.std.proofs.lemmas.Bool.{false≢true}
use Rattle.std.proofs.lemmas.Option.{slice_get_read}
use Rattle.pv_base.proofs.Basics.{Some_inj}
use Rattle.pv_base.proofs.ContainsLemmas.{Contains-first, Contains-behind}
use Rattle.pv_base.proofs.MapLemmas.{Contains-map}
use Rattle.pv_base.specs.declared.txn.TxnId.{TxnId}
use Rattle.pv_format.specs.Message.{Envelope, Message, lock, granted, prepare, vote_yes, txn_of}
use Rattle.pv_law_acts.proofs.ListLemmas.{any-listed, among-listed}
use Rattle.pv_law_acts.specs.Acts.{Acts, no_act}
use Rattle.pv_law_acts.specs.Seen.{memory_at, Sent}
use Rattle.pv_law_agreement.proofs.WriteLemmas.{some-value}
use Rattle.pv_law_refusals.proofs.Chains.{AreLinks}
use Rattle.pv_law_refusals.specs.Waits.{IsWaiting}
use Rattle.pv_law_complete.proofs.CommitLemmas.{there-sent, GoesOn, Effect, own-message, transition-goes}
use Rattle.pv_law_complete.proofs.GoneLemmas.{AreGone}
use Rattle.pv_law_complete.proofs.GoingLemmas.{Further, no-further, further-still, Going}
use Rattle.pv_law_complete.specs.Undisturbed.{IsConcerned, AreCalm, IsDelivered, AreDelivered}
use Rattle.pv_law_events.proofs.EventActs.{then-acts}
use Rattle.pv_law_outcomes.proofs.EntryLemmas.{two-stages, stage-either}
use Rattle.pv_law_outcomes.proofs.OutcomeLemmas.{committed-after}
use Rattle.pv_law_programs.proofs.PlanLemmas.{sites-have}
use Rattle.pv_model.specs.Events.{Event}
use Rattle.pv_model.specs.Plan.{participants_of, wants_of}
use Rattle.pv_model.specs.Syntax.{Program}
use Rattle.pv_protocol.specs.Committed.{home_of, entry_of, is_committed}
use Rattle.pv_protocol.specs.Coordinate.{has_taken}
use Rattle.pv_protocol.specs.Here.{is_among}
use Rattle.pv_protocol.specs.Places.{Place}
use Rattle.pv_protocol.specs.Run.{world_after, worlds_of}
use Rattle.pv_protocol.specs.State.{Setup, voting, Taken, Entry, Running, receive}
use Rattle.pv_protocol.specs.Waiting.{IsParticipant, HasAnswered}
use Rattle.pv_protocol.specs.World.{World}
use Rattle.pv_protocol.specs.WorldStep.{Transition}

-- the number of a message that was sent
sent-number : (world : World) (envelope : Envelope) → Contains world.sent envelope → (number : ℕ) × (slice_get world.sent number ≡ Some envelope)
sent-number world envelope h = (h.0, slice_get_read world.sent (length world.sent) h.0 envelope refl h.1 (sym h.2))

-- The last world of a run is one of its worlds.
last-listed : (first : World) (later : List Transition) → Contains (worlds_of first later) (world_after first later)
last-listed first [] = Contains-first first []
last-listed first (t ∷ later) = Contains-behind first (worlds_of t.world later) (world_after t.world later) (last-listed t.world later)

pub none-known : (memory : Option Running) (running : Running) → memory ≡ Some running → memory ≡ None → ⊥
none-known memory running some none = let wrong : ⊥ = cc in wrong

module _ (setup : Setup) (room : setup.read_names < setup.held_names) (txn : TxnId) (program : Program) where
  acts-through : (w : World) (later : List Transition) → AreLinks setup w later → Acts setup w (world_after w later)
  acts-through w [] links = no_act w
  acts-through w (t ∷ later) links = then-acts setup w t.world (world_after t.world later) links.0.acts (acts-through t.world later links.1)

  uncommitted-before : (w : World) (later : List Transition) → AreLinks setup w later → is_committed (world_after w later) txn ≡ false → is_committed w txn ≡ false
  uncommitted-before w later links last = by (is_committed w txn) refl where
    by : (b : Bool) → is_committed w txn ≡ b → b ≡ false
    by false is = refl
    by true is = absurd (false≢true (sym last ∙ committed-after setup txn w (world_after w later) (acts-through w later links) is))

  -- It goes on through all of them.
  through : (w : World) (later : List Transition) → AreGone setup w later → AreLinks setup w later → (entry : Entry) → Going setup txn program w entry
      → AreCalm setup txn program w later → is_committed (world_after w later) txn ≡ false → GoesOn setup room txn program w (world_after w later) entry
  through w [] run links entry going calm last = record { after = entry; going = going; further = no-further entry; sent = λ from to message h. h }
  through w (t ∷ later) run links entry going calm last =
      let still = uncommitted-before t.world later links.1 last in
      let first = transition-goes setup room txn program w links.0.known entry going t (calm.0 still) still run.0 in
      let rest = through t.world later run.1 links.1 first.after first.going calm.1 last in
      record {
        after = rest.after;
        going = rest.going;
        further = further-still entry first.after rest.after first.further rest.further;
        sent = λ from to message h. rest.sent from to message (first.sent from to message h);
      }

  -- What came of a message that was delivered, as the last world has it.
  record Came (first last : World) (start : Entry) (n from : ℕ) (message : Message) : Type 0 where
    before : Entry
    after : Entry
    end : Entry
    then_world : World
    effect : Effect setup room txn program before after then_world n from message
    from_before : Further before end
    from_after : Further after end
    going : Going setup txn program last end
    sent : (from to : ℕ) (message : Message) → Sent then_world from to message → Sent last from to message

  came : (w : World) (earlier : List Transition) (t : Transition) (rest : List Transition) → AreGone setup w (earlier ++ t ∷ rest) → AreLinks setup w (earlier ++ t ∷ rest)
      → (entry : Entry) → Going setup txn program w entry → AreCalm setup txn program w (earlier ++ t ∷ rest) → is_committed (world_after w (earlier ++ t ∷ rest)) txn ≡ false
      → (number n from : ℕ) (message : Message) → t.event ≡ Event.deliver number → slice_get (world_after w earlier).sent number ≡ Some (record { from = from; to = n; message = message })
      → IsConcerned setup txn program n → txn_of message ≡ txn → Came w (world_after w (earlier ++ t ∷ rest)) entry n from message
  came w [] t rest run links entry going calm last number n from message event there concerned of =
      let still = uncommitted-before t.world rest links.1 last in
      let calm_now = calm.0 still in
      let up = some-value (memory_at w n) (going.up n concerned) in
      let up_then = some-value (memory_at t.world n) (calm_now.up n concerned) in
      let makes = run.0.makes n (receive from message) (number, (event, there)) up.0 up.1 (none-known (memory_at t.world n) up_then.0 up_then.1) in
      let goes = own-message setup room txn program w links.0.known entry going t.world calm_now.up still n up.0 up.1 from message of makes
      (there-sent w number (record { from = from; to = n; message = message }) there)
      (calm_now.free n from message (record { number = number; event = event; sent = there; running = up.0; up = up.1 }) of) in
      let more = through t.world rest run.1 links.1 goes.0.after goes.0.going calm.1 last in
      record {
        before = entry;
        after = goes.0.after;
        end = more.after;
        then_world = t.world;
        effect = goes.1;
        from_before = further-still entry goes.0.after more.after goes.0.further more.further;
        from_after = more.further;
        going = more.going;
        sent = more.sent;
      }
  came w (e ∷ earlier) t rest run links entry going calm last number n from message event there concerned of =
      let still = uncommitted-before e.world (earlier ++ t ∷ rest) links.1 last in
      let first = transition-goes setup room txn program w links.0.known entry going e (calm.0 still) still run.0 in
      let more = came e.world earlier t rest run.1 links.1 first.after first.going calm.1 last number n from message event there concerned of in
      record {
        before = more.before;
        after = more.after;
        end = more.end;
        then_world = more.then_world;
        effect = more.effect;
        from_before = more.from_before;
        from_after = more.from_after;
        going = more.going;
        sent = more.sent;
      }

  module _ (first : World) (later : List Transition) (run : AreGone setup first later) (links : AreLinks setup first later) (entry : Entry) (going : Going setup txn program first entry)
      (calm : AreCalm setup txn program first later) (delivered : AreDelivered txn first later)
      (waiting : (found : Entry) → entry_of (world_after first later) txn ≡ Some found → IsWaiting setup.catalog found)
      (last : is_committed (world_after first later) txn ≡ false) where
    abbrev Last : World
    Last = world_after first later

    each-came : (n from : ℕ) (message : Message) → Sent Last from n message → IsConcerned setup txn program n → txn_of message ≡ txn → Came first Last entry n from message
    each-came n from message sent concerned of =
        let at = sent-number Last (record { from = from; to = n; message = message }) sent in
        let is : IsDelivered first later at.0 (record { from = from; to = n; message = message }) =
        delivered Last (last-listed first later) last at.0 (record { from = from; to = n; message = message }) at.1 of in
        let place : Place later = is.0 in
        subst (λ ts. Came first (world_after first ts) entry n from message) (sym place.split)
        (came first place.earlier place.transition place.later (subst (AreGone setup first) place.split run) (subst (AreLinks setup first) place.split links) entry going
        (subst (AreCalm setup txn program first) place.split calm) (subst (λ ts. is_committed (world_after first ts) txn ≡ false) place.split last)
        at.0 n from message is.1.0 is.1.1 concerned of)

    end_goes : GoesOn setup room txn program first Last entry
    end_goes = through first later run links entry going calm last

    abbrev End : Entry
    End = end_goes.after

    ends : (other : Entry) → Going setup txn program Last other → other ≡ End
    ends other going_too = Some_inj (sym going_too.works ∙ end_goes.going.works)

    part-of : (n : ℕ) → IsParticipant setup.catalog End.program n → Contains (participants_of program setup.catalog.items) n
    part-of n is =
        subst (λ p. Contains (participants_of p setup.catalog.items) n) end_goes.going.own
        (sites-have End.program 0 setup.catalog.items is.item n is.item (omega arith) is.home is.named)

    answered-lock : (n : ℕ) → Contains (participants_of program setup.catalog.items) n → (End.stage ≡ voting) ⊎ (has_taken End n ≡ true)
    answered-lock n part =
        let asked = each-came n (home_of txn) (lock txn (wants_of program setup.catalog.items n)) (end_goes.going.locks n part) (inr part) refl in
        ⊎_elim
        (λ votes. inl (subst (λ e. e.stage ≡ voting) (ends asked.end asked.going) (asked.from_before.voting votes)))
        (λ reported.
        let told_last : Sent Last n (home_of txn) (granted txn reported.0 reported.1.0) = asked.sent n (home_of txn) (granted txn reported.0 reported.1.0) reported.1.1 in
        let taken = each-came (home_of txn) n (granted txn reported.0 reported.1.0) told_last (inl refl) refl in
        ⊎_elim
        (λ votes. inl (subst (λ e. e.stage ≡ voting) (ends taken.end taken.going) (taken.from_after.voting votes)))
        (λ has. inr (subst (λ e. has_taken e n ≡ true) (ends taken.end taken.going) (taken.from_after.taken n has)))
        (taken.effect part))
        (asked.effect part)

    answered-vote : End.stage ≡ voting → (n : ℕ) → Contains (participants_of program setup.catalog.items) n → is_among End.votes n ≡ true
    answered-vote votes n part =
        let asked = end_goes.going.asked votes n part in
        let promised = each-came n (home_of txn) (prepare txn asked.0 asked.1.0) asked.1.1 (inr part) refl in
        let yes : Sent Last n (home_of txn) (vote_yes txn) = promised.sent n (home_of txn) (vote_yes txn) promised.effect in
        let counted = each-came (home_of txn) n (vote_yes txn) yes (inl refl) refl in
        subst (λ e. is_among e.votes n ≡ true) (ends counted.end counted.going) (counted.from_after.votes n (counted.effect refl part))

    pub never-open : ⊥
    never-open =
        let waits = waiting End end_goes.going.works in
        let part = part-of waits.n waits.participant in
        ⊎_elim
        (λ locks.
        ⊎_elim
        (λ votes. two-stages (sym votes ∙ locks))
        (λ has.
        let found = any-listed (λ (taken : Taken). taken.site == waits.n) End.taken has in
        waits.silent (subst (λ stage. HasAnswered stage End waits.n) (sym locks)
        (subst (Contains (map (λ (taken : Taken). taken.site) End.taken)) (eqb-true found.0.site waits.n found.1.1)
        (Contains-map (λ (taken : Taken). taken.site) End.taken found.0 found.1.0))))
        (answered-lock waits.n part))
        (λ votes. waits.silent (subst (λ stage. HasAnswered stage End waits.n) (sym votes) (among-listed End.votes waits.n (answered-vote votes waits.n part))))
        (stage-either End.stage)
