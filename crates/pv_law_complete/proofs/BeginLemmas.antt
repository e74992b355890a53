-- A transaction that is submitted begins.
use Rattle.std.proofs.Common.{◌≡◌, ◌⊎◌, ⊎_elim, inl, inr, ℕ, Bool, Some, [], refl, sym, ap, subst, ◌∙◌}
use Rattle.std.specs.Prelude.{IsSome, if◌then◌else◌}
use Rattle.std.specs.List.{Contains}
use Rattle.std.proofs.lemmas.Bool.{false≢true}
use Rattle.std.proofs.lemmas.List.Elements.{Contains-append_cases, Contains-append_right}
use Rattle.pv_base.proofs.AssignmentLemmas.{same-from-eq}
use Rattle.pv_base.proofs.MapLemmas.{Contains-map, Contains-unmap}
use Rattle.pv_base.specs.declared.txn.TxnId.{TxnId}
use Rattle.pv_format.specs.Message.{Message, lock, granted, denied, vote_no}
use Rattle.pv_law_acts.proofs.NumberLemmas.{next-unpassed}
use Rattle.pv_law_acts.specs.Seen.{records_at, memory_at, Sent, IsPassed, IsNumberPassed, next_txn_in}
use Rattle.pv_law_complete.proofs.EndLemmas.{none-known}
use Rattle.pv_law_complete.proofs.GoesLemmas.{MakesItsStep}
use Rattle.pv_law_complete.proofs.GoneLemmas.{HasGone}
use Rattle.pv_law_complete.proofs.GoingLemmas.{Going}
use Rattle.pv_law_complete.specs.Undisturbed.{IsConcerned, here_in, IsSubmitted}
use Rattle.pv_law_agreement.proofs.WriteLemmas.{some-value}
use Rattle.pv_law_events.proofs.EventActs.{IsKnown}
use Rattle.pv_law_outcomes.proofs.EntryLemmas.{two-stages}
use Rattle.pv_law_step.proofs.KeyedLemmas.{of-with}
use Rattle.pv_law_step.proofs.StepCases.{submit-case}
use Rattle.pv_law_step.specs.LockCases as of_locks
use Rattle.pv_model.specs.Check.{Part}
use Rattle.pv_model.specs.Plan.{participants_of, wants_of, plan_of, part_of}
use Rattle.pv_model.specs.Syntax.{Program}
use Rattle.pv_protocol.specs.Committed.{home_of, entry_in}
use Rattle.pv_protocol.specs.Here.{Here}
use Rattle.pv_protocol.specs.Keyed.{of_txn}
use Rattle.pv_protocol.specs.Lock.{next_txn, on_submit, beginning, lock_sends}
use Rattle.pv_protocol.specs.State.{Setup, locking, Entry, submit, Outgoing, Step}
use Rattle.pv_protocol.specs.World.{World, from_site}
use Rattle.pv_protocol.specs.WorldStep.{Transition}

-- Each participant is asked for its locks.
part-asked : (setup : Setup) (txn : TxnId) (program : Program) (n : ℕ) → Contains (participants_of program setup.catalog.items) n
    → Contains (lock_sends txn (plan_of program setup.catalog.items)) (record { to = n; message = lock txn (wants_of program setup.catalog.items n) })
unfolding plan_of
part-asked setup txn program n part =
    Contains-map (λ (p : Part). record { to = p.site; message = lock txn p.wants }) (plan_of program setup.catalog.items) (part_of program setup.catalog.items n)
    (Contains-map (part_of program setup.catalog.items) (participants_of program setup.catalog.items) n part)

module _ (setup : Setup) (txn : TxnId) (program : Program) (w : World) (is_known : IsKnown setup w) (t : Transition) (gone : HasGone setup w t)
    (submitted : IsSubmitted setup w t txn program) (ups : (n : ℕ) → IsConcerned setup txn program n → IsSome (memory_at t.world n)) where
  abbrev Home : ℕ
  Home = home_of txn

  abbrev At : Here
  At = here_in setup w Home submitted.running

  next-is : next_txn At ≡ txn
  next-is = λ i. record { site = txn.site; epoch = (sym submitted.epoch) i; number = (sym submitted.number) i }

  unpassed : IsPassed w txn → ⊥
  unpassed passed =
      let next : IsNumberPassed (records_at w Home) (next_txn_in (memory_at w Home)) submitted.running.epoch submitted.running.next_txn = subst (IsPassed w) (sym next-is) passed in
      next-unpassed (records_at w Home) submitted.running.next_txn
      (subst (λ epoch. IsNumberPassed (records_at w Home) (Some submitted.running.next_txn) epoch submitted.running.next_txn) (is_known.recorded Home submitted.running submitted.up)
      (subst (λ memory. IsNumberPassed (records_at w Home) (next_txn_in memory) submitted.running.epoch submitted.running.next_txn) submitted.up next))

  abbrev pub New : Entry
  New = record { txn = next_txn At; program = program; stage = locking; age = 0; taken = []; votes = [] }

  begun-going : MakesItsStep w t.world Home (beginning At program (next_txn At)) → Going setup txn program t.world New
  begun-going makes =
      let sends = lock_sends (next_txn At) (plan_of program setup.catalog.items) in
      let either : (from to : ℕ) (message : Message) → Sent t.world from to message → Sent w from to message ⊎ Contains sends (record { to = to; message = message }) =
      λ from to message h.
      ⊎_elim
      (λ old. inl old)
      (λ new.
      let which = Contains-unmap (λ (o : Outgoing). record { from = Home; to = o.to; message = o.message }) sends (record { from = from; to = to; message = message }) new in
      inr (subst (Contains sends) (λ i. record { to = (which.1.1 i).to; message = (which.1.1 i).message }) which.1.0))
      (Contains-append_cases w.sent (from_site Home sends) _ (subst (λ all. Contains all (record { from = from; to = to; message = message })) makes.sent h)) in
      let locks : (o : Outgoing) → Contains sends o → (p : Part) × (record { to = p.site; message = lock (next_txn At) p.wants } ≡ o) =
      λ o h. let which = Contains-unmap (λ (p : Part). record { to = p.site; message = lock (next_txn At) p.wants }) (plan_of program setup.catalog.items) o h in (which.0, which.1.1) in
      record {
        works = ap (λ memory. entry_in memory txn) makes.memory
            ∙ (of-with (λ (e : Entry). e.txn) txn New submitted.running.entries
            ∙ ap (λ (b : Bool). if b then Some New else of_txn (λ (e : Entry). e.txn) txn submitted.running.entries) (same-from-eq {t = txn} {u = next_txn At} (sym next-is)));
        own = refl;
        few = λ votes. absurd (two-stages (sym votes));
        up = ups;
        undenied = λ from part item holder sent.
            ⊎_elim
            (λ old. unpassed (is_known.settled.sound.passed.sent from Home (denied txn item holder) old))
            (λ new. let wrong = ap (λ (o : Outgoing). o.message) (locks _ new).1 in let no : ⊥ = cc in no)
            (either from Home (denied txn item holder) sent);
        no_no = λ from part cause sent.
            ⊎_elim
            (λ old. unpassed (is_known.settled.sound.passed.sent from Home (vote_no txn cause) old))
            (λ new. let wrong = ap (λ (o : Outgoing). o.message) (locks _ new).1 in let no : ⊥ = cc in no)
            (either from Home (vote_no txn cause) sent);
        stands = λ n part id values sent running up.
            ⊎_elim
            (λ old. absurd (unpassed (is_known.settled.sound.passed.sent n Home (granted txn id values) old).0))
            (λ new. let wrong = ap (λ (o : Outgoing). o.message) (locks _ new).1 in absurd (let no : ⊥ = cc in no))
            (either n Home (granted txn id values) sent);
        asked = λ votes. absurd (two-stages (sym votes));
        locks = λ n part.
            subst (λ all. Contains all (record { from = Home; to = n; message = lock txn (wants_of program setup.catalog.items n) })) (sym makes.sent)
            (Contains-append_right w.sent (from_site Home sends) _
            (Contains-map (λ (o : Outgoing). record { from = Home; to = o.to; message = o.message }) sends (record { to = n; message = lock txn (wants_of program setup.catalog.items n) })
            (subst (λ x. Contains {X = Outgoing} (lock_sends x (plan_of program setup.catalog.items)) (record { to = n; message = lock txn (wants_of program setup.catalog.items n) })) (sym next-is)
            (part-asked setup txn program n part))));
      }

  by-case : (step : Step) → of_locks.SubmitCase At program step → MakesItsStep w t.world Home step → Going setup txn program t.world New
  by-case step (of_locks.no_number_left spent) makes = absurd (false≢true (sym submitted.left ∙ spent))
  by-case step (of_locks.begins some) makes = begun-going makes

  pub begins-going : Going setup txn program t.world New
  begins-going =
      let up_then = some-value (memory_at t.world Home) (ups Home (inl refl)) in
      by-case (on_submit At program) (submit-case At program)
      (gone.makes Home (submit program) (submitted.query, (submitted.text, submitted.event)) submitted.running submitted.up (none-known (memory_at t.world Home) up_then.0 up_then.1))
