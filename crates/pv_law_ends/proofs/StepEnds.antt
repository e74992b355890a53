-- A step that notes how a transaction ends ends the work on it, and notes no transaction's end twice.
use Rattle.std.proofs.Common.{◌≡◌, ℕ, ◌+◌, true, Some, None, List, [], ◌∷◌, ◌++◌, map, sym, ap, subst, ◌∙◌}
use Rattle.std.specs.Prelude.{nat_lt, not}
use Rattle.std.specs.List.{AllPairs, Contains}
use Rattle.pv_base.proofs.AssignmentLemmas.{precedes-irrefl}
use Rattle.pv_base.proofs.MapLemmas.{Contains-map, Contains-unmap, map-map}
use Rattle.pv_base.proofs.OrderLemmas.{pairs-cons, pairs-nil}
use Rattle.pv_base.specs.Assignment.{AreAscending, precedes}
use Rattle.pv_base.specs.declared.limits.TheConstants.{TICKS}
use Rattle.pv_base.specs.declared.reply.Reply.{Reply}
use Rattle.pv_base.specs.declared.txn.TxnId.{TxnId}
use Rattle.pv_format.specs.Message.{denied, granted, vote_no, vote_yes}
use Rattle.pv_format.specs.Record.{outcome_known}
use Rattle.pv_law_acts.proofs.MemoryLemmas.{entry-txn, left-none}
use Rattle.pv_law_acts.specs.Seen.{ageless_entry, work_in}
use Rattle.pv_law_answers.proofs.NoteLemmas.{IsCommitting, commit-noted}
use Rattle.pv_law_answers.proofs.RefusalNotes.{Refuses, by_denial, by_doubt, by_room, by_time, by_vote, by_width, refusal-drops, refusal-noted}
use Rattle.pv_law_ends.proofs.Pairs.{pairs-one}
use Rattle.pv_law_ends.specs.Ends.{TellOtherEnds, TellsEnd}
use Rattle.pv_law_events.proofs.FoundLemmas.{voting-found}
use Rattle.pv_law_polyvalues.proofs.AscendingLemmas.{ascending-first, ascending-tail}
use Rattle.pv_law_step.proofs.OrderLemmas.{filter-order}
use Rattle.pv_law_step.specs.VoteCases.{voted}
use Rattle.pv_protocol.specs.Coordinate.{replies_of}
use Rattle.pv_protocol.specs.Granted.{taking}
use Rattle.pv_protocol.specs.Here.{Here, refusing}
use Rattle.pv_protocol.specs.Keyed.{AreInOrder}
use Rattle.pv_protocol.specs.Lines.{line_of}
use Rattle.pv_protocol.specs.Sound.{IsInOrder}
use Rattle.pv_protocol.specs.State.{Cause, Entry, Input, Note, Step, began, committed, expired, full, receive, refused, spent}
use Rattle.pv_protocol.specs.Step.{step_on}
use Rattle.pv_protocol.specs.Tick.{awaited, expired_entries, expiry_notes, older_entries, on_tick}
use Rattle.pv_protocol.specs.Vote.{committing}

module _ (here : Here) (ordered : IsInOrder here.running) (n : ℕ) where
  -- The two notes don't tell how one transaction ends.
  abbrev pub Apart : Note → Note → Type 0
  Apart note later = TellOtherEnds (line_of n note) (line_of n later)

  -- The step ends the work on the transaction, and notes no transaction's end twice.
  pub record Closes (txn : TxnId) (input : Input) : Type 0 where
    pub entry : Entry
    pub was : work_in (Some here.running) txn ≡ Some entry
    pub gone : work_in (Some (step_on here input).running) txn ≡ None
    pub apart : AllPairs Apart (step_on here input).notes

  -- ## Which notes there are
  alone : (step : Step) (note : Note) → step.notes ≡ note ∷ [] → AllPairs Apart step.notes
  alone step note is = subst (AllPairs Apart) (sym is) (pairs-one Apart note)

  expiries-apart : (late : List Entry) → AreInOrder (λ (e : Entry). e.txn) late → AllPairs Apart (expiry_notes here late)
  expiries-apart [] order = pairs-nil Apart
  expiries-apart (entry ∷ late) order =
      pairs-cons Apart (refused entry.txn (expired (awaited here entry))) (expiry_notes here late)
      (λ later there.
      let found = Contains-unmap (λ (e : Entry). refused e.txn (expired (awaited here e))) late later there in
      let other : Entry = found.0 in
      let before = ascending-first entry.txn (map (λ (e : Entry). e.txn) late) order other.txn (Contains-map (λ (e : Entry). e.txn) late other found.1.0) in
      subst (Apart (refused entry.txn (expired (awaited here entry)))) found.1.1
      (λ txn first second. precedes-irrefl txn (subst (λ (t : TxnId). precedes txn t ≡ true) second (subst (λ (t : TxnId). precedes t other.txn ≡ true) first before))))
      (expiries-apart late (ascending-tail entry.txn (map (λ (e : Entry). e.txn) late) order))

  tick-apart : AllPairs Apart (on_tick here).notes
  unfolding on_tick
  tick-apart =
      let older = subst AreAscending (sym (map-map (λ (e : Entry). e.txn) (λ (e : Entry). record e { age = e.age + 1 }) here.running.entries)) ordered.entries in
      expiries-apart (expired_entries (older_entries here.running.entries))
      (filter-order (λ (e : Entry). e.txn) (λ (e : Entry). not (nat_lt e.age TICKS)) (older_entries here.running.entries) older)

  module _ (txn : TxnId) where
    refusing-apart : (step : Step) (entry : Entry) (cause : Cause) → step ≡ refusing here entry cause → AllPairs Apart step.notes
    refusing-apart step entry cause is = alone step (refused entry.txn cause) (ap (λ (s : Step). s.notes) is)

    refused-apart : (input : Input) (cause : Cause) → Refuses here txn input cause → AllPairs Apart (step_on here input).notes
    refused-apart _ cause (by_width from asked grant values entry last own wide is) =
        refusing-apart (step_on here (receive from (granted asked grant values))) (taking entry from grant values) cause is
    refused-apart _ cause (by_doubt from asked grant values entry item last own doubt is) =
        refusing-apart (step_on here (receive from (granted asked grant values))) (taking entry from grant values) cause is
    refused-apart _ cause (by_denial from asked item holder entry found own heard is) =
        refusing-apart (step_on here (receive from (denied asked item holder))) entry cause is
    refused-apart _ cause (by_room from asked entry vote own crowded is) = refusing-apart (step_on here (receive from (vote_yes asked))) (voted entry from) cause is
    refused-apart _ cause (by_vote from asked reported entry vote own is) = refusing-apart (step_on here (receive from (vote_no asked reported))) entry cause is
    refused-apart _ _ (by_time late listed own) = tick-apart

    -- ## A refusal, and a commit
    refusal-closes : (input : Input) (cause : Cause) → Refuses here txn input cause → Closes txn input
    refusal-closes input cause refuses =
        let drops = refusal-drops here txn ordered input cause refuses in
        record { entry = drops.entry; was = drops.was; gone = drops.gone; apart = refused-apart input cause refuses }

    commit-closes : (input : Input) (replies : List Reply) → IsCommitting here input txn replies → Closes txn input
    commit-closes input replies is =
        let found = (voting-found here.running ordered is.asked is.entry is.vote.found).0 in
        let own : is.asked ≡ txn = entry-txn here.running is.asked is.entry found ∙ is.is in
        record {
          entry = record is.entry { age = 0 };
          was = subst (λ (t : TxnId). work_in (Some here.running) t ≡ Some (record is.entry { age = 0 })) own (ap ageless_entry found);
          gone = ap (λ (s : Step). work_in (Some s.running) txn) is.step
              ∙ subst (λ (t : TxnId). work_in (Some (committing here (voted is.entry is.from)).running) t ≡ None) is.is (left-none here.running is.entry.txn);
          apart = alone (step_on here input) (committed is.entry.txn (replies_of (here.records ++ outcome_known is.entry.txn true ∷ []) (voted is.entry is.from)))
              (ap (λ (s : Step). s.notes) is.step);
        }

    -- A step closes what one of its notes tells the end of.
    pub closes-noted : (input : Input) (note : Note) → Contains (step_on here input).notes note → TellsEnd txn (line_of n note) → Closes txn input
    closes-noted input (committed ended replies) there own =
        commit-closes input replies (commit-noted here txn replies input (subst (λ (t : TxnId). Contains (step_on here input).notes (committed t replies)) own there))
    closes-noted input (refused ended cause) there own =
        refusal-closes input cause (refusal-noted here txn cause input (subst (λ (t : TxnId). Contains (step_on here input).notes (refused t cause)) own there))
    closes-noted input (began begun) there never = absurd never
    closes-noted input (full bytes) there never = absurd never
    closes-noted input spent there never = absurd never
