-- Messages, records and the order stay right.
use Rattle.std.proofs.Common.{◌≡◌, ⊎_elim, ℕ, true, List, refl, sym, ap, subst, ◌∙◌}
use Rattle.std.specs.Prelude.{◌==◌}
use Rattle.std.specs.List.{Contains}
use Rattle.std.proofs.lemmas.Bool.{eqb-true}
use Rattle.pv_base.proofs.Basics.{Some_inj}
use Rattle.pv_base.proofs.MapLemmas.{Contains-map, Contains-unmap}
use Rattle.pv_base.specs.Want.{Want}
use Rattle.pv_base.specs.declared.grant.GrantId.{GrantId}
use Rattle.pv_base.specs.declared.txn.TxnId.{TxnId}
use Rattle.pv_format.specs.Message.{Message, lock, granted, denied, prepare, vote_yes, vote_no, outcome_reported, ask}
use Rattle.pv_format.specs.Record.{Record, epoch_begun, prepared, outcome_known}
use Rattle.pv_law_acts.proofs.ListLemmas.{found-listed, any-listed, all-listed, among-listed}
use Rattle.pv_law_acts.proofs.StepLemmas.{sent-each, records-each, places-each, sent-either, sent-stays, place-stays, promise-stays}
use Rattle.pv_law_acts.specs.Guards.{MaySend, MaySendLock, MaySendGranted, MaySendPrepare}
use Rattle.pv_law_acts.specs.Passed.{AreNumbersPassed, IsEntryPassed}
use Rattle.pv_law_acts.specs.Seen.{records_at, WorksAgeless, Sent, parts_of, wants_at, place_in_order, IsPassed}
use Rattle.pv_law_acts.specs.Steps.{NewEntry, has_begun, has_taken, is_placed, has_counted, NewRecord, NewPlace, IsStep}
use Rattle.pv_law_outcomes.proofs.EntryLemmas.{stage-either}
use Rattle.pv_law_outcomes.proofs.ValueLemmas.{shown-items, written-items}
use Rattle.pv_law_outcomes.specs.Coherent.{items_of, AreWantsOf, IsEntryRight, IsPlaceRight, IsWriting, IsLockRight, IsGrantedRight, IsPrepareRight, IsMessageRight, IsRecordRight, IsCoherent}
use Rattle.pv_model.specs.Alternatives.{Read}
use Rattle.pv_protocol.specs.Committed.{home_of}
use Rattle.pv_protocol.specs.Coordinate.{has_taken as has_taken_from, exclusive_items, new_value}
use Rattle.pv_protocol.specs.Here.{is_among}
use Rattle.pv_protocol.specs.Shown.{shown}
use Rattle.pv_protocol.specs.State.{Setup, Taken, Entry, TakenGrant, Placed}
use Rattle.pv_protocol.specs.World.{World}

module _ (setup : Setup) (w v : World) (step : IsStep setup w v) (passed : AreNumbersPassed w) (right : IsCoherent setup w) where
  -- A new place is that of an entry of its transaction at its site.
  pub placing-entry : (placed : Placed) (new : NewPlace setup w v placed) (txn : TxnId) → placed.txn ≡ txn → WorksAgeless w (home_of txn) txn new.entry
  placing-entry placed new txn same =
      let entry : IsEntryPassed w new.n new.txn new.entry = passed.entries new.n new.txn new.entry new.works in
      let own : new.txn ≡ txn = sym entry.own ∙ sym (ap (λ (p : Placed). p.txn) new.is) ∙ same in
      subst (λ m. WorksAgeless w m txn new.entry) (sym entry.home ∙ ap home_of own) (subst (λ t. WorksAgeless w new.n t new.entry) own new.works)

  -- A place of the order is right.
  taken-grant : (entry : Entry) (taken : Taken) → Contains entry.taken taken → Contains (place_in_order entry).grants (record { site = taken.site; grant = taken.grant })
  taken-grant entry taken h = Contains-map (λ (t : Taken). record { site = t.site; grant = t.grant }) entry.taken taken h

  grant-taken : (entry : Entry) (grant : TakenGrant) → Contains (place_in_order entry).grants grant
      → (taken : Taken) × (Contains entry.taken taken × (record { site = taken.site; grant = taken.grant } ≡ grant))
  grant-taken entry grant h = Contains-unmap (λ (t : Taken). record { site = t.site; grant = t.grant }) entry.taken grant h

  new-place : (placed : Placed) → NewPlace setup w v placed → IsPlaceRight setup placed
  new-place placed new =
      let entry : IsEntryRight setup w new.n new.txn new.entry = right.entries new.n new.txn new.entry new.works in
      subst (IsPlaceRight setup) (sym new.is)
      (record {
        runs = entry.runs;
        whole = λ n participant.
            let all : has_taken_from new.entry n ≡ true =
            all-listed (has_taken_from new.entry) (parts_of setup new.entry) new.may.whole n (among-listed (parts_of setup new.entry) n participant) in
            let found = any-listed (λ (t : Taken). t.site == n) new.entry.taken all in (
              found.0.grant,
              subst (λ m. Contains (place_in_order new.entry).grants (record { site = m; grant = found.0.grant }))
                  (eqb-true found.0.site n found.1.1) (taken-grant new.entry found.0 found.1.0),
            );
        only = λ taken h.
            let found = grant-taken new.entry taken h in
            subst (λ (t : TakenGrant). is_among (parts_of setup new.entry) t.site ≡ true) found.1.1 (entry.taken found.0 found.1.0).participant;
        one = λ taken other h k same.
            let a = grant-taken new.entry taken h in
            let b = grant-taken new.entry other k in
            let one : a.0 ≡ b.0 = entry.one a.0 b.0 a.1.0 b.1.0 (ap (λ (t : TakenGrant). t.site) a.1.1 ∙ same ∙ sym (ap (λ (t : TakenGrant). t.site) b.1.1)) in
            sym a.1.1 ∙ ap (λ (t : Taken). record { site = t.site; grant = t.grant }) one ∙ b.1.1;
      })

  pub places-right : (placed : Placed) → Contains v.order placed → IsPlaceRight setup placed
  places-right = places-each setup w v step (IsPlaceRight setup) right.places new-place

  -- Requests for locks.

  program-stays : (P : Entry → Type 0) (from : ℕ) (txn : TxnId) → IsPassed w txn → ((entry : Entry) → WorksAgeless w from txn entry → P entry)
      → ((entry : Entry) (stage : Entry) → entry.program ≡ stage.program → P entry → P stage) → (entry : Entry) → WorksAgeless v from txn entry → P entry
  program-stays P from txn given old moves entry now =
      ⊎_elim (λ was. old entry was) (λ new. by entry new) (step.entries from txn entry now) where
        by : (entry : Entry) → NewEntry setup w v from txn entry → P entry
        by entry (has_begun program home unpassed passed runs) = absurd (unpassed given)
        by entry (has_taken was taken works may) = moves was entry refl (old was works)
        by entry (is_placed was works may order) = moves was entry refl (old was works)
        by entry (has_counted was from' works may) = moves was entry refl (old was works)

  old-lock : (from to : ℕ) (txn : TxnId) (wants : List Want) → IsPassed w txn → IsLockRight setup w from to txn wants → IsLockRight setup v from to txn wants
  old-lock from to txn wants given is = record {
    home = is.home;
    placed = λ placed h. places-each setup w v step (λ (p : Placed). p.txn ≡ txn → AreWantsOf setup p.program to wants) is.placed
        (λ p new same. subst (λ (q : Placed). AreWantsOf setup q.program to wants) (sym new.is)
        (is.entry new.entry (subst (λ m. WorksAgeless w m txn new.entry) (sym is.home) (placing-entry p new txn same))))
        placed h;
    entry = program-stays (λ (e : Entry). AreWantsOf setup e.program to wants) from txn given is.entry
        (λ entry other same are. subst (λ p. AreWantsOf setup p to wants) same are);
  }

  new-lock : (from to : ℕ) (txn : TxnId) (wants : List Want) → MaySendLock setup w from to txn wants → IsLockRight setup w from to txn wants
  new-lock from to txn wants may =
      let entry_passed : IsEntryPassed w from txn may.entry = passed.entries from txn may.entry may.works in
      let entry_right : IsEntryRight setup w from txn may.entry = right.entries from txn may.entry may.works in
      let are : AreWantsOf setup may.entry.program to wants = record { participant = may.participant; are = may.wanted } in
      record {
        home = sym entry_passed.home;
        placed = λ placed h same. ⊎_elim
            (λ asks. absurd (entry_right.unplaced asks placed h same))
            (λ asks. subst (λ (p : Placed). AreWantsOf setup p.program to wants)
            (right.same_place (place_in_order may.entry) placed (entry_right.in_order asks) h (entry_passed.own ∙ sym same)) are)
            (stage-either may.entry.stage);
        entry = λ entry works. subst (λ (e : Entry). AreWantsOf setup e.program to wants) (Some_inj (sym may.works ∙ works)) are;
      }

  pub wants-same : (from to : ℕ) (txn : TxnId) (wants others : List Want) → Sent v from to (lock txn wants) → Sent v from to (lock txn others) → wants ≡ others
  wants-same from to txn wants others h k =
      ⊎_elim
      (λ old. ⊎_elim
      (λ old'. right.same_wants from to txn wants others old old')
      (λ (new' : MaySendLock setup w from to txn others). ((right.sent from to (lock txn wants) old).entry new'.entry new'.works).are ∙ sym new'.wanted)
      (sent-either setup w v step from to (lock txn others) k))
      (λ (new : MaySendLock setup w from to txn wants). ⊎_elim
      (λ old'. new.wanted ∙ sym ((right.sent from to (lock txn others) old').entry new.entry new.works).are)
      (λ (new' : MaySendLock setup w from to txn others). new.wanted ∙ ap (λ (e : Entry). wants_at setup e to) (Some_inj (sym new.works ∙ new'.works)) ∙ sym new'.wanted)
      (sent-either setup w v step from to (lock txn others) k))
      (sent-either setup w v step from to (lock txn wants) h)

  -- Other messages.

  writing-stays : (n : ℕ) (txn : TxnId) (id : GrantId) (writes : List Read) → IsWriting setup w n txn id writes → IsWriting setup v n txn id writes
  writing-stays n txn id writes is = record {
    placed = is.placed;
    in_order = place-stays setup w v step is.placed is.in_order;
    own = is.own;
    granted = is.granted;
    items = is.items;
  }

  old-message : (from to : ℕ) (message : Message) → Sent w from to message → IsMessageRight setup w from to message → IsMessageRight setup v from to message
  old-message from to (lock txn wants) h is = old-lock from to txn wants (passed.sent from to (lock txn wants) h) is
  old-message from to (granted txn id values) h is =
      record { home = is.home; wants = is.wants; asked = sent-stays setup w v step to from (lock txn is.wants) is.asked; items = is.items }
  old-message from to (denied txn item holder) h is = is
  old-message from to (prepare txn id writes) h is = record { home = is.home; writing = writing-stays to txn id writes is.writing }
  old-message from to (vote_yes txn) h is = promise-stays setup w v step from txn is
  old-message from to (vote_no txn cause) h is = tt
  old-message from to (outcome_reported txn commits) h is = tt
  old-message from to (ask txn) h is = tt

  new-granted : (from to : ℕ) (txn : TxnId) (id : GrantId) (values : List Read) → MaySendGranted setup w from to txn id values → IsGrantedRight v from to txn values
  new-granted from to txn id values may = record {
    home = may.home;
    wants = may.wants;
    asked = subst (λ n. Sent v n from (lock txn may.wants)) (sym may.home)
        (sent-stays setup w v step (home_of txn) from (lock txn may.wants) (right.asked from _ may.holds));
    items = ap items_of may.shown_now
        ∙ shown-items (λ (want : Want). shown setup.catalog (records_at w from) want.item) may.wants;
  }

  new-prepare : (from to : ℕ) (txn : TxnId) (id : GrantId) (writes : List Read) → MaySendPrepare setup w from to txn id writes → IsPrepareRight setup v from to txn id writes
  new-prepare from to txn id writes may =
      let entry_passed : IsEntryPassed w from txn may.entry = passed.entries from txn may.entry may.works in
      let entry_right : IsEntryRight setup w from txn may.entry = right.entries from txn may.entry may.works in
      let taken : Taken = record { site = to; grant = id; values = may.reads } in
      record {
        home = sym entry_passed.home;
        writing = record {
          placed = place_in_order may.entry;
          in_order = place-stays setup w v step (place_in_order may.entry) (entry_right.in_order may.asks);
          own = entry_passed.own;
          granted = taken-grant may.entry taken (found-listed (λ (t : Taken). t.site == to) may.entry.taken taken may.taken);
          items = ap items_of may.computed
              ∙ written-items (λ item. new_value (records_at w from) may.entry item) (exclusive_items (wants_at setup may.entry to));
        };
      }

  new-message : (from to : ℕ) (message : Message) → MaySend setup w from to message → IsMessageRight setup v from to message
  new-message from to (lock txn wants) may =
      old-lock from to txn wants (passed.entries from txn may.entry may.works).passed (new-lock from to txn wants may)
  new-message from to (granted txn id values) may = new-granted from to txn id values may
  new-message from to (denied txn item holder) may = may.other
  new-message from to (prepare txn id writes) may = new-prepare from to txn id writes may
  new-message from to (vote_yes txn) may = promise-stays setup w v step from txn may.prepared
  new-message from to (vote_no txn cause) may = tt
  new-message from to (outcome_reported txn commits) may = tt
  new-message from to (ask txn) may = tt

  pub sent-right : (from to : ℕ) (message : Message) → Sent v from to message → IsMessageRight setup v from to message
  sent-right = sent-each setup w v step (IsMessageRight setup v) (λ from to message h. old-message from to message h (right.sent from to message h)) new-message

  -- Records.

  old-record : (n : ℕ) (kept : Record) → IsRecordRight setup w n kept → IsRecordRight setup v n kept
  old-record n (epoch_begun epoch) is = tt
  old-record n (prepared txn writes) is = record { id = is.id; writing = writing-stays n txn is.id writes is.writing }
  old-record n (outcome_known txn commits) is = tt

  new-record : (n : ℕ) (kept : Record) → NewRecord setup w v n kept → IsRecordRight setup v n kept
  new-record n (epoch_begun epoch) new = tt
  new-record n (prepared txn writes) new =
      record { id = new.id; writing = writing-stays n txn new.id writes (right.sent (home_of txn) n (prepare txn new.id writes) new.may.asked).writing }
  new-record n (outcome_known txn commits) new = tt

  pub records-right : (n : ℕ) (kept : Record) → Contains (records_at v n) kept → IsRecordRight setup v n kept
  records-right n = records-each setup w v step n (IsRecordRight setup v n) (λ kept h. old-record n kept (right.records n kept h)) (new-record n)
