-- What a site makes of requests, of requests for locks, and of the answers to these, is some acts.
use Rattle.std.proofs.Common.{◌≡◌, ℕ, ◌+◌, ◌<◌, Bool, true, false, Some, None, Option, List, [], ◌∷◌, ◌++◌, length, map, refl, sym, ap, subst, ◌∙◌}
use Rattle.std.specs.Prelude.{not, ◌||◌, ◌==◌, if◌then◌else◌}
use Rattle.std.specs.List.{Contains, find, list_all}
use Rattle.std.proofs.lemmas.Bool.{eqb-true, false≢true}
use Rattle.std.proofs.lemmas.List.{append-nil}
use Rattle.pv_base.proofs.AssignmentLemmas.{same-from-eq}
use Rattle.pv_base.proofs.Basics.{Some_inj}
use Rattle.pv_base.proofs.ContainsLemmas.{Contains-first, Contains-behind}
use Rattle.pv_base.proofs.MapLemmas.{Contains-map, Contains-unmap}
use Rattle.pv_base.specs.Assignment.{is_same_txn, precedes}
use Rattle.pv_base.specs.Want.{Want}
use Rattle.pv_base.specs.declared.grant.GrantId.{GrantId}
use Rattle.pv_base.specs.declared.txn.TxnId.{TxnId}
use Rattle.pv_format.specs.Message.{lock, granted, denied}
use Rattle.pv_law_acts.proofs.ListLemmas.{none-found, found-listed, listed-among}
use Rattle.pv_law_acts.proofs.MemoryLemmas.{entry-txn, put-work-found}
use Rattle.pv_law_acts.specs.Acts as acts
use Rattle.pv_law_acts.specs.Acts.{with_content, remembered, with_begun, first_entry, voting_of, HasNoMore, Act, Acts, one_more}
use Rattle.pv_law_acts.specs.Guards.{MaySend}
use Rattle.pv_law_acts.specs.Seen.{records_at, holdings_in, ageless_grant, ageless_entry, work_in, Sent, place_in_order, txn_number, grant_number}
use Rattle.pv_law_events.proofs.FoundLemmas.{locking-found}
use Rattle.pv_law_events.proofs.StepActs.{IsReady, here_at, IsActs, one-act, nothing-sent, only-sent, within, idle-acts, sending-acts, then-forget, refusing-acts}
use Rattle.pv_law_events.proofs.WorldLemmas.{At, at-records, at-memory, at-again}
use Rattle.pv_format.specs.Record.{Record}
use Rattle.pv_law_step.proofs.Appended.{found-passes, grant-txn}
use Rattle.pv_law_step.proofs.Kept.{filter-map-all}
use Rattle.pv_law_step.proofs.KeyedLemmas.{of-with}
use Rattle.pv_law_step.proofs.Lists.{OfSome}
use Rattle.std.proofs.lemmas.List.Elements.{All-contains}
use Rattle.std.proofs.lemmas.Option.{none-some}
use Rattle.pv_law_step.proofs.StepCases.{submit-case, lock-case, granted-case, denied-case}
use Rattle.pv_law_step.specs.GrantCases as of_grants
use Rattle.pv_law_step.specs.GrantCases.{GrantedCase, DeniedCase, IsTaken, IsLastGrant}
use Rattle.pv_law_step.specs.LockCases as of_locks
use Rattle.pv_law_step.specs.LockCases.{SubmitCase, LockCase, IsGrantable}
use Rattle.pv_model.specs.Alternatives.{Read}
use Rattle.pv_model.specs.Check.{Part}
use Rattle.pv_model.specs.Plan.{participants_of, wants_of, part_of, plan_of}
use Rattle.pv_model.specs.Syntax.{Program}
use Rattle.pv_protocol.specs.Committed.{home_of}
use Rattle.pv_protocol.specs.Coordinate.{has_taken, has_all_grants, exclusive_items, new_value, writes_to, are_values_of}
use Rattle.pv_protocol.specs.Granted.{on_granted, on_denied, is_unawaited, is_grant_ignored, taking, taken_from, prepare_under, prepare_sends, at_lock_point}
use Rattle.pv_protocol.specs.Here.{remembering, is_among, grant_of, with_grant, with_entry}
use Rattle.pv_protocol.specs.Keyed.{of_txn, with_one}
use Rattle.pv_protocol.specs.Lock.{on_submit, on_lock, beginning, is_lock_ignored, is_home, first_conflict, values_of, granting, is_in_the_way, Conflict, conflict_or}
use Rattle.pv_protocol.specs.Records.{is_prepared}
use Rattle.pv_protocol.specs.Shown.{shown}
use Rattle.pv_protocol.specs.State.{Setup, Grant, locking, Taken, Entry, Running, Outgoing, Step}
use Rattle.pv_protocol.specs.WellFormed.{CanRun}
use Rattle.pv_protocol.specs.World.{World}

-- What is put in is there.
put-there : {X : Type 0} (txn_of : X → TxnId) (x : X) (xs : List X) → Contains (with_one txn_of x xs) x
put-there txn_of x [] = Contains-first x []
put-there txn_of x (first ∷ rest) = by (is_same_txn (txn_of x) (txn_of first)) (precedes (txn_of x) (txn_of first)) (put-there txn_of x rest) where
  by : (b c : Bool) → Contains (with_one txn_of x rest) x → Contains (if b then x ∷ rest else (if c then x ∷ (first ∷ rest) else first ∷ with_one txn_of x rest)) x
  by true c later = Contains-first x rest
  by false true later = Contains-first x (first ∷ rest)
  by false false later = Contains-behind first (with_one txn_of x rest) x later

-- tests of which none passes
pub none-of-two : (a b : Bool) → (a || b) ≡ false → (a ≡ false) × (b ≡ false)
none-of-two false b is = (refl, is)
none-of-two true b is = absurd (false≢true (sym is))

pub undenied : (b : Bool) → not b ≡ false → b ≡ true
undenied true is = refl
undenied false is = absurd (false≢true (sym is))

-- An entry put in after another one of its transaction is as if it were put in alone.
put-twice : (running : Running) (entry other : Entry) → other.txn ≡ entry.txn → HasNoMore (Some (with_entry (with_entry running entry) other)) (Some (with_entry running other))
put-twice running entry other same = record {
  txns = refl;
  ids = refl;
  entries = λ txn found is. ap ageless_entry (twice txn) ∙ is;
  grants = λ grant h. h;
} where
  by : (b c : Bool) (old : Option Entry) → c ≡ b → (if b then Some other else (if c then Some entry else old)) ≡ (if b then Some other else old)
  by true c old is = refl
  by false c old is = ap (λ t. if t then Some entry else old) is

  twice : (txn : TxnId) → of_txn (λ (e : Entry). e.txn) txn (with_one (λ (e : Entry). e.txn) other (with_one (λ (e : Entry). e.txn) entry running.entries))
      ≡ of_txn (λ (e : Entry). e.txn) txn (with_one (λ (e : Entry). e.txn) other running.entries)
  twice txn =
      of-with (λ (e : Entry). e.txn) txn other (with_one (λ (e : Entry). e.txn) entry running.entries)
      ∙ ap (λ rest. if is_same_txn txn other.txn then Some other else rest) (of-with (λ (e : Entry). e.txn) txn entry running.entries)
      ∙ by (is_same_txn txn other.txn) (is_same_txn txn entry.txn) (of_txn (λ (e : Entry). e.txn) txn running.entries) (ap (is_same_txn txn) (sym same))
      ∙ sym (of-with (λ (e : Entry). e.txn) txn other running.entries)

-- What is put in is found.
pub put-found : (running : Running) (entry : Entry) (txn : TxnId) → txn ≡ entry.txn → of_txn (λ (e : Entry). e.txn) txn (with_entry running entry).entries ≡ Some entry
put-found running entry txn same =
    of-with (λ (e : Entry). e.txn) txn entry running.entries
    ∙ ap (λ (b : Bool). if b then Some entry else of_txn (λ (e : Entry). e.txn) txn running.entries) (same-from-eq {t = txn} {u = entry.txn} same)

-- The new values of an entry don't depend on its stage.
same-value : (records : List Record) (entry : Entry) (item : ℕ) → new_value records entry item ≡ new_value records (voting_of entry) item
unfolding new_value
same-value records entry item = refl

same-writes : (records : List Record) (entry : Entry) (items : List ℕ) → writes_to records entry items ≡ writes_to records (voting_of entry) items
same-writes records entry items = λ i. map (λ (item : ℕ). record { item = item; cases = same-value records entry item i }) items

-- A conflict is over what a grant holds.
conflict-holder : (grants : List Grant) (wants : List Want) (over : Conflict) → first_conflict grants wants ≡ Some over
    → (grant : Grant) × (Contains grants grant × (grant.txn ≡ over.holder))
conflict-holder grants [] over is = absurd (none-some _ is)
conflict-holder grants (want ∷ wants) over is = by (find (is_in_the_way want) grants) refl (conflict-holder grants wants over) is where
  by : (found : Option Grant) → find (is_in_the_way want) grants ≡ found
      → (first_conflict grants wants ≡ Some over → (grant : Grant) × (Contains grants grant × (grant.txn ≡ over.holder)))
      → conflict_or want found (first_conflict grants wants) ≡ Some over → (grant : Grant) × (Contains grants grant × (grant.txn ≡ over.holder))
  by None none later same = later same
  by (Some grant) found later same =
      (grant, (found-listed (is_in_the_way want) grants grant found, ap (λ (c : Conflict). c.holder) (Some_inj same)))

module _ (setup : Setup) (w : World) (n : ℕ) (running : Running) (ready : IsReady setup w n running) where
  -- Requests.

  begin-acts : (program : Program) → CanRun setup.catalog program → IsActs setup w n (beginning (here_at setup w n running) program (txn_number w n running))
  unfolding plan_of
  begin-acts program runs =
      let txn : TxnId = txn_number w n running in
      let after : Running = with_begun running txn program in
      let more : Running = record running { next_txn = running.next_txn + 1 } in
      let there : n < length w.sites = within setup w n running ready in
      record {
        records = records_at w n;
        order = w.order;
        appends = sym (append-nil (records_at w n));
        places = sym (append-nil w.order);
        acts = one-act setup w n (remembered w n after) (acts.begins n running program (record { up = ready.up; runs = runs }));
        sends = λ sent h.
            let part = Contains-unmap (λ (part : Part). record { to = part.site; message = lock txn part.wants }) (plan_of program setup.catalog.items) sent h in
            let site = Contains-unmap (part_of program setup.catalog.items) (participants_of program setup.catalog.items) part.0 part.1.0 in
            subst (λ (o : Outgoing). MaySend setup (remembered w n after) n o.to o.message) part.1.1
            (subst (λ (p : Part). MaySend setup (remembered w n after) n p.site (lock txn p.wants)) site.1.1
            (record {
              entry = first_entry txn program;
              works = subst (λ memory. work_in memory txn ≡ Some (first_entry txn program)) (sym (at-memory w n there (records_at w n) (Some after) w.order))
                  (put-work-found more (first_entry txn program));
              participant = listed-among (participants_of program setup.catalog.items) site.0 site.1.0;
              wanted = refl;
            }));
        stops = λ more is. absurd (none-some _ is);
      }

  submit-acts : (program : Program) → CanRun setup.catalog program → (step : Step) → SubmitCase (here_at setup w n running) program step → IsActs setup w n step
  submit-acts program runs step (of_locks.no_number_left h) = idle-acts setup w n running ready _
  submit-acts program runs step (of_locks.begins h) =
      subst (λ epoch. IsActs setup w n (beginning (here_at setup w n running) program (record { site = record { 0 = n }; epoch = epoch; number = running.next_txn })))
      (sym ready.recorded) (begin-acts program runs)

  pub on-submit-acts : (program : Program) → CanRun setup.catalog program → IsActs setup w n (on_submit (here_at setup w n running) program)
  on-submit-acts program runs = submit-acts program runs _ (submit-case (here_at setup w n running) program)

  -- Requests for locks.

  -- what a request that isn't ignored comes from
  lock-heard : (from : ℕ) (txn : TxnId) (wants : List Want) → is_lock_ignored (here_at setup w n running) from txn wants ≡ false
      → (from ≡ home_of txn) × (is_prepared (records_at w n) txn ≡ false)
  lock-heard from txn wants heard =
      let own = none-of-two (not (from == txn.site.0)) _ heard in
      let homes = none-of-two (not (list_all (λ (want : Want). is_home setup.catalog n want.item) wants)) _ own.1 in
      let left = none-of-two (is_prepared (records_at w n) txn) _ homes.1 in
      (eqb-true from txn.site.0 (undenied (from == txn.site.0) own.0), left.0)

  tell-acts : (txn : TxnId) (grant : Grant) → grant_of running txn ≡ Some grant → is_prepared (records_at w n) txn ≡ false
      → IsActs setup w n (granting (here_at setup w n running) running grant)
  tell-acts txn grant found unprepared =
      let there : n < length w.sites = within setup w n running ready in
      let same : txn ≡ grant.txn = grant-txn running txn grant found in
      sending-acts setup w n running ready grant.txn.site.0 (granted grant.txn grant.id (values_of (here_at setup w n running) grant.wants))
      (record {
        wants = grant.wants;
        holds = subst (λ memory. Contains (holdings_in memory) (ageless_grant grant)) (sym (at-memory w n there (records_at w n) (Some running) w.order))
            (Contains-map ageless_grant running.grants grant (found-listed (λ (g : Grant). is_same_txn txn g.txn) running.grants grant found));
        home = refl;
        unprepared = subst (λ records. is_prepared records grant.txn ≡ false) (sym (at-records w n there (records_at w n) (Some running) w.order))
            (subst (λ t. is_prepared (records_at w n) t ≡ false) same unprepared);
        shown_now = ap (λ records. map (λ (want : Want). record { item = want.item; cases = shown setup.catalog records want.item }) grant.wants)
            (sym (at-records w n there (records_at w n) (Some running) w.order));
      })

  grant-acts : (txn : TxnId) (wants : List Want) → Sent w (home_of txn) n (lock txn wants) → is_prepared (records_at w n) txn ≡ false → grant_of running txn ≡ None
      → first_conflict running.grants wants ≡ None
      → let grant : Grant = record { txn = txn; id = grant_number w n running; wants = wants; age = 0 } in
      IsActs setup w n (granting (here_at setup w n running) (with_grant (record running { next_grant = running.next_grant + 1 }) grant) grant)
  grant-acts txn wants asked unprepared none free =
      let there : n < length w.sites = within setup w n running ready in
      let grant : Grant = record { txn = txn; id = grant_number w n running; wants = wants; age = 0 } in
      let more : Running = record running { next_grant = running.next_grant + 1 } in
      let after : Running = with_grant more grant in
      record {
        records = records_at w n;
        order = w.order;
        appends = sym (append-nil (records_at w n));
        places = sym (append-nil w.order);
        acts = one-act setup w n (remembered w n after)
            (acts.grants n running txn wants (record { up = ready.up; asked = asked; none = none; unprepared = unprepared; free = free }));
        sends = only-sent setup w n (remembered w n after) txn.site.0 (granted txn grant.id (values_of (here_at setup w n running) wants))
            (record {
              wants = wants;
              holds = subst (λ memory. Contains (holdings_in memory) grant) (sym (at-memory w n there (records_at w n) (Some after) w.order))
                  (Contains-map ageless_grant after.grants grant (put-there (λ (g : Grant). g.txn) grant running.grants));
              home = refl;
              unprepared = subst (λ records. is_prepared records txn ≡ false) (sym (at-records w n there (records_at w n) (Some after) w.order)) unprepared;
              shown_now = ap (λ records. map (λ (want : Want). record { item = want.item; cases = shown setup.catalog records want.item }) wants)
                  (sym (at-records w n there (records_at w n) (Some after) w.order));
            });
        stops = λ more is. absurd (none-some _ is);
      }

  lock-acts : (from : ℕ) (txn : TxnId) (wants : List Want) → Sent w from n (lock txn wants) → (step : Step) → LockCase (here_at setup w n running) from txn wants step
      → IsActs setup w n step
  lock-acts from txn wants asked step (of_locks.ignored h) = idle-acts setup w n running ready []
  lock-acts from txn wants asked step (of_locks.granted_again grant heard found same) = tell-acts txn grant found (lock-heard from txn wants heard).1
  lock-acts from txn wants asked step (of_locks.misfits grant heard found other) = idle-acts setup w n running ready []
  lock-acts from txn wants asked step (of_locks.denies over heard none is) =
      sending-acts setup w n running ready txn.site.0 (denied txn over.item over.holder)
      (record {
        wants = wants;
        asked = subst (λ m. Sent w m n (lock txn wants)) (lock-heard from txn wants heard).0 asked;
        home = refl;
        other = λ same.
            let holding = conflict-holder running.grants wants over is in
            none-found (λ (g : Grant). is_same_txn txn g.txn) running.grants none holding.0 holding.1.0
            (same-from-eq {t = txn} {u = holding.0.txn} (sym (holding.1.1 ∙ same)));
      })
  lock-acts from txn wants asked step (of_locks.no_grant_left may h) = idle-acts setup w n running ready _
  lock-acts from txn wants asked step (of_locks.grants may h) =
      let heard = lock-heard from txn wants may.heard in
      subst (λ epoch. let grant : Grant = record { txn = txn; id = record { epoch = epoch; number = running.next_grant }; wants = wants; age = 0 } in
      IsActs setup w n (granting (here_at setup w n running) (with_grant (record running { next_grant = running.next_grant + 1 }) grant) grant))
      (sym ready.recorded)
      (grant-acts txn wants (subst (λ m. Sent w m n (lock txn wants)) heard.0 asked) heard.1 may.none may.free)

  pub on-lock-acts : (from : ℕ) (txn : TxnId) (wants : List Want) → Sent w from n (lock txn wants) → IsActs setup w n (on_lock (here_at setup w n running) from txn wants)
  on-lock-acts from txn wants asked = lock-acts from txn wants asked _ (lock-case (here_at setup w n running) from txn wants)

  -- Answers to locks.

  -- what a grant that isn't ignored comes from
  grant-heard : (entry : Entry) (from : ℕ) (values : List Read) → is_grant_ignored (here_at setup w n running) entry from values ≡ false
      → (is_among (participants_of entry.program setup.catalog.items) from ≡ true) × (has_taken entry from ≡ false)
      × (are_values_of (wants_of entry.program setup.catalog.items from) values ≡ true)
  grant-heard entry from values heard =
      let both = none-of-two (is_unawaited (here_at setup w n running) entry from) _ heard in
      let awaited = none-of-two (not (is_among (participants_of entry.program setup.catalog.items) from)) (has_taken entry from) both.0 in (
        undenied (is_among (participants_of entry.program setup.catalog.items) from) awaited.0,
        awaited.1,
        undenied (are_values_of (wants_of entry.program setup.catalog.items from) values) both.1,
      )

  module _ (from : ℕ) (txn : TxnId) (grant : GrantId) (values : List Read) (reported : Sent w from n (granted txn grant values)) (entry : Entry)
      (taken : IsTaken (here_at setup w n running) from txn values entry) where
    found : (of_txn (λ (e : Entry). e.txn) txn running.entries ≡ Some entry) × (entry.stage ≡ locking)
    found = locking-found running ready.ordered txn entry taken.found

    abbrev with_grant_of : Entry
    with_grant_of = taking entry from grant values

    take-act : Act setup w (remembered w n (with_entry running with_grant_of))
    take-act =
        let heard = grant-heard entry from values taken.heard in
        acts.takes n running txn entry (record { site = from; grant = grant; values = values }) (record { up = ready.up; has = found.0 })
        (record { asks = found.1; participant = heard.0; first = heard.1; reported = reported; right = heard.2 })

    take-acts : IsActs setup w n (remembering (with_entry running with_grant_of))
    take-acts = record {
      records = records_at w n;
      order = w.order;
      appends = sym (append-nil (records_at w n));
      places = sym (append-nil w.order);
      acts = one-act setup w n (remembered w n (with_entry running with_grant_of)) take-act;
      sends = nothing-sent setup w n (remembered w n (with_entry running with_grant_of));
      stops = λ more is. absurd (none-some _ is);
    }

    own : txn ≡ entry.txn
    own = entry-txn running txn entry found.0

    module _ (whole : has_all_grants (here_at setup w n running) with_grant_of ≡ true) where
      abbrev Between : Running
      Between = with_entry running with_grant_of

      abbrev After : Running
      After = with_entry running (voting_of with_grant_of)

      there : n < length w.sites
      there = within setup w n running ready

      reach-acts : Acts setup w (At w n (records_at w n) (Some After) (w.order ++ place_in_order with_grant_of ∷ []))
      reach-acts =
          let u : World = At w n (records_at w n) (Some Between) w.order in
          let order = w.order ++ place_in_order with_grant_of ∷ [] in
          let act : Act setup u (record (remembered u n (with_entry Between (voting_of with_grant_of))) { order = order }) =
          acts.places n Between txn with_grant_of
          (record { up = at-memory w n there (records_at w n) (Some Between) w.order; has = put-found running with_grant_of txn own })
          (record { asks = found.1; whole = whole }) in
          then-forget setup w n there (records_at w n) (Some (with_entry Between (voting_of with_grant_of))) order (Some After)
          (one_more w u (At w n (records_at w n) (Some (with_entry Between (voting_of with_grant_of))) order) (one-act setup w n u take-act)
          (subst (Act setup u)
          (ap (λ (kept : List Record). record (with_content u n kept (Some (with_entry Between (voting_of with_grant_of)))) { order = order })
          (at-records w n there (records_at w n) (Some Between) w.order)
          ∙ at-again w n there (records_at w n) (Some Between) w.order (records_at w n) (Some (with_entry Between (voting_of with_grant_of))) order)
          act))
          (put-twice running with_grant_of (voting_of with_grant_of) refl)

      -- A participant is asked for its vote under the grant that was taken.
      asked-vote : (site : ℕ) → Contains (participants_of entry.program setup.catalog.items) site → (taken : Option Taken) → taken_from with_grant_of site ≡ taken
          → OfSome (λ (sent : Outgoing). MaySend setup (At w n (records_at w n) (Some After) (w.order ++ place_in_order with_grant_of ∷ [])) n sent.to sent.message)
          (prepare_under (here_at setup w n running) with_grant_of taken)
      asked-vote site listed None is = tt
      asked-vote site listed (Some taken) is =
          let at : taken.site ≡ site = eqb-true taken.site site (found-passes (λ (t : Taken). t.site == site) with_grant_of.taken taken is) in
          record {
            entry = voting_of with_grant_of;
            works = subst (λ memory. work_in memory entry.txn ≡ Some (voting_of with_grant_of))
                (sym (at-memory w n there (records_at w n) (Some After) (w.order ++ place_in_order with_grant_of ∷ [])))
                (put-work-found running (voting_of with_grant_of));
            asks = refl;
            participant = listed-among (participants_of entry.program setup.catalog.items) taken.site
                (subst (Contains (participants_of entry.program setup.catalog.items)) (sym at) listed);
            reads = taken.values;
            taken = subst (λ m. taken_from with_grant_of m ≡ Some taken) (sym at) is;
            computed = same-writes (records_at w n) with_grant_of (exclusive_items (wants_of entry.program setup.catalog.items taken.site))
                ∙ ap (λ records. writes_to records (voting_of with_grant_of) (exclusive_items (wants_of entry.program setup.catalog.items taken.site)))
                (sym (at-records w n there (records_at w n) (Some After) (w.order ++ place_in_order with_grant_of ∷ [])));
          }

      place-acts : IsActs setup w n (at_lock_point (here_at setup w n running) with_grant_of)
      place-acts = record {
        records = records_at w n;
        order = w.order ++ place_in_order with_grant_of ∷ [];
        appends = sym (append-nil (records_at w n));
        places = refl;
        acts = reach-acts;
        sends = λ sent h. All-contains
            (λ (sent : Outgoing). MaySend setup (At w n (records_at w n) (Some After) (w.order ++ place_in_order with_grant_of ∷ [])) n sent.to sent.message)
            (prepare_sends (here_at setup w n running) with_grant_of) sent
            (filter-map-all (λ (sent : Outgoing). MaySend setup (At w n (records_at w n) (Some After) (w.order ++ place_in_order with_grant_of ∷ [])) n sent.to sent.message)
            (λ site. prepare_under (here_at setup w n running) with_grant_of (taken_from with_grant_of site)) (participants_of entry.program setup.catalog.items)
            (λ site listed. asked-vote site listed (taken_from with_grant_of site) refl)) h;
        stops = λ more is. absurd (none-some _ is);
      }

  granted-acts : (from : ℕ) (txn : TxnId) (grant : GrantId) (values : List Read) → Sent w from n (granted txn grant values) → (step : Step)
      → GrantedCase (here_at setup w n running) from txn grant values step → IsActs setup w n step
  granted-acts from txn grant values reported step (of_grants.no_entry h) = idle-acts setup w n running ready []
  granted-acts from txn grant values reported step (of_grants.ignored entry h i) = idle-acts setup w n running ready []
  granted-acts from txn grant values reported step (of_grants.waits entry taken h) = take-acts from txn grant values reported entry taken
  granted-acts from txn grant values reported step (of_grants.too_wide entry last h) =
      refusing-acts setup w n running ready txn entry (taking entry from grant values) _ (locking-found running ready.ordered txn entry last.taken.found).0 refl
  granted-acts from txn grant values reported step (of_grants.in_doubt entry least last h doubt) =
      refusing-acts setup w n running ready txn entry (taking entry from grant values) _ (locking-found running ready.ordered txn entry last.taken.found).0 refl
  granted-acts from txn grant values reported step (of_grants.reaches_lock_point entry last h certain) = place-acts from txn grant values reported entry last.taken last.whole

  pub on-granted-acts : (from : ℕ) (txn : TxnId) (grant : GrantId) (values : List Read) → Sent w from n (granted txn grant values)
      → IsActs setup w n (on_granted (here_at setup w n running) from txn grant values)
  on-granted-acts from txn grant values reported = granted-acts from txn grant values reported _ (granted-case (here_at setup w n running) from txn grant values)

  denied-acts : (from : ℕ) (txn : TxnId) (item : ℕ) (holder : TxnId) (step : Step) → DeniedCase (here_at setup w n running) from txn item holder step → IsActs setup w n step
  denied-acts from txn item holder step (of_grants.no_entry h) = idle-acts setup w n running ready []
  denied-acts from txn item holder step (of_grants.ignored entry h i) = idle-acts setup w n running ready []
  denied-acts from txn item holder step (of_grants.refuses entry is h) =
      refusing-acts setup w n running ready txn entry entry _ (locking-found running ready.ordered txn entry is).0 refl

  pub on-denied-acts : (from : ℕ) (txn : TxnId) (item : ℕ) (holder : TxnId) → IsActs setup w n (on_denied (here_at setup w n running) from txn item holder)
  on-denied-acts from txn item holder = denied-acts from txn item holder _ (denied-case (here_at setup w n running) from txn item holder)
