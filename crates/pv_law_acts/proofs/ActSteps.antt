-- Each act is a step.
use Rattle.std.proofs.Common.{◌≡◌, ⊎_elim, ℕ, ◌+◌, ◌<◌, ◌≤◌, true, Some, None, Option, List, [], ◌∷◌, ◌++◌, inl, inr, refl, sym, ap, subst, ◌∙◌, arith}
use Rattle.std.specs.List.{Contains}
use Rattle.std.proofs.lemmas.Option.{none-some}
use Rattle.pv_base.proofs.AssignmentLemmas.{same-from-eq}
use Rattle.pv_base.proofs.ContainsLemmas.{Contains-nil}
use Rattle.pv_base.proofs.MapLemmas.{Contains-unmap}
use Rattle.pv_base.specs.Assignment.{is_same_txn}
use Rattle.pv_base.specs.Want.{Want}
use Rattle.pv_base.specs.declared.grant.GrantId.{GrantId}
use Rattle.pv_base.specs.declared.txn.TxnId.{TxnId}
use Rattle.pv_format.specs.Contents.{greatest_epoch}
use Rattle.pv_format.specs.Message.{Envelope}
use Rattle.pv_format.specs.Record.{Record, epoch_begun, prepared, outcome_known}
use Rattle.pv_law_acts.proofs.ListLemmas.{none-found}
use Rattle.pv_law_acts.proofs.MemoryLemmas.{entry-txn, put-work, put-work-found, left-work, left-none, put-holding}
use Rattle.pv_law_acts.proofs.NumberLemmas.{passed-stays, next-unpassed, given-passed}
use Rattle.pv_law_acts.proofs.SiteLemmas.{up-within, changed-site, site-step}
use Rattle.pv_law_acts.specs.Acts as acts
use Rattle.pv_law_acts.specs.Acts.{with_content, remembered, recorded, first_entry, with_begun, with_granted, voting_of, counting, HasNothingNew, Act}
use Rattle.pv_law_acts.specs.Guards.{IsAtWork, MayBegin, MayGrant, MayTake, MayPlace, MayCount, MayCommit, MayStart, MaySend}
use Rattle.pv_law_acts.specs.Seen.{records_at, memory_at, HoldsAgeless, holdings_in, ageless_grant, ageless_entry, work_in, WorksAgeless, place_in_order, IsNumberPassed, next_txn_in, next_grant_in, txn_number, grant_number}
use Rattle.pv_law_acts.specs.Steps.{NewEntry, has_begun, has_taken, is_placed, has_counted, NewGrant, NewRecord, NewPlace, MayGrow, as_was, one_more, IsStep}
use Rattle.pv_law_step.proofs.EpochLemmas.{epoch-stays, epoch-rises}
use Rattle.pv_law_step.proofs.ConflictLemmas.{no-conflict}
use Rattle.pv_model.specs.Syntax.{Program}
use Rattle.pv_protocol.specs.Granted.{taking}
use Rattle.pv_protocol.specs.Here.{with_entry, without_entry}
use Rattle.pv_protocol.specs.Start.{just_started}
use Rattle.pv_protocol.specs.State.{Setup, Site, Grant, Taken, Entry, Running, Placed}
use Rattle.pv_protocol.specs.World.{World, site_at}

module _ (setup : Setup) (w : World) (n : ℕ) where
  of-same : (v : World) (t u : TxnId) (e f : Entry) → t ≡ u → e ≡ f → NewEntry setup w v n u f → NewEntry setup w v n t e
  of-same v t u e f txns entries new =
      subst (λ x. NewEntry setup w v n t x) (sym entries) (subst (λ x. NewEntry setup w v n x f) (sym txns) new)

  -- Of a site that is up.
  module _ (running : Running) (up : memory_at w n ≡ Some running) where
    old-work : (txn : TxnId) (entry : Entry) → work_in (Some running) txn ≡ Some entry → WorksAgeless w n txn entry
    old-work txn entry is = subst (λ (memory : Option Running). work_in memory txn ≡ Some entry) (sym up) is

    old-holding : (grant : Grant) → Contains (holdings_in (Some running)) grant → HoldsAgeless w n grant
    old-holding grant h = subst (λ (memory : Option Running). Contains (holdings_in memory) grant) (sym up) h

    now-holding : (grant : Grant) → HoldsAgeless w n grant → Contains (holdings_in (Some running)) grant
    now-holding grant h = subst (λ (memory : Option Running). Contains (holdings_in memory) grant) up h

    txns-rise : (after : List Record) (later : ℕ) → greatest_epoch after ≡ greatest_epoch (records_at w n) → running.next_txn ≤ later → (epoch number : ℕ)
        → IsNumberPassed (records_at w n) (next_txn_in (memory_at w n)) epoch number → IsNumberPassed after (Some later) epoch number
    txns-rise after later same most epoch number passed =
        passed-stays (records_at w n) after (Some running.next_txn) (Some later) (same, most) epoch number
        (subst (λ (memory : Option Running). IsNumberPassed (records_at w n) (next_txn_in memory) epoch number) up passed)

    ids-rise : (after : List Record) (later : ℕ) → greatest_epoch after ≡ greatest_epoch (records_at w n) → running.next_grant ≤ later → (epoch number : ℕ)
        → IsNumberPassed (records_at w n) (next_grant_in (memory_at w n)) epoch number → IsNumberPassed after (Some later) epoch number
    ids-rise after later same most epoch number passed =
        passed-stays (records_at w n) after (Some running.next_grant) (Some later) (same, most) epoch number
        (subst (λ (memory : Option Running). IsNumberPassed (records_at w n) (next_grant_in memory) epoch number) up passed)

    -- what the site has once it is changed
    at-changed : (P : Site → Type 0) (records : List Record) (memory : Option Running) → P (record (site_at w n) { records = records; running = memory })
        → P (site_at (with_content w n records memory) n)
    at-changed P records memory holds = subst P (sym (changed-site w n records memory (up-within w n running up))) holds

    -- An entry is put in.
    put-step : (entry : Entry) (order : List Placed)
        → let after = Some (with_entry running entry) in let v : World = record (with_content w n (records_at w n) after) { order = order } in
        NewEntry setup w v n entry.txn (record entry { age = 0 }) → MayGrow setup w v (NewPlace setup w v) w.order order → IsStep setup w v
    put-step entry order new places = site-step setup w n (records_at w n) (Some (with_entry running entry)) order (record {
      entries = λ txn found is. ⊎_elim
          (λ here. inr (of-same (record (with_content w n (records_at w n) (Some (with_entry running entry))) { order = order }) txn entry.txn found (record entry { age = 0 }) here.0 here.1 new))
          (λ old. inl (old-work txn found old))
          (put-work running entry txn found is);
      grants = λ grant h. inl (old-holding grant h);
      more = as_was refl;
      places = places;
      txns = txns-rise (records_at w n) running.next_txn refl (omega arith);
      ids = ids-rise (records_at w n) running.next_grant refl (omega arith);
    })

    -- A record is appended that isn't of an epoch.
    append-step : (more : Record) → greatest_epoch (more ∷ []) ≡ 0 → NewRecord setup w (recorded w n more (Some running)) n more
        → IsStep setup w (recorded w n more (Some running))
    append-step more none new = site-step setup w n (records_at w n ++ more ∷ []) (Some running) w.order (record {
      entries = λ txn found is. inl (old-work txn found is);
      grants = λ grant h. inl (old-holding grant h);
      more = one_more more new refl;
      places = as_was refl;
      txns = txns-rise (records_at w n ++ more ∷ []) running.next_txn (epoch-stays (records_at w n) more none) (omega arith);
      ids = ids-rise (records_at w n ++ more ∷ []) running.next_grant (epoch-stays (records_at w n) more none) (omega arith);
    })

    begin-step : (program : Program) → MayBegin setup w n running program → IsStep setup w (remembered w n (with_begun running (txn_number w n running) program))
    begin-step program may =
        let txn : TxnId = txn_number w n running in
        let more : Running = record running { next_txn = running.next_txn + 1 } in
        let new : NewEntry setup w (remembered w n (with_begun running txn program)) n txn (first_entry txn program) =
        has_begun program refl
        (λ passed. next-unpassed (records_at w n) running.next_txn
        (subst (λ (memory : Option Running). IsNumberPassed (records_at w n) (next_txn_in memory) (greatest_epoch (records_at w n)) running.next_txn) up passed))
        (at-changed (λ (s : Site). IsNumberPassed s.records (next_txn_in s.running) (greatest_epoch (records_at w n)) running.next_txn)
        (records_at w n) (Some (with_begun running txn program)) (given-passed (records_at w n) running.next_txn))
        may.runs in
        site-step setup w n (records_at w n) (Some (with_begun running txn program)) w.order (record {
          entries = λ t found is. ⊎_elim
              (λ here. inr (of-same (remembered w n (with_begun running txn program)) t txn found (first_entry txn program) here.0 here.1 new))
              (λ old. inl (old-work t found old))
              (put-work more (first_entry txn program) t found is);
          grants = λ grant h. inl (old-holding grant h);
          more = as_was refl;
          places = as_was refl;
          txns = txns-rise (records_at w n) (running.next_txn + 1) refl (omega arith);
          ids = ids-rise (records_at w n) running.next_grant refl (omega arith);
        })

    grant-step : (txn : TxnId) (wants : List Want) → MayGrant w n running txn wants → IsStep setup w (remembered w n (with_granted running txn (grant_number w n running) wants))
    grant-step txn wants may =
        let id : GrantId = grant_number w n running in
        let grant : Grant = record { txn = txn; id = id; wants = wants; age = 0 } in
        let more : Running = record running { next_grant = running.next_grant + 1 } in
        let after : Option Running = Some (with_granted running txn id wants) in
        let new : NewGrant setup w (with_content w n (records_at w n) after) n grant = record {
          fresh = λ passed. next-unpassed (records_at w n) running.next_grant
              (subst (λ (memory : Option Running). IsNumberPassed (records_at w n) (next_grant_in memory) id.epoch id.number) up passed);
          given = at-changed (λ (s : Site). IsNumberPassed s.records (next_grant_in s.running) id.epoch id.number) (records_at w n) after
              (given-passed (records_at w n) running.next_grant);
          asked = may.asked;
          first = λ other h same.
              let found = Contains-unmap ageless_grant running.grants other (now-holding other h) in
              none-found (λ (g : Grant). is_same_txn txn g.txn) running.grants may.none found.0 found.1.0
              (same-from-eq (sym (ap (λ (g : Grant). g.txn) found.1.1 ∙ same)));
          free = λ other h want held wanted has same exclusive.
              let found = Contains-unmap ageless_grant running.grants other (now-holding other h) in
              no-conflict running.grants wants may.free want.item found.0.txn (record {
                grant = found.0;
                stands = found.1.0;
                of = refl;
                want = want;
                wanted = wanted;
                held = held;
                has = subst (λ (g : Grant). Contains g.wants held) (sym found.1.1) has;
                same = (refl, sym same);
                exclusive = exclusive;
              });
          unprepared = may.unprepared;
          only = λ other h. ⊎_elim (λ old. inl (old-holding other old)) (λ is. inr is)
              (put-holding more grant other
              (subst (λ (s : Site). Contains (holdings_in s.running) other) (changed-site w n (records_at w n) after (up-within w n running up)) h));
        } in
        site-step setup w n (records_at w n) after w.order (record {
          entries = λ t found is. inl (old-work t found is);
          grants = λ other h. ⊎_elim
              (λ old. inl (old-holding other old))
              (λ is. inr (subst (λ g. NewGrant setup w (with_content w n (records_at w n) after) n g) (sym is) new))
              (put-holding more grant other h);
          more = as_was refl;
          places = as_was refl;
          txns = txns-rise (records_at w n) running.next_txn refl (omega arith);
          ids = ids-rise (records_at w n) (running.next_grant + 1) refl (omega arith);
        })

  -- Of a site at work.
  module _ (txn : TxnId) (running : Running) (entry : Entry) (work : IsAtWork w n txn running entry) where
    works : WorksAgeless w n txn (record entry { age = 0 })
    works = old-work running work.up txn (record entry { age = 0 }) (ap ageless_entry work.has)

    same-txn : txn ≡ entry.txn
    same-txn = entry-txn running txn entry work.has

    take-step : (taken : Taken) → MayTake setup w n txn entry taken
        → IsStep setup w (remembered w n (with_entry running (taking entry taken.site taken.grant taken.values)))
    take-step taken may =
        put-step running work.up (taking entry taken.site taken.grant taken.values) w.order
        (subst (λ t. NewEntry setup w (remembered w n (with_entry running (taking entry taken.site taken.grant taken.values))) n t (record (taking entry taken.site taken.grant taken.values) { age = 0 })) same-txn
        (has_taken (record entry { age = 0 }) taken works
        (record { asks = may.asks; participant = may.participant; first = may.first; reported = may.reported; right = may.right })))
        (as_was refl)

    count-step : (from : ℕ) → MayCount setup w n txn entry from → IsStep setup w (remembered w n (with_entry running (counting entry from)))
    count-step from may =
        put-step running work.up (counting entry from) w.order
        (subst (λ t. NewEntry setup w (remembered w n (with_entry running (counting entry from))) n t (record (counting entry from) { age = 0 })) same-txn
        (has_counted (record entry { age = 0 }) from works (record { asks = may.asks; participant = may.participant; reported = may.reported })))
        (as_was refl)

    place-step : MayPlace setup entry
        → IsStep setup w (record (remembered w n (with_entry running (voting_of entry))) { order = w.order ++ place_in_order entry ∷ [] })
    place-step may =
        let after : Option Running = Some (with_entry running (voting_of entry)) in
        let v : World = record (with_content w n (records_at w n) after) { order = w.order ++ place_in_order entry ∷ [] } in
        let may_now : MayPlace setup (record entry { age = 0 }) = record { asks = may.asks; whole = may.whole } in
        put-step running work.up (voting_of entry) v.order
        (subst (λ t. NewEntry setup w v n t (voting_of entry)) same-txn (is_placed (record entry { age = 0 }) works may_now refl))
        (one_more (place_in_order entry)
        (record {
          n = n;
          txn = txn;
          entry = record entry { age = 0 };
          works = works;
          may = may_now;
          is = refl;
          after = at-changed running work.up (λ (s : Site). work_in s.running txn ≡ Some (voting_of entry)) (records_at w n) after
              (subst (λ t. work_in after t ≡ Some (voting_of entry)) (sym same-txn) (put-work-found running (voting_of entry)));
        })
        refl)

    commit-step : MayCommit setup entry → IsStep setup w (recorded w n (outcome_known txn true) (Some (without_entry running txn)))
    commit-step may =
        let after : Option Running = Some (without_entry running txn) in
        let more : Record = outcome_known txn true in
        let records : List Record = records_at w n ++ more ∷ [] in
        site-step setup w n records after w.order (record {
          entries = λ t found is. inl (old-work running work.up t found (left-work running txn t found is));
          grants = λ other h. inl (old-holding running work.up other h);
          more = one_more more
              (inl (record {
                yes = refl;
                entry = record entry { age = 0 };
                works = works;
                may = record { asks = may.asks; whole = may.whole };
                over = at-changed running work.up (λ (s : Site). work_in s.running txn ≡ None) records after (left-none running txn);
              }))
              refl;
          places = as_was refl;
          txns = txns-rise running work.up records running.next_txn (epoch-stays (records_at w n) more refl) (omega arith);
          ids = ids-rise running work.up records running.next_grant (epoch-stays (records_at w n) more refl) (omega arith);
        })

  -- Of a site that is down, or goes down.

  start-step : MayStart w n
      → IsStep setup w (recorded w n (epoch_begun (greatest_epoch (records_at w n) + 1)) (Some (just_started (greatest_epoch (records_at w n) + 1))))
  start-step may =
      let epoch : ℕ = greatest_epoch (records_at w n) + 1 in
      let records : List Record = records_at w n ++ epoch_begun epoch ∷ [] in
      let rises : greatest_epoch (records_at w n) < greatest_epoch records =
      let last : greatest_epoch records ≡ epoch = epoch-rises (records_at w n) epoch (omega arith) in omega (arith, last) in
      site-step setup w n records (Some (just_started epoch)) w.order (record {
        entries = λ txn found is. absurd (none-some _ is);
        grants = λ grant h. absurd (Contains-nil grant h);
        more = one_more (epoch_begun epoch) refl refl;
        places = as_was refl;
        txns = λ e number passed. passed-stays (records_at w n) records None (Some 0) rises e number
            (subst (λ (memory : Option Running). IsNumberPassed (records_at w n) (next_txn_in memory) e number) may.down passed);
        ids = λ e number passed. passed-stays (records_at w n) records None (Some 0) rises e number
            (subst (λ (memory : Option Running). IsNumberPassed (records_at w n) (next_grant_in memory) e number) may.down passed);
      })

  down-step : IsStep setup w (with_content w n (records_at w n) None)
  down-step = site-step setup w n (records_at w n) None w.order (record {
    entries = λ txn found is. absurd (none-some _ is);
    grants = λ grant h. absurd (Contains-nil grant h);
    more = as_was refl;
    places = as_was refl;
    txns = passed-stays (records_at w n) (records_at w n) (next_txn_in (memory_at w n)) None refl;
    ids = passed-stays (records_at w n) (records_at w n) (next_grant_in (memory_at w n)) None refl;
  })

module _ (setup : Setup) (w : World) where
  send-step : (envelope : Envelope) → MaySend setup w envelope.from envelope.to envelope.message → IsStep setup w (record w { sent = w.sent ++ envelope ∷ [] })
  send-step envelope may = record {
    entries = λ n txn entry is. inl is;
    grants = λ n grant h. inl h;
    records = λ n. as_was refl;
    sent = one_more envelope may refl;
    order = as_was refl;
    txns = λ txn passed. passed;
    ids = λ n id passed. passed;
  }

  forget-step : (v : World) → HasNothingNew w v → IsStep setup w v
  forget-step v alike = record {
    entries = λ n txn entry is. inl ((alike.memories n).entries txn entry is);
    grants = λ n grant h. inl ((alike.memories n).grants grant h);
    records = λ n. as_was (sym (alike.records n));
    sent = as_was (sym alike.sent);
    order = as_was (sym alike.order);
    txns = λ txn passed.
        subst (λ (next : Option ℕ). IsNumberPassed (records_at v txn.site.0) next txn.epoch txn.number) (alike.memories txn.site.0).txns
        (subst (λ (records : List Record). IsNumberPassed records (next_txn_in (memory_at w txn.site.0)) txn.epoch txn.number) (alike.records txn.site.0) passed);
    ids = λ n id passed.
        subst (λ (next : Option ℕ). IsNumberPassed (records_at v n) next id.epoch id.number) (alike.memories n).ids
        (subst (λ (records : List Record). IsNumberPassed records (next_grant_in (memory_at w n)) id.epoch id.number) (alike.records n) passed);
  }

  pub act-step : (v : World) → Act setup w v → IsStep setup w v
  act-step v (acts.begins n running program may) = begin-step setup w n running may.up program may
  act-step v (acts.grants n running txn wants may) = grant-step setup w n running may.up txn wants may
  act-step v (acts.takes n running txn entry taken work may) = take-step setup w n txn running entry work taken may
  act-step v (acts.places n running txn entry work may) = place-step setup w n txn running entry work may
  act-step v (acts.counts n running txn entry from work may) = count-step setup w n txn running entry work from may
  act-step v (acts.promises n running txn id wants writes up may) =
      append-step setup w n running up (prepared txn writes) refl (record { id = id; wants = wants; may = may })
  act-step v (acts.commits n running txn entry work may) = commit-step setup w n txn running entry work may
  act-step v (acts.learns n running txn outcome up may) = append-step setup w n running up (outcome_known txn outcome) refl (inr may)
  act-step v (acts.starts n may) = start-step setup w n may
  act-step v (acts.goes_down n) = down-step setup w n
  act-step v (acts.sends envelope may) = send-step envelope may
  act-step v (acts.forgets other alike) = forget-step other alike
