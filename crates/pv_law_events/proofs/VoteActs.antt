-- What a site makes of votes is some acts.
use Rattle.std.proofs.Common.{◌≡◌, ℕ, ◌<◌, Bool, true, false, Some, None, Option, List, [], ◌∷◌, ◌++◌, length, refl, sym, ap, subst, ◌∙◌}
use Rattle.std.specs.Prelude.{not, ◌==◌, if◌then◌else◌}
use Rattle.std.specs.List.{Contains, list_any}
use Rattle.std.proofs.lemmas.Bool.{eqb-true}
use Rattle.std.proofs.lemmas.List.{append-nil}
use Rattle.std.proofs.lemmas.Option.{none-some}
use Rattle.pv_base.proofs.MapLemmas.{Contains-map, Contains-unmap}
use Rattle.pv_base.specs.Assignment.{is_same_txn}
use Rattle.pv_base.specs.declared.grant.GrantId.{GrantId}
use Rattle.pv_base.specs.declared.txn.TxnId.{TxnId}
use Rattle.pv_format.specs.Message.{NoCause, prepare, vote_yes, vote_no, outcome_reported}
use Rattle.pv_format.specs.Record.{Record, prepared, outcome_known}
use Rattle.pv_law_acts.proofs.ListLemmas.{found-listed, listed-last}
use Rattle.pv_law_acts.proofs.MemoryLemmas.{entry-txn, left-holding}
use Rattle.pv_law_acts.proofs.RecordLemmas.{listed-prepared, listed-yes}
use Rattle.pv_law_acts.specs.Acts as acts
use Rattle.pv_law_acts.specs.Acts.{with_content, remembered, recorded, HasNoMore, Act, Acts, one_more}
use Rattle.pv_law_acts.specs.Guards.{MaySend}
use Rattle.pv_law_acts.specs.Seen.{records_at, holdings_in, ageless_grant, ageless_entry, Sent}
use Rattle.pv_law_events.proofs.FoundLemmas.{voting-found, aged-no-more}
use Rattle.pv_law_events.proofs.LockActs.{none-of-two, undenied, put-found}
use Rattle.pv_law_events.proofs.StepActs.{IsReady, here_at, IsActs, one-act, nothing-sent, only-sent, then-forget, then-down, within, idle-acts, sending-acts, found-works, refusing-acts}
use Rattle.pv_law_events.proofs.WorldLemmas.{At, at-records, at-memory, at-again}
use Rattle.pv_law_outcomes.proofs.OpenLemmas.{same-grant}
use Rattle.pv_law_step.proofs.Appended.{grant-txn}
use Rattle.pv_law_step.proofs.KeyedLemmas.{of-with, of-without}
use Rattle.pv_law_step.proofs.StepCases.{prepare-case, yes-case, no-case}
use Rattle.pv_law_step.specs.VoteCases as of_votes
use Rattle.pv_law_step.specs.VoteCases.{PrepareCase, YesCase, NoCase, voted}
use Rattle.pv_model.specs.Alternatives.{Read}
use Rattle.pv_model.specs.Plan.{participants_of}
use Rattle.pv_protocol.specs.Committed.{home_of, says_yes}
use Rattle.pv_protocol.specs.Coordinate.{has_all_votes}
use Rattle.pv_protocol.specs.Here.{remembering, is_among, grant_of, with_grant, without_grant, with_entry, without_entry}
use Rattle.pv_protocol.specs.Keyed.{of_txn, with_one, without}
use Rattle.pv_protocol.specs.Records.{is_prepared}
use Rattle.pv_protocol.specs.State.{Setup, Grant, voting, Entry, Running, Outgoing, Step}
use Rattle.pv_protocol.specs.Vote.{on_prepare, on_yes, on_no, promising, committing, others_than}
use Rattle.pv_protocol.specs.World.{World}

-- What is put in and taken out again is as if it hadn't been put in.
put-and-dropped : (running : Running) (entry : Entry)
    → HasNoMore (Some (without_entry (with_entry running entry) entry.txn)) (Some (without_grant (without_entry running entry.txn) entry.txn))
put-and-dropped running entry = record {
  txns = refl;
  ids = refl;
  entries = λ txn found is. ap ageless_entry (same txn) ∙ is;
  grants = left-holding running entry.txn;
} where
  by : (b : Bool) (old : Option Entry) → (if b then None else (if b then Some entry else old)) ≡ (if b then None else old)
  by true old = refl
  by false old = refl

  same : (txn : TxnId) → of_txn (λ (e : Entry). e.txn) txn (without (λ (e : Entry). e.txn) entry.txn (with_one (λ (e : Entry). e.txn) entry running.entries))
      ≡ of_txn (λ (e : Entry). e.txn) txn (without (λ (e : Entry). e.txn) entry.txn running.entries)
  same txn =
      of-without (λ (e : Entry). e.txn) txn entry.txn (with_one (λ (e : Entry). e.txn) entry running.entries)
      ∙ ap (λ rest. if is_same_txn txn entry.txn then None else rest) (of-with (λ (e : Entry). e.txn) txn entry running.entries)
      ∙ by (is_same_txn txn entry.txn) (of_txn (λ (e : Entry). e.txn) txn running.entries)
      ∙ sym (of-without (λ (e : Entry). e.txn) txn entry.txn running.entries)

module _ (setup : Setup) (w : World) (n : ℕ) (running : Running) (ready : IsReady setup w n running) where
  there : n < length w.sites
  there = within setup w n running ready

  -- The participant.

  -- a yes, where the transaction is prepared
  yes-acts : (txn : TxnId) → is_prepared (records_at w n) txn ≡ true → IsActs setup w n (record { running = running; appended = None; sends = record { to = txn.site.0; message = vote_yes txn } ∷ []; notes = []; placed = None })
  yes-acts txn is =
      sending-acts setup w n running ready txn.site.0 (vote_yes txn)
      (record {
        prepared = subst (λ records. is_prepared records txn ≡ true) (sym (at-records w n there (records_at w n) (Some running) w.order)) is;
        home = refl;
      })

  -- a no, where the transaction's site asks
  no-acts : (txn : TxnId) (grant : GrantId) (writes : List Read) (cause : NoCause) → Sent w (home_of txn) n (prepare txn grant writes)
      → IsActs setup w n (record { running = running; appended = None; sends = record { to = txn.site.0; message = vote_no txn cause } ∷ []; notes = []; placed = None })
  no-acts txn grant writes cause asked =
      sending-acts setup w n running ready txn.site.0 (vote_no txn cause) (record { id = grant; writes = writes; asked = asked; home = refl })

  own-asks : (from : ℕ) (txn : TxnId) (grant : GrantId) (writes : List Read) → Sent w from n (prepare txn grant writes) → (from == txn.site.0) ≡ true
      → Sent w (home_of txn) n (prepare txn grant writes)
  own-asks from txn grant writes asked own = subst (λ m. Sent w m n (prepare txn grant writes)) (eqb-true from txn.site.0 own) asked

  promise-acts : (txn : TxnId) (grant : GrantId) (writes : List Read) (standing : Grant) → Sent w (home_of txn) n (prepare txn grant writes) → is_prepared (records_at w n) txn ≡ false
      → grant_of running txn ≡ Some standing → grant ≡ standing.id → IsActs setup w n (promising (here_at setup w n running) standing writes)
  promise-acts txn grant writes standing asked unprepared found same =
      let own : txn ≡ standing.txn = grant-txn running txn standing found in
      let more : Record = prepared standing.txn writes in
      let records : List Record = records_at w n ++ more ∷ [] in
      let after : Running = with_grant running (record standing { age = 0 }) in
      let so_far : Acts setup w (At w n records (Some running) w.order) =
      one-act setup w n (recorded w n more (Some running))
      (acts.promises n running standing.txn standing.id standing.wants writes ready.up
      (record {
        asked = subst (λ id. Sent w (home_of standing.txn) n (prepare standing.txn id writes)) same (subst (λ t. Sent w (home_of t) n (prepare t grant writes)) own asked);
        holds = subst (λ memory. Contains (holdings_in memory) (ageless_grant standing)) (sym ready.up)
            (Contains-map ageless_grant running.grants standing (found-listed (λ (g : Grant). is_same_txn txn g.txn) running.grants standing found));
        unprepared = subst (λ t. is_prepared (records_at w n) t ≡ false) own unprepared;
      })) in
      record {
        records = records;
        order = w.order;
        appends = refl;
        places = sym (append-nil w.order);
        acts = then-forget setup w n there records (Some running) w.order (Some after) so_far (aged-no-more running txn standing found);
        sends = only-sent setup w n (At w n records (Some after) w.order) standing.txn.site.0 (vote_yes standing.txn)
            (record {
              prepared = subst (λ kept. is_prepared kept standing.txn ≡ true) (sym (at-records w n there records (Some after) w.order))
                  (listed-prepared records standing.txn writes (listed-last (records_at w n) more));
              home = refl;
            });
        stops = λ other is. then-down setup w n there records (Some running) w.order so_far;
      }

  prepare-acts : (from : ℕ) (txn : TxnId) (grant : GrantId) (writes : List Read) → Sent w from n (prepare txn grant writes) → (step : Step)
      → PrepareCase (here_at setup w n running) from txn grant writes step → IsActs setup w n step
  prepare-acts from txn grant writes asked step (of_votes.not_its_site h) = idle-acts setup w n running ready []
  prepare-acts from txn grant writes asked step (of_votes.again own is) = yes-acts txn is
  prepare-acts from txn grant writes asked step (of_votes.none_stands may none) = no-acts txn grant writes _ (own-asks from txn grant writes asked may.own)
  prepare-acts from txn grant writes asked step (of_votes.other_stands standing may found other) = no-acts txn grant writes _ (own-asks from txn grant writes asked may.own)
  prepare-acts from txn grant writes asked step (of_votes.ignored standing may stands h) = idle-acts setup w n running ready []
  prepare-acts from txn grant writes asked step (of_votes.no_room standing may stands right h) =
      no-acts standing.txn grant writes _
      (subst (λ t. Sent w (home_of t) n (prepare t grant writes)) (grant-txn running txn standing stands.found) (own-asks from txn grant writes asked may.own))
  prepare-acts from txn grant writes asked step (of_votes.promises standing may stands right room) =
      promise-acts txn grant writes standing (own-asks from txn grant writes asked may.own) may.unprepared stands.found (same-grant grant standing.id stands.same)

  pub on-prepare-acts : (from : ℕ) (txn : TxnId) (grant : GrantId) (writes : List Read) → Sent w from n (prepare txn grant writes)
      → IsActs setup w n (on_prepare (here_at setup w n running) from txn grant writes)
  on-prepare-acts from txn grant writes asked = prepare-acts from txn grant writes asked _ (prepare-case (here_at setup w n running) from txn grant writes)

  -- The coordinator.

  module _ (from : ℕ) (txn : TxnId) (reported : Sent w from n (vote_yes txn)) (entry : Entry) (vote : of_votes.IsVote (here_at setup w n running) from txn entry) where
    found : (of_txn (λ (e : Entry). e.txn) txn running.entries ≡ Some entry) × (entry.stage ≡ voting)
    found = voting-found running ready.ordered txn entry vote.found

    own : txn ≡ entry.txn
    own = entry-txn running txn entry found.0

    abbrev Between : Running
    Between = with_entry running (voted entry from)

    count-act : Act setup w (remembered w n Between)
    count-act =
        let heard = none-of-two (not (is_among (participants_of entry.program setup.catalog.items) from)) _ vote.heard in
        acts.counts n running txn entry from (record { up = ready.up; has = found.0 })
        (record { asks = found.1; participant = undenied (is_among (participants_of entry.program setup.catalog.items) from) heard.0; reported = reported })

    count-acts : IsActs setup w n (remembering Between)
    count-acts = record {
      records = records_at w n;
      order = w.order;
      appends = sym (append-nil (records_at w n));
      places = sym (append-nil w.order);
      acts = one-act setup w n (remembered w n Between) count-act;
      sends = nothing-sent setup w n (remembered w n Between);
      stops = λ more is. absurd (none-some _ is);
    }

    module _ (whole : has_all_votes (here_at setup w n running) (voted entry from) ≡ true) where
      abbrev Records : List Record
      Records = records_at w n ++ outcome_known entry.txn true ∷ []

      abbrev Decided : Option Running
      Decided = Some (without_entry Between entry.txn)

      abbrev After : Running
      After = without_grant (without_entry running entry.txn) entry.txn

      decide-acts : Acts setup w (At w n Records Decided w.order)
      decide-acts =
          let u : World = At w n (records_at w n) (Some Between) w.order in
          let act : Act setup u (recorded u n (outcome_known entry.txn true) Decided) =
          acts.commits n Between entry.txn (voted entry from)
          (record { up = at-memory w n there (records_at w n) (Some Between) w.order; has = put-found running (voted entry from) entry.txn refl })
          (record { asks = found.1; whole = whole }) in
          one_more w u (At w n Records Decided w.order) (one-act setup w n u count-act)
          (subst (Act setup u)
          (ap (λ (kept : List Record). with_content u n (kept ++ outcome_known entry.txn true ∷ []) Decided) (at-records w n there (records_at w n) (Some Between) w.order)
          ∙ at-again w n there (records_at w n) (Some Between) w.order Records Decided w.order)
          act)

      home : n ≡ home_of entry.txn
      home = sym (subst (λ t. home_of t ≡ n) own (ready.settled.sound.passed.entries n txn (record entry { age = 0 }) (found-works setup w n running ready txn entry found.0)).home)

      commit-acts : IsActs setup w n (committing (here_at setup w n running) (voted entry from))
      commit-acts = record {
        records = Records;
        order = w.order;
        appends = refl;
        places = sym (append-nil w.order);
        acts = then-forget setup w n there Records Decided w.order (Some After) decide-acts (put-and-dropped running (voted entry from));
        sends = λ sent h.
            let v : World = At w n Records (Some After) w.order in
            let which = Contains-unmap (λ site. record { to = site; message = outcome_reported entry.txn true }) (others_than n (participants_of entry.program setup.catalog.items)) sent h in
            subst (λ (o : Outgoing). MaySend setup v n o.to o.message) which.1.1
            (record {
              home = home;
              outcome = subst (λ m. list_any (says_yes entry.txn) (records_at v m) ≡ true) home
                  (subst (λ records. list_any (says_yes entry.txn) records ≡ true) (sym (at-records w n there Records (Some After) w.order))
                  (listed-yes Records entry.txn (listed-last (records_at w n) (outcome_known entry.txn true))));
            });
        stops = λ other is. then-down setup w n there Records Decided w.order decide-acts;
      }

  yes-case-acts : (from : ℕ) (txn : TxnId) → Sent w from n (vote_yes txn) → (step : Step) → YesCase (here_at setup w n running) from txn step → IsActs setup w n step
  yes-case-acts from txn reported step (of_votes.no_entry h) = idle-acts setup w n running ready []
  yes-case-acts from txn reported step (of_votes.ignored entry h i) = idle-acts setup w n running ready []
  yes-case-acts from txn reported step (of_votes.waits entry vote h) = count-acts from txn reported entry vote
  yes-case-acts from txn reported step (of_votes.no_room entry vote whole h) =
      refusing-acts setup w n running ready txn entry (voted entry from) _ (voting-found running ready.ordered txn entry vote.found).0 refl
  yes-case-acts from txn reported step (of_votes.commits entry vote whole room) = commit-acts from txn reported entry vote whole

  pub on-yes-acts : (from : ℕ) (txn : TxnId) → Sent w from n (vote_yes txn) → IsActs setup w n (on_yes (here_at setup w n running) from txn)
  on-yes-acts from txn reported = yes-case-acts from txn reported _ (yes-case (here_at setup w n running) from txn)

  no-case-acts : (from : ℕ) (txn : TxnId) (cause : NoCause) (step : Step) → NoCase (here_at setup w n running) from txn cause step → IsActs setup w n step
  no-case-acts from txn cause step (of_votes.no_entry h) = idle-acts setup w n running ready []
  no-case-acts from txn cause step (of_votes.ignored entry h i) = idle-acts setup w n running ready []
  no-case-acts from txn cause step (of_votes.refuses entry vote) =
      refusing-acts setup w n running ready txn entry entry _ (voting-found running ready.ordered txn entry vote.found).0 refl

  pub on-no-acts : (from : ℕ) (txn : TxnId) (cause : NoCause) → IsActs setup w n (on_no (here_at setup w n running) from txn cause)
  on-no-acts from txn cause = no-case-acts from txn cause _ (no-case (here_at setup w n running) from txn cause)
