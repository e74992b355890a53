-- A transaction that nothing disturbs goes on: what each step leaves of that.
use Rattle.std.proofs.Common.{◌≡◌, ◌≢◌, ◌⊎◌, ⊎_elim, inl, inr, ℕ, ◌≤◌, Bool, true, false, Some, Option, List, length, eqb-true, eq-eqb, refl, sym, ap, subst, ◌∙◌}
use Rattle.std.specs.Prelude.{◌==◌, IsSome}
use Rattle.std.specs.List.{Contains}
use Rattle.std.proofs.lemmas.Bool.{false≢true}
use Rattle.pv_base.proofs.Basics.{Some_inj}
use Rattle.pv_base.proofs.MapLemmas.{Contains-map, Contains-unmap}
use Rattle.pv_base.specs.declared.grant.GrantId.{GrantId}
use Rattle.pv_base.specs.declared.txn.TxnId.{TxnId}
use Rattle.pv_format.specs.Message.{Envelope, Message, NoCause, lock, granted, denied, prepare, vote_no}
use Rattle.pv_format.specs.Record.{Record}
use Rattle.pv_law_acts.specs.Seen.{records_at, memory_at, Sent}
use Rattle.pv_law_complete.proofs.GoesLemmas.{IsSame, MakesItsStep}
use Rattle.pv_law_complete.specs.Undisturbed.{IsConcerned, here_in}
use Rattle.pv_law_complete.specs.Frames.{Frames}
use Rattle.pv_model.specs.Alternatives.{Read}
use Rattle.pv_model.specs.Plan.{participants_of, wants_of}
use Rattle.pv_model.specs.Syntax.{Program}
use Rattle.pv_protocol.specs.Committed.{home_of, entry_in, entry_of}
use Rattle.pv_protocol.specs.Coordinate.{has_taken, names_taken}
use Rattle.pv_protocol.specs.Here.{grant_of, is_among}
use Rattle.pv_protocol.specs.Keyed.{of_txn}
use Rattle.pv_protocol.specs.Records.{is_prepared}
use Rattle.pv_protocol.specs.State.{Setup, voting, Grant, Entry, Running, Outgoing, Step}
use Rattle.pv_protocol.specs.Step.{records_after}
use Rattle.pv_protocol.specs.World.{World, from_site}
use Rattle.std.proofs.lemmas.List.Elements.{Contains-append_cases, Contains-append_left, Contains-append_right}

pub same-or-not : (m n : ℕ) → (m ≡ n) ⊎ (m ≢ n)
same-or-not m n = by (m == n) refl where
  by : (b : Bool) → (m == n) ≡ b → (m ≡ n) ⊎ (m ≢ n)
  by true is = inl (eqb-true m n is)
  by false is = inr (λ same. false≢true (sym is ∙ eq-eqb m n same))

-- The transaction is prepared, or this grant stands.
abbrev pub Stands : List Record → Option Grant → TxnId → GrantId → Type 0
Stands records found txn id = (is_prepared records txn ≡ true) ⊎ ((grant : Grant) × ((found ≡ Some grant) × (grant.id ≡ id)))

-- An entry has what it had.
pub record Further (before after : Entry) : Type 0 where
  pub program : after.program ≡ before.program
  pub taken : (n : ℕ) → has_taken before n ≡ true → has_taken after n ≡ true
  pub votes : (n : ℕ) → is_among before.votes n ≡ true → is_among after.votes n ≡ true
  pub voting : before.stage ≡ voting → after.stage ≡ voting

pub no-further : (entry : Entry) → Further entry entry
no-further entry = record { program = refl; taken = λ n is. is; votes = λ n is. is; voting = λ is. is }

pub further-still : (a b c : Entry) → Further a b → Further b c → Further a c
further-still a b c first then_further = record {
  program = then_further.program ∙ first.program;
  taken = λ n is. then_further.taken n (first.taken n is);
  votes = λ n is. then_further.votes n (first.votes n is);
  voting = λ is. then_further.voting (first.voting is);
}

module _ (setup : Setup) (txn : TxnId) (program : Program) where
  abbrev pub Home : ℕ
  Home = home_of txn

  abbrev pub Participants : List ℕ
  Participants = participants_of program setup.catalog.items

  -- The transaction is worked on; nobody denied or voted no; what was granted stands or is promised; and what is to be asked was asked.
  pub record Going (w : World) (entry : Entry) : Type 0 where
    pub works : entry_of w txn ≡ Some entry
    pub own : entry.program ≡ program
    pub few : entry.stage ≡ voting → length (names_taken entry) ≤ setup.read_names
    pub up : (n : ℕ) → IsConcerned setup txn program n → IsSome (memory_at w n)
    pub undenied : (from : ℕ) → Contains Participants from → (item : ℕ) (holder : TxnId) → Sent w from Home (denied txn item holder) → ⊥
    pub no_no : (from : ℕ) → Contains Participants from → (cause : NoCause) → Sent w from Home (vote_no txn cause) → ⊥
    pub stands : (n : ℕ) → Contains Participants n → (id : GrantId) (values : List Read) → Sent w n Home (granted txn id values)
        → (running : Running) → memory_at w n ≡ Some running → Stands (records_at w n) (grant_of running txn) txn id
    pub asked : entry.stage ≡ voting → (n : ℕ) → Contains Participants n → (id : GrantId) × ((writes : List Read) × Sent w Home n (prepare txn id writes))
    pub locks : (n : ℕ) → Contains Participants n → Sent w Home n (lock txn (wants_of program setup.catalog.items n))

  module _ (w : World) (entry : Entry) (going : Going w entry) (n : ℕ) (running : Running) (up : memory_at w n ≡ Some running) where
    pub here-entry : n ≡ Home → of_txn (λ (e : Entry). e.txn) txn running.entries ≡ Some entry
    here-entry same = sym (ap (λ memory. entry_in memory txn) (subst (λ m. memory_at w m ≡ Some running) same up)) ∙ going.works

    abbrev Left : Step → List Record
    Left step = records_after (records_at w n) step

    -- What a step leaves of it.
    pub record Local (step : Step) (after : Entry) : Type 0 where
      pub mine : n ≡ Home → of_txn (λ (e : Entry). e.txn) txn step.running.entries ≡ Some after
      pub other : n ≢ Home → after ≡ entry
      pub further : Further entry after
      pub few : after.stage ≡ voting → length (names_taken after) ≤ setup.read_names
      pub undenied : Contains Participants n → (item : ℕ) (holder : TxnId) → Contains step.sends (record { to = Home; message = denied txn item holder }) → ⊥
      pub no_no : Contains Participants n → (cause : NoCause) → Contains step.sends (record { to = Home; message = vote_no txn cause }) → ⊥
      pub reported : Contains Participants n → (id : GrantId) (values : List Read) → Contains step.sends (record { to = Home; message = granted txn id values })
          → Stands (Left step) (grant_of step.running txn) txn id
      pub keeps : Contains Participants n → (id : GrantId) → Stands (records_at w n) (grant_of running txn) txn id → Stands (Left step) (grant_of step.running txn) txn id
      pub asked : after.stage ≡ voting
          → (entry.stage ≡ voting) ⊎ ((n ≡ Home) × ((m : ℕ) → Contains Participants m → (id : GrantId) × ((writes : List Read) × Contains step.sends (record { to = m; message = prepare txn id writes }))))

    module _ (v : World) (step : Step) (makes : MakesItsStep w v n step) where
      pub sent-stays : (from to : ℕ) (message : Message) → Sent w from to message → Sent v from to message
      sent-stays from to message h = subst (λ all. Contains all (record { from = from; to = to; message = message })) (sym makes.sent) (Contains-append_left w.sent (from_site n step.sends) _ h)

      pub sent-now : (to : ℕ) (message : Message) → Contains step.sends (record { to = to; message = message }) → Sent v n to message
      sent-now to message h =
          subst (λ all. Contains all (record { from = n; to = to; message = message })) (sym makes.sent)
          (Contains-append_right w.sent (from_site n step.sends) _
          (Contains-map (λ (o : Outgoing). record { from = n; to = o.to; message = o.message }) step.sends (record { to = to; message = message }) h))

      sent-either : (from to : ℕ) (message : Message) → Sent v from to message → Sent w from to message ⊎ ((n ≡ from) × Contains step.sends (record { to = to; message = message }))
      sent-either from to message h =
          ⊎_elim
          (λ old. inl old)
          (λ new.
          let which = Contains-unmap (λ (o : Outgoing). record { from = n; to = o.to; message = o.message }) step.sends (record { from = from; to = to; message = message }) new in
          inr (ap (λ (e : Envelope). e.from) which.1.1, subst (Contains step.sends) (λ i. record { to = (which.1.1 i).to; message = (which.1.1 i).message }) which.1.0))
          (Contains-append_cases w.sent (from_site n step.sends) _ (subst (λ all. Contains all (record { from = from; to = to; message = message })) makes.sent h))

      module _ (after : Entry) (local : Local step after) where
        works-then : entry_of v txn ≡ Some after
        works-then =
            ⊎_elim
            (λ same. ap (λ memory. entry_in memory txn) (subst (λ m. memory_at v m ≡ Some step.running) same makes.memory) ∙ local.mine same)
            (λ other.
            ap (λ memory. entry_in memory txn) (makes.others Home (λ same. other (sym same))).memory ∙ (going.works ∙ ap Some (sym (local.other other))))
            (same-or-not n Home)

        stands-then : (m : ℕ) → Contains Participants m → (id : GrantId) (values : List Read) → Sent v m Home (granted txn id values)
            → (found : Running) → memory_at v m ≡ Some found → Stands (records_at v m) (grant_of found txn) txn id
        stands-then m part id values sent found there =
            ⊎_elim
            (λ same.
            let part_here : Contains Participants n = subst (Contains Participants) (sym same) part in
            let is : step.running ≡ found = Some_inj (sym (subst (λ k. memory_at v k ≡ Some step.running) same makes.memory) ∙ there) in
            subst (λ k. Stands (records_at v k) (grant_of found txn) txn id) same
            (subst (λ rs. Stands rs (grant_of found txn) txn id) (sym makes.records)
            (subst (λ r. Stands (Left step) (grant_of r txn) txn id) is
            (⊎_elim
            (λ old. local.keeps part_here id (going.stands n part_here id values (subst (λ k. Sent w k Home (granted txn id values)) (sym same) old) running up))
            (λ new. local.reported part_here id values new.1)
            (sent-either m Home (granted txn id values) sent)))))
            (λ other.
            let kept = makes.others m (λ same. other (sym same)) in
            subst (λ rs. Stands rs (grant_of found txn) txn id) (sym kept.records)
            (⊎_elim
            (λ old. going.stands m part id values old found (sym kept.memory ∙ there))
            (λ new. absurd (other new.0))
            (sent-either m Home (granted txn id values) sent)))
            (same-or-not n m)

        pub go-on : ((m : ℕ) → IsConcerned setup txn program m → IsSome (memory_at v m)) → Going v after
        go-on ups = record {
          works = works-then;
          own = local.further.program ∙ going.own;
          few = local.few;
          up = ups;
          undenied = λ from part item holder sent.
              ⊎_elim
              (λ old. going.undenied from part item holder old)
              (λ new. local.undenied (subst (Contains Participants) (sym new.0) part) item holder new.1)
              (sent-either from Home (denied txn item holder) sent);
          no_no = λ from part cause sent.
              ⊎_elim
              (λ old. going.no_no from part cause old)
              (λ new. local.no_no (subst (Contains Participants) (sym new.0) part) cause new.1)
              (sent-either from Home (vote_no txn cause) sent);
          stands = stands-then;
          asked = λ votes m part.
              ⊎_elim
              (λ old.
              let was = going.asked old m part in
              (was.0, (was.1.0, sent-stays Home m (prepare txn was.0 was.1.0) was.1.1)))
              (λ new.
              let now = new.1 m part in
              (now.0, (now.1.0, subst (λ k. Sent v k m (prepare txn now.0 now.1.0)) new.0 (sent-now m (prepare txn now.0 now.1.0) now.1.1))))
              (local.asked votes);
          locks = λ m part. sent-stays Home m _ (going.locks m part);
        }

    -- Steps that leave entry, grant and promise.

    pub plain : (step : Step) → of_txn (λ (e : Entry). e.txn) txn step.running.entries ≡ of_txn (λ (e : Entry). e.txn) txn running.entries
        → grant_of step.running txn ≡ grant_of running txn → is_prepared (Left step) txn ≡ is_prepared (records_at w n) txn
        → (Contains Participants n → (item : ℕ) (holder : TxnId) → Contains step.sends (record { to = Home; message = denied txn item holder }) → ⊥)
        → (Contains Participants n → (cause : NoCause) → Contains step.sends (record { to = Home; message = vote_no txn cause }) → ⊥)
        → (Contains Participants n → (id : GrantId) (values : List Read) → Contains step.sends (record { to = Home; message = granted txn id values })
        → Stands (Left step) (grant_of step.running txn) txn id)
        → Local step entry
    plain step entries grants promised undenied no_no reported = record {
      mine = λ same. entries ∙ here-entry same;
      other = λ apart. refl;
      further = no-further entry;
      few = going.few;
      undenied = undenied;
      no_no = no_no;
      reported = reported;
      keeps = λ part id stood.
          ⊎_elim
          (λ was. inl (promised ∙ was))
          (λ held. inr (held.0, (grants ∙ held.1.0, held.1.1)))
          stood;
      asked = λ votes. inl votes;
    }

    pub framed : (step : Step) → Frames (here_in setup w n running) txn step → Local step entry
    framed step frames =
        plain step frames.entry frames.grant frames.prepared
        (λ part item holder h. frames.silent _ h refl) (λ part cause h. frames.silent _ h refl) (λ part id values h. absurd (frames.silent _ h refl))

  -- A world that looks the same where it matters.
  pub same-going : (w v : World) (entry : Entry) → Going w entry → ((n : ℕ) → IsConcerned setup txn program n → IsSame w v n) → v.sent ≡ w.sent → Going v entry
  same-going w v entry going same sent =
      let back : (from to : ℕ) (message : Message) → Sent v from to message → Sent w from to message =
      λ from to message h. subst (λ all. Contains all (record { from = from; to = to; message = message })) sent h in
      let forth : (from to : ℕ) (message : Message) → Sent w from to message → Sent v from to message =
      λ from to message h. subst (λ all. Contains all (record { from = from; to = to; message = message })) (sym sent) h in
      record {
        works = ap (λ memory. entry_in memory txn) (same Home (inl refl)).memory ∙ going.works;
        own = going.own;
        few = going.few;
        up = λ n concerned. subst (λ memory. IsSome memory) (sym (same n concerned).memory) (going.up n concerned);
        undenied = λ from part item holder h. going.undenied from part item holder (back from Home (denied txn item holder) h);
        no_no = λ from part cause h. going.no_no from part cause (back from Home (vote_no txn cause) h);
        stands = λ n part id values h running up.
            let kept = same n (inr part) in
            subst (λ rs. Stands rs (grant_of running txn) txn id) (sym kept.records)
            (going.stands n part id values (back n Home (granted txn id values) h) running (sym kept.memory ∙ up));
        asked = λ votes n part. let was = going.asked votes n part in (was.0, (was.1.0, forth Home n (prepare txn was.0 was.1.0) was.1.1));
        locks = λ n part. forth Home n _ (going.locks n part);
      }
