-- What a step on a message of the transaction itself leaves of it.
use Rattle.std.proofs.Common.{◌≡◌, ◌⊎◌, ⊎_elim, inl, inr, ℕ, Bool, true, false, ◌||◌, Some, None, Option, List, [], ◌∷◌, eq-eqb, refl, sym, ap, subst, ◌∙◌}
use Rattle.std.specs.Prelude.{not, if◌then◌else◌, is_none}
use Rattle.std.specs.List.{Contains, list_all}
use Rattle.std.proofs.lemmas.Bool.{false≢true}
use Rattle.std.proofs.lemmas.List.{append-nil}
use Rattle.std.proofs.lemmas.List.Elements.{All-contains}
use Rattle.std.proofs.lemmas.Option.{none-some}
use Rattle.pv_base.proofs.AssignmentLemmas.{same-refl}
use Rattle.pv_base.proofs.Basics.{Some_inj}
use Rattle.pv_base.proofs.ContainsLemmas.{Contains-nil, Contains-first}
use Rattle.pv_base.proofs.MapLemmas.{Contains-map}
use Rattle.pv_base.specs.Assignment.{is_same_txn}
use Rattle.pv_base.specs.Want.{Want}
use Rattle.pv_base.specs.declared.grant.GrantId.{GrantId}
use Rattle.pv_base.specs.declared.txn.TxnId.{TxnId}
use Rattle.pv_format.specs.Message.{Message, lock, granted}
use Rattle.pv_format.specs.Record.{prepared}
use Rattle.pv_law_acts.proofs.ListLemmas.{found-listed, listed-all}
use Rattle.pv_law_acts.proofs.RecordLemmas.{prepared-listed}
use Rattle.pv_law_acts.specs.Guards.{HasOutcome}
use Rattle.pv_law_acts.specs.Seen.{records_at, memory_at, Sent, WorksAgeless, HoldsAgeless, ageless_entry, ageless_grant, holdings_in}
use Rattle.pv_law_complete.proofs.GoingLemmas.{no-further, Going, Local, here-entry, plain, Participants}
use Rattle.pv_law_complete.proofs.FoundLists.{one-is, home-at, same-wants-self}
use Rattle.pv_law_complete.specs.Undisturbed.{IsFree, here_in}
use Rattle.pv_law_events.proofs.EventActs.{IsKnown}
use Rattle.pv_law_outcomes.proofs.EntryLemmas.{stage-either}
use Rattle.pv_law_outcomes.specs.Coherent.{IsEntryRight, IsLockRight}
use Rattle.pv_law_outcomes.proofs.OutcomeLemmas.{known-outcome}
use Rattle.pv_law_programs.proofs.PlanLemmas.{wants-each}
use Rattle.pv_law_step.proofs.Appended.{grant-txn}
use Rattle.pv_law_step.proofs.KeyedLemmas.{of-with}
use Rattle.pv_law_step.specs.LockCases as of_locks
use Rattle.pv_model.specs.Alternatives.{Read}
use Rattle.pv_model.specs.Check.{IsWant}
use Rattle.pv_model.specs.Plan.{wants_of}
use Rattle.pv_model.specs.Syntax.{Program}
use Rattle.pv_protocol.specs.Committed.{home_of, entry_in, is_committed}
use Rattle.pv_protocol.specs.Here.{Here, nothing, grant_of}
use Rattle.pv_protocol.specs.Keyed.{of_txn}
use Rattle.pv_protocol.specs.Lock.{is_lock_ignored, is_home, next_grant, first_conflict, values_of}
use Rattle.pv_protocol.specs.Records.{is_prepared, is_undecided, known}
use Rattle.pv_protocol.specs.State.{Setup, voting, Grant, Entry, Running, Outgoing, Step}
use Rattle.pv_protocol.specs.World.{World}

abbrev pub id_in : GrantId → Message → GrantId
id_in d (granted t id values) = id
id_in d other = d

module _ (setup : Setup) (txn : TxnId) (program : Program) (w : World) (known : IsKnown setup w) (entry : Entry) (going : Going setup txn program w entry)
    (n : ℕ) (running : Running) (up : memory_at w n ≡ Some running) where
  abbrev pub Now : Here
  Now = here_in setup w n running

  abbrev pub Leaves : Step → Entry → Type 0
  Leaves step after = Local setup txn program w entry going n running up step after

  abbrev pub Kept : Entry
  Kept = record entry { age = 0 }

  pub working : WorksAgeless w (home_of txn) txn Kept
  working = ap ageless_entry going.works

  pub right : IsEntryRight setup w (home_of txn) txn Kept
  right = known.settled.sound.right.entries (home_of txn) txn Kept working

  pub uncommitted : is_committed w txn ≡ false
  uncommitted = known.settled.decided.working (home_of txn) txn Kept working

  pub no-outcome : (outcome : Bool) → HasOutcome w txn outcome → ⊥
  no-outcome true is = false≢true (sym uncommitted ∙ is)
  no-outcome false dead = none-some _ (sym dead.idle ∙ working)

  pub unknown : (m : ℕ) → is_undecided (records_at w m) txn ≡ true
  unknown m = by (known_there m) refl where
    known_there : ℕ → Option Bool
    known_there m = Rattle.pv_protocol.specs.Records.known (records_at w m) txn

    by : (o : Option Bool) → known_there m ≡ o → is_none o ≡ true
    by None is = refl
    by (Some outcome) is = absurd (no-outcome outcome (known-outcome setup w known.settled m txn outcome is))

  pub entry-home : (found : Entry) → of_txn (λ (e : Entry). e.txn) txn running.entries ≡ Some found → (n ≡ home_of txn) × (found ≡ entry)
  entry-home found is =
      let works : WorksAgeless w n txn (record found { age = 0 }) = ap ageless_entry (ap (λ memory. entry_in memory txn) up ∙ is) in
      let home : n ≡ home_of txn = sym (known.settled.sound.passed.entries n txn (record found { age = 0 }) works).home in
      (home, Some_inj (sym is ∙ here-entry setup txn program w entry going n running up home))

  -- What is prepared or asked to be is at its lock point.
  pub placed-votes : (m : ℕ) → is_prepared (records_at w m) txn ≡ true → entry.stage ≡ voting
  placed-votes m is =
      let listed = prepared-listed (records_at w m) txn is in
      let writing = (known.settled.sound.right.records m (prepared txn listed.0) listed.1).writing in
      ⊎_elim (λ asks. absurd (right.unplaced asks writing.placed writing.in_order writing.own)) (λ votes. votes) (stage-either entry.stage)

  pub idle : Leaves (nothing Now) entry
  idle =
      plain setup txn program w entry going n running up (nothing Now) refl refl (ap (λ rs. is_prepared rs txn) (append-nil (records_at w n)))
      (λ part item holder h. absurd (Contains-nil _ h)) (λ part cause h. absurd (Contains-nil _ h)) (λ part id values h. absurd (Contains-nil _ h))

  pub holds : (grant : Grant) → grant_of running txn ≡ Some grant → HoldsAgeless w n (ageless_grant grant)
  holds grant found =
      subst (λ memory. Contains (holdings_in memory) (ageless_grant grant)) (sym up)
      (Contains-map ageless_grant running.grants grant (found-listed (λ (g : Grant). is_same_txn txn g.txn) running.grants grant found))

  -- Locks.

  module _ (from : ℕ) (wants : List Want) (sent : Sent w from n (lock txn wants)) (free : IsFree Now from (lock txn wants)) where
    lock_right : IsLockRight setup w from n txn wants
    lock_right = known.settled.sound.right.sent from n (lock txn wants) sent

    wants-are : wants ≡ wants_of entry.program setup.catalog.items n
    wants-are = (lock_right.entry Kept (subst (λ m. WorksAgeless w m txn Kept) (sym lock_right.home) working)).are

    lock-heard : is_prepared (records_at w n) txn ≡ false → is_lock_ignored Now from txn wants ≡ false
    lock-heard unprepared =
        let homes : list_all (λ (want : Want). is_home setup.catalog n want.item) wants ≡ true =
        listed-all (λ (want : Want). is_home setup.catalog n want.item) wants
        (λ want h.
        home-at setup.catalog.items want.item n
        (All-contains (IsWant entry.program setup.catalog.items n) (wants_of entry.program setup.catalog.items n) want (wants-each entry.program setup.catalog.items n)
        (subst (λ all. Contains all want) wants-are h)).home) in
        ap (λ (b : Bool). not b || (not (list_all (λ (want : Want). is_home setup.catalog n want.item) wants) || (is_prepared (records_at w n) txn || not (is_undecided (records_at w n) txn)))) (eq-eqb from txn.site.0 lock_right.home)
        ∙ (ap (λ (b : Bool). not b || (is_prepared (records_at w n) txn || not (is_undecided (records_at w n) txn))) homes
        ∙ (ap (λ (b : Bool). b || not (is_undecided (records_at w n) txn)) unprepared ∙ ap not (unknown n)))

    abbrev pub LockLeaves : Step → Type 0
    LockLeaves step =
        Leaves step entry × (Contains (Participants setup txn program) n → (entry.stage ≡ voting) ⊎ ((id : GrantId) × ((values : List Read) × Contains step.sends (record { to = home_of txn; message = granted txn id values }))))

    ignored-votes : is_lock_ignored Now from txn wants ≡ true → entry.stage ≡ voting
    ignored-votes is = by (is_prepared (records_at w n) txn) refl where
      by : (b : Bool) → is_prepared (records_at w n) txn ≡ b → entry.stage ≡ voting
      by true there = placed-votes n there
      by false none = absurd (false≢true (sym (lock-heard none) ∙ is))

    pub lock-leaves : (step : Step) → of_locks.LockCase Now from txn wants step → LockLeaves step
    lock-leaves step (of_locks.ignored h) = (idle, λ part. inl (ignored-votes h))
    lock-leaves step (of_locks.granted_again grant h found i) =
        let own : txn ≡ grant.txn = grant-txn running txn grant found in (
          plain setup txn program w entry going n running up step refl refl (ap (λ rs. is_prepared rs txn) (append-nil (records_at w n)))
              (λ part item holder h. let wrong = ap (λ (o : Outgoing). o.message) (one-is _ _ h) in absurd (let no : ⊥ = cc in no))
              (λ part cause h. let wrong = ap (λ (o : Outgoing). o.message) (one-is _ _ h) in absurd (let no : ⊥ = cc in no))
              (λ part id values h. inr (grant, (found, ap (λ (o : Outgoing). id_in grant.id o.message) (one-is _ _ h)))),
          λ part. inr (
            grant.id,
            (
              values_of Now grant.wants,
              subst (λ t. Contains {X = Outgoing} (record { to = t.site.0; message = granted t grant.id (values_of Now grant.wants) } ∷ []) (record { to = home_of txn; message = granted txn grant.id (values_of Now grant.wants) }))
                  own (Contains-first _ []),
            ),
          ),
        )
    lock-leaves step (of_locks.misfits grant h found apart) =
        let own : txn ≡ grant.txn = grant-txn running txn grant found in
        let asked = known.settled.sound.right.asked n (ageless_grant grant) (holds grant found) in
        let same : wants ≡ grant.wants =
        known.settled.sound.right.same_wants (home_of txn) n txn wants grant.wants (subst (λ m. Sent w m n (lock txn wants)) lock_right.home sent)
        (subst (λ t. Sent w (home_of t) n (lock t grant.wants)) (sym own) asked) in
        absurd (false≢true (sym apart ∙ subst (λ all. Rattle.pv_protocol.specs.Lock.are_same_wants wants all ≡ true) same (same-wants-self wants)))
    lock-leaves step (of_locks.denies clash h none found) = absurd (none-some _ (sym (free none).0 ∙ found))
    lock-leaves step (of_locks.no_grant_left h spent) = absurd (false≢true (sym (free h.none).1 ∙ spent))
    lock-leaves step (of_locks.grants h some) =
        let grant : Grant = next_grant Now txn wants in
        let stands : grant_of step.running txn ≡ Some grant =
        of-with (λ (g : Grant). g.txn) txn grant running.grants ∙ ap (λ (b : Bool). if b then Some grant else grant_of running txn) (same-refl txn) in (
          record {
            mine = here-entry setup txn program w entry going n running up;
            other = λ apart. refl;
            further = no-further entry;
            few = going.few;
            undenied = λ part item holder h. let wrong = ap (λ (o : Outgoing). o.message) (one-is _ _ h) in absurd (let no : ⊥ = cc in no);
            no_no = λ part cause h. let wrong = ap (λ (o : Outgoing). o.message) (one-is _ _ h) in absurd (let no : ⊥ = cc in no);
            reported = λ part id values h. inr (grant, (stands, ap (λ (o : Outgoing). id_in grant.id o.message) (one-is _ _ h)));
            keeps = λ part id stood.
                ⊎_elim
                (λ was. inl (ap (λ rs. is_prepared rs txn) (append-nil (records_at w n)) ∙ was))
                (λ held. absurd (none-some _ (sym h.none ∙ held.1.0)))
                stood;
            asked = λ votes. inl votes;
          },
          λ part. inr (grant.id, (values_of Now wants, Contains-first _ [])),
        )
