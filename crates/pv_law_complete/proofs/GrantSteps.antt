-- What a step on an answer to the transaction's locks leaves of it.
use Rattle.std.proofs.Common.{◌≡◌, ◌⊎◌, ⊎_elim, inl, inr, ℕ, ◌<◌, ◌≤◌, Bool, true, false, ◌||◌, Some, None, Option, List, [], ◌++◌, length, eqb-true, eq-eqb, ltb-true, refl, sym, ap, subst, ◌∙◌, arith}
use Rattle.std.specs.Prelude.{◌==◌, not, nat_lt, if◌then◌else◌, ⊤}
use Rattle.std.specs.List.{Contains, list_all}
use Rattle.std.specs.Cmp.Lexicographic.{pointwise_decides}
use Rattle.std.proofs.lemmas.Bool.{false≢true}
use Rattle.std.proofs.lemmas.Bool.Decides.{Decides-eqb}
use Rattle.std.proofs.lemmas.List.{append-nil}
use Rattle.std.proofs.lemmas.List.Elements.{All-contains}
use Rattle.std.proofs.lemmas.Option.{none-some}
use Rattle.pv_base.proofs.AssignmentLemmas.{same-from-eq}
use Rattle.pv_base.proofs.ContainsLemmas.{Contains-nil}
use Rattle.pv_base.specs.declared.grant.GrantId.{GrantId}
use Rattle.pv_base.specs.declared.txn.TxnId.{TxnId}
use Rattle.pv_format.specs.Message.{Message, lock, granted, denied, prepare}
use Rattle.pv_law_acts.proofs.ListLemmas.{among-listed, listed-among, all-listed}
use Rattle.pv_law_acts.proofs.MemoryLemmas.{entry-txn}
use Rattle.pv_law_acts.specs.Acts.{voting_of}
use Rattle.pv_law_acts.specs.Seen.{records_at, memory_at, Sent, WorksAgeless}
use Rattle.pv_law_complete.proofs.FoundLists.{found-so, any-found, filter-map-listed, taken-more}
use Rattle.pv_law_complete.proofs.GoingLemmas.{Going, Local, here-entry}
use Rattle.pv_law_complete.proofs.LockSteps.{Now, working, entry-home, idle}
use Rattle.pv_law_complete.specs.Undisturbed.{IsFree}
use Rattle.pv_law_events.proofs.EventActs.{IsKnown}
use Rattle.pv_law_events.proofs.FoundLemmas.{locking-found}
use Rattle.pv_law_outcomes.proofs.EntryLemmas.{two-stages, stage-either}
use Rattle.pv_law_outcomes.specs.Coherent.{items_of, wanted_items, IsGrantedRight}
use Rattle.pv_law_step.proofs.Appended.{found-passes}
use Rattle.pv_law_step.proofs.DoubtLemmas.{none-from}
use Rattle.pv_law_step.proofs.KeyedLemmas.{of-with}
use Rattle.pv_law_step.proofs.Kept.{filter-map-all}
use Rattle.pv_law_step.proofs.Lists.{OfSome}
use Rattle.pv_law_step.specs.GrantCases as of_grants
use Rattle.pv_law_step.specs.GrantCases.{IsTaken}
use Rattle.pv_model.specs.Alternatives.{Read}
use Rattle.pv_model.specs.Plan.{participants_of, wants_of}
use Rattle.pv_model.specs.Syntax.{Program}
use Rattle.pv_protocol.specs.Committed.{home_of}
use Rattle.pv_protocol.specs.Coordinate.{is_locking, writes_to, exclusive_items, has_taken, names_taken, are_values_of}
use Rattle.pv_protocol.specs.Granted.{at_lock_point, is_unawaited, is_grant_ignored, is_wanted, asked_of, taking, taken_from, prepare_under, prepare_sends}
use Rattle.pv_protocol.specs.Here.{Here, remembering, with_entry, is_among}
use Rattle.pv_protocol.specs.Keyed.{of_txn}
use Rattle.pv_protocol.specs.Records.{is_prepared}
use Rattle.pv_protocol.specs.Sound.{IsInOrder}
use Rattle.pv_protocol.specs.State.{Setup, locking, voting, Taken, Entry, Running, Outgoing, Step}
use Rattle.pv_protocol.specs.World.{World}

-- The message asks for a vote.
abbrev IsPrepare : Message → Type 0
IsPrepare (prepare txn id writes) = ⊤
IsPrepare other = ⊥

unawaited-parts : (a b : Bool) → (not a || b) ≡ false → (a ≡ true) × (b ≡ false)
unawaited-parts true false is = (refl, refl)
unawaited-parts true true is = absurd (false≢true (sym is))
unawaited-parts false b is = absurd (false≢true (sym is))

or-left-false : (a b : Bool) → (a || b) ≡ false → a ≡ false
or-left-false false b is = refl
or-left-false true b is = absurd (false≢true (sym is))

module _ (setup : Setup) (txn : TxnId) (program : Program) (w : World) (is_known : IsKnown setup w) (entry : Entry) (going : Going setup txn program w entry)
    (n : ℕ) (running : Running) (up : memory_at w n ≡ Some running) where
  abbrev pub Here' : Here
  Here' = Now setup txn program w is_known entry going n running up

  abbrev Leaves' : Step → Entry → Type 0
  Leaves' step after = Local setup txn program w entry going n running up step after

  abbrev pub Members : List ℕ
  Members = participants_of program setup.catalog.items

  ordered : IsInOrder running
  ordered = is_known.ordered n running up

  member : (from : ℕ) → is_among (participants_of entry.program setup.catalog.items) from ≡ true → Contains Members from
  member from is = subst (λ p. Contains (participants_of p setup.catalog.items) from) going.own (among-listed (participants_of entry.program setup.catalog.items) from is)

  among : (from : ℕ) → Contains Members from → is_among (participants_of entry.program setup.catalog.items) from ≡ true
  among from h = listed-among (participants_of entry.program setup.catalog.items) from (subst (λ p. Contains (participants_of p setup.catalog.items) from) (sym going.own) h)

  still : is_prepared (records_at w n ++ []) txn ≡ is_prepared (records_at w n) txn
  still = ap (λ rs. is_prepared rs txn) (append-nil (records_at w n))

  module _ (from : ℕ) (id : GrantId) (values : List Read) (sent : Sent w from n (granted txn id values)) (free : IsFree Here' from (granted txn id values)) where
    told_right : IsGrantedRight w from n txn values
    told_right = is_known.settled.sound.right.sent from n (granted txn id values) sent

    at_home : n ≡ home_of txn
    at_home = told_right.home

    abbrev Kept' : Entry
    Kept' = record entry { age = 0 }

    values-fit : are_values_of (asked_of Here' entry from) values ≡ true
    values-fit =
        let asked = is_known.settled.sound.right.sent n from (lock txn told_right.wants) told_right.asked in
        let wants : told_right.wants ≡ wants_of entry.program setup.catalog.items from =
        (asked.entry Kept' (subst (λ m. WorksAgeless w m txn Kept') (sym asked.home) (working setup txn program w is_known entry going n running up))).are in
        (pointwise_decides Decides-eqb (items_of values) (wanted_items (asked_of Here' entry from))).1 (told_right.items ∙ ap wanted_items wants)

    abbrev More : Entry
    More = taking entry from id values

    abbrev pub GrantLeaves : Step → Type 0
    GrantLeaves step =
        (after : Entry) × (Local setup txn program w entry going n running up step after
        × (Contains Members from → (after.stage ≡ voting) ⊎ (has_taken after from ≡ true)))

    has-more : (k : ℕ) → has_taken entry k ≡ true → has_taken More k ≡ true
    has-more k is = taken-more (record { site = from; grant = id; values = values }) entry.taken k ∙ (ap (λ b. (from == k) || b) is ∙ or-true (from == k)) where
      or-true : (b : Bool) → (b || true) ≡ true
      or-true true = refl
      or-true false = refl

    has-new : has_taken More from ≡ true
    has-new = taken-more (record { site = from; grant = id; values = values }) entry.taken from ∙ ap (λ b. b || has_taken entry from) (eq-eqb from from refl)

    put : (put_in : Entry) → put_in.txn ≡ txn → of_txn (λ (e : Entry). e.txn) txn (with_entry running put_in).entries ≡ Some put_in
    put put_in own =
        of-with (λ (e : Entry). e.txn) txn put_in running.entries
        ∙ ap (λ (b : Bool). if b then Some put_in else of_txn (λ (e : Entry). e.txn) txn running.entries) (same-from-eq {t = txn} {u = put_in.txn} (sym own))

    own-txn : entry.txn ≡ txn
    own-txn = sym (entry-txn running txn entry (here-entry setup txn program w entry going n running up at_home))

    ignored-taken : is_grant_ignored Here' entry from values ≡ true → Contains Members from → has_taken entry from ≡ true
    ignored-taken is part =
        let one : is_grant_ignored Here' entry from values ≡ (has_taken entry from || false) =
        ap (λ b. (not b || has_taken entry from) || not (are_values_of (asked_of Here' entry from) values)) (among from part)
        ∙ ap (λ b. has_taken entry from || not b) values-fit in
        or-false (has_taken entry from) (sym one ∙ is)
      where
        or-false : (b : Bool) → (b || false) ≡ true → b ≡ true
        or-false true is = refl
        or-false false is = is

    wide : nat_lt setup.read_names (length (names_taken More)) ≡ true → length (names_taken More) ≤ setup.read_names → ⊥
    wide is few = let more : setup.read_names < length (names_taken More) = ltb-true setup.read_names (length (names_taken More)) is in omega (arith, more, few)

    -- The cases, where the entry is the transaction's.

    waits-leaves : entry.stage ≡ locking → GrantLeaves (remembering (with_entry running More))
    waits-leaves asks = (
      More,
      (
        record {
          mine = λ same. put More own-txn;
          other = λ apart. absurd (apart at_home);
          further = record { program = refl; taken = has-more; votes = λ k is. is; voting = λ is. is };
          few = λ votes. absurd (two-stages (sym votes ∙ asks));
          undenied = λ part item holder h. absurd (Contains-nil _ h);
          no_no = λ part cause h. absurd (Contains-nil _ h);
          reported = λ part id' values' h. absurd (Contains-nil _ h);
          keeps = λ part id' stood. ⊎_elim (λ was. inl (still ∙ was)) (λ held. inr held) stood;
          asked = λ votes. absurd (two-stages (sym votes ∙ asks));
        },
        λ part. inr has-new,
      ),
    )

    asked-for : list_all (has_taken More) (participants_of entry.program setup.catalog.items) ≡ true → (m : ℕ) → Contains Members m
        → (id' : GrantId) × ((writes : List Read) × Contains (prepare_sends Here' More) (record { to = m; message = prepare txn id' writes }))
    asked-for whole m part =
        let there : has_taken More m ≡ true =
        all-listed (has_taken More) (participants_of entry.program setup.catalog.items) whole m (subst (λ p. Contains (participants_of p setup.catalog.items) m) (sym going.own) part) in
        let found = any-found (λ (t : Taken). t.site == m) More.taken there in
        let at : found.0.site ≡ m = eqb-true found.0.site m (found-passes (λ (t : Taken). t.site == m) More.taken found.0 found.1) in
        let writes = writes_to (records_at w n) More (exclusive_items (asked_of Here' More found.0.site)) in (
          found.0.grant,
          (
            writes,
            subst (λ t. Contains {X = Outgoing} (prepare_sends Here' More) (record { to = m; message = prepare t found.0.grant writes })) own-txn
                (subst (λ k. Contains {X = Outgoing} (prepare_sends Here' More) (record { to = k; message = prepare entry.txn found.0.grant writes })) at
                (filter-map-listed (λ site. prepare_under Here' More (taken_from More site)) (participants_of entry.program setup.catalog.items) m _
                (subst (λ p. Contains (participants_of p setup.catalog.items) m) (sym going.own) part)
                (ap (prepare_under Here' More) found.1))),
          ),
        )

    prepares-only : (o : Outgoing) → Contains (prepare_sends Here' More) o → IsPrepare o.message
    prepares-only o h =
        All-contains (λ (o : Outgoing). IsPrepare o.message) (prepare_sends Here' More) o
        (filter-map-all (λ (o : Outgoing). IsPrepare o.message) (λ site. prepare_under Here' More (taken_from More site)) (participants_of entry.program setup.catalog.items)
        (λ site listed. by (taken_from More site))) h where
          by : (taken : Option Taken) → OfSome (λ (o : Outgoing). IsPrepare o.message) (prepare_under Here' More taken)
          by None = tt
          by (Some taken) = tt

    reaches-leaves : entry.stage ≡ locking → list_all (has_taken More) (participants_of entry.program setup.catalog.items) ≡ true → length (names_taken More) ≤ setup.read_names
        → GrantLeaves (at_lock_point Here' More)
    reaches-leaves asks whole few = (
      voting_of More,
      (
        record {
          mine = λ same. put (voting_of More) own-txn;
          other = λ apart. absurd (apart at_home);
          further = record { program = refl; taken = has-more; votes = λ k is. is; voting = λ is. refl };
          few = λ votes. few;
          undenied = λ part item holder h. prepares-only _ h;
          no_no = λ part cause h. prepares-only _ h;
          reported = λ part id' values' h. absurd (prepares-only _ h);
          keeps = λ part id' stood. ⊎_elim (λ was. inl (still ∙ was)) (λ held. inr held) stood;
          asked = λ votes. inr (at_home, asked-for whole);
        },
        λ part. inl refl,
      ),
    )

    pub grant-leaves : (step : Step) → of_grants.GrantedCase Here' from txn id values step → GrantLeaves step
    grant-leaves step (of_grants.no_entry none) = (
      entry,
      (
        idle setup txn program w is_known entry going n running up,
        λ part. ⊎_elim
            (λ asks. absurd (none-some _ (sym none ∙ found-so (λ (e : Entry). e.txn) (λ (e : Entry). is_locking e.stage) txn running.entries entry
            (here-entry setup txn program w entry going n running up at_home) (ap is_locking asks))))
            (λ votes. inl votes)
            (stage-either entry.stage),
      ),
    )
    grant-leaves step (of_grants.ignored found is ign) =
        let same : found ≡ entry = (entry-home setup txn program w is_known entry going n running up found (locking-found running ordered txn found is).0).1 in
        (entry, (idle setup txn program w is_known entry going n running up, λ part. inr (ignored-taken (subst (λ e. is_grant_ignored Here' e from values ≡ true) same ign) part)))
    grant-leaves step (of_grants.waits found taken h) =
        let both = locking-found running ordered txn found taken.found in
        let same : found ≡ entry = (entry-home setup txn program w is_known entry going n running up found both.0).1 in
        subst (λ e. GrantLeaves (remembering (with_entry running (taking e from id values)))) (sym same)
        (waits-leaves (subst (λ e. e.stage ≡ locking) same both.1))
    grant-leaves step (of_grants.too_wide found last is) =
        let both = locking-found running ordered txn found last.taken.found in
        let same : found ≡ entry = (entry-home setup txn program w is_known entry going n running up found both.0).1 in
        absurd (wide (subst (λ e. nat_lt setup.read_names (length (names_taken (taking e from id values))) ≡ true) same is)
        (subst (λ e. length (names_taken (taking e from id values)) ≤ setup.read_names) same (free found last.taken.found last.taken.heard).0))
    grant-leaves step (of_grants.in_doubt found least last is doubt) =
        let certain = (free found last.taken.found last.taken.heard).1 last.whole in
        absurd (none-some least (sym (none-from (records_at w n) (taking found from id values) 0 setup.catalog.items (λ item up down. certain item (omega (arith, down)))) ∙ doubt))
    grant-leaves step (of_grants.reaches_lock_point found last is certain) =
        let both = locking-found running ordered txn found last.taken.found in
        let same : found ≡ entry = (entry-home setup txn program w is_known entry going n running up found both.0).1 in
        subst (λ e. GrantLeaves (at_lock_point Here' (taking e from id values))) (sym same)
        (reaches-leaves (subst (λ e. e.stage ≡ locking) same both.1)
        (subst (λ e. list_all (has_taken (taking e from id values)) (participants_of e.program setup.catalog.items) ≡ true) same last.whole)
        (subst (λ e. length (names_taken (taking e from id values)) ≤ setup.read_names) same (free found last.taken.found last.taken.heard).0))

  module _ (from item : ℕ) (holder : TxnId) (sent : Sent w from n (denied txn item holder)) where
    pub denied-leaves : (step : Step) → of_grants.DeniedCase Here' from txn item holder step → Local setup txn program w entry going n running up step entry
    denied-leaves step (of_grants.no_entry none) = idle setup txn program w is_known entry going n running up
    denied-leaves step (of_grants.ignored found is ign) = idle setup txn program w is_known entry going n running up
    denied-leaves step (of_grants.refuses found is heard) =
        let which = entry-home setup txn program w is_known entry going n running up found (locking-found running ordered txn found is).0 in
        let awaited : is_unawaited Here' entry from ≡ false = or-left-false _ _ (subst (λ e. (is_unawaited Here' e from || not (is_wanted (asked_of Here' e from) item)) ≡ false) which.1 heard) in
        absurd (going.undenied from (member from (unawaited-parts _ _ awaited).0) item holder (subst (λ m. Sent w from m (denied txn item holder)) which.0 sent))
