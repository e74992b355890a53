-- What a step on the transaction's votes and outcome leaves of it.
use Rattle.std.proofs.Common.{◌≡◌, ⊎_elim, inl, inr, ℕ, ◌<◌, ◌≤◌, ◌+◌, Bool, true, false, ◌||◌, Some, List, [], ◌∷◌, ◌++◌, length, eq-eqb, ltb-true, refl, sym, ap, subst, ◌∙◌, arith}
use Rattle.std.specs.Prelude.{not, nat_lt, if◌then◌else◌, map}
use Rattle.std.specs.List.{Contains, list_any}
use Rattle.std.specs.Cmp.Lexicographic.{pointwise_decides}
use Rattle.std.proofs.lemmas.Bool.{false≢true}
use Rattle.std.proofs.lemmas.Bool.Decides.{Decides-eqb}
use Rattle.std.proofs.lemmas.List.{append-nil}
use Rattle.std.proofs.lemmas.List.Elements.{Contains-append_left}
use Rattle.std.proofs.lemmas.Option.{none-some}
use Rattle.pv_base.proofs.AssignmentLemmas.{same-from-eq}
use Rattle.pv_base.proofs.Basics.{Some_inj}
use Rattle.pv_base.proofs.ContainsLemmas.{Contains-nil, Contains-first}
use Rattle.pv_base.proofs.MapLemmas.{Contains-map, Contains-unmap}
use Rattle.pv_base.specs.Named.{names_of}
use Rattle.pv_base.specs.declared.grant.GrantId.{GrantId}
use Rattle.pv_base.specs.declared.txn.TxnId.{TxnId}
use Rattle.pv_format.specs.Message.{NoCause, granted, prepare, vote_yes, vote_no, outcome_reported}
use Rattle.pv_format.specs.Record.{prepared, outcome_known}
use Rattle.pv_law_acts.proofs.ListLemmas.{any-listed, among-listed, listed-among, listed-last}
use Rattle.pv_law_acts.proofs.MemoryLemmas.{entry-txn}
use Rattle.pv_law_acts.proofs.RecordLemmas.{listed-yes, listed-prepared}
use Rattle.pv_law_acts.specs.Seen.{records_at, memory_at, Sent, WorksAgeless, HoldsAgeless, place_in_order, ageless_grant}
use Rattle.pv_law_agreement.proofs.GroundLemmas.{grounds-from}
use Rattle.pv_law_agreement.proofs.WriteLemmas.{listed-written}
use Rattle.pv_law_complete.proofs.AskedLemmas.{votes-are-narrow}
use Rattle.pv_law_complete.proofs.FoundLists.{one-is, found-so, exclusive-wanted}
use Rattle.pv_law_complete.proofs.GoingLemmas.{Stands, no-further, Going, Local, here-entry, plain}
use Rattle.pv_law_complete.proofs.LockSteps.{Now, working, right, no-outcome, entry-home, placed-votes, idle, holds}
use Rattle.pv_law_complete.specs.Undisturbed.{IsFree}
use Rattle.pv_law_events.proofs.EventActs.{IsKnown}
use Rattle.pv_law_events.proofs.FoundLemmas.{voting-found}
use Rattle.pv_law_outcomes.proofs.EntryLemmas.{stage-either}
use Rattle.pv_law_outcomes.specs.Coherent.{items_of, wanted_items, IsPrepareRight, IsTakenFrom}
use Rattle.pv_law_outcomes.proofs.OpenLemmas.{grant-same}
use Rattle.pv_law_step.proofs.Appended.{grant-txn}
use Rattle.pv_law_step.proofs.KeyedLemmas.{of-with}
use Rattle.pv_law_step.specs.OutcomeCases as of_outcomes
use Rattle.pv_law_step.specs.VoteCases as of_votes
use Rattle.pv_law_step.specs.VoteCases.{voted}
use Rattle.pv_model.specs.Alternatives.{Read}
use Rattle.pv_model.specs.Plan.{participants_of, wants_of}
use Rattle.pv_model.specs.Syntax.{Program}
use Rattle.pv_protocol.specs.Committed.{home_of, says_yes}
use Rattle.pv_protocol.specs.Coordinate.{is_locking, exclusive_items, names_taken}
use Rattle.pv_protocol.specs.Here.{Here, remembering, sending, only_to, is_full, with_entry, grant_of, is_among}
use Rattle.pv_protocol.specs.Keyed.{of_txn}
use Rattle.pv_protocol.specs.Records.{is_prepared}
use Rattle.pv_protocol.specs.Shown.{shown}
use Rattle.pv_protocol.specs.Sound.{IsInOrder}
use Rattle.pv_protocol.specs.State.{Setup, voting, Grant, Taken, Entry, TakenGrant, Running, Outgoing, Step}
use Rattle.pv_protocol.specs.Step.{records_after}
use Rattle.pv_protocol.specs.Vote.{are_writes_of, would_be_wide, are_writes_ignored, is_vote_ignored}
use Rattle.pv_protocol.specs.World.{World}

none-passes : {X : Type 0} (p : X → Bool) (xs : List X) → ((x : X) → Contains xs x → p x ≡ true → ⊥) → list_any p xs ≡ false
none-passes p xs none = by (list_any p xs) refl where
  by : (b : Bool) → list_any p xs ≡ b → b ≡ false
  by false is = refl
  by true is = let found = any-listed p xs is in absurd (none found.0 found.1.0 found.1.1)

vote-parts : (a b : Bool) → (not a || b) ≡ false → a ≡ true
vote-parts true b is = refl
vote-parts false b is = absurd (false≢true (sym is))

vote-ignored : (a b : Bool) → (not a || b) ≡ true → a ≡ true → b ≡ true
vote-ignored true b is there = is
vote-ignored false b is there = absurd (false≢true there)

module _ (setup : Setup) (room : setup.read_names < setup.held_names) (txn : TxnId) (program : Program) (w : World) (is_known : IsKnown setup w) (entry : Entry)
    (going : Going setup txn program w entry) (n : ℕ) (running : Running) (up : memory_at w n ≡ Some running) where
  abbrev pub There : Here
  There = Now setup txn program w is_known entry going n running up

  abbrev Kept' : Entry
  Kept' = record entry { age = 0 }

  abbrev pub Members : List ℕ
  Members = participants_of program setup.catalog.items

  ordered : IsInOrder running
  ordered = is_known.ordered n running up

  works-so : WorksAgeless w (home_of txn) txn Kept'
  works-so = working setup txn program w is_known entry going n running up

  member : (from : ℕ) → is_among (participants_of entry.program setup.catalog.items) from ≡ true → Contains Members from
  member from is = subst (λ p. Contains (participants_of p setup.catalog.items) from) going.own (among-listed (participants_of entry.program setup.catalog.items) from is)

  among : (from : ℕ) → Contains Members from → is_among (participants_of entry.program setup.catalog.items) from ≡ true
  among from h = listed-among (participants_of entry.program setup.catalog.items) from (subst (λ p. Contains (participants_of p setup.catalog.items) from) (sym going.own) h)

  still : is_prepared (records_at w n ++ []) txn ≡ is_prepared (records_at w n) txn
  still = ap (λ rs. is_prepared rs txn) (append-nil (records_at w n))

  -- A vote is asked for.

  module _ (from : ℕ) (id : GrantId) (writes : List Read) (sent : Sent w from n (prepare txn id writes)) (free : IsFree There from (prepare txn id writes)) where
    asked_right : IsPrepareRight setup w from n txn id writes
    asked_right = is_known.settled.sound.right.sent from n (prepare txn id writes) sent

    votes : entry.stage ≡ voting
    votes =
        let writing = asked_right.writing in
        ⊎_elim (λ asks. absurd ((right setup txn program w is_known entry going n running up).unplaced asks writing.placed writing.in_order writing.own)) (λ is. is) (stage-either entry.stage)

    placed-same : asked_right.writing.placed ≡ place_in_order Kept'
    placed-same =
        let writing = asked_right.writing in
        is_known.settled.sound.right.same_place writing.placed (place_in_order Kept') writing.in_order
        ((right setup txn program w is_known entry going n running up).in_order votes)
        (writing.own ∙ sym (is_known.settled.sound.passed.entries (home_of txn) txn Kept' works-so).own)

    record IsFrom : Type 0 where
      taken : Taken
      listed : Contains entry.taken taken
      at : taken.site ≡ n
      under : taken.grant ≡ id

    is-from : IsFrom
    is-from =
        let h : Contains (map (λ (t : Taken). record { site = t.site; grant = t.grant }) entry.taken) (record { site = n; grant = id }) =
        subst (λ p. Contains p.grants (record { site = n; grant = id })) placed-same asked_right.writing.granted in
        let found = Contains-unmap (λ (t : Taken). record { site = t.site; grant = t.grant }) entry.taken (record { site = n; grant = id }) h in
        record { taken = found.0; listed = found.1.0; at = ap (λ (g : TakenGrant). g.site) found.1.1; under = ap (λ (g : TakenGrant). g.grant) found.1.1 }

    is_taken : IsTakenFrom setup w (home_of txn) txn Kept' is-from.taken
    is_taken = (right setup txn program w is_known entry going n running up).taken is-from.taken is-from.listed

    part : Contains Members n
    part = subst (Contains Members) is-from.at (member is-from.taken.site is_taken.participant)

    stood : Stands (records_at w n) (grant_of running txn) txn id
    stood =
        subst (λ g. Stands (records_at w n) (grant_of running txn) txn g) is-from.under
        (going.stands n part is-from.taken.grant is-from.taken.values (subst (λ m. Sent w m (home_of txn) (granted txn is-from.taken.grant is-from.taken.values)) is-from.at is_taken.reported) running up)

    stands-now : is_prepared (records_at w n) txn ≡ false → (grant : Grant) × ((grant_of running txn ≡ Some grant) × (grant.id ≡ id))
    stands-now unprepared = ⊎_elim (λ was. absurd (false≢true (sym unprepared ∙ was))) (λ held. held) stood

    heard : is_prepared (records_at w n) txn ≡ false → (grant : Grant) → grant_of running txn ≡ Some grant → grant.id ≡ id → are_writes_ignored There grant writes ≡ false
    heard unprepared grant found under =
        let own : txn ≡ grant.txn = grant-txn running txn grant found in
        let held = holds setup txn program w is_known entry going n running up grant found in
        let grounds = grounds-from setup w is_known.settled in
        let wants : grant.wants ≡ wants_of entry.program setup.catalog.items n = (grounds.entries (home_of txn) txn Kept' works-so).wants n (ageless_grant grant) held (sym own) in
        let programs : asked_right.writing.placed.program ≡ entry.program = ap (λ p. p.program) placed-same in
        let items : items_of writes ≡ exclusive_items (wants_of entry.program setup.catalog.items n) =
        asked_right.writing.items ∙ ap (λ p. exclusive_items (wants_of p setup.catalog.items n)) programs in
        let are : are_writes_of grant writes ≡ true =
        (pointwise_decides Decides-eqb (items_of writes) (exclusive_items grant.wants)).1 (items ∙ ap exclusive_items (sym wants)) in
        let narrow : list_any (λ (write : Read). would_be_wide There (prepared grant.txn writes) write.item) writes ≡ false =
        none-passes (λ (write : Read). would_be_wide There (prepared grant.txn writes) write.item) writes
        (λ write listed wide.
        let of_write : Contains (items_of writes) write.item = Contains-map (λ (r : Read). r.item) writes write listed in
        let wanted : Contains (items_of is-from.taken.values) write.item =
        subst (λ all. Contains all write.item) (sym (is_taken.items ∙ ap (λ k. wanted_items (wants_of entry.program setup.catalog.items k)) is-from.at))
        (exclusive-wanted (wants_of entry.program setup.catalog.items n) write.item (subst (λ all. Contains all write.item) items of_write)) in
        let few = votes-are-narrow setup w is_known.reached (home_of txn) txn Kept' works-so votes is-from.taken is-from.listed (ageless_grant grant)
        (subst (λ k. HoldsAgeless w k (ageless_grant grant)) (sym is-from.at) held) (sym own) (under ∙ sym is-from.under)
        (subst (λ k. is_prepared (records_at w k) txn ≡ false) (sym is-from.at) unprepared) from id writes (subst (λ k. Sent w from k (prepare txn id writes)) (sym is-from.at) sent)
        write.item (listed-written write.item writes of_write) (listed-written write.item is-from.taken.values wanted) in
        let few_here = subst (λ k. length (names_of (shown setup.catalog (records_at w k ++ prepared txn writes ∷ []) write.item)) ≤ length (names_taken entry) + 1) is-from.at few in
        let many = ltb-true setup.held_names (length (names_of (shown setup.catalog (records_at w n ++ prepared txn writes ∷ []) write.item)))
        (subst (λ t. nat_lt setup.held_names (length (names_of (shown setup.catalog (records_at w n ++ prepared t writes ∷ []) write.item))) ≡ true) (sym own) wide) in
        let read = going.few votes in
        omega (arith, few_here, many, read, room)) in
        ap (λ b. not b || list_any (λ (write : Read). would_be_wide There (prepared grant.txn writes) write.item) writes) are ∙ narrow

    abbrev pub VoteLeaves : Step → Type 0
    VoteLeaves step = Local setup txn program w entry going n running up step entry × Contains step.sends (record { to = home_of txn; message = vote_yes txn })

    pub vote-leaves : (step : Step) → of_votes.PrepareCase There from txn id writes step → VoteLeaves step
    vote-leaves step (of_votes.not_its_site apart) = absurd (false≢true (sym apart ∙ eq-eqb from txn.site.0 asked_right.home))
    vote-leaves step (of_votes.again own is) = (
      plain setup txn program w entry going n running up step refl refl still
          (λ part item holder h. let wrong = ap (λ (o : Outgoing). o.message) (one-is _ _ h) in absurd (let no : ⊥ = cc in no))
          (λ part cause h. let wrong = ap (λ (o : Outgoing). o.message) (one-is _ _ h) in absurd (let no : ⊥ = cc in no))
          (λ part id' values h. let wrong = ap (λ (o : Outgoing). o.message) (one-is _ _ h) in absurd (let no : ⊥ = cc in no)),
      Contains-first _ [],
    )
    vote-leaves step (of_votes.none_stands is none) = absurd (none-some _ (sym none ∙ (stands-now is.unprepared).1.0))
    vote-leaves step (of_votes.other_stands standing is found apart) =
        let held = stands-now is.unprepared in
        let same : held.0 ≡ standing = Some_inj (sym held.1.0 ∙ found) in
        absurd (false≢true (sym apart ∙ grant-same id standing.id (sym held.1.1 ∙ ap (λ (g : Grant). g.id) same)))
    vote-leaves step (of_votes.ignored standing is stands ign) =
        let held = stands-now is.unprepared in
        let same : held.0 ≡ standing = Some_inj (sym held.1.0 ∙ stands.found) in
        absurd (false≢true (sym (heard is.unprepared standing stands.found (ap (λ (g : Grant). g.id) (sym same) ∙ held.1.1)) ∙ ign))
    vote-leaves step (of_votes.no_room standing is stands ok full) =
        absurd (false≢true (sym (free is.unprepared) ∙ subst (λ t. is_full There (prepared t writes) ≡ true) (sym (grant-txn running txn standing stands.found)) full))
    vote-leaves step (of_votes.promises standing is stands ok room_left) =
        let own : txn ≡ standing.txn = grant-txn running txn standing stands.found in
        let promised : is_prepared (records_at w n ++ prepared standing.txn writes ∷ []) txn ≡ true =
        listed-prepared (records_at w n ++ prepared standing.txn writes ∷ []) txn writes
        (subst (λ t. Contains (records_at w n ++ prepared standing.txn writes ∷ []) (prepared t writes)) (sym own) (listed-last (records_at w n) (prepared standing.txn writes))) in (
          record {
            mine = here-entry setup txn program w entry going n running up;
            other = λ apart. refl;
            further = no-further entry;
            few = going.few;
            undenied = λ part item holder h. let wrong = ap (λ (o : Outgoing). o.message) (one-is _ _ h) in absurd (let no : ⊥ = cc in no);
            no_no = λ part cause h. let wrong = ap (λ (o : Outgoing). o.message) (one-is _ _ h) in absurd (let no : ⊥ = cc in no);
            reported = λ part id' values h. inl promised;
            keeps = λ part id' was. inl promised;
            asked = λ is_voting. inl is_voting;
          },
          subst (λ t. Contains {X = Outgoing} (record { to = standing.txn.site.0; message = vote_yes standing.txn } ∷ []) (record { to = t.site.0; message = vote_yes t })) (sym own) (Contains-first _ []),
        )

  -- A vote comes.

  module _ (from : ℕ) (sent : Sent w from n (vote_yes txn)) (free : IsFree There from (vote_yes txn)) where
    is-voting : entry.stage ≡ voting
    is-voting = placed-votes setup txn program w is_known entry going n running up from (is_known.settled.sound.right.sent from n (vote_yes txn) sent)

    abbrev pub YesLeaves : Step → Type 0
    YesLeaves step =
        (after : Entry) × (Local setup txn program w entry going n running up step after × (n ≡ home_of txn → Contains Members from → is_among after.votes from ≡ true))

    waits-leaves : n ≡ home_of txn → YesLeaves (remembering (with_entry running (voted entry from)))
    waits-leaves at_home =
        let own : txn ≡ entry.txn = entry-txn running txn entry (here-entry setup txn program w entry going n running up at_home) in (
          voted entry from,
          (
            record {
              mine = λ same.
                  of-with (λ (e : Entry). e.txn) txn (voted entry from) running.entries
                  ∙ ap (λ (b : Bool). if b then Some (voted entry from) else of_txn (λ (e : Entry). e.txn) txn running.entries) (same-from-eq {t = txn} {u = entry.txn} own);
              other = λ apart. absurd (apart at_home);
              further = record {
                program = refl;
                taken = λ k is. is;
                votes = λ k is. listed-among (entry.votes ++ from ∷ []) k (Contains-append_left entry.votes (from ∷ []) k (among-listed entry.votes k is));
                voting = λ is. is;
              };
              few = going.few;
              undenied = λ part item holder h. absurd (Contains-nil _ h);
              no_no = λ part cause h. absurd (Contains-nil _ h);
              reported = λ part id values h. absurd (Contains-nil _ h);
              keeps = λ part id stood. ⊎_elim (λ was. inl (still ∙ was)) (λ held. inr held) stood;
              asked = λ is. inl is;
            },
            λ same part. listed-among (entry.votes ++ from ∷ []) from (listed-last entry.votes from),
          ),
        )

    pub yes-leaves : (step : Step) → of_votes.YesCase There from txn step → (n ≡ home_of txn → list_any (says_yes txn) (records_after (records_at w n) step) ≡ false) → YesLeaves step
    yes-leaves step (of_votes.no_entry none) uncommitted = (
      entry,
      (
        idle setup txn program w is_known entry going n running up,
        λ same part. absurd (none-some _ (sym none ∙ found-so (λ (e : Entry). e.txn) (λ (e : Entry). not (is_locking e.stage)) txn running.entries entry
            (here-entry setup txn program w entry going n running up same) (ap (λ stage. not (is_locking stage)) is-voting))),
      ),
    )
    yes-leaves step (of_votes.ignored found is ign) uncommitted =
        let which = entry-home setup txn program w is_known entry going n running up found (voting-found running ordered txn found is).0 in (
          entry,
          (
            idle setup txn program w is_known entry going n running up,
            λ same part. vote-ignored _ _ (subst (λ e. is_vote_ignored There e from ≡ true) which.1 ign) (among from part),
          ),
        )
    yes-leaves step (of_votes.waits found vote h) uncommitted =
        let which = entry-home setup txn program w is_known entry going n running up found (voting-found running ordered txn found vote.found).0 in
        subst (λ e. YesLeaves (remembering (with_entry running (voted e from)))) (sym which.1) (waits-leaves which.0)
    yes-leaves step (of_votes.no_room found vote whole full) uncommitted =
        let both = voting-found running ordered txn found vote.found in
        absurd (false≢true (sym (free found vote.found vote.heard) ∙ subst (λ t. is_full There (outcome_known t true) ≡ true) (sym (entry-txn running txn found both.0)) full))
    yes-leaves step (of_votes.commits found vote whole room_left) uncommitted =
        let both = voting-found running ordered txn found vote.found in
        let which = entry-home setup txn program w is_known entry going n running up found both.0 in
        absurd (false≢true (sym (uncommitted which.0) ∙ listed-yes (records_at w n ++ outcome_known found.txn true ∷ []) txn
        (subst (λ t. Contains (records_at w n ++ outcome_known found.txn true ∷ []) (outcome_known t true)) (sym (entry-txn running txn found both.0)) (listed-last (records_at w n) (outcome_known found.txn true)))))

  module _ (from : ℕ) (cause : NoCause) (sent : Sent w from n (vote_no txn cause)) where
    pub no-leaves : (step : Step) → of_votes.NoCase There from txn cause step → Local setup txn program w entry going n running up step entry
    no-leaves step (of_votes.no_entry none) = idle setup txn program w is_known entry going n running up
    no-leaves step (of_votes.ignored found is ign) = idle setup txn program w is_known entry going n running up
    no-leaves step (of_votes.refuses found vote) =
        let which = entry-home setup txn program w is_known entry going n running up found (voting-found running ordered txn found vote.found).0 in
        absurd (going.no_no from (member from (vote-parts _ _ (subst (λ e. is_vote_ignored There e from ≡ false) which.1 vote.heard))) cause
        (subst (λ m. Sent w from m (vote_no txn cause)) which.0 sent))

  -- An outcome, or a question for it.

  pub no-outcome-comes : (from : ℕ) (outcome : Bool) → Sent w from n (outcome_reported txn outcome) → ⊥
  no-outcome-comes from outcome sent = no-outcome setup txn program w is_known entry going n running up outcome (is_known.settled.decided.reported from n txn outcome sent).outcome

  reported-leaves : (to : ℕ) (outcome : Bool) → Local setup txn program w entry going n running up (sending running (only_to to (outcome_reported txn outcome))) entry
  reported-leaves to outcome =
      plain setup txn program w entry going n running up (sending running (only_to to (outcome_reported txn outcome))) refl refl still
      (λ part item holder h. let wrong = ap (λ (o : Outgoing). o.message) (one-is _ _ h) in absurd (let no : ⊥ = cc in no))
      (λ part cause h. let wrong = ap (λ (o : Outgoing). o.message) (one-is _ _ h) in absurd (let no : ⊥ = cc in no))
      (λ part id values h. let wrong = ap (λ (o : Outgoing). o.message) (one-is _ _ h) in absurd (let no : ⊥ = cc in no))

  pub ask-leaves : (from : ℕ) (step : Step) → of_outcomes.AskCase There from txn step → Local setup txn program w entry going n running up step entry
  ask-leaves from step (of_outcomes.not_issued h) = idle setup txn program w is_known entry going n running up
  ask-leaves from step (of_outcomes.has_committed h i) = reported-leaves from true
  ask-leaves from step (of_outcomes.still_works h i j) = idle setup txn program w is_known entry going n running up
  ask-leaves from step (of_outcomes.will_not_commit h i j) = reported-leaves from false
