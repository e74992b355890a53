-- What a grant that comes in does.
use Rattle.std.proofs.Common.{◌≡◌, ℕ, ◌<◌, ◌≤◌, Bool, true, false, Some, None, Option, List, [], map, length, refl, sym, ap, subst, ◌∙◌}
use Rattle.std.specs.Prelude.{◌&&◌, not, nat_lt, if◌then◌else◌, is_some}
use Rattle.std.specs.Option.{option_map}
use Rattle.std.proofs.lemmas.Bool.{and_parts, le-ltb, lt-ltb, or_parts, true≢false}
use Rattle.pv_base.specs.Assignment.{is_same_txn}
use Rattle.pv_base.specs.declared.limits.TheConstants.{MAX_SITES, READ_NAMES}
use Rattle.pv_base.specs.declared.reply.Reply.{Reply}
use Rattle.pv_base.specs.declared.txn.TxnId.{TxnId}
use Rattle.pv_base.specs.Named.{names_of}
use Rattle.pv_base.specs.Polyvalue.{Case}
use Rattle.pv_coord.specs.Answers.{Arrival, arrival, ignored, last, waits}
use Rattle.pv_coord.specs.Coordinator as own
use Rattle.pv_coord.specs.Coordinator.{CoordMemory, Grants, locking_work, with_taken_for, work_of}
use Rattle.pv_coord.specs.Planned.{IsPlanned, grant-planned, grants-planned}
use Rattle.pv_coord.specs.Work as works
use Rattle.pv_coord.specs.Work.{Work, at_lock_point, grant_from, txn_of, with_grant}
use Rattle.pv_format.specs.Record.{Record}
use Rattle.pv_law_step.proofs.Appended.{found-passes}
use Rattle.pv_law_step.proofs.Kept.{find-of}
use Rattle.pv_law_step.proofs.Lists.{of-some}
use Rattle.pv_model.specs.Alternatives.{Read, all_cases}
use Rattle.pv_model.specs.Syntax.{Program}
use Rattle.pv_protocol.specs.Coordinate.{has_taken, is_locking, locking_entry, names_taken, reads_of, are_values_of}
use Rattle.pv_protocol.specs.Granted as model
use Rattle.pv_protocol.specs.Coordinate as coordinate
use Rattle.pv_protocol.specs.Granted.{asked_of, at_granted, on_granted, with_grants}
use Rattle.pv_protocol.specs.Here.{Here, is_among, nothing, participants, refusing, remembering, with_entry}
use Rattle.pv_protocol.specs.Sound.{IsEntryInRange}
use Rattle.pv_protocol.specs.State as state
use Rattle.pv_protocol.specs.State.{Entry, Taken, outcome_limit, uncertain}
use Rattle.pv_protocol.specs.WellFormed.{CanRun}
use Rattle.pv_site.proofs.LeastDoubt.{no-doubt, the-doubt}
use Rattle.pv_site.proofs.Entries.{entry_in, first-found, found-txn, locking-of}
use Rattle.pv_site.proofs.PrepareSends.{prepares-all}
use Rattle.pv_site.proofs.TakenReads.{named-read, reads-apart, reads-below, taken-with}
use Rattle.pv_site.proofs.Tied.{here-with, planned-found, stepped, tied-with, work-found}
use Rattle.pv_site.specs.Answer.{IsAnswer}
use Rattle.pv_site.specs.declared.doubting.Doubt.{Doubt}
use Rattle.pv_site.specs.Doubts.{least_from}
use Rattle.pv_site.specs.LockPoint.{HasItsReads, IsComputed, IsTooMany, ReadApart}
use Rattle.pv_site.specs.SiteParts.{AreSound, AreTied, HaveStepped, IsReplyOf, IsWorkOf, here_of}
use Rattle.pv_site.specs.Shares.{prepares}
use Rattle.pv_site.specs.Values.{note_of, outgoing_of}
use Rattle.pv_site.specs.declared.input.Step.{Step}
use Rattle.pv_site.specs.declared.parts.SiteParts.{SiteParts}

-- What an arrival says of its tests.

abbrev arrival_if : Bool → Bool → List Read → Program → Grants → Arrival
arrival_if a b reads program grants = if a then ignored else (if b then last reads program grants else waits grants)

if-ignored : (a b : Bool) (reads : List Read) (program : Program) (grants : Grants) → arrival_if a b reads program grants ≡ ignored → a ≡ true
if-ignored true b reads program grants is = refl
if-ignored false true reads program grants is = absurd (let no : ⊥ = cc in no)
if-ignored false false reads program grants is = absurd (let no : ⊥ = cc in no)

if-waits : (a b : Bool) (reads : List Read) (program : Program) (grants others : Grants) → arrival_if a b reads program grants ≡ waits others → (a ≡ false) × (b ≡ false) × (grants ≡ others)
if-waits true b reads program grants others is = absurd (let no : ⊥ = cc in no)
if-waits false true reads program grants others is = absurd (let no : ⊥ = cc in no)
if-waits false false reads program grants others is = (refl, refl, cc)

if-last : (a b : Bool) (reads others : List Read) (program other : Program) (grants more : Grants) → arrival_if a b reads program grants ≡ last others other more
    → (a ≡ false) × (b ≡ true) × (reads ≡ others) × (program ≡ other)
if-last true b reads others program other grants more is = absurd (let no : ⊥ = cc in no)
if-last false true reads others program other grants more is = (refl, refl, cc, cc)
if-last false false reads others program other grants more is = absurd (let no : ⊥ = cc in no)

if-last-same : (a b : Bool) (reads others : List Read) (program other : Program) (grants more : Grants) → arrival_if a b reads program grants ≡ last others other more → grants ≡ more
if-last-same true b reads others program other grants more is = absurd (let no : ⊥ = cc in no)
if-last-same false true reads others program other grants more is = cc
if-last-same false false reads others program other grants more is = absurd (let no : ⊥ = cc in no)

-- The grant that is the last is the one that came in.
pub same-last : (found : Option Work) (grants change : Grants) (reads : List Read) (program : Program) → arrival found grants ≡ last reads program change
    → arrival found change ≡ last reads program change
same-last None grants change reads program is = absurd (let no : ⊥ = cc in no)
same-last (Some work) grants change reads program is =
    subst (λ (g : Grants). arrival (Some work) g ≡ last reads program change)
    (if-last-same (works.is_grant_ignored work grants.taken) (works.has_all_grants (with_grant work grants.taken)) (reads_of (with_grant work grants.taken).entry) reads
    work.entry.program program grants change is)
    is

heard-of : (b : Bool) → not b ≡ false → b ≡ true
heard-of true is = refl
heard-of false is = absurd (true≢false is)

no-reply : (records : List Record) (entry : Entry) (reply : Option (List (Case Reply))) → is_some reply ≡ false → IsReplyOf records entry reply
no-reply records entry None is = tt
no-reply records entry (Some reply) is = absurd (true≢false is)

module _ (parts : SiteParts) (tied : AreTied parts) (txn : TxnId) (new : Taken) where
  abbrev here : Here
  here = here_of parts

  abbrev grants : Grants
  grants = record { txn = txn; taken = new }

  abbrev is_it : Work → Bool
  is_it work = is_same_txn txn work.entry.txn && is_locking work.entry.stage

  -- The work takes the grant.
  pub record IsTaken : Type 0 where
    pub work : Work
    pub found : locking_work parts.coord.contents txn ≡ Some work
    pub heard : model.is_grant_ignored here work.entry new.site new.values ≡ false

  -- With it, it has the grants of all participants, and reads this for this program.
  pub record IsLast (reads : List Read) (program : Program) : Type 0 where
    pub taken : IsTaken
    pub whole : coordinate.has_all_grants here (with_grant taken.work new).entry ≡ true
    pub reads_are : reads_of (with_grant taken.work new).entry ≡ reads
    pub program_is : taken.work.entry.program ≡ program

  step-at : (found : Option Work) → locking_work parts.coord.contents txn ≡ found
      → on_granted here new.site txn new.grant new.values ≡ at_granted here new.site new.grant new.values (option_map entry_in found)
  unfolding on_granted
  step-at found is =
      ap (at_granted here new.site new.grant new.values) (locking-of parts.locks parts.coord.contents txn ∙ ap (option_map entry_in) is)

  -- A grant that is ignored.

  ignored-by : (found : Option Work) → locking_work parts.coord.contents txn ≡ found → arrival found grants ≡ ignored
      → at_granted here new.site new.grant new.values (option_map entry_in found) ≡ nothing here
  ignored-by None is unmoved = refl
  ignored-by (Some work) is unmoved =
      ap (λ (b : Bool). if b then nothing here else with_grants here (with_grant work new).entry)
      (sym (grant-planned here work (planned-found parts tied is_it work is) new)
      ∙ if-ignored (works.is_grant_ignored work new) (works.has_all_grants (with_grant work new)) (reads_of (with_grant work new).entry) work.entry.program grants unmoved)

  pub ignored-nothing : arrival (locking_work parts.coord.contents txn) grants ≡ ignored → on_granted here new.site txn new.grant new.values ≡ nothing here
  ignored-nothing unmoved = step-at (locking_work parts.coord.contents txn) refl ∙ ignored-by (locking_work parts.coord.contents txn) refl unmoved

  -- A grant that is taken.

  heard-here : (work : Work) → locking_work parts.coord.contents txn ≡ Some work → works.is_grant_ignored work new ≡ false
      → model.is_grant_ignored here work.entry new.site new.values ≡ false
  heard-here work is heard = sym (grant-planned here work (planned-found parts tied is_it work is) new) ∙ heard

  waits-by : (found : Option Work) (others : Grants) → locking_work parts.coord.contents txn ≡ found → arrival found grants ≡ waits others
      → (taken : IsTaken) × (coordinate.has_all_grants here (with_grant taken.work new).entry ≡ false) × (grants ≡ others)
  waits-by None others is waiting = absurd (let no : ⊥ = cc in no)
  waits-by (Some work) others is waiting =
      let tests = if-waits (works.is_grant_ignored work new) (works.has_all_grants (with_grant work new)) (reads_of (with_grant work new).entry) work.entry.program grants others waiting in (
        record { work = work; found = is; heard = heard-here work is tests.0 },
        sym (grants-planned here (with_grant work new) (planned-found parts tied is_it work is)) ∙ tests.1,
        tests.2,
      )

  last-by : (found : Option Work) (reads : List Read) (program : Program) (others : Grants) → locking_work parts.coord.contents txn ≡ found
      → arrival found grants ≡ last reads program others → IsLast reads program
  last-by None reads program others is all = absurd (let no : ⊥ = cc in no)
  last-by (Some work) reads program others is all =
      let tests = if-last (works.is_grant_ignored work new) (works.has_all_grants (with_grant work new)) (reads_of (with_grant work new).entry) reads work.entry.program program grants others all in
      record {
        taken = record { work = work; found = is; heard = heard-here work is tests.0 };
        whole = sym (grants-planned here (with_grant work new) (planned-found parts tied is_it work is)) ∙ tests.1;
        reads_are = tests.2;
        program_is = tests.3;
      }

  pub is-last : (reads : List Read) (program : Program) (others : Grants) → arrival (locking_work parts.coord.contents txn) grants ≡ last reads program others → IsLast reads program
  is-last reads program others all = last-by (locking_work parts.coord.contents txn) reads program others refl all

  module _ (is : IsTaken) where
    abbrev work : Work
    work = is.work

    abbrev entry : Entry
    entry = (with_grant work new).entry

    is-work : IsWorkOf parts.catalog parts.store.records work
    is-work = work-found parts tied is_it work is.found

    is-planned : IsPlanned here work
    is-planned = planned-found parts tied is_it work is.found

    awaits : (is_among (participants here work.entry) new.site ≡ true) × (has_taken work.entry new.site ≡ false)
        × (are_values_of (asked_of here work.entry new.site) new.values ≡ true)
    awaits =
        let outer = or_parts (model.is_unawaited here work.entry new.site) (not (are_values_of (asked_of here work.entry new.site) new.values)) is.heard in
        let inner = or_parts (not (is_among (participants here work.entry) new.site)) (has_taken work.entry new.site) outer.0 in
        (heard-of (is_among (participants here work.entry) new.site) inner.0, inner.1, heard-of (are_values_of (asked_of here work.entry new.site) new.values) outer.1)

    locks : is_locking work.entry.stage ≡ true
    locks = (and_parts (is_same_txn txn work.entry.txn) (is_locking work.entry.stage) (found-passes is_it parts.coord.contents.entries work is.found)).1

    -- It stays a work of the site.
    taken-work : IsWorkOf parts.catalog parts.store.records (with_grant work new)
    taken-work = record {
      plan = is-work.plan;
      taken = taken-with parts.catalog.items work.entry.program new work.entry.taken is-work.taken awaits.1 awaits.2;
      stage = is-work.stage;
      reply = no-reply parts.store.records entry work.reply (is-work.stage ∙ ap not locks);
    }

    locked-work : (reply : List (Case Reply)) → IsReplyOf parts.store.records entry (Some reply) → IsWorkOf parts.catalog parts.store.records (at_lock_point (with_grant work new) reply)
    locked-work reply replied = record { plan = is-work.plan; taken = taken-work.taken; stage = refl; reply = replied }

    taking-is : (reply : Option (List (Case Reply))) → own.taking parts.coord.contents grants reply ≡ own.with_work parts.coord.contents (works.after_grant work new reply)
    taking-is reply = ap (λ (found : Option Work). record parts.coord.contents { entries = with_taken_for parts.coord.contents.entries new reply found }) is.found

    step-taken : on_granted here new.site txn new.grant new.values ≡ with_grants here entry
    step-taken =
        step-at (Some work) is.found ∙ ap (λ (b : Bool). if b then nothing here else with_grants here entry) is.heard

    -- Other grants are awaited.
    waiting-step : (coord : CoordMemory) (answer : Step) → coordinate.has_all_grants here entry ≡ false → coord.contents ≡ own.taking parts.coord.contents grants None
        → map outgoing_of answer.sends.items ≡ [] → map note_of answer.notes.items ≡ [] → answer.locked ≡ None
        → HaveStepped parts (record parts { coord = coord }) (remembering (with_entry here.running entry)) × IsAnswer answer (remembering (with_entry here.running entry))
    waiting-step coord answer others now sent noted unlocked =
        let with_it = now ∙ taking-is None in (
          stepped parts (record parts { coord = coord }) (remembering (with_entry here.running entry)) refl
              (here-with parts tied coord (with_grant work new) with_it)
              (tied-with parts tied coord (with_grant work new) taken-work with_it),
          record { sends = sent; notes = noted; locked = unlocked },
        )

    waiting : (coord : CoordMemory) (answer : Step) → coordinate.has_all_grants here entry ≡ false → coord.contents ≡ own.taking parts.coord.contents grants None
        → map outgoing_of answer.sends.items ≡ [] → map note_of answer.notes.items ≡ [] → answer.locked ≡ None
        → HaveStepped parts (record parts { coord = coord }) (on_granted here new.site txn new.grant new.values)
        × IsAnswer answer (on_granted here new.site txn new.grant new.values)
    waiting coord answer others now sent noted unlocked =
        subst (λ (step : state.Step). HaveStepped parts (record parts { coord = coord }) step × IsAnswer answer step)
        (sym (step-taken
        ∙ ap (λ (b : Bool). if not b then remembering (with_entry here.running entry) else
        (if nat_lt READ_NAMES (length (names_taken entry)) then refusing here entry (outcome_limit (length (names_taken entry))) else model.if_certain here entry (model.first_uncertain here entry))) others))
        (waiting-step coord answer others now sent noted unlocked)

    -- All have granted.
    module _ (whole : coordinate.has_all_grants here entry ≡ true) where
      step-whole : (b : Bool) → nat_lt READ_NAMES (length (names_taken entry)) ≡ b
          → on_granted here new.site txn new.grant new.values
          ≡ (if b then refusing here entry (outcome_limit (length (names_taken entry))) else model.if_certain here entry (model.first_uncertain here entry))
      step-whole b is_wide =
          step-taken
          ∙ ap (λ (all : Bool). if not all then remembering (with_entry here.running entry) else
          (if nat_lt READ_NAMES (length (names_taken entry)) then refusing here entry (outcome_limit (length (names_taken entry))) else model.if_certain here entry (model.first_uncertain here entry))) whole
          ∙ ap (λ (wide : Bool). if wide then refusing here entry (outcome_limit (length (names_taken entry))) else model.if_certain here entry (model.first_uncertain here entry)) is_wide

      -- Too many outcomes.
      refused-step : (count : ℕ) → length (names_taken entry) ≡ count → READ_NAMES < count
          → on_granted here new.site txn new.grant new.values ≡ refusing here work.entry (outcome_limit count)
      refused-step count counted over =
          step-whole true (ap (nat_lt READ_NAMES) counted ∙ lt-ltb READ_NAMES count over)
          ∙ ap (λ (n : ℕ). refusing here work.entry (outcome_limit n)) counted

      -- An item isn't certain that has to be.
      doubted-step : (item count : ℕ) → length (names_taken entry) ≤ READ_NAMES → model.first_uncertain here entry ≡ Some item
          → coordinate.doubts parts.store.records entry item ≡ count
          → on_granted here new.site txn new.grant new.values ≡ refusing here work.entry (uncertain item count)
      doubted-step item count few doubt counted =
          step-whole false (le-ltb READ_NAMES (length (names_taken entry)) few)
          ∙ ap (model.if_certain here entry) doubt
          ∙ ap (λ (n : ℕ). refusing here work.entry (uncertain item n)) counted

      work-is : work_of parts.coord.contents txn ≡ Some work
      work-is = first-found txn_of (λ (w : Work). is_locking w.entry.stage) txn parts.coord.contents.entries work tied.order is.found

      same-txn : txn ≡ work.entry.txn
      same-txn = found-txn txn_of txn parts.coord.contents.entries work work-is

      -- The lock point.
      locked-step : (coord : CoordMemory) (answer : Step) (writes : List Read) (reply : List (Case Reply)) → IsComputed parts.store.records entry writes reply
          → coord.contents ≡ own.taking parts.coord.contents grants (Some reply)
          → ((w : Work) → work_of parts.coord.contents txn ≡ Some w → map outgoing_of answer.sends.items ≡ prepares txn writes new.site new.grant (grant_from w) w.parts)
          → map note_of answer.notes.items ≡ [] → answer.locked ≡ Some txn
          → HaveStepped parts (record parts { coord = coord }) (model.at_lock_point here entry) × IsAnswer answer (model.at_lock_point here entry)
      locked-step coord answer writes reply computed now sent noted placed =
          let with_it = now ∙ taking-is (Some reply) in (
            stepped parts (record parts { coord = coord }) (model.at_lock_point here entry) refl
                (here-with parts tied coord (at_lock_point (with_grant work new) reply) with_it)
                (tied-with parts tied coord (at_lock_point (with_grant work new) reply) (locked-work reply computed.reply) with_it),
            record {
              sends = sent work work-is
                  ∙ ap (λ (t : TxnId). prepares t writes new.site new.grant (grant_from work) work.parts) same-txn
                  ∙ prepares-all here work new writes is-planned awaits.1 computed.written;
              notes = noted;
              locked = placed ∙ ap Some same-txn;
            },
          )

      locked : (coord : CoordMemory) (answer : Step) (writes : List Read) (reply : List (Case Reply)) → IsComputed parts.store.records entry writes reply
          → model.first_uncertain here entry ≡ None
          → coord.contents ≡ own.taking parts.coord.contents grants (Some reply)
          → ((w : Work) → work_of parts.coord.contents txn ≡ Some w → map outgoing_of answer.sends.items ≡ prepares txn writes new.site new.grant (grant_from w) w.parts)
          → map note_of answer.notes.items ≡ [] → answer.locked ≡ Some txn
          → HaveStepped parts (record parts { coord = coord }) (on_granted here new.site txn new.grant new.values)
          × IsAnswer answer (on_granted here new.site txn new.grant new.values)
      locked coord answer writes reply computed sure now sent noted placed =
          subst (λ (step : state.Step). HaveStepped parts (record parts { coord = coord }) step × IsAnswer answer step)
          (sym (step-whole false (le-ltb READ_NAMES (length (names_taken entry)) computed.few) ∙ ap (model.if_certain here entry) sure))
          (locked-step coord answer writes reply computed now sent noted placed)

  -- The step on a grant for which others are awaited.
  pub waits-step : (coord : CoordMemory) (answer : Step) (others : Grants) → arrival (locking_work parts.coord.contents txn) grants ≡ waits others
      → coord.contents ≡ own.taking parts.coord.contents others None
      → map outgoing_of answer.sends.items ≡ [] → map note_of answer.notes.items ≡ [] → answer.locked ≡ None
      → HaveStepped parts (record parts { coord = coord }) (on_granted here new.site txn new.grant new.values)
      × IsAnswer answer (on_granted here new.site txn new.grant new.values)
  waits-step coord answer others waiting_now now sent noted unlocked =
      let is = waits-by (locking_work parts.coord.contents txn) others refl waiting_now in
      waiting is.0 coord answer is.1 (now ∙ ap (λ (some : Grants). own.taking parts.coord.contents some None) (sym is.2)) sent noted unlocked

  -- The step on the last grant.
  module _ (reads : List Read) (program : Program) (is : IsLast reads program) where
    pub last-refused : (count : ℕ) → IsTooMany reads count → on_granted here new.site txn new.grant new.values ≡ refusing here is.taken.work.entry (outcome_limit count)
    last-refused count many =
        refused-step is.taken is.whole count (ap (λ (some : List Read). length (names_of (all_cases some))) is.reads_are ∙ many.counted) many.over

    module _ (sound : AreSound parts) where
      abbrev is_locking_it : Entry → Bool
      is_locking_it entry = is_same_txn txn entry.txn && is_locking entry.stage

      runs : CanRun parts.catalog is.taken.work.entry.program
      runs =
          (of-some (IsEntryInRange MAX_SITES parts.catalog) (locking_entry here.running txn) is.taken.work.entry
          (find-of (IsEntryInRange MAX_SITES parts.catalog) is_locking_it here.running.entries sound.range.running.entries)
          (locking-of parts.locks parts.coord.contents txn ∙ ap (option_map entry_in) is.taken.found)).program

      -- The reads are of different items,
      pub last-apart : ReadApart reads
      last-apart =
          subst ReadApart is.reads_are
          (reads-apart parts.catalog is.taken.work.entry.program sound.range.setup.items runs (with_grant is.taken.work new).entry.taken (taken-work is.taken).taken)

      -- and have each item of the program.
      pub last-reads : HasItsReads program reads
      last-reads =
          subst (λ (some : Program). HasItsReads some reads) is.program_is
          (subst (λ (some : List Read). HasItsReads is.taken.work.entry.program some) is.reads_are
          (named-read parts.catalog is.taken.work.entry.program sound.range.setup.items runs (with_grant is.taken.work new).entry.taken (taken-work is.taken).taken is.whole))

      -- What is known of the first item of the reads that isn't certain is so of the catalog.
      sure-or-not : (first : Option Doubt) → first ≡ least_from parts.store.records program None reads
          → (first ≡ None → model.first_uncertain here (with_grant is.taken.work new).entry ≡ None)
          × ((doubt : Doubt) → first ≡ Some doubt → (model.first_uncertain here (with_grant is.taken.work new).entry ≡ Some doubt.item.0)
          × (coordinate.doubts parts.store.records (with_grant is.taken.work new).entry doubt.item.0 ≡ doubt.outcomes))
      sure-or-not first found =
          let entry : Entry = (with_grant is.taken.work new).entry in
          let apart : ReadApart (reads_of entry) = subst ReadApart (sym is.reads_are) last-apart in
          let has : HasItsReads entry.program (reads_of entry) =
          subst (λ (some : Program). HasItsReads some (reads_of entry)) (sym is.program_is) (subst (λ (some : List Read). HasItsReads program some) (sym is.reads_are) last-reads) in
          let below = reads-below parts.catalog is.taken.work.entry.program entry.taken (taken-work is.taken).taken in
          let least : first ≡ least_from parts.store.records entry.program None (reads_of entry) =
          found ∙ (λ i. least_from parts.store.records (sym is.program_is i) None (sym is.reads_are i)) in (
            λ none. no-doubt parts.store.records entry parts.catalog.items apart has below (sym least ∙ none),
            λ doubt some. the-doubt parts.store.records entry parts.catalog.items apart has below doubt (sym least ∙ some),
          )

      -- The step on the last grant where an item isn't certain that has to be.
      pub last-doubted : (first : Option Doubt) (doubt : Doubt) (writes : List Read) (reply : List (Case Reply))
          → ((entry : Entry) → entry.program ≡ program → reads_of entry ≡ reads → IsComputed parts.store.records entry writes reply)
          → first ≡ least_from parts.store.records program None reads → first ≡ Some doubt
          → on_granted here new.site txn new.grant new.values ≡ refusing here is.taken.work.entry (uncertain doubt.item.0 doubt.outcomes)
      last-doubted first doubt writes reply computed found some =
          let there = (sure-or-not first found).1 doubt some in
          doubted-step is.taken is.whole doubt.item.0 doubt.outcomes (computed (with_grant is.taken.work new).entry is.program_is is.reads_are).few there.0 there.1

      pub last-locked : (coord : CoordMemory) (answer : Step) (writes : List Read) (reply : List (Case Reply)) (first : Option Doubt)
          → ((entry : Entry) → entry.program ≡ program → reads_of entry ≡ reads → IsComputed parts.store.records entry writes reply)
          → first ≡ least_from parts.store.records program None reads → first ≡ None
          → coord.contents ≡ own.taking parts.coord.contents grants (Some reply)
          → ((w : Work) → work_of parts.coord.contents txn ≡ Some w → map outgoing_of answer.sends.items ≡ prepares txn writes new.site new.grant (grant_from w) w.parts)
          → map note_of answer.notes.items ≡ [] → answer.locked ≡ Some txn
          → HaveStepped parts (record parts { coord = coord }) (on_granted here new.site txn new.grant new.values)
          × IsAnswer answer (on_granted here new.site txn new.grant new.values)
      last-locked coord answer writes reply first computed found none now sent noted placed =
          locked is.taken is.whole coord answer writes reply (computed (with_grant is.taken.work new).entry is.program_is is.reads_are) ((sure-or-not first found).0 none) now sent
          noted placed
