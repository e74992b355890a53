-- Each number in what a step reports is within its type, where what the site holds and what it is given is in range.
use Rattle.std.proofs.Common.{◌≡◌, ℕ, ◌+◌, ◌*◌, ◌<◌, ◌≤◌, ◌^◌, ℤ, Bool, true, Some, None, Option, All, List, [], ◌∷◌, ◌++◌, length, map, refl, sym, ap, subst, ◌∙◌, arith, length-append, mul-suc, suc}
use Rattle.std.specs.Prelude.{◌==◌, ◌≢◌, nat_lt, not}
use Rattle.std.specs.Option.{unwrap_or}
use Rattle.std.specs.List.{find, flat_map}
use Rattle.std.proofs.lemmas.Bool.{eqb-false}
use Rattle.std.proofs.lemmas.List.{length-map}
use Rattle.std.specs.Ordering.{int_eq}
use Rattle.std.proofs.lemmas.List.Elements.{All-cons, All-contains, All-filter, All-map, All-nil}
use Rattle.pv_audit.specs.Printed.{IsCause, IsReply, IsSite, IsTxn, IsWithin}
use Rattle.pv_base.specs.Named.{names_of}
use Rattle.pv_base.specs.Polyvalue.{Case}
use Rattle.pv_base.specs.Want.{Want}
use Rattle.pv_base.specs.declared.grant.GrantId.{GrantId}
use Rattle.pv_base.specs.declared.limits.TheConstants.{HELD_NAMES, MAX_SITES, NEVER_GIVEN, TICKS}
use Rattle.pv_base.specs.declared.reply.Reply.{Reply}
use Rattle.pv_base.specs.declared.reply.Reply.TheVariants.{Declined, Nothing, Value}
use Rattle.pv_base.specs.declared.txn.TxnId.{TxnId}
use Rattle.pv_format.specs.Message.{Message, lock, granted, denied, prepare, vote_yes, vote_no, outcome_reported, ask, NoCause, grant_lost, journal_full}
use Rattle.pv_format.specs.Range.{AreReadsWithin, IsCauseInRange, IsEnvelopeWithin, IsGrantInRange, IsPolyvalueWithin, IsTxnWithin}
use Rattle.pv_format.specs.Record.{Record, outcome_known}
use Rattle.pv_law_canonical.proofs.CanonicalLemmas as canonical
use Rattle.pv_law_polyvalues.proofs.AscendingLemmas.{fewer-ascending}
use Rattle.pv_law_polyvalues.proofs.ExistenceLemmas.{case-met}
use Rattle.pv_law_step.proofs.ComputedLemmas.{reply-canonical, reply-value}
use Rattle.pv_law_step.proofs.FitLemmas.{AllFit, ReplyFits, reply-fits, small}
use Rattle.pv_law_step.proofs.Kept.{find-of, with-taken-all}
use Rattle.pv_law_step.proofs.Lists.{OfSome, all-flat, all-from, all-head, all-tail, of-some}
use Rattle.pv_law_step.proofs.NameLists.{listed-names, names-ascend, undecided-listed}
use Rattle.pv_law_step.proofs.SoundLemmas.{me-in-range, participant-in-range}
use Rattle.pv_law_step.proofs.StepCases.{if_case, submit-case, lock-case, granted-case, denied-case, prepare-case, yes-case, no-case, outcome-case, ask-case}
use Rattle.pv_law_step.proofs.ValueRanges.{number-fits}
use Rattle.pv_law_step.specs.GrantCases as of_grants
use Rattle.pv_law_step.specs.LockCases as of_locks
use Rattle.pv_law_step.specs.OutcomeCases as of_outcomes
use Rattle.pv_law_step.specs.VoteCases as of_votes
use Rattle.pv_law_traces.specs.Ranges.{HaveTakenFew}
use Rattle.pv_law_traces.proofs.NameCounts.{names-of-all, polyvalue-names}
use Rattle.pv_model.specs.Alternatives.{Read, number_at, rows_at}
use Rattle.pv_model.specs.Replies.{is_same_reply}
use Rattle.pv_model.specs.PossibleAnswers.{without_repeats}
use Rattle.pv_model.specs.Syntax.{Program}
use Rattle.pv_protocol.specs.Coordinate.{count_left, doubts, locking_entry, names_taken, reads_of, replies_of, reply_after, reply_value, settled_value, value_taken, voting_entry, with_taken}
use Rattle.pv_protocol.specs.Granted.{taking}
use Rattle.pv_protocol.specs.Here.{Here, length_with, participants}
use Rattle.pv_protocol.specs.Lines.{line_of}
use Rattle.pv_protocol.specs.Lock.{next_txn}
use Rattle.pv_protocol.specs.Records.{choice, undecided}
use Rattle.pv_protocol.specs.Sound.{IsEntryInRange, IsHereInRange, IsInputInRange, IsTakenInRange}
use Rattle.pv_protocol.specs.State as state
use Rattle.pv_protocol.specs.State.{Cause, Entry, Input, Note, Step, Taken, began, committed, expired, full, receive, refused, spent, submit, tick}
use Rattle.pv_protocol.specs.Step.{on_message, step_on}
use Rattle.pv_protocol.specs.Tick.{awaited, expired_entries, has_answered, older_entries, on_tick}
use Rattle.pv_protocol.specs.Vote.{cause_of}

module _ (sites : ℕ) (here : Here) (sound : IsHereInRange sites here) (few : HaveTakenFew here.running.entries) where
  abbrev Within : Note → Type 0
  Within note = IsWithin (line_of here.me note)

  one : (note : Note) → Within note → All Within (note ∷ [])
  one note is = All-cons Within note [] is (All-nil Within)

  txn-is : (t : TxnId) → IsTxnWithin sites t → IsTxn t
  txn-is t is = record { site = omega (arith, is.site, sound.most); epoch = is.epoch; number = is.number }

  me-is : IsSite here.me
  me-is = omega (arith, me-in-range sites here sound, sound.most)

  -- what holds of each entry holds of one that is found
  abbrev IsGood : Entry → Type 0
  IsGood entry = IsEntryInRange sites here.setup.catalog entry

  locking-is : (P : Entry → Type 0) → All P here.running.entries → (txn : TxnId) (entry : Entry) → locking_entry here.running txn ≡ Some entry → P entry
  locking-is P all txn entry is = of-some P (locking_entry here.running txn) entry (find-of P _ here.running.entries all) is

  voting-is : (P : Entry → Type 0) → All P here.running.entries → (txn : TxnId) (entry : Entry) → voting_entry here.running txn ≡ Some entry → P entry
  voting-is P all txn entry is = of-some P (voting_entry here.running txn) entry (find-of P _ here.running.entries all) is

  -- ---- what was taken

  module _ (entry : Entry) (taken : All (IsTakenInRange sites) entry.taken) where
    reads-are : All (λ (read : Read). IsPolyvalueWithin sites read.cases) (reads_of entry)
    reads-are =
        all-flat (λ (read : Read). IsPolyvalueWithin sites read.cases) (λ (t : Taken). t.values) entry.taken
        (λ t h. (All-contains (IsTakenInRange sites) entry.taken t taken h).values.values)

  -- Together the values name few outcomes.
  values-few : (list : List Taken) → All (IsTakenInRange sites) list → length (flat_map (λ (t : Taken). t.values) list) ≤ 16 * length list
  values-few [] all = omega arith
  values-few (t ∷ list) all =
      let few = (all-head (IsTakenInRange sites) t list all).values.items.few in
      let rest = values-few list (all-tail (IsTakenInRange sites) t list all) in
      omega (arith, few, rest, length-map {B = ℕ} t.values (λ (read : Read). read.item), length-append t.values (flat_map (λ (t : Taken). t.values) list), mul-suc 16 (length list))

  names-few : (entry : Entry) → All (IsTakenInRange sites) entry.taken → length entry.taken ≤ 65537 → length (names_taken entry) < 2 ^ 32
  names-few entry taken short =
      let each = all-from (λ (read : Read). length (names_of read.cases) ≤ HELD_NAMES) (reads_of entry)
      (λ read h. polyvalue-names HELD_NAMES read.cases (All-contains (λ (r : Read). IsPolyvalueWithin sites r.cases) (reads_of entry) read (reads-are entry taken) h).polyvalue) in
      let names = names-of-all (λ (read : Read). read.cases) HELD_NAMES (reads_of entry) each in
      let values = values-few entry.taken taken in
      omega (arith, names, values, short)

  length-with_taken : (taken : Taken) (list : List Taken) → length (with_taken taken list) ≡ suc (length list)
  length-with_taken taken [] = refl
  length-with_taken taken (first ∷ rest) =
      if_case (λ (l : List Taken). length l ≡ suc (suc (length rest))) (nat_lt taken.site first.site) (λ before. refl) (λ behind. ap suc (length-with_taken taken rest))

  taking-good : (entry : Entry) (from : ℕ) (grant : GrantId) (values : List Read) → IsGood entry → IsGrantInRange grant → AreReadsWithin sites 1 values
      → All (IsTakenInRange sites) (taking entry from grant values).taken
  taking-good entry from grant values is given are =
      with-taken-all (IsTakenInRange sites) (record { site = from; grant = grant; values = values }) entry.taken (record { grant = given; values = are }) is.taken

  -- With the outcomes put in that are known a value names no more.
  settled-few : (records : List Record) (cases : List (Case ℤ)) → length (names_of (settled_value records cases)) ≤ length (names_of cases)
  unfolding settled_value
  settled-few records cases =
      fewer-ascending (names_of (settled_value records cases)) (names_of cases) (names-ascend (settled_value records cases))
      (λ t h. undecided-listed records (names_of cases) t
      (canonical.names-listed int_eq (undecided records (names_of cases)) (λ assignment. number_at cases (choice records assignment)) t (listed-names (settled_value records cases) t h)))

  left-few : (records : List Record) (read : Option Read) → OfSome (λ (r : Read). IsPolyvalueWithin sites r.cases) read → count_left records read < 2 ^ 32
  left-few records None is = omega arith
  left-few records (Some read) is =
      let names = polyvalue-names HELD_NAMES read.cases is.polyvalue in
      let settled = settled-few records read.cases in
      omega (arith, names, settled)

  doubts-few : (entry : Entry) (item : ℕ) → All (IsTakenInRange sites) entry.taken → doubts here.records entry item < 2 ^ 32
  doubts-few entry item taken =
      left-few here.records (value_taken entry item) (find-of (λ (r : Read). IsPolyvalueWithin sites r.cases) (λ read. read.item == item) (reads_of entry) (reads-are entry taken))

  -- ---- each step

  submit-within : (program : Program) (step : Step) → of_locks.SubmitCase here program step → All Within step.notes
  submit-within program step (of_locks.no_number_left h) = one spent me-is
  submit-within program step (of_locks.begins left) =
      let apart : here.running.next_txn ≢ NEVER_GIVEN = eqb-false here.running.next_txn NEVER_GIVEN left in
      one (began (next_txn here)) (record { site = me-is; epoch = omega (arith, sound.running.epoch); number = omega (arith, sound.running.next_txn, apart) })

  lock-within : (from : ℕ) (txn : TxnId) (wants : List Want) (step : Step) → of_locks.LockCase here from txn wants step → All Within step.notes
  lock-within from txn wants step (of_locks.ignored h) = All-nil Within
  lock-within from txn wants step (of_locks.granted_again grant h i j) = All-nil Within
  lock-within from txn wants step (of_locks.misfits grant h i j) = All-nil Within
  lock-within from txn wants step (of_locks.denies clash h i j) = All-nil Within
  lock-within from txn wants step (of_locks.no_grant_left h i) = one spent me-is
  lock-within from txn wants step (of_locks.grants h i) = All-nil Within

  denied-within : (from : ℕ) (txn : TxnId) (item : ℕ) (holder : TxnId) → from < sites → IsTxnWithin sites holder → (step : Step) → of_grants.DeniedCase here from txn item holder step → All Within step.notes
  denied-within from txn item holder sender is step (of_grants.no_entry h) = All-nil Within
  denied-within from txn item holder sender is step (of_grants.ignored entry h i) = All-nil Within
  denied-within from txn item holder sender is step (of_grants.refuses entry found i) =
      one (refused entry.txn (state.conflict from item holder))
      (txn-is entry.txn (locking-is IsGood sound.running.entries txn entry found).txn, (omega (arith, sender, sound.most), txn-is holder is))

  prepare-within : (from : ℕ) (txn : TxnId) (grant : GrantId) (writes : List Read) (step : Step) → of_votes.PrepareCase here from txn grant writes step → All Within step.notes
  prepare-within from txn grant writes step (of_votes.not_its_site h) = All-nil Within
  prepare-within from txn grant writes step (of_votes.again h i) = All-nil Within
  prepare-within from txn grant writes step (of_votes.none_stands h i) = All-nil Within
  prepare-within from txn grant writes step (of_votes.other_stands standing h i j) = All-nil Within
  prepare-within from txn grant writes step (of_votes.ignored standing h i j) = All-nil Within
  prepare-within from txn grant writes step (of_votes.no_room standing h i j k) = All-nil Within
  prepare-within from txn grant writes step (of_votes.promises standing h i j k) = All-nil Within

  -- The journal's length with an outcome has 64 bits.
  outcome-short : (txn : TxnId) (commits : Bool) → length_with here (outcome_known txn commits) < 2 ^ 64
  outcome-short txn commits = omega (arith, sound.room, sound.setup.journal)

  no-within : (from : ℕ) (txn : TxnId) (cause : NoCause) → from < sites → IsCauseInRange cause → (step : Step) → of_votes.NoCase here from txn cause step → All Within step.notes
  no-within from txn cause sender is step (of_votes.no_entry h) = All-nil Within
  no-within from txn cause sender is step (of_votes.ignored entry h i) = All-nil Within
  no-within from txn cause sender is step (of_votes.refuses entry vote) =
      one (refused entry.txn (cause_of from cause)) (txn-is entry.txn (voting-is IsGood sound.running.entries txn entry vote.found).txn, by-cause cause is)
    where
      by-cause : (reported : NoCause) → IsCauseInRange reported → IsCause (cause_of from reported)
      by-cause grant_lost is = omega (arith, sender, sound.most)
      by-cause (journal_full bytes) is = (omega (arith, sender, sound.most), is)

  outcome-within : (from : ℕ) (txn : TxnId) (commits : Bool) (step : Step) → of_outcomes.OutcomeCase here from txn commits step → All Within step.notes
  outcome-within from txn commits step (of_outcomes.not_its_site h) = All-nil Within
  outcome-within from txn commits step (of_outcomes.known_already h) = All-nil Within
  outcome-within from txn commits step (of_outcomes.no_room h i j) = one (full (length_with here (outcome_known txn commits))) (me-is, outcome-short txn commits)
  outcome-within from txn commits step (of_outcomes.learns h i j) = All-nil Within
  outcome-within from txn commits step (of_outcomes.nothing_to_do h i j) = All-nil Within
  outcome-within from txn commits step (of_outcomes.releases h i j) = All-nil Within

  ask-within : (from : ℕ) (txn : TxnId) (step : Step) → of_outcomes.AskCase here from txn step → All Within step.notes
  ask-within from txn step (of_outcomes.not_issued h) = All-nil Within
  ask-within from txn step (of_outcomes.has_committed h i) = All-nil Within
  ask-within from txn step (of_outcomes.still_works h i j) = All-nil Within
  ask-within from txn step (of_outcomes.will_not_commit h i j) = All-nil Within

  granted-within : (from : ℕ) (txn : TxnId) (grant : GrantId) (values : List Read) → IsGrantInRange grant → AreReadsWithin sites 1 values
      → (step : Step) → of_grants.GrantedCase here from txn grant values step → All Within step.notes
  granted-within from txn grant values is are step (of_grants.no_entry h) = All-nil Within
  granted-within from txn grant values is are step (of_grants.ignored entry h i) = All-nil Within
  granted-within from txn grant values is are step (of_grants.waits entry h i) = All-nil Within
  granted-within from txn grant values is are step (of_grants.too_wide entry last wide) =
      let good = locking-is IsGood sound.running.entries txn entry last.taken.found in
      let short = locking-is (λ (e : Entry). length e.taken ≤ MAX_SITES) few txn entry last.taken.found in
      let more = length-with_taken (record { site = from; grant = grant; values = values }) entry.taken in
      one (refused entry.txn (state.outcome_limit (length (names_taken (taking entry from grant values)))))
      (txn-is entry.txn good.txn, names-few (taking entry from grant values) (taking-good entry from grant values good is are) (omega (arith, short, more)))
  granted-within from txn grant values is are step (of_grants.in_doubt entry item last narrow doubt) =
      let good = locking-is IsGood sound.running.entries txn entry last.taken.found in
      one (refused entry.txn (state.uncertain item (doubts here.records (taking entry from grant values) item)))
      (txn-is entry.txn good.txn, doubts-few (taking entry from grant values) item (taking-good entry from grant values good is are))
  granted-within from txn grant values is are step (of_grants.reaches_lock_point entry last narrow certain) = All-nil Within

  -- ---- a commit

  rows-are : (reads : List Read) → All (λ (read : Read). IsPolyvalueWithin sites read.cases) reads → (a : List TxnId) → AllFit (rows_at reads a)
  rows-are [] all a = tt
  rows-are (read ∷ reads) all a = (
    number-fits sites read.cases (all-head (λ (r : Read). IsPolyvalueWithin sites r.cases) read reads all).each a,
    rows-are reads (all-tail (λ (r : Read). IsPolyvalueWithin sites r.cases) read reads all) a,
  )

  -- A number of 64 bits is printed as one.
  reply-is : (reply : Reply) → ReplyFits reply → IsReply reply
  reply-is (Value v) fits = sym (small v fits)
  reply-is Nothing fits = tt
  reply-is (Declined decline) fits = tt

  once-are : (replies : List Reply) → All IsReply replies → All IsReply (without_repeats is_same_reply replies)
  once-are [] all = all
  once-are (reply ∷ replies) all =
      All-cons IsReply reply _ (all-head IsReply reply replies all)
      (All-filter (λ other. not (is_same_reply reply other)) IsReply (without_repeats is_same_reply replies) (once-are replies (all-tail IsReply reply replies all)))

  replies-are : (records : List Record) (entry : Entry) → IsGood entry → All IsReply (replies_of records entry)
  replies-are records entry good =
      let cases = reply_value records entry in
      once-are (map (λ (case : Case Reply). case.value) cases)
      (All-map IsReply (λ (case : Case Reply). case.value) cases
      (all-from (λ (case : Case Reply). IsReply case.value) cases (λ case h.
      let met = case-met cases (reply-canonical records entry) case h in
      let same : reply_after records entry met.0 ≡ case.value =
      let some : Some (reply_after records entry met.0) ≡ Some case.value = sym (reply-value records entry met.0) ∙ met.1 in cc in
      subst IsReply same
      (reply-is (reply_after records entry met.0)
      (reply-fits entry.program (rows_at (reads_of entry) (choice records met.0)) good.program.numbers
      (rows-are (reads_of entry) (reads-are entry good.taken) (choice records met.0)))))))

  yes-within : (from : ℕ) (txn : TxnId) (step : Step) → of_votes.YesCase here from txn step → All Within step.notes
  yes-within from txn step (of_votes.no_entry h) = All-nil Within
  yes-within from txn step (of_votes.ignored entry h i) = All-nil Within
  yes-within from txn step (of_votes.waits entry vote i) = All-nil Within
  yes-within from txn step (of_votes.no_room entry vote i j) =
      let good = voting-is IsGood sound.running.entries txn entry vote.found in
      one (refused entry.txn (state.journal_full here.me (length_with here (outcome_known entry.txn true)))) (txn-is entry.txn good.txn, (me-is, outcome-short entry.txn true))
  yes-within from txn step (of_votes.commits entry vote i j) =
      let good = voting-is IsGood sound.running.entries txn entry vote.found in
      one (committed entry.txn (replies_of (here.records ++ outcome_known entry.txn true ∷ []) (of_votes.voted entry from)))
      (txn-is entry.txn good.txn, replies-are (here.records ++ outcome_known entry.txn true ∷ []) (of_votes.voted entry from) (record { txn = good.txn; program = good.program; taken = good.taken }))

  -- ---- a tick

  awaited-is : (entry : Entry) → IsGood entry → IsSite (awaited here entry)
  awaited-is entry good =
      by-found (find (λ site. not (has_answered entry.stage entry site)) (participants here entry))
      (find-of (λ site. site < sites) (λ site. not (has_answered entry.stage entry site)) (participants here entry)
      (all-from (λ site. site < sites) (participants here entry) (λ site h. (participant-in-range sites here sound entry good.program site h).0)))
    where
      by-found : (found : Option ℕ) → OfSome (λ site. site < sites) found → IsSite (unwrap_or found 0)
      by-found None is = omega arith
      by-found (Some site) is = omega (arith, is, sound.most)

  older-good : All IsGood (older_entries here.running.entries)
  older-good =
      All-map IsGood (λ (entry : Entry). record entry { age = entry.age + 1 }) here.running.entries
      (all-from (λ (entry : Entry). IsGood (record entry { age = entry.age + 1 })) here.running.entries
      (λ entry h. let is = All-contains IsGood here.running.entries entry sound.running.entries h in record { txn = is.txn; program = is.program; taken = is.taken }))

  tick-within : All Within (on_tick here).notes
  unfolding on_tick
  tick-within =
      let ended = expired_entries (older_entries here.running.entries) in
      let good = All-filter (λ (entry : Entry). not (nat_lt entry.age TICKS)) IsGood (older_entries here.running.entries) older-good in
      All-map Within (λ (entry : Entry). refused entry.txn (expired (awaited here entry))) ended
      (all-from (λ (entry : Entry). Within (refused entry.txn (expired (awaited here entry)))) ended
      (λ entry h. let is = All-contains IsGood ended entry good h in (txn-is entry.txn is.txn, awaited-is entry is)))

  -- ---- all of them

  message-within : (from : ℕ) (message : Message) → IsEnvelopeWithin sites (record { from = from; to = here.me; message = message }) → All Within (on_message here from message).notes
  message-within from (lock txn wants) is = lock-within from txn wants _ (lock-case here from txn wants)
  message-within from (granted txn grant values) is = granted-within from txn grant values is.body.0 is.body.1 _ (granted-case here from txn grant values)
  message-within from (denied txn item holder) is = denied-within from txn item holder is.from is.body.1 _ (denied-case here from txn item holder)
  message-within from (prepare txn grant writes) is = prepare-within from txn grant writes _ (prepare-case here from txn grant writes)
  message-within from (vote_yes txn) is = yes-within from txn _ (yes-case here from txn)
  message-within from (vote_no txn cause) is = no-within from txn cause is.from is.body _ (no-case here from txn cause)
  message-within from (outcome_reported txn commits) is = outcome-within from txn commits _ (outcome-case here from txn commits)
  message-within from (ask txn) is = ask-within from txn _ (ask-case here from txn)

  pub notes-within : (input : Input) → IsInputInRange sites here input → All Within (step_on here input).notes
  notes-within (submit program) good = submit-within program _ (submit-case here program)
  notes-within (receive from message) good = message-within from message good
  notes-within tick good = tick-within
