-- The life of outboxes with hosts: what stands at each place of it, and that no output that was taken is taken again.
use Rattle.std.proofs.Common.{◌≡◌, ◌≢◌, inl, inr, ℕ, ◌+◌, ◌≤◌, Bool, true, false, List, length, [], ◌∷◌, ◌++◌, Option, Some, None, Result, Ok, Err, refl, sym, ◌∙◌, ap, subst, append_assoc, append-nil, arith, All, AllPairs}
use Rattle.std.specs.Prelude.{⊤}
use Rattle.std.specs.List.{sum_by}
use Rattle.std.proofs.lemmas.Bool.{true≢false}
use Rattle.std.proofs.lemmas.List.Elements.{All-cons, All-nil}
use Rattle.std.proofs.lemmas.List.Kept.{AllPairs-cons}
use Rattle.std.proofs.lemmas.List.Sums.{sum_by-cons}
use Rattle.pv_base.proofs.Basics.{Some_inj}
use Rattle.pv_base.specs.Answer.{HasOneAnswer}
use Rattle.pv_base.specs.declared.txn.TxnId.{TxnId}
use Rattle.pv_disk_model.specs.Calls.{LogCall, Makes, append, read_all, reserve}
use Rattle.pv_disk_model.specs.Disk.{overlaid}
use Rattle.pv_disk_model.specs.Size.{Contents, size_of}
use Rattle.pv_format.specs.Journal.{IsJournal, IsNotOurs}
use Rattle.pv_host.specs.HostFile.{IsFile, IsStored, MayLeave}
use Rattle.pv_host.specs.HostLog.{HostGoes, HostState, HostWrite, IsSameBesideRoom, asked_after, contents_of, next_write, with_asked, with_written, write_after, written_to}
use Rattle.pv_host.specs.HostWrites.{IsOpenedOn}
use Rattle.pv_law_outbox.proofs.StateLemmas.{after-taken, kept-after, kept-refl, kept-trans, state_of-last}
use Rattle.pv_law_outbox.specs.Ready.{IsNext}
use Rattle.pv_law_outbox.specs.Runs.{IsKept}
use Rattle.pv_law_outbox.specs.State.{Record, State, after, after_all, held, is_taken, learnt, nothing, state_of, taken}
use Rattle.pv_outbox.specs.OutboxState.{OutboxState}
use Rattle.pv_outbox.specs.Spelling.{SpellRecords, SpellsRecord}
use Rattle.pv_embed_outbox.specs.Calls.{Adds, HoldsBy, LearnsBy, ReleasesBy, TakesBy}
use Rattle.pv_embed_outbox.specs.Hosted.{AsksForGroup, HostedState, Stays, TakesFirst, Writes, log_length}
use Rattle.pv_embed_outbox.specs.Life.{Act, Goes, Life, Moves, Place, asks, closed, holds, learns, opens, releases, running, stops, taken_by, taken_in, takes, tears, writes, written_into}
use Rattle.pv_embed_outbox.specs.Opening.{HasOpenedOn}
use Rattle.pv_embed_outbox.specs.declared.fault.HoldFault.{HoldFault}
use Rattle.pv_embed_outbox.specs.declared.fault.HoldFault.TheVariants as holding
use Rattle.pv_embed_outbox.specs.declared.fault.LearnFault.{LearnFault}
use Rattle.pv_embed_outbox.specs.declared.fault.LearnFault.TheVariants as learning
use Rattle.pv_embed_outbox.specs.declared.fault.ReleaseFault.{ReleaseFault}
use Rattle.pv_embed_outbox.specs.declared.fault.ReleaseFault.TheVariants as releasing
use Rattle.pv_embed_outbox.specs.declared.fault.TakeFault.{TakeFault}
use Rattle.pv_embed_outbox.specs.declared.fault.TakeFault.TheVariants as taking
use Rattle.pv_embed_outbox.specs.declared.release.Release.{Release}

-- ## Records and contents
-- The first of the contents spell the first of the records, and the others the others.
first_spelled : (records : List Record) (contents later : Contents) → SpellRecords records (contents ++ later)
    → (first : List Record) × (others : List Record) × SpellRecords first contents × SpellRecords others later × (records ≡ first ++ others)
first_spelled records [] later spelled = ([], records, tt, spelled, refl)
first_spelled [] (content ∷ contents) later spelled = absurd spelled
first_spelled (entry ∷ records) (content ∷ contents) later spelled =
    let rest = first_spelled records contents later spelled.1 in
    (entry ∷ rest.0, rest.1, (spelled.0, rest.2), rest.3, ap (λ (l : List Record). entry ∷ l) rest.4)

-- What some records say is said with more behind them.
kept_all : (state : State) (entries : List Record) → IsKept state (after_all state entries)
kept_all state [] = kept-refl state
kept_all state (entry ∷ entries) =
    kept-trans state (after state entry) (after_all (after state entry) entries) (kept-after state entry) (kept_all (after state entry) entries)

kept_front : (state : State) (front more : List Record) → IsKept (after_all state front) (after_all state (front ++ more))
kept_front state [] more = kept_all state more
kept_front state (entry ∷ front) more = kept_front (after state entry) front more

-- The contents' records say that the output is released.
abbrev pub SaysTaken : Contents → ℕ → Type 0
SaysTaken contents output = (entries : List Record) × SpellRecords entries contents × (is_taken (state_of entries) output ≡ true)

-- Of two lists that begin the same contents, one that is no longer as a log than the other begins the other.
begins : (front contents later others : Contents) → front ++ later ≡ contents ++ others
    → sum_by (λ (content : List ℕ). 5 + length content) front ≤ sum_by (λ (content : List ℕ). 5 + length content) contents → (more : Contents) × (contents ≡ front ++ more)
begins [] contents later others same short = (contents, refl)
begins (one ∷ front) [] later others same short = absurd (omega (arith, short, sum_by-cons (λ (content : List ℕ). 5 + length content) one front))
begins (one ∷ front) (other ∷ contents) later others same short =
    let first : other ≡ one = cc in
    let rest : front ++ later ≡ contents ++ others = cc in
    let bytes : length other ≡ length one = ap length first in
    let found = begins front contents later others rest
    (omega (arith, short, bytes, sum_by-cons (λ (content : List ℕ). 5 + length content) one front, sum_by-cons (λ (content : List ℕ). 5 + length content) other contents)) in
    (found.0, ap (λ (l : Contents). other ∷ l) found.1 ∙ ap (λ (c : List ℕ). c ∷ (front ++ found.0)) first)

-- A file that has what is stored, or the group that was asked for too, is a journal of the first of the records.
stored_records : (log : HostState) (file : List ℕ) (entries : List Record) → SpellRecords entries (contents_of log) → IsStored log file
    → (contents : Contents) × (first : List Record) × IsJournal contents file × SpellRecords first contents
stored_records log file entries spelled (inl journal) =
    let parts = first_spelled entries log.stored (log.asked ++ log.pending) spelled in
    (log.stored, parts.0, journal, parts.2)
stored_records log file entries spelled (inr journal) =
    let parts = first_spelled entries (log.stored ++ log.asked) log.pending (subst (SpellRecords entries) (sym (append_assoc log.stored log.asked log.pending)) spelled) in
    (log.stored ++ log.asked, parts.0, journal, parts.2)

-- ## Releases
-- The release stands in the log, which was so long then.
pub record IsReleased (contents : Contents) (release : Release) : Type 0 where
  pub front : Contents
  pub later : Contents
  pub whole : contents ≡ front ++ later
  pub length_is : size_of front ≡ release.length
  pub says : SaysTaken front release.output

abbrev pub Waits : Contents → List Release → Type 0
Waits contents [] = ⊤
Waits contents (release ∷ later) = IsReleased contents release × Waits contents later

-- None of these is of that output.
abbrev pub Differs : ℕ → List Release → Type 0
Differs output [] = ⊤
Differs output (release ∷ later) = (output ≢ release.output) × Differs output later

-- No two are of one output.
abbrev pub Apart : List Release → Type 0
Apart [] = ⊤
Apart (release ∷ later) = Differs release.output later × Apart later

waits_longer : (contents more : Contents) (released : List Release) → Waits contents released → Waits (contents ++ more) released
waits_longer contents more [] waits = tt
waits_longer contents more (release ∷ released) waits = (
  record {
    front = waits.0.front;
    later = waits.0.later ++ more;
    whole = ap (λ (l : Contents). l ++ more) waits.0.whole ∙ append_assoc waits.0.front waits.0.later more;
    length_is = waits.0.length_is;
    says = waits.0.says;
  },
  waits_longer contents more released waits.1,
)

waits_push : (contents : Contents) (released : List Release) (release : Release) → Waits contents released → IsReleased contents release → Waits contents (released ++ release ∷ [])
waits_push contents [] release waits one = (one, tt)
waits_push contents (first ∷ released) release waits one = (waits.0, waits_push contents released release waits.1 one)

differs_push : (output : ℕ) (released : List Release) (release : Release) → Differs output released → output ≢ release.output → Differs output (released ++ release ∷ [])
differs_push output [] release differs other = (other, tt)
differs_push output (first ∷ released) release differs other = (differs.0, differs_push output released release differs.1 other)

apart_push : (released : List Release) (release : Release) → Apart released → Differs release.output released → Apart (released ++ release ∷ [])
apart_push [] release apart differs = (tt, tt)
apart_push (first ∷ released) release apart differs =
    (differs_push first.output released release apart.0 (λ same. differs.0 (sym same)), apart_push released release apart.1 differs.1)

-- The first is taken, and it may be.
record Taking (stored : ℕ) (released later : List Release) (output : ℕ) : Type 0 where
  pub first : Release
  pub is : released ≡ first ∷ later
  pub within : first.length ≤ stored
  pub output_is : output ≡ first.output

taking_of : (stored : ℕ) (released later : List Release) (output : ℕ) → TakesFirst stored released later (Ok output) → Taking stored released later output
taking_of stored [] later output takes_it = let wrong : Ok output ≡ Err taking.Nothing = takes_it.0 in cc
taking_of stored (first ∷ released) later output takes_it =
    record { first = first; is = ap (λ (l : List Release). first ∷ l) (sym takes_it.2); within = takes_it.0; output_is = takes_it.1 }

-- ## What stands
-- What is proved of logs and of records elsewhere.
pub record Laws : Type 0 where
  pub opened : (log : HostState) (file : List ℕ) (limit : ℕ) → IsOpenedOn file limit log → IsFile log file
  pub called : (old new : HostState) (call : LogCall) (ok : Bool) (file : List ℕ) → HostGoes old call ok new → IsFile old file → IsFile new file
  pub stores : (old new : HostState) (call : LogCall) (ok : Bool) → HostGoes old call ok new → new.stored ≡ old.stored
  pub asked : (log : HostState) (room : ℕ) (file : List ℕ) → IsFile log file → IsFile (with_asked room log) file
  pub keeps : (log : HostState) (room : ℕ) → contents_of (with_asked room log) ≡ contents_of log
  pub written : (old new : HostState) (write : HostWrite) (file : List ℕ) → next_write old ≡ Some write → IsSameBesideRoom (with_written old) new → IsFile old file
      → IsFile new (overlaid file write.place write.bytes)
  pub crashed : (log : HostState) (file left : List ℕ) → IsFile log file → MayLeave log file left → IsFile log left
  pub journals : (log : HostState) (file : List ℕ) → IsFile log file → IsStored log file
  pub one_journal : (bytes : List ℕ) → HasOneAnswer (λ contents. IsJournal contents bytes) (IsNotOurs bytes)
  pub one : (entries others : List Record) (contents : Contents) → SpellRecords entries contents → SpellRecords others contents → entries ≡ others
  pub more : (entries : List Record) (contents : Contents) (entry : Record) (bytes : List ℕ) → SpellRecords entries contents → SpellsRecord entry bytes
      → SpellRecords (entries ++ entry ∷ []) (contents ++ bytes ∷ [])

-- What stands of an outbox and its file: the outbox knows what the log's records say, the file is one that the host may hold, and what was released and not taken is in the log.
pub record Standing (hosted : HostedState) (file : List ℕ) : Type 0 where
  pub is_file : IsFile hosted.outbox.log file
  pub entries : List Record
  pub spelled : SpellRecords entries (contents_of hosted.outbox.log)
  pub state : hosted.outbox.state ≡ state_of entries
  pub waits : Waits (contents_of hosted.outbox.log) hosted.released
  pub apart : Apart hosted.released

abbrev pub Stands : Place → Type 0
Stands (running hosted file) = Standing hosted file
Stands (closed file) = ⊤

-- The contents begin with those.
abbrev BeginsWith : Contents → Contents → Type 0
BeginsWith first contents = (rest : Contents) × (contents ≡ first ++ rest)

-- What is stored there begins with these contents.
abbrev Begins : Contents → Place → Type 0
Begins first (running hosted file) = BeginsWith first hosted.outbox.log.stored
Begins first (closed file) = (contents : Contents) × IsJournal contents file × BeginsWith first contents

abbrev DiffersAt : ℕ → Place → Type 0
DiffersAt output (running hosted file) = Differs output hosted.released
DiffersAt output (closed file) = ⊤

-- What an act leaves: what stands; and what is stored is stored still; and no release comes of an output that is stored as released.
record On (old new : HostedState) (file : List ℕ) : Type 0 where
  pub standing : Standing new file
  pub grows : BeginsWith old.outbox.log.stored new.outbox.log.stored
  pub differs : (output : ℕ) → SaysTaken old.outbox.log.stored output → Differs output old.released → Differs output new.released

begins_still : (first mid last : Contents) → BeginsWith first mid → BeginsWith mid last → BeginsWith first last
begins_still first mid last one two = (one.0 ++ two.0, two.1 ∙ ap (λ (l : Contents). l ++ two.0) one.1 ∙ append_assoc first one.0 two.0)

asked_stored : (room : ℕ) (log : HostState) (asked : Contents) → (asked_after room log asked).stored ≡ log.stored
asked_stored room log [] = refl
asked_stored room log (first ∷ later) = refl

written_stored : (log : HostState) (asked : Contents) (behind_gate : Bool) → BeginsWith log.stored (written_to log asked behind_gate).stored
written_stored log [] behind_gate = ([], sym (append-nil log.stored))
written_stored log (first ∷ later) false = ([], sym (append-nil log.stored))
written_stored log (first ∷ later) true = (first ∷ later, refl)

-- Once the host has written, the log holds what it held.
written_holds : (log : HostState) (asked : Contents) (behind_gate : Bool) → log.asked ≡ asked → contents_of (written_to log asked behind_gate) ≡ contents_of log
written_holds log [] behind_gate is = refl
written_holds log (first ∷ later) false is = refl
written_holds log (first ∷ later) true is =
    append_assoc log.stored (first ∷ later) log.pending ∙ ap (λ (l : Contents). log.stored ++ (l ++ log.pending)) (sym is)

nothing_next : (log : HostState) (asked : Contents) (behind_gate : Bool) → write_after log.stored asked behind_gate ≡ None → written_to log asked behind_gate ≡ log
nothing_next log [] behind_gate none = refl
nothing_next log (first ∷ later) false none = cc
nothing_next log (first ∷ later) true none = cc

module _ (laws : Laws) where
  file_after : (calls : List LogCall) (old new : HostState) (ok : Bool) (file : List ℕ) → Makes HostGoes old calls ok new → IsFile old file
      → IsFile new file × (new.stored ≡ old.stored)
  file_after [] old new ok file makes is_file = (subst (λ (log : HostState). IsFile log file) (sym makes.1) is_file, ap (λ (log : HostState). log.stored) makes.1)
  file_after (call ∷ calls) old new ok file (inl fails) is_file = (laws.called old new call false file fails.1 is_file, laws.stores old new call false fails.1)
  file_after (call ∷ calls) old new ok file (inr goes) is_file =
      let rest = file_after calls goes.0 new ok file goes.2 (laws.called old goes.0 call true file goes.1 is_file) in
      (rest.0, rest.1 ∙ laws.stores old goes.0 call true goes.1)

  taken_still : (contents later : Contents) (all : List Record) (output : ℕ) → SpellRecords all (contents ++ later) → SaysTaken contents output → is_taken (state_of all) output ≡ true
  taken_still contents later all output spelled says =
      let parts = first_spelled all contents later spelled in
      let whole : all ≡ says.0 ++ parts.1 = parts.4 ∙ ap (λ (l : List Record). l ++ parts.1) (laws.one parts.0 says.0 contents parts.2 says.1) in
      subst (λ (l : List Record). is_taken (state_of l) output ≡ true) (sym whole) ((kept_front nothing says.0 parts.1).taken output says.2)

  differs_untaken : (contents : Contents) (entries : List Record) (output : ℕ) (released : List Release) → SpellRecords entries contents → is_taken (state_of entries) output ≡ false
      → Waits contents released → Differs output released
  differs_untaken contents entries output [] spelled untaken waits = tt
  differs_untaken contents entries output (release ∷ released) spelled untaken waits =
      let there = taken_still waits.0.front waits.0.later entries release.output (subst (SpellRecords entries) waits.0.whole spelled) waits.0.says in
      (λ same. true≢false (sym there ∙ ap (is_taken (state_of entries)) (sym same) ∙ untaken), differs_untaken contents entries output released spelled untaken waits.1)

  -- The log alone is another one, which holds the same.
  over : (old : HostedState) (log : HostState) (file after_ : List ℕ) → Standing old file → contents_of log ≡ contents_of old.outbox.log → IsFile log after_
      → Standing (record old { outbox = record old.outbox { log = log } }) after_
  over old log file after_ standing same is_file = record {
    is_file = is_file;
    entries = standing.entries;
    spelled = subst (SpellRecords standing.entries) (sym same) standing.spelled;
    state = standing.state;
    waits = subst (λ (c : Contents). Waits c old.released) (sym same) standing.waits;
    apart = standing.apart;
  }

  on_log : (old new : HostedState) (file after_ : List ℕ) → Standing old file → new ≡ record old { outbox = record old.outbox { log = new.outbox.log } }
      → contents_of new.outbox.log ≡ contents_of old.outbox.log → IsFile new.outbox.log after_ → BeginsWith old.outbox.log.stored new.outbox.log.stored → On old new after_
  on_log old new file after_ standing is same is_file grows = record {
    standing = subst (λ (hosted : HostedState). Standing hosted after_) (sym is) (over old new.outbox.log file after_ standing same is_file);
    grows = grows;
    differs = λ output says differs. subst (Differs output) (sym (ap (λ (hosted : HostedState). hosted.released) is)) differs;
  }

  on_same : (old new : HostedState) (file after_ : List ℕ) → Standing old file → new ≡ old → IsFile old.outbox.log after_ → On old new after_
  on_same old new file after_ standing is is_file =
      subst (λ (hosted : HostedState). On old hosted after_) (sym is)
      (record {
        standing = over old old.outbox.log file after_ standing refl is_file;
        grows = ([], sym (append-nil old.outbox.log.stored));
        differs = λ output says differs. differs;
      })

  on_stays : (old new : HostedState) (file : List ℕ) → Standing old file → Stays old new → On old new file
  on_stays old new file standing stays =
      on_log old new file file standing stays.same (ap contents_of stays.log) (laws.called old.outbox.log new.outbox.log (reserve 0) true file stays.log standing.is_file)
      ([], laws.stores old.outbox.log new.outbox.log (reserve 0) true stays.log ∙ sym (append-nil old.outbox.log.stored))

  -- A record was added.
  record Added (old new : HostedState) (file : List ℕ) (entries : List Record) (entry : Record) : Type 0 where
    pub is_file : IsFile new.outbox.log file
    pub stored : new.outbox.log.stored ≡ old.outbox.log.stored
    pub bytes : List ℕ
    pub contents : contents_of new.outbox.log ≡ contents_of old.outbox.log ++ bytes ∷ []
    pub spelled : SpellRecords (entries ++ entry ∷ []) (contents_of new.outbox.log)
    pub state : new.outbox.state ≡ state_of (entries ++ entry ∷ [])

  added : (old new : HostedState) (file : List ℕ) (entry : Record) (standing : Standing old file) → Adds old new entry → Added old new file standing.entries entry
  added old new file entry standing adds =
      let by = adds.writes in
      let logged = file_after (reserve (length by.bytes) ∷ append by.bytes ∷ []) old.outbox.log new.outbox.log true file by.asked.calls standing.is_file in
      let contents : contents_of new.outbox.log ≡ contents_of old.outbox.log ++ by.bytes ∷ [] = Some_inj (by.log.contents (contents_of old.outbox.log) refl) in
      record {
        is_file = logged.0;
        stored = logged.1;
        bytes = by.bytes;
        contents = contents;
        spelled = subst (SpellRecords (standing.entries ++ entry ∷ [])) (sym contents) (laws.more standing.entries (contents_of old.outbox.log) entry by.bytes standing.spelled by.spelled);
        state = by.state ∙ ap (λ (state : State). after state entry) standing.state ∙ sym (state_of-last standing.entries entry);
      }

  on_added : (old new : HostedState) (file : List ℕ) (entry : Record) → Standing old file → Adds old new entry → new.released ≡ old.released → On old new file
  on_added old new file entry standing adds same =
      let more = added old new file entry standing adds in
      record {
        standing = record {
          is_file = more.is_file;
          entries = standing.entries ++ entry ∷ [];
          spelled = more.spelled;
          state = more.state;
          waits =
              subst (Waits (contents_of new.outbox.log)) (sym same)
              (subst (λ (c : Contents). Waits c old.released) (sym more.contents) (waits_longer (contents_of old.outbox.log) (more.bytes ∷ []) old.released standing.waits));
          apart = subst Apart (sym same) standing.apart;
        };
        grows = ([], more.stored ∙ sym (append-nil old.outbox.log.stored));
        differs = λ output says differs. subst (Differs output) (sym same) differs;
      }

  on_released : (old new : HostedState) (file : List ℕ) (output : ℕ) → Standing old file → Adds old new (taken output)
      → new.released ≡ old.released ++ record { length = log_length new; output = output } ∷ [] → On old new file
  on_released old new file output standing adds grown =
      let more = added old new file (taken output) standing adds in
      let next : IsNext old.outbox.state output = adds.may in
      let untaken : is_taken (state_of standing.entries) output ≡ false =
      ap (λ (state : State). is_taken state output) (sym standing.state) ∙ subst (λ o. is_taken old.outbox.state o ≡ false) next.output_is next.ready.untaken in
      let release : Release = record { length = log_length new; output = output } in
      let one : IsReleased (contents_of new.outbox.log) release = record {
        front = contents_of new.outbox.log;
        later = [];
        whole = sym (append-nil (contents_of new.outbox.log));
        length_is = refl;
        says = (
          standing.entries ++ taken output ∷ [],
          more.spelled,
          ap (λ (state : State). is_taken state output) (state_of-last standing.entries (taken output)) ∙ after-taken (state_of standing.entries) output,
        );
      } in
      record {
        standing = record {
          is_file = more.is_file;
          entries = standing.entries ++ taken output ∷ [];
          spelled = more.spelled;
          state = more.state;
          waits =
              subst (Waits (contents_of new.outbox.log)) (sym grown)
              (waits_push (contents_of new.outbox.log) old.released release
              (subst (λ (c : Contents). Waits c old.released) (sym more.contents) (waits_longer (contents_of old.outbox.log) (more.bytes ∷ []) old.released standing.waits)) one);
          apart =
              subst Apart (sym grown)
              (apart_push old.released release standing.apart (differs_untaken (contents_of old.outbox.log) standing.entries output old.released standing.spelled untaken standing.waits));
        };
        grows = ([], more.stored ∙ sym (append-nil old.outbox.log.stored));
        differs = λ other says differs.
            subst (Differs other) (sym grown)
            (differs_push other old.released release differs
            (λ same. true≢false
            (sym (taken_still old.outbox.log.stored (old.outbox.log.asked ++ old.outbox.log.pending) standing.entries other standing.spelled says) ∙ ap (is_taken (state_of standing.entries)) same ∙ untaken)));
      }

  -- ## Takings
  on_taken : (old new : HostedState) (file : List ℕ) (output : ℕ) → Standing old file → TakesBy old new (Ok output) → On old new file
  on_taken old new file output standing takes_it =
      let taking_it = taking_of (size_of old.outbox.log.stored) old.released new.released output takes_it.0 in
      let same = ap (λ (hosted : HostedState). hosted.outbox) takes_it.1 in
      let waits : Waits (contents_of old.outbox.log) (taking_it.first ∷ new.released) = subst (Waits (contents_of old.outbox.log)) taking_it.is standing.waits in
      let apart : Apart (taking_it.first ∷ new.released) = subst Apart taking_it.is standing.apart in
      record {
        standing = subst (λ (hosted : HostedState). Standing hosted file) (sym takes_it.1) (record {
          is_file = standing.is_file;
          entries = standing.entries;
          spelled = standing.spelled;
          state = standing.state;
          waits = waits.1;
          apart = apart.1;
        });
        grows = ([], ap (λ (outbox : OutboxState HostState). outbox.log.stored) same ∙ sym (append-nil old.outbox.log.stored));
        differs = λ other says differs. (subst (Differs other) taking_it.is differs).1;
      }

  -- What is taken is stored as released, and no other release is of it.
  taken_stored : (old new : HostedState) (file : List ℕ) (output : ℕ) → Standing old file → TakesBy old new (Ok output)
      → SaysTaken old.outbox.log.stored output × Differs output new.released
  taken_stored old new file output standing takes_it =
      let log = old.outbox.log in
      let taking_it = taking_of (size_of log.stored) old.released new.released output takes_it.0 in
      let waits : Waits (contents_of log) (taking_it.first ∷ new.released) = subst (Waits (contents_of log)) taking_it.is standing.waits in
      let apart : Apart (taking_it.first ∷ new.released) = subst Apart taking_it.is standing.apart in
      let at = waits.0 in
      let short : size_of at.front ≤ size_of log.stored = omega (arith, at.length_is, taking_it.within) in
      let found = begins at.front log.stored at.later (log.asked ++ log.pending) (sym at.whole) (omega (arith, short)) in
      let parts = first_spelled standing.entries log.stored (log.asked ++ log.pending) standing.spelled in
      let there = taken_still at.front found.0 parts.0 taking_it.first.output (subst (SpellRecords parts.0) found.1 parts.2) at.says in (
        (parts.0, parts.2, ap (is_taken (state_of parts.0)) taking_it.output_is ∙ there),
        subst (λ o. Differs o new.released) (sym taking_it.output_is) apart.0,
      )

  -- ## Acts
  on_held : (old new : HostedState) (file : List ℕ) (output : ℕ) (text : List ℕ) (answer : Result ⊤ HoldFault) → Standing old file → HoldsBy old new output text answer → On old new file
  on_held old new file output text (Ok x) standing does = on_added old new file (held output does.0) standing does.2 does.3
  on_held old new file output text (Err holding.BadCases) standing does = on_same old new file file standing does.1 standing.is_file
  on_held old new file output text (Err holding.Unwritten) standing does = on_same old new file file standing does.3 standing.is_file
  on_held old new file output text (Err holding.Again) standing does = on_same old new file file standing does.3 standing.is_file
  on_held old new file output text (Err (holding.Full with_it)) standing does = on_same old new file file standing does.2.same standing.is_file
  on_held old new file output text (Err holding.NoMemory) standing does = on_stays old new file standing does

  on_learnt : (old new : HostedState) (file : List ℕ) (txn : TxnId) (commits : Bool) (answer : Result ⊤ LearnFault) → Standing old file → LearnsBy old new txn commits answer
      → On old new file
  on_learnt old new file txn commits (Ok x) standing does = on_added old new file (learnt txn commits) standing does.1 does.2
  on_learnt old new file txn commits (Err learning.NoSite) standing does = on_same old new file file standing does.1 standing.is_file
  on_learnt old new file txn commits (Err learning.Unwritten) standing does = on_same old new file file standing does.3 standing.is_file
  on_learnt old new file txn commits (Err (learning.Known outcome)) standing does = on_same old new file file standing does.3 standing.is_file
  on_learnt old new file txn commits (Err (learning.Full with_it)) standing does = on_same old new file file standing does.1.same standing.is_file
  on_learnt old new file txn commits (Err learning.NoMemory) standing does = on_stays old new file standing does

  on_release : (old new : HostedState) (file : List ℕ) (answer : Result ⊤ ReleaseFault) → Standing old file → ReleasesBy old new answer → On old new file
  on_release old new file (Ok x) standing does = on_released old new file does.0 standing does.1 does.2
  on_release old new file (Err releasing.NoneReady) standing does = on_same old new file file standing does.1 standing.is_file
  on_release old new file (Err (releasing.Full with_it)) standing does = on_same old new file file standing does.1.same standing.is_file
  on_release old new file (Err releasing.NoMemory) standing does = on_stays old new file standing does

  same_releases : (stored : ℕ) (released later : List Release) (fault : TakeFault) → TakesFirst stored released later (Err fault) → later ≡ released
  same_releases stored [] later fault takes_it = takes_it.1
  same_releases stored (first ∷ released) later taking.Nothing takes_it = absurd takes_it
  same_releases stored (first ∷ released) later taking.Unwritten takes_it = takes_it.1

  on_take : (old new : HostedState) (file : List ℕ) (answer : Result ℕ TakeFault) → Standing old file → TakesBy old new answer → On old new file
  on_take old new file (Ok output) standing does = on_taken old new file output standing does
  on_take old new file (Err fault) standing does =
      on_same old new file file standing
      (does.1 ∙ ap (λ (l : List Release). record old { released = l }) (same_releases (size_of old.outbox.log.stored) old.released new.released fault does.0)) standing.is_file

  on_asked : (old new : HostedState) (file : List ℕ) (room : ℕ) → Standing old file → AsksForGroup room old new → On old new file
  on_asked old new file room standing does =
      on_log old new file file standing does.same (ap contents_of does.log ∙ laws.keeps old.outbox.log room)
      (subst (λ (log : HostState). IsFile log file) (sym does.log) (laws.asked old.outbox.log room file standing.is_file))
      ([], ap (λ (log : HostState). log.stored) does.log ∙ asked_stored room old.outbox.log old.outbox.log.asked ∙ sym (append-nil old.outbox.log.stored))

  written_file : (old new : HostState) (file after_ : List ℕ) (next : Option HostWrite) → next_write old ≡ next → after_ ≡ written_into file next
      → IsSameBesideRoom (with_written old) new → IsFile old file → IsFile new after_
  written_file old new file after_ None next is same is_file =
      let still : IsSameBesideRoom old new = subst (λ (log : HostState). IsSameBesideRoom log new) (nothing_next old old.asked old.behind_gate next) same in
      subst (IsFile new) (sym is) (laws.called old new (reserve 0) true file still is_file)
  written_file old new file after_ (Some write) next is same is_file = subst (IsFile new) (sym is) (laws.written old new write file next same is_file)

  on_written : (old new : HostedState) (file after_ : List ℕ) → Standing old file → Writes old new → after_ ≡ written_into file (next_write old.outbox.log) → On old new after_
  on_written old new file after_ standing does is =
      let log = old.outbox.log in
      let grown = written_stored log log.asked log.behind_gate in
      on_log old new file after_ standing does.same (ap contents_of does.log ∙ written_holds log log.asked log.behind_gate refl)
      (written_file log new.outbox.log file after_ (next_write log) refl is does.log standing.is_file)
      (grown.0, ap (λ (l : HostState). l.stored) does.log ∙ grown.1)

  -- What a kill leaves is a journal that begins with what is stored.
  left_stored : (log : HostState) (file : List ℕ) → IsStored log file → (contents : Contents) × IsJournal contents file × BeginsWith log.stored contents
  left_stored log file (inl journal) = (log.stored, journal, ([], sym (append-nil log.stored)))
  left_stored log file (inr journal) = (log.stored ++ log.asked, journal, (log.asked, refl))

  on_left : (old : HostedState) (file left : List ℕ) → Standing old file → MayLeave old.outbox.log file left
      → (contents : Contents) × IsJournal contents left × BeginsWith old.outbox.log.stored contents
  on_left old file left standing may = left_stored old.outbox.log left (laws.journals old.outbox.log left (laws.crashed old.outbox.log file left standing.is_file may))

  abbrev After : HostedState → Place → Type 0
  After old (running new after_) = On old new after_
  After old (closed left) = (contents : Contents) × IsJournal contents left × BeginsWith old.outbox.log.stored contents

  goes_on : (old : HostedState) (file : List ℕ) (act : Act) (mid : Place) → Standing old file → Goes old file act mid → After old mid
  goes_on old file (holds output text answer) (running new after_) standing does =
      subst (On old new) (sym does.1) (on_held old new file output text answer standing does.0)
  goes_on old file (holds output text answer) (closed left) standing does = absurd does
  goes_on old file (learns txn commits answer) (running new after_) standing does = subst (On old new) (sym does.1) (on_learnt old new file txn commits answer standing does.0)
  goes_on old file (learns txn commits answer) (closed left) standing does = absurd does
  goes_on old file (releases answer) (running new after_) standing does = subst (On old new) (sym does.1) (on_release old new file answer standing does.0)
  goes_on old file (releases answer) (closed left) standing does = absurd does
  goes_on old file (takes answer) (running new after_) standing does = subst (On old new) (sym does.1) (on_take old new file answer standing does.0)
  goes_on old file (takes answer) (closed left) standing does = absurd does
  goes_on old file (asks room) (running new after_) standing does = subst (On old new) (sym does.1) (on_asked old new file room standing does.0)
  goes_on old file (asks room) (closed left) standing does = absurd does
  goes_on old file tears (running new after_) standing does = on_same old new file after_ standing does.0 (laws.crashed old.outbox.log file after_ standing.is_file does.1)
  goes_on old file tears (closed left) standing does = absurd does
  goes_on old file writes (running new after_) standing does = on_written old new file after_ standing does.0 does.1
  goes_on old file writes (closed left) standing does = absurd does
  goes_on old file stops (running new after_) standing does = absurd does
  goes_on old file stops (closed left) standing does = on_left old file left standing does
  goes_on old file opens (running new after_) standing does = absurd does
  goes_on old file opens (closed left) standing does = absurd does

  -- An outbox is opened on what the file holds.
  record Opened (file : List ℕ) (hosted : HostedState) : Type 0 where
    pub standing : Standing hosted file
    pub journal : IsJournal hosted.outbox.log.stored file
    pub released : hosted.released ≡ []

  opened_on : (file : List ℕ) (hosted : HostedState) → HasOpenedOn file hosted → Opened file hosted
  opened_on file hosted has =
      let log = has.log in
      let read = has.opened in
      let same : contents_of hosted.outbox.log ≡ contents_of log = Some_inj read.log.contents in
      let contents : read.contents ≡ contents_of log = read.read.held (contents_of log) refl in
      record {
        standing = record {
          is_file = laws.called log hosted.outbox.log read_all true file has.read (laws.opened log file _ has.opened_on);
          entries = read.entries;
          spelled = subst (SpellRecords read.entries) (contents ∙ sym same) read.stands.spelled;
          state = read.stands.state;
          waits = subst (Waits (contents_of hosted.outbox.log)) (sym has.released) tt;
          apart = subst Apart (sym has.released) tt;
        };
        journal = subst (λ (c : Contents). IsJournal c file) (sym (laws.stores log hosted.outbox.log read_all true has.read)) has.opened_on.journal;
        released = has.released;
      }

  -- ## Lives
  stands_next : (place : Place) (act : Act) (mid : Place) → Stands place → Moves place act mid → Stands mid
  stands_next (running old file) act (running new after_) stands moves = (goes_on old file act (running new after_) stands moves).standing
  stands_next (running old file) act (closed left) stands moves = tt
  stands_next (closed file) opens (running new after_) stands moves = subst (Standing new) (sym moves.1) (opened_on file new moves.0).standing
  stands_next (closed file) act (closed left) stands moves = tt
  stands_next (closed file) (holds output text answer) (running new after_) stands moves = absurd moves
  stands_next (closed file) (learns txn commits answer) (running new after_) stands moves = absurd moves
  stands_next (closed file) (releases answer) (running new after_) stands moves = absurd moves
  stands_next (closed file) (takes answer) (running new after_) stands moves = absurd moves
  stands_next (closed file) (asks room) (running new after_) stands moves = absurd moves
  stands_next (closed file) tears (running new after_) stands moves = absurd moves
  stands_next (closed file) writes (running new after_) stands moves = absurd moves
  stands_next (closed file) stops (running new after_) stands moves = absurd moves

  pub stands_at_end : (acts : List Act) (place end : Place) → Stands place → Life place acts end → Stands end
  stands_at_end [] place end stands life = subst Stands (sym life) stands
  stands_at_end (act ∷ acts) place end stands life = stands_at_end acts life.0 end (stands_next place act life.0 stands life.1) life.2

  begins_next : (first : Contents) (place : Place) (act : Act) (mid : Place) → Stands place → Begins first place → Moves place act mid → Begins first mid
  begins_next first (running old file) act (running new after_) stands begun moves =
      begins_still first old.outbox.log.stored new.outbox.log.stored begun (goes_on old file act (running new after_) stands moves).grows
  begins_next first (running old file) act (closed left) stands begun moves =
      let found = goes_on old file act (closed left) stands moves in
      (found.0, found.1, begins_still first old.outbox.log.stored found.0 begun found.2)
  begins_next first (closed file) opens (running new after_) stands begun moves =
      subst (BeginsWith first) ((laws.one_journal file).one_value begun.0 new.outbox.log.stored begun.1 (opened_on file new moves.0).journal) begun.2
  begins_next first (closed file) opens (closed left) stands begun moves = absurd moves
  begins_next first (closed file) (holds output text answer) mid stands begun moves = absurd moves
  begins_next first (closed file) (learns txn commits answer) mid stands begun moves = absurd moves
  begins_next first (closed file) (releases answer) mid stands begun moves = absurd moves
  begins_next first (closed file) (takes answer) mid stands begun moves = absurd moves
  begins_next first (closed file) (asks room) mid stands begun moves = absurd moves
  begins_next first (closed file) tears mid stands begun moves = absurd moves
  begins_next first (closed file) writes mid stands begun moves = absurd moves
  begins_next first (closed file) stops mid stands begun moves = absurd moves

  begins_at_end : (first : Contents) (acts : List Act) (place end : Place) → Stands place → Begins first place → Life place acts end → Begins first end
  begins_at_end first [] place end stands begun life = subst (Begins first) (sym life) begun
  begins_at_end first (act ∷ acts) place end stands begun life =
      begins_at_end first acts life.0 end (stands_next place act life.0 stands life.1) (begins_next first place act life.0 stands begun life.1) life.2

  -- What the first of the stored contents say, all of them say.
  says_stored : (old : HostedState) (file : List ℕ) (first : Contents) (output : ℕ) → Standing old file → BeginsWith first old.outbox.log.stored → SaysTaken first output
      → SaysTaken old.outbox.log.stored output
  says_stored old file first output standing begun says =
      let log = old.outbox.log in
      let parts = first_spelled standing.entries log.stored (log.asked ++ log.pending) standing.spelled in
      (parts.0, parts.2, taken_still first begun.0 parts.0 output (subst (SpellRecords parts.0) begun.1 parts.2) says)

  differs_next : (first : Contents) (output : ℕ) (place : Place) (act : Act) (mid : Place) → Stands place → Begins first place → SaysTaken first output → DiffersAt output place
      → Moves place act mid → DiffersAt output mid
  differs_next first output (running old file) act (running new after_) stands begun says differs moves =
      (goes_on old file act (running new after_) stands moves).differs output (says_stored old file first output stands begun says) differs
  differs_next first output (running old file) act (closed left) stands begun says differs moves = tt
  differs_next first output (closed file) opens (running new after_) stands begun says differs moves =
      subst (Differs output) (sym (opened_on file new moves.0).released) tt
  differs_next first output (closed file) act (closed left) stands begun says differs moves = tt
  differs_next first output (closed file) (holds other text answer) (running new after_) stands begun says differs moves = absurd moves
  differs_next first output (closed file) (learns txn commits answer) (running new after_) stands begun says differs moves = absurd moves
  differs_next first output (closed file) (releases answer) (running new after_) stands begun says differs moves = absurd moves
  differs_next first output (closed file) (takes answer) (running new after_) stands begun says differs moves = absurd moves
  differs_next first output (closed file) (asks room) (running new after_) stands begun says differs moves = absurd moves
  differs_next first output (closed file) tears (running new after_) stands begun says differs moves = absurd moves
  differs_next first output (closed file) writes (running new after_) stands begun says differs moves = absurd moves
  differs_next first output (closed file) stops (running new after_) stands begun says differs moves = absurd moves

  -- What an act takes is another output.
  other_taken : (output : ℕ) (place : Place) (act : Act) (mid : Place) (rest : List ℕ) → DiffersAt output place → Moves place act mid → All (λ other. output ≢ other) rest
      → All (λ other. output ≢ other) (taken_by act ++ rest)
  other_taken output (running old file) (takes (Ok other)) (running new after_) rest differs moves all =
      let taking_it = taking_of (size_of old.outbox.log.stored) old.released new.released other moves.0.0 in
      let apart = (subst (Differs output) taking_it.is differs).0 in
      All-cons (λ o. output ≢ o) other rest (λ same. apart (same ∙ taking_it.output_is)) all
  other_taken output (running old file) (takes (Ok other)) (closed left) rest differs moves all = absurd moves
  other_taken output (closed file) (takes (Ok other)) mid rest differs moves all = absurd moves
  other_taken output place (takes (Err fault)) mid rest differs moves all = all
  other_taken output place (holds other text answer) mid rest differs moves all = all
  other_taken output place (learns txn commits answer) mid rest differs moves all = all
  other_taken output place (releases answer) mid rest differs moves all = all
  other_taken output place (asks room) mid rest differs moves all = all
  other_taken output place tears mid rest differs moves all = all
  other_taken output place writes mid rest differs moves all = all
  other_taken output place stops mid rest differs moves all = all
  other_taken output place opens mid rest differs moves all = all

  -- What is stored as released, and waits nowhere, isn't taken any more.
  never_again : (first : Contents) (output : ℕ) (acts : List Act) (place end : Place) → Stands place → Begins first place → SaysTaken first output → DiffersAt output place
      → Life place acts end → All (λ other. output ≢ other) (taken_in acts)
  never_again first output [] place end stands begun says differs life = All-nil (λ other. output ≢ other)
  never_again first output (act ∷ acts) place end stands begun says differs life =
      other_taken output place act life.0 (taken_in acts) differs life.1
      (never_again first output acts life.0 end (stands_next place act life.0 stands life.1) (begins_next first place act life.0 stands begun life.1) says
      (differs_next first output place act life.0 stands begun says differs life.1) life.2)

  once_with : (place : Place) (act : Act) (mid end : Place) (acts : List Act) → Stands place → Moves place act mid → Life mid acts end
      → AllPairs (λ output later. output ≢ later) (taken_in acts) → AllPairs (λ output later. output ≢ later) (taken_by act ++ taken_in acts)
  once_with (running old file) (takes (Ok output)) (running new after_) end acts stands moves life rest =
      let found = taken_stored old new file output stands moves.0 in
      let begun : BeginsWith old.outbox.log.stored new.outbox.log.stored = (on_taken old new file output stands moves.0).grows in
      AllPairs-cons (λ o later. o ≢ later) output (taken_in acts)
      (never_again old.outbox.log.stored output acts (running new after_) end (stands_next (running old file) (takes (Ok output)) (running new after_) stands moves) begun found.0 found.1 life)
      rest
  once_with (running old file) (takes (Ok output)) (closed left) end acts stands moves life rest = absurd moves
  once_with (closed file) (takes (Ok output)) mid end acts stands moves life rest = absurd moves
  once_with place (takes (Err fault)) mid end acts stands moves life rest = rest
  once_with place (holds other text answer) mid end acts stands moves life rest = rest
  once_with place (learns txn commits answer) mid end acts stands moves life rest = rest
  once_with place (releases answer) mid end acts stands moves life rest = rest
  once_with place (asks room) mid end acts stands moves life rest = rest
  once_with place tears mid end acts stands moves life rest = rest
  once_with place writes mid end acts stands moves life rest = rest
  once_with place stops mid end acts stands moves life rest = rest
  once_with place opens mid end acts stands moves life rest = rest

  -- No output is taken twice.
  pub taken_once : (acts : List Act) (place end : Place) → Stands place → Life place acts end → AllPairs (λ output later. output ≢ later) (taken_in acts)
  taken_once [] place end stands life = λ i j d below within. absurd (omega (arith, within))
  taken_once (act ∷ acts) place end stands life =
      once_with place act life.0 end acts stands life.1 life.2 (taken_once acts life.0 end (stands_next place act life.0 stands life.1) life.2)

  -- What an outbox knows is what its log's records say, and its file is a journal of the first of them.
  pub knows_records : (start file : List ℕ) (acts : List Act) (hosted : HostedState) → Life (closed start) acts (running hosted file)
      → (entries : List Record) × SpellRecords entries (contents_of hosted.outbox.log) × (hosted.outbox.state ≡ state_of entries) × IsStored hosted.outbox.log file
  knows_records start file acts hosted life =
      let standing : Standing hosted file = stands_at_end acts (closed start) (running hosted file) tt life in
      (standing.entries, standing.spelled, standing.state, laws.journals hosted.outbox.log file standing.is_file)

  -- What is stored is said from then on.
  pub stored_records_last : (start file later : List ℕ) (before acts : List Act) (old new : HostedState) (entries : List Record) → Life (closed start) before (running old file)
      → SpellRecords entries old.outbox.log.stored → Life (running old file) acts (running new later)
      → (more : List Record) × SpellRecords (entries ++ more) (contents_of new.outbox.log) × (new.outbox.state ≡ state_of (entries ++ more))
  stored_records_last start file later before acts old new entries first spelled life =
      let was : Standing old file = stands_at_end before (closed start) (running old file) tt first in
      let now : Standing new later = stands_at_end acts (running old file) (running new later) was life in
      let log = new.outbox.log in
      let begun : BeginsWith old.outbox.log.stored log.stored =
      begins_at_end old.outbox.log.stored acts (running old file) (running new later) was ([], sym (append-nil old.outbox.log.stored)) life in
      let whole : contents_of log ≡ old.outbox.log.stored ++ (begun.0 ++ (log.asked ++ log.pending)) =
      ap (λ (l : Contents). l ++ (log.asked ++ log.pending)) begun.1 ∙ append_assoc old.outbox.log.stored begun.0 (log.asked ++ log.pending) in
      let parts = first_spelled now.entries old.outbox.log.stored (begun.0 ++ (log.asked ++ log.pending)) (subst (SpellRecords now.entries) whole now.spelled) in
      let same : now.entries ≡ entries ++ parts.1 = parts.4 ∙ ap (λ (l : List Record). l ++ parts.1) (laws.one parts.0 entries old.outbox.log.stored parts.2 spelled) in
      (parts.1, subst (λ (l : List Record). SpellRecords l (contents_of log)) same now.spelled, now.state ∙ ap state_of same)

  -- What a file has as released isn't taken in any life that begins with it.
  pub stored_never_again : (file : List ℕ) (contents : Contents) (entries : List Record) (acts : List Act) (end : Place) (output : ℕ) → IsJournal contents file
      → SpellRecords entries contents → is_taken (state_of entries) output ≡ true → Life (closed file) acts end → All (λ other. output ≢ other) (taken_in acts)
  stored_never_again file contents entries acts end output journal spelled says life =
      never_again contents output acts (closed file) end tt (contents, journal, ([], sym (append-nil contents))) (entries, spelled, says) tt life

  -- What is taken is stored as released.
  pub taken_is_stored : (start file : List ℕ) (before : List Act) (old new : HostedState) (output : ℕ) → Life (closed start) before (running old file)
      → TakesBy old new (Ok output) → SaysTaken old.outbox.log.stored output
  taken_is_stored start file before old new output life takes_it =
      (taken_stored old new file output (stands_at_end before (closed start) (running old file) tt life) takes_it).0

  -- What is released is the ready output that was held first.
  pub released_is_next : (start file : List ℕ) (before : List Act) (old new : HostedState) (answer : ⊤) → Life (closed start) before (running old file)
      → ReleasesBy old new (Ok answer) → (entries : List Record) × (output : ℕ) × SpellRecords entries (contents_of old.outbox.log) × IsNext (state_of entries) output
      × SpellRecords (entries ++ taken output ∷ []) (contents_of new.outbox.log)
  released_is_next start file before old new answer life does =
      let standing : Standing old file = stands_at_end before (closed start) (running old file) tt life in
      let next : IsNext old.outbox.state does.0 = does.1.may in
      let more = added old new file (taken does.0) standing does.1 in
      (standing.entries, does.0, standing.spelled, subst (λ (state : State). IsNext state does.0) standing.state next, more.spelled)

  -- What a kill leaves is a journal of records.
  pub left_records : (start file left : List ℕ) (before : List Act) (hosted : HostedState) → Life (closed start) before (running hosted file)
      → MayLeave hosted.outbox.log file left → (contents : Contents) × (entries : List Record) × IsJournal contents left × SpellRecords entries contents
  left_records start file left before hosted life may =
      let standing : Standing hosted file = stands_at_end before (closed start) (running hosted file) tt life in
      let log = hosted.outbox.log in
      stored_records log left standing.entries standing.spelled (laws.journals log left (laws.crashed log file left standing.is_file may))
