-- What the calls of an outbox over a disk in memory come to.
use Rattle.std.proofs.Common.{◌≡◌, ◌⊎◌, inl, inr, ℕ, zero, suc, ◌+◌, ◌≤◌, ◌<◌, Bool, true, false, List, [], ◌∷◌, ◌++◌, length, Option, Some, None, Result, Ok, Err, IfOk, MatchBool, refl, sym, ap, subst, ◌∙◌}
use Rattle.std.specs.Prelude.{nat_lt, ◌&&◌, if◌then◌else◌, is_some, slice_get}
use Rattle.std.proofs.lemmas.Bool.{true≢false}
use Rattle.pv_base.specs.declared.limits.TheConstants.{MAX_JOURNAL}
use Rattle.pv_base.specs.declared.mode.Mode.{Mode}
use Rattle.pv_base.specs.declared.mode.Mode.TheVariants.{Lost, Kept, Torn}
use Rattle.pv_disk.specs.MemDisk.{MemState}
use Rattle.pv_disk.specs.MemLaws.{mem_model}
use Rattle.pv_disk.specs.declared.arms.Arm.{Arm}
use Rattle.pv_disk_model.specs.Calls.{Makes, append, read_all, reserve}
use Rattle.pv_disk_model.specs.Size.{Contents, size_of}
use Rattle.pv_format.specs.Checkpoint.{Standing}
use Rattle.pv_journal.specs.Armed.{contents_left, opened_in}
use Rattle.pv_law_checkpoints.proofs.ContentsLemmas.{log_contents_of-is}
use Rattle.pv_ckpt.specs.Armed.{Holds, HoldsUp}
use Rattle.pv_ckpt.specs.CkptLog.{IsIntact, LogGoes, contents_now}
use Rattle.pv_ckpt.specs.CkptModel.{ckpt_model}
use Rattle.pv_ckpt.specs.declared.ckpt_log.CkptLog.{CkptLog}
use Rattle.pv_law_outbox.specs.State.{Record, State, after, state_of}
use Rattle.pv_law_outbox.proofs.StateLemmas.{state_of-last}
use Rattle.pv_moored.specs.Opening as opening
use Rattle.pv_moored.specs.Reached as moored
use Rattle.pv_moored.specs.declared.moored.Opened.TheVariants as opened_as
use Rattle.pv_moored.specs.Reached.{Reached, reached, waits, fires}
use Rattle.pv_outbox.specs.Calls as calls
use Rattle.pv_outbox.specs.Opens.{HasOpened, Opens}
use Rattle.pv_outbox.specs.OutboxState.{IsUsable, OutboxState}
use Rattle.pv_outbox.specs.Spelling.{SpellRecords, SpellsRecord}
use Rattle.pv_outbox.specs.declared.error.OpenOutbox.TheVariants.{BadRecord, NotOurs}
use Rattle.pv_outbox_run.specs.Box.{AppendsBy, Box, HasLength, Writes, entries_left}
use Rattle.pv_outbox_run.specs.Does.{Does, DoesDown, DoesUp, StartsBy, Tells}
use Rattle.pv_outbox_run.specs.Stands.{Breaks, Comes, ComesTold, IsDown, IsOpen, IsUp, Stands}
use Rattle.pv_outbox_run.specs.ToldText.{broke}
use Rattle.pv_outbox_run.specs.declared.cell.Cell.{Cell}
use Rattle.pv_outbox_run.specs.declared.cell.Cell.TheVariants.{Up, Down}
use Rattle.pv_outbox_run.specs.declared.told.Told.{Told}
use Rattle.pv_outbox_run.specs.declared.told.Told.TheVariants.{Full, Started, Stopped}
use Rattle.pv_outbox_script.specs.declared.event.Event.{Event}
use Rattle.pv_outbox_script.specs.declared.event.Event.TheVariants.{Start, Stop}
use Rattle.pv_protocol.specs.Arms.{is_kept}

pub does-up : (old : Box) (event : Event) (says : List Told) (new : Box) → old.is_up ≡ true → DoesUp old event says new → Does old event says new
does-up old event says new up does = subst (λ (b : Bool). MatchBool b (DoesUp old event says new) (DoesDown old event says new)) (sym up) does

pub does-down : (old : Box) (event : Event) (says : List Told) (new : Box) → old.is_up ≡ false → DoesDown old event says new → Does old event says new
does-down old event says new down does = subst (λ (b : Bool). MatchBool b (DoesUp old event says new) (DoesDown old event says new)) (sym down) does

-- What the disk of a log holds are the log's contents.
pub holds-contents : (contents : Contents) (standing : Standing) (armed : Option Arm) (fired : Option Bool) (log : CkptLog MemState) → Holds contents standing armed fired log.disk
    → contents_now mem_model log ≡ Some contents
holds-contents contents standing armed fired log holds =
    log_contents_of-is contents log.disk.image.content
    (record { at = holds.stands.at; packed = holds.stands.packed; later = holds.stands.later; log = holds.stands.log; is = holds.stands.contents_are })

-- What laws say of logs, that are handed to the lemmas below.
abbrev pub Appending : Type 0
Appending =
    (contents : Contents) (standing : Standing) (armed : Option Arm) (old new : CkptLog MemState) (content : List ℕ) (ok : Bool) →
    HoldsUp contents standing armed old → Makes (LogGoes mem_model) old (reserve (length content) ∷ append content ∷ []) ok new →
    moored.AppendsBy contents standing content ok new.disk (reached 4 armed) ⊎ ((ok ≡ false) × Holds contents standing armed None new.disk)

abbrev pub Intact : Type 0
Intact =
    (contents : Contents) (standing : Standing) (armed : Option Arm) (log : CkptLog MemState) → IsIntact mem_model log → log.down ≡ false →
    Holds contents standing armed None log.disk → HoldsUp contents standing armed log

abbrev pub Reading : Type 0
Reading =
    (contents : Contents) (standing : Standing) (armed : Option Arm) (old new : CkptLog MemState) (ok : Bool) → HoldsUp contents standing armed old →
    LogGoes mem_model old read_all ok new → Holds contents standing armed None new.disk × (ok ≡ true → HoldsUp contents standing armed new)

abbrev pub OneList : Type 0
OneList = (entries others : List Record) (contents : Contents) → SpellRecords entries contents → SpellRecords others contents → entries ≡ others

abbrev pub SpellsMore : Type 0
SpellsMore =
    (entries : List Record) (contents : Contents) (entry : Record) (bytes : List ℕ) → SpellRecords entries contents → SpellsRecord entry bytes →
    SpellRecords (entries ++ entry ∷ []) (contents ++ bytes ∷ [])

-- What fires in an append leaves the record exactly where it leaves its bytes.
module _ (more : SpellsMore) (entries : List Record) (contents : Contents) (entry : Record) (bytes : List ℕ) (spelled : SpellRecords entries contents) (one : SpellsRecord entry bytes) where
  spelled-kept : (mode : Mode) → SpellRecords (if is_kept mode then entries ++ entry ∷ [] else entries) (opened_in mode contents bytes)
  spelled-kept Kept = more entries contents entry bytes spelled one
  spelled-kept Lost = spelled
  spelled-kept Torn = spelled

  spelled-by : (late : Bool) (mode : Mode) → SpellRecords (if late && is_kept mode then entries ++ entry ∷ [] else entries) (if late then opened_in mode contents bytes else contents)
  spelled-by true mode = spelled-kept mode
  spelled-by false mode = spelled

  pub spelled-left : (arm : Arm) → SpellRecords (entries_left entries entry arm) (contents_left contents bytes arm)
  spelled-left arm = spelled-by (nat_lt 2 arm.left) arm.mode

-- An outbox that is up, and a record that is to be written.
module _ (outbox : OutboxState (CkptLog MemState)) (box : Box) (is : IsUp outbox box) where
  size-is : outbox.log.length ≡ size_of is.contents
  size-is =
      (ckpt_model mem_model).size_is outbox.log is.contents is.usable.intact is.log.up (holds-contents is.contents is.standing box.armed None outbox.log is.log.disk)

  has-length : (entry : Record) (bytes : List ℕ) → SpellsRecord entry bytes → HasLength box.entries entry (outbox.log.length + (5 + length bytes))
  has-length entry bytes one = record { contents = is.contents; spelled = is.spelled; bytes = bytes; one = one; is = ap (λ n. n + (5 + length bytes)) size-is }

  within-is : (bytes : List ℕ) → outbox.log.length + (5 + length bytes) ≤ outbox.log.limit → outbox.log.length + (5 + length bytes) ≤ MAX_JOURNAL
  within-is bytes within = subst (λ n. outbox.log.length + (5 + length bytes) ≤ n) is.limit within

  -- The log would be too long.
  pub comes-full : (new : OutboxState (CkptLog MemState)) (entry : Record) (answer : Told) (count : ℕ) → calls.IsFull (ckpt_model mem_model) outbox new entry count
      → (next : Box) × IsUp new next × Writes box entry answer (Full count) next
  comes-full new entry answer count full = (
    box,
    subst (λ (now : OutboxState (CkptLog MemState)). IsUp now box) (sym full.outbox) is,
    (
      count,
      subst (HasLength box.entries entry) (sym full.length_is) (has-length entry full.bytes full.spelled),
      inr (subst (λ n. n < count) is.limit full.above, refl, refl),
    ),
  )

  module _ (appends : Appending) (more : SpellsMore) where
    module _ (intact : Intact) (new : OutboxState (CkptLog MemState)) (entry : Record) (answer : Told) (writes : calls.Writes (ckpt_model mem_model) outbox new entry)
        (usable : IsUsable (ckpt_model mem_model) new) where
      written-by : (r : Reached) → reached 4 box.armed ≡ r → moored.AppendsBy is.contents is.standing writes.bytes true new.log.disk r
          → (next : Box) × IsUp new next × Writes box entry answer answer next
      written-by (waits rest) reaches comes = (
        record { entries = box.entries ++ entry ∷ []; armed = rest; is_up = true },
        record {
          up = refl;
          usable = usable;
          is_up = writes.is_up;
          state = writes.state ∙ ap (λ (state : State). after state entry) is.state ∙ sym (state_of-last box.entries entry);
          contents = is.contents ++ writes.bytes ∷ [];
          spelled = more box.entries is.contents entry writes.bytes is.spelled writes.spelled;
          standing = is.standing;
          log = intact (is.contents ++ writes.bytes ∷ []) is.standing rest new.log usable.intact writes.up.is_up comes.1;
          limit = writes.log.limit ∙ is.limit;
        },
        (
          outbox.log.length + (5 + length writes.bytes),
          has-length entry writes.bytes writes.spelled,
          inl (
            within-is writes.bytes writes.asked.within,
            subst
                (λ (r : Reached). AppendsBy r box entry answer answer (record { entries = box.entries ++ entry ∷ []; armed = rest; is_up = true }))
                (sym reaches) (refl, refl),
          ),
        ),
      )
      written-by (fires arm) reaches comes = absurd (let wrong : ⊥ = cc in wrong)

      written-or : moored.AppendsBy is.contents is.standing writes.bytes true new.log.disk (reached 4 box.armed)
          ⊎ ((true ≡ false) × Holds is.contents is.standing box.armed None new.log.disk)
          → (next : Box) × IsUp new next × Writes box entry answer answer next
      written-or (inl comes) = written-by (reached 4 box.armed) refl comes
      written-or (inr failed) = absurd (let wrong : ⊥ = cc in wrong)

      -- The record is there.
      pub comes-written : (next : Box) × IsUp new next × Writes box entry answer answer next
      comes-written = written-or (appends is.contents is.standing box.armed outbox.log new.log writes.bytes true is.log writes.asked.calls)

    -- The log failed, and the disk on which something fired is mended.
    module _ (new : OutboxState (CkptLog MemState)) (entry : Record) (answer : Told) (breaks : calls.Breaks (ckpt_model mem_model) outbox new entry) (disk : MemState) (said : Told) (stops : Bool)
        (tells : said ≡ broke stops)
        (mends : (contents : Contents) (standing : Standing) (armed : Option Arm) (fired : Option Bool) → Holds contents standing armed fired new.log.disk →
        (fired ≡ Some stops) × Holds contents standing None None disk) where
      broken-by : (r : Reached) → reached 4 box.armed ≡ r → moored.AppendsBy is.contents is.standing breaks.bytes false new.log.disk r
          → (next : Box) × IsDown disk next × Writes box entry answer said next
      broken-by (waits rest) reaches comes = absurd (let wrong : ⊥ = cc in wrong)
      broken-by (fires arm) reaches comes =
          let mended = mends (contents_left is.contents breaks.bytes arm) is.standing None (Some arm.stop) comes.1 in
          let told : Some arm.stop ≡ Some stops = mended.0 in
          let same : arm.stop ≡ stops = cc in (
            record { entries = entries_left box.entries entry arm; armed = None; is_up = false },
            record {
              down = refl;
              contents = contents_left is.contents breaks.bytes arm;
              spelled = spelled-left more box.entries is.contents entry breaks.bytes is.spelled breaks.spelled arm;
              standing = is.standing;
              holds = mended.1;
            },
            (
              outbox.log.length + (5 + length breaks.bytes),
              has-length entry breaks.bytes breaks.spelled,
              inl (
                within-is breaks.bytes breaks.asked.within,
                subst
                    (λ (r : Reached). AppendsBy r box entry answer said (record { entries = entries_left box.entries entry arm; armed = None; is_up = false }))
                    (sym reaches) (tells ∙ ap broke (sym same), refl),
              ),
            ),
          )

      broken-or : moored.AppendsBy is.contents is.standing breaks.bytes false new.log.disk (reached 4 box.armed)
          ⊎ ((false ≡ false) × Holds is.contents is.standing box.armed None new.log.disk)
          → (next : Box) × IsDown disk next × Writes box entry answer said next
      broken-or (inl comes) = broken-by (reached 4 box.armed) refl comes
      broken-or (inr failed) =
          let none : None ≡ Some stops = (mends is.contents is.standing box.armed None failed.1).0 in
          absurd (let wrong : ⊥ = cc in wrong)

      broken-down : (next : Box) × IsDown disk next × Writes box entry answer said next
      broken-down = broken-or (appends is.contents is.standing box.armed outbox.log new.log breaks.bytes false is.log breaks.asked.calls)

    -- The outbox is down.
    pub comes-broken : (new : OutboxState (CkptLog MemState)) (entry : Record) (answer : Told) → calls.Breaks (ckpt_model mem_model) outbox new entry
        → (made : Cell × Told) → Breaks new made → (next : Box) × Stands made.0 next × Writes box entry answer made.1 next
    comes-broken new entry answer breaks (Up other, said) fell = absurd fell
    comes-broken new entry answer breaks (Down disk, said) fell = broken-down new entry answer breaks disk said fell.0 fell.1 fell.2

-- What is told of a call, by what becomes of its record.
pub told-call : (box : Box) (event : Event) (entry : Record) (answer : Told) → box.is_up ≡ true
    → ((says : List Told) (next : Box) → Tells (Writes box entry answer) says next → DoesUp box event says next)
    → (made : Cell × Told) → ((next : Box) × Stands made.0 next × Writes box entry answer made.1 next) → ComesTold box event made
told-call box event entry answer up wrap made comes = (
  comes.0,
  comes.1,
  does-up box event (made.1 ∷ []) comes.0 up (wrap (made.1 ∷ []) comes.0 (made.1, refl, comes.2)),
)

-- What is told of a call that changes nothing.
pub told-same : (outbox new : OutboxState (CkptLog MemState)) (box : Box) (event : Event) (told : Told) → IsUp outbox box → new ≡ outbox → DoesUp box event (told ∷ []) box
    → ComesTold box event (Up new, told)
told-same outbox new box event told is same does = (
  box,
  subst (λ (now : OutboxState (CkptLog MemState)). IsUp now box) (sym same) is,
  does-up box event (told ∷ []) box is.up does,
)

-- A call was to write this record, and didn't.
module _ (outbox : OutboxState (CkptLog MemState)) (box : Box) (is : IsUp outbox box) (appends : Appending) (more : SpellsMore) (event : Event) (entry : Record) (answer : Told)
    (wrap : (says : List Told) (next : Box) → Tells (Writes box entry answer) says next → DoesUp box event says next) where
  pub told-full : (new : OutboxState (CkptLog MemState)) (count : ℕ) → calls.IsFull (ckpt_model mem_model) outbox new entry count → ComesTold box event (Up new, Full count)
  told-full new count full = told-call box event entry answer is.up wrap (Up new, Full count) (comes-full outbox box is new entry answer count full)

  pub told-written : Intact → (new : OutboxState (CkptLog MemState)) → calls.Writes (ckpt_model mem_model) outbox new entry → IsUsable (ckpt_model mem_model) new
      → ComesTold box event (Up new, answer)
  told-written intact new writes usable =
      told-call box event entry answer is.up wrap (Up new, answer) (comes-written outbox box is appends more intact new entry answer writes usable)

  told-broken : (new : OutboxState (CkptLog MemState)) → calls.Breaks (ckpt_model mem_model) outbox new entry → (made : Cell × Told) → Breaks new made → ComesTold box event made
  told-broken new breaks made fell = told-call box event entry answer is.up wrap made (comes-broken outbox box is appends more new entry answer breaks made fell)

  pub told-fallen : {E : Type 0} (new : OutboxState (CkptLog MemState)) → calls.Breaks (ckpt_model mem_model) outbox new entry → (result : Result (Cell × Told) E)
      → IfOk result (Breaks new) → IfOk result (ComesTold box event)
  told-fallen new breaks (Ok made) fell = told-broken new breaks made fell
  told-fallen new breaks (Err e) fell = tt

-- Opening an outbox.

each-spelled : (entries : List Record) (contents : Contents) (i : ℕ) (content : List ℕ) → SpellRecords entries contents → slice_get contents i ≡ Some content
    → (entry : Record) × SpellsRecord entry content
each-spelled [] [] i content spelled there = absurd (let wrong : ⊥ = cc in wrong)
each-spelled [] (first ∷ contents) i content spelled there = absurd spelled
each-spelled (entry ∷ entries) [] i content spelled there = absurd spelled
each-spelled (entry ∷ entries) (first ∷ contents) zero content spelled there =
    let told : Some first ≡ Some content = there in
    let same : first ≡ content = cc in
    (entry, subst (SpellsRecord entry) same spelled.0)
each-spelled (entry ∷ entries) (first ∷ contents) (suc i) content spelled there = each-spelled entries contents i content spelled.1 there

module _ (log : CkptLog MemState) (box : Box) (open_ : IsOpen log box) where
  log-contents : contents_now mem_model log ≡ Some open_.contents
  log-contents = holds-contents open_.contents open_.standing box.armed None log open_.log_is.disk

  -- No content is another's.
  pub no-bad : (new : CkptLog MemState) (index : ℕ) → Opens (ckpt_model mem_model) log (Err (BadRecord new index)) → ⊥
  no-bad new index opens =
      let read = opens.2.1 in
      let bad = opens.2.2 in
      let same : opens.2.0 ≡ open_.contents = read.held open_.contents log-contents in
      let one = each-spelled box.entries opens.2.0 index bad.content (subst (SpellRecords box.entries) (sym same) open_.spelled) bad.there in
      bad.none one.0 one.1

  -- It is known what the log holds.
  pub no-foreign : (new : CkptLog MemState) (place : ℕ) → Opens (ckpt_model mem_model) log (Err (NotOurs new place)) → ⊥
  no-foreign new place opens = true≢false (sym (ap is_some log-contents) ∙ opens.2)

  -- The outbox is up, and knows what the records say.
  pub opens-up : (one : OneList) (reads : Reading) (outbox : OutboxState (CkptLog MemState)) → HasOpened (ckpt_model mem_model) log outbox → IsUsable (ckpt_model mem_model) outbox
      → LogGoes mem_model log read_all true outbox.log → IsUp outbox box
  opens-up one reads outbox opened usable goes =
      let same : opened.contents ≡ open_.contents = opened.read.held open_.contents log-contents in
      let entries : opened.entries ≡ box.entries =
      one opened.entries box.entries opened.contents opened.stands.spelled (subst (SpellRecords box.entries) (sym same) open_.spelled) in
      record {
        up = open_.up;
        usable = usable;
        is_up = opened.stands.up;
        state = opened.stands.state ∙ ap state_of entries;
        contents = open_.contents;
        spelled = open_.spelled;
        standing = open_.standing;
        log = (reads open_.contents open_.standing box.armed log outbox.log true open_.log_is goes).1 refl;
        limit = opened.log.limit ∙ open_.limit;
      }

-- A start.
module _ (disk : MemState) (box : Box) (is : IsDown disk box) where
  started-by : (r : Reached) (says : List Told) (new : Box) → reached 1 box.armed ≡ r → StartsBy r box says new → Does box Start says new
  started-by r says new reaches starts =
      does-down box Start says new is.down (subst (λ (now : Reached). StartsBy now box says new) (sym reaches) starts)

  -- The log was opened: this is the outbox that comes up.
  pub opened-is : (log : CkptLog MemState) → (opened : opening.HasOpened is.contents is.standing box.armed (opened_as.Up log)) → IsOpen log (record box { armed = opened.0; is_up = true })
  opened-is log opened = record {
    up = refl;
    intact = opened.2;
    contents = is.contents;
    spelled = is.spelled;
    standing = is.standing;
    log_is = opened.3;
    limit = opened.4;
  }

  pub comes-started : (log : CkptLog MemState) (opened : opening.HasOpened is.contents is.standing box.armed (opened_as.Up log)) (outbox : OutboxState (CkptLog MemState))
      → IsUp outbox (record box { armed = opened.0; is_up = true }) → ComesTold box Start (Up outbox, Started)
  comes-started log opened outbox up = (
    record box { armed = opened.0; is_up = true },
    up,
    started-by (waits opened.0) (Started ∷ []) (record box { armed = opened.0; is_up = true }) opened.1 (refl, refl),
  )

  pub comes-unstarted : (left : MemState) (stops : Bool) (told : Told) → told ≡ broke stops → opening.HasOpened is.contents is.standing box.armed (opened_as.Broke left stops)
      → ComesTold box Start (Down left, told)
  comes-unstarted left stops told tells opened = (
    record box { armed = None },
    record { down = is.down; contents = is.contents; spelled = is.spelled; standing = is.standing; holds = opened.3 },
    started-by (fires opened.0) (told ∷ []) (record box { armed = None }) opened.1
        (ap (λ (one : Told). one ∷ []) (tells ∙ ap broke (sym opened.2)), refl),
  )

-- Arming and mending.

abbrev pub rearmed : MemState → Option Arm → MemState
rearmed disk armed = record disk { arms = record disk.arms { armed = armed; fired = None } }

holds-rearmed : (contents : Contents) (standing : Standing) (before armed : Option Arm) (fired : Option Bool) (disk : MemState) → Holds contents standing before fired disk
    → Holds contents standing armed None (rearmed disk armed)
holds-rearmed contents standing before armed fired disk holds =
    record { stands = holds.stands; settled = holds.settled; armed = refl; fired = refl; reads = holds.reads }

abbrev pub rearmed-log : CkptLog MemState → Option Arm → CkptLog MemState
rearmed-log log armed = record log { disk = rearmed log.disk armed }

module _ (box : Box) (armed : Option Arm) where
  pub down-rearmed : (disk new : MemState) → IsDown disk box → new ≡ rearmed disk armed → IsDown new (record box { armed = armed })
  down-rearmed disk new is arms =
      subst (λ (now : MemState). IsDown now (record box { armed = armed })) (sym arms)
      (record { down = is.down; contents = is.contents; spelled = is.spelled; standing = is.standing; holds = holds-rearmed is.contents is.standing box.armed armed None disk is.holds })

  up-rearmed : (outbox : OutboxState (CkptLog MemState)) → IsUp outbox box → IsUp (record outbox { log = rearmed-log outbox.log armed }) (record box { armed = armed })
  up-rearmed outbox is = record {
    up = is.up;
    usable = record {
      intact = record {
        starts = is.usable.intact.starts;
        bounded = is.usable.intact.bounded;
        limited = is.usable.intact.limited;
        root = is.usable.intact.root;
        behind_roots = is.usable.intact.behind_roots;
        in_range = is.usable.intact.in_range;
        packed = is.usable.intact.packed;
        short = is.usable.intact.short;
        at_rest = is.usable.intact.at_rest;
        durable = is.usable.intact.durable;
      };
      up = is.usable.up;
    };
    is_up = is.is_up;
    state = is.state;
    contents = is.contents;
    spelled = is.spelled;
    standing = is.standing;
    log = record { up = is.log.up; is = is.log.is; disk = holds-rearmed is.contents is.standing box.armed armed None outbox.log.disk is.log.disk };
    limit = is.limit;
  }

  -- The disk was lent by the log, and the log by the outbox.
  pub up-lent : (outbox : OutboxState (CkptLog MemState)) (log : CkptLog MemState) (before after : MemState) → log ≡ outbox.log → before ≡ log.disk → after ≡ rearmed before armed
      → IsUp outbox box → IsUp (record outbox { log = record log { disk = after } }) (record box { armed = armed })
  up-lent outbox log before after of_outbox of_log arms is =
      let same : after ≡ rearmed outbox.log.disk armed =
      arms ∙ ap (λ (disk : MemState). rearmed disk armed) (of_log ∙ ap (λ (l : CkptLog MemState). l.disk) of_outbox) in
      let lent : record log { disk = after } ≡ rearmed-log outbox.log armed = λ i. record (of_outbox i) { disk = same i } in
      subst (λ (now : CkptLog MemState). IsUp (record outbox { log = now }) (record box { armed = armed })) (sym lent) (up-rearmed outbox is)

-- A stop between two calls.
pub stops-up : (outbox : OutboxState (CkptLog MemState)) (box : Box) → IsUp outbox box → (log : CkptLog MemState) (disk : MemState) → log ≡ outbox.log → disk ≡ log.disk
    → Comes box Stop (Down disk, Some Stopped)
stops-up outbox box is log disk of_outbox of_log = (
  record box { is_up = false },
  subst (λ (now : MemState). IsDown now (record box { is_up = false })) (sym (of_log ∙ ap (λ (l : CkptLog MemState). l.disk) of_outbox))
      (record { down = refl; contents = is.contents; spelled = is.spelled; standing = is.standing; holds = is.log.disk }),
  does-up box Stop (Stopped ∷ []) (record box { is_up = false }) is.up (refl, refl),
)
