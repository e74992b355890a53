-- What the steps and openings of a decider over a disk in memory come to.
use Rattle.std.proofs.Common.{◌≡◌, ◌⊎◌, inl, inr, ℕ, zero, suc, Bool, true, false, List, [], ◌∷◌, ◌++◌, All, length, Option, Some, None, Result, Ok, Err, IfOk, refl, sym, ap, subst, ◌∙◌}
use Rattle.std.specs.Prelude.{nat_lt, ◌&&◌, if◌then◌else◌, is_some, slice_get}
use Rattle.std.specs.Option.{option_to_list}
use Rattle.std.proofs.lemmas.Bool.{true≢false}
use Rattle.std.proofs.lemmas.List.{append-nil, map-append}
use Rattle.std.proofs.lemmas.List.Elements.{All-append, All-cons, All-head, All-nil, All-tail}
use Rattle.pv_base.specs.declared.mode.Mode.{Mode}
use Rattle.pv_base.specs.declared.mode.Mode.TheVariants.{Lost, Kept, Torn}
use Rattle.pv_ckpt.specs.Armed.{Holds, HoldsUp}
use Rattle.pv_ckpt.specs.CkptLog.{IsIntact, LogGoes, contents_now}
use Rattle.pv_ckpt.specs.CkptModel.{ckpt_model}
use Rattle.pv_ckpt.specs.declared.ckpt_log.CkptLog.{CkptLog}
use Rattle.pv_disk.specs.MemDisk.{MemState}
use Rattle.pv_disk.specs.MemLaws.{mem_model}
use Rattle.pv_disk.specs.declared.arms.Arm.{Arm}
use Rattle.pv_disk_model.specs.Calls.{Makes, append, read_all, reserve}
use Rattle.pv_disk_model.specs.Size.{Contents}
use Rattle.pv_format.specs.Checkpoint.{Standing}
use Rattle.pv_journal.specs.Armed.{contents_left, opened_in}
use Rattle.pv_law_checkpoints.proofs.ContentsLemmas.{log_contents_of-is}
use Rattle.pv_law_decisions.specs.Scene.{reached_by}
use Rattle.pv_law_quorum.specs.Decider.{Answer, Entry, Here, Input, step}
use Rattle.pv_law_quorum.specs.Record.{Record}
use Rattle.pv_law_quorum.specs.World.{broken}
use Rattle.pv_moored.specs.Opening as opening
use Rattle.pv_moored.specs.Reached as moored
use Rattle.pv_moored.specs.Reached.{Reached, reached, waits, fires}
use Rattle.pv_moored.specs.declared.moored.Opened.TheVariants as opened_as
use Rattle.pv_protocol.specs.Arms.{is_kept}
use Rattle.pv_quorum.specs.DeciderState.{DeciderState, IsReady, StandsFor, setup_of}
use Rattle.pv_quorum.specs.Opens.{HasOpened, Opens}
use Rattle.pv_quorum.specs.Spelling.{IsInRange, SpellRecords, Spells, record_bytes}
use Rattle.pv_quorum.specs.Steps as steps
use Rattle.pv_quorum.specs.Steps.{Gives, HasMade, Logs, Steps}
use Rattle.pv_quorum.specs.declared.error.OpenDecider.TheVariants.{BadRecord, NotOurs}
use Rattle.pv_quorum.specs.declared.message.QuorumStep.{QuorumStep}
use Rattle.pv_quorum_run.specs.Cells.{Breaks, HasBegun, HasStepped, IsDownAs, IsOpenLog, IsUpAs, Seat, StandsForSeat, contents_by, first_seat, seat_after, seat_answer}
use Rattle.pv_quorum_run.specs.declared.cell.Cell.{Cell}
use Rattle.pv_quorum_run.specs.declared.cell.Cell.TheVariants.{Up, Down, Vacant}
use Rattle.pv_quorum_run.specs.declared.cell.Start.{Start}
use Rattle.pv_quorum_run.specs.declared.cell.Start.TheVariants as start
use Rattle.pv_quorum_run.specs.declared.cell.Stepped.{Stepped}
use Rattle.pv_quorum_run.specs.declared.cell.Stepped.TheVariants as stepped

-- What laws say of logs, that are handed to the lemmas below.
abbrev pub Appending : Type 0
Appending =
    (contents : Contents) (standing : Standing) (armed : Option Arm) (old new : CkptLog MemState) (content : List ℕ) (ok : Bool) →
    HoldsUp contents standing armed old → Makes (LogGoes mem_model) old (reserve (length content) ∷ append content ∷ []) ok new →
    moored.AppendsBy contents standing content ok new.disk (reached 4 armed) ⊎ ((ok ≡ false) × Holds contents standing armed None new.disk)

abbrev pub Intact : Type 0
Intact =
    (contents : Contents) (standing : Standing) (armed : Option Arm) (log : CkptLog MemState) → IsIntact mem_model log → log.down ≡ false →
    Holds contents standing armed None log.disk → HoldsUp contents standing armed log

abbrev pub Reading : Type 0
Reading =
    (contents : Contents) (standing : Standing) (armed : Option Arm) (old new : CkptLog MemState) (ok : Bool) → HoldsUp contents standing armed old →
    LogGoes mem_model old read_all ok new → Holds contents standing armed None new.disk × (ok ≡ true → HoldsUp contents standing armed new)

abbrev pub OneList : Type 0
OneList = (entries others : List Record) (contents : Contents) → SpellRecords entries contents → SpellRecords others contents → entries ≡ others

-- What the disk of a log holds are the log's contents.
pub holds-contents : (contents : Contents) (standing : Standing) (armed : Option Arm) (fired : Option Bool) (log : CkptLog MemState) → Holds contents standing armed fired log.disk
    → contents_now mem_model log ≡ Some contents
holds-contents contents standing armed fired log holds =
    log_contents_of-is contents log.disk.image.content
    (record { at = holds.stands.at; packed = holds.stands.packed; later = holds.stands.later; log = holds.stands.log; is = holds.stands.contents_are })

-- the contents with a record more
contents-more : (records : List Record) (kept : Record) → contents_by (records ++ kept ∷ []) ≡ contents_by records ++ record_bytes kept ∷ []
contents-more records kept = map-append record_bytes records (kept ∷ [])

-- A decider that is up, and an input.
module _ (count me : ℕ) (old : DeciderState (CkptLog MemState)) (seat : Seat) (is : IsUpAs count me old seat) (input : Input) where
  abbrev pub answer : Answer
  answer = seat_answer count me seat input is.entries

  abbrev pub here : Here
  here = record { me = me; records = seat.records; entries = is.entries }

  pub same-answer : step (setup_of old.count old.log.limit) here input ≡ answer
  same-answer = λ i. step (setup_of (is.count_is i) (is.limit i)) here input

  module _ (appends : Appending) where
    -- The step was made.
    module _ (intact : Intact) (new : DeciderState (CkptLog MemState)) (made : QuorumStep) (me_is : new.me ≡ old.me) (count_is : new.count ≡ old.count)
        (ready : IsReady (ckpt_model mem_model) new) (has : HasMade (ckpt_model mem_model) old new here made answer) where
      abbrev Comes : Option Record → Type 0
      Comes appended =
          (rest : Option Arm) × (reached_by appended seat.arm ≡ waits rest) × HoldsUp (contents_by (seat.records ++ option_to_list appended)) is.standing rest new.log
          × (new.log.limit ≡ old.log.limit)

      logged : (appended : Option Record) → Logs (ckpt_model mem_model) old.log new.log appended → Comes appended
      logged None same = (
        seat.arm,
        refl,
        subst (λ (records : List Record). HoldsUp (contents_by records) is.standing seat.arm new.log) (sym (append-nil seat.records))
            (subst (λ (log : CkptLog MemState). HoldsUp (contents_by seat.records) is.standing seat.arm log) (sym same) is.holds),
        ap (λ (log : CkptLog MemState). log.limit) same,
      )
      logged (Some kept) logs = by (appends (contents_by seat.records) is.standing seat.arm old.log new.log (record_bytes kept) true is.holds logs.2) where
        waited : (r : Reached) → reached 4 seat.arm ≡ r → moored.AppendsBy (contents_by seat.records) is.standing (record_bytes kept) true new.log.disk r → Comes (Some kept)
        waited (waits rest) reaches comes = (
          rest,
          reaches,
          subst (λ (contents : Contents). HoldsUp contents is.standing rest new.log) (sym (contents-more seat.records kept))
              (intact (contents_by seat.records ++ record_bytes kept ∷ []) is.standing rest new.log ready.intact logs.0.is_up comes.1),
          logs.1.limit,
        )
        waited (fires arm) reaches comes = absurd (true≢false comes.0)

        by : moored.AppendsBy (contents_by seat.records) is.standing (record_bytes kept) true new.log.disk (reached 4 seat.arm)
            ⊎ ((true ≡ false) × Holds (contents_by seat.records) is.standing seat.arm None new.log.disk) → Comes (Some kept)
        by (inl comes) = waited (reached 4 seat.arm) refl comes
        by (inr failed) = absurd (true≢false failed.0)

      pub stepped-made : HasStepped count me (Up old) (Up new) seat seat.memory input (stepped.Made made)
      stepped-made =
          let comes = logged answer.appended has.log in
          subst (λ (memory : Option (List Entry)). HasStepped count me (Up old) (Up new) seat memory input (stepped.Made made)) (sym is.memory) (
            comes.0,
            comes.1,
            subst (λ (n : ℕ). Gives n made answer) is.me_is has.gives,
            record {
              me_is = me_is ∙ is.me_is;
              count_is = count_is ∙ is.count_is;
              entries = answer.entries;
              memory = refl;
              stands = has.stands;
              ready = ready;
              limit = comes.3 ∙ is.limit;
              standing = is.standing;
              holds = comes.2;
            },
          )

    -- The log failed.
    module _ (new : DeciderState (CkptLog MemState)) (breaks : steps.Breaks (ckpt_model mem_model) old new answer.appended) where
      -- what fires leaves the record exactly where it leaves its bytes
      down-kept : (late : Bool) (mode : Mode) (disk : MemState)
          → Holds (if late then opened_in mode (contents_by seat.records) (record_bytes breaks.entry) else contents_by seat.records) is.standing None None disk
          → IsDownAs disk (seat_after seat answer (broken (late && is_kept mode)) None)
      down-kept true Kept disk holds = record {
        memory = refl;
        range = subst (λ (o : Option Record). All IsInRange (seat.records ++ option_to_list o)) (sym breaks.was_to)
            (All-append IsInRange seat.records (breaks.entry ∷ []) is.stands.range (All-cons IsInRange breaks.entry [] breaks.range (All-nil IsInRange)));
        standing = is.standing;
        holds = subst (λ (contents : Contents). Holds contents is.standing None None disk)
            (sym (ap (λ (o : Option Record). contents_by (seat.records ++ option_to_list o)) breaks.was_to ∙ contents-more seat.records breaks.entry)) holds;
      }
      down-kept true Lost disk holds = record { memory = refl; range = is.stands.range; standing = is.standing; holds = holds }
      down-kept true Torn disk holds = record { memory = refl; range = is.stands.range; standing = is.standing; holds = holds }
      down-kept false mode disk holds = record { memory = refl; range = is.stands.range; standing = is.standing; holds = holds }

      fell : (made : Cell × Stepped) → Breaks new made → (r : Reached) → reached 4 seat.arm ≡ r
          → moored.AppendsBy (contents_by seat.records) is.standing (record_bytes breaks.entry) false new.log.disk r
          → HasStepped count me (Up old) made.0 seat (Some is.entries) input made.1
      fell made mends (waits rest) reaches comes = absurd (true≢false (sym comes.0))
      fell (Down disk, stepped.Broke stops) mends (fires arm) reaches comes =
          let mended = mends (contents_left (contents_by seat.records) (record_bytes breaks.entry) arm) is.standing None (Some arm.stop) comes.1 in
          let told : Some arm.stop ≡ Some stops = mended.0 in
          let same : arm.stop ≡ stops = cc in (
            arm,
            ap (λ (o : Option Record). reached_by o seat.arm) breaks.was_to ∙ reaches,
            same,
            down-kept (nat_lt 2 arm.left) arm.mode disk mended.1,
          )
      fell (Down disk, stepped.Down) mends (fires arm) reaches comes = absurd mends
      fell (Down disk, stepped.Made made) mends (fires arm) reaches comes = absurd mends
      fell (Up up, said) mends (fires arm) reaches comes = absurd mends
      fell (Vacant, said) mends (fires arm) reaches comes = absurd mends

      unfired : (made : Cell × Stepped) → Breaks new made → Holds (contents_by seat.records) is.standing seat.arm None new.log.disk → ⊥
      unfired (Down disk, stepped.Broke stops) mends holds =
          let none : None ≡ Some stops = (mends (contents_by seat.records) is.standing seat.arm None holds).0 in let wrong : ⊥ = cc in wrong
      unfired (Down disk, stepped.Down) mends holds = mends
      unfired (Down disk, stepped.Made made) mends holds = mends
      unfired (Up up, said) mends holds = mends
      unfired (Vacant, said) mends holds = mends

      fell-or : (made : Cell × Stepped) → Breaks new made → moored.AppendsBy (contents_by seat.records) is.standing (record_bytes breaks.entry) false new.log.disk (reached 4 seat.arm)
          ⊎ ((false ≡ false) × Holds (contents_by seat.records) is.standing seat.arm None new.log.disk) → HasStepped count me (Up old) made.0 seat (Some is.entries) input made.1
      fell-or made mends (inl comes) = fell made mends (reached 4 seat.arm) refl comes
      fell-or made mends (inr failed) = absurd (unfired made mends failed.1)

      stepped-broken : (made : Cell × Stepped) → Breaks new made → HasStepped count me (Up old) made.0 seat seat.memory input made.1
      stepped-broken made mends =
          subst (λ (memory : Option (List Entry)). HasStepped count me (Up old) made.0 seat memory input made.1) (sym is.memory)
          (fell-or made mends (appends (contents_by seat.records) is.standing seat.arm old.log new.log (record_bytes breaks.entry) false is.holds breaks.calls))

      pub stepped-fallen : {E : Type 0} (result : Result (Cell × Stepped) E) → IfOk result (Breaks new)
          → IfOk result (λ made. HasStepped count me (Up old) made.0 seat seat.memory input made.1)
      stepped-fallen (Ok made) mends = stepped-broken made mends
      stepped-fallen (Err e) mends = tt

-- Stopping one that is up.
pub stopped-down : (count me : ℕ) (up : DeciderState (CkptLog MemState)) (seat : Seat) → IsUpAs count me up seat → (disk : MemState) → disk ≡ up.log.disk
    → IsDownAs disk (record seat { memory = None })
stopped-down count me up seat is disk same = record {
  memory = refl;
  range = is.stands.range;
  standing = is.standing;
  holds = subst (λ (d : MemState). Holds (contents_by seat.records) is.standing seat.arm None d) (sym same) is.holds.disk;
}

-- Opening a decider.

each-spelled : (records : List Record) (i : ℕ) (content : List ℕ) → All IsInRange records → slice_get (contents_by records) i ≡ Some content
    → (entry : Record) × Spells entry content
each-spelled [] i content range there = absurd (let wrong : ⊥ = cc in wrong)
each-spelled (entry ∷ records) zero content range there =
    let told : Some (record_bytes entry) ≡ Some content = there in
    let same : record_bytes entry ≡ content = cc in
    (entry, record { range = All-head IsInRange entry records range; bytes_are = sym same })
each-spelled (entry ∷ records) (suc i) content range there = each-spelled records i content (All-tail IsInRange entry records range) there

module _ (count me : ℕ) (log : CkptLog MemState) (seat : Seat) (is : IsOpenLog log seat) where
  log-contents : contents_now mem_model log ≡ Some (contents_by seat.records)
  log-contents = holds-contents (contents_by seat.records) is.standing seat.arm None log is.holds.disk

  -- No content is another's.
  pub no-bad : (new : CkptLog MemState) (index : ℕ) → Opens (ckpt_model mem_model) log me count (Err (BadRecord new index)) → ⊥
  no-bad new index opens =
      let read = opens.2.1 in
      let bad = opens.2.2 in
      let same : opens.2.0 ≡ contents_by seat.records = read.held (contents_by seat.records) log-contents in
      let one = each-spelled seat.records index bad.content is.range (subst (λ (contents : Contents). slice_get contents index ≡ Some bad.content) same bad.there) in
      bad.none one.0 one.1

  -- It is known what the log holds.
  pub no-foreign : (new : CkptLog MemState) (place : ℕ) → Opens (ckpt_model mem_model) log me count (Err (NotOurs new place)) → ⊥
  no-foreign new place opens = true≢false (sym (ap is_some log-contents) ∙ opens.2)

  -- The decider is up, with its records.
  pub opens-up : (one : OneList) (reads : Reading) (up : DeciderState (CkptLog MemState)) → HasOpened (ckpt_model mem_model) log me count up → IsReady (ckpt_model mem_model) up
      → LogGoes mem_model log read_all true up.log → IsUpAs count me up (record seat { memory = Some [] })
  opens-up one reads up opened ready goes =
      let same : opened.contents ≡ contents_by seat.records = opened.read.held (contents_by seat.records) log-contents in
      let entries : opened.entries ≡ seat.records =
      one opened.entries seat.records opened.contents opened.spelled (record { range = is.range; bytes_are = same }) in
      record {
        me_is = opened.me_is;
        count_is = opened.count_is;
        entries = [];
        memory = refl;
        stands = subst (λ (records : List Record). StandsFor (ckpt_model mem_model) up (record { me = me; records = records; entries = [] })) entries opened.stands;
        ready = ready;
        limit = opened.log.limit ∙ is.limit;
        standing = is.standing;
        holds = (reads (contents_by seat.records) is.standing seat.arm log up.log true is.holds goes).1 refl;
      }

-- A start.
module _ (count me : ℕ) (disk : MemState) (seat : Seat) (is : IsDownAs disk seat) where
  pub opened-is : (log : CkptLog MemState) → (opened : opening.HasOpened (contents_by seat.records) is.standing seat.arm (opened_as.Up log))
      → IsOpenLog log (record seat { arm = opened.0 })
  opened-is log opened = record { range = is.range; intact = opened.2; limit = opened.4; standing = is.standing; holds = opened.3 }

  pub begun-up : (log : CkptLog MemState) → (opened : opening.HasOpened (contents_by seat.records) is.standing seat.arm (opened_as.Up log)) (up : DeciderState (CkptLog MemState))
      → IsUpAs count me up (record seat { arm = opened.0; memory = Some [] }) → HasBegun count me (Up up) seat start.Started
  begun-up log opened up now = (opened.0, opened.1, now)

  pub begun-broken : (left : MemState) (stops : Bool) → opening.HasOpened (contents_by seat.records) is.standing seat.arm (opened_as.Broke left stops)
      → HasBegun count me (Down left) seat (start.Broke stops)
  begun-broken left stops opened =
      (opened.0, opened.1, opened.2, record { memory = is.memory; range = is.range; standing = is.standing; holds = opened.3 })

-- the seat of a disk with an empty log
abbrev pub empty_seat : Seat
empty_seat = record { records = []; memory = None; arm = None }

pub empty-down : (standing : Standing) (disk : MemState) → Holds [] standing None None disk → IsDownAs disk empty_seat
empty-down standing disk holds = record { memory = refl; range = All-nil IsInRange; standing = standing; holds = holds }

-- It starts, since nothing is armed.
pub first-up : (count me : ℕ) (cell : Cell) (answer : Start) → HasBegun count me cell empty_seat answer → StandsForSeat count me cell first_seat
first-up count me cell start.Up begun = absurd begun
first-up count me cell start.Started begun =
    let told : waits None ≡ waits begun.0 = begun.1 in
    let none : None ≡ begun.0 = cc in
    subst (λ (rest : Option Arm). StandsForSeat count me cell (record { records = []; memory = Some []; arm = rest })) (sym none) begun.2
first-up count me cell (start.Broke stops) begun =
    let told : waits None ≡ fires begun.0 = begun.1 in absurd (let wrong : ⊥ = cc in wrong)

-- Arming and mending.

abbrev pub rearmed : MemState → Option Arm → MemState
rearmed disk armed = record disk { arms = record disk.arms { armed = armed; fired = None } }

holds-rearmed : (contents : Contents) (standing : Standing) (before armed : Option Arm) (fired : Option Bool) (disk : MemState) → Holds contents standing before fired disk
    → Holds contents standing armed None (rearmed disk armed)
holds-rearmed contents standing before armed fired disk holds =
    record { stands = holds.stands; settled = holds.settled; armed = refl; fired = refl; reads = holds.reads }

abbrev pub rearmed-log : CkptLog MemState → Option Arm → CkptLog MemState
rearmed-log log armed = record log { disk = rearmed log.disk armed }

module _ (count me : ℕ) (seat : Seat) (armed : Option Arm) where
  pub down-rearmed : (disk new : MemState) → IsDownAs disk seat → new ≡ rearmed disk armed → IsDownAs new (record seat { arm = armed })
  down-rearmed disk new is arms =
      subst (λ (now : MemState). IsDownAs now (record seat { arm = armed })) (sym arms)
      (record { memory = is.memory; range = is.range; standing = is.standing; holds = holds-rearmed (contents_by seat.records) is.standing seat.arm armed None disk is.holds })

  up-rearmed : (up : DeciderState (CkptLog MemState)) → IsUpAs count me up seat → IsUpAs count me (record up { log = rearmed-log up.log armed }) (record seat { arm = armed })
  up-rearmed up is = record {
    me_is = is.me_is;
    count_is = is.count_is;
    entries = is.entries;
    memory = is.memory;
    stands = record { up = is.stands.up; me = is.stands.me; range = is.stands.range; knows = is.stands.knows; size = is.stands.size; held = is.stands.held };
    ready = record {
      intact = record {
        starts = is.ready.intact.starts;
        bounded = is.ready.intact.bounded;
        limited = is.ready.intact.limited;
        root = is.ready.intact.root;
        behind_roots = is.ready.intact.behind_roots;
        in_range = is.ready.intact.in_range;
        packed = is.ready.intact.packed;
        short = is.ready.intact.short;
        at_rest = is.ready.intact.at_rest;
        durable = is.ready.intact.durable;
      };
      up = is.ready.up;
    };
    limit = is.limit;
    standing = is.standing;
    holds = record { up = is.holds.up; is = is.holds.is; disk = holds-rearmed (contents_by seat.records) is.standing seat.arm armed None up.log.disk is.holds.disk };
  }

  -- The disk was lent by the log, and the log by the decider.
  pub up-lent : (up : DeciderState (CkptLog MemState)) (log : CkptLog MemState) (before after : MemState) → log ≡ up.log → before ≡ log.disk → after ≡ rearmed before armed
      → IsUpAs count me up seat → IsUpAs count me (record up { log = record log { disk = after } }) (record seat { arm = armed })
  up-lent up log before after of_decider of_log arms is =
      let same : after ≡ rearmed up.log.disk armed =
      arms ∙ ap (λ (disk : MemState). rearmed disk armed) (of_log ∙ ap (λ (l : CkptLog MemState). l.disk) of_decider) in
      let lent : record log { disk = after } ≡ rearmed-log up.log armed = λ i. record (of_decider i) { disk = same i } in
      subst (λ (now : CkptLog MemState). IsUpAs count me (record up { log = now }) (record seat { arm = armed })) (sym lent) (up-rearmed up is)
