-- The calls of a log in two areas on a disk in memory, where a fault may be armed.
use Rattle.std.proofs.Common.{◌≡◌, ◌⊎◌, inl, inr, ℕ, ◌+◌, ◌-◌, ◌^◌, ◌≤◌, ◌<◌, Bool, true, false, List, [], ◌∷◌, ◌++◌, Option, Some, None, Ok, Err, length, drop, arith, refl, sym, ◌∙◌, ap, subst}
use Rattle.std.specs.Prelude.{MatchBool, nat_lt}
use Rattle.std.proofs.lemmas.Bool.{true≢false, MatchBool-at_false}
use Rattle.std.proofs.lemmas.List.{append-nil, drop_all}
use Rattle.pv_disk.specs.MemDisk.{ArmsState, MemGoes, MemState}
use Rattle.pv_disk.specs.MemImage.{settled_at}
use Rattle.pv_disk.specs.MemLaws.{mem_model}
use Rattle.pv_disk.specs.declared.arms.Arm.{Arm}
use Rattle.pv_disk_model.specs.Calls.{Makes, append, make_room, read_all, reserve, sync, write}
use Rattle.pv_disk_model.specs.Disk.{overlaid}
use Rattle.pv_disk_model.specs.Size.{Contents}
use Rattle.pv_format.specs.Checkpoint.{Standing, calls_of, done, first_standing, left_by as left_in, part_of, storing}
use Rattle.pv_law_calls.specs.Armed.{nearer}
use Rattle.pv_journal.specs.Journal.{append_calls}
use Rattle.pv_journal.specs.Opening.{SyncsAndReads}
use Rattle.pv_law_calls.proofs.ArmedLemmas.{IsAt, Settles, either-way, reads-same, settles}
use Rattle.pv_law_checkpoints.specs.Roots.{number_at}
use Rattle.pv_law_checkpoints.specs.Stages.{IsNext, Stands, free_place, standing_at}
use Rattle.pv_law_checkpoints.specs.TwoAreas.{IsTwoAreas, block_of, formatted}
use Rattle.pv_law_checkpoints.proofs.OneAnswer.{one_log, same_log}
use Rattle.pv_law_checkpoints.proofs.WorkedLemmas.{formatted_is}
use Rattle.pv_ckpt.specs.Armed.{AppendsArmed, ComesTo, Holds, HoldsUp, PacksArmed, SyncsArmed}
use Rattle.pv_ckpt.specs.Checkpointing.{CheckpointMakes, checkpoint_calls, switch_calls}
use Rattle.pv_ckpt.specs.CkptLog.{IsIntact, IsLogOf, LogGoes}
use Rattle.pv_ckpt.specs.Opening.{Formats, Opens}
use Rattle.pv_ckpt.specs.Roots.{IsHeld}
use Rattle.pv_ckpt.specs.declared.ckpt_log.CkptLog.{CkptLog}
use Rattle.pv_ckpt.specs.declared.open_ckpt.OpenCkpt.TheVariants.{Failed, NotOurs}
use Rattle.pv_ckpt.specs.declared.roots.Root.{Root}
use Rattle.pv_ckpt.proofs.ArmedAppends.{append-comes}
use Rattle.pv_ckpt.proofs.ArmedPairs.{holds-at, pair}
use Rattle.pv_ckpt.proofs.ArmedParts.{parts-come}

-- What holds the log, at rest between two calls.
at-rest : (contents : Contents) (standing : Standing) (armed : Option Arm) (disk : MemState) → Holds contents standing armed None disk
    → IsAt disk.image.content (settled_at disk.image.content) armed None disk
at-rest contents standing armed disk holds = record { content_is = refl; now_is = holds.settled; armed_is = holds.armed; fired_is = holds.fired; reads_is = holds.reads }

-- What the log is, by its own root, is what stands on its disk.
module _ (contents : Contents) (standing : Standing) (bytes : List ℕ) (stands : Stands contents standing bytes) (log : CkptLog MemState) (is : IsLogOf bytes log) where
  same-parts : (log.root.at ≡ stands.at) × (is.0 ≡ stands.packed) × (is.1 ≡ stands.later)
  same-parts = same_log log.root.at stands.at is.0 is.1 stands.packed stands.later bytes is.2.log stands.log

  same-contents : is.0 ++ is.1 ≡ contents
  same-contents = (λ i. same-parts.1 i ++ same-parts.2 i) ∙ sym stands.contents_are

  same-standing : standing_at bytes log.root.at ≡ standing
  same-standing = ap (λ a. standing_at bytes a) same-parts.0 ∙ stands.stands

-- A log of which these are the bytes, the root, the end and the length.
log-of : (old new : CkptLog MemState) (bytes now : List ℕ) → now ≡ bytes → new.root ≡ old.root → new.end ≡ old.end → new.length ≡ old.length → IsLogOf bytes old → IsLogOf now new
log-of old new bytes now same root end long is =
    subst (λ (l : List ℕ). IsLogOf l new) (sym same) (
      is.0,
      is.1,
      subst (λ n. IsHeld bytes new.root n is.0 is.1) (sym end) (subst (λ (r : Root). IsHeld bytes r old.end is.0 is.1) (sym root) is.2),
      long ∙ is.3,
    )

-- A sync of what is synced.
sync-settled : (contents : Contents) (standing : Standing) (armed : Option Arm) (old new : MemState) (ok : Bool) → Holds contents standing armed None old → MemGoes old sync ok new
    → SyncsArmed contents standing armed ok new
sync-settled contents standing armed old new ok holds goes = by armed (settles old.image.content old new ok goes armed (at-rest contents standing armed old holds))
  where
    whole : (after : Option Arm) (fired : Option Bool) → IsAt old.image.content (settled_at old.image.content) after fired new → Holds contents standing after fired new
    whole after fired = holds-at contents standing old.image.content after fired new holds.stands

    by : (a : Option Arm) → Settles a old.image.content ok new → SyncsArmed contents standing a ok new
    by None made = (made.0, whole None None made.1)
    by (Some arm) made =
        either-way (nat_lt 1 arm.left) _ _ _ _ (λ it. (it.0, whole (Some (nearer 1 arm)) None it.1)) (λ it. (it.0, whole None (Some arm.stop) it.1)) made

module _ (contents : Contents) (standing : Standing) (armed : Option Arm) where
  pub intact-holds : (log : CkptLog MemState) → IsIntact mem_model log → log.down ≡ false → Holds contents standing armed None log.disk → HoldsUp contents standing armed log
  intact-holds log intact up holds = record { up = up; is = intact.at_rest up log.disk.image.content refl; disk = holds }

  -- The number in force is known.
  pub number-held : (log : CkptLog MemState) → HoldsUp contents standing armed log → log.root.number ≡ standing.number
  number-held log up =
      up.is.2.root_is.number ∙ ap (λ (s : Standing). s.number) (same-standing contents standing log.disk.image.content up.disk.stands log up.is)

  -- What was read is there still.
  pub reads-held : (old new : CkptLog MemState) (ok : Bool) → HoldsUp contents standing armed old → LogGoes mem_model old read_all ok new
      → Holds contents standing armed None new.disk × (ok ≡ true → HoldsUp contents standing armed new)
  reads-held old new ok up (long, reads) =
      let same : new.disk ≡ old.disk = reads-same old.disk new.disk reads up.disk.reads in
      let holds = subst (Holds contents standing armed None) (sym same) up.disk in (
        holds,
        λ fine. record {
          up = long.down fine ∙ up.up;
          is = log-of old new old.disk.image.content new.disk.image.content (ap (λ (d : MemState). d.image.content) same) long.root long.end long.length up.is;
          disk = holds;
        },
      )

  room-content : (old new : MemState) (bytes writes : ℕ) (ok : Bool) → MemGoes old (make_room bytes writes) ok new → new.image.content ≡ old.image.content
  room-content old new bytes writes ok now = now.content_is

  room-held : (old new : MemState) (bytes writes : ℕ) (ok : Bool) → Holds contents standing armed None old → MemGoes old (make_room bytes writes) ok new → Holds contents standing armed None new
  room-held old new bytes writes ok holds now = record {
    stands = subst (Stands contents standing) (sym now.content_is) holds.stands;
    settled = now.now_is ∙ holds.settled ∙ ap settled_at (sym now.content_is);
    armed = ap (λ (a : ArmsState). a.armed) now.arms_are ∙ holds.armed;
    fired = ap (λ (a : ArmsState). a.fired) now.arms_are ∙ holds.fired;
    reads = ap (λ (a : ArmsState). a.fail_read) now.arms_are ∙ holds.reads;
  }

  abbrev Roomy : MemState → MemState → Type 0
  Roomy old new = Holds contents standing armed None new × (new.image.content ≡ old.image.content)

  rooms-held : (old new : MemState) (bytes writes : ℕ) (ok : Bool) → Holds contents standing armed None old → Makes MemGoes old (make_room bytes writes ∷ []) ok new → Roomy old new
  rooms-held old new bytes writes ok holds (inl (broke, goes)) = (room-held old new bytes writes false holds goes, room-content old new bytes writes false goes)
  rooms-held old new bytes writes ok holds (inr (mid, goes, (fine, same))) =
      subst (Roomy old) (sym same) (room-held old mid bytes writes true holds goes, room-content old mid bytes writes true goes)

  reserves-held : (old new : CkptLog MemState) (count : ℕ) (ok : Bool) → Holds contents standing armed None old.disk → LogGoes mem_model old (reserve count) ok new → Roomy old.disk new.disk
  reserves-held old new count ok holds (long, inl same) = subst (Roomy old.disk) (sym same) (holds, refl)
  reserves-held old new count ok holds (long, inr made) = rooms-held old.disk new.disk (6 + count) 2 ok holds made

  append-called : (old new : CkptLog MemState) (content : List ℕ) (ok : Bool) → HoldsUp contents standing armed old → LogGoes mem_model old (append content) ok new
      → AppendsArmed contents standing content armed ok new.disk
  append-called old new content ok up goes =
      let made = MatchBool-at_false _ _ up.up goes in
      let bytes = old.disk.image.content in
      let is = up.is in
      subst (λ (c : Contents). AppendsArmed c standing content armed ok new.disk) (same-contents contents standing bytes up.disk.stands old is)
      (subst (λ (s : Standing). AppendsArmed (is.0 ++ is.1) s content armed ok new.disk) (same-standing contents standing bytes up.disk.stands old is)
      (append-comes old.root.at is.0 is.1 bytes is.2.log content made.0 armed ok new.disk old.disk (at-rest contents standing armed old.disk up.disk)
      (subst (λ n. Makes MemGoes old.disk (append_calls n content) ok new.disk) is.2.end_is made.1)))

  -- An append with its room.
  pub appends-armed : (old new : CkptLog MemState) (content : List ℕ) (ok : Bool) → HoldsUp contents standing armed old
      → Makes (LogGoes mem_model) old (reserve (length content) ∷ append content ∷ []) ok new
      → AppendsArmed contents standing content armed ok new.disk ⊎ ((ok ≡ false) × Holds contents standing armed None new.disk)
  appends-armed old new content ok up (inl (broke, goes)) = inr (broke, (reserves-held old new (length content) false up.disk goes).0)
  appends-armed old new content ok up (inr (mid, goes, rest)) =
      let roomy = reserves-held old mid (length content) true up.disk goes in
      let long = goes.0 in
      let ready : HoldsUp contents standing armed mid =
      record {
        up = long.down refl ∙ up.up;
        is = log-of old mid old.disk.image.content mid.disk.image.content roomy.1 long.root long.end long.length up.is;
        disk = roomy.0;
      } in
      inl (by ready rest)
    where
      by : HoldsUp contents standing armed mid → Makes (LogGoes mem_model) mid (append content ∷ []) ok new → AppendsArmed contents standing content armed ok new.disk
      by ready (inl (broke, failed)) = subst (λ b. AppendsArmed contents standing content armed b new.disk) (sym broke) (append-called mid new content false ready failed)
      by ready (inr (last, went, (fine, same))) =
          subst (λ b. AppendsArmed contents standing content armed b new.disk) (sym fine)
          (subst (λ (l : CkptLog MemState). AppendsArmed contents standing content armed true l.disk) (sym same) (append-called mid last content true ready went))

  -- A checkpoint.
  module _ (old : CkptLog MemState) (intact : IsIntact mem_model old) (up : HoldsUp contents standing armed old) (fits : old.length ≤ old.limit) (few : old.root.number < 2 ^ 64 - 1) where
    abbrev bytes : List ℕ
    bytes = old.disk.image.content

    abbrev held : Contents
    held = up.is.0 ++ up.is.1

    abbrev place : ℕ
    place = free_place (length (block_of held)) old.root.place old.end

    next : IsNext storing old.root.at place up.is.0 up.is.1 held bytes
    next = record {
      log = up.is.2.log;
      reach = omega (arith, up.is.3, fits, intact.limited);
      within = omega (arith, up.is.3, fits, intact.limited);
      numbered = omega (arith, up.is.2.root_is.number, few);
      place_is = λ i. free_place (length (block_of held)) (up.is.2.root_is.place i) (up.is.2.end_is i);
      made = tt;
    }

    calls-come : (disk new : MemState) (ok : Bool) → IsAt bytes (settled_at bytes) armed None disk → Makes MemGoes disk (checkpoint_calls old.root place (block_of held)) ok new
        → PacksArmed contents standing armed ok new
    calls-come disk new ok is makes =
        let stands = up.disk.stands in
        let root = up.is.2.root_is in
        let named : Makes MemGoes disk (checkpoint_calls (record old.root { number = number_at bytes old.root.at }) place (block_of held)) ok new =
        subst (λ n. Makes MemGoes disk (checkpoint_calls (record old.root { number = n }) place (block_of held)) ok new) root.number makes in
        let come : PacksArmed held (standing_at bytes old.root.at) armed ok new =
        subst (λ b. ComesTo (calls_of b) armed (held, done (standing_at bytes old.root.at))
        (λ arm. (held, left_in (part_of b arm.left) arm.mode (standing_at bytes old.root.at))) ok new) root.other
        (parts-come old.root.at place up.is.0 up.is.1 bytes next armed disk new ok is old.root.other_open (sym root.other) named) in
        subst (λ (c : Contents). PacksArmed c standing armed ok new) (same-contents contents standing bytes stands old up.is)
        (subst (λ (s : Standing). PacksArmed held s armed ok new) (same-standing contents standing bytes stands old up.is) come)

    -- With its room.
    switch-comes : (read new : MemState) (ok : Bool) → read ≡ old.disk → Makes MemGoes read (switch_calls old.root old.end (block_of held)) ok new
        → PacksArmed contents standing armed ok new ⊎ ((ok ≡ false) × Holds contents standing armed None new)
    switch-comes read new ok same (inl (broke, goes)) =
        inr (broke, room-held read new (length (block_of held) + 27) 4 false (subst (Holds contents standing armed None) (sym same) up.disk) goes)
    switch-comes read new ok same (inr (mid, goes, makes)) =
        let holds = room-held read mid (length (block_of held) + 27) 4 true (subst (Holds contents standing armed None) (sym same) up.disk) goes in
        let content : mid.image.content ≡ bytes = goes.content_is ∙ ap (λ (d : MemState). d.image.content) same in
        inl (calls-come mid new ok (subst (λ (l : List ℕ). IsAt l (settled_at l) armed None mid) content (at-rest contents standing armed mid holds)) makes)

    pub packs-armed : (new : CkptLog MemState) (ok : Bool) → CheckpointMakes mem_model old new ok
        → PacksArmed contents standing armed ok new.disk ⊎ ((ok ≡ false) × Holds contents standing armed None new.disk)
    packs-armed new ok makes =
        let same : makes.read ≡ old.disk = reads-same old.disk makes.read makes.reads up.disk.reads in
        elim makes.calls [
          | inl (broke, unchanged) ↦ inr (broke, subst (Holds contents standing armed None) (sym (unchanged ∙ same)) up.disk)
          | inr (block, block_is, called, size) ↦
              let whole : block ≡ block_of held =
              block_is contents standing bytes refl up.disk.stands ∙ ap block_of (sym (same-contents contents standing bytes up.disk.stands old up.is)) in
              switch-comes makes.read new.disk ok same (subst (λ (b : List ℕ). Makes MemGoes makes.read (switch_calls old.root old.end b) ok new.disk) whole called)
        ]

  -- An opening.
  synced-and-read : (old new : MemState) → Holds contents standing armed None old → SyncsAndReads mem_model old new → SyncsArmed contents standing armed true new
  synced-and-read old new holds (mid, goes, reads) =
      let made : SyncsArmed contents standing armed true mid = sync-settled contents standing armed old mid true holds goes in
      subst (SyncsArmed contents standing armed true) (sym (reads-same mid new reads (unread armed made))) made
    where
      unread-by : (arm : Arm) (b : Bool)
          → MatchBool b ((true ≡ true) × Holds contents standing (Some (nearer 1 arm)) None mid) ((true ≡ false) × Holds contents standing None (Some arm.stop) mid) → mid.arms.fail_read ≡ None
      unread-by arm true made = made.1.reads
      unread-by arm false made = made.1.reads

      unread : (a : Option Arm) → SyncsArmed contents standing a true mid → mid.arms.fail_read ≡ None
      unread None made = made.1.reads
      unread (Some arm) made = unread-by arm (nat_lt 1 arm.left) made

  -- By its answer.
  pub opens-armed : (old : MemState) (limit : ℕ) (log : CkptLog MemState) → Holds contents standing armed None old → Opens mem_model old limit (Ok log)
      → SyncsArmed contents standing armed true log.disk
  opens-armed old limit log holds opened = synced-and-read old log.disk holds opened.1

  pub opening-fails : (old : MemState) (limit : ℕ) (disk : MemState) → Holds contents standing armed None old → Opens mem_model old limit (Err (Failed disk))
      → SyncsArmed contents standing armed false disk ⊎ SyncsArmed contents standing armed true disk
  opening-fails old limit disk holds (opened, inl goes, rose) = inl (sync-settled contents standing armed old disk false holds goes)
  opening-fails old limit disk holds (opened, inr calls, rose) = inr (synced-and-read old disk holds calls)

  pub opens-a-log : (old : MemState) (limit : ℕ) (disk : MemState) (place : ℕ) → Holds contents standing armed None old → Opens mem_model old limit (Err (NotOurs disk place)) → ⊥
  opens-a-log old limit disk place holds refused =
      let stands = holds.stands in
      let there : IsTwoAreas contents old.image.content =
      record { at = stands.at; packed = stands.packed; later = stands.later; log = stands.log; is = stands.contents_are } in
      (one_log old.image.content).not_both contents place there (refused.3 old.image.content refl)

-- The calls that make an empty log, where nothing is armed.
pub formats-unarmed : (old new : MemState) → old.image.content ≡ [] → old.image.now ≡ settled_at [] → old.arms.armed ≡ None → old.arms.fired ≡ None → old.arms.fail_read ≡ None
    → (x : Unit {0}) → Formats mem_model {X = Unit {0}} old new (Ok x) → Holds [] first_standing None None new
formats-unarmed old new empty settled unarmed unfired unread x formats = by formats.0.calls
  where
    roomy : (mid : MemState) → MemGoes old (make_room 59 1) true mid → IsAt [] (settled_at []) None None mid
    roomy mid now = record {
      content_is = now.content_is ∙ empty;
      now_is = now.now_is ∙ settled;
      armed_is = ap (λ (a : ArmsState). a.armed) now.arms_are ∙ unarmed;
      fired_is = ap (λ (a : ArmsState). a.fired) now.arms_are ∙ unfired;
      reads_is = ap (λ (a : ArmsState). a.fail_read) now.arms_are ∙ unread;
    }

    formatted-stands : Stands [] first_standing (overlaid [] 0 formatted)
    formatted-stands =
        let none : drop {A = ℕ} (0 + length formatted) [] ≡ [] = drop_all (0 + length formatted) [] (omega arith) in
        let last : overlaid [] 0 formatted ≡ formatted = ap (λ (l : List ℕ). formatted ++ l) none ∙ append-nil formatted in
        subst (Stands [] first_standing) (sym last)
        (record { at = 8; packed = []; later = []; log = formatted_is.0; contents_are = refl; stands = formatted_is.1 })

    by : Makes MemGoes old (make_room 59 1 ∷ write 0 formatted ∷ sync ∷ []) true new → Holds [] first_standing None None new
    by (inl (broke, failed)) = absurd (true≢false broke)
    by (inr (mid, goes, rest)) =
        elim (pair 0 formatted [] [] mid new true 0 None (roomy mid goes) rest) [
          | inl fires ↦ absurd fires
          | inr (waited, (last, is_last, (fine, same))) ↦
              holds-at [] first_standing (overlaid [] 0 formatted) None None new formatted-stands
              (subst (IsAt (overlaid [] 0 formatted) (settled_at (overlaid [] 0 formatted)) None None) (sym same) is_last)
        ]
