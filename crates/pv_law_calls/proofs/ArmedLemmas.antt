-- Calls of a disk in memory, one after another, where a fault may be armed.
use Rattle.std.proofs.Common.{◌≡◌, inl, inr, ℕ, ◌-◌, Bool, true, false, List, ◌∷◌, Option, Some, None, length, refl, sym, ◌∙◌, ap, subst, arith}
use Rattle.std.specs.Prelude.{if◌then◌else◌, MatchBool, nat_le, nat_lt}
use Rattle.std.proofs.lemmas.Bool.{true≢false}
use Rattle.std.proofs.lemmas.Bool.Decides.{nat_tests}
use Rattle.pv_base.specs.Fault.{risen}
use Rattle.pv_base.specs.declared.mode.Mode.{Mode}
use Rattle.pv_base.specs.declared.mode.Mode.TheVariants.{Lost, Kept, Torn}
use Rattle.pv_disk_model.specs.Calls.{DiskCall, IsRead, Makes, OnlyReads, none, one_more, len, read, make_room, write, sync}
use Rattle.pv_disk_model.specs.Disk.{overlaid}
use Rattle.pv_disk.specs.MemDisk.{ArmsState, MemState, MemGoes, Changes, armed_after, counted, fail_read_after, fired_after, firing, read_fails}
use Rattle.pv_disk.specs.MemImage.{Moment, left_by, settled_at, written_at}
use Rattle.pv_disk.specs.declared.arms.Arm.{Arm}
use Rattle.pv_law_calls.specs.Armed.{nearer}

-- Where a disk is between two calls.
pub record IsAt (content : List ℕ) (now : Moment) (armed : Option Arm) (fired : Option Bool) (disk : MemState) : Type 0 where
  pub content_is : disk.image.content ≡ content
  pub now_is : disk.image.now ≡ now
  pub armed_is : disk.arms.armed ≡ armed
  pub fired_is : disk.arms.fired ≡ fired
  pub reads_is : disk.arms.fail_read ≡ None

-- What fires leaves this, synced.
abbrev pub Fell : Arm → List ℕ → Bool → MemState → Type 0
Fell arm content ok new = (ok ≡ false) × IsAt content (settled_at content) None (Some arm.stop) new

-- A write or a sync that would make this content, and this the moment, by what is armed.
abbrev pub Called : Option Arm → List ℕ → Moment → Moment → Bool → MemState → Type 0
Called None content before after ok new = (ok ≡ true) × IsAt content after None None new
Called (Some arm) content before after ok new =
    MatchBool (nat_le arm.left 1) (Fell arm (left_by arm.mode before content) ok new) ((ok ≡ true) × IsAt content after (Some (nearer 1 arm)) None new)

module _ (old : MemState) (content : List ℕ) (before after : Moment) (ok : Bool) (new : MemState) where
  arms-are : (mode : Option Mode) → Changes old mode content before after ok new → new.arms ≡ counted old.arms
  arms-are None changes = changes.1.arms_are
  arms-are (Some mode) changes = changes.1.arms_are

  by-arm : (arm : Arm) (fires : Bool) → new.arms.armed ≡ (if fires then None else Some (nearer 1 arm)) → new.arms.fired ≡ (if fires then Some arm.stop else None)
      → new.arms.fail_read ≡ None → Changes old (if fires then Some arm.mode else None) content before after ok new
      → MatchBool fires (Fell arm (left_by arm.mode before content) ok new) ((ok ≡ true) × IsAt content after (Some (nearer 1 arm)) None new)
  by-arm arm true armed fired reads changes =
      (changes.0, record { content_is = changes.1.content_is; now_is = changes.1.now_is; armed_is = armed; fired_is = fired; reads_is = reads })
  by-arm arm false armed fired reads changes =
      (changes.0, record { content_is = changes.1.content_is; now_is = changes.1.now_is; armed_is = armed; fired_is = fired; reads_is = reads })

  by-armed : (armed : Option Arm) → new.arms.armed ≡ armed_after armed → new.arms.fired ≡ fired_after armed None → new.arms.fail_read ≡ None
      → Changes old (firing armed) content before after ok new → Called armed content before after ok new
  by-armed None armed fired reads changes =
      (changes.0, record { content_is = changes.1.content_is; now_is = changes.1.now_is; armed_is = armed; fired_is = fired; reads_is = reads })
  by-armed (Some arm) armed fired reads changes = by-arm arm (nat_le arm.left 1) armed fired reads changes

  called : (armed : Option Arm) → old.arms.armed ≡ armed → old.arms.fired ≡ None → old.arms.fail_read ≡ None
      → Changes old (firing old.arms.armed) content before after ok new → Called armed content before after ok new
  called armed at unfired reads changes =
      let arms = arms-are (firing old.arms.armed) changes in
      by-armed armed (ap (λ (a : ArmsState). a.armed) arms ∙ ap armed_after at) (ap (λ (a : ArmsState). a.fired) arms ∙ (λ i. fired_after (at i) (unfired i)))
      (ap (λ (a : ArmsState). a.fail_read) arms ∙ reads) (subst (λ (a : Option Arm). Changes old (firing a) content before after ok new) at changes)

-- A write, and a sync, of a disk that is there.
module _ (bytes : List ℕ) (now : Moment) (armed : Option Arm) (old : MemState) (is : IsAt bytes now armed None old) (ok : Bool) (new : MemState) where
  pub wrote : (place : ℕ) (more : List ℕ) → MemGoes old (write place more) ok new
      → Called armed (overlaid bytes place more) (written_at now place (length more)) (written_at now place (length more)) ok new
  wrote place more goes =
      subst (λ (m : Moment). Called armed (overlaid bytes place more) (written_at m place (length more)) (written_at m place (length more)) ok new) is.now_is
      (subst (λ (l : List ℕ). Called armed (overlaid l place more) (written_at old.image.now place (length more)) (written_at old.image.now place (length more)) ok new) is.content_is
      (called old (overlaid old.image.content place more) (written_at old.image.now place (length more)) (written_at old.image.now place (length more)) ok new armed is.armed_is
      is.fired_is is.reads_is goes))

  pub synced : MemGoes old sync ok new → Called armed bytes now (settled_at bytes) ok new
  synced goes =
      subst (λ (m : Moment). Called armed bytes m (settled_at bytes) ok new) is.now_is
      (subst (λ (l : List ℕ). Called armed l old.image.now (settled_at l) ok new) is.content_is
      (called old old.image.content old.image.now (settled_at old.image.content) ok new armed is.armed_is is.fired_is is.reads_is goes))

-- A call, and those after it where it doesn't fire.
module _ (old : MemState) (call : DiskCall) (calls : List DiskCall) (ok : Bool) (new : MemState) (content : List ℕ) (before after : Moment) where
  pub then-none : (Q : Type 0) → ((went : Bool) (mid : MemState) → MemGoes old call went mid → Called None content before after went mid)
      → ((mid : MemState) → IsAt content after None None mid → Makes MemGoes mid calls ok new → Q) → Makes MemGoes old (call ∷ calls) ok new → Q
  then-none Q goes later (inl (broke, failed)) = absurd (true≢false (sym (goes false new failed).0))
  then-none Q goes later (inr (mid, went, rest)) = later mid (goes true mid went).1 rest

  pub then-arm : (arm : Arm) (fires : Bool) (Q : Type 0)
      → ((went : Bool) (mid : MemState) → MemGoes old call went mid
      → MatchBool fires (Fell arm (left_by arm.mode before content) went mid) ((went ≡ true) × IsAt content after (Some (nearer 1 arm)) None mid))
      → ((mid : MemState) → IsAt content after (Some (nearer 1 arm)) None mid → Makes MemGoes mid calls ok new → Q) → Makes MemGoes old (call ∷ calls) ok new
      → MatchBool fires (Fell arm (left_by arm.mode before content) ok new) Q
  then-arm arm true Q goes later (inl (broke, failed)) = (broke, (goes false new failed).1)
  then-arm arm true Q goes later (inr (mid, went, rest)) = absurd (true≢false (goes true mid went).0)
  then-arm arm false Q goes later (inl (broke, failed)) = absurd (true≢false (sym (goes false new failed).0))
  then-arm arm false Q goes later (inr (mid, went, rest)) = later mid (goes true mid went).1 rest

-- What only reads, where no read is to fail, leaves all as it was.
read-same : (old : MemState) (call : DiskCall) (ok : Bool) (new : MemState) → IsRead call → MemGoes old call ok new → old.arms.fail_read ≡ None → new ≡ old
read-same old len ok new is_read goes unread = goes.1
read-same old (read place count) ok new is_read goes unread =
    goes.1
    ∙ (λ i. record old { arms = record old.arms { fail_read = fail_read_after (unread i) }; faults = if read_fails (unread i) then risen old.faults else old.faults })
    ∙ (λ i. record old { arms = record old.arms { fail_read = sym unread i } })
read-same old (make_room bytes writes) ok new is_read goes unread = absurd is_read
read-same old (write place bytes) ok new is_read goes unread = absurd is_read
read-same old sync ok new is_read goes unread = absurd is_read

pub reads-same : (old new : MemState) → OnlyReads MemGoes old new → old.arms.fail_read ≡ None → new ≡ old
reads-same old new none unread = refl
reads-same old new (one_more mid call ok _ before is_read goes) unread =
    let same : mid ≡ old = reads-same old mid before unread in
    read-same mid call ok new is_read goes (ap (λ (disk : MemState). disk.arms.fail_read) same ∙ unread) ∙ same

-- What a sync of a disk comes to that is synced already.
abbrev pub Settles : Option Arm → List ℕ → Bool → MemState → Type 0
Settles None bytes ok new = (ok ≡ true) × IsAt bytes (settled_at bytes) None None new
Settles (Some arm) bytes ok new =
    MatchBool (nat_lt 1 arm.left) ((ok ≡ true) × IsAt bytes (settled_at bytes) (Some (nearer 1 arm)) None new)
    ((ok ≡ false) × IsAt bytes (settled_at bytes) None (Some arm.stop) new)

module _ (bytes : List ℕ) (old new : MemState) (ok : Bool) (goes : MemGoes old sync ok new) where
  left-settled : (mode : Mode) → left_by mode (settled_at bytes) bytes ≡ bytes
  left-settled Lost = refl
  left-settled Kept = refl
  left-settled Torn = refl

  by-left : (arm : Arm) (first late : Bool) → (first ≡ true → late ≡ false) → (first ≡ false → late ≡ true)
      → MatchBool first (Fell arm (left_by arm.mode (settled_at bytes) bytes) ok new) ((ok ≡ true) × IsAt bytes (settled_at bytes) (Some (nearer 1 arm)) None new)
      → MatchBool late ((ok ≡ true) × IsAt bytes (settled_at bytes) (Some (nearer 1 arm)) None new) ((ok ≡ false) × IsAt bytes (settled_at bytes) None (Some arm.stop) new)
  by-left arm true true early later called = absurd (true≢false (early refl))
  by-left arm true false early later (broke, at) = (broke, subst (λ (l : List ℕ). IsAt l (settled_at l) None (Some arm.stop) new) (left-settled arm.mode) at)
  by-left arm false true early later called = called
  by-left arm false false early later called = absurd (true≢false (sym (later refl)))

  pub settles : (armed : Option Arm) → IsAt bytes (settled_at bytes) armed None old → Settles armed bytes ok new
  settles None is = synced bytes (settled_at bytes) None old is ok new goes
  settles (Some arm) is =
      by-left arm (nat_le arm.left 1) (nat_lt 1 arm.left) (λ fine. grind (arith, nat_tests, fine)) (λ broke. grind (arith, nat_tests, broke))
      (synced bytes (settled_at bytes) (Some arm) old is ok new goes)

-- One of two, by what follows from each.
pub either-way : (b : Bool) (F G P Q : Type 0) → (F → P) → (G → Q) → MatchBool b F G → MatchBool b P Q
either-way true F G P Q first second it = first it
either-way false F G P Q first second it = second it
