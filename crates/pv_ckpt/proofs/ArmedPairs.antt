-- Writes with a sync after each, on a disk in memory where a fault may be armed.
use Rattle.std.proofs.Common.{◌≡◌, ◌⊎◌, inl, inr, ℕ, ◌+◌, ◌-◌, ◌≤◌, ◌<◌, Bool, true, false, List, [], ◌∷◌, Option, Some, None, length, replicate, get_or, arith, sym, ◌∙◌, ap, subst}
use Rattle.std.specs.Prelude.{MatchBool, nat_le, nat_lt}
use Rattle.std.proofs.lemmas.Bool.{cases_lt, true≢false, MatchBool-at_true, MatchBool-at_false}
use Rattle.std.proofs.lemmas.Bool.Decides.{nat_tests}
use Rattle.std.proofs.lemmas.List.{length-replicate}
use Rattle.pv_base.specs.declared.mode.Mode.{Mode}
use Rattle.pv_base.specs.declared.mode.Mode.TheVariants.{Lost, Kept, Torn as TornAll}
use Rattle.pv_disk.specs.MemDisk.{MemGoes, MemState}
use Rattle.pv_disk.specs.MemImage.{Moment, left_by, settled_at, written_at}
use Rattle.pv_disk.specs.declared.arms.Arm.{Arm}
use Rattle.pv_disk_model.specs.Calls.{DiskCall, Makes, sync, write}
use Rattle.pv_disk_model.specs.Disk.{Torn, overlaid}
use Rattle.pv_disk_model.specs.Size.{Contents}
use Rattle.pv_disk_model.proofs.OverlayLemmas.{Torn-overlaid, Torn-refl, Torn-trans, get_or-overlaid_in}
use Rattle.pv_format.specs.Checkpoint.{Standing}
use Rattle.pv_law_calls.specs.Armed.{nearer}
use Rattle.pv_law_calls.proofs.ArmedLemmas.{Fell, IsAt, synced, then-arm, then-none, wrote}
use Rattle.pv_law_checkpoints.specs.Stages.{Stands}
use Rattle.pv_ckpt.specs.Armed.{ComesTo, Holds}

-- What is armed after so many calls in which nothing fired.
abbrev pub after_calls : ℕ → Option Arm → Option Arm
after_calls count None = None
after_calls count (Some arm) = Some (nearer count arm)

-- What is armed didn't fire in so many calls. It fires in the first one too where it is armed for none.
abbrev pub Waits : ℕ → Option Arm → Type 0
Waits count None = Unit {0}
Waits count (Some arm) = count < arm.left + (1 - count)

-- What is armed fires in the two calls after so many.
abbrev pub FiresIn : ℕ → Option Arm → (before : Moment) → (made : List ℕ) → Bool → MemState → Type 0
FiresIn count None before made ok new = ⊥
FiresIn count (Some arm) before made ok new = (arm.left ≤ count + 2) × Fell arm (left_by arm.mode before made) ok new

pub waits-first : (armed : Option Arm) → Waits 0 armed
waits-first None = tt
waits-first (Some arm) = omega arith

pub from-none : (bytes : List ℕ) (now : Moment) (disk : MemState) (armed : Option Arm) → IsAt bytes now armed None disk → IsAt bytes now (after_calls 0 armed) None disk
from-none bytes now disk None is = is
from-none bytes now disk (Some arm) is =
    let all : arm.left ≡ arm.left - 0 = omega arith in
    subst (λ n. IsAt bytes now (Some (record arm { left = n })) None disk) all is

by-first : (n : ℕ) (F G : Type 0) → MatchBool (nat_le n 1) F G → ((n ≤ 1) × F) ⊎ ((1 < n) × G)
by-first n F G made = elim (cases_lt n 2) [
  | inl few ↦ let fires : nat_le n 1 ≡ true = grind (arith, nat_tests, few) in inl (omega (arith, few), MatchBool-at_true F G fires made)
  | inr many ↦ let waits : nat_le n 1 ≡ false = grind (arith, nat_tests, many) in inr (omega (arith, many), MatchBool-at_false F G waits made)
]

-- A write and a sync.
module _ (place : ℕ) (more bytes : List ℕ) (rest : List DiskCall) (old new : MemState) (ok : Bool) where
  abbrev pub made : List ℕ
  made = overlaid bytes place more

  abbrev pub writing : Moment
  writing = written_at (settled_at bytes) place (length more)

  -- The bytes are there, synced, and the other calls follow.
  abbrev pub GoesOn : Option Arm → Type 0
  GoesOn armed = (mid : MemState) × IsAt made (settled_at made) armed None mid × Makes MemGoes mid rest ok new

  unarmed : IsAt bytes (settled_at bytes) None None old → Makes MemGoes old (write place more ∷ sync ∷ rest) ok new → GoesOn None
  unarmed is makes =
      then-none old (write place more) (sync ∷ rest) ok new made writing writing (GoesOn None)
      (λ went mid goes. wrote bytes (settled_at bytes) None old is went mid place more goes)
      (λ one is_one made_one.
      then-none one sync rest ok new made writing (settled_at made) (GoesOn None)
      (λ went mid goes. synced made writing None one is_one went mid goes)
      (λ two is_two made_two. (two, is_two, made_two))
      made_one)
      makes

  abbrev Second : Arm → Type 0
  Second arm = MatchBool (nat_le (arm.left - 1) 1) (Fell arm (left_by arm.mode writing made) ok new) (GoesOn (Some (nearer 1 (nearer 1 arm))))

  armed-for : (arm : Arm) → IsAt bytes (settled_at bytes) (Some arm) None old → Makes MemGoes old (write place more ∷ sync ∷ rest) ok new
      → MatchBool (nat_le arm.left 1) (Fell arm (left_by arm.mode writing made) ok new) (Second arm)
  armed-for arm is makes =
      then-arm old (write place more) (sync ∷ rest) ok new made writing writing arm (nat_le arm.left 1) (Second arm)
      (λ went mid goes. wrote bytes (settled_at bytes) (Some arm) old is went mid place more goes)
      (λ one is_one made_one.
      then-arm one sync rest ok new made writing (settled_at made) (nearer 1 arm) (nat_le (arm.left - 1) 1) (GoesOn (Some (nearer 1 (nearer 1 arm))))
      (λ went mid goes. synced made writing (Some (nearer 1 arm)) one is_one went mid goes)
      (λ two is_two made_two. (two, is_two, made_two))
      made_one)
      makes

  -- After so many calls in which nothing fired.
  pub pair : (count : ℕ) (armed : Option Arm) → IsAt bytes (settled_at bytes) (after_calls count armed) None old → Makes MemGoes old (write place more ∷ sync ∷ rest) ok new
      → FiresIn count armed writing made ok new ⊎ (Waits (count + 2) armed × GoesOn (after_calls (count + 2) armed))
  pair count None is makes = inr (tt, unarmed is makes)
  pair count (Some arm) is makes = elim (by-first (arm.left - count) _ _ (armed-for (nearer count arm) is makes)) [
    | inl first ↦ inl (omega (arith, first.0), first.1)
    | inr later ↦ elim (by-first (arm.left - count - 1) _ _ later.1) [
      | inl second ↦ inl (omega (arith, second.0), second.1)
      | inr on ↦
          let far : nearer 1 (nearer 1 (nearer count arm)) ≡ nearer (count + 2) arm = ap (λ n. record arm { left = n }) (omega arith) in
          inr (omega (arith, on.0), subst (λ (a : Arm). GoesOn (Some a)) far on.1)
    ]
  ]

-- What the calls come to by where the fault fires.
pub holds-at : (contents : Contents) (standing : Standing) (bytes : List ℕ) (armed : Option Arm) (fired : Option Bool) (disk : MemState) → Stands contents standing bytes
    → IsAt bytes (settled_at bytes) armed fired disk → Holds contents standing armed fired disk
holds-at contents standing bytes armed fired disk stands is = record {
  stands = subst (Stands contents standing) (sym is.content_is) stands;
  settled = is.now_is ∙ ap settled_at (sym is.content_is);
  armed = is.armed_is;
  fired = is.fired_is;
  reads = is.reads_is;
}

at-false : (b : Bool) (F G : Type 0) → b ≡ false → G → MatchBool b F G
at-false false F G is it = it
at-false true F G is it = absurd (true≢false is)

at-true : (b : Bool) (F G : Type 0) → b ≡ true → F → MatchBool b F G
at-true true F G is it = it
at-true false F G is it = absurd (true≢false (sym is))

module _ (calls : ℕ) (made_now : Contents × Standing) (left : Arm → Contents × Standing) (ok : Bool) (new : MemState) where
  pub comes-broken : (count : ℕ) (armed : Option Arm) (before : Moment) (bytes : List ℕ) → count + 2 ≤ calls → Waits count armed → FiresIn count armed before bytes ok new
      → ((arm : Arm) → Waits count (Some arm) → arm.left ≤ count + 2 → Stands (left arm).0 (left arm).1 (left_by arm.mode before bytes)) → ComesTo calls armed made_now left ok new
  comes-broken count None before bytes within waits fires stands = absurd fires
  comes-broken count (Some arm) before bytes within waits fires stands =
      at-false (nat_lt calls arm.left) _ _ (let few = fires.0 in grind (arith, nat_tests, few, within))
      (fires.1.0, holds-at (left arm).0 (left arm).1 (left_by arm.mode before bytes) None (Some arm.stop) new (stands arm waits fires.0) fires.1.1)

  pub comes-whole : (armed : Option Arm) (bytes : List ℕ) → 0 < calls → Waits calls armed → IsAt bytes (settled_at bytes) (after_calls calls armed) None new → ok ≡ true
      → Stands made_now.0 made_now.1 bytes → ComesTo calls armed made_now left ok new
  comes-whole None bytes some waits is fine stands = (fine, holds-at made_now.0 made_now.1 bytes None None new stands is)
  comes-whole (Some arm) bytes some waits is fine stands =
      let many : calls < arm.left = omega (arith, some, waits) in
      at-true (nat_lt calls arm.left) _ _ (grind (arith, nat_tests, many)) (fine, holds-at made_now.0 made_now.1 bytes (Some (nearer calls arm)) None new stands is)

-- What a write that fires leaves is torn where it writes.
pub left-torn : (mode : Mode) (place : ℕ) (more bytes : List ℕ) → place ≤ length bytes
    → Torn place (length more) bytes (left_by mode (written_at (settled_at bytes) place (length more)) (overlaid bytes place more))
left-torn Lost place more bytes within = Torn-refl place (length more) bytes
left-torn Kept place more bytes within = Torn-overlaid bytes place more within
left-torn TornAll place more bytes within =
    let made = overlaid bytes place more in
    let first : Torn place (length more) bytes made = Torn-overlaid bytes place more within in
    let size : length (replicate {A = ℕ} (length more) 165) ≡ length more = length-replicate {A = ℕ} (length more) 165 in
    Torn-trans place (length more) bytes made _ first
    (subst (λ n. Torn place n made (overlaid made place (replicate (length more) 165))) size
    (Torn-overlaid made place (replicate (length more) 165) (omega (arith, within, first.no_shorter))))

-- A gate in which a write was torn isn't 1.
pub torn-gate : (place byte : ℕ) (bytes : List ℕ) → place ≤ length bytes
    → get_or (left_by TornAll (written_at (settled_at bytes) place 1) (overlaid bytes place (byte ∷ []))) place 0 ≡ 1 → ⊥
torn-gate place byte bytes within opened =
    let made = overlaid bytes place (byte ∷ []) in
    let first : Torn place 1 bytes made = Torn-overlaid bytes place (byte ∷ []) within in
    let none : place - place ≡ 0 = omega arith in
    let gate : get_or (overlaid made place (165 ∷ [])) place 0 ≡ 165 =
    get_or-overlaid_in made place (165 ∷ []) (omega (arith, within, first.no_shorter)) place (omega arith) (omega arith) ∙ ap (λ n. get_or (165 ∷ []) n 0) none in
    absurd (omega (arith, gate, opened))
