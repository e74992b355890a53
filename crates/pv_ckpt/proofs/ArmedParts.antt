-- What a fault in each part of a checkpoint leaves of a log in two areas on a disk in memory, and what all parts come to.
use Rattle.std.proofs.Common.{◌≡◌, ◌≢◌, inl, inr, ℕ, ◌+◌, ◌≤◌, ◌<◌, ◌==◌, Bool, true, false, List, [], ◌∷◌, ◌++◌, Option, None, length, arith, refl, sym, ◌∙◌, ap, subst}
use Rattle.std.proofs.lemmas.Bool.Decides.{nat_tests}
use Rattle.std.proofs.lemmas.List.{append-nil}
use Rattle.pv_base.specs.declared.mode.Mode.{Mode}
use Rattle.pv_base.specs.declared.mode.Mode.TheVariants.{Lost, Kept, Torn as TornAll}
use Rattle.pv_disk.specs.MemDisk.{MemGoes, MemState}
use Rattle.pv_disk.specs.MemImage.{left_by as left_on, settled_at, written_at}
use Rattle.pv_disk.specs.declared.arms.Arm.{Arm}
use Rattle.pv_disk_model.specs.Calls.{DiskCall, Makes}
use Rattle.pv_disk_model.specs.Disk.{Torn}
use Rattle.pv_disk_model.specs.Size.{Contents}
use Rattle.pv_format.specs.Checkpoint.{Part, Standing, calls_of, closing, done, left_by, naming, opening, part_of, shut, storing}
use Rattle.pv_law_calls.proofs.ArmedLemmas.{IsAt}
use Rattle.pv_law_checkpoints.specs.Roots.{fields_of, gate_at, number_at, other_root}
use Rattle.pv_law_checkpoints.specs.Stages.{IsLeft, IsNext, IsPacked, LeadsOn, Stands, StandsEither, made_by, standing_at, writes, writes_at}
use Rattle.pv_law_checkpoints.specs.TwoAreas.{IsLog, block_of}
use Rattle.pv_law_checkpoints.proofs.CheckpointLemmas.{closing_keeps, crash_in, leads_on, lies_apart, not_switched}
use Rattle.pv_ckpt.specs.Armed.{ComesTo}
use Rattle.pv_ckpt.specs.Checkpointing.{name_and_open_calls, store_and_close_calls}
use Rattle.pv_ckpt.specs.Writing.{synced_write}
use Rattle.pv_ckpt.proofs.ArmedPairs.{Waits, after_calls, comes-broken, comes-whole, from-none, left-torn, pair, torn-gate, waits-first}
use Rattle.pv_ckpt.proofs.PartLemmas.{gate_denies, gate_isnt, gate_tells, standing_is}

pub stands-there : (at : ℕ) (packed later : Contents) (standing : Standing) (bytes : List ℕ) → IsLog at packed later bytes → standing_at bytes at ≡ standing
    → Stands (packed ++ later) standing bytes
stands-there at packed later standing bytes log stands = record { at = at; packed = packed; later = later; log = log; contents_are = refl; stands = stands }

-- Whichever of the same contents they are.
either-stands : (contents : Contents) (was now : Standing) (bytes : List ℕ) → StandsEither was contents contents now bytes → Stands contents now bytes
either-stands contents was now bytes (inl still) = still.1
either-stands contents was now bytes (inr switched) = switched.1

module _ (at place : ℕ) (packed later : Contents) where
  abbrev contents : Contents
  contents = packed ++ later

  -- Where the write of a part begins there are bytes.
  part-within : (part : Part) (bytes : List ℕ) → IsNext part at place packed later contents bytes → writes_at part at place ≤ length bytes
  part-within storing bytes next = (lies_apart at place packed later contents bytes next).1
  part-within closing bytes next = omega (arith, next.log.starts.long)
  part-within naming bytes next = omega (arith, next.log.starts.long)
  part-within opening bytes next = omega (arith, next.log.starts.long)

  -- What a part leaves that fires so.
  abbrev Left : Part → Mode → List ℕ → List ℕ
  Left part mode bytes =
      left_on mode (written_at (settled_at bytes) (writes_at part at place) (length (writes part (number_at bytes at) place contents))) (made_by part at place contents bytes)

  part-torn : (part : Part) (mode : Mode) (bytes : List ℕ) → IsNext part at place packed later contents bytes
      → Torn (writes_at part at place) (length (writes part (number_at bytes at) place contents)) bytes (Left part mode bytes)
  part-torn part mode bytes next = left-torn mode (writes_at part at place) (writes part (number_at bytes at) place contents) bytes (part-within part bytes next)

  -- A part of which a crash may leave one standing alone.
  one-left : (part : Part) (mode : Mode) (bytes : List ℕ) (standing : Standing) → IsNext part at place packed later contents bytes
      → ((is : IsLeft part (standing_at bytes at) contents contents (Left part mode bytes)) → is.standing ≡ standing) → Stands contents standing (Left part mode bytes)
  one-left part mode bytes standing next same =
      let is = crash_in part at place packed later contents bytes (Left part mode bytes) next (part-torn part mode bytes next) in
      subst (λ s. Stands contents s (Left part mode bytes)) (same is) (either-stands contents (standing_at bytes at) is.standing (Left part mode bytes) is.stands)

  -- The gate of the other root isn't 1.
  shut-there : (was left : List ℕ) → IsLog at packed later left → number_at left at ≡ number_at was at → gate_at left (other_root at) ≢ 1 → Stands contents (shut (standing_at was at)) left
  shut-there was left log number closed =
      stands-there at packed later (shut (standing_at was at)) left log (standing_is left at (shut (standing_at was at)) number (gate_isnt (gate_at left (other_root at)) closed))

  part-left : (part : Part) (mode : Mode) (bytes : List ℕ) → IsNext part at place packed later contents bytes → Stands contents (left_by part mode (standing_at bytes at)) (Left part mode bytes)
  part-left storing mode bytes next = one-left storing mode bytes (standing_at bytes at) next (λ is. is.may)
  part-left naming mode bytes next = one-left naming mode bytes (shut (standing_at bytes at)) next (λ is. is.may)
  part-left closing Lost bytes next = stands-there at packed later (standing_at bytes at) bytes next.log refl
  part-left closing Kept bytes next =
      let lead = leads_on closing at place packed later contents bytes next in
      shut-there bytes (made_by closing at place contents bytes) lead.1.log lead.0.number lead.1.made.1
  part-left closing TornAll bytes next =
      let keeps = closing_keeps at place packed later contents bytes next (Left closing TornAll bytes) (part-torn closing TornAll bytes next) in
      shut-there bytes (Left closing TornAll bytes) keeps.0 keeps.1.number (torn-gate (other_root at) 0 bytes (part-within closing bytes next))
  part-left opening Lost bytes next = shut-there bytes bytes next.log refl next.made.1
  part-left opening Kept bytes next =
      let lead : IsPacked at contents (standing_at bytes at) (made_by opening at place contents bytes) = leads_on opening at place packed later contents bytes next in
      record { at = other_root at; packed = contents; later = []; log = lead.log; contents_are = sym (append-nil contents); stands = lead.stands }
  part-left opening TornAll bytes next =
      let closed = torn-gate (other_root at) 1 bytes (part-within opening bytes next) in
      let keeps = not_switched at place packed later contents bytes next (Left opening TornAll bytes) (part-torn opening TornAll bytes next) closed in
      shut-there bytes (Left opening TornAll bytes) keeps.0 keeps.1.number closed

  -- The opening leaves the same whether the gate of the other root was 1 before.
  opening-shut : (mode : Mode) (was : Standing) → left_by opening mode (shut was) ≡ left_by opening mode was
  opening-shut Lost was = refl
  opening-shut Kept was = refl
  opening-shut TornAll was = refl

  module _ (armed : Option Arm) (other_open : Bool) (was : Standing) (ok : Bool) (new : MemState) where
    abbrev LeftOf : Arm → Contents × Standing
    LeftOf arm = (contents, left_by (part_of other_open arm.left) arm.mode was)

    -- What a part leaves, where the fault fires in it.
    left-of : (part : Part) (bytes : List ℕ) → IsNext part at place packed later contents bytes → ((mode : Mode) → left_by part mode (standing_at bytes at) ≡ left_by part mode was)
        → (arm : Arm) → part_of other_open arm.left ≡ part → Stands contents (left_by (part_of other_open arm.left) arm.mode was) (Left part arm.mode bytes)
    left-of part bytes next same arm is =
        subst (λ s. Stands contents s (Left part arm.mode bytes)) (same arm.mode ∙ ap (λ p. left_by p arm.mode was) (sym is)) (part-left part arm.mode bytes next)

    -- The naming and the opening, after so many calls.
    module _ (calls count : ℕ) (all : calls ≡ count + 4) (names : (n : ℕ) → count < n → n ≤ count + 2 → part_of other_open n ≡ naming) (opens : (n : ℕ) → count + 2 < n → part_of other_open n ≡ opening)
        (some : 0 < count) where
      named-on : (bytes : List ℕ) → IsNext naming at place packed later contents bytes → standing_at bytes at ≡ shut was → Waits count armed
          → (old : MemState) → IsAt bytes (settled_at bytes) (after_calls count armed) None old
          → Makes MemGoes old (name_and_open_calls (other_root at) (writes naming (number_at bytes at) place contents)) ok new → ComesTo calls armed (contents, done was) LeftOf ok new
      named-on bytes next stands waits old is makes =
          let o = other_root at in
          let fields = writes naming (number_at bytes at) place contents in
          let named = made_by naming at place contents bytes in
          let opened = made_by opening at place contents named in
          let lead : LeadsOn naming at place packed later contents bytes named = leads_on naming at place packed later contents bytes next in
          let still : standing_at named at ≡ shut was =
          standing_is named at (shut was) (lead.0.number ∙ ap (λ (s : Standing). s.number) stands) (gate_isnt (gate_at named o) lead.1.made.1) in
          elim (pair (o + 1) fields bytes (synced_write o (1 ∷ [])) old new ok count armed is makes) [
            | inl fires ↦
                comes-broken calls (contents, done was) LeftOf ok new count armed (written_at (settled_at bytes) (o + 1) (length fields)) named (omega (arith, all)) waits fires
                (λ arm late soon. left-of naming bytes next (λ mode. ap shut stands) arm (names arm.left (omega (arith, late, some)) soon))
            | inr (waits_on, (mid, is_mid, rest)) ↦
                elim (pair o (1 ∷ []) named [] mid new ok (count + 2) armed is_mid rest) [
                  | inl fires ↦
                      comes-broken calls (contents, done was) LeftOf ok new (count + 2) armed (written_at (settled_at named) o 1) opened (omega (arith, all)) waits_on fires
                      (λ arm late soon.
                      left-of opening named lead.1 (λ mode. ap (left_by opening mode) still ∙ opening-shut mode was) arm (opens arm.left (omega (arith, late))))
                  | inr (waited, (last, is_last, (fine, same))) ↦
                      let reached : count + 2 + 2 ≡ calls = omega (arith, all) in
                      comes-whole calls (contents, done was) LeftOf ok new armed opened (omega (arith, all)) (subst (λ n. Waits n armed) reached waited)
                      (subst (λ n. IsAt opened (settled_at opened) (after_calls n armed) None new) reached
                      (subst (IsAt opened (settled_at opened) (after_calls (count + 2 + 2) armed) None) (sym same) is_last))
                      fine
                      (subst (λ s. Stands contents s opened) (ap done still) (part-left opening Kept named lead.1))
                ]
          ]

  -- All parts of a checkpoint.
  module _ (bytes : List ℕ) (next : IsNext storing at place packed later contents bytes) (armed : Option Arm) (old new : MemState) (ok : Bool)
      (is : IsAt bytes (settled_at bytes) armed None old) where
    abbrev was : Standing
    was = standing_at bytes at

    abbrev stored : List ℕ
    stored = made_by storing at place contents bytes

    abbrev block : List ℕ
    block = writes storing (number_at bytes at) place contents

    lead : LeadsOn storing at place packed later contents bytes stored
    lead = leads_on storing at place packed later contents bytes next

    abbrev Calls : Bool → List DiskCall
    Calls other_open = store_and_close_calls (other_root at) other_open place block ++ name_and_open_calls (other_root at) (fields_of (number_at bytes at + 1) place (length (block_of contents)))

    abbrev Comes : Bool → Type 0
    Comes other_open = ComesTo (calls_of other_open) armed (contents, done was) (LeftOf armed other_open was ok new) ok new

    -- The fields are those that the bytes before them ask for.
    fields-for : (now : List ℕ) → number_at now at ≡ number_at bytes at → (mid : MemState)
        → Makes MemGoes mid (name_and_open_calls (other_root at) (fields_of (number_at bytes at + 1) place (length (block_of contents)))) ok new
        → Makes MemGoes mid (name_and_open_calls (other_root at) (writes naming (number_at now at) place contents)) ok new
    fields-for now same mid makes = subst (λ n. Makes MemGoes mid (name_and_open_calls (other_root at) (writes naming n place contents)) ok new) (sym same) makes

    stored-closed : gate_at bytes (other_root at) ≢ 1 → Makes MemGoes old (Calls false) ok new → Comes false
    stored-closed closed makes =
        elim (pair place block bytes (name_and_open_calls (other_root at) (fields_of (number_at bytes at + 1) place (length (block_of contents)))) old new ok 0 armed (from-none bytes (settled_at bytes) old armed is) makes) [
          | inl fires ↦
              comes-broken 6 (contents, done was) (LeftOf armed false was ok new) ok new 0 armed (written_at (settled_at bytes) place (length block)) stored (omega arith) (waits-first armed) fires
              (λ arm late soon. left-of armed false was ok new storing bytes next (λ mode. refl) arm (grind (arith, nat_tests, soon)))
          | inr (waits, (mid, is_mid, rest)) ↦
              let named = lead.2 closed in
              named-on armed false was ok new 6 2 (omega arith) (λ n late soon. grind (arith, nat_tests, late, soon)) (λ n late. grind (arith, nat_tests, late)) (omega arith) stored named
              (standing_is stored at (shut was) lead.0.number (gate_isnt (gate_at stored (other_root at)) named.made.1)) waits mid is_mid (fields-for stored lead.0.number mid rest)
        ]

    stored-opened : gate_at bytes (other_root at) ≡ 1 → Makes MemGoes old (Calls true) ok new → Comes true
    stored-opened opened makes =
        let o = other_root at in
        let naming_after = name_and_open_calls o (fields_of (number_at bytes at + 1) place (length (block_of contents))) in
        let closed = made_by closing at place contents stored in
        elim (pair place block bytes (synced_write o (0 ∷ []) ++ naming_after) old new ok 0 armed (from-none bytes (settled_at bytes) old armed is) makes) [
          | inl fires ↦
              comes-broken 8 (contents, done was) (LeftOf armed true was ok new) ok new 0 armed (written_at (settled_at bytes) place (length block)) stored (omega arith) (waits-first armed) fires
              (λ arm late soon. left-of armed true was ok new storing bytes next (λ mode. refl) arm (grind (arith, nat_tests, soon)))
          | inr (waits, (mid, is_mid, rest)) ↦
              let closes = lead.1 opened in
              let still : standing_at stored at ≡ was =
              standing_is stored at was lead.0.number (ap (λ g. g == 1) (closes.made.1 ∙ sym opened)) in
              let second : LeadsOn closing at place packed later contents stored closed = leads_on closing at place packed later contents stored closes in
              let number : number_at closed at ≡ number_at bytes at = second.0.number ∙ lead.0.number in
              elim (pair o (0 ∷ []) stored naming_after mid new ok 2 armed is_mid rest) [
                | inl fires ↦
                    comes-broken 8 (contents, done was) (LeftOf armed true was ok new) ok new 2 armed (written_at (settled_at stored) o 1) closed (omega arith) waits fires
                    (λ arm late soon.
                    left-of armed true was ok new closing stored closes (λ mode. ap (left_by closing mode) still) arm
                    (let after : 2 < arm.left = omega (arith, late) in grind (arith, nat_tests, after, soon)))
                | inr (waits_on, (third, is_third, left)) ↦
                    named-on armed true was ok new 8 4 (omega arith) (λ n late soon. grind (arith, nat_tests, late, soon)) (λ n late. grind (arith, nat_tests, late)) (omega arith) closed second.1
                    (standing_is closed at (shut was) number (gate_isnt (gate_at closed o) second.1.made.1)) waits_on third is_third (fields-for closed number third left)
              ]
        ]

    -- By whether the gate of the other root is 1.
    pub parts-come : (other_open : Bool) → (gate_at bytes (other_root at) == 1) ≡ other_open → Makes MemGoes old (Calls other_open) ok new → Comes other_open
    parts-come true told makes = stored-opened (gate_tells (gate_at bytes (other_root at)) told) makes
    parts-come false told makes = stored-closed (gate_denies (gate_at bytes (other_root at)) told) makes
