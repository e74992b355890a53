-- Disk after disk, a bay keeps those of all sites of the world in which a run ends.
use Rattle.std.proofs.Common.{◌≡◌, ◌≢◌, inl, inr, ℕ, suc, ◌<◌, ◌≤◌, List, [], ◌∷◌, ◌++◌, length, Some, refl, sym, ap, ◌∙◌, subst, arith}
use Rattle.std.specs.List.{slice_get}
use Rattle.std.proofs.lemmas.Bool.Decides.{eqb_tells}
use Rattle.std.proofs.lemmas.List.{get_or_append_left, take_all}
use Rattle.std.proofs.lemmas.Option.{get_or_from_slice_get, slice_get-get_or, slice_get_within}
use Rattle.std.proofs.Math.Seq.{get_or-append_seam}
use Rattle.pv_disk.specs.BayAnswers.{KeepsDisk}
use Rattle.pv_disk.specs.BayModel.{BayModel, Berth}
use Rattle.pv_disk.specs.MemDisk.{MemState}
use Rattle.pv_law_world.proofs.AppendLemmas.{world_after-append}
use Rattle.pv_model.specs.Events.{Event, Schedule}
use Rattle.pv_protocol.specs.Run.{run, transitions_of, world_after}
use Rattle.pv_protocol.specs.State.{Setup, Site}
use Rattle.pv_protocol.specs.World.{World, opening}
use Rattle.pv_script.specs.declared.schedule.Event as code
use Rattle.pv_world.specs.Disks.{HoldSites, IsLogOfSite}
use Rattle.pv_run.proofs.RunLemmas.{after_events, events_of, setup_for, world_at}
use Rattle.pv_run.specs.KeptDisks.{KeepsSites, last_world}

-- ---- the world in which a run ends

-- The world after all events of a run is the one after its transitions.
after-run : (setup : Setup) (world : World) (events : List Event) → after_events setup world events ≡ world_after world (run setup world events)
after-run setup world [] = refl
after-run setup world (event ∷ events) =
    let now = transitions_of setup world event in
    after-run setup (world_after world now) events ∙ sym (world_after-append world now (run setup (world_after world now) events))

events-count : (items : List code.Event) → length (events_of items) ≡ length items
events-count [] = refl
events-count (item ∷ items) = ap suc (events-count items)

-- After all events the world is the last one.
pub last-is : (schedule : Schedule) (items : List code.Event) (done : ℕ) → schedule.events ≡ events_of items → length items ≤ done
    → world_at schedule done ≡ last_world schedule
last-is schedule items done same end =
    let setup = setup_for schedule in
    let all : length schedule.events ≤ done = omega (arith, end, ap length same ∙ events-count items) in
    ap (after_events setup (opening setup)) (take_all done schedule.events all) ∙ after-run setup (opening setup) schedule.events

-- ---- disks and sites

-- There are as many disks as sites.
pub hold-count : (disks : List MemState) (sites : List Site) → HoldSites disks sites → length disks ≡ length sites
hold-count [] [] hold = refl
hold-count [] (site ∷ sites) hold = absurd hold
hold-count (disk ∷ disks) [] hold = absurd hold
hold-count (disk ∷ disks) (site ∷ sites) hold = ap suc (hold-count disks sites hold.1)

-- Which sites disks hold of which this one is the last.
pub record EndsIn (front : List MemState) (disk : MemState) (sites : List Site) : Type 0 where
  pub before : List Site
  pub last : Site
  pub is : sites ≡ before ++ last ∷ []
  pub hold : HoldSites front before
  pub journal : IsLogOfSite last disk.image.content

pub hold-split : (front : List MemState) (disk : MemState) (sites : List Site) → HoldSites (front ++ disk ∷ []) sites → EndsIn front disk sites
hold-split [] disk [] hold = absurd hold
hold-split [] disk (site ∷ []) hold = record { before = []; last = site; is = refl; hold = tt; journal = hold.0 }
hold-split [] disk (site ∷ next ∷ sites) hold = absurd hold.1
hold-split (first ∷ front) disk [] hold = absurd hold
hold-split (first ∷ front) disk (site ∷ sites) hold =
    let rest = hold-split front disk sites hold.1 in
    record { before = site ∷ rest.before; last = rest.last; is = ap (λ (all : List Site). site ∷ all) rest.is; hold = (hold.0, rest.hold); journal = rest.journal }

-- ---- what the bay keeps

pub one-longer : {A : Type 0} (xs : List A) (x : A) → length (xs ++ x ∷ []) ≡ suc (length xs)
one-longer [] x = refl
one-longer (y ∷ ys) x = ap suc (one-longer ys x)

-- Which site stands at a place, where there is one more site.
in-front : (front : List Site) (last site : Site) (n : ℕ) → slice_get (front ++ last ∷ []) n ≡ Some site → n ≢ length front → slice_get front n ≡ Some site
in-front front last site n is apart =
    let below : n < length front = omega (arith, slice_get_within (front ++ last ∷ []) n site is, one-longer front last, apart) in
    slice_get-get_or front n site below
    ∙ ap Some (sym (get_or_append_left front (last ∷ []) site n below) ∙ get_or_from_slice_get (front ++ last ∷ []) n site site is)

at-last : (front : List Site) (last site : Site) → slice_get (front ++ last ∷ []) (length front) ≡ Some site → last ≡ site
at-last front last site is =
    sym (get_or-append_seam front last [] site) ∙ get_or_from_slice_get (front ++ last ∷ []) (length front) site site is

module _ {W : Type 0} (M : BayModel W) where
  -- No disk was given to it so far.
  pub keeps-none : (bay : W) (sites : List Site) → HoldSites [] sites → KeepsSites M bay bay sites
  keeps-none bay [] hold = record {
    kept = λ tells n site is. absurd (let wrong : ⊥ = cc in wrong);
    others = λ n le. refl;
    beside = λ n. refl;
    faults = refl;
    tells = refl;
  }
  keeps-none bay (site ∷ sites) hold = absurd hold

  -- The disk of the next site was given to it.
  pub keeps-next : (old mid new : W) (front : List Site) (last : Site) (bytes : List ℕ) → KeepsSites M old mid front → KeepsDisk M mid new (length front) bytes
      → IsLogOfSite last bytes → KeepsSites M old new (front ++ last ∷ [])
  keeps-next old mid new front last bytes keeps takes journal = record {
    kept = λ tells n site is.
        elim (eqb_tells n (length front)) [
          | inl here ↦ (
            bytes,
            ap (λ (m : ℕ). (M.berth new m).kept) here.1 ∙ takes.kept (keeps.tells ∙ tells),
            subst (λ (s : Site). IsLogOfSite s bytes) (at-last front last site (subst (λ (m : ℕ). slice_get (front ++ last ∷ []) m ≡ Some site) here.1 is)) journal,
          )
          | inr apart ↦
              let before = keeps.kept tells n site (in-front front last site n is apart.1) in
              (before.0, ap (λ (berth : Berth). berth.kept) (takes.stays.others n apart.1) ∙ before.1, before.2)
        ];
    others = λ n past.
        let beyond : suc (length front) ≤ n = omega (arith, past, one-longer front last) in
        takes.stays.others n (λ same. absurd (omega (arith, same, beyond))) ∙ keeps.others n (omega (arith, beyond));
    beside = λ n.
        elim (eqb_tells n (length front)) [
          | inl here ↦
              subst (λ (m : ℕ). M.berth new m ≡ record (M.berth old m) { kept = (M.berth new m).kept }) (sym here.1)
              (takes.is ∙ ap (λ (berth : Berth). record berth { kept = (M.berth new (length front)).kept }) (keeps.beside (length front)))
          | inr apart ↦
              let same = takes.stays.others n apart.1 in
              same ∙ (keeps.beside n ∙ ap (λ (berth : Berth). record (M.berth old n) { kept = berth.kept }) (sym same))
        ];
    faults = takes.stays.faults ∙ keeps.faults;
    tells = takes.stays.tells ∙ keeps.tells;
  }
