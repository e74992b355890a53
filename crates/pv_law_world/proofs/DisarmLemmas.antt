-- A world without armed faults does what the same world does with them, but for where they fire.
use Rattle.std.proofs.Common.{arith, ◌≡◌, inl, inr, ℕ, zero, suc, ◌<◌, Bool, true, false, Some, None, Option, List, [], ◌∷◌, ◌++◌, map, refl, sym, ap, ◌∙◌, subst}
use Rattle.std.specs.Prelude.{set, slice_get, option_to_list, replicate, nat_lt, ◌+◌, ◌&&◌, filter, if◌then◌else◌, All}
use Rattle.std.specs.List.{list_all}
use Rattle.std.proofs.lemmas.List.{map-set}
use Rattle.std.proofs.lemmas.List.Elements.{All-head, All-tail}
use Rattle.std.proofs.Math.ListN as lists
use Rattle.pv_base.specs.Catalog.{Item}
use Rattle.pv_base.specs.declared.txn.TxnId.{TxnId}
use Rattle.pv_base.specs.declared.mode.Mode.{Mode}
use Rattle.pv_base.specs.declared.mode.Mode.TheVariants.{Lost, Kept, Torn}
use Rattle.pv_format.specs.Checkpoint.{Standing, greatest_number, Part, storing, closing, naming, opening, part_of, left_by, MayLeaveInAll}
use Rattle.pv_format.specs.Message.{Envelope}
use Rattle.pv_format.specs.Record.{Record}
use Rattle.pv_law_world.proofs.EventView.{view-of-event}
use Rattle.pv_law_world.proofs.RunRangeLemmas.{HasGoodEvent, run-good}
use Rattle.pv_law_world.proofs.TransitionLemmas.{run-transitions}
use Rattle.pv_law_world.specs.EventView.{Beginning, Printed, begun_by}
use Rattle.pv_law_world.specs.Transitions.{AreTransitions, one_more}
use Rattle.pv_model.specs.Events.{Event}
use Rattle.pv_protocol.specs.Anywhere.{MayStand, MayEnd, whole, without, with_record, MayCome, without_attempt, by_attempt, disarmed_site, disarmed, MayFollow, IsRunWithFaults, ends, goes_on, without_arms}
use Rattle.pv_protocol.specs.Arms.{Reached, waits, fires, reached, calls_of, is_kept, standing_made, standing_left, completed, broken, broken_line, attempted}
use Rattle.pv_protocol.specs.Attempt.{Attempt, Begun, at_once, attempts, begun, given, delivered, lost, halted, opened, packed, packs_up, without_site, of_step, of_start}
use Rattle.pv_protocol.specs.Committed.{is_committed, entry_of, is_bound, is_open}
use Rattle.pv_protocol.specs.Lines.{Line}
use Rattle.pv_protocol.specs.Report.{readings_from, report_of, total_of, sent_lines}
use Rattle.pv_protocol.specs.Run.{run}
use Rattle.pv_protocol.specs.Start.{site_start}
use Rattle.pv_protocol.specs.State.{Setup, Running, Site, Arm, Input, receive, TakenGrant, Placed}
use Rattle.pv_protocol.specs.Step.{site_step}
use Rattle.pv_protocol.specs.WellFormed.{IsWellFormed}
use Rattle.pv_protocol.specs.World.{World, no_site, first_site, site_at, with_site, with_done}
use Rattle.pv_protocol.specs.World as worlds
use Rattle.pv_protocol.specs.WorldStep.{Transition, ended, transition_of}

pub site-disarmed : (world : World) (n : ℕ) → site_at (disarmed world) n ≡ disarmed_site (site_at world n)
site-disarmed world n = lists.get_or-map disarmed_site world.sites n no_site

twice : (sites : List Site) → map disarmed_site (map disarmed_site sites) ≡ map disarmed_site sites
twice [] = refl
twice (site ∷ sites) = ap (λ (all : List Site). disarmed_site site ∷ all) (twice sites)

-- a site put into both worlds, where the two differ in armed faults alone
put-same : (sites : List Site) (n : ℕ) (site other : Site) → disarmed_site other ≡ disarmed_site site
    → map disarmed_site (set (map disarmed_site sites) n other) ≡ map disarmed_site (set sites n site)
put-same sites n site other same =
    map-set disarmed_site (map disarmed_site sites) n other
    ∙ (ap (λ (all : List Site). set all n (disarmed_site other)) (twice sites)
    ∙ (ap (λ (s : Site). set (map disarmed_site sites) n s) same
    ∙ sym (map-set disarmed_site sites n site)))

-- ---- what is printed

module _ (setup : Setup) (world : World) where
  committed-same : (txn : TxnId) → is_committed (disarmed world) txn ≡ is_committed world txn
  committed-same txn = simp (site-disarmed world)

  entry-same : (txn : TxnId) → entry_of (disarmed world) txn ≡ entry_of world txn
  entry-same txn = simp (site-disarmed world)

  bound-same : (txn : TxnId) (taken : TakenGrant) → is_bound (disarmed world) txn taken ≡ is_bound world txn taken
  bound-same txn taken = simp (site-disarmed world)

  bound-all : (txn : TxnId) (grants : List TakenGrant) → list_all (is_bound (disarmed world) txn) grants ≡ list_all (is_bound world txn) grants
  bound-all txn grants = ap (λ (test : TakenGrant → Bool). list_all test grants) (λ i taken. bound-same txn taken i)

  open-same : (placed : Placed) → is_open (disarmed world) placed ≡ is_open world placed
  open-same placed = rw (committed-same placed.txn, entry-same placed.txn, bound-all placed.txn placed.grants)

  committed-in : (order : List Placed) → filter (λ placed. is_committed (disarmed world) placed.txn) order ≡ filter (λ placed. is_committed world placed.txn) order
  committed-in order = ap (λ (test : Placed → Bool). filter test order) (λ i placed. committed-same placed.txn i)

  open-in : (order : List Placed) → filter (is_open (disarmed world)) order ≡ filter (is_open world) order
  open-in order = ap (λ (test : Placed → Bool). filter test order) (λ i placed. open-same placed i)

  readings-same : (n : ℕ) (items : List Item) → readings_from setup (disarmed world) n items ≡ readings_from setup world n items
  readings-same n [] = refl
  readings-same n (item ∷ items) = rw (readings-same (n + 1) items) (simp (site-disarmed world))

  report-same : report_of setup (disarmed world) ≡ report_of setup world
  unfolding report_of
  report-same = rw (readings-same 0 setup.catalog.items, committed-in world.order, open-in world.order)

  total-same : total_of setup (disarmed world) ≡ total_of setup world
  unfolding total_of
  total-same = rw (readings-same 0 setup.catalog.items)

-- ---- what an event comes to before any write

-- Both print the same and leave worlds that differ in armed faults alone, or both attempt the same in such worlds.
data AreSame : Begun → Begun → Type 0 where
  both_settle : (lines : List Line) (after other : World) → disarmed after ≡ disarmed other → AreSame (at_once lines after) (at_once lines other)
  both_attempt : (before : World) (n : ℕ) (attempt : Attempt) → AreSame (attempts before n attempt) (attempts (disarmed before) n attempt)

disarmed-twice : (world : World) → disarmed world ≡ disarmed (disarmed world)
disarmed-twice world = ap (λ (sites : List Site). record world { sites = sites }) (sym (twice world.sites))

records-same : (world : World) (n : ℕ) → (site_at world n).records ≡ (site_at (disarmed world) n).records
records-same world n = ap (λ (site : Site). site.records) (sym (site-disarmed world n))

running-same : (world : World) (n : ℕ) → (site_at world n).running ≡ (site_at (disarmed world) n).running
running-same world n = ap (λ (site : Site). site.running) (sym (site-disarmed world n))

standing-same : (world : World) (n : ℕ) → (site_at world n).standing ≡ (site_at (disarmed world) n).standing
standing-same world n = ap (λ (site : Site). site.standing) (sym (site-disarmed world n))

module _ (setup : Setup) where
  given-same : (before : World) (n : ℕ) (input : Input) (running : Option Running)
      → AreSame (given setup before n input running) (given setup (disarmed before) n input running)
  given-same before n input None = both_settle _ before (disarmed before) (disarmed-twice before)
  given-same before n input (Some running) =
      subst (λ (records : List Record). AreSame (given setup before n input (Some running)) (attempts (disarmed before) n (of_step n (site_step setup n records running input))))
      (records-same before n) (both_attempt before n _)

  given-here : (before : World) (n : ℕ) (input : Input)
      → AreSame (given setup before n input (site_at before n).running) (given setup (disarmed before) n input (site_at (disarmed before) n).running)
  given-here before n input =
      subst (λ (running : Option Running). AreSame (given setup before n input (site_at before n).running) (given setup (disarmed before) n input running))
      (running-same before n) (given-same before n input (site_at before n).running)

  delivered-same : (world : World) (number : ℕ) (envelope : Option Envelope)
      → AreSame (delivered setup world number envelope) (delivered setup (disarmed world) number envelope)
  delivered-same world number None = both_settle _ world (disarmed world) (disarmed-twice world)
  delivered-same world number (Some envelope) = given-here (with_done world number) envelope.to (receive envelope.from envelope.message)

  lost-same : (world : World) (number : ℕ) (envelope : Option Envelope) → AreSame (lost world number envelope) (lost (disarmed world) number envelope)
  lost-same world number None = both_settle _ world (disarmed world) (disarmed-twice world)
  lost-same world number (Some envelope) = both_settle _ (with_done world number) (disarmed (with_done world number)) (disarmed-twice (with_done world number))

  -- a change of one site that looks at no armed fault
  changed-same : (world : World) (n : ℕ) (change : Site → Site) → ((site : Site) → disarmed_site (change (disarmed_site site)) ≡ disarmed_site (change site))
      → disarmed (with_site world n (change (site_at world n))) ≡ disarmed (with_site (disarmed world) n (change (site_at (disarmed world) n)))
  changed-same world n change blind =
      ap (λ (sites : List Site). record world { sites = sites })
      (sym (put-same world.sites n (change (site_at world n)) (change (site_at (disarmed world) n))
      (ap (λ (site : Site). disarmed_site (change site)) (site-disarmed world n) ∙ blind (site_at world n))))

  halted-same : (world : World) (n : ℕ) (running : Option Running) → AreSame (halted world n running) (halted (disarmed world) n running)
  halted-same world n None = both_settle _ world (disarmed world) (disarmed-twice world)
  halted-same world n (Some running) = both_settle _ _ _ (changed-same world n (λ site. record site { running = None }) (λ site. refl))

  opened-same : (world : World) (n : ℕ) (running : Option Running) → AreSame (opened setup world n running) (opened setup (disarmed world) n running)
  opened-same world n (Some running) = both_settle _ world (disarmed world) (disarmed-twice world)
  opened-same world n None =
      subst (λ (records : List Record). AreSame (opened setup world n None) (attempts (disarmed world) n (of_start n (site_start setup 0 records))))
      (records-same world n) (both_attempt world n _)

  -- the same test decides in both
  either-same : (test : Bool) {first other second another : Begun} → AreSame first second → AreSame other another
      → AreSame (if test then first else other) (if test then second else another)
  either-same true held failed = held
  either-same false held failed = failed

  packed-same : (world : World) (n : ℕ) (running : Option Running) → AreSame (packed world n running) (packed (disarmed world) n running)
  packed-same world n None = both_settle _ world (disarmed world) (disarmed-twice world)
  packed-same world n (Some running) =
      subst (λ (standing : Standing). AreSame (packed world n (Some running)) (packs_up (disarmed world) n standing running)) (standing-same world n)
      (either-same (nat_lt (site_at world n).standing.number greatest_number) (both_attempt world n _) (both_settle _ world (disarmed world) (disarmed-twice world)))

  -- the same lines, with nothing changed
  printed-same : (world : World) (lines others : List Line) → others ≡ lines → AreSame (at_once lines world) (at_once others (disarmed world))
  printed-same world lines others is =
      subst (λ (all : List Line). AreSame (at_once lines world) (at_once all (disarmed world))) (sym is)
      (both_settle lines world (disarmed world) (disarmed-twice world))

  beginning-same : (world : World) (beginning : Beginning) → AreSame (begun_by setup world beginning) (begun_by setup (disarmed world) beginning)
  unfolding sent_lines
  beginning-same world (Beginning.gives n input) = given-here world n input
  beginning-same world (Beginning.delivers number) = delivered-same world number (slice_get world.sent number)
  beginning-same world (Beginning.loses number) = lost-same world number (slice_get world.sent number)
  beginning-same world (Beginning.drops n) = both_settle [] _ _ (ap (λ (sites : List Site). record world { sites = sites; fresh = without_site n world.sent world.fresh }) (sym (twice world.sites)))
  beginning-same world (Beginning.halts n) =
      subst (λ (running : Option Running). AreSame (halted world n (site_at world n).running) (halted (disarmed world) n running))
      (running-same world n) (halted-same world n (site_at world n).running)
  beginning-same world (Beginning.opens n) =
      subst (λ (running : Option Running). AreSame (opened setup world n (site_at world n).running) (opened setup (disarmed world) n running))
      (running-same world n) (opened-same world n (site_at world n).running)
  beginning-same world (Beginning.packs n) =
      subst (λ (running : Option Running). AreSame (packed world n (site_at world n).running) (packed (disarmed world) n running))
      (running-same world n) (packed-same world n (site_at world n).running)
  beginning-same world (Beginning.arms n arm) = both_settle _ _ _ (changed-same world n (λ site. record site { arm = arm }) (λ site. refl))
  beginning-same world (Beginning.prints Printed.nothing) = printed-same world [] [] refl
  beginning-same world (Beginning.prints Printed.messages) = printed-same world _ _ refl
  beginning-same world (Beginning.prints Printed.reported) = printed-same world _ _ (report-same setup world)
  beginning-same world (Beginning.prints Printed.summed) = printed-same world _ _ (total-same setup world)

  begun-same : (world : World) (event : Event) → AreSame (begun setup world event) (begun setup (disarmed world) event)
  begun-same world event =
      let view = view-of-event event in
      subst (λ (b : Begun). AreSame b (begun setup (disarmed world) event)) (sym (view.1.same setup world))
      (subst (AreSame (begun_by setup world view.0)) (sym (view.1.same setup (disarmed world))) (beginning-same world view.0))

-- ---- how an attempt ends

-- What a part of a checkpoint leaves is what may be left in all of it.
left-in-all : (part : Part) (mode : Mode) (standing : Standing) → MayLeaveInAll standing (left_by part mode standing)
left-in-all storing mode standing = inl refl
left-in-all closing Lost standing = inl refl
left-in-all closing Kept standing = inr (inl refl)
left-in-all closing Torn standing = inr (inl refl)
left-in-all naming mode standing = inr (inl refl)
left-in-all opening Lost standing = inr (inl refl)
left-in-all opening Kept standing = inr (inr refl)
left-in-all opening Torn standing = inr (inl refl)

-- A fault leaves the log standing as a stop anywhere may.
may-stand : (packs : Bool) (arm : Arm) (standing : Standing) → MayStand packs standing (standing_left packs arm standing)
may-stand false arm standing = refl
may-stand true arm standing = left-in-all (part_of standing.other_open arm.call) arm.mode standing

-- These lines and this world, without armed faults, may come of what an event has begun.
record IsPossible (b : Begun) (lines : List Line) (world : World) : Type 0 where
  left : World
  comes : MayCome b lines left
  after : disarmed world ≡ disarmed left

module _ (before : World) (n : ℕ) (attempt : Attempt) where
  completed-same : (arm : Option Arm) → disarmed (completed before n attempt arm) ≡ disarmed (completed (disarmed before) n attempt None)
  completed-same arm =
      ap (λ (sites : List Site). record (completed before n attempt arm) { sites = sites })
      (sym (put-same before.sites n (made arm (site_at before n)) (made None (site_at (disarmed before) n)) (ap (made None) (site-disarmed before n))))
    where
      made : Option Arm → Site → Site
      made armed site =
          record {
            records = site.records ++ option_to_list attempt.appended;
            standing = standing_made attempt.packs site.standing;
            arm = armed;
            running = attempt.running;
          }

  module _ (stops : Bool) (standing : Standing) where
    broken-same : (left : Option Record) → disarmed (broken before n left standing) ≡ disarmed (broken (disarmed before) n left standing)
    broken-same left =
        ap (λ (sites : List Site). record before { sites = sites })
        (sym (put-same before.sites n (down (site_at before n)) (down (site_at (disarmed before) n)) (ap down (site-disarmed before n))))
      where
        down : Site → Site
        down site = record { records = site.records ++ option_to_list left; standing = standing; arm = None; running = None }

    -- a stop or a fault that leaves this record
    broken-possible : (left : Option Record) → MayEnd (disarmed before) n attempt (broken_line n stops ∷ []) (broken (disarmed before) n left standing)
        → IsPossible (attempts (disarmed before) n attempt) (broken_line n stops ∷ []) (broken before n left standing)
    broken-possible left may = record { left = broken (disarmed before) n left standing; comes = by_attempt _ _ n attempt _ may; after = broken-same left }

    -- the record that a stop leaves is the attempt's or none
    left-possible : 0 < calls_of attempt → MayStand attempt.packs (site_at before n).standing standing → (kept : Bool) (appended : Option Record) → attempt.appended ≡ appended
        → IsPossible (attempts (disarmed before) n attempt) (broken_line n stops ∷ []) (broken before n (if kept then appended else None) standing)
    left-possible some stands kept appended is = go kept appended is (subst (λ (was : Standing). MayStand attempt.packs was standing) (standing-same before n) stands)
      where
        go : (kept : Bool) (appended : Option Record) → attempt.appended ≡ appended → MayStand attempt.packs (site_at (disarmed before) n).standing standing
            → IsPossible (attempts (disarmed before) n attempt) (broken_line n stops ∷ []) (broken before n (if kept then appended else None) standing)
        go false appended is may = broken-possible None (without stops some standing may)
        go true None is may = broken-possible None (without stops some standing may)
        go true (Some more) is may = broken-possible (Some more) (with_record stops more is standing may)

  -- A fault fires only among some calls.
  fires-among : (calls : ℕ) (arm : Option Arm) (fired : Arm) → reached calls arm ≡ fires fired → 0 < calls
  fires-among zero arm fired is = absurd cc
  fires-among (suc more) arm fired is = omega arith

  reached-possible : (found : Reached) → reached (calls_of attempt) (site_at before n).arm ≡ found
      → IsPossible (attempts (disarmed before) n attempt) (attempted before n attempt found).0 (attempted before n attempt found).1
  reached-possible (waits arm) is =
      record { left = completed (disarmed before) n attempt None; comes = by_attempt _ _ n attempt _ whole; after = completed-same arm }
  reached-possible (fires arm) is =
      left-possible arm.stops (standing_left attempt.packs arm (site_at before n).standing) (fires-among (calls_of attempt) (site_at before n).arm arm is)
      (may-stand attempt.packs arm (site_at before n).standing) (nat_lt (attempt.calls + 2) arm.call && is_kept arm.mode) attempt.appended refl

ended-possible : (b other : Begun) → AreSame b other → IsPossible other (ended b).0 (ended b).1
ended-possible b other (both_settle lines after left same) = record { left = left; comes = without_attempt lines left; after = same }
ended-possible b other (both_attempt before n attempt) =
    reached-possible before n attempt (reached (calls_of attempt) (site_at before n).arm) refl

pub transition-may : (setup : Setup) (world : World) (event : Event) → IsWellFormed setup.catalog event → MayFollow setup (disarmed world) (without_arms (transition_of setup world event))
unfolding transition_of
transition-may setup world event well =
    let possible : IsPossible (begun setup (disarmed world) event) (ended (begun setup world event)).0 (ended (begun setup world event)).1 =
    ended-possible (begun setup world event) (begun setup (disarmed world) event) (begun-same setup world event) in
    record { well = well; left = possible.left; comes = possible.comes; after = possible.after }

transitions-may : (setup : Setup) (world : World) (transitions : List Transition) → AreTransitions setup world transitions → All (HasGoodEvent setup) transitions
    → IsRunWithFaults setup (disarmed world) (map without_arms transitions)
transitions-may setup world [] are good = ends (disarmed world)
transitions-may setup world (transition ∷ transitions) (one_more world' transition' transitions' is rest) good =
    goes_on (disarmed world) (without_arms transition) (map without_arms transitions)
    (subst (λ (t : Transition). MayFollow setup (disarmed world) (without_arms t)) (sym is)
    (transition-may setup world transition.event (All-head (HasGoodEvent setup) transition transitions good)))
    (transitions-may setup transition.world transitions rest (All-tail (HasGoodEvent setup) transition transitions good))

opening-disarmed : (setup : Setup) → disarmed (worlds.opening setup) ≡ worlds.opening setup
opening-disarmed setup = ap (λ (sites : List Site). record { sites = sites; sent = []; fresh = []; order = [] }) (all-disarmed setup.catalog.sites)
  where
    all-disarmed : (count : ℕ) → map disarmed_site (replicate count first_site) ≡ replicate count first_site
    all-disarmed zero = refl
    all-disarmed (suc count) = ap (λ (sites : List Site). first_site ∷ sites) (all-disarmed count)

pub run-may : (setup : Setup) (events : List Event) → All (IsWellFormed setup.catalog) events → IsRunWithFaults setup (worlds.opening setup) (map without_arms (run setup (worlds.opening setup) events))
run-may setup events good =
    subst (λ (first : World). IsRunWithFaults setup first (map without_arms (run setup (worlds.opening setup) events))) (opening-disarmed setup)
    (transitions-may setup (worlds.opening setup) (run setup (worlds.opening setup) events) (run-transitions setup (worlds.opening setup) events)
    (run-good setup (worlds.opening setup) events good))
