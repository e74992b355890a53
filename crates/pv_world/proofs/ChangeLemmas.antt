-- What comes of an event that changes one site and prints one line.
use Rattle.std.proofs.Common.{◌≡◌, ℕ, ◌<◌, ◌≤◌, Bool, true, false, Option, Some, None, List, [], ◌∷◌, ◌++◌, length, refl, sym, ap, subst, ◌∙◌}
use Rattle.std.specs.Prelude.{get_or, Ok, nat_lt, if◌then◌else◌}
use Rattle.std.specs.Vec.{with_item}
use Rattle.std.proofs.lemmas.Bool.{lt-ltb, le-ltb}
use Rattle.std.proofs.lemmas.List.{append-nil, map-append}
use Rattle.pv_format.specs.Checkpoint.{greatest_number}
use Rattle.pv_law_events.specs.Replays.{AreReplayable, CanBeReplayed}
use Rattle.pv_protocol.specs.Arms.{attempted}
use Rattle.pv_law_world.specs.Ranges.{IsWorldInRange}
use Rattle.pv_protocol.specs.Attempt.{Attempt, Begun, at_once, attempts, halted, opened, packed, of_checkpoint}
use Rattle.pv_protocol.specs.Lines as protocol
use Rattle.pv_protocol.specs.State as state
use Rattle.pv_protocol.specs.State.{Running}
use Rattle.pv_protocol.specs.World as model
use Rattle.pv_protocol.specs.World.{site_at, with_site}
use Rattle.pv_protocol.specs.WorldStep.{ended}
use Rattle.pv_script.specs.LineView.{line_of}
use Rattle.pv_script.specs.declared.line.Line.{Line}
use Rattle.pv_site.specs.SiteState.{setup_of}
use Rattle.pv_site.specs.Given.{input_in}
use Rattle.pv_site.specs.declared.input.Given.{Given}
use Rattle.pv_world.proofs.GiveLemmas.{broken-off, comes-by, site-given, site-opened}
use Rattle.pv_world.proofs.StandLemmas.{site-stands, stands-with-site}
use Rattle.pv_world.proofs.StartLemmas.{halted-down, halted-up, opened-done, opened-down, opened-up, quiet, with-own}
use Rattle.pv_world.specs.Cells.{CanPack, CanStart, HasBegun, HasEnded, HasPacked, HasStarted, HasStopped, TakesInput, broken_site, completed_site, packed_lines, start_attempt, start_line}
use Rattle.pv_world.specs.Stands.{Stands, StandsForSite}
use Rattle.pv_world.specs.Steps.{CanGive, Comes, IsSameBeside, lines_of}
use Rattle.pv_world.specs.declared.cell.Cell.{Cell}
use Rattle.pv_world.specs.declared.cell.Checkpointed.{Checkpointed}
use Rattle.pv_world.specs.declared.cell.Checkpointed.TheVariants as packed_as
use Rattle.pv_world.specs.declared.cell.Start.{Start}
use Rattle.pv_world.specs.declared.cell.Start.TheVariants.{Up, Started, Full, Spent, Broke}
use Rattle.pv_world.specs.declared.world.World.{World}

-- the world with this cell in the place of the one of this number
abbrev pub with_cell : World → ℕ → Cell → World
with_cell world n cell = record world { cells = with_item world.cells n cell }

-- One line more.
pub pushed : (before after : List Line) (line : Line) → after ≡ before ++ line ∷ [] → lines_of after ≡ lines_of before ++ line_of line ∷ []
pushed before after line is = ap lines_of is ∙ map-append line_of before (line ∷ [])

-- The event prints these lines, and the world in memory stands for the one after it.
pub record EndsIn (new : World) (begun : Begun) (lines : List protocol.Line) : Type 0 where
  pub next : model.World
  pub ends : ended begun ≡ (lines, next)
  pub stands : Stands new next

-- It prints this line.
abbrev pub Ends : World → Begun → protocol.Line → Type 0
Ends new begun line = EndsIn new begun (line ∷ [])

pub ends-come : {X : Type 0} (old new : World) (before after : List Line) (begun : Begun) (line : Line) (x : X) → Ends new begun (line_of line) → IsSameBeside old new
    → after ≡ before ++ line ∷ [] → Comes {X = X} old new before after begun (Ok x)
ends-come {X} old new before after begun line x end same more =
    comes-by {X = X} old new before after begun (line_of line ∷ []) end.next (Ok x) end.ends (end.stands, same, pushed before after line more)

-- No line more.
pub silent-ends-come : {X : Type 0} (old new : World) (lines : List Line) (begun : Begun) (x : X) → EndsIn new begun [] → IsSameBeside old new
    → Comes {X = X} old new lines lines begun (Ok x)
silent-ends-come {X} old new lines begun x end same =
    comes-by {X = X} old new lines lines begun [] end.next (Ok x) end.ends (end.stands, same, sym (append-nil (lines_of lines)))

module _ (old : World) (is : model.World) (stands : Stands old is) (n : ℕ) (within : n < old.catalog.sites) (cell : Cell) (at : cell ≡ get_or old.cells.items n cell) where
  -- The cell is the site of its number.
  pub own-stands : StandsForSite old.catalog n cell (site_at is n)
  own-stands = subst (λ (c : Cell). StandsForSite old.catalog n c (site_at is n)) (sym at) (site-stands old is stands n cell within)

  there : n < length is.sites
  there = subst (λ (count : ℕ). n < count) (sym stands.count) within

  -- It can start.
  pub own-can-start : AreReplayable (setup_of old.catalog) is
      → AreReplayable (setup_of old.catalog) (ended (opened (setup_of old.catalog) is n (site_at is n).running)).1 → CanStart old.catalog n cell
  own-can-start replayable after = record {
    is = site_at is n;
    stands = own-stands;
    replayable = replayable n within;
    after =
        subst (λ (site : state.Site). CanBeReplayed (setup_of old.catalog) n site.records)
        (site-opened old.catalog is n there (site_at is n).running) (after n within);
  }

  -- Another site in its place.
  pub put-stands : (new : Cell) (site : state.Site) → StandsForSite old.catalog n new site → Stands (with_cell old n new) (with_site is n site)
  put-stands new site now = stands-with-site old is stands (with_cell old n new) refl n new site refl refl refl now

  -- The same site.
  pub kept-stands : (new : Cell) → new ≡ cell → Stands (with_cell old n new) is
  kept-stands new same =
      subst (Stands (with_cell old n new)) (with-own is n)
      (put-stands new (site_at is n) (subst (λ (c : Cell). StandsForSite old.catalog n c (site_at is n)) (sym same) own-stands))

  module _ (new : Cell) where
    -- A stop.
    stopped-ends : (running : Option Running) (was_up : Bool) → (site_at is n).running ≡ running → HasStopped old.catalog n cell new (site_at is n) running was_up
        → (line : protocol.Line) → (was_up ≡ true → line ≡ protocol.Line.stopped n) → (was_up ≡ false → line ≡ protocol.Line.down n)
        → Ends (with_cell old n new) (halted is n (site_at is n).running) line
    stopped-ends None was_up memory stopped line rose fell = record {
      next = is;
      ends = halted-down is n memory ∙ ap (λ (l : protocol.Line). (l ∷ [], is)) (sym (fell stopped.0));
      stands = kept-stands new stopped.1;
    }
    stopped-ends (Some running) was_up memory stopped line rose fell = record {
      next = with_site is n (record (site_at is n) { running = None });
      ends = halted-up is n running memory ∙ ap (λ (l : protocol.Line). (l ∷ [], with_site is n (record (site_at is n) { running = None }))) (sym (rose stopped.0));
      stands = put-stands new (record (site_at is n) { running = None }) stopped.1;
    }

    pub stop-ends : (was_up : Bool) → HasStopped old.catalog n cell new (site_at is n) (site_at is n).running was_up
        → (line : protocol.Line) → (was_up ≡ true → line ≡ protocol.Line.stopped n) → (was_up ≡ false → line ≡ protocol.Line.down n)
        → Ends (with_cell old n new) (halted is n (site_at is n).running) line
    stop-ends was_up stopped line rose fell = stopped-ends (site_at is n).running was_up refl stopped line rose fell

    -- What the site of this number attempts in a start.
    abbrev OwnStart : Attempt
    OwnStart = start_attempt old.catalog n (site_at is n)

    -- A start that isn't broken off.
    done-ends : (answer : Start) → (site_at is n).running ≡ None → HasEnded old.catalog n new (site_at is n) answer
        → Ends (with_cell old n new) (opened (setup_of old.catalog) is n (site_at is n).running) (start_line n answer)
    done-ends answer memory ended = record {
      next = with_site is n (completed_site (site_at is n) OwnStart ended.1.armed);
      ends = opened-done is n old.catalog ended.1.armed (start_line n answer) memory ended.1.waits ended.0;
      stands = put-stands new (completed_site (site_at is n) OwnStart ended.1.armed) ended.1.stands;
    }

    -- A start of a site that is down.
    begun-ends : (answer : Start) → (site_at is n).running ≡ None → HasBegun old.catalog n new (site_at is n) answer
        → Ends (with_cell old n new) (opened (setup_of old.catalog) is n (site_at is n).running) (start_line n answer)
    begun-ends Up memory begun = absurd begun
    begun-ends (Started epoch) memory begun = done-ends (Started epoch) memory begun
    begun-ends (Full length) memory begun = done-ends (Full length) memory begun
    begun-ends Spent memory begun = done-ends Spent memory begun
    begun-ends (Broke stops) memory begun = record {
      next = with_site is n (broken_site (site_at is n) OwnStart begun.arm);
      ends = opened-down is n old.catalog memory ∙ broken-off is n OwnStart begun.arm stops begun.fires begun.kind;
      stands = put-stands new (broken_site (site_at is n) OwnStart begun.arm) begun.stands;
    }

    -- A start.
    started-ends : (running : Option Running) (answer : Start) → (site_at is n).running ≡ running → HasStarted old.catalog n cell new (site_at is n) running answer
        → Ends (with_cell old n new) (opened (setup_of old.catalog) is n (site_at is n).running) (start_line n answer)
    started-ends (Some running) answer memory started = record {
      next = is;
      ends = opened-up is n old.catalog running memory ∙ ap (λ (s : Start). (start_line n s ∷ [], is)) (sym started.0);
      stands = kept-stands new started.1;
    }
    started-ends None answer memory started = begun-ends answer memory started

    pub start-ends : (answer : Start) → HasStarted old.catalog n cell new (site_at is n) (site_at is n).running answer
        → Ends (with_cell old n new) (opened (setup_of old.catalog) is n (site_at is n).running) (start_line n answer)
    start-ends answer started = started-ends (site_at is n).running answer refl started

  -- A checkpoint.

  pub own-can-pack : AreReplayable (setup_of old.catalog) is → IsWorldInRange (setup_of old.catalog) is → CanPack cell
  own-can-pack replayable range = record {
    catalog = old.catalog;
    n = n;
    is = site_at is n;
    stands = own-stands;
    room = (range.sites n within).room;
    replayable = replayable n within;
  }

  module _ (new : Cell) (running : Running) (memory : (site_at is n).running ≡ Some running) where
    abbrev OwnCheckpoint : Attempt
    OwnCheckpoint = of_checkpoint (site_at is n).standing running

    -- A site that is up begins it, unless the number in force is the greatest.
    packing : (site_at is n).standing.number < greatest_number → ended (packed is n (site_at is n).running) ≡ ended (attempts is n OwnCheckpoint)
    packing some =
        let test : nat_lt (site_at is n).standing.number greatest_number ≡ true = lt-ltb (site_at is n).standing.number greatest_number some in
        ap (λ (m : Option Running). ended (packed is n m)) memory
        ∙ ap (λ (b : Bool). ended (if b then attempts is n OwnCheckpoint else at_once (protocol.Line.spent n ∷ []) is)) test

    spending : greatest_number ≤ (site_at is n).standing.number → ended (packed is n (site_at is n).running) ≡ (protocol.Line.spent n ∷ [], is)
    spending most =
        let test : nat_lt (site_at is n).standing.number greatest_number ≡ false = le-ltb (site_at is n).standing.number greatest_number most in
        ap (λ (m : Option Running). ended (packed is n m)) memory
        ∙ ap (λ (b : Bool). ended (if b then attempts is n OwnCheckpoint else at_once (protocol.Line.spent n ∷ []) is)) test

    up-packed-ends : (answer : Checkpointed) → HasPacked old.catalog n cell new (site_at is n) (Some running) answer
        → EndsIn (with_cell old n new) (packed is n (site_at is n).running) (packed_lines n answer)
    up-packed-ends packed_as.Down has = absurd has
    up-packed-ends packed_as.Done (some, made) = record {
      next = with_site is n (completed_site (site_at is n) OwnCheckpoint made.armed);
      ends = packing some ∙ ap (attempted is n OwnCheckpoint) made.waits
          ∙ ap (λ (world : model.World). ([], world)) (quiet is n (completed_site (site_at is n) OwnCheckpoint made.armed));
      stands = put-stands new (completed_site (site_at is n) OwnCheckpoint made.armed) made.stands;
    }
    up-packed-ends packed_as.Spent (most, same) = record { next = is; ends = spending most; stands = kept-stands new same }
    up-packed-ends (packed_as.Broke stops) (some, broken) = record {
      next = with_site is n (broken_site (site_at is n) OwnCheckpoint broken.arm);
      ends = packing some ∙ broken-off is n OwnCheckpoint broken.arm stops broken.fires broken.kind;
      stands = put-stands new (broken_site (site_at is n) OwnCheckpoint broken.arm) broken.stands;
    }

  pub packed-ends : (new : Cell) (answer : Checkpointed) → HasPacked old.catalog n cell new (site_at is n) (site_at is n).running answer
      → EndsIn (with_cell old n new) (packed is n (site_at is n).running) (packed_lines n answer)
  packed-ends new answer has = by (site_at is n).running refl has
    where
      by : (running : Option Running) → (site_at is n).running ≡ running → HasPacked old.catalog n cell new (site_at is n) running answer
          → EndsIn (with_cell old n new) (packed is n (site_at is n).running) (packed_lines n answer)
      by None memory (down, same) = record {
        next = is;
        ends = ap (λ (m : Option Running). ended (packed is n m)) memory ∙ ap (λ (a : Checkpointed). (packed_lines n a, is)) (sym down);
        stands = kept-stands new same;
      }
      by (Some running) memory some = up-packed-ends new running memory answer some

-- A site that is given an input takes it.
pub own-takes : (world : World) (n : ℕ) (input : Given) → (can : CanGive world n input) → (cell : Cell) → cell ≡ get_or world.cells.items n cell
    → TakesInput world.catalog n cell input
own-takes world n input can cell at = record {
  is = site_at can.is n;
  stands = own-stands world can.is can.stands n can.site cell at;
  fits = can.fits;
  replayable = can.replayable n can.site;
  after =
      subst (λ (site : state.Site). CanBeReplayed (setup_of world.catalog) n site.records)
      (site-given world.catalog can.is n (subst (λ (count : ℕ). n < count) (sym can.stands.count) can.site) (site_at can.is n).running (input_in input)) (can.after n can.site);
}
