-- What an event comes to before any write or sync is made.
use Rattle.std.specs.Prelude.{ℕ, Bool, true, false, not, nat_lt, if◌then◌else◌, ◌&&◌, ◌==◌, Option, Some, None, List, [], ◌∷◌, slice_get}
use Rattle.pv_format.specs.Checkpoint.{Standing, calls_of, greatest_number}
use Rattle.pv_format.specs.Message.{Envelope}
use Rattle.pv_format.specs.Record.{Record}
use Rattle.pv_model.specs.Events.{Event}
use Rattle.pv_protocol.specs.Lines.{Line, lines_of}
use Rattle.pv_protocol.specs.Report.{report_of, total_of, sent_lines}
use Rattle.pv_protocol.specs.Start.{Started, starts, too_long, no_epoch, site_start}
use Rattle.pv_protocol.specs.State.{Setup, Running, Arm, Input, submit, receive, tick, Outgoing, Placed, Step}
use Rattle.pv_protocol.specs.Step.{site_step}
use Rattle.pv_protocol.specs.World.{World, site_at, with_site, with_done}

-- What a site is about to do: it makes so many writes and syncs, which pack its log or else only read it, then appends a record if there is one, and when
-- all of that is written it has this in memory, sends and prints this, and a transaction may have reached its lock point.
pub record Attempt : Type 0 where
  pub calls : ℕ
  pub packs : Bool
  pub appended : Option Record
  pub running : Option Running
  pub sends : List Outgoing
  pub lines : List Line
  pub placed : Option Placed

-- what a running site's step is about to do
abbrev pub of_step : ℕ → Step → Attempt
of_step n step =
    record {
      calls = 0;
      packs = false;
      appended = step.appended;
      running = Some step.running;
      sends = step.sends;
      lines = lines_of n step.notes;
      placed = step.placed;
    }

-- a start that is refused, for the cause that this line says; the journal was synced to be read
abbrev pub refused_start : Line → Attempt
refused_start line = record { calls = 1; packs = false; appended = None; running = None; sends = []; lines = line ∷ []; placed = None }

-- what a start is about to do: it syncs the journal, reads it, and appends its new epoch
abbrev pub of_start : ℕ → Started → Attempt
of_start n (starts running epoch) =
    record { calls = 1; packs = false; appended = Some epoch; running = Some running; sends = []; lines = Line.started n running.epoch ∷ []; placed = None }
of_start n (too_long length) = refused_start (Line.full n length)
of_start n no_epoch = refused_start (Line.spent n)

-- An event prints lines and changes the world at once, without a write or a sync, or a site attempts something in this world.
pub data Begun : Type 0 where
  at_once : List Line → World → Begun
  attempts : World → (site : ℕ) → Attempt → Begun

-- a site is given something to do: only one that is up takes it
abbrev pub given : Setup → World → ℕ → Input → Option Running → Begun
given setup world n input None = at_once (Line.down n ∷ []) world
given setup world n input (Some running) = attempts world n (of_step n (site_step setup n (site_at world n).records running input))

-- a message is done, and its receiver takes it
abbrev pub delivered : Setup → World → ℕ → Option Envelope → Begun
delivered setup world n None = at_once (Line.no_message n ∷ []) world
delivered setup world n (Some envelope) =
    given setup (with_done world n) envelope.to (receive envelope.from envelope.message) (site_at world envelope.to).running

-- a message is done without being taken
abbrev pub lost : World → ℕ → Option Envelope → Begun
lost world n None = at_once (Line.no_message n ∷ []) world
lost world n (Some envelope) = at_once [] (with_done world n)

-- the marks of the messages, where those to the site are done
abbrev pub without_site : ℕ → List Envelope → List Bool → List Bool
without_site n [] marks = marks
without_site n (envelope ∷ sent) [] = []
without_site n (envelope ∷ sent) (mark ∷ marks) = (mark && not (envelope.to == n)) ∷ without_site n sent marks

-- a site stops between steps, and loses what it has in memory
abbrev pub halted : World → ℕ → Option Running → Begun
halted world n None = at_once (Line.down n ∷ []) world
halted world n (Some running) = at_once (Line.stopped n ∷ []) (with_site world n (record (site_at world n) { running = None }))

-- a site that is down is started
abbrev pub opened : Setup → World → ℕ → Option Running → Begun
opened setup world n (Some running) = at_once (Line.up n ∷ []) world
opened setup world n None = attempts world n (of_start n (site_start setup 0 (site_at world n).records))

-- what a site that is up is about to do in a checkpoint: its log, which stands so, is written anew, and nothing else changes
abbrev pub of_checkpoint : Standing → Running → Attempt
of_checkpoint standing running =
    record { calls = calls_of standing.other_open; packs = true; appended = None; running = Some running; sends = []; lines = []; placed = None }

-- A site that is up, and whose log stands so, writes it anew, packed, where a number is left that is greater than the one in force.
abbrev pub packs_up : World → ℕ → Standing → Running → Begun
packs_up world n standing running =
    if nat_lt standing.number greatest_number then attempts world n (of_checkpoint standing running) else at_once (Line.spent n ∷ []) world

-- a site writes its log anew: only one that is up does
abbrev pub packed : World → ℕ → Option Running → Begun
packed world n None = at_once (Line.down n ∷ []) world
packed world n (Some running) = packs_up world n (site_at world n).standing running

-- the world with this fault armed at a site's disk, in place of an earlier one
abbrev pub with_arm : World → ℕ → Option Arm → World
with_arm world n arm = with_site world n (record (site_at world n) { arm = arm })

-- What an event comes to. A pump is its deliveries, each an event of its own, and does nothing besides.
unfoldable pub begun : Setup → World → Event → Begun
begun setup world (Event.submit n query text program) = given setup world n (submit program) (site_at world n).running
begun setup world (Event.deliver n) = delivered setup world n (slice_get world.sent n)
begun setup world (Event.pump most) = at_once [] world
begun setup world (Event.lose n) = lost world n (slice_get world.sent n)
begun setup world (Event.drop n) = at_once [] (record world { fresh = without_site n world.sent world.fresh })
begun setup world (Event.tick n) = given setup world n tick (site_at world n).running
begun setup world (Event.stop n) = halted world n (site_at world n).running
begun setup world (Event.start n) = opened setup world n (site_at world n).running
begun setup world (Event.arm n call mode stops) = at_once [] (with_arm world n (Some (record { call = call; mode = mode; stops = stops })))
begun setup world (Event.mend n) = at_once [] (with_arm world n None)
begun setup world (Event.checkpoint n) = packed world n (site_at world n).running
begun setup world Event.sent = at_once (sent_lines world) world
begun setup world Event.report = at_once (report_of setup world) world
begun setup world Event.total = at_once (total_of setup world) world
