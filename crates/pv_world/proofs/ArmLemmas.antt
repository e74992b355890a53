-- What a cell stands for where something else is armed at its disk.
use Rattle.std.proofs.Common.{◌≡◌, ℕ, Bool, List, Option, Some, None, refl, sym, ap, subst, ◌∙◌}
use Rattle.std.specs.Option.{option_map}
use Rattle.pv_base.specs.Catalog.{Declared}
use Rattle.pv_disk.specs.MemDisk.{MemState}
use Rattle.pv_disk.specs.MemLaws.{mem_model}
use Rattle.pv_format.specs.Checkpoint.{Standing}
use Rattle.pv_format.specs.Record.{Record}
use Rattle.pv_ckpt.specs.CkptModel.{ckpt_model}
use Rattle.pv_ckpt.specs.declared.ckpt_log.CkptLog.{CkptLog}
use Rattle.pv_protocol.specs.State as model
use Rattle.pv_protocol.specs.State.{Running}
use Rattle.pv_site.specs.Recovered.{Remains}
use Rattle.pv_site.specs.SiteState.{SiteState}
use Rattle.pv_site.specs.Steps.{HoldsWhatRuns}
use Rattle.pv_world.specs.Disks.{Spells, armed_as}
use Rattle.pv_world.specs.Stands.{IsDown, IsUp}

-- the disk, where this is armed and nothing has fired
abbrev pub rearmed : MemState → Option model.Arm → MemState
rearmed disk armed = record disk { arms = record disk.arms { armed = option_map armed_as armed; fired = None } }

-- It holds what it held.
pub spells-rearmed : (records : List Record) (standing : Standing) (before armed : Option model.Arm) (fired : Option Bool) (disk : MemState)
    → Spells records standing before fired disk → Spells records standing armed None (rearmed disk armed)
spells-rearmed records standing before armed fired disk spells = record {
  contents = spells.contents;
  spelled = spells.spelled;
  holds = record { stands = spells.holds.stands; settled = spells.holds.settled; armed = refl; fired = refl; reads = spells.holds.reads };
}

-- the journal, on whose disk this is armed
abbrev pub rearmed-journal : CkptLog MemState → Option model.Arm → CkptLog MemState
rearmed-journal journal armed = record journal { disk = rearmed journal.disk armed }

module _ (catalog : Declared) (n : ℕ) (is : model.Site) (armed : Option model.Arm) where
  holds-rearmed : (journal : CkptLog MemState) (surplus : ℕ) (records : List Record) (running : Option Running)
      → HoldsWhatRuns (ckpt_model mem_model) journal surplus records running → HoldsWhatRuns (ckpt_model mem_model) (rearmed-journal journal armed) surplus records running
  holds-rearmed journal surplus records None holds = tt
  holds-rearmed journal surplus records (Some running) holds = record { up = holds.up; size = holds.size; held = holds.held }

  -- A site that is up, on whose disk this is armed.
  pub up-rearmed : (up : SiteState (CkptLog MemState)) → IsUp catalog n up is
      → IsUp catalog n (record up { log = rearmed-journal up.log armed }) (record is { arm = armed })
  up-rearmed up stands = record {
    me = stands.me;
    catalog = stands.catalog;
    records = stands.records;
    surplus = stands.surplus;
    runs = stands.runs;
    running = stands.running;
    ready = record {
      intact = record {
        starts = stands.ready.intact.starts;
        bounded = stands.ready.intact.bounded;
        limited = stands.ready.intact.limited;
        root = stands.ready.intact.root;
        behind_roots = stands.ready.intact.behind_roots;
        in_range = stands.ready.intact.in_range;
        packed = stands.ready.intact.packed;
        short = stands.ready.intact.short;
        at_rest = stands.ready.intact.at_rest;
        durable = stands.ready.intact.durable;
      };
      limit = stands.ready.limit;
      holds = holds-rearmed up.log up.surplus up.records up.running stands.ready.holds;
    };
    disk = spells-rearmed is.records is.standing is.arm armed None up.log.disk stands.disk;
  }

  -- The same where the disk was lent by the journal, and the journal by the site.
  pub up-lent : (up : SiteState (CkptLog MemState)) (journal : CkptLog MemState) (before after : MemState) → journal ≡ up.log → before ≡ journal.disk
      → after ≡ rearmed before armed → IsUp catalog n up is
      → IsUp catalog n (record up { log = record journal { disk = after } }) (record is { arm = armed })
  up-lent up journal before after of_site of_journal arms stands =
      let same : after ≡ rearmed up.log.disk armed =
      arms ∙ ap (λ (disk : MemState). rearmed disk armed) (of_journal ∙ ap (λ (j : CkptLog MemState). j.disk) of_site) in
      let lent : record journal { disk = after } ≡ rearmed-journal up.log armed = λ i. record (of_site i) { disk = same i } in
      subst (λ (log : CkptLog MemState). IsUp catalog n (record up { log = log }) (record is { arm = armed })) (sym lent) (up-rearmed up stands)

  -- One that is down.
  pub down-rearmed : (disk : MemState) (left : Remains) → IsDown catalog n disk left is → IsDown catalog n (rearmed disk armed) left (record is { arm = armed })
  down-rearmed disk left stands = record {
    me = stands.me;
    catalog = stands.catalog;
    records = stands.records;
    surplus = stands.surplus;
    down = stands.down;
    disk = spells-rearmed is.records is.standing is.arm armed None disk stands.disk;
  }
