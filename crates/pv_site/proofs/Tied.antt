-- The parts of a site stay those of one site where its works or its locks change, and then hold what the definitions say.
use Rattle.std.proofs.Common.{◌≡◌, ◌+◌, Bool, Some, None, Option, List, ◌++◌, refl, sym, ap, subst, ◌∙◌}
use Rattle.std.specs.Prelude.{nat_lt, not, All}
use Rattle.std.specs.List.{find}
use Rattle.std.specs.Option.{option_to_list}
use Rattle.std.proofs.lemmas.List.{append-nil}
use Rattle.std.proofs.lemmas.List.Elements.{All-filter, All-map, All-weaker}
use Rattle.pv_base.proofs.MapLemmas.{map-map}
use Rattle.pv_base.specs.Assignment.{AreAscending, is_same_txn}
use Rattle.pv_base.specs.declared.limits.TheConstants.{TICKS}
use Rattle.pv_base.specs.declared.txn.TxnId.{TxnId}
use Rattle.pv_base.specs.declared.reply.Reply.{Reply}
use Rattle.pv_base.specs.Polyvalue.{Case}
use Rattle.pv_format.specs.Record.{Record}
use Rattle.pv_coord.specs.Coordinator as own
use Rattle.pv_coord.specs.Coordinator.{Coordinator, CoordMemory}
use Rattle.pv_coord.specs.Planned.{IsPlanned}
use Rattle.pv_coord.specs.Work.{Work, txn_of}
use Rattle.pv_law_step.proofs.Kept.{find-of, with-one-all, without-all}
use Rattle.pv_law_step.proofs.Lists.{of-some}
use Rattle.pv_law_step.proofs.OrderLemmas.{put-order, filter-order}
use Rattle.pv_locks.specs.LockTable as table
use Rattle.pv_locks.specs.LockTable.{LockTable}
use Rattle.pv_protocol.specs.Here.{Here, with_entry, without_entry}
use Rattle.pv_protocol.specs.Keyed.{AreInOrder}
use Rattle.pv_protocol.specs.State as model
use Rattle.pv_protocol.specs.State.{Running}
use Rattle.pv_protocol.specs.Step.{after_step}
use Rattle.pv_protocol.specs.Tick.{older}
use Rattle.pv_site.proofs.Entries.{after-tick, after_tick, with-work, without-work}
use Rattle.pv_site.specs.SiteParts.{AreKept, AreTied, HaveStepped, IsReplyOf, IsWorkOf, here_of, running_of}
use Rattle.pv_site.specs.declared.parts.SiteParts.{SiteParts}

-- A step that appends nothing leaves the records.
pub after-none : (here : Here) (step : model.Step) → step.appended ≡ None → after_step here step ≡ record here { running = step.running }
after-none here step none =
    ap (λ (appended : Option Record). record here { records = here.records ++ option_to_list appended; running = step.running }) none
    ∙ ap (λ (records : List Record). record here { records = records; running = step.running }) (append-nil here.records)

-- A step that appends nothing was made, where the memory is what it leaves.
pub stepped : (old new : SiteParts) (step : model.Step) → step.appended ≡ None → here_of new ≡ record (here_of old) { running = step.running } → AreTied new
    → HaveStepped old new step
stepped old new step none here tied = record { here = here ∙ sym (after-none (here_of old) step none); tied = tied }

module _ (parts : SiteParts) (tied : AreTied parts) where
  -- Where nothing happens, nothing changes.
  pub stepped-nothing : (step : model.Step) → step.appended ≡ None → step.running ≡ (here_of parts).running → HaveStepped parts parts step
  stepped-nothing step none same =
      stepped parts parts step none (ap (λ (running : Running). record (here_of parts) { running = running }) (sym same)) tied

  pub kept : AreKept parts parts
  kept = record { here = refl; tied = tied }

  -- A work that is found is one of the site.
  pub work-found : (test : Work → Bool) (work : Work) → find test parts.coord.contents.entries ≡ Some work → IsWorkOf parts.catalog parts.store.records work
  work-found test work is =
      of-some (IsWorkOf parts.catalog parts.store.records) (find test parts.coord.contents.entries) work
      (find-of (IsWorkOf parts.catalog parts.store.records) test parts.coord.contents.entries tied.works) is

  -- It has the plan of its program.
  pub planned-found : (test : Work → Bool) (work : Work) → find test parts.coord.contents.entries ≡ Some work → IsPlanned (here_of parts) work
  planned-found test work is = (work-found test work is).plan

  -- The same parts but for the coordinator, which has other works.
  pub tied-coord : (coord : CoordMemory) → coord.contents.site ≡ parts.coord.contents.site → coord.contents.epoch ≡ parts.coord.contents.epoch
      → AreInOrder txn_of coord.contents.entries → All (IsWorkOf parts.catalog parts.store.records) coord.contents.entries
      → AreTied (record parts { coord = coord })
  tied-coord coord site epoch order works = record {
    store_site = tied.store_site;
    store_catalog = tied.store_catalog;
    coord_site = site ∙ tied.coord_site;
    epochs = epoch ∙ tied.epochs;
    order = order;
    works = works;
  }

  -- The same parts but for the locks.
  pub tied-locks : (locks : LockTable) → locks.epoch ≡ parts.locks.epoch → AreTied (record parts { locks = locks })
  tied-locks locks epoch = record {
    store_site = tied.store_site;
    store_catalog = tied.store_catalog;
    coord_site = tied.coord_site;
    epochs = tied.epochs ∙ sym epoch;
    order = tied.order;
    works = tied.works;
  }

  module _ (coord : CoordMemory) where
    abbrev works_now : List Work
    works_now = parts.coord.contents.entries

    here-coord : (next : Coordinator) → coord.contents ≡ next → here_of (record parts { coord = coord }) ≡ record (here_of parts) { running = running_of parts.locks next }
    here-coord next is = ap (λ (contents : Coordinator). record (here_of parts) { running = running_of parts.locks contents }) is

    -- There is room for more, and nothing else changes.
    pub tied-same : coord.contents ≡ parts.coord.contents → AreTied (record parts { coord = coord })
    tied-same is =
        tied-coord coord (ap (λ (c : Coordinator). c.site) is) (ap (λ (c : Coordinator). c.epoch) is)
        (subst (λ (c : Coordinator). AreInOrder txn_of c.entries) (sym is) tied.order)
        (subst (λ (c : Coordinator). All (IsWorkOf parts.catalog parts.store.records) c.entries) (sym is) tied.works)

    pub kept-same : coord.contents ≡ parts.coord.contents → AreKept parts (record parts { coord = coord })
    kept-same is = record { here = here-coord parts.coord.contents is; tied = tied-same is }

    -- A work is put in.
    pub tied-with : (work : Work) → IsWorkOf parts.catalog parts.store.records work → coord.contents ≡ own.with_work parts.coord.contents work
        → AreTied (record parts { coord = coord })
    tied-with work new is =
        tied-coord coord (ap (λ (c : Coordinator). c.site) is) (ap (λ (c : Coordinator). c.epoch) is)
        (subst (λ (c : Coordinator). AreInOrder txn_of c.entries) (sym is) (put-order txn_of work works_now tied.order))
        (subst (λ (c : Coordinator). All (IsWorkOf parts.catalog parts.store.records) c.entries) (sym is)
        (with-one-all (IsWorkOf parts.catalog parts.store.records) txn_of work works_now new tied.works))

    pub here-with : (work : Work) → coord.contents ≡ own.with_work parts.coord.contents work
        → here_of (record parts { coord = coord }) ≡ record (here_of parts) { running = with_entry (here_of parts).running work.entry }
    here-with work is =
        here-coord (own.with_work parts.coord.contents work) is
        ∙ ap (λ (running : Running). record (here_of parts) { running = running }) (sym (with-work parts.locks parts.coord.contents work))

    -- A transaction begins.
    pub tied-beginning : (work : Work) → IsWorkOf parts.catalog parts.store.records work → coord.contents ≡ own.beginning parts.coord.contents work
        → AreTied (record parts { coord = coord })
    tied-beginning work new is =
        tied-coord coord (ap (λ (c : Coordinator). c.site) is) (ap (λ (c : Coordinator). c.epoch) is)
        (subst (λ (c : Coordinator). AreInOrder txn_of c.entries) (sym is) (put-order txn_of work works_now tied.order))
        (subst (λ (c : Coordinator). All (IsWorkOf parts.catalog parts.store.records) c.entries) (sym is)
        (with-one-all (IsWorkOf parts.catalog parts.store.records) txn_of work works_now new tied.works))

    pub here-beginning : (work : Work) → coord.contents ≡ own.beginning parts.coord.contents work
        → here_of (record parts { coord = coord })
        ≡ record (here_of parts) { running = with_entry (record (here_of parts).running { next_txn = (here_of parts).running.next_txn + 1 }) work.entry }
    here-beginning work is =
        here-coord (own.beginning parts.coord.contents work) is
        ∙ ap (λ (running : Running). record (here_of parts) { running = running })
        (sym (with-work parts.locks (record parts.coord.contents { next = parts.coord.contents.next + 1 }) work))

    -- The work on a transaction is taken out.
    pub tied-without : (txn : TxnId) → coord.contents ≡ own.without_work parts.coord.contents txn → AreTied (record parts { coord = coord })
    tied-without txn is =
        tied-coord coord (ap (λ (c : Coordinator). c.site) is) (ap (λ (c : Coordinator). c.epoch) is)
        (subst (λ (c : Coordinator). AreInOrder txn_of c.entries) (sym is)
        (filter-order txn_of (λ (work : Work). not (is_same_txn txn (txn_of work))) works_now tied.order))
        (subst (λ (c : Coordinator). All (IsWorkOf parts.catalog parts.store.records) c.entries) (sym is)
        (without-all (IsWorkOf parts.catalog parts.store.records) txn_of txn works_now tied.works))

    pub here-without : (txn : TxnId) → coord.contents ≡ own.without_work parts.coord.contents txn
        → here_of (record parts { coord = coord }) ≡ record (here_of parts) { running = without_entry (here_of parts).running txn }
    here-without txn is =
        here-coord (own.without_work parts.coord.contents txn) is
        ∙ ap (λ (running : Running). record (here_of parts) { running = running }) (sym (without-work parts.locks parts.coord.contents txn))

    -- A tick passes.
    older-is : (work : Work) → IsWorkOf parts.catalog parts.store.records work
        → IsWorkOf parts.catalog parts.store.records (record work { entry = record work.entry { age = work.entry.age + 1 } })
    older-is work is = record { plan = is.plan; taken = is.taken; stage = is.stage; reply = older-reply work.reply is.reply } where
      older-reply : (reply : Option (List (Case Reply))) → IsReplyOf parts.store.records work.entry reply
          → IsReplyOf parts.store.records (record work.entry { age = work.entry.age + 1 }) reply
      older-reply None is = is
      older-reply (Some reply) is = is

    pub tied-tick : (locks : LockTable) → locks ≡ table.older parts.locks → coord.contents ≡ after_tick parts.coord.contents
        → AreTied (record parts { coord = coord; locks = locks })
    tied-tick locks ticked is = record {
      store_site = tied.store_site;
      store_catalog = tied.store_catalog;
      coord_site = ap (λ (c : Coordinator). c.site) is ∙ tied.coord_site;
      epochs = ap (λ (c : Coordinator). c.epoch) is ∙ tied.epochs ∙ sym (ap (λ (l : LockTable). l.epoch) ticked);
      order = subst (λ (c : Coordinator). AreInOrder txn_of c.entries) (sym is)
          (filter-order txn_of (λ (work : Work). nat_lt work.entry.age TICKS) (own.older works_now)
          (subst AreAscending (sym (map-map txn_of (λ (work : Work). record work { entry = record work.entry { age = work.entry.age + 1 } }) works_now)) tied.order));
      works = subst (λ (c : Coordinator). All (IsWorkOf parts.catalog parts.store.records) c.entries) (sym is)
          (All-filter (λ (work : Work). nat_lt work.entry.age TICKS) (IsWorkOf parts.catalog parts.store.records) (own.older works_now)
          (All-map (IsWorkOf parts.catalog parts.store.records) (λ (work : Work). record work { entry = record work.entry { age = work.entry.age + 1 } }) works_now
          (All-weaker (IsWorkOf parts.catalog parts.store.records)
          (λ (work : Work). IsWorkOf parts.catalog parts.store.records (record work { entry = record work.entry { age = work.entry.age + 1 } })) older-is works_now tied.works)));
    }

    pub here-tick : (locks : LockTable) → locks ≡ table.older parts.locks → coord.contents ≡ after_tick parts.coord.contents
        → here_of (record parts { coord = coord; locks = locks }) ≡ record (here_of parts) { running = older (here_of parts).running }
    here-tick locks ticked is =
        ap (λ (l : LockTable). record (here_of parts) { running = running_of l coord.contents }) ticked
        ∙ ap (λ (c : Coordinator). record (here_of parts) { running = running_of (table.older parts.locks) c }) is
        ∙ ap (λ (running : Running). record (here_of parts) { running = running }) (sym (after-tick parts.locks parts.coord.contents))
