-- What the parts of a site hold, taken together.
use Rattle.std.specs.Prelude.{◌≡◌, ◌<◌, not, is_some, List, Option, Some, None, map, All, IsTrue, ⊤, Result, Ok, Err}
use Rattle.std.specs.List.{AllPairs}
use Rattle.pv_base.specs.Catalog.{Item, Declared}
use Rattle.pv_base.specs.declared.limits.TheConstants.{MAX_SITES}
use Rattle.pv_base.specs.declared.reply.Reply.{Reply}
use Rattle.pv_base.specs.declared.txn.TxnId.{TxnId}
use Rattle.pv_base.specs.Polyvalue.{Case, IsPolyvalue, value_at}
use Rattle.pv_coord.specs.Coordinator.{Coordinator}
use Rattle.pv_coord.specs.Work.{Work, txn_of}
use Rattle.pv_base.specs.declared.limits.TheConstants.{HELD_NAMES}
use Rattle.pv_format.specs.Record.{Record}
use Rattle.pv_locks.specs.LockTable.{LockTable}
use Rattle.pv_model.specs.Plan.{plan_of, wants_of}
use Rattle.pv_model.specs.Syntax.{Program}
use Rattle.pv_protocol.specs.Coordinate.{are_values_of, is_locking, reply_after}
use Rattle.pv_protocol.specs.Here.{Here}
use Rattle.pv_protocol.specs.Keyed.{AreInOrder}
use Rattle.pv_protocol.specs.Records.{choice}
use Rattle.pv_protocol.specs.Sound.{IsHereInRange}
use Rattle.pv_protocol.specs.State.{Entry, Running, Taken}
use Rattle.pv_protocol.specs.State as model
use Rattle.pv_protocol.specs.Step.{after_step}
use Rattle.pv_site.specs.SiteState.{setup_of}
use Rattle.pv_base.specs.declared.failure.NoMemory.{NoMemory}
use Rattle.pv_site.specs.Answer.{IsAnswer}
use Rattle.pv_site.specs.declared.input.Step.{Step}
use Rattle.pv_site.specs.declared.parts.SiteParts.{SiteParts}

-- what locks and a coordinator have in memory together
abbrev pub running_of : LockTable → Coordinator → Running
running_of locks coord = record {
  epoch = locks.epoch;
  next_txn = coord.next;
  next_grant = locks.next;
  grants = locks.grants;
  entries = map (λ (work : Work). work.entry) coord.entries;
}

-- what a step looks at
abbrev pub here_of : SiteParts → Here
here_of parts = record {
  me = parts.me.0;
  setup = setup_of parts.catalog;
  records = parts.store.records;
  surplus = parts.surplus;
  running = running_of parts.locks parts.coord.contents;
}

-- The reply that is kept is what the entry's program replies, once the outcomes that the records have are put in.
abbrev pub IsReplyOf : List Record → Entry → Option (List (Case Reply)) → Type 0
IsReplyOf records entry None = ⊤
IsReplyOf records entry (Some reply) =
    IsPolyvalue HELD_NAMES reply × ((assignment : List TxnId) → value_at reply (choice records assignment) ≡ Some (reply_after records entry assignment))

-- What was taken is of different sites, in their order, and has the values of the items that were asked of each.
pub record AreTakenFor (items : List Item) (program : Program) (taken : List Taken) : Type 0 where
  pub ascending : AllPairs (λ (one later : Taken). one.site < later.site) taken
  pub asked : All (λ (one : Taken). IsTrue (are_values_of (wants_of program items one.site) one.values)) taken

-- A work of a site with this catalog and these records: it has the plan of its program, what was asked for was taken, and from its lock
-- point on it has a reply, which is what the program replies.
pub record IsWorkOf (catalog : Declared) (records : List Record) (work : Work) : Type 0 where
  pub plan : work.parts ≡ plan_of work.entry.program catalog.items
  pub taken : AreTakenFor catalog.items work.entry.program work.entry.taken
  pub stage : is_some work.reply ≡ not (is_locking work.entry.stage)
  pub reply : IsReplyOf records work.entry work.reply

-- The parts are those of one site: of its catalog, its number and its epoch, with its works, in the order of their transactions.
pub record AreTied (parts : SiteParts) : Type 0 where
  pub store_site : parts.store.site ≡ parts.me.0
  pub store_catalog : parts.store.catalog ≡ parts.catalog
  pub coord_site : parts.coord.contents.site ≡ parts.me.0
  pub epochs : parts.coord.contents.epoch ≡ parts.locks.epoch
  pub order : AreInOrder txn_of parts.coord.contents.entries
  pub works : All (IsWorkOf parts.catalog parts.store.records) parts.coord.contents.entries

-- The parts are tied, and all that they hold is in range.
pub record AreSound (parts : SiteParts) : Type 0 where
  pub tied : AreTied parts
  pub range : IsHereInRange MAX_SITES (here_of parts)

-- The parts hold what they held, perhaps in other room.
pub record AreKept (old new : SiteParts) : Type 0 where
  pub here : here_of new ≡ here_of old
  pub tied : AreTied new

-- The parts hold what the step leaves.
pub record HaveStepped (old new : SiteParts) (step : model.Step) : Type 0 where
  pub here : here_of new ≡ after_step (here_of old) step
  pub tied : AreTied new

-- What a step makes of the parts, by its answer: where there was no memory they hold what they held.
abbrev pub StepParts : SiteParts → SiteParts → model.Step → Result Step NoMemory → Type 0
StepParts old new step (Ok answer) = HaveStepped old new step × IsAnswer answer step
StepParts old new step (Err _) = AreKept old new
