-- A site's steps on requests and on the locks that they ask for (two-phase locking: Eswaran, Gray, Lorie, Traiger, 1976).
use Rattle.std.specs.Prelude.{ℕ, ◌+◌, Bool, false, not, ◌&&◌, ◌||◌, ◌==◌, List, [], ◌∷◌, map, slice_get, Option, Some, None, if◌then◌else◌}
use Rattle.std.specs.Bool.{beq}
use Rattle.std.specs.Cmp.Lexicographic.{pointwise}
use Rattle.std.specs.List.{list_all, list_any, find}
use Rattle.pv_base.specs.Catalog.{Item, Declared}
use Rattle.pv_base.specs.declared.limits.TheConstants.{NEVER_GIVEN}
use Rattle.pv_base.specs.declared.txn.TxnId.{TxnId}
use Rattle.pv_base.specs.Want.{Want}
use Rattle.pv_format.specs.Message.{lock, granted, denied}
use Rattle.pv_model.specs.Alternatives.{Read}
use Rattle.pv_model.specs.Check.{Part}
use Rattle.pv_model.specs.Plan.{plan_of}
use Rattle.pv_model.specs.Syntax.{Program}
use Rattle.pv_protocol.specs.Here.{Here, nothing, sending, noting, only_to, grant_of, with_grant, with_entry}
use Rattle.pv_protocol.specs.Records.{is_undecided, is_prepared}
use Rattle.pv_protocol.specs.Shown.{shown}
use Rattle.pv_protocol.specs.State.{Grant, locking, Running, began, spent, Outgoing, Step}

-- Requests.

-- the number that the next transaction of the site gets
abbrev pub next_txn : Here → TxnId
next_txn here = record { site = record { 0 = here.me }; epoch = here.running.epoch; number = here.running.next_txn }

-- Each part's wants are asked for at its site.
abbrev pub lock_sends : TxnId → List Part → List Outgoing
lock_sends txn parts = map (λ part. record { to = part.site; message = lock txn part.wants }) parts

-- A transaction begins: it has an entry, and asks for its locks.
abbrev pub beginning : Here → Program → TxnId → Step
beginning here program txn = record {
  running =
      with_entry (record here.running { next_txn = here.running.next_txn + 1 })
      (record { txn = txn; program = program; stage = locking; age = 0; taken = []; votes = [] });
  appended = None;
  sends = lock_sends txn (plan_of program here.setup.catalog.items);
  notes = began txn ∷ [];
  placed = None;
}

-- The site is given a request.
unfoldable pub on_submit : Here → Program → Step
on_submit here program =
    if here.running.next_txn == NEVER_GIVEN then noting here spent else beginning here program (next_txn here)

-- Locks.

-- The declared item, if there is one, is at the site.
abbrev pub is_of_site : ℕ → Option Item → Bool
is_of_site site None = false
is_of_site site (Some declared) = declared.site == site

-- The item is at the site.
abbrev pub is_home : Declared → ℕ → ℕ → Bool
is_home catalog site item = is_of_site site (slice_get catalog.items item)

-- The site takes no notice of the wants: they don't come from the transaction's site, or an item isn't of this one, or the
-- transaction is prepared here or its outcome known.
abbrev pub is_lock_ignored : Here → ℕ → TxnId → List Want → Bool
is_lock_ignored here from txn wants =
    not (from == txn.site.0) || (not (list_all (λ want. is_home here.setup.catalog here.me want.item) wants)
    || (is_prepared here.records txn || not (is_undecided here.records txn)))

-- Both are of the same item, in the same mode.
abbrev pub is_same_want : Want → Want → Bool
is_same_want want other = want.item == other.item && beq want.exclusive other.exclusive

-- They are the same items in the same modes.
abbrev pub are_same_wants : List Want → List Want → Bool
are_same_wants wants others = pointwise is_same_want wants others

-- Both are of one item, and one of them is exclusive.
abbrev pub do_conflict : Want → Want → Bool
do_conflict want held = want.item == held.item && (want.exclusive || held.exclusive)

-- The grant holds the item so that this can't be granted beside it.
abbrev pub is_in_the_way : Want → Grant → Bool
is_in_the_way want grant = list_any (do_conflict want) grant.wants

-- an item that is wanted, and who holds it
pub record Conflict : Type 0 where
  pub item : ℕ
  pub holder : TxnId

-- the conflict over the want with its first holder, or else one of the rest
abbrev pub conflict_or : Want → Option Grant → Option Conflict → Option Conflict
conflict_or want None rest = rest
conflict_or want (Some grant) rest = Some (record { item = want.item; holder = grant.txn })

-- The first want that can't be granted, and its first holder. Wants ascend by item and grants by transaction, so these are the least.
abbrev pub first_conflict : List Grant → List Want → Option Conflict
first_conflict grants [] = None
first_conflict grants (want ∷ wants) = conflict_or want (find (is_in_the_way want) grants) (first_conflict grants wants)

-- the shown values of the wanted items now
abbrev pub values_of : Here → List Want → List Read
values_of here wants = map (λ want. record { item = want.item; cases = shown here.setup.catalog here.records want.item }) wants

-- The grant is reported to the transaction's site, with the values of its items.
abbrev pub granting : Here → Running → Grant → Step
granting here running grant = sending running (only_to grant.txn.site.0 (granted grant.txn grant.id (values_of here grant.wants)))

-- the grant that is made for the wants
abbrev pub next_grant : Here → TxnId → List Want → Grant
next_grant here txn wants =
    record { txn = txn; id = record { epoch = here.running.epoch; number = here.running.next_grant }; wants = wants; age = 0 }

-- What isn't in conflict is granted, unless there is no number left.
abbrev pub at_conflict : Here → TxnId → List Want → Option Conflict → Step
at_conflict here txn wants (Some conflict) = sending here.running (only_to txn.site.0 (denied txn conflict.item conflict.holder))
at_conflict here txn wants None =
    if here.running.next_grant == NEVER_GIVEN then noting here spent else
    granting here (with_grant (record here.running { next_grant = here.running.next_grant + 1 }) (next_grant here txn wants)) (next_grant here txn wants)

-- A grant that the transaction has is reported again, with the values of now, if the wants are its own.
abbrev pub at_standing : Here → TxnId → List Want → Option Grant → Step
at_standing here txn wants (Some grant) = if are_same_wants wants grant.wants then granting here here.running grant else nothing here
at_standing here txn wants None = at_conflict here txn wants (first_conflict here.running.grants wants)

-- A transaction asks for locks.
unfoldable pub on_lock : Here → ℕ → TxnId → List Want → Step
on_lock here from txn wants =
    if is_lock_ignored here from txn wants then nothing here else at_standing here txn wants (grant_of here.running txn)
