-- A coordinator's steps on the answers to the locks that it asked for. With the last one its transaction is at its lock point.
use Rattle.std.specs.Prelude.{ℕ, not, Bool, ◌||◌, ◌==◌, nat_lt, List, [], map, length, Option, Some, None, if◌then◌else◌}
use Rattle.std.specs.List.{list_any, filter_map, find}
use Rattle.pv_base.specs.declared.grant.GrantId.{GrantId}
use Rattle.pv_base.specs.declared.txn.TxnId.{TxnId}
use Rattle.pv_base.specs.Want.{Want}
use Rattle.pv_format.specs.Message.{prepare}
use Rattle.pv_model.specs.Alternatives.{Read}
use Rattle.pv_model.specs.Plan.{wants_of}
use Rattle.pv_protocol.specs.Coordinate.{locking_entry, has_taken, with_taken, has_all_grants, names_taken, doubts, uncertain_from, exclusive_items, writes_to, are_values_of}
use Rattle.pv_protocol.specs.Here.{Here, remembering, nothing, is_among, with_entry, participants, refusing}
use Rattle.pv_protocol.specs.State.{Entry, voting, Taken, TakenGrant, conflict, outcome_limit, uncertain, Outgoing, Step}

-- what was asked of the site
abbrev pub asked_of : Here → Entry → ℕ → List Want
asked_of here entry site = wants_of entry.program here.setup.catalog.items site

-- No answer of the site is awaited: it is no participant, or has answered.
abbrev pub is_unawaited : Here → Entry → ℕ → Bool
is_unawaited here entry from = not (is_among (participants here entry) from) || has_taken entry from

-- The entry takes no notice of the grant: it isn't awaited, or isn't of the items that were asked for.
abbrev pub is_grant_ignored : Here → Entry → ℕ → List Read → Bool
is_grant_ignored here entry from values = is_unawaited here entry from || not (are_values_of (asked_of here entry from) values)

-- the entry with what the site granted
abbrev pub taking : Entry → ℕ → GrantId → List Read → Entry
taking entry from grant values = record entry { taken = with_taken (record { site = from; grant = grant; values = values }) entry.taken }

-- the grants of the entry, one of each site
abbrev pub grants_taken : Entry → List TakenGrant
grants_taken entry = map (λ taken. record { site = taken.site; grant = taken.grant }) entry.taken

-- what was taken from the site, if anything was
abbrev pub taken_from : Entry → ℕ → Option Taken
taken_from entry site = find (λ taken. taken.site == site) entry.taken

-- A participant is asked for its vote on the new values of its exclusive items, under the grant that was taken from it.
abbrev pub prepare_under : Here → Entry → Option Taken → Option Outgoing
prepare_under here entry None = None
prepare_under here entry (Some taken) = Some (record {
  to = taken.site;
  message = prepare entry.txn taken.grant (writes_to here.records entry (exclusive_items (asked_of here entry taken.site)));
})

-- Each participant is asked for its vote.
abbrev pub prepare_sends : Here → Entry → List Outgoing
prepare_sends here entry = filter_map (λ site. prepare_under here entry (taken_from entry site)) (participants here entry)

-- The lock point: the program is computed for each alternative of what was taken, and votes are asked for.
abbrev pub at_lock_point : Here → Entry → Step
at_lock_point here entry = record {
  running = with_entry here.running (record entry { stage = voting; age = 0 });
  appended = None;
  sends = prepare_sends here entry;
  notes = [];
  placed = Some (record { txn = entry.txn; program = entry.program; grants = grants_taken entry });
}

-- the least item that has to be certain and isn't
abbrev pub first_uncertain : Here → Entry → Option ℕ
first_uncertain here entry = uncertain_from here.records entry 0 here.setup.catalog.items

-- The transaction is refused if there is such an item, and else is at its lock point.
abbrev pub if_certain : Here → Entry → Option ℕ → Step
if_certain here entry None = at_lock_point here entry
if_certain here entry (Some item) = refusing here entry (uncertain item (doubts here.records entry item))

-- With the last grant the transaction is refused if the values name too many outcomes, or if an item has to be certain and isn't, and else is at
-- its lock point.
abbrev pub with_grants : Here → Entry → Step
with_grants here entry =
    if not (has_all_grants here entry) then remembering (with_entry here.running entry) else
    (if nat_lt here.setup.read_names (length (names_taken entry)) then refusing here entry (outcome_limit (length (names_taken entry))) else
    if_certain here entry (first_uncertain here entry))

-- A grant comes for this entry, if there is one.
abbrev pub at_granted : Here → ℕ → GrantId → List Read → Option Entry → Step
at_granted here from grant values None = nothing here
at_granted here from grant values (Some entry) =
    if is_grant_ignored here entry from values then nothing here else with_grants here (taking entry from grant values)

-- A participant has granted the locks.
unfoldable pub on_granted : Here → ℕ → TxnId → GrantId → List Read → Step
on_granted here from txn grant values = at_granted here from grant values (locking_entry here.running txn)

-- The item is one of these wants.
abbrev pub is_wanted : List Want → ℕ → Bool
is_wanted wants item = list_any (λ want. want.item == item) wants

-- A denial comes for this entry, if there is one.
abbrev pub at_denied : Here → ℕ → ℕ → TxnId → Option Entry → Step
at_denied here from item holder None = nothing here
at_denied here from item holder (Some entry) =
    if is_unawaited here entry from || not (is_wanted (asked_of here entry from) item) then nothing here else
    refusing here entry (conflict from item holder)

-- A participant can't grant the locks.
unfoldable pub on_denied : Here → ℕ → TxnId → ℕ → TxnId → Step
on_denied here from txn item holder = at_denied here from item holder (locking_entry here.running txn)
