-- A line of the code as a line of the definition.
use Rattle.pv_protocol.specs.Lines as model
use Rattle.pv_protocol.specs.State.{conflict, outcome_limit, uncertain, expired, grant_lost, journal_full}
use Rattle.pv_script.specs.declared.line.Line.{Line}
use Rattle.pv_script.specs.declared.line.Line.TheVariants.{Txn, Commit, RefuseConflict, RefuseLimit, RefuseUncertain, RefuseExpired, RefuseLost, RefuseFull, Full, Spent, Down, Up, Stopped, Fault, Started, NoMessage, Sent, Order, Committed, OpenOnes, Item, ItemLocked, ItemDown, End, Total, TotalLocked, TotalDown, TotalLimit}
use Rattle.pv_script.specs.declared.line.MessageKind.{MessageKind}
use Rattle.pv_script.specs.declared.line.MessageKind.TheVariants.{Lock, Granted, Denied, Prepare, Yes, No, Outcome, Ask}

-- the kind of messages that this one is
abbrev pub message_kind_of : MessageKind → model.MessageKind
message_kind_of Lock = model.MessageKind.lock
message_kind_of Granted = model.MessageKind.granted
message_kind_of Denied = model.MessageKind.denied
message_kind_of Prepare = model.MessageKind.prepare
message_kind_of Yes = model.MessageKind.yes
message_kind_of No = model.MessageKind.no
message_kind_of Outcome = model.MessageKind.outcome
message_kind_of Ask = model.MessageKind.ask

-- the line that this one is
abbrev pub line_of : Line → model.Line
line_of (Txn txn) = model.Line.txn txn
line_of (Commit txn replies) = model.Line.commit txn replies.items
line_of (RefuseConflict txn site item holder) = model.Line.refuse txn (conflict site.0 item.0 holder)
line_of (RefuseLimit txn names) = model.Line.refuse txn (outcome_limit names)
line_of (RefuseUncertain txn item names) = model.Line.refuse txn (uncertain item.0 names)
line_of (RefuseExpired txn site) = model.Line.refuse txn (expired site.0)
line_of (RefuseLost txn site) = model.Line.refuse txn (grant_lost site.0)
line_of (RefuseFull txn site length) = model.Line.refuse txn (journal_full site.0 length)
line_of (Full site length) = model.Line.full site.0 length
line_of (Spent site) = model.Line.spent site.0
line_of (Down site) = model.Line.down site.0
line_of (Up site) = model.Line.up site.0
line_of (Stopped site) = model.Line.stopped site.0
line_of (Fault site) = model.Line.fault site.0
line_of (Started site epoch) = model.Line.started site.0 epoch
line_of (NoMessage number) = model.Line.no_message number
line_of (Sent number from to kind txn) = model.Line.sent number from.0 to.0 (message_kind_of kind) txn
line_of (Order txns) = model.Line.order txns.items
line_of (Committed txns) = model.Line.committed txns.items
line_of (OpenOnes txns) = model.Line.open_ones txns.items
line_of (Item item cases) = model.Line.item item.0 cases.items
line_of (ItemLocked item txn) = model.Line.item_locked item.0 txn
line_of (ItemDown item) = model.Line.item_down item.0
line_of End = model.Line.end
line_of (Total sums) = model.Line.total sums.items
line_of (TotalLocked item) = model.Line.total_locked item.0
line_of (TotalDown site) = model.Line.total_down site.0
line_of (TotalLimit names) = model.Line.total_limit names
