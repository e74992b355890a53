-- The words that printed lines begin with, and what stands behind each of them.
use Rattle.std.specs.Prelude.{ℕ, ℤ, ⊤, List, codes}
use Rattle.pv_audit.specs.declared.first.First.{First}
use Rattle.pv_audit.specs.declared.first.First.TheVariants.{Txn, Commit, Refuse, Full, Spent, Down, Up, Stopped, Fault, Started, No, Sent, Order, Committed, Open, Item, End, Total}
use Rattle.pv_base.specs.Polyvalue.{Case}
use Rattle.pv_base.specs.declared.reply.Reply.{Reply}
use Rattle.pv_base.specs.declared.txn.TxnId.{TxnId}
use Rattle.pv_protocol.specs.Lines.{Line, MessageKind}
use Rattle.pv_protocol.specs.State.{Cause}

-- how each is spelled
abbrev pub first_word : First → List ℕ
first_word Txn = codes "txn"
first_word Commit = codes "commit"
first_word Refuse = codes "refuse"
first_word Full = codes "full"
first_word Spent = codes "spent"
first_word Down = codes "down"
first_word Up = codes "up"
first_word Stopped = codes "stopped"
first_word Fault = codes "fault"
first_word Started = codes "started"
first_word No = codes "no"
first_word Sent = codes "sent"
first_word Order = codes "order"
first_word Committed = codes "committed"
first_word Open = codes "open"
first_word Item = codes "item"
first_word End = codes "end"
first_word Total = codes "total"

-- what a printed item is: its cases, the transaction that holds it, or down
pub data ItemValue : Type 0 where
  cases : List (Case ℤ) → ItemValue
  locked : TxnId → ItemValue
  down : ItemValue

-- what a printed total is: the sums, or why they aren't known
pub data TotalValue : Type 0 where
  sums : List ℤ → TotalValue
  sum_locked : (item : ℕ) → TotalValue
  sum_down : (site : ℕ) → TotalValue
  sum_limit : (names : ℕ) → TotalValue

-- what a line says that begins with the word
abbrev pub Fields : First → Type 0
Fields Txn = TxnId
Fields Commit = TxnId × List Reply
Fields Refuse = TxnId × Cause
Fields Full = ℕ × ℕ
Fields Spent = ℕ
Fields Down = ℕ
Fields Up = ℕ
Fields Stopped = ℕ
Fields Fault = ℕ
Fields Started = ℕ × ℕ
Fields No = ℕ
Fields Sent = ℕ × ℕ × ℕ × MessageKind × TxnId
Fields Order = List TxnId
Fields Committed = List TxnId
Fields Open = List TxnId
Fields Item = ℕ × ItemValue
Fields End = ⊤
Fields Total = TotalValue

abbrev pub item_line : ℕ → ItemValue → Line
item_line n (cases values) = Line.item n values
item_line n (locked t) = Line.item_locked n t
item_line n down = Line.item_down n

abbrev pub total_line : TotalValue → Line
total_line (sums values) = Line.total values
total_line (sum_locked n) = Line.total_locked n
total_line (sum_down site) = Line.total_down site
total_line (sum_limit names) = Line.total_limit names

-- the line that says this
abbrev pub line_with : (first : First) → Fields first → Line
line_with Txn t = Line.txn t
line_with Commit x = Line.commit x.0 x.1
line_with Refuse x = Line.refuse x.0 x.1
line_with Full x = Line.full x.0 x.1
line_with Spent site = Line.spent site
line_with Down site = Line.down site
line_with Up site = Line.up site
line_with Stopped site = Line.stopped site
line_with Fault site = Line.fault site
line_with Started x = Line.started x.0 x.1
line_with No n = Line.no_message n
line_with Sent x = Line.sent x.0 x.1 x.2 x.3 x.4
line_with Order txns = Line.order txns
line_with Committed txns = Line.committed txns
line_with Open txns = Line.open_ones txns
line_with Item x = item_line x.0 x.1
line_with End x = Line.end
line_with Total x = total_line x

-- the word that a line begins with
abbrev pub first_of : Line → First
first_of (Line.txn t) = Txn
first_of (Line.commit t replies) = Commit
first_of (Line.refuse t cause) = Refuse
first_of (Line.full site length) = Full
first_of (Line.spent site) = Spent
first_of (Line.down site) = Down
first_of (Line.up site) = Up
first_of (Line.stopped site) = Stopped
first_of (Line.fault site) = Fault
first_of (Line.started site epoch) = Started
first_of (Line.no_message n) = No
first_of (Line.sent n from to kind t) = Sent
first_of (Line.order txns) = Order
first_of (Line.committed txns) = Committed
first_of (Line.open_ones txns) = Open
first_of (Line.item n values) = Item
first_of (Line.item_locked n t) = Item
first_of (Line.item_down n) = Item
first_of Line.end = End
first_of (Line.total values) = Total
first_of (Line.total_locked n) = Total
first_of (Line.total_down site) = Total
first_of (Line.total_limit names) = Total
