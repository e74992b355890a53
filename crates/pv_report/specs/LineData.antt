-- A line as the data of its JSON. Members are put into an object one after another.
use Rattle.std.specs.Prelude.{ℕ, ℤ, List, codes, map, true}
use Rattle.std.specs.Fmt.{signed_decimal}
use Rattle.serde_json.specs.Data.{unsigned, Data, null, boolean, number, string, array, object, no_members, put}
use Rattle.serde_json.specs.Find.{of_integer}
use Rattle.serde_json.specs.View.{items_of}
use Rattle.pv_base.specs.Catalog.{Declared}
use Rattle.pv_base.specs.Polyvalue.{Case}
use Rattle.pv_base.specs.Txn.{txn_text}
use Rattle.pv_base.specs.declared.literal.Literal.{Literal}
use Rattle.pv_base.specs.declared.reply.Reply.{Reply}
use Rattle.pv_base.specs.declared.reply.Reply.TheVariants.{Value, Nothing, Declined}
use Rattle.pv_base.specs.declared.txn.TxnId.{TxnId}
use Rattle.pv_model.specs.ReplyText.{reply_text}
use Rattle.pv_protocol.specs.LineText.{kind_text, literal_text, name_of}
use Rattle.pv_protocol.specs.Lines.{Line, MessageKind}
use Rattle.pv_protocol.specs.State.{Cause, conflict, outcome_limit, uncertain, expired, grant_lost, journal_full}

abbrev pub txn_data : TxnId → Data
txn_data txn = string (txn_text txn)

abbrev pub name_data : Declared → ℕ → Data
name_data catalog item = string (name_of catalog item)

abbrev pub count_data : ℕ → Data
count_data n = number (unsigned n)

abbrev pub reply_data : Reply → Data
reply_data (Value v) = number (of_integer v)
reply_data Nothing = string (reply_text Nothing)
reply_data (Declined decline) = string (reply_text (Declined decline))

abbrev pub literal_data : Literal → Data
literal_data literal = string (literal_text literal)

abbrev pub sum_data : ℤ → Data
sum_data sum = string (signed_decimal sum)

-- an array with the data of each
abbrev pub array_of : {A : Type 0} → (A → Data) → List A → Data
array_of value things = array (items_of (map value things))

-- an object of one member
abbrev pub one : List ℕ → Data → Data
one key value = object (put key value no_members)

-- an object of two members
abbrev pub two : (first : List ℕ) → Data → (second : List ℕ) → Data → Data
two first value second other = object (put second other (put first value no_members))

abbrev pub case_data : Case ℤ → Data
case_data case = two (codes "value") (number (of_integer case.value)) (codes "when") (array_of literal_data case.when)

-- a transaction that is refused since another one holds an item
abbrev pub refused_by_holder : Declared → TxnId → (site item : ℕ) → TxnId → Data
refused_by_holder catalog t site item holder =
    object
    (put (codes "site") (count_data site)
    (put (codes "refuse") (txn_data t)
    (put (codes "item") (name_data catalog item)
    (put (codes "holder") (txn_data holder)
    (put (codes "cause") (string (codes "conflict")) no_members)))))

-- one that is refused since its values name too many outcomes
abbrev pub refused_by_limit : TxnId → ℕ → Data
refused_by_limit t names =
    object
    (put (codes "refuse") (txn_data t)
    (put (codes "names") (count_data names)
    (put (codes "cause") (string (codes "outcome-limit")) no_members)))

-- one that is refused since an item isn't certain that has to be
abbrev pub refused_by_doubt : Declared → TxnId → (item names : ℕ) → Data
refused_by_doubt catalog t item names =
    object
    (put (codes "refuse") (txn_data t)
    (put (codes "names") (count_data names)
    (put (codes "item") (name_data catalog item)
    (put (codes "cause") (string (codes "uncertain")) no_members))))

-- one that is refused because of a site
abbrev pub refused_by_site : List ℕ → TxnId → ℕ → Data
refused_by_site cause t site =
    object (put (codes "site") (count_data site) (put (codes "refuse") (txn_data t) (put (codes "cause") (string cause) no_members)))

-- one that is refused since a journal has no room
abbrev pub refused_by_journal : TxnId → (site length : ℕ) → Data
refused_by_journal t site length =
    object
    (put (codes "site") (count_data site)
    (put (codes "refuse") (txn_data t)
    (put (codes "length") (count_data length)
    (put (codes "cause") (string (codes "journal-full")) no_members))))

-- a transaction that is refused
abbrev pub refusal_data : Declared → TxnId → Cause → Data
refusal_data catalog t (conflict site item holder) = refused_by_holder catalog t site item holder
refusal_data catalog t (outcome_limit names) = refused_by_limit t names
refusal_data catalog t (uncertain item names) = refused_by_doubt catalog t item names
refusal_data catalog t (expired site) = refused_by_site (codes "expired") t site
refusal_data catalog t (grant_lost site) = refused_by_site (codes "grant-lost") t site
refusal_data catalog t (journal_full site length) = refused_by_journal t site length

-- a message that was sent
abbrev pub sent_data : (number from to : ℕ) → MessageKind → TxnId → Data
sent_data n from to kind t =
    object
    (put (codes "txn") (txn_data t)
    (put (codes "to") (count_data to)
    (put (codes "sent") (count_data n)
    (put (codes "kind") (string (kind_text kind))
    (put (codes "from") (count_data from) no_members)))))

-- one line
unfoldable pub data_of : Declared → Line → Data
data_of catalog (Line.txn t) = one (codes "txn") (txn_data t)
data_of catalog (Line.commit t replies) = two (codes "commit") (txn_data t) (codes "replies") (array_of reply_data replies)
data_of catalog (Line.refuse t cause) = refusal_data catalog t cause
data_of catalog (Line.full site length) = two (codes "full") (count_data site) (codes "length") (count_data length)
data_of catalog (Line.spent site) = one (codes "spent") (count_data site)
data_of catalog (Line.down site) = one (codes "down") (count_data site)
data_of catalog (Line.up site) = one (codes "up") (count_data site)
data_of catalog (Line.stopped site) = one (codes "stopped") (count_data site)
data_of catalog (Line.fault site) = one (codes "fault") (count_data site)
data_of catalog (Line.started site epoch) = two (codes "epoch") (count_data epoch) (codes "started") (count_data site)
data_of catalog (Line.no_message n) = one (codes "no-message") (count_data n)
data_of catalog (Line.sent n from to kind t) = sent_data n from to kind t
data_of catalog (Line.order txns) = one (codes "order") (array_of txn_data txns)
data_of catalog (Line.committed txns) = one (codes "committed") (array_of txn_data txns)
data_of catalog (Line.open_ones txns) = one (codes "open") (array_of txn_data txns)
data_of catalog (Line.item n cases) = two (codes "cases") (array_of case_data cases) (codes "item") (name_data catalog n)
data_of catalog (Line.item_locked n t) = two (codes "item") (name_data catalog n) (codes "locked") (txn_data t)
data_of catalog (Line.item_down n) = two (codes "down") (boolean true) (codes "item") (name_data catalog n)
data_of catalog Line.end = one (codes "end") (boolean true)
data_of catalog (Line.total sums) = one (codes "total") (array_of sum_data sums)
data_of catalog (Line.total_locked n) = two (codes "locked") (name_data catalog n) (codes "total") null
data_of catalog (Line.total_down site) = two (codes "down") (count_data site) (codes "total") null
data_of catalog (Line.total_limit names) = two (codes "names") (count_data names) (codes "total") null
