-- Lines as JSON (RFC 8259, Bray 2017), with no space, and with the keys of an object in the order of their bytes.
use Rattle.std.specs.Prelude.{ℕ, ℤ, List, [], ◌∷◌, ◌++◌, codes, flat_map, map}
use Rattle.std.specs.Fmt.{decimal, signed_decimal}
use Rattle.pv_base.specs.Catalog.{Declared}
use Rattle.pv_base.specs.Polyvalue.{Case}
use Rattle.pv_base.specs.Txn.{txn_text}
use Rattle.pv_base.specs.declared.literal.Literal.{Literal}
use Rattle.pv_base.specs.declared.reply.Reply.{Reply}
use Rattle.pv_base.specs.declared.reply.Reply.TheVariants.{Value, Nothing, Declined}
use Rattle.pv_base.specs.declared.txn.TxnId.{TxnId}
use Rattle.pv_model.specs.ReplyText.{line_feed, reply_text}
use Rattle.pv_protocol.specs.LineText.{kind_text, literal_text, name_of}
use Rattle.pv_protocol.specs.Lines.{Line}
use Rattle.pv_protocol.specs.State.{conflict, outcome_limit, uncertain, expired, grant_lost, journal_full}

-- A text stands between quotes. None that a line holds has a byte to escape.
abbrev pub quoted : List ℕ → List ℕ
quoted text = codes "\"" ++ (text ++ codes "\"")

-- texts, with a comma between each two
abbrev pub parted : List (List ℕ) → List ℕ
parted [] = []
parted (text ∷ []) = text
parted (text ∷ other ∷ texts) = text ++ (codes "," ++ parted (other ∷ texts))

-- An array is its values between brackets.
abbrev pub array : List (List ℕ) → List ℕ
array values = codes "[" ++ (parted values ++ codes "]")

-- A member is its key, a colon and its value.
abbrev pub member : List ℕ → List ℕ → List ℕ
member key value = quoted key ++ (codes ":" ++ value)

-- An object is its members between braces.
abbrev pub object : List (List ℕ) → List ℕ
object members = codes "{" ++ (parted members ++ codes "}")

-- a transaction
abbrev pub txn_json : TxnId → List ℕ
txn_json txn = quoted (txn_text txn)

-- the name of the item of this number
abbrev pub name_json : Declared → ℕ → List ℕ
name_json catalog item = quoted (name_of catalog item)

-- A reply is a number, or else a text.
abbrev pub reply_json : Reply → List ℕ
reply_json (Value v) = signed_decimal v
reply_json Nothing = quoted (reply_text Nothing)
reply_json (Declined decline) = quoted (reply_text (Declined decline))

-- a literal, with its sign
abbrev pub literal_json : Literal → List ℕ
literal_json literal = quoted (literal_text literal)

-- one case: its value, and the literals of its condition
abbrev pub case_json : Case ℤ → List ℕ
case_json case = object (member (codes "value") (signed_decimal case.value) ∷ member (codes "when") (array (map literal_json case.when)) ∷ [])

-- A sum stands as a text, for it may be more than readers of JSON take as a number.
abbrev pub sum_json : ℤ → List ℕ
sum_json sum = quoted (signed_decimal sum)

-- one line, without its line feed
unfoldable pub json_of : Declared → Line → List ℕ
json_of catalog (Line.txn t) = object (member (codes "txn") (txn_json t) ∷ [])
json_of catalog (Line.commit t replies) = object (member (codes "commit") (txn_json t) ∷ member (codes "replies") (array (map reply_json replies)) ∷ [])
json_of catalog (Line.refuse t (conflict site item holder)) =
    object
    (member (codes "cause") (quoted (codes "conflict"))
    ∷ member (codes "holder") (txn_json holder)
    ∷ member (codes "item") (name_json catalog item)
    ∷ member (codes "refuse") (txn_json t)
    ∷ member (codes "site") (decimal site)
    ∷ [])
json_of catalog (Line.refuse t (outcome_limit names)) =
    object (member (codes "cause") (quoted (codes "outcome-limit")) ∷ member (codes "names") (decimal names) ∷ member (codes "refuse") (txn_json t) ∷ [])
json_of catalog (Line.refuse t (uncertain item names)) =
    object
    (member (codes "cause") (quoted (codes "uncertain"))
    ∷ member (codes "item") (name_json catalog item)
    ∷ member (codes "names") (decimal names)
    ∷ member (codes "refuse") (txn_json t)
    ∷ [])
json_of catalog (Line.refuse t (expired site)) =
    object (member (codes "cause") (quoted (codes "expired")) ∷ member (codes "refuse") (txn_json t) ∷ member (codes "site") (decimal site) ∷ [])
json_of catalog (Line.refuse t (grant_lost site)) =
    object (member (codes "cause") (quoted (codes "grant-lost")) ∷ member (codes "refuse") (txn_json t) ∷ member (codes "site") (decimal site) ∷ [])
json_of catalog (Line.refuse t (journal_full site length)) =
    object
    (member (codes "cause") (quoted (codes "journal-full"))
    ∷ member (codes "length") (decimal length)
    ∷ member (codes "refuse") (txn_json t)
    ∷ member (codes "site") (decimal site)
    ∷ [])
json_of catalog (Line.full site length) = object (member (codes "full") (decimal site) ∷ member (codes "length") (decimal length) ∷ [])
json_of catalog (Line.spent site) = object (member (codes "spent") (decimal site) ∷ [])
json_of catalog (Line.down site) = object (member (codes "down") (decimal site) ∷ [])
json_of catalog (Line.up site) = object (member (codes "up") (decimal site) ∷ [])
json_of catalog (Line.stopped site) = object (member (codes "stopped") (decimal site) ∷ [])
json_of catalog (Line.fault site) = object (member (codes "fault") (decimal site) ∷ [])
json_of catalog (Line.started site epoch) = object (member (codes "epoch") (decimal epoch) ∷ member (codes "started") (decimal site) ∷ [])
json_of catalog (Line.no_message n) = object (member (codes "no-message") (decimal n) ∷ [])
json_of catalog (Line.sent n from to kind t) =
    object
    (member (codes "from") (decimal from)
    ∷ member (codes "kind") (quoted (kind_text kind))
    ∷ member (codes "sent") (decimal n)
    ∷ member (codes "to") (decimal to)
    ∷ member (codes "txn") (txn_json t)
    ∷ [])
json_of catalog (Line.order txns) = object (member (codes "order") (array (map txn_json txns)) ∷ [])
json_of catalog (Line.committed txns) = object (member (codes "committed") (array (map txn_json txns)) ∷ [])
json_of catalog (Line.open_ones txns) = object (member (codes "open") (array (map txn_json txns)) ∷ [])
json_of catalog (Line.item n cases) = object (member (codes "cases") (array (map case_json cases)) ∷ member (codes "item") (name_json catalog n) ∷ [])
json_of catalog (Line.item_locked n t) = object (member (codes "item") (name_json catalog n) ∷ member (codes "locked") (txn_json t) ∷ [])
json_of catalog (Line.item_down n) = object (member (codes "down") (codes "true") ∷ member (codes "item") (name_json catalog n) ∷ [])
json_of catalog Line.end = object (member (codes "end") (codes "true") ∷ [])
json_of catalog (Line.total sums) = object (member (codes "total") (array (map sum_json sums)) ∷ [])
json_of catalog (Line.total_locked n) = object (member (codes "locked") (name_json catalog n) ∷ member (codes "total") (codes "null") ∷ [])
json_of catalog (Line.total_down site) = object (member (codes "down") (decimal site) ∷ member (codes "total") (codes "null") ∷ [])
json_of catalog (Line.total_limit names) = object (member (codes "names") (decimal names) ∷ member (codes "total") (codes "null") ∷ [])

-- one line
abbrev pub json_line : Declared → Line → List ℕ
json_line catalog line = json_of catalog line ++ line_feed

-- lines, one after another
abbrev pub json_lines : Declared → List Line → List ℕ
json_lines catalog lines = flat_map (json_line catalog) lines
