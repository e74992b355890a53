-- The text of lines.
use Rattle.std.specs.Prelude.{ℕ, ℤ, List, [], ◌∷◌, ◌++◌, flat_map, slice_get, codes, if◌then◌else◌}
use Rattle.std.specs.Fmt.{decimal, signed_decimal}
use Rattle.std.specs.Option.{option_map_or}
use Rattle.pv_base.specs.Catalog.{Declared}
use Rattle.pv_base.specs.Polyvalue.{Case}
use Rattle.pv_base.specs.Txn.{txn_text}
use Rattle.pv_base.specs.declared.literal.Literal.{Literal}
use Rattle.pv_model.specs.ReplyText.{line_feed, reply_text}
use Rattle.pv_protocol.specs.Lines.{Line, MessageKind}
use Rattle.pv_protocol.specs.State.{Cause, conflict, outcome_limit, uncertain, expired, grant_lost, journal_full}

-- the name of the item of this number
abbrev pub name_of : Declared → ℕ → List ℕ
name_of catalog n = option_map_or (λ item. item.name) (slice_get catalog.items n) []

-- each text of a list, with a space before it
abbrev pub spaced : {A : Type 0} → (A → List ℕ) → List A → List ℕ
spaced text things = flat_map (λ thing. codes " " ++ text thing) things

-- One possible answer is certain.
abbrev pub certainty : {A : Type 0} → List A → List ℕ
certainty (answer ∷ []) = codes " certain"
certainty answers = codes " possible"

-- the possible answers, and whether one of them is certain
abbrev pub answers_text : {A : Type 0} → (A → List ℕ) → List A → List ℕ
answers_text text answers = certainty answers ++ spaced text answers

-- why a transaction is refused, with the site, the item and the numbers that belong to it
abbrev pub cause_text : Declared → Cause → List ℕ
cause_text catalog (conflict site item holder) =
    codes "conflict " ++ (decimal site ++ (codes " " ++ (name_of catalog item ++ (codes " " ++ txn_text holder))))
cause_text catalog (outcome_limit names) = codes "outcome-limit " ++ decimal names
cause_text catalog (uncertain item names) = codes "uncertain " ++ (name_of catalog item ++ (codes " " ++ decimal names))
cause_text catalog (expired site) = codes "expired " ++ decimal site
cause_text catalog (grant_lost site) = codes "grant-lost " ++ decimal site
cause_text catalog (journal_full site length) = codes "journal-full " ++ (decimal site ++ (codes " " ++ decimal length))

-- what a kind of messages is called
abbrev pub kind_text : MessageKind → List ℕ
kind_text MessageKind.lock = codes "lock"
kind_text MessageKind.granted = codes "granted"
kind_text MessageKind.denied = codes "denied"
kind_text MessageKind.prepare = codes "prepare"
kind_text MessageKind.yes = codes "yes"
kind_text MessageKind.no = codes "no"
kind_text MessageKind.outcome = codes "outcome"
kind_text MessageKind.ask = codes "ask"

-- `+` before a transaction that commits, `-` before one that doesn't
abbrev pub literal_text : Literal → List ℕ
literal_text literal = (if literal.commits then codes "+" else codes "-") ++ txn_text literal.txn

-- a value, and its condition if it has one
abbrev pub when_text : List Literal → List ℕ
when_text [] = []
when_text (literal ∷ literals) = codes " if" ++ spaced literal_text (literal ∷ literals)

-- one case
abbrev pub case_text : Case ℤ → List ℕ
case_text case = signed_decimal case.value ++ when_text case.when

-- the cases, parted by ` ; `
abbrev pub cases_text : List (Case ℤ) → List ℕ
cases_text [] = []
cases_text (case ∷ []) = case_text case
cases_text (case ∷ other ∷ cases) = case_text case ++ (codes " ; " ++ cases_text (other ∷ cases))

-- a word, a space and a number
abbrev pub numbered_text : List ℕ → ℕ → List ℕ
numbered_text word n = word ++ (codes " " ++ decimal n)

-- one line, without its line feed
unfoldable pub words_of : Declared → Line → List ℕ
words_of catalog (Line.txn t) = codes "txn " ++ txn_text t
words_of catalog (Line.commit t replies) = codes "commit " ++ (txn_text t ++ answers_text reply_text replies)
words_of catalog (Line.refuse t cause) = codes "refuse " ++ (txn_text t ++ (codes " " ++ cause_text catalog cause))
words_of catalog (Line.full site length) = codes "full " ++ (decimal site ++ (codes " " ++ decimal length))
words_of catalog (Line.spent site) = numbered_text (codes "spent") site
words_of catalog (Line.down site) = numbered_text (codes "down") site
words_of catalog (Line.up site) = numbered_text (codes "up") site
words_of catalog (Line.stopped site) = numbered_text (codes "stopped") site
words_of catalog (Line.fault site) = numbered_text (codes "fault") site
words_of catalog (Line.started site epoch) = codes "started " ++ (decimal site ++ (codes " " ++ decimal epoch))
words_of catalog (Line.no_message n) = numbered_text (codes "no message") n
words_of catalog (Line.sent n from to kind txn) =
    codes "sent "
    ++ (decimal n ++ (codes " " ++ (decimal from ++ (codes ">" ++ (decimal to ++ (codes " " ++ (kind_text kind ++ (codes " " ++ txn_text txn))))))))
words_of catalog (Line.order txns) = codes "order" ++ spaced txn_text txns
words_of catalog (Line.committed txns) = codes "committed" ++ spaced txn_text txns
words_of catalog (Line.open_ones txns) = codes "open" ++ spaced txn_text txns
words_of catalog (Line.item n cases) = codes "item " ++ (name_of catalog n ++ (codes " " ++ cases_text cases))
words_of catalog (Line.item_locked n t) = codes "item " ++ (name_of catalog n ++ (codes " locked " ++ txn_text t))
words_of catalog (Line.item_down n) = codes "item " ++ (name_of catalog n ++ codes " down")
words_of catalog Line.end = codes "end"
words_of catalog (Line.total sums) = codes "total" ++ answers_text signed_decimal sums
words_of catalog (Line.total_locked n) = codes "total locked " ++ name_of catalog n
words_of catalog (Line.total_down site) = numbered_text (codes "total down") site
words_of catalog (Line.total_limit names) = numbered_text (codes "total outcome-limit") names

-- one line
abbrev pub line_text : Declared → Line → List ℕ
line_text catalog line = words_of catalog line ++ line_feed

-- lines, one after another
abbrev pub text_of : Declared → List Line → List ℕ
text_of catalog lines = flat_map (line_text catalog) lines
