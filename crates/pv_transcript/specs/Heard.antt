-- What clients heard of all that they want.
use Rattle.std.specs.Prelude.{ℕ, ◌+◌, List, [], ◌∷◌, ◌++◌, codes}
use Rattle.pv_base.specs.Catalog.{Declared}
use Rattle.pv_base.specs.Txn.{txn_text}
use Rattle.pv_model.specs.ReplyText.{line_feed}
use Rattle.pv_protocol.specs.LineText.{cases_text, numbered_text, words_of}
use Rattle.pv_protocol.specs.Lines.{Line}
use Rattle.pv_protocol.specs.Report.{Reading, cases, locked, down}

-- What a client heard of what it wants: a line of its site; that the site's history is full, so it takes nothing; that it was lost for want of memory; or, of an item
-- that it looked at, how the site read that after so many entries of its history.
pub data Heard : Type 0 where
  line : Line → Heard
  worn : (site : ℕ) → Heard
  no_memory : Heard
  peeked : (steps : ℕ) → Reading → Heard

-- the words for how an item is read
abbrev pub reading_words : Reading → List ℕ
reading_words (cases value) = cases_text value
reading_words (locked holder) = codes "locked " ++ txn_text holder
reading_words (down site) = codes "down"

-- the words for it
abbrev pub heard_words : Declared → Heard → List ℕ
heard_words catalog (line heard) = words_of catalog heard
heard_words catalog (worn site) = numbered_text (codes "worn") site
heard_words catalog no_memory = codes "no-memory"
heard_words catalog (peeked steps reading) = numbered_text (codes "peek") steps ++ (codes " " ++ reading_words reading)

-- what a line about a request begins with: its client, and its place among what that asks
unfoldable pub client_head : (client request : ℕ) → List ℕ
client_head client request = numbered_text (codes "client") client ++ (numbered_text [] request ++ codes " ")

-- the line of a request
abbrev pub heard_line : Declared → (client request : ℕ) → Heard → List ℕ
heard_line catalog client request heard = client_head client request ++ (heard_words catalog heard ++ line_feed)

-- the lines of a client's requests from this one on
abbrev pub client_text : Declared → (client request : ℕ) → List Heard → List ℕ
client_text catalog client request [] = []
client_text catalog client request (heard ∷ more) = heard_line catalog client request heard ++ client_text catalog client (1 + request) more

-- the lines of all clients from this one on
abbrev pub clients_text : Declared → (client : ℕ) → List (List Heard) → List ℕ
clients_text catalog client [] = []
clients_text catalog client (heard ∷ others) = client_text catalog client 0 heard ++ clients_text catalog (1 + client) others
