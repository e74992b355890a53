-- What `report`, `total` and `sent` print. They change nothing.
use Rattle.std.specs.Prelude.{ℕ, ◌+◌, ℤ, Option, Some, None, List, [], ◌∷◌, ◌++◌, map, flat_map, filter, length, nat_lt, if◌then◌else◌}
use Rattle.pv_base.specs.Catalog.{Item}
use Rattle.pv_base.specs.Named.{names_of}
use Rattle.pv_base.specs.Polyvalue.{Case}
use Rattle.pv_base.specs.declared.txn.TxnId.{TxnId}
use Rattle.pv_format.specs.Message.{Envelope, txn_of}
use Rattle.pv_model.specs.PossibleAnswers.{sums}
use Rattle.pv_protocol.specs.Committed.{is_committed, is_open, holder_of}
use Rattle.pv_protocol.specs.Lines.{Line, kind_of}
use Rattle.pv_protocol.specs.Shown.{shown}
use Rattle.pv_protocol.specs.State.{Setup, Running, Placed}
use Rattle.pv_protocol.specs.World.{World, site_at}

-- the transactions of an order
abbrev pub txns_in_order : List Placed → List TxnId
txns_in_order order = map (λ placed. placed.txn) order

-- How an item can be read: with these cases, or not, since a transaction holds it or its site is down.
pub data Reading : Type 0 where
  cases : List (Case ℤ) → Reading
  locked : TxnId → Reading
  down : (site : ℕ) → Reading

-- an item that no grant holds shows its value
abbrev pub shown_unless_held : Option TxnId → List (Case ℤ) → Reading
shown_unless_held None value = cases value
shown_unless_held (Some holder) value = locked holder

-- the item of a site
abbrev pub reading_at : ℕ → Option Running → ℕ → List (Case ℤ) → Reading
reading_at site None n value = down site
reading_at site (Some running) n value = shown_unless_held (holder_of running.grants n) value

-- the item of this number, which is declared so
abbrev pub reading_of : Setup → World → ℕ → Item → Reading
reading_of setup world n item =
    reading_at item.site (site_at world item.site).running n (shown setup.catalog (site_at world item.site).records n)

-- the readings of items that are numbered from here on
abbrev pub readings_from : Setup → World → ℕ → List Item → List Reading
readings_from setup world n [] = []
readings_from setup world n (item ∷ items) = reading_of setup world n item ∷ readings_from setup world (n + 1) items

-- the readings of all items, in the order of their declaration
abbrev pub readings : Setup → World → List Reading
readings setup world = readings_from setup world 0 setup.catalog.items

-- the line of an item in a report
abbrev pub item_line : ℕ → Reading → Line
item_line n (cases value) = Line.item n value
item_line n (locked holder) = Line.item_locked n holder
item_line n (down site) = Line.item_down n

-- the lines of items that are numbered from here on
abbrev pub item_lines : ℕ → List Reading → List Line
item_lines n [] = []
item_lines n (reading ∷ more) = item_line n reading ∷ item_lines (n + 1) more

-- the order, the committed and the open transactions in that order, and each item
unfoldable pub report_of : Setup → World → List Line
report_of setup world =
    Line.order (txns_in_order world.order)
    ∷ (Line.committed (txns_in_order (filter (λ placed. is_committed world placed.txn) world.order))
    ∷ (Line.open_ones (txns_in_order (filter (is_open world) world.order)) ∷ (item_lines 0 (readings setup world) ++ Line.end ∷ [])))

-- the sums of the values, unless they name more outcomes together than a polyvalue may
abbrev pub total_within : ℕ → List (List (Case ℤ)) → List TxnId → Line
total_within limit values names = if nat_lt limit (length names) then Line.total_limit (length names) else Line.total (sums values names)

-- The total of items of which these values were read, and of those that are numbered from here on. The first of them that
-- can't be read is reported.
abbrev pub total_from : ℕ → List (List (Case ℤ)) → ℕ → List Reading → Line
total_from limit values n [] = total_within limit values (names_of (flat_map (λ value. value) values))
total_from limit values n (cases value ∷ more) = total_from limit (values ++ value ∷ []) (n + 1) more
total_from limit values n (locked holder ∷ more) = Line.total_locked n
total_from limit values n (down site ∷ more) = Line.total_down site

-- the sums that all items may have together
unfoldable pub total_of : Setup → World → List Line
total_of setup world = total_from setup.held_names [] 0 (readings setup world) ∷ []

-- a line for each of the messages, which are numbered from here on
abbrev pub sent_from : ℕ → List Envelope → List Line
sent_from n [] = []
sent_from n (envelope ∷ sent) = Line.sent n envelope.from envelope.to (kind_of envelope.message) (txn_of envelope.message) ∷ sent_from (n + 1) sent

-- every message that was ever sent
unfoldable pub sent_lines : World → List Line
sent_lines world = sent_from 0 world.sent
