-- The summary of a run: counts of its lines, what its last report says, and its last total.
use Rattle.std.specs.Prelude.{ℕ, Bool, true, false, List, [], ◌∷◌, ◌++◌, length, filter, codes, decimal, Option, Some, None, if◌then◌else◌}
use Rattle.std.specs.Option.{option_map_or}
use Rattle.pv_base.specs.Catalog.{Declared}
use Rattle.pv_model.specs.Events.{Schedule}
use Rattle.pv_model.specs.ReplyText.{line_feed}
use Rattle.pv_protocol.specs.Lines.{Line}
use Rattle.pv_protocol.specs.LineText.{line_text}
use Rattle.pv_protocol.specs.Run.{printed}
use Rattle.pv_site.specs.SiteState.{setup_of}

-- A transaction begins.
abbrev pub begins_txn : Line → Bool
begins_txn (Line.txn t) = true
begins_txn line = false

-- A transaction is refused.
abbrev pub refuses_txn : Line → Bool
refuses_txn (Line.refuse t cause) = true
refuses_txn line = false

-- how many lines are so
abbrev pub count : (Line → Bool) → List Line → ℕ
count is lines = length (filter is lines)

-- how many transactions a report says are committed
abbrev pub committed_count : Line → Option ℕ
committed_count (Line.committed txns) = Some (length txns)
committed_count line = None

-- and how many are open
abbrev pub open_count : Line → Option ℕ
open_count (Line.open_ones txns) = Some (length txns)
open_count line = None

-- It is a total, or says why there is none.
abbrev pub is_total : Line → Bool
is_total (Line.total sums) = true
is_total (Line.total_locked item) = true
is_total (Line.total_down site) = true
is_total (Line.total_limit names) = true
is_total line = false

abbrev pub total_in : Line → Option Line
total_in line = if is_total line then Some line else None

-- the second, where there is one
abbrev pub later : {A : Type 0} → Option A → Option A → Option A
later found None = found
later found (Some thing) = Some thing

-- what the last of the lines says that says any such thing, or what was found before them
abbrev pub latest : {A : Type 0} → (Line → Option A) → Option A → List Line → Option A
latest says found [] = found
latest says found (line ∷ lines) = latest says (later found (says line)) lines

-- 0 where no line says a number
abbrev pub or_zero : Option ℕ → ℕ
or_zero said = option_map_or (λ n. n) said 0

-- a word and a number on a line of their own
abbrev pub counted_line : List ℕ → ℕ → List ℕ
counted_line word n = word ++ (codes " " ++ (decimal n ++ line_feed))

-- the summary of a run of this many events, which printed these lines
unfoldable pub summary_text : Declared → ℕ → List Line → List ℕ
summary_text catalog events lines =
    counted_line (codes "events") events
    ++ (counted_line (codes "transactions") (count begins_txn lines)
    ++ (counted_line (codes "committed") (or_zero (latest committed_count None lines))
    ++ (counted_line (codes "refused") (count refuses_txn lines)
    ++ (counted_line (codes "open") (or_zero (latest open_count None lines))
    ++ option_map_or (line_text catalog) (latest total_in None lines) []))))

-- the summary of the run of a schedule
unfoldable pub summary_of : Schedule → List ℕ
summary_of schedule = summary_text schedule.catalog (length schedule.events) (printed (setup_of schedule.catalog) schedule.events)
