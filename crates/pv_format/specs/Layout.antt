-- Layouts: which fields bytes have, in reading order.
use Rattle.std.specs.Prelude.{ℕ, zero, suc, ◌+◌, Bool, true, nat_le, ◌&&◌, ◌==◌, if◌then◌else◌}
use Rattle.pv_base.specs.declared.limits.TheConstants.{HELD_NAMES}
use Rattle.pv_format.specs.Form.{Form, in_tree, in_sure_tree, in_cases}
use Rattle.pv_format.specs.Spelling.{is_site, is_truth, is_item_from, is_count_from}

-- What comes next in the bytes.
pub data Layout : Type 0 where
  -- anything may
  anything : Layout
  -- nothing may
  nothing_more : Layout
  -- a number in so many bytes, one of those that are allowed, and what comes after this number
  number_then : (size : ℕ) (allows : ℕ → Bool) (next : ℕ → Layout) → Layout
  -- a polyvalue of this form
  polyvalue_then : (form : Form) (next : Layout) → Layout

-- any number
abbrev pub any : ℕ → Bool
any number = true

-- Each layout below is of the spelling that it is named after, with what comes after it.

-- a site's number
abbrev pub site_layout : Layout → Layout
site_layout next = number_then 1 is_site (λ _. next)

-- a truth value
abbrev pub truth_layout : Layout → Layout
truth_layout next = number_then 1 is_truth (λ _. next)

-- a transaction: site, epoch, number
abbrev pub txn_layout : Layout → Layout
txn_layout next = site_layout (number_then 4 any (λ _. number_then 4 any (λ _. next)))

-- a grant: epoch, number
abbrev pub grant_layout : Layout → Layout
grant_layout next = number_then 4 any (λ _. number_then 4 any (λ _. next))

-- so many times the same
abbrev pub repeated : ℕ → (Layout → Layout) → Layout → Layout
repeated zero each next = next
repeated (suc count) each next = each (repeated count each next)

-- so many entries, each with its item in front, ascending
abbrev pub entries_layout : ℕ → (Layout → Layout) → ℕ → Layout → Layout
entries_layout zero each least next = next
entries_layout (suc count) each least next =
    number_then 4 (is_item_from least) (λ item. each (entries_layout count each (item + 1) next))

-- the count of the entries, at least so many, and the entries
abbrev pub counted_layout : ℕ → (Layout → Layout) → Layout → Layout
counted_layout fewest each next = number_then 1 (is_count_from fewest) (λ count. entries_layout count each 0 next)

-- a tree: 0 and a value, or 1, a transaction and two trees, which have a test less on each way down at most
abbrev pub node_layout : ℕ → Layout → Layout
node_layout zero next = number_then 1 (λ kind. kind == 0) (λ _. number_then 8 any (λ _. next))
node_layout (suc tests) next =
    number_then 1 is_truth (λ kind. if kind == 0 then number_then 8 any (λ _. next) else txn_layout (node_layout tests (node_layout tests next)))

-- a count and a tree
abbrev pub tree_layout : Layout → Layout
tree_layout next = number_then 2 any (λ _. node_layout HELD_NAMES next)

-- a literal: the outcome that it asks for, and the transaction
abbrev pub literal_layout : Layout → Layout
literal_layout next = truth_layout (txn_layout next)

-- a case: the count of its literals, the literals, the value
abbrev pub case_layout : Layout → Layout
case_layout next = number_then 1 any (λ count. repeated count literal_layout (number_then 8 any (λ _. next)))

-- cases: their count, and the cases
abbrev pub cases_layout : Layout → Layout
cases_layout next = number_then 2 any (λ count. repeated count case_layout next)

-- The number stands for a cause of a vote for no.
abbrev pub is_cause : ℕ → Bool
is_cause number = nat_le 1 number && nat_le number 2

-- such a cause, with a length after the second
abbrev pub cause_layout : Layout → Layout
cause_layout next = number_then 1 is_cause (λ cause. if cause == 1 then next else number_then 8 any (λ _. next))

-- what a message of this kind has after its transaction
abbrev pub body_layout : ℕ → Layout → Layout
body_layout kind next =
    if kind == 1 then counted_layout 1 truth_layout next else
    (if kind == 2 then grant_layout (counted_layout 1 (polyvalue_then in_sure_tree) next) else
    (if kind == 18 then grant_layout (counted_layout 1 (polyvalue_then in_tree) next) else
    (if kind == 3 then number_then 4 (is_item_from 0) (λ _. txn_layout next) else
    (if kind == 4 then grant_layout (counted_layout 0 (polyvalue_then in_sure_tree) next) else
    (if kind == 20 then grant_layout (counted_layout 0 (polyvalue_then in_tree) next) else
    (if kind == 6 then cause_layout next else
    (if kind == 7 then truth_layout next else next)))))))

-- what a message of this kind has after the kind
abbrev pub message_layout : ℕ → Layout
message_layout kind = site_layout (site_layout (txn_layout (body_layout kind nothing_more)))

-- The number stands for a kind of record.
abbrev pub is_record_kind : ℕ → Bool
is_record_kind number = nat_le 1 number && nat_le number 4

-- What a record that begins with this byte has after it. Polyvalues behind a 2 are laid out in cases: those that are sure have the same bytes in both forms.
abbrev pub content_layout : ℕ → Layout → Layout
content_layout kind next =
    if kind == 1 then number_then 4 (nat_le 1) (λ _. next) else
    (if kind == 2 then txn_layout (counted_layout 0 (polyvalue_then in_cases) next) else
    (if kind == 3 then txn_layout (truth_layout next) else txn_layout (counted_layout 0 (polyvalue_then in_tree) next)))

-- what a record has
abbrev pub record_layout : Layout → Layout
record_layout next = number_then 1 is_record_kind (λ kind. content_layout kind next)
