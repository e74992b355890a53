-- The long schedule that a number makes.
use Rattle.std.specs.Prelude.{ℕ, zero, suc, ◌+◌, ◌*◌, ◌/◌, ◌%◌, ◌==◌, List, [], ◌++◌, codes, get_or, if◌then◌else◌}
use Rattle.std.specs.Fmt.{decimal}
use Rattle.pv_model.specs.LineCauses.{mode_words}
use Rattle.pv_model.specs.ReplyText.{line_feed}

-- ---- numbers as if by chance

-- The state after this one. It is a linear congruential generator (D. H. Lehmer, 1951), with the constants of the `rand` that stands as an
-- example in the standard of C (ANSI, 1989).
unfoldable pub next : ℕ → ℕ
next state = (state * 1103515245 + 12345) % 2147483648

-- The number, less than `below`, that is drawn in this state. It is made of the upper bits of the state after it.
unfoldable pub drawn : (below state : ℕ) → ℕ
drawn below state = (next state / 65536) % below

-- the state after so many draws
abbrev pub after_draws : (draws state : ℕ) → ℕ
after_draws zero state = state
after_draws (suc draws) state = after_draws draws (next state)

-- ---- lines

-- an item, at one site after another, with its first value
abbrev pub item_line : ℕ → List ℕ
item_line item = codes "item i" ++ (decimal item ++ (codes " " ++ (decimal (item % 16) ++ (codes " 1000" ++ line_feed))))

-- An amount is moved from an item to another, if there is as much.
abbrev pub transfer_line : (site from to amount : ℕ) → List ℕ
transfer_line site from to amount =
    codes "submit " ++ (decimal site ++ (codes " require i" ++ (decimal from ++ (codes " >= " ++ (decimal amount
    ++ (codes " ; i" ++ (decimal from ++ (codes " := i" ++ (decimal from ++ (codes " - " ++ (decimal amount
    ++ (codes " ; i" ++ (decimal to ++ (codes " := i" ++ (decimal to ++ (codes " + " ++ (decimal amount ++ line_feed)))))))))))))))))

-- the delivery of at most so many messages
abbrev pub pump_line : ℕ → List ℕ
pump_line most = codes "pump " ++ (decimal most ++ line_feed)

-- the delivery of all messages
abbrev pub pump_all_line : List ℕ
pump_all_line = codes "pump" ++ line_feed

-- a word and a site
abbrev pub site_line : List ℕ → ℕ → List ℕ
site_line word site = word ++ (codes " " ++ (decimal site ++ line_feed))

abbrev pub restart_lines : ℕ → List ℕ
restart_lines site = site_line (codes "stop") site ++ site_line (codes "start") site

-- a stop within the k-th write or sync, in the mode of this place
abbrev pub cut_line : (site k mode : ℕ) → List ℕ
cut_line site k mode =
    codes "cut " ++ (decimal site ++ (codes " " ++ (decimal k ++ (codes " " ++ (get_or mode_words mode [] ++ line_feed)))))

abbrev pub mend_lines : ℕ → List ℕ
mend_lines site = site_line (codes "mend") site ++ site_line (codes "start") site

abbrev pub report_lines : List ℕ
report_lines = codes "report" ++ (line_feed ++ (codes "total" ++ line_feed))

-- ---- a round, by the state in which it begins

-- another item: the next one, or so many more behind this one; the first is behind the last
abbrev pub item_behind : (item more : ℕ) → ℕ
item_behind item more = (item + 1 + more) % 64

-- a transfer of 1 to 20
unfoldable pub transfer_text : ℕ → List ℕ
transfer_text state =
    transfer_line (drawn 16 (after_draws 3 state)) (drawn 64 state) (item_behind (drawn 64 state) (drawn 63 (after_draws 1 state)))
    (1 + drawn 20 (after_draws 2 state))

-- a stop within one of the next four writes and syncs
unfoldable pub cut_text : ℕ → List ℕ
cut_text state = cut_line (drawn 16 state) (1 + drawn 4 (after_draws 1 state)) (drawn 3 (after_draws 2 state))

-- what happens, by its kind; to a site, but in the last kinds
unfoldable pub event_of : (kind state : ℕ) → List ℕ
event_of kind state =
    if kind == 0 then site_line (codes "drop") (drawn 16 state)
    else if kind == 1 then site_line (codes "tick") (drawn 16 state)
    else if kind == 2 then restart_lines (drawn 16 state)
    else if kind == 3 then cut_text state
    else if kind == 4 then site_line (codes "start") (drawn 16 state)
    else pump_all_line

-- how many numbers are drawn for it
unfoldable pub draws_of : ℕ → ℕ
draws_of kind =
    if kind == 0 then 1
    else if kind == 1 then 1
    else if kind == 2 then 1
    else if kind == 3 then 3
    else if kind == 4 then 1
    else 0

-- something of one of eight kinds
abbrev pub event_text : ℕ → List ℕ
event_text state = event_of (drawn 8 state) (next state)

abbrev pub after_event : ℕ → ℕ
after_event state = after_draws (draws_of (drawn 8 state)) (next state)

-- a transfer, the delivery of 1 to 12 messages, and something else
abbrev pub round_text : ℕ → List ℕ
round_text state = transfer_text state ++ (pump_line (1 + drawn 12 (after_draws 4 state)) ++ event_text (after_draws 5 state))

abbrev pub after_round : ℕ → ℕ
after_round state = after_event (after_draws 5 state)

-- the state after so many rounds
unfoldable pub after_rounds : (rounds state : ℕ) → ℕ
after_rounds zero state = state
after_rounds (suc rounds) state = after_round (after_rounds rounds state)

-- ---- the whole

-- the texts of 0, 1, 2 and so on, as many
unfoldable pub each_below : (ℕ → List ℕ) → ℕ → List ℕ
each_below text zero = []
each_below text (suc n) = each_below text n ++ text n

-- so many rounds, from this state on
abbrev pub rounds_text : (rounds state : ℕ) → List ℕ
rounds_text rounds state = each_below (λ round. round_text (after_rounds round state)) rounds

abbrev pub start_text : List ℕ
start_text = codes "sites 16" ++ (line_feed ++ each_below item_line 64)

-- a tick of each clock, and the delivery of all messages
abbrev pub tick_round_text : List ℕ
tick_round_text = each_below (site_line (codes "tick")) 16 ++ pump_all_line

abbrev pub end_text : List ℕ
end_text = each_below mend_lines 16 ++ (pump_all_line ++ (each_below (λ _. tick_round_text) 3 ++ report_lines))

-- The number is the state in which the rounds begin.
unfoldable pub made_text : ℕ → List ℕ
made_text number = start_text ++ (rounds_text 2000 number ++ end_text)
