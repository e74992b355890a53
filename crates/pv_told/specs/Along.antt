-- What a history says of what clients ask for.
use Rattle.std.specs.Prelude.{ℕ, ◌==◌, ◌&&◌, ◌||◌, Bool, true, false, Option, Some, None, List, [], ◌∷◌, ◌++◌, if◌then◌else◌}
use Rattle.pv_law_histories.specs.History.{Came, done, fault, down, Stamped}
use Rattle.pv_protocol.specs.Lines.{Line}
use Rattle.pv_mail.specs.Answers.{Told, asker_of, begun_by, told_by}
use Rattle.pv_mail.specs.declared.asked.Asker.{Asker}
use Rattle.pv_mail.specs.declared.asked.Begun.{Begun}

-- ## The history's own lines
-- what clients are told along a history, entry by entry, where these transactions are begun and not decided at first
abbrev pub told_along : ℕ → List Begun → List Stamped → List Told
told_along me begun [] = []
told_along me begun (entry ∷ entries) =
    told_by me begun entry.intake entry.came ++ told_along me (begun_by begun entry.intake entry.came) entries

abbrev pub is_same_asker : Asker → Asker → Bool
is_same_asker one other = (one.client == other.client) && (one.number == other.number)

-- the first of these lines that is of this request
abbrev pub line_among : Asker → List Told → Option Line
line_among asker [] = None
line_among asker (told ∷ more) = if is_same_asker told.asker asker then Some told.line else line_among asker more

-- ## Faults
abbrev pub is_fault : Came → Bool
is_fault (done notes) = false
is_fault fault = true
is_fault down = false

-- Whether the request stands in what was taken in.
abbrev pub is_asked_by : Asker → Option Asker → Bool
is_asked_by asker None = false
is_asked_by asker (Some other) = is_same_asker other asker

abbrev pub has_fault : List Stamped → Bool
has_fault [] = false
has_fault (entry ∷ entries) = is_fault entry.came || has_fault entries

-- Whether the request stands in the history, and its site met a fault at it or after it.
abbrev pub has_fault_since : Asker → List Stamped → Bool
has_fault_since asker [] = false
has_fault_since asker (entry ∷ entries) =
    (is_asked_by asker (asker_of entry.intake) && has_fault (entry ∷ entries)) || has_fault_since asker entries

-- ## Both
abbrev pub or_fault : ℕ → Bool → Option Line → Option Line
or_fault me since (Some line) = Some line
or_fault me true None = Some (Line.fault me)
or_fault me false None = None

-- what the history of this site says of the request: that its transaction has committed or is refused, or that the site had no number left or was down; or else that
-- the site has met a fault since
abbrev pub line_by : (me : ℕ) → Asker → List Stamped → Option Line
line_by me asker history = or_fault me (has_fault_since asker history) (line_among asker (told_along me [] history))
