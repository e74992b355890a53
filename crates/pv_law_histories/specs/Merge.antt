-- The merge of histories: the moments of all sites, ordered by stamp and then by site (Lamport, 1978), and the events that they are.
use Rattle.std.specs.Prelude.{◌≡◌, ◌⊎◌, ℕ, ◌+◌, ◌<◌, ◌==◌, ◌&&◌, ◌||◌, nat_lt, Bool, false, List, [], ◌∷◌, flat_map, length, All, ⊤, if◌then◌else◌}
use Rattle.pv_base.specs.declared.mode.Mode.TheVariants.{Lost}
use Rattle.pv_law_histories.specs.Fitting.{history_of}
use Rattle.pv_law_histories.specs.History.{Intake, request, parcel, tick, Came, done, fault, down, Stamped, lines_of_came}
use Rattle.pv_model.specs.Events as events
use Rattle.pv_model.specs.Events.{Event}
use Rattle.pv_protocol.specs.Lines.{Line}

-- an entry of a site's history, with the number of the site
pub record Moment : Type 0 where
  pub site : ℕ
  pub entry : Stamped

-- The first has the lesser stamp, or they have one stamp and it is of the lesser site.
abbrev pub IsBefore : Moment → Moment → Type 0
IsBefore first later = (first.entry.stamp < later.entry.stamp) ⊎ ((first.entry.stamp ≡ later.entry.stamp) × (first.site < later.site))

-- Each moment is before all that follow it.
abbrev pub AreInOrder : List Moment → Type 0
AreInOrder [] = ⊤
AreInOrder (moment ∷ moments) = All (IsBefore moment) moments × AreInOrder moments

-- the entries of one site
abbrev pub entries_of : ℕ → List Moment → List Stamped
entries_of n [] = []
entries_of n (moment ∷ moments) = if moment.site == n then moment.entry ∷ entries_of n moments else entries_of n moments

-- The moments are those of the histories, in order.
pub record IsMerge (histories : List (List Stamped)) (moments : List Moment) : Type 0 where
  pub order : AreInOrder moments
  pub sites : All (λ moment. moment.site < length histories) moments
  pub entries : (n : ℕ) → n < length histories → entries_of n moments ≡ history_of histories n

-- ## The events
-- The number of the message that this site sent at this stamp and place: all messages of the moments before come first.
abbrev pub number_of : List Moment → (site stamp place : ℕ) → ℕ
number_of [] site stamp place = place
number_of (moment ∷ moments) site stamp place =
    if moment.site == site && moment.entry.stamp == stamp then place else moment.entry.sends + number_of moments site stamp place

-- what an intake is, at the site of this number, among these moments
abbrev pub event_of : List Moment → ℕ → Intake → Event
event_of moments n (request client asked) = events.submit n asked.query asked.text asked.program
event_of moments n (parcel from stamp place message) = events.deliver (number_of moments from stamp place)
event_of moments n tick = events.tick n

-- Before an event that meets a fault the site's next write or sync is armed, to fail and to leave nothing.
abbrev pub with_fault : ℕ → Came → Event → List Event
with_fault n (done notes) event = event ∷ []
with_fault n fault event = events.arm n 1 Lost false ∷ (event ∷ [])
with_fault n down event = event ∷ []

-- the events of a moment among these
abbrev pub events_at : List Moment → Moment → List Event
events_at moments moment = with_fault moment.site moment.entry.came (event_of moments moment.site moment.entry.intake)

-- the events of all moments
abbrev pub events_of_merge : List Moment → List Event
events_of_merge moments = flat_map (events_at moments) moments

-- the lines of a moment
abbrev pub lines_at : Moment → List Line
lines_at moment = lines_of_came moment.site moment.entry.came

-- the lines of all moments
abbrev pub lines_of_merge : List Moment → List Line
lines_of_merge moments = flat_map lines_at moments

-- ## Merging
-- The moment is before another one, as a test.
abbrev pub is_before : Moment → Moment → Bool
is_before first later =
    nat_lt first.entry.stamp later.entry.stamp || (first.entry.stamp == later.entry.stamp && nat_lt first.site later.site)

-- the moments in order with one more
abbrev pub with_moment : Moment → List Moment → List Moment
with_moment moment [] = moment ∷ []
with_moment moment (first ∷ rest) = if is_before moment first then moment ∷ (first ∷ rest) else first ∷ with_moment moment rest

-- the moments of one site with those of others
abbrev pub with_history : ℕ → List Stamped → List Moment → List Moment
with_history n [] moments = moments
with_history n (entry ∷ entries) moments = with_moment record { site = n; entry = entry } (with_history n entries moments)

-- the moments of sites that are numbered from here on
abbrev pub merge_from : ℕ → List (List Stamped) → List Moment
merge_from n [] = []
merge_from n (history ∷ histories) = with_history n history (merge_from (n + 1) histories)

-- the merge of the histories of all sites
abbrev pub merge : List (List Stamped) → List Moment
merge histories = merge_from 0 histories
