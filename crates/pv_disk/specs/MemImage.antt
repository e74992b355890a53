-- What a disk in memory holds, and what a crash leaves of it.
use Rattle.std.specs.Prelude.{◌≡◌, ◌⊎◌, ℕ, ◌+◌, ◌≤◌, List, [], ◌∷◌, ◌++◌, length, replicate}
use Rattle.pv_base.specs.declared.mode.Mode.{Mode}
use Rattle.pv_base.specs.declared.mode.Mode.TheVariants.{Lost, Kept, Torn as TornAll}
use Rattle.pv_disk_model.specs.Disk.{overlaid, Torn}

-- A range of bytes.
pub record Range : Type 0 where
  pub place : ℕ
  pub count : ℕ

-- What decides at a moment what a crash may leave: what was last synced, and the ranges written since, the oldest first.
pub record Moment : Type 0 where
  pub synced : List ℕ
  pub ranges : List Range

-- What is there now, what decides now, and what decided at each moment before, the oldest first; for how many bytes and writes there is room.
pub record ImageState : Type 0 where
  pub content : List ℕ
  pub now : Moment
  pub past : List Moment
  pub room : ℕ
  pub writes : ℕ

-- Torn writes of these ranges, one after another, make the one content to the other.
abbrev pub Reaches : List ℕ → List Range → List ℕ → Type 0
Reaches from [] left = left ≡ from
Reaches from (range ∷ later) left = (mid : List ℕ) × Torn range.place range.count from mid × Reaches mid later left

-- Torn writes of these ranges, each of which lies within what it made, make the one content to the other.
abbrev pub AreMade : List ℕ → List Range → List ℕ → Type 0
AreMade from [] to = to ≡ from
AreMade from (range ∷ later) to =
    (mid : List ℕ) × Torn range.place range.count from mid × (range.place + range.count ≤ length mid) × AreMade mid later to

-- What reads give is what the writes since the last sync made.
abbrev pub IsMade : ImageState → Type 0
IsMade image = AreMade image.now.synced image.now.ranges image.content

-- A crash at such a moment may leave this.
abbrev pub MayLeave : Moment → List ℕ → Type 0
MayLeave moment left = Reaches moment.synced moment.ranges left

-- A crash at one of these moments might have left this.
abbrev pub MightHaveLeft : List Moment → List ℕ → Type 0
MightHaveLeft [] left = ⊥
MightHaveLeft (moment ∷ later) left = MayLeave moment left ⊎ MightHaveLeft later left

-- Each of these ranges ends at that place at most.
abbrev pub AllInside : List Range → ℕ → Type 0
AllInside [] end = Unit {0}
AllInside (range ∷ later) end = (range.place + range.count ≤ end) × AllInside later end

-- The content with 165 at each place of these ranges.
abbrev pub filled : List Range → List ℕ → List ℕ
filled [] content = content
filled (range ∷ later) content = overlaid (filled later content) range.place (replicate range.count 165)

-- All is synced: only the content may be left.
abbrev pub settled_at : List ℕ → Moment
settled_at content = record { synced = content; ranges = [] }

-- After a write of so many bytes at this place.
abbrev pub written_at : Moment → ℕ → ℕ → Moment
written_at moment place count = record moment { ranges = moment.ranges ++ record { place = place; count = count } ∷ [] }

-- The moment that ends is noted, unless nothing was written since the last sync.
abbrev pub NotesMoment : ImageState → ImageState → Type 0
NotesMoment old new = (new.past ≡ old.past ++ old.now ∷ []) ⊎ ((new.past ≡ old.past) × (old.now.ranges ≡ []))

-- What a write or a sync that fires leaves: the bytes written since the last sync are gone, all there, or all 165.
abbrev pub left_by : Mode → Moment → List ℕ → List ℕ
left_by Lost moment content = moment.synced
left_by Kept moment content = content
left_by TornAll moment content = filled moment.ranges content
