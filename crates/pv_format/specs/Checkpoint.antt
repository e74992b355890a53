-- A checkpoint of a log in two areas: its parts, and the table of what a stop or a fault in each of its writes and syncs leaves of the number in force and of the
-- gate of the root that isn't in force.
use Rattle.std.specs.Prelude.{◌≡◌, ◌⊎◌, ℕ, ◌+◌, ◌-◌, ◌^◌, nat_lt, Bool, true, false, if◌then◌else◌, List, [], ◌∷◌}
use Rattle.pv_base.specs.declared.mode.Mode.{Mode}
use Rattle.pv_base.specs.declared.mode.Mode.TheVariants.{Lost, Kept, Torn}

-- How a log in two areas stands: the number in force, and whether the gate of the root that isn't in force is 1.
pub record Standing : Type 0 where
  pub number : ℕ
  pub other_open : Bool

-- The greatest number of a root. Once it is in force there is no checkpoint any more.
abbrev pub greatest_number : ℕ
greatest_number = 2 ^ 64 - 1

-- As it is formatted.
abbrev pub first_standing : Standing
first_standing = record { number = 1; other_open = false }

-- After a checkpoint that is done.
abbrev pub done : Standing → Standing
done standing = record { number = standing.number + 1; other_open = true }

-- Where the other gate isn't 1.
abbrev pub shut : Standing → Standing
shut standing = record { number = standing.number; other_open = false }

-- The parts of a checkpoint, each a write and a sync: of the block of all contents and a closed gate, of a 0 in the other root's gate where it is 1, of that
-- root's number, place and size, and of a 1 in its gate.
pub data Part : Type 0 where
  storing : Part
  closing : Part
  naming : Part
  opening : Part

-- The parts of a checkpoint, in order. Where the other gate isn't 1 there is no closing.
abbrev pub parts_of : Bool → List Part
parts_of true = storing ∷ closing ∷ naming ∷ opening ∷ []
parts_of false = storing ∷ naming ∷ opening ∷ []

-- How many writes and syncs a checkpoint makes.
abbrev pub calls_of : Bool → ℕ
calls_of other_open = if other_open then 8 else 6

-- The part in which a write or sync is, counted from 1.
abbrev pub part_of : Bool → ℕ → Part
part_of true call = if nat_lt call 3 then storing else if nat_lt call 5 then closing else if nat_lt call 7 then naming else opening
part_of false call = if nat_lt call 3 then storing else if nat_lt call 5 then naming else opening

-- What a stop or a fault leaves in the write or the sync of a part.
abbrev pub left_by : Part → Mode → Standing → Standing
left_by storing mode standing = standing
left_by closing Lost standing = standing
left_by closing Kept standing = shut standing
left_by closing Torn standing = shut standing
left_by naming mode standing = shut standing
left_by opening Lost standing = shut standing
left_by opening Kept standing = done standing
left_by opening Torn standing = shut standing

-- What a crash at any moment of a part may leave.
abbrev pub MayLeave : Part → Standing → Standing → Type 0
MayLeave storing was left = left ≡ was
MayLeave closing was left = (left ≡ was) ⊎ (left ≡ shut was)
MayLeave naming was left = left ≡ shut was
MayLeave opening was left = (left ≡ shut was) ⊎ (left ≡ done was)

-- What a crash at any moment of a whole checkpoint may leave: a standing as before, one with the other gate not 1, or one as after a checkpoint that is done.
abbrev pub MayLeaveInAll : Standing → Standing → Type 0
MayLeaveInAll was left = (left ≡ was) ⊎ (left ≡ shut was) ⊎ (left ≡ done was)
