-- What a coordinator answers.
use Rattle.std.specs.Prelude.{◌≡◌, ℕ, ◌==◌, ⊤, true, false, List, Option, Some, None, if◌then◌else◌}
use Rattle.pv_base.specs.declared.limits.TheConstants.{NEVER_GIVEN}
use Rattle.pv_coord.specs.Coordinator.{Coordinator, Grants, CanTake, is_last}
use Rattle.pv_coord.specs.Work.{Work, is_grant_ignored, is_vote_ignored, has_all_grants, has_all_votes, with_grant, with_vote, awaited}
use Rattle.pv_coord.specs.declared.answer.Expiry.{Expiry}
use Rattle.pv_coord.specs.declared.answer.GrantTaken.{GrantTaken}
use Rattle.pv_coord.specs.declared.answer.GrantTaken.TheVariants as granted
use Rattle.pv_coord.specs.declared.answer.Vote.{Vote}
use Rattle.pv_coord.specs.declared.answer.Vote.TheVariants as voted
use Rattle.pv_coord.specs.declared.error.CoordError.{CoordError}
use Rattle.pv_coord.specs.declared.error.CoordError.TheVariants.{Spent}
use Rattle.pv_model.specs.Alternatives.{Read}
use Rattle.pv_model.specs.Syntax.{Program, end}
use Rattle.pv_protocol.specs.Coordinate.{reads_of}

-- why no transaction can begin: there is no number left
abbrev pub refusal_of : Coordinator → Option CoordError
refusal_of coord = if coord.next == NEVER_GIVEN then Some Spent else None

-- what a grant that comes in is to its transaction
pub data Arrival : Type 0 where
  -- no notice is taken of it
  ignored : Arrival
  -- it is taken, and others are awaited
  waits : Grants → Arrival
  -- it is the last: the values of all grants, and the program that reads them
  last : List Read → Program → Grants → Arrival

-- what the grant is to this work
abbrev pub arrival_at : Work → Grants → Arrival
arrival_at work grants =
    if is_grant_ignored work grants.taken then ignored else
    (if has_all_grants (with_grant work grants.taken)
    then last (reads_of (with_grant work grants.taken).entry) work.entry.program grants
    else waits grants)

-- what the grant is to what is held
abbrev pub arrival : Option Work → Grants → Arrival
arrival None grants = ignored
arrival (Some work) grants = arrival_at work grants

-- the program of what is held, or an empty one
abbrev pub program_of : Option Work → Program
program_of None = end
program_of (Some work) = work.entry.program

-- an answer to a grant as an arrival, where this program reads the values
abbrev pub arrival_of : Program → GrantTaken → Arrival
arrival_of program granted.Ignored = ignored
arrival_of program (granted.Wait change) = waits change
arrival_of program (granted.Last reads change) = last reads.items program change

-- The answer's change, if it has one, may be applied: with a reply where it is the last, and else without one.
abbrev pub CanApply : Coordinator → Arrival → Type 0
CanApply coord ignored = ⊤
CanApply coord (waits grants) = CanTake coord grants × (false ≡ is_last coord grants)
CanApply coord (last reads program grants) = CanTake coord grants × (true ≡ is_last coord grants)

-- what a yes is to this work
abbrev pub vote_at : Work → ℕ → Vote
vote_at work from =
    if is_vote_ignored work from then voted.Ignored else
    (if has_all_votes (with_vote work from) then voted.Last else voted.Wait)

-- what a yes is to what is held
abbrev pub vote_of : Option Work → ℕ → Vote
vote_of None from = voted.Ignored
vote_of (Some work) from = vote_at work from

-- the transaction of the work, and the site that it waits for
abbrev pub expiry_of : Work → Expiry
expiry_of work = record { txn = work.entry.txn; site = record { 0 = awaited work } }
