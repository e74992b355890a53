-- What a log in memory is, and what its calls make of it.
use Rattle.std.specs.Prelude.{◌≡◌, ℕ, ◌+◌, ◌≤◌, ◌<◌, ◌==◌, Bool, false, not, is_none, MatchBool, if◌then◌else◌, List, [], ◌∷◌, ◌++◌, Option, Some, None, length, take, find}
use Rattle.pv_base.specs.Fault.{risen}
use Rattle.pv_disk_model.specs.Size.{Contents, size_of}
use Rattle.pv_disk_model.specs.Calls.{LogCall, read_all, reserve, append}
use Rattle.pv_disk.specs.declared.list_log.AppendFail.{AppendFail}

-- A log in memory: what it holds and how long it may be; which appends fail, how many there were, and how many calls failed; whether it
-- is down; for how many contents there is a place, and for how many bytes of the next one.
pub record ListState : Type 0 where
  pub contents : Contents
  pub limit : ℕ
  pub fails : List AppendFail
  pub appends : ℕ
  pub faults : ℕ
  pub is_down : Bool
  pub places : ℕ
  pub bytes : ℕ

-- What is planned for the append with this number: the first entry decides.
abbrev pub planned : List AppendFail → ℕ → Option AppendFail
planned fails number = find (λ fail. fail.number == number) fails

-- What the log holds after an append, by what was planned for it.
abbrev pub contents_after : Contents → List ℕ → Option AppendFail → Contents
contents_after contents content None = contents ++ content ∷ []
contents_after contents content (Some fail) = if fail.kept then contents ++ content ∷ [] else contents

-- An append succeeds exactly where no failure is planned for it. The room that is left isn't said.
pub record AppendsToList (old : ListState) (content : List ℕ) (ok : Bool) (new : ListState) : Type 0 where
  pub succeeds : ok ≡ is_none (planned old.fails old.appends)
  pub becomes : new ≡ record old {
    contents = contents_after old.contents content (planned old.fails old.appends);
    appends = risen old.appends;
    faults = if ok then old.faults else risen old.faults;
    is_down = not ok;
    places = new.places;
    bytes = new.bytes;
  }

-- The same log with other room.
abbrev pub IsSameBesideRoom : ListState → ListState → Type 0
IsSameBesideRoom old new = new ≡ record old { places = new.places; bytes = new.bytes }

-- There is a place and memory for a content of so many bytes, within the limit.
abbrev pub HasPlace : ListState → ℕ → Type 0
HasPlace log content = (0 < log.places) × (content ≤ log.bytes) × (size_of log.contents + (5 + content) ≤ log.limit)

-- What a call makes of a log. One that is down refuses each and stays.
abbrev pub ListGoes : ListState → LogCall → Bool → ListState → Type 0
ListGoes old (append content) ok new = MatchBool old.is_down ((ok ≡ false) × (new ≡ old)) (AppendsToList old content ok new)
ListGoes old (reserve content) ok new = IsSameBesideRoom old new
ListGoes old read_all ok new = new ≡ old

-- A crash since that moment might have left this: what the log held then, and what it has held since.
abbrev pub WasHeld : ListState → ℕ → Option Contents → Type 0
WasHeld log since left = (k : ℕ) × (since ≤ k) × (k ≤ length log.contents) × (left ≡ Some (take k log.contents))
