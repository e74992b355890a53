-- What the record of a memory disk's writes says.
use Rattle.std.specs.Prelude.{◌≡◌, ◌⊎◌, ℕ, ◌-◌, ◌≤◌, min, if◌then◌else◌, List, [], ◌∷◌, ◌++◌, length, map, take, drop}
use Rattle.pv_disk_model.specs.Disk.{overlaid}
use Rattle.pv_disk.specs.MemImage.{Range, Moment}
use Rattle.pv_disk.specs.declared.image.Write.{Write}

abbrev pub range_of : Write → Range
range_of write = record { place = write.place; count = write.count }

-- The content when the first of these writes began; with none, what is there now.
abbrev pub content_before : List Write → List ℕ → List ℕ
content_before [] content = content
content_before (write ∷ later) content = write.before.value.items

-- The writes that no sync came after: these, and then those of the rest.
abbrev pub unsynced : List Write → List Write → List Write
unsynced since [] = since
unsynced since (write ∷ later) = unsynced (if write.synced then [] else since ++ write ∷ []) later

-- The moment at which these are the writes since the last sync.
abbrev pub moment_of : List Write → List ℕ → Moment
moment_of since content = record { synced = content_before since content; ranges = map range_of since }

-- The moments before now: one before each write, and one before each sync that had something to sync.
abbrev pub moments_of : List Write → List Write → List Moment
moments_of since [] = []
moments_of since (write ∷ later) =
    moment_of since write.before.value.items ∷ (if write.synced then moment_of (since ++ write ∷ []) [] ∷ moments_of [] later else moments_of (since ++ write ∷ []) later)

-- How many bytes a write wrote over.
abbrev pub overwritten : Write → ℕ
overwritten write = min write.count (write.length - write.place)

-- A write made what it found to this.
pub record Made (write : Write) (after : List ℕ) : Type 0 where
  pub long : write.length ≡ length write.before.value.items
  pub within : write.place ≤ write.length
  pub bytes : List ℕ
  pub all : length bytes ≡ write.count
  pub is : after ≡ overlaid write.before.value.items write.place bytes

-- These writes, one after another, made this content, and the bytes that they wrote over are kept, the oldest first.
abbrev pub CanUndo : List Write → List ℕ → List ℕ → Type 0
CanUndo [] kept content = kept ≡ []
CanUndo (write ∷ later) kept content =
    Made write (content_before later content) × (overwritten write ≤ length kept)
    × (take (overwritten write) kept ≡ take write.count (drop write.place write.before.value.items)) × CanUndo later (drop (overwritten write) kept) content

-- The last write is marked: nothing is left to sync, and the moment that ended is noted, unless there was nothing to sync.
pub record MarksLast (old new : List Write) : Type 0 where
  pub none_left : unsynced [] new ≡ []
  pub notes : ((content : List ℕ) → moments_of [] new ≡ moments_of [] old ++ moment_of (unsynced [] old) content ∷ [])
      ⊎ ((moments_of [] new ≡ moments_of [] old) × (unsynced [] old ≡ []))
