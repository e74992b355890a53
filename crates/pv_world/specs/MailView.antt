-- How messages are held: their bytes one after another, with where each ends, and by site how many had been sent when those to it were dropped.
use Rattle.std.specs.Prelude.{◌≡◌, ℕ, zero, suc, ◌+◌, ◌-◌, ◌^◌, ◌≤◌, ◌&&◌, nat_le, Bool, List, [], ◌∷◌, length, take, drop, slice_index, All}
use Rattle.std.specs.List.{position_or_len}
use Rattle.pv_world.specs.Mail.{Posted}
use Rattle.pv_world.specs.declared.mail.Post.{Post}

-- whether the message of this number is fresh: it was neither delivered nor lost, nor were those to its site dropped after it was sent
abbrev pub is_fresh : List ℕ → ℕ → Post → Bool
is_fresh dropped number post = post.fresh && nat_le (slice_index dropped post.to.0) number

-- whether each message is fresh, from this number on
abbrev pub marks_from : List ℕ → ℕ → List Post → List Bool
marks_from dropped number [] = []
marks_from dropped number (post ∷ posts) = is_fresh dropped number post ∷ marks_from dropped (number + 1) posts

-- the messages, from this number on, whose bytes begin here among all bytes
abbrev pub posts_from : (bytes dropped : List ℕ) (number begin : ℕ) → List Post → List Posted
posts_from bytes dropped number begin [] = []
posts_from bytes dropped number begin (post ∷ posts) =
    record { to = post.to.0; bytes = take (post.end - begin) (drop begin bytes); fresh = is_fresh dropped number post }
    ∷ posts_from bytes dropped (number + 1) post.end posts

-- where the bytes of the message at this place begin, if those of the first begin here
abbrev pub begin_at : (begin : ℕ) → List Post → (place : ℕ) → ℕ
begin_at begin posts zero = begin
begin_at begin [] (suc place) = begin
begin_at begin (post ∷ posts) (suc place) = begin_at post.end posts place

-- From here on each message ends where it begins or later, and the last one ends with all bytes.
abbrev pub AreEnds : (begin total : ℕ) → List Post → Type 0
AreEnds begin total [] = begin ≡ total
AreEnds begin total (post ∷ posts) = (begin ≤ post.end) × AreEnds post.end total posts

-- The bytes are those of the messages, there is a count for each number that a site may have, and no message below the first is fresh.
pub record IsMail (bytes dropped : List ℕ) (first : ℕ) (posts : List Post) : Type 0 where
  pub ends : AreEnds 0 (length bytes) posts
  pub sites : length dropped ≡ 2 ^ 8
  pub counts : All (λ count. count ≤ length posts) dropped
  pub done : first ≤ position_or_len (λ mark. mark) (marks_from dropped 0 posts)
