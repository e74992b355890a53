-- The messages that were sent, as they are kept.
use Rattle.std.specs.Prelude.{ℕ, Bool, not, ◌&&◌, ◌==◌, false, List, [], ◌∷◌, map, length, zero, suc}
use Rattle.std.specs.List.{sum_by}

-- a message that was sent: its receiver, its bytes, and whether it is fresh
pub record Posted : Type 0 where
  pub to : ℕ
  pub bytes : List ℕ
  pub fresh : Bool

-- every message that was sent, by its number, and how many bytes they may have together
pub record MailState : Type 0 where
  pub posts : List Posted
  pub limit : ℕ

-- how many bytes the messages have together
abbrev pub bytes_sent : List Posted → ℕ
bytes_sent posts = sum_by (λ post. length post.bytes) posts

-- the message, done
abbrev pub done_post : Posted → Posted
done_post post = record post { fresh = false }

-- the messages, where the one of this number is done, if there is one
abbrev pub with_done_post : ℕ → List Posted → List Posted
with_done_post n [] = []
with_done_post zero (post ∷ posts) = done_post post ∷ posts
with_done_post (suc n) (post ∷ posts) = post ∷ with_done_post n posts

-- the message, done if it goes to the site
abbrev pub post_unless_to : ℕ → Posted → Posted
post_unless_to site post = record post { fresh = post.fresh && not (post.to == site) }

-- the messages, where those to the site are done
abbrev pub without_posts_to : ℕ → List Posted → List Posted
without_posts_to site posts = map (post_unless_to site) posts
