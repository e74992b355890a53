-- What a client asks for, and what becomes of it.
use Rattle.std.specs.Prelude.{◌≡◌, ◌⊎◌, ◌<◌, ◌≤◌, [], length}
use Rattle.pv_post.specs.Ends.{SameIn, SameOut, free, known, posted}
use Rattle.pv_crew.specs.declared.client.Client.{Client}

module _ {Q A : Type 0} where
  -- The same client later: its script and its rings are the same.
  abbrev pub GoesOn : Client Q A → Client Q A → Type 0
  GoesOn old new = (new.script ≡ old.script) × SameOut old.asks new.asks × SameIn old.hears new.hears

  -- It has nothing left to ask for, and has heard as many answers as it asked for things; or it waits for an answer and has found that its ring holds none; or
  -- the ring by which it asks has no free place.
  abbrev pub HasEnded : Client Q A → Type 0
  HasEnded client =
      ((client.left.items ≡ []) × (length (posted client.asks) ≤ length client.heard.items))
      ⊎ ((length client.heard.items < length (posted client.asks)) × (known client.hears ≡ [])) ⊎ (free client.asks ≡ 0)

  -- The client when it has played.
  abbrev pub HasPlayed : Client Q A → Client Q A → Type 0
  HasPlayed old new = GoesOn old new × HasEnded new
