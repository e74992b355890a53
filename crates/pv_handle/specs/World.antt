-- What a world in a slot does.
use Rattle.std.specs.Prelude.{◌≡◌, ℕ, List, ◌++◌, length, min, take, drop}
use Rattle.pv_model.specs.Events.{Event}
use Rattle.pv_embed_world.specs.World.{HasRun, Hosted}

-- A taking of so many bytes: as many as are kept and have room are written, and these alone are dropped.
pub record TakesKept (room out : List ℕ) (old new : Hosted) (count : ℕ) : Type 0 where
  pub counted : count ≡ min (length room) (length old.kept)
  pub copied : out ≡ take count old.kept ++ drop count room
  pub rest : new ≡ record old { kept = drop count old.kept }
  pub run : (events : List Event) (taken : List ℕ) → HasRun old events taken → HasRun new events (taken ++ take count old.kept)
