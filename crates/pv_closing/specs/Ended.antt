-- What becomes of clients whose threads have ended.
use Rattle.std.specs.Prelude.{◌≡◌, List}
use Rattle.pv_post.specs.Ends.{SameOut}
use Rattle.pv_rings.specs.Rings.{Each}
use Rattle.pv_closing.specs.declared.ended.Ended.{Ended}

-- The same client later: it asks for the same, by the same ring.
abbrev pub AsksOn : Ended → Ended → Type 0
AsksOn old new = (new.script ≡ old.script) × SameOut old.asks new.asks

-- All clients later.
abbrev pub AskOn : List Ended → List Ended → Type 0
AskOn old new = Each (λ k one other. AsksOn one other) old new
