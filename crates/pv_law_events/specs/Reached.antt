-- Worlds that acts lead to, one after another.
use Rattle.std.specs.Prelude.{◌≡◌, List, ◌∷◌, ◌++◌, All}
use Rattle.pv_law_acts.specs.Acts.{Acts}
use Rattle.pv_protocol.specs.State.{Setup}
use Rattle.pv_protocol.specs.World.{World, opening}

-- Acts lead from where runs begin to each of these worlds, and from each to each later one.
abbrev pub AreReached : Setup → List World → Type 0
AreReached setup worlds = (before later : List World) (world : World) → worlds ≡ before ++ world ∷ later
    → Acts setup (opening setup) world × All (Acts setup world) later
