-- Which messages the mail carries.
use Rattle.std.specs.Prelude.{◌≡◌, List, [], ◌∷◌, ⊤}
use Rattle.pv_format.specs.Message.{Envelope}
use Rattle.pv_format.specs.MessageSpelling.{SpellsEnvelope}
use Rattle.pv_world.specs.Mail.{Posted}

-- Each message that was posted is the envelope in its place: it goes to the same site, and its bytes spell it.
abbrev pub Carry : List Posted → List Envelope → Type 0
Carry [] [] = ⊤
Carry (post ∷ posts) (envelope ∷ sent) = (post.to ≡ envelope.to) × SpellsEnvelope envelope post.bytes × Carry posts sent
Carry _ _ = ⊥
