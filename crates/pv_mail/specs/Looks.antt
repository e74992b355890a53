-- How the rings of a box change.
use Rattle.std.specs.Prelude.{◌≡◌}
use Rattle.pv_rings.specs.Rings.{Each, IsFoundEmpty}
use Rattle.pv_mail.specs.declared.ends.Ends.{Ends}

-- The rings in are as they were, and weren't looked at.
abbrev pub SameInRings : Ends → Ends → Type 0
SameInRings old new = (new.sites_in ≡ old.sites_in) × (new.clients_in ≡ old.clients_in)

-- No ring gave anything.
abbrev pub AllFoundEmpty : Ends → Ends → Type 0
AllFoundEmpty old new =
    Each (λ k one other. IsFoundEmpty one other) old.sites_in.items new.sites_in.items
    × Each (λ k one other. IsFoundEmpty one other) old.clients_in.items new.clients_in.items

-- The rings out are as they were, and nothing was handed to them.
abbrev pub SameOutRings : Ends → Ends → Type 0
SameOutRings old new = (new.sites_out ≡ old.sites_out) × (new.clients_out ≡ old.clients_out)
