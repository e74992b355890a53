-- A site in bytes, and what calls do that aren't about what is to be written.
use Rattle.std.specs.Prelude.{◌≡◌, ℕ, List, [], Bool, false, Result, Ok, Err}
use Rattle.pv_embed.specs.Hosted.{HostedState}
use Rattle.pv_embed.specs.Opening.{OpensHosted}
use Rattle.pv_embed.specs.declared.fault.OpenFault.{OpenFault}
use Rattle.pv_handle.specs.declared.tags.Tag.{Tag}

-- A site with a host; whether the host was given the bytes of what it is to write next; and what the host has given to requests whose numbers weren't reported yet.
pub record ByteState : Type 0 where
  pub hosted : HostedState
  pub taken : Bool
  pub tags : List Tag

-- A call that does so with the site. What the host was given to write, it still has; and the tags are kept.
abbrev pub OnSite : {R : Type 0} → (HostedState → HostedState → R → Type 0) → ByteState → ByteState → R → Type 0
OnSite Does old new result = Does old.hosted new.hosted result × (new.taken ≡ old.taken) × (new.tags ≡ old.tags)

-- An opening, by its answer. The host was given nothing yet, and has given nothing.
abbrev pub OpensBytes : List ℕ → ℕ → List ℕ → Result ByteState OpenFault → Type 0
OpensBytes config me file (Ok site) = OpensHosted config me file (Ok site.hosted) × (site.taken ≡ false) × (site.tags ≡ [])
OpensBytes config me file (Err fault) = OpensHosted config me file (Err fault)
