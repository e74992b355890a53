-- The rings and the site of a new box.
use Rattle.std.specs.Prelude.{◌≡◌, [], Some, All}
use Rattle.pv_base.specs.declared.limits.TheConstants.{HELD_NAMES}
use Rattle.pv_mail.specs.declared.ends.Ends.{Ends}
use Rattle.pv_post.specs.Ends.{known, offered, posted, taken}
use Rattle.pv_post.specs.declared.inlet.In.{In}
use Rattle.pv_post.specs.declared.outlet.Out.{Out}
use Rattle.pv_protocol.specs.State.{Running}
use Rattle.pv_protocol.specs.Width.{IsNarrow}
use Rattle.pv_site.specs.SiteState.{SiteState}

-- Nothing was posted on the ring, and nothing was taken from it.
abbrev pub IsFreshIn : {M : Type 0} → In M → Type 0
IsFreshIn inlet = (taken inlet ≡ []) × (known inlet ≡ [])

abbrev pub IsFreshOut : {M : Type 0} → Out M → Type 0
IsFreshOut out = (offered out ≡ []) × (posted out ≡ [])

abbrev pub AreFresh : Ends → Type 0
AreFresh ends =
    All IsFreshIn ends.sites_in.items × All IsFreshOut ends.sites_out.items × All IsFreshIn ends.clients_in.items × All IsFreshOut ends.clients_out.items

-- The site is up and works on nothing, as one that was just opened, its shown values are narrow, and its log has its records as they are written.
pub record IsOpened {W : Type 0} (site : SiteState W) : Type 0 where
  pub running : Running
  pub up : site.running ≡ Some running
  pub entries : running.entries ≡ []
  pub narrow : IsNarrow HELD_NAMES site.catalog site.me site.records
  pub surplus : site.surplus ≡ 0
