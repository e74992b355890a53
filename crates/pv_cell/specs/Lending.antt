-- A box whose ring ends were lent.
use Rattle.std.specs.Prelude.{◌≡◌}
use Rattle.pv_mail.specs.declared.ends.Ends.{Ends}
use Rattle.pv_post.specs.Ends.{SameOut, offered, posted}
use Rattle.pv_post.specs.declared.outlet.Out.{Out}
use Rattle.pv_rings.specs.Rings.{Each, Rests}
use Rattle.pv_cell.specs.declared.site_box.SiteBox.{SiteBox}

-- the box with these ends
abbrev pub with_ends : {W : Type 0} → SiteBox W → Ends → SiteBox W
with_ends box ends = record box { ends = ends }

-- It is the same end, on which nothing more was posted.
abbrev pub PostsNothing : {M : Type 0} → Out M → Out M → Type 0
PostsNothing old new = SameOut old new × (posted new ≡ posted old) × (offered new ≡ offered old)

-- They are the same ends. Nothing more was posted on them, and nothing was taken from them; those to clients are as they were.
abbrev pub AreStill : Ends → Ends → Type 0
AreStill old new =
    Each (λ k one other. Rests one other) old.sites_in.items new.sites_in.items
    × Each (λ k one other. PostsNothing one other) old.sites_out.items new.sites_out.items
    × Each (λ k one other. Rests one other) old.clients_in.items new.clients_in.items
    × (new.clients_out ≡ old.clients_out)
