-- The boxes of sites and the ends of their rings, when they are made.
use Rattle.std.specs.Prelude.{◌≡◌, ℕ, ◌<◌, ◌^◌, Some, List, [], ◌∷◌, ◌++◌, length, slice_get, get_or}
use Rattle.pv_base.specs.Catalog.{Declared}
use Rattle.pv_cell.specs.Opens.{AreFresh}
use Rattle.pv_cell.specs.declared.site_box.SiteBox.{SiteBox}
use Rattle.pv_disk_model.specs.LogModel.{LogModel}
use Rattle.pv_mail.specs.declared.ends.Ends.{Ends}
use Rattle.pv_opening.specs.Opened.{IsNewBox}
use Rattle.pv_opening.specs.declared.boxing.EndRows.{EndRows}
use Rattle.pv_site.specs.SiteState.{SiteState}

-- There are so many rows of each kind.
abbrev pub HaveEach : ℕ → EndRows → Type 0
HaveEach count rows =
    (length rows.sites_in.items ≡ count) × (length rows.sites_out.items ≡ count) × (length rows.clients_in.items ≡ count)
    × (length rows.clients_out.items ≡ count)

-- There is a row of each kind.
abbrev pub HaveSome : EndRows → Type 0
HaveSome rows =
    (0 < length rows.sites_in.items) × (0 < length rows.sites_out.items) × (0 < length rows.clients_in.items)
    × (0 < length rows.clients_out.items)

-- The ends are the last rows of the ones, and the others are the rows before these.
abbrev pub IsLastOf : (old new : EndRows) → Ends → Type 0
IsLastOf old new ends =
    (old.sites_in.items ≡ new.sites_in.items ++ ends.sites_in ∷ []) × (old.sites_out.items ≡ new.sites_out.items ++ ends.sites_out ∷ [])
    × (old.clients_in.items ≡ new.clients_in.items ++ ends.clients_in ∷ []) × (old.clients_out.items ≡ new.clients_out.items ++ ends.clients_out ∷ [])

-- The ends are the rows of this number.
abbrev pub AreEndsAt : EndRows → ℕ → Ends → Type 0
AreEndsAt rows n ends =
    (slice_get rows.sites_in.items n ≡ Some ends.sites_in) × (slice_get rows.sites_out.items n ≡ Some ends.sites_out)
    × (slice_get rows.clients_in.items n ≡ Some ends.clients_in) × (slice_get rows.clients_out.items n ≡ Some ends.clients_out)

-- A box has such ends when it is new: there are so many sites.
pub record AreNewEnds (sites : ℕ) (ends : Ends) : Type 0 where
  pub sites_are : (length ends.sites_in.items ≡ sites) × (length ends.sites_out.items ≡ sites)
  pub clients_are : (length ends.clients_in.items ≡ length ends.clients_out.items) × (length ends.clients_in.items < 2 ^ 32)
  pub fresh : AreFresh ends

-- There is a row of each kind for each of so many sites, with such ends.
pub record AreRows (sites : ℕ) (rows : EndRows) : Type 0 where
  pub count : HaveEach sites rows
  pub new : (n : ℕ) (ends : Ends) → AreEndsAt rows n ends → AreNewEnds sites ends

module _ {W : Type 0} (M : LogModel W) (catalog : Declared) (sites : List (SiteState W)) (rows : EndRows) where
  -- It is a new box of the site of this number, with the ends that stand there.
  pub record IsBoxAt (n : ℕ) (box : SiteBox W) : Type 0 where
    pub site : slice_get sites n ≡ Some box.site
    pub new : IsNewBox M catalog n box.site box
    pub ends : AreEndsAt rows n box.ends

  -- There is such a box of each site, in order.
  abbrev pub AreBoxed : List (SiteBox W) → Type 0
  AreBoxed boxes = (length boxes ≡ length sites) × ((n : ℕ) (any : SiteBox W) → n < length boxes → IsBoxAt n (get_or boxes n any))
