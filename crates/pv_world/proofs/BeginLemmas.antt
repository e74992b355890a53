-- The world before any event.
use Rattle.std.proofs.Common.{arith, ◌≡◌, ◌∙◌, ℕ, zero, suc, ◌+◌, List, [], ◌∷◌, ◌++◌, map, length, replicate, refl, sym, ap, subst}
use Rattle.pv_base.specs.Catalog.{Declared}
use Rattle.pv_protocol.specs.Limit.{over_limit}
use Rattle.pv_protocol.specs.Sound.{IsSetupInRange}
use Rattle.pv_protocol.specs.State.{Site}
use Rattle.pv_protocol.specs.World.{first_site, opening}
use Rattle.pv_site.specs.SiteState.{setup_of}
use Rattle.pv_world.specs.Carry.{Carry}
use Rattle.pv_world.specs.Mail.{MailState}
use Rattle.pv_world.specs.Reached.{IsReached}
use Rattle.pv_world.specs.Stands.{Stands, StandsFor, StandForSites, StandsForSite, placed_of}
use Rattle.pv_world.specs.declared.cell.Cell.{Cell}
use Rattle.pv_world.specs.declared.order.Placed.{Placed}
use Rattle.pv_world.specs.declared.world.World.{World}
use Rattle.pv_world.proofs.RunLemmas.{reached-opening}

-- One site more, as it is after its first start.
pub stands-push : (catalog : Declared) (n k : ℕ) (cells : List Cell) (cell : Cell) → StandForSites catalog n cells (replicate k first_site)
    → StandsForSite catalog (n + k) cell first_site → StandForSites catalog n (cells ++ cell ∷ []) (replicate (suc k) first_site)
stands-push catalog n zero [] cell stands new = (subst (λ (m : ℕ). StandsForSite catalog m cell first_site) (omega arith) new, tt)
stands-push catalog n (suc k) [] cell stands new = absurd stands
stands-push catalog n zero (c ∷ cells) cell stands new = absurd stands
stands-push catalog n (suc k) (c ∷ cells) cell stands new =
    (stands.0, stands-push catalog (n + 1) k cells cell stands.1 (subst (λ (m : ℕ). StandsForSite catalog m cell first_site) (omega arith) new))

all-sites : (n : ℕ) (site : Site) → length (replicate n site) ≡ n
all-sites zero site = refl
all-sites (suc n) site = ap suc (all-sites n site)

stands-opening : (world : World) (catalog : Declared) (limit : ℕ) → world.catalog ≡ catalog
    → StandForSites catalog 0 world.cells.items (replicate catalog.sites first_site) → world.mail ≡ record { posts = []; limit = limit } → world.order.items ≡ []
    → Stands world (opening (setup_of catalog))
unfolding over_limit
stands-opening world catalog limit declared cells mail order =
    record {
      count = all-sites catalog.sites first_site ∙ sym (ap (λ (catalog : Declared). catalog.sites) declared);
      sites = subst (λ (catalog' : Declared). StandForSites catalog' 0 world.cells.items (replicate catalog.sites first_site)) (sym declared) cells;
      sent = subst (λ (mail : MailState). Carry mail.posts []) (sym mail) tt;
      fresh = ap (λ (mail : MailState). map (λ post. post.fresh) mail.posts) mail;
      order = ap (λ (order : List Placed). map placed_of order) order;
      within = refl;
    }

-- Each site has been started once, and nothing was sent or placed.
pub stands-for-opening : (world : World) (catalog : Declared) (limit : ℕ) → world.catalog ≡ catalog
    → StandForSites catalog 0 world.cells.items (replicate catalog.sites first_site) → world.mail ≡ record { posts = []; limit = limit } → world.order.items ≡ []
    → IsSetupInRange (setup_of catalog) → StandsFor world (opening (setup_of catalog))
stands-for-opening world catalog limit declared cells mail order range =
    record {
      stands = stands-opening world catalog limit declared cells mail order;
      range = subst (λ (catalog : Declared). IsSetupInRange (setup_of catalog)) (sym declared) range;
      reached = subst (λ (catalog' : Declared). IsReached (setup_of catalog') (opening (setup_of catalog))) (sym declared) (reached-opening (setup_of catalog));
    }
