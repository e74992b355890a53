-- The disks of cells hold what the sites have recorded for which the cells stand.
use Rattle.std.proofs.Common.{◌≡◌, ℕ, zero, suc, ◌+◌, ◌<◌, ◌≤◌, Bool, List, [], ◌∷◌, ◌++◌, length, drop, get_or, Option, refl, sym, ap, subst, ◌∙◌, arith}
use Rattle.std.proofs.lemmas.List.{append_assoc, append-nil, drop_all}
use Rattle.pv_base.specs.Catalog.{Declared}
use Rattle.pv_disk.specs.MemDisk.{MemState}
use Rattle.pv_law_checkpoints.specs.Stages.{Stands}
use Rattle.pv_protocol.specs.State.{Arm, Site}
use Rattle.pv_protocol.specs.World.{no_site}
use Rattle.pv_world.proofs.StandLemmas.{stands-count, stands-from}
use Rattle.pv_world.specs.Disks.{HoldSites, IsLogOfSite, Spells}
use Rattle.pv_world.specs.Stands.{StandForSites, StandsForSite}
use Rattle.pv_world.specs.declared.cell.Cell.{Cell}

-- What a disk spells is a log of it.
pub log-spelled : (site : Site) (armed : Option Arm) (fired : Option Bool) (disk same : MemState) → same ≡ disk → Spells site.records site.standing armed fired disk
    → IsLogOfSite site same.image.content
log-spelled site armed fired disk same is spells =
    (spells.contents, subst (λ (d : MemState). Stands spells.contents site.standing d.image.content) (sym is) spells.holds.stands, spells.spelled)

-- A list from a place on, where there is something.
from-place : (sites : List Site) (n : ℕ) → n < length sites → drop n sites ≡ get_or sites n no_site ∷ drop (suc n) sites
from-place [] n within = absurd (omega (arith, within))
from-place (site ∷ sites) zero within = cc
from-place (site ∷ sites) (suc n) within = from-place sites n (omega (arith, within))

pub one-longer : {A : Type 0} (xs : List A) (x : A) → length (xs ++ x ∷ []) ≡ suc (length xs)
one-longer [] x = refl
one-longer (y ∷ ys) x = ap suc (one-longer ys x)

-- The cell at a place is the site there.
pub cell-is : (catalog : Declared) (cells : List Cell) (sites : List Site) (n : ℕ) (d : Cell) → StandForSites catalog 0 cells sites → n < length cells
    → StandsForSite catalog n (get_or cells n d) (get_or sites n no_site)
cell-is catalog cells sites n d stands within =
    let zero-plus : 0 + n ≡ n = omega arith in
    subst (λ (m : ℕ). StandsForSite catalog m (get_or cells n d) (get_or sites n no_site)) zero-plus (stands-from catalog 0 cells sites n d stands within)

-- One more disk, and whatever holds the rest.
pub hold-next : (catalog : Declared) (cells : List Cell) (sites : List Site) (n : ℕ) (front more : List MemState) (disk : MemState) → StandForSites catalog 0 cells sites
    → n < length cells → IsLogOfSite (get_or sites n no_site) disk.image.content
    → ((rest : List MemState) → HoldSites rest (drop n sites) → HoldSites (front ++ rest) sites)
    → HoldSites more (drop (suc n) sites) → HoldSites ((front ++ disk ∷ []) ++ more) sites
hold-next catalog cells sites n front more disk stands within here before rest =
    let count = stands-count catalog 0 cells sites stands in
    let at = from-place sites n (omega (arith, within, count)) in
    subst (λ (disks : List MemState). HoldSites disks sites) (sym (append_assoc front (disk ∷ []) more))
    (before (disk ∷ more) (subst (HoldSites (disk ∷ more)) (sym at) (here, rest)))

-- When there is no cell left, all sites' disks are there.
pub held-all : (catalog : Declared) (cells : List Cell) (sites : List Site) (n : ℕ) (disks : List MemState) → StandForSites catalog 0 cells sites
    → length cells ≤ n → ((rest : List MemState) → HoldSites rest (drop n sites) → HoldSites (disks ++ rest) sites) → HoldSites disks sites
held-all catalog cells sites n disks stands all before =
    let count = stands-count catalog 0 cells sites stands in
    subst (λ (d : List MemState). HoldSites d sites) (append-nil disks)
    (before [] (subst (HoldSites []) (sym (drop_all n sites (omega (arith, all, count)))) tt))
