-- A program has at most as many participants as there are sites.
use Rattle.std.proofs.Common.{arith, ◌≡◌, ℕ, suc, ◌+◌, ◌-◌, ◌<◌, ◌≤◌, Bool, true, false, List, [], ◌∷◌, length, refl}
use Rattle.std.specs.Prelude.{◌==◌, nat_lt, All, if◌then◌else◌}
use Rattle.std.proofs.lemmas.Bool.Decides.{nat_tests}
use Rattle.std.proofs.lemmas.List.Elements.{All-head, All-tail}
use Rattle.pv_base.specs.Catalog.{Item, Declared}
use Rattle.pv_law_world.specs.Pumps.{HasFewSites}
use Rattle.pv_model.specs.Check.{names_item}
use Rattle.pv_model.specs.Plan.{with_participant, sites_from, participants_of}
use Rattle.pv_model.specs.Syntax.{Program}

-- The sites ascend, from this one on and below a bound.
data Ascend (bound : ℕ) : ℕ → List ℕ → Type 0 where
  none : (low : ℕ) → Ascend bound low []
  one_more : (low site : ℕ) (sites : List ℕ) → low ≤ site → site < bound → Ascend bound (suc site) sites → Ascend bound low (site ∷ sites)

if-case : {X : Type 0} (P : X → Type 0) (test : Bool) {x y : X} → (test ≡ true → P x) → (test ≡ false → P y) → P (if test then x else y)
if-case P true is isnt = is refl
if-case P false is isnt = isnt refl

module _ (bound : ℕ) where
  with_participant-ascends : (low site : ℕ) (sites : List ℕ) → low ≤ site → site < bound → Ascend bound low sites → Ascend bound low (with_participant site sites)
  with_participant-ascends low site [] from below ascends = one_more low site [] from below (none (suc site))
  with_participant-ascends low site (first ∷ sites) from below (one_more low' first' sites' first_from first_below rest) =
      if-case (Ascend bound low) (site == first) (λ same. one_more low first sites first_from first_below rest)
      (λ other. if-case (Ascend bound low) (nat_lt site first)
      (λ before. one_more low site (first ∷ sites) from below (one_more (suc site) first sites (grind arith) first_below rest))
      (λ after. one_more low first (with_participant site sites) first_from first_below
      (with_participant-ascends (suc first) site sites (grind (arith, nat_tests)) below rest)))

  sites-ascend : (program : Program) (n : ℕ) (items : List Item) → All (λ item. item.site < bound) items → Ascend bound 0 (sites_from program n items)
  sites-ascend program n [] homes = none 0
  sites-ascend program n (item ∷ items) homes =
      let rest : Ascend bound 0 (sites_from program (n + 1) items) = sites-ascend program (n + 1) items (All-tail (λ (i : Item). i.site < bound) item items homes) in
      if-case (Ascend bound 0) (names_item program n)
      (λ named. with_participant-ascends 0 item.site (sites_from program (n + 1) items) (omega arith) (All-head (λ (i : Item). i.site < bound) item items homes) rest)
      (λ unnamed. rest)

  ascending-few : (low : ℕ) (sites : List ℕ) → Ascend bound low sites → length sites ≤ bound - low
  ascending-few low [] ascends = omega arith
  ascending-few low (site ∷ sites) (one_more low' site' sites' from below rest) =
      let fewer : length sites ≤ bound - suc site = ascending-few (suc site) sites rest in omega arith

pub few-participants : (catalog : Declared) (program : Program) → HasFewSites catalog → length (participants_of program catalog.items) ≤ 16
few-participants catalog program is =
    let few : length (participants_of program catalog.items) ≤ catalog.sites - 0 =
    ascending-few catalog.sites 0 _ (sites-ascend catalog.sites program 0 catalog.items is.homes) in
    let limit : catalog.sites ≤ 16 = is.few in omega arith
