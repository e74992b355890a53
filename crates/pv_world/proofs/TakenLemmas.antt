-- What coordinators took stands in the order of sites, in every world of a run.
use Rattle.std.proofs.Common.{arith, ◌≡◌, ⊎_elim, ℕ, ◌+◌, ◌<◌, ◌≤◌, Bool, true, false, ◌||◌, List, [], ◌∷◌, refl}
use Rattle.std.specs.Prelude.{All, nat_lt, ◌==◌}
use Rattle.std.specs.List.{list_any}
use Rattle.std.proofs.lemmas.Bool.Decides.{nat_tests}
use Rattle.std.proofs.lemmas.List.Elements.{All-cons, All-nil, All-head, All-tail, All-contains}
use Rattle.pv_base.specs.Catalog.{Item}
use Rattle.pv_base.specs.declared.txn.TxnId.{TxnId}
use Rattle.pv_law_acts.proofs.ListLemmas.{among-listed}
use Rattle.pv_law_acts.proofs.PassedLemmas.{no-work-yet}
use Rattle.pv_law_acts.proofs.StepLemmas.{acts-hold}
use Rattle.pv_law_acts.specs.Acts.{Acts}
use Rattle.pv_law_acts.specs.Steps.{IsStep, NewEntry, has_begun, has_taken, is_placed, has_counted}
use Rattle.pv_law_step.proofs.StepCases.{if_case}
use Rattle.pv_model.specs.Check.{names_item}
use Rattle.pv_model.specs.Plan.{with_participant, sites_from, participants_of}
use Rattle.pv_model.specs.Syntax.{Program}
use Rattle.pv_protocol.specs.Coordinate.{with_taken}
use Rattle.pv_protocol.specs.Here.{is_among}
use Rattle.pv_protocol.specs.State.{Setup, Taken, Entry}
use Rattle.pv_protocol.specs.World.{World, opening}
use Rattle.pv_world.specs.Taken.{Ascend, AreTakenInOrder}

-- Participants are sites.
module _ (bound : ℕ) where
  abbrev IsBelow : ℕ → Type 0
  IsBelow site = site < bound

  with_participant-below : (site : ℕ) (sites : List ℕ) → site < bound → All IsBelow sites → All IsBelow (with_participant site sites)
  with_participant-below site [] below all = All-cons IsBelow site [] below all
  with_participant-below site (first ∷ rest) below all =
      if_case (All IsBelow) (site == first) (λ same. all)
      (λ other. if_case (All IsBelow) (nat_lt site first)
      (λ before. All-cons IsBelow site (first ∷ rest) below all)
      (λ behind. All-cons IsBelow first (with_participant site rest) (All-head IsBelow first rest all) (with_participant-below site rest below (All-tail IsBelow first rest all))))

  sites-below : (program : Program) (n : ℕ) (items : List Item) → All (λ item. item.site < bound) items → All IsBelow (sites_from program n items)
  sites-below program n [] homes = All-nil IsBelow
  sites-below program n (item ∷ items) homes =
      let rest : All IsBelow (sites_from program (n + 1) items) = sites-below program (n + 1) items (All-tail (λ (i : Item). i.site < bound) item items homes) in
      if_case (All IsBelow) (names_item program n)
      (λ named. with_participant-below item.site (sites_from program (n + 1) items) (All-head (λ (i : Item). i.site < bound) item items homes) rest)
      (λ unnamed. rest)

  pub participant-below : (program : Program) (items : List Item) (site : ℕ) → All (λ item. item.site < bound) items
      → is_among (participants_of program items) site ≡ true → site < bound
  participant-below program items site homes among =
      All-contains IsBelow (participants_of program items) site (sites-below program 0 items homes) (among-listed (participants_of program items) site among)

-- No number is below 0.
pub none-below : (n : ℕ) → 0 ≤ n
none-below n = omega arith

-- One more that was taken, from a site that none was taken from.

neither : (a b : Bool) → (a || b) ≡ false → (a ≡ false) × (b ≡ false)
neither false b none = (refl, none)
neither true b none = absurd cc

pub with-taken-ascend : (low bound : ℕ) (taken : Taken) (list : List Taken) → low ≤ taken.site → taken.site < bound
    → list_any (λ (other : Taken). other.site == taken.site) list ≡ false → Ascend low bound list → Ascend low bound (with_taken taken list)
with-taken-ascend low bound taken [] from below none ascend = (from, below, tt)
with-taken-ascend low bound taken (first ∷ rest) from below none ascend =
    let apart = neither (first.site == taken.site) (list_any (λ (other : Taken). other.site == taken.site) rest) none in
    if_case (Ascend low bound) (nat_lt taken.site first.site)
    (λ before. (from, below, (grind (arith, nat_tests, before), ascend.1, ascend.2)))
    (λ behind. (ascend.0, ascend.1, with-taken-ascend (first.site + 1) bound taken rest (grind (arith, nat_tests, apart.0)) below apart.1 ascend.2))

-- Each act keeps what was taken in order.
module _ (setup : Setup) (homes : All (λ item. item.site < setup.catalog.sites) setup.catalog.items) where
  new-ascends : (w v : World) → AreTakenInOrder setup w → (n : ℕ) (txn : TxnId) (entry : Entry) → NewEntry setup w v n txn entry
      → Ascend 0 setup.catalog.sites entry.taken
  new-ascends w v orderly n txn entry (has_begun program home fresh passed runs) = tt
  new-ascends w v orderly n txn entry (has_taken was taken works may) =
      with-taken-ascend 0 setup.catalog.sites taken was.taken (none-below taken.site)
      (participant-below setup.catalog.sites was.program setup.catalog.items taken.site homes may.participant) may.first (orderly n txn was works)
  new-ascends w v orderly n txn entry (is_placed was works may grown) = orderly n txn was works
  new-ascends w v orderly n txn entry (has_counted was from works may) = orderly n txn was works

  stays-taken : (w v : World) → IsStep setup w v → AreTakenInOrder setup w → AreTakenInOrder setup v
  stays-taken w v step orderly n txn entry works =
      ⊎_elim (λ old. orderly n txn entry old) (λ new. new-ascends w v orderly n txn entry new) (step.entries n txn entry works)

  pub always-taken : (world : World) → Acts setup (opening setup) world → AreTakenInOrder setup world
  always-taken world acts =
      acts-hold setup (AreTakenInOrder setup) stays-taken (opening setup) world acts
      (λ n txn entry works. absurd (no-work-yet setup n txn entry works))
