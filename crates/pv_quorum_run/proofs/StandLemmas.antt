-- What the deciders in memory stand for, after one of them has changed.
use Rattle.std.proofs.Common.{◌≡◌, ◌≢◌, ⊎_elim, ℕ, ◌<◌, Option, None, List, All, set, get_or, length, map, refl, sym, ap, subst, ◌∙◌}
use Rattle.std.proofs.lemmas.Bool.{cases_eq}
use Rattle.std.specs.Vec.{with_item}
use Rattle.std.proofs.lemmas.List.{get_or-set_same, get_or-set_other, length-set}
use Rattle.pv_disk.specs.declared.arms.Arm.{Arm}
use Rattle.pv_law_decisions.specs.Scene.{Scene, arm_at}
use Rattle.pv_law_quorum.specs.Decider.{Answer}
use Rattle.pv_law_quorum.specs.World.{World, Ending, decider_at, ended, records_at}
use Rattle.pv_quorum_run.proofs.PlaceLemmas.{count-ended, seat-ended, seat-other}
use Rattle.pv_quorum_run.specs.Cells.{Seat, StandsForSeat, seat_after}
use Rattle.pv_quorum_run.specs.Mail.{MailState, envelope_of}
use Rattle.pv_quorum_run.specs.Stands.{IsPosted, StandsFor, seat_at}
use Rattle.pv_quorum_run.specs.declared.cell.Cell.{Cell}
use Rattle.pv_quorum_run.specs.declared.table.Table.{Table}

-- the deciders with this cell in the place of the one of this number, and with these messages
abbrev pub with_cell : Table → ℕ → Cell → MailState → Table
with_cell table n cell mail = record table { cells = with_item table.cells n cell; mail = mail }

-- Another scene, in which one decider has changed.
pub record Changes (scene next : Scene) (n : ℕ) (seat : Seat) : Type 0 where
  pub own : seat_at next n ≡ seat
  pub others : (k : ℕ) → k ≢ n → seat_at next k ≡ seat_at scene k
  pub deciders : length next.world.deciders ≡ length scene.world.deciders
  pub arms : length next.arms ≡ length scene.arms

-- Its messages are these.
pub record Carries (count : ℕ) (mail : MailState) (next : Scene) : Type 0 where
  pub sent : map envelope_of mail.sent ≡ next.world.sent
  pub fresh : mail.fresh ≡ next.fresh
  pub posted : All (IsPosted count) mail.sent

pub carried : (table : Table) (scene : Scene) → StandsFor table scene → Carries table.count table.mail scene
carried table scene stands = record { sent = stands.sent; fresh = stands.fresh; posted = stands.posted }

module _ (old : Table) (scene : Scene) (stands : StandsFor old scene) (n : ℕ) (within : n < old.count) (cell : Cell) (at : cell ≡ get_or old.cells.items n cell) where
  -- The cell is the decider of its number.
  pub own-stands : StandsForSeat old.count n cell (seat_at scene n)
  own-stands = subst (λ (c : Cell). StandsForSeat old.count n c (seat_at scene n)) (sym at) (stands.seats n cell within)

  pub in-deciders : n < length scene.world.deciders
  in-deciders = subst (λ (count : ℕ). n < count) (sym stands.deciders) within

  pub in-arms : n < length scene.arms
  in-arms = subst (λ (count : ℕ). n < count) (sym stands.arms) within

  in-cells : n < length old.cells.items
  in-cells = subst (λ (count : ℕ). n < count) (sym stands.cells) within

  -- Another cell in its place.
  pub put-stands : (new : Cell) (mail : MailState) (next : Scene) (seat : Seat) → Changes scene next n seat → StandsForSeat old.count n new seat → Carries old.count mail next
      → StandsFor (with_cell old n new mail) next
  put-stands new mail next seat changes now carries = record {
    fewest = stands.fewest;
    most = stands.most;
    cells = length-set old.cells.items n new ∙ stands.cells;
    deciders = changes.deciders ∙ stands.deciders;
    arms = changes.arms ∙ stands.arms;
    seats = each;
    sent = carries.sent;
    fresh = carries.fresh;
    posted = carries.posted;
  } where
    here : (none : Cell) → StandsForSeat old.count n (get_or (set old.cells.items n new) n none) (seat_at next n)
    here none =
        subst (λ (c : Cell). StandsForSeat old.count n c (seat_at next n)) (sym (get_or-set_same old.cells.items n new none in-cells))
        (subst (λ (s : Seat). StandsForSeat old.count n new s) (sym changes.own) now)

    each : (k : ℕ) (none : Cell) → k < old.count → StandsForSeat old.count k (get_or (set old.cells.items n new) k none) (seat_at next k)
    each k none small =
        ⊎_elim
        (λ (same : k ≡ n). subst (λ (m : ℕ). StandsForSeat old.count m (get_or (set old.cells.items n new) m none) (seat_at next m)) (sym same) (here none))
        (λ (apart : k ≡ n → ⊥).
        subst (λ (c : Cell). StandsForSeat old.count k c (seat_at next k)) (sym (get_or-set_other old.cells.items n k new none apart))
        (subst (λ (s : Seat). StandsForSeat old.count k (get_or old.cells.items k none) s) (sym (changes.others k apart)) (stands.seats k none small)))
        (cases_eq k n)

  -- The same cell, and the same scene.
  pub same-stands : (new : Cell) → new ≡ cell → StandsFor (with_cell old n new old.mail) scene
  same-stands new same =
      put-stands new old.mail scene (seat_at scene n) (record { own = refl; others = λ k apart. refl; deciders = refl; arms = refl })
      (subst (λ (c : Cell). StandsForSeat old.count n c (seat_at scene n)) (sym same) own-stands) (carried old scene stands)

-- What a step changes, by how it ends.
pub step-changes : (scene : Scene) (n : ℕ) (answer : Answer) (ending : Ending) (rest : Option Arm) (next : Scene) → n < length scene.world.deciders → n < length scene.arms
    → next.world ≡ ended scene.world n answer ending → next.arms ≡ set scene.arms n rest → Changes scene next n (seat_after (seat_at scene n) answer ending rest)
step-changes scene n answer ending rest next small room world arms = record {
  own =
      (λ i. record {
        records = records_at (world i) n;
        memory = (decider_at (world i) n).memory;
        arm = (ap (λ (all : List (Option Arm)). get_or all n None) arms ∙ get_or-set_same scene.arms n rest None room) i;
      }) ∙ seat-ended scene.world n answer ending rest (arm_at scene n) small;
  others = λ k apart i. record {
    records = ((ap (λ (w : World). decider_at w k) world ∙ seat-other scene.world n k answer ending apart) i).records;
    memory = ((ap (λ (w : World). decider_at w k) world ∙ seat-other scene.world n k answer ending apart) i).memory;
    arm = (ap (λ (all : List (Option Arm)). get_or all k None) arms ∙ get_or-set_other scene.arms n k rest None apart) i;
  };
  deciders = ap (λ (w : World). length w.deciders) world ∙ count-ended scene.world n answer ending;
  arms = ap (λ (all : List (Option Arm)). length all) arms ∙ length-set scene.arms n rest;
}
