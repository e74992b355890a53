-- The deciders as a run begins.
use Rattle.std.proofs.Common.{◌≡◌, ⊎_elim, ℕ, zero, suc, ◌+◌, ◌<◌, ◌≤◌, Option, Some, None, List, [], ◌∷◌, ◌++◌, All, get_or, length, map, replicate, refl, sym, ap, subst, ◌∙◌, arith}
use Rattle.std.proofs.lemmas.Bool.{cases_eq}
use Rattle.std.proofs.lemmas.List.{length-replicate}
use Rattle.std.proofs.lemmas.List.Elements.{All-nil}
use Rattle.pv_base.specs.declared.limits.TheConstants.{MAX_JOURNAL}
use Rattle.pv_disk.specs.declared.arms.Arm.{Arm}
use Rattle.pv_law_decisions.specs.Scene.{at_first}
use Rattle.pv_law_quorum.specs.World.{Decider, no_decider}
use Rattle.pv_quorum.specs.DeciderState.{setup_of}
use Rattle.pv_quorum_run.specs.Cells.{Seat, StandsForSeat, first_seat}
use Rattle.pv_quorum_run.specs.Mail.{MailState, envelope_of}
use Rattle.pv_quorum_run.specs.Stands.{IsPosted, StandsFor, seat_at}
use Rattle.pv_quorum_run.specs.declared.cell.Cell.{Cell}
use Rattle.pv_quorum_run.specs.declared.table.Table.{Table}

pushed-last : {X : Type 0} (xs : List X) (x none : X) → get_or (xs ++ x ∷ []) (length xs) none ≡ x
pushed-last [] x none = refl
pushed-last (y ∷ ys) x none = pushed-last ys x none

pushed-front : {X : Type 0} (xs : List X) (x none : X) (k : ℕ) → k < length xs → get_or (xs ++ x ∷ []) k none ≡ get_or xs k none
pushed-front [] x none k small = absurd (omega (arith, small))
pushed-front (y ∷ ys) x none zero small = refl
pushed-front (y ∷ ys) x none (suc k) small = pushed-front ys x none k (omega (arith, small))

repeated : {X : Type 0} (n : ℕ) (x none : X) (k : ℕ) → k < n → get_or (replicate n x) k none ≡ x
repeated zero x none k small = absurd (omega (arith, small))
repeated (suc n) x none zero small = refl
repeated (suc n) x none (suc k) small = repeated n x none k (omega (arith, small))

-- Each of these cells is a decider as a run begins.
abbrev pub AreFirst : ℕ → ℕ → List Cell → Type 0
AreFirst count n cells = (k : ℕ) (none : Cell) → k < n → StandsForSeat count k (get_or cells k none) first_seat

-- One decider more.
pub first-more : (count n : ℕ) (cells : List Cell) (cell : Cell) → length cells ≡ n → AreFirst count n cells → StandsForSeat count n cell first_seat → AreFirst count (n + 1) (cells ++ cell ∷ [])
first-more count n cells cell long are now k none small =
    ⊎_elim
    (λ (same : k ≡ n).
    subst (λ (m : ℕ). StandsForSeat count m (get_or (cells ++ cell ∷ []) m none) first_seat) (sym same)
    (subst (λ (c : Cell). StandsForSeat count n c first_seat)
    (sym (ap (λ (m : ℕ). get_or (cells ++ cell ∷ []) m none) (sym long) ∙ pushed-last cells cell none)) now))
    (λ (apart : k ≡ n → ⊥).
    let early : k < n = omega (arith, small, apart) in
    subst (λ (c : Cell). StandsForSeat count k c first_seat) (sym (pushed-front cells cell none k (omega (arith, early, long)))) (are k none early))
    (cases_eq k n)

pub first-stands : (table : Table) → 3 ≤ table.count → table.count ≤ 5 → length table.cells.items ≡ table.count → AreFirst table.count table.count table.cells.items
    → table.mail ≡ record { sent = []; fresh = [] } → StandsFor table (at_first (setup_of table.count MAX_JOURNAL))
first-stands table fewest most long are empty = record {
  fewest = fewest;
  most = most;
  cells = long;
  deciders = length-replicate table.count (record { records = []; memory = Some [] });
  arms = length-replicate table.count None;
  seats = λ k none small. subst (λ (seat : Seat). StandsForSeat table.count k (get_or table.cells.items k none) seat) (sym (seats-first k small)) (are k none small);
  sent = ap (λ (mail : MailState). map envelope_of mail.sent) empty;
  fresh = ap (λ (mail : MailState). mail.fresh) empty;
  posted = subst (λ (mail : MailState). All (IsPosted table.count) mail.sent) (sym empty) (All-nil (IsPosted table.count));
} where
  first : Decider
  first = record { records = []; memory = Some [] }

  seats-first : (k : ℕ) → k < table.count → seat_at (at_first (setup_of table.count MAX_JOURNAL)) k ≡ first_seat
  seats-first k small = λ i. record {
    records = (repeated table.count first no_decider k small i).records;
    memory = (repeated table.count first no_decider k small i).memory;
    arm = repeated {X = Option Arm} table.count None None k small i;
  }
