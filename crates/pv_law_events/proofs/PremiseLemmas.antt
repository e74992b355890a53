-- The example's events are well formed, and its setup is in range.
use Rattle.std.proofs.Common.{◌≡◌, ⊎_elim, ℕ, ◌<◌, false, List, [], ◌∷◌, pos, refl, subst, arith}
use Rattle.std.specs.Prelude.{All, IsTrue, ◌||◌, ◌==◌, ⊤, codes}
use Rattle.std.specs.Int.{w64}
use Rattle.std.specs.Int.RustNames.{FitsSigned}
use Rattle.std.specs.List.{Contains}
use Rattle.std.proofs.lemmas.Bool.{eqb-true, false≢true, or_cases}
use Rattle.std.proofs.lemmas.List.Elements.{All-cons, All-nil}
use Rattle.pv_base.proofs.ContainsLemmas.{Contains-first, Contains-behind, Contains-nil, Contains-cases}
use Rattle.pv_base.specs.Catalog.{Item}
use Rattle.pv_law_events.specs.Eventful.{eventful, small}
use Rattle.pv_law_step.proofs.FitLemmas.{fits-from}
use Rattle.pv_law_step.proofs.WantRanges.{Ascend, ascend-nil, ascend-cons}
use Rattle.pv_law_world.specs.Schedules.{changed, transfer}
use Rattle.pv_model.specs.Check.{names_item}
use Rattle.pv_model.specs.Events.{Event}
use Rattle.pv_model.specs.Syntax.{Op, Program}
use Rattle.pv_protocol.specs.Sound.{IsSetupInRange}
use Rattle.pv_protocol.specs.WellFormed.{CanRun, IsWellFormed}

-- the two items
abbrev a : Item
a = record { name = codes "a"; site = 0; value = pos 100 }

abbrev b : Item
b = record { name = codes "b"; site = 1; value = pos 50 }

abbrev pub transferring : Program
transferring = changed Op.sub 0 10 (changed Op.plus 1 10 Program.end)

-- the items that it names
named : (n : ℕ) → IsTrue (names_item transferring n) → Contains (0 ∷ (1 ∷ [])) n
named n is =
    let first : (0 ≡ n) → Contains (0 ∷ (1 ∷ [])) n = λ same. subst (Contains (0 ∷ (1 ∷ []))) same (Contains-first 0 (1 ∷ [])) in
    let second : (1 ≡ n) → Contains (0 ∷ (1 ∷ [])) n = λ same. subst (Contains (0 ∷ (1 ∷ []))) same (Contains-behind 0 (1 ∷ []) 1 (Contains-first 1 [])) in
    ⊎_elim
    (λ zero_is. first (eqb-true 0 n zero_is))
    (λ rest. ⊎_elim
    (λ read. ⊎_elim (λ zero_is. first (eqb-true 0 n zero_is)) (λ wrong. absurd (false≢true wrong)) (or_cases (0 == n) false read))
    (λ next. ⊎_elim
    (λ one_is. second (eqb-true 1 n one_is))
    (λ last. ⊎_elim
    (λ read. ⊎_elim (λ one_is. second (eqb-true 1 n one_is)) (λ wrong. absurd (false≢true wrong)) (or_cases (1 == n) false read))
    (λ wrong. absurd (false≢true wrong))
    (or_cases ((1 == n) || false) false last))
    (or_cases (1 == n) (((1 == n) || false) || false) next))
    (or_cases ((0 == n) || false) ((1 == n) || (((1 == n) || false) || false)) rest))
    (or_cases (0 == n) (((0 == n) || false) || ((1 == n) || (((1 == n) || false) || false))) is)

two-ascend : Ascend (0 ∷ (1 ∷ []))
two-ascend = ascend-cons 0 (1 ∷ [])
    (λ m h. ⊎_elim (λ same. omega (arith, same)) (λ wrong. absurd (Contains-nil m wrong)) (Contains-cases 1 [] m h))
    (ascend-cons 1 [] (λ m h. absurd (Contains-nil m h)) ascend-nil)

pub can-run : CanRun small.catalog transferring
can-run = record {
  runnable = record {
    items = 0 ∷ (1 ∷ []);
    are = record {
      ascending = two-ascend;
      each = All-cons (λ n. IsTrue (names_item transferring n)) 0 (1 ∷ []) refl (All-cons (λ n. IsTrue (names_item transferring n)) 1 [] refl (All-nil (λ n. IsTrue (names_item transferring n))));
      whole = named;
    };
    some = omega arith;
    few = omega arith;
    known = All-cons (λ n. n < 2) 0 (1 ∷ []) (omega arith) (All-cons (λ n. n < 2) 1 [] (omega arith) (All-nil (λ n. n < 2)));
  };
  numbers = refl;
}

abbrev Fine : Event → Type 0
Fine = IsWellFormed small.catalog

-- each of the events, one after another
abbrev Each : List Event → Type 0
Each [] = ⊤
Each (event ∷ events) = Fine event × Each events

each-fine : (events : List Event) → Each events → All Fine events
each-fine [] each = All-nil Fine
each-fine (event ∷ events) each = All-cons Fine event events each.0 (each-fine events each.1)

one-below : 1 < 2
one-below = omega arith

transfer-fine : Fine transfer
transfer-fine = (omega arith, can-run)

pub well-formed : All Fine eventful
well-formed = each-fine eventful (transfer-fine, (tt, (one-below, (one-below, (one-below, (tt, (tt, (tt, (one-below, (one-below, (transfer-fine, (transfer-fine, (tt, (tt, tt))))))))))))))

pub in-range : IsSetupInRange small
in-range = record {
  sites = omega arith;
  items = omega arith;
  least = omega arith;
  journal = omega arith;
  homes = All-cons (λ (item : Item). item.site < 2) a (b ∷ []) (omega arith) (All-cons (λ (item : Item). item.site < 2) b [] (omega arith) (All-nil (λ (item : Item). item.site < 2)));
  values = All-cons (λ (item : Item). FitsSigned w64 item.value) a (b ∷ []) (fits-from (pos 100) refl)
      (All-cons (λ (item : Item). FitsSigned w64 item.value) b [] (fits-from (pos 50) refl) (All-nil (λ (item : Item). FitsSigned w64 item.value)));
  apart = omega arith;
  held = omega arith;
}
