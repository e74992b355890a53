-- The examples' events are well formed.
use Rattle.std.proofs.Common.{◌≡◌, ⊎_elim, ℕ, ◌<◌, false, List, [], ◌∷◌, refl, subst, arith}
use Rattle.std.specs.Prelude.{All, IsTrue, ◌||◌, ◌==◌, ⊤}
use Rattle.std.specs.List.{Contains}
use Rattle.std.proofs.lemmas.Bool.{eqb-true, false≢true, or_cases}
use Rattle.std.proofs.lemmas.List.Elements.{All-cons, All-nil}
use Rattle.pv_base.proofs.ContainsLemmas.{Contains-first, Contains-nil}
use Rattle.pv_base.specs.Catalog.{Declared}
use Rattle.pv_law_refusals.specs.Refused.{contested, read_certain, read_only, unanswered, forgotten, raise_b}
use Rattle.pv_law_events.proofs.PremiseLemmas.{transferring, can-run}
use Rattle.pv_law_step.proofs.WantRanges.{ascend-nil, ascend-cons}
use Rattle.pv_law_step.specs.Examples.{bank}
use Rattle.pv_law_world.specs.Schedules.{changed, pump_all}
use Rattle.pv_model.specs.Check.{names_item}
use Rattle.pv_model.specs.Events.{Event}
use Rattle.pv_model.specs.Syntax.{Op, Expr, Program}
use Rattle.pv_protocol.specs.WellFormed.{CanRun, has_small_numbers, IsWellFormed}

-- A program that names one item can run.
one-item : (program : Program) (m : ℕ) → m < 2 → IsTrue (names_item program m) → ((n : ℕ) → IsTrue (names_item program n) → m ≡ n) → IsTrue (has_small_numbers program)
    → CanRun bank.catalog program
one-item program m below named only small = record {
  runnable = record {
    items = m ∷ [];
    are = record {
      ascending = ascend-cons m [] (λ n h. absurd (Contains-nil n h)) ascend-nil;
      each = All-cons (λ n. IsTrue (names_item program n)) m [] named (All-nil (λ n. IsTrue (names_item program n)));
      whole = λ n is. subst (Contains (m ∷ [])) (only n is) (Contains-first m []);
    };
    some = omega arith;
    few = omega arith;
    known = All-cons (λ n. n < 2) m [] below (All-nil (λ n. n < 2));
  };
  numbers = small;
}

read-one : (m n : ℕ) → IsTrue ((m == n) || false) → m ≡ n
read-one m n is = ⊎_elim (λ same. eqb-true m n same) (λ wrong. absurd (false≢true wrong)) (or_cases (m == n) false is)

assign-one : (m n : ℕ) → IsTrue ((m == n) || (((m == n) || false) || false)) → m ≡ n
assign-one m n is =
    ⊎_elim
    (λ same. eqb-true m n same)
    (λ rest. ⊎_elim (λ read. read-one m n read) (λ wrong. absurd (false≢true wrong)) (or_cases ((m == n) || false) false rest))
    (or_cases (m == n) (((m == n) || false) || false) is)

zero-below : 0 < 2
zero-below = omega arith

one-below : 1 < 2
one-below = omega arith

one-more : CanRun bank.catalog (changed Op.plus 0 1 Program.end)
one-more = one-item (changed Op.plus 0 1 Program.end) 0 zero-below refl (assign-one 0) refl

two-more : CanRun bank.catalog (changed Op.plus 0 2 Program.end)
two-more = one-item (changed Op.plus 0 2 Program.end) 0 zero-below refl (assign-one 0) refl

raise : CanRun bank.catalog (changed Op.plus 1 1 Program.end)
raise = one-item (changed Op.plus 1 1 Program.end) 1 one-below refl (assign-one 1) refl

query : CanRun bank.catalog (Program.return (Expr.item 1) Program.end)
query = one-item (Program.return (Expr.item 1) Program.end) 1 one-below refl (read-one 1) refl

certainty : CanRun bank.catalog (Program.certain 1 Program.end)
certainty = one-item (Program.certain 1 Program.end) 1 one-below refl (read-one 1) refl

transfers : CanRun bank.catalog transferring
transfers = record { runnable = can-run.runnable; numbers = can-run.numbers }

-- each of the events, one after another
abbrev Each : Declared → List Event → Type 0
Each catalog [] = ⊤
Each catalog (event ∷ events) = IsWellFormed catalog event × Each catalog events

each-fine : (catalog : Declared) (events : List Event) → Each catalog events → All (IsWellFormed catalog) events
each-fine catalog [] each = All-nil (IsWellFormed catalog)
each-fine catalog (event ∷ events) each = All-cons (IsWellFormed catalog) event events each.0 (each-fine catalog events each.1)

pub contested-fine : All (IsWellFormed bank.catalog) contested
contested-fine = each-fine bank.catalog contested ((zero-below, one-more), ((zero-below, two-more), (tt, tt)))

pub read-fine : All (IsWellFormed bank.catalog) read_only
read-fine = each-fine bank.catalog read_only ((zero-below, transfers), (tt, (one-below, (one-below, (one-below, ((one-below, query), (tt, (tt, tt))))))))

pub certain-fine : All (IsWellFormed bank.catalog) read_certain
certain-fine = each-fine bank.catalog read_certain ((zero-below, transfers), (tt, (one-below, (one-below, (one-below, ((one-below, certainty), (tt, (tt, tt))))))))

pub unanswered-fine : All (IsWellFormed bank.catalog) unanswered
unanswered-fine = each-fine bank.catalog unanswered ((zero-below, transfers), (one-below, (tt, (zero-below, (zero-below, (zero-below, tt))))))

pub forgotten-fine : All (IsWellFormed bank.catalog) forgotten
forgotten-fine = each-fine bank.catalog forgotten ((zero-below, transfers), (tt, (one-below, (one-below, (tt, tt)))))

pub raise-fine : All (IsWellFormed bank.catalog) (raise_b ∷ (pump_all ∷ []))
raise-fine = each-fine bank.catalog (raise_b ∷ (pump_all ∷ [])) ((zero-below, raise), (tt, tt))
