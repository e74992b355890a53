-- What a step asks of an event.
use Rattle.std.specs.Prelude.{ℕ, ◌<◌, ◌≤◌, Bool, true, ◌&&◌, List, length, All, IsTrue, ⊤}
use Rattle.pv_base.specs.declared.limits.TheConstants.{MAX_PROGRAM_ITEMS}
use Rattle.pv_base.specs.Catalog.{Declared}
use Rattle.pv_model.specs.Check.{AreItems}
use Rattle.pv_model.specs.Events.{Event, submit, deliver, pump, lose, drop, tick, stop, start, arm, mend, checkpoint, sent, report, total}
use Rattle.pv_model.specs.Meaning.{fits_i64}
use Rattle.pv_model.specs.Syntax.{Expr, number, item, minus, negation, two, Program, end, assign, require, certain, return, when, when_else}

-- The program names 1 to 16 items, all of the catalog.
pub record IsRunnable (catalog : Declared) (program : Program) : Type 0 where
  pub items : List ℕ
  pub are : AreItems program items
  pub some : 0 < length items
  pub few : length items ≤ MAX_PROGRAM_ITEMS
  pub known : All (λ n. n < length catalog.items) items

-- Each number that stands in the expression has 64 bits.
abbrev pub is_of_small_numbers : Expr → Bool
is_of_small_numbers (number z) = fits_i64 z
is_of_small_numbers (item n) = true
is_of_small_numbers (minus e) = is_of_small_numbers e
is_of_small_numbers (negation e) = is_of_small_numbers e
is_of_small_numbers (two op left right) = is_of_small_numbers left && is_of_small_numbers right

-- Each number that stands in the program has 64 bits.
abbrev pub has_small_numbers : Program → Bool
has_small_numbers end = true
has_small_numbers (assign n e next) = is_of_small_numbers e && has_small_numbers next
has_small_numbers (require e next) = is_of_small_numbers e && has_small_numbers next
has_small_numbers (certain n next) = has_small_numbers next
has_small_numbers (return e next) = is_of_small_numbers e && has_small_numbers next
has_small_numbers (when e body next) = is_of_small_numbers e && (has_small_numbers body && has_small_numbers next)
has_small_numbers (when_else e body other next) =
    is_of_small_numbers e && (has_small_numbers body && (has_small_numbers other && has_small_numbers next))

-- The program can run: it names some items, all of the catalog and not too many, and its numbers have 64 bits.
pub record CanRun (catalog : Declared) (program : Program) : Type 0 where
  pub runnable : IsRunnable catalog program
  pub numbers : IsTrue (has_small_numbers program)

-- The catalog has this site.
abbrev pub HasSite : Declared → ℕ → Type 0
HasSite catalog site = site < catalog.sites

-- The event is of a site of the catalog, arms a write or sync that is counted from 1, and asks for a program that can run.
abbrev pub IsWellFormed : Declared → Event → Type 0
IsWellFormed catalog (submit site query text program) = HasSite catalog site × CanRun catalog program
IsWellFormed catalog (drop site) = HasSite catalog site
IsWellFormed catalog (tick site) = HasSite catalog site
IsWellFormed catalog (stop site) = HasSite catalog site
IsWellFormed catalog (start site) = HasSite catalog site
IsWellFormed catalog (arm site call mode stops) = HasSite catalog site × (1 ≤ call)
IsWellFormed catalog (mend site) = HasSite catalog site
IsWellFormed catalog (checkpoint site) = HasSite catalog site
IsWellFormed catalog (deliver n) = ⊤
IsWellFormed catalog (pump most) = ⊤
IsWellFormed catalog (lose n) = ⊤
IsWellFormed catalog sent = ⊤
IsWellFormed catalog report = ⊤
IsWellFormed catalog total = ⊤
