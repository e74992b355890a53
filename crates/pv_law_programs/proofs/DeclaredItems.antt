-- A program over a catalog names only items of the catalog.
use Rattle.std.proofs.Common.{◌≡◌, ⊎_elim, ℕ, ◌<◌, pos, Bool, Some, List, [], length, subst}
use Rattle.std.specs.Prelude.{◌==◌, ◌||◌, IsTrue}
use Rattle.std.proofs.lemmas.Bool.{eqb-true, or_cases, false≢true}
use Rattle.std.proofs.lemmas.List.Quantifiers.{position-Some}
use Rattle.std.specs.Str.{bytes_eq}
use Rattle.pv_base.specs.Catalog.{Item, Declared, place_of}
use Rattle.pv_model.specs.Check.{reads, names_item}
use Rattle.pv_model.specs.Grammar.{Nested, Phrase, Chain, Reads, chained, not, not_negated, compared, not_compared, negative, numeral, named, in_brackets, of_two, GoesOn, no_more, one_more, ReadsProgram, assigns, requires, requires_certain, returns, asks, asks_else, ReadsNext, last, next}
use Rattle.pv_model.specs.ProgramText.{item_in, IsProgramText}
use Rattle.pv_model.specs.Syntax.{Expr, Program}

-- Where one of two tests holds, and each gives what is claimed, it is so.
pub either : (a b : Bool) (P : Type 0) → (IsTrue a → P) → (IsTrue b → P) → IsTrue (a || b) → P
either a b P first second is = ⊎_elim first second (or_cases a b is)

place-within : (name : List ℕ) (items : List Item) (n : ℕ) → place_of name items ≡ Some n → n < length items
place-within name items n is = (position-Some (λ (item : Item). bytes_eq name item.name) items n (record { name = []; site = 0; value = pos 0 }) is).0

module _ (catalog : Declared) where
  -- The item is one of the catalog's.
  abbrev IsDeclared : ℕ → Type 0
  IsDeclared n = n < length catalog.items

  abbrev AreReadDeclared : Expr → Type 0
  AreReadDeclared e = (n : ℕ) → IsTrue (reads e n) → IsDeclared n

  abbrev AreNamedDeclared : Program → Type 0
  AreNamedDeclared p = (n : ℕ) → IsTrue (names_item p n) → IsDeclared n

  found : (word : List ℕ) (m n : ℕ) → item_in catalog word ≡ Some m → m ≡ n → IsDeclared n
  found word m n is same = subst IsDeclared same (place-within word catalog.items m is)

  mutual
    reads-declared : {phrase : Phrase} {d : ℕ} {ts behind : List Nested} {e : Expr} → Reads (item_in catalog) phrase d ts behind e → AreReadDeclared e
    reads-declared (chained c d ts mid behind left e first more) n is = chain-declared more (reads-declared first) n is
    reads-declared (not d ts behind e inner) n is = reads-declared inner n is
    reads-declared (not_negated d ts behind e inner) n is = reads-declared inner n is
    reads-declared (compared op d ts mid behind left right joins first second) n is =
        either (reads left n) (reads right n) (IsDeclared n) (reads-declared first n) (reads-declared second n) is
    reads-declared (not_compared d ts behind e inner) n is = reads-declared inner n is
    reads-declared (negative d ts behind e inner) n is = reads-declared inner n is
    reads-declared (numeral m d behind fits) n is = absurd (false≢true is)
    reads-declared (named word m d behind at) n is = found word m n at (eqb-true m n is)
    reads-declared (in_brackets d ts behind e inner) n is = reads-declared inner n is
    reads-declared (of_two op d ts mid behind left right joins first second) n is =
        either (reads left n) (reads right n) (IsDeclared n) (reads-declared first n) (reads-declared second n) is

    chain-declared : {c : Chain} {left e : Expr} {d : ℕ} {ts behind : List Nested} → GoesOn (item_in catalog) c left d ts behind e
        → AreReadDeclared left → AreReadDeclared e
    chain-declared (no_more c left d behind) declared n is = declared n is
    chain-declared (one_more c op left right e d ts mid behind joins side more) declared n is =
        chain-declared more (λ m read. either (reads left m) (reads right m) (IsDeclared m) (declared m) (reads-declared side m) read) n is

  mutual
    program-declared : {d : ℕ} {ts behind : List Nested} {p : Program} → ReadsProgram (item_in catalog) d ts behind p → AreNamedDeclared p
    program-declared (assigns word m d ts mid behind e after at value more) n is =
        either _ (reads e n || names_item after n) (IsDeclared n)
        (λ same. found word m n at (eqb-true m n same))
        (either (reads e n) (names_item after n) (IsDeclared n) (reads-declared value n) (next-declared more n)) is
    program-declared (requires d ts mid behind e after test more) n is =
        either (reads e n) (names_item after n) (IsDeclared n) (reads-declared test n) (next-declared more n) is
    program-declared (requires_certain word m d mid behind after at more) n is =
        either (m == n) (names_item after n) (IsDeclared n) (λ same. found word m n at (eqb-true m n same)) (next-declared more n) is
    program-declared (returns d ts mid behind e after value more) n is =
        either (reads e n) (names_item after n) (IsDeclared n) (reads-declared value n) (next-declared more n) is
    program-declared (asks d ts inside mid behind test body after asked then more) n is =
        either (reads test n) (names_item body n || names_item after n) (IsDeclared n) (reads-declared asked n)
        (either (names_item body n) (names_item after n) (IsDeclared n) (program-declared then n) (next-declared more n)) is
    program-declared (asks_else d ts inside second mid behind test body other after asked then otherwise more) n is =
        either (reads test n) (names_item body n || (names_item other n || names_item after n)) (IsDeclared n) (reads-declared asked n)
        (either (names_item body n) (names_item other n || names_item after n) (IsDeclared n) (program-declared then n)
        (either (names_item other n) (names_item after n) (IsDeclared n) (program-declared otherwise n) (next-declared more n))) is

    next-declared : {d : ℕ} {ts behind : List Nested} {p : Program} → ReadsNext (item_in catalog) d ts behind p → AreNamedDeclared p
    next-declared (last d behind) n is = absurd (false≢true is)
    next-declared (next d ts behind p more) n is = program-declared more n is

pub declared-items : (catalog : Declared) (text : List ℕ) (p : Program) → IsProgramText catalog text p → (n : ℕ) → IsTrue (names_item p n) → n < length catalog.items
declared-items catalog text p is = program-declared catalog is.are.reads
