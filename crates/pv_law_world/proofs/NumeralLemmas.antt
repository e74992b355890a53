-- The numbers that stand in a program text have 64 bits.
use Rattle.std.proofs.Common.{refl, ℕ, ◌^◌, Option, List}
use Rattle.std.specs.Prelude.{IsTrue}
use Rattle.std.specs.Cmp.Derive.{both_true}
use Rattle.std.proofs.lemmas.Bool.{lt-ltb}
use Rattle.pv_base.specs.Catalog.{Declared}
use Rattle.pv_model.specs.Grammar.{Nested, Phrase, Chain, Reads, chained, not, not_negated, compared, not_compared, negative, numeral, named, in_brackets, of_two, GoesOn, no_more, one_more, ReadsProgram, assigns, requires, requires_certain, returns, asks, asks_else, ReadsNext, last, next}
use Rattle.pv_model.specs.ProgramText.{item_in, IsProgramText}
use Rattle.pv_model.specs.Syntax.{Expr, Program}
use Rattle.pv_protocol.specs.WellFormed.{is_of_small_numbers, has_small_numbers}

module _ (item_of : List ℕ → Option ℕ) where
  abbrev IsSmall : Expr → Type 0
  IsSmall e = IsTrue (is_of_small_numbers e)

  abbrev AreSmall : Program → Type 0
  AreSmall p = IsTrue (has_small_numbers p)

  mutual
    reads-small : {phrase : Phrase} {d : ℕ} {ts after : List Nested} {e : Expr} → Reads item_of phrase d ts after e → IsSmall e
    reads-small (chained c d ts mid after left e first more) = chain-small more (reads-small first)
    reads-small (not d ts after e inner) = reads-small inner
    reads-small (not_negated d ts after e inner) = reads-small inner
    reads-small (compared op d ts mid after left right joins first second) = both_true (reads-small first) (reads-small second)
    reads-small (not_compared d ts after e inner) = reads-small inner
    reads-small (negative d ts after e inner) = reads-small inner
    reads-small (numeral m d after fits) = lt-ltb m (2 ^ 63) fits
    reads-small (named word m d after at) = refl
    reads-small (in_brackets d ts after e inner) = reads-small inner
    reads-small (of_two op d ts mid after left right joins first second) = both_true (reads-small first) (reads-small second)

    chain-small : {c : Chain} {left e : Expr} {d : ℕ} {ts after : List Nested} → GoesOn item_of c left d ts after e → IsSmall left → IsSmall e
    chain-small (no_more c left d after) small = small
    chain-small (one_more c op left right e d ts mid after joins side more) small = chain-small more (both_true small (reads-small side))

  mutual
    program-small : {d : ℕ} {ts after : List Nested} {p : Program} → ReadsProgram item_of d ts after p → AreSmall p
    program-small (assigns word m d ts mid after e rest at value more) = both_true (reads-small value) (next-small more)
    program-small (requires d ts mid after e rest test more) = both_true (reads-small test) (next-small more)
    program-small (requires_certain word m d mid after rest at more) = next-small more
    program-small (returns d ts mid after e rest value more) = both_true (reads-small value) (next-small more)
    program-small (asks d ts inside mid after test body rest asked then more) =
        both_true (reads-small asked) (both_true (program-small then) (next-small more))
    program-small (asks_else d ts inside second mid after test body other rest asked then otherwise more) =
        both_true (reads-small asked) (both_true (program-small then) (both_true (program-small otherwise) (next-small more)))

    next-small : {d : ℕ} {ts after : List Nested} {p : Program} → ReadsNext item_of d ts after p → AreSmall p
    next-small (last d after) = refl
    next-small (next d ts after p more) = program-small more

pub small-numbers : (catalog : Declared) (text : List ℕ) (p : Program) → IsProgramText catalog text p → IsTrue (has_small_numbers p)
small-numbers catalog text p is = program-small (item_in catalog) is.are.reads
