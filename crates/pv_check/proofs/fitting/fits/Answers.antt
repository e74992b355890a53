use Rattle.std.proofs.Common.{◌∙◌, ◌<◌, ℕ, List, length, sym, ap, arith}
use Rattle.std.specs.Prelude.{IsTrue, false}
use Rattle.std.proofs.lemmas.Bool.{false≢true}
use Rattle.pv_base.specs.declared.limits.TheConstants.{MAX_PROGRAM_ITEMS}
use Rattle.pv_check.proofs.FitLemmas.{known-names, names-known, no-cause, plan-tests, some-cause, tests-plan}
use Rattle.pv_check.proofs.fitting.fits.Goals as goal
use Rattle.pv_check.specs.CheckRefusal.{check_refusal}
use Rattle.pv_check.specs.Fits.{are_covered, are_own_parts, wants_between}
use Rattle.pv_law_programs.proofs.ItemLemmas.{some_items}
use Rattle.pv_model.specs.Check.{Part, names_item}

pub returns-then-not-names_below : goal.returns-then-not-names_below
returns-then-not-names_below c = (
  λ wrong. absurd (false≢true wrong),
  λ has. sym c.if-not-names_below.true
      ∙ (c.names_below.ensures ∙ known-names c.len.result c.args.program.now (λ n named. omega (arith, has.known n named, c.len.ensures.count))),
)

pub marks_of-table-requires : goal.marks_of-table-requires
marks_of-table-requires c = λ n named.
    let within = names-known c.len.result c.args.program.now (sym c.names_below.ensures ∙ c.if-not-names_below.false) n named in
    omega (arith, within, c.len.ensures.bound)

pub returns-then-is_some : goal.returns-then-is_some
returns-then-is_some c = (
  λ wrong. absurd (false≢true wrong),
  λ has.
      let program = c.args.program.now in
      let are = c.marks_within-marks.ensures.marks program c.marks_of-table.ensures has.known in
      let named = some_items program in
      absurd (some-cause c.refusal.result (c.refusal.ensures ∙ ap (λ n. check_refusal MAX_PROGRAM_ITEMS n program false)
      (c.count_named.ensures program are named.0 named.1) ∙ has.allowed named.0 named.1) (sym c.is_some.ensures ∙ c.if-is_some.true)),
)

pub returns-then-are_own_parts : goal.returns-then-are_own_parts
returns-then-are_own_parts c =
    let program = c.args.program.now in
    let items = c.args.catalog.now.items in
    let marks = c.marks_within-marks.result.now in
    let parts = c.args.plan.now.parts.items in
    let known : (n : ℕ) → IsTrue (names_item program n) → n < length items = λ n named.
    let within = names-known c.len.result program (sym c.names_below.ensures ∙ c.if-not-names_below.false) n named in
    omega (arith, within, c.len.ensures.count) in
    let are = c.marks_within-marks.ensures.marks program c.marks_of-table.ensures known in
    let own = ap (λ (all : List Part). are_own_parts (λ site. wants_between items marks site 0 (length items)) 0 all) (sym c.deref.ensures.value)
    ∙ sym c.are_own_parts.ensures ∙ c.if-are_own_parts.true in
    let covered = ap (λ (all : List Part). are_covered items marks all 0 (length items)) (sym c.deref-then-are_own_parts.ensures.value) ∙ sym c.are_covered.ensures in (
      λ is. record {
        known = known;
        allowed = λ named them. ap (λ n. check_refusal MAX_PROGRAM_ITEMS n program false) (sym (c.count_named.ensures program are named them))
            ∙ sym c.refusal.ensures ∙ no-cause c.refusal.result (sym c.is_some.ensures ∙ c.if-is_some.false);
        plan = tests-plan program items marks are parts known own (covered ∙ is);
      },
      λ has. sym covered ∙ (plan-tests program items marks are parts has.known has.plan).1,
    )

pub returns-else-are_own_parts : goal.returns-else-are_own_parts
returns-else-are_own_parts c = (
  λ is. absurd (false≢true (sym c.if-are_own_parts.false ∙ is)),
  λ has.
      let program = c.args.program.now in
      let items = c.args.catalog.now.items in
      let marks = c.marks_within-marks.result.now in
      let are = c.marks_within-marks.ensures.marks program c.marks_of-table.ensures has.known in
      c.are_own_parts.ensures
      ∙ ap (λ (all : List Part). are_own_parts (λ site. wants_between items marks site 0 (length items)) 0 all) c.deref.ensures.value
      ∙ (plan-tests program items marks are c.args.plan.now.parts.items has.known has.plan).0,
)
