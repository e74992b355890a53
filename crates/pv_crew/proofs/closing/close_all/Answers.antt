use Rattle.std.proofs.Common.{rules, ◌≡◌, ◌<◌, [], ◌∷◌, All, length, reverse, sym, subst, ◌∙◌, arith, eqb-true, vec_len}
use Rattle.std.proofs.lemmas.Bool.{eqb-false}
use Rattle.std.proofs.lemmas.List.{reverse-append}
use Rattle.pv_rings.specs.Rings.{Each}
use Rattle.pv_crew.specs.Dealing.{IsSeenBy}
use Rattle.pv_crew.proofs.ClosingLemmas.{Closes, closes-all, closes-first, closes-more}
use Rattle.pv_crew.proofs.closing.close_all.Goals as goal

pub loop-alloc-init : goal.loop-alloc-init
loop-alloc-init g c =
    let rounds = c.args.rounds.items in
    let entries = g.V.Entries.entries in
    (c.requires, subst (λ l. Each (λ _. Closes entries (reverse l)) rounds rounds) (sym c.new-values.ensures.items) (closes-first entries rounds))

pub close_last-requires-clause-some : goal.close_last-requires-clause-some
close_last-requires-clause-some g c =
    let turns = c.loop-alloc.turns in
    subst (λ n. 0 < n) turns.ok.0 (omega (arith, eqb-false (vec_len turns) 0 (sym c.is_empty.ensures ∙ c.loop-alloc-test.true)))

pub loop-alloc-preserved : goal.loop-alloc-preserved
loop-alloc-preserved g c =
    let entries = g.V.Entries.entries in
    let first = c.args.rounds.items in
    let new = c.close_last.new.rounds.items in
    let values = c.loop-alloc.values.items in
    let value = c.in_ok-value.value in (
      c.in_ok-value.ensures.ready,
      subst (λ l. Each (λ _. Closes entries (reverse l)) first new) (sym c.in_ok-push.ensures.items)
          (subst (λ l. Each (λ _. Closes entries l) first new) (sym (reverse-append values (value ∷ [])))
          (closes-more entries (reverse values) value first c.loop-alloc.rounds.items new c.loop-alloc.invariant.1 c.in_ok-value.ensures.value)),
    )

pub returns : goal.returns
returns g c =
    let entries = g.V.Entries.entries in
    let first = c.args.rounds.items in
    let values = c.loop-alloc.values.items in
    let turns = c.loop-alloc.turns.items in
    let none : length turns ≡ 0 = sym c.loop-alloc.turns.ok.0 ∙ eqb-true _ 0 (sym c.is_empty.ensures ∙ c.loop-alloc-test.false) in
    subst (λ l. All (IsSeenBy entries l) first) (search rules)
    (closes-all entries (reverse values) turns first c.loop-alloc.rounds.items c.loop-alloc.invariant.1 c.loop-alloc.invariant.0 none)
