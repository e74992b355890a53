-- A sure value is added to one part of the sums, and any other to the other.
use Rattle.std.proofs.Common.{◌+◌, ◌^◌, length, ap, refl, sym, subst, ◌∙◌, arith, rules, SFits, w64}
use Rattle.std.specs.Prelude.{ℤ, All, map, ◌+ℤ◌}
use Rattle.std.proofs.lemmas.List.{with_items_is}
use Rattle.pv_base.specs.Assignment.{assignments}
use Rattle.pv_base.specs.Polyvalue.{Case}
use Rattle.pv_model.specs.Alternatives.{number_at}
use Rattle.pv_query.specs.Sums.{IsWithin}
use Rattle.pv_query.proofs.SumLemmas.{fits-place, added-place, added-sure, number-everywhere, length-table, table-added, IsWithin-added, IsWithin-narrow, IsWithin-weaker, All-weaker-within}
use Rattle.pv_query.proofs.adding.RunningSums.add.Goals as goal

pub overflow_add-self : goal.overflow_add-self
overflow_add-self c =
    let narrow : SFits w64 c.case.inside.value = search rules in
    fits-place c.args.self.now.sure c.args.self.now.sure c.case.inside.value c.from.result narrow c.from.ensures refl c.requires.room.sure

pub returns-in-len1-clause-added : goal.returns-in-len1-clause-added
returns-in-len1-clause-added c =
    let narrow : SFits w64 c.case.inside.value = search rules in
    let sure = c.args.self.now.sure in
    let items = c.args.self.now.at_each.items in
    ap (λ n. map (λ z. n +ℤ z) items) (added-place sure sure c.case.inside.value c.from.result narrow c.from.ensures refl c.requires.room.sure)
    ∙ added-sure sure c.case.inside.value items (number_at c.args.value.now) (assignments c.args.txns.now)
    (number-everywhere c.cases.result.now c.args.value.now c.cases.ensures.cases c.cases.ensures.polyvalue.canonical c.case-item.result (omega arith) c.case-item.is
    c.case.inside.value (ap (λ (case : Case ℤ). case.value) c.case.view_is))
    c.requires.places

pub returns-in-len1-clause-within : goal.returns-in-len1-clause-within
returns-in-len1-clause-within c = λ bound within.
    let narrow : SFits w64 c.case.inside.value = search rules in
    let sure = c.args.self.now.sure in
    record {
      sure = subst (IsWithin (bound + 2 ^ 63)) (sym (added-place sure sure c.case.inside.value c.from.result narrow c.from.ensures refl c.requires.room.sure))
          (IsWithin-added bound (2 ^ 63) sure c.case.inside.value within.sure (IsWithin-narrow c.case.inside.value narrow));
      each = All-weaker-within bound (bound + 2 ^ 63) c.args.self.now.at_each.items (omega arith) within.each;
    }

pub add_each-requires-clause-places : goal.add_each-requires-clause-places
add_each-requires-clause-places c =
    length-table c.args.value.now c.args.txns.now c.deref_mut.result.now c.args.self.now.at_each.items c.in_ok-numbers-in_default.numbers.items c.deref.result.now
    c.in_ok-numbers-in_default.ensures.values c.requires.places c.deref_mut.ensures.value c.deref.ensures.value

pub add_each-requires-clause-room : goal.add_each-requires-clause-room
add_each-requires-clause-room c = subst (All (IsWithin (2 ^ 100))) (sym c.deref_mut.ensures.value) c.requires.room.each

pub returns-in_ok-numbers-in_default-clause-added : goal.returns-in_ok-numbers-in_default-clause-added
returns-in_ok-numbers-in_default-clause-added c =
    let items = c.args.self.now.at_each.items in
    let written = with_items_is c.args.self.now.at_each c.add_each.new.sums (omega (arith, ap length c.deref_mut.ensures.value, c.args.self.now.at_each.ok.0)) in
    ap (map (λ z. c.args.self.now.sure +ℤ z)) written
    ∙ table-added c.args.self.now.sure c.args.value.now c.args.txns.now c.deref_mut.result.now items c.deref.result.now c.in_ok-numbers-in_default.numbers.items
    c.add_each.new.sums c.in_ok-numbers-in_default.ensures.values c.deref_mut.ensures.value c.deref.ensures.value c.add_each.ensures.added

pub returns-in_ok-numbers-in_default-clause-within : goal.returns-in_ok-numbers-in_default-clause-within
returns-in_ok-numbers-in_default-clause-within c = λ bound within.
    let written = with_items_is c.args.self.now.at_each c.add_each.new.sums (omega (arith, ap length c.deref_mut.ensures.value, c.args.self.now.at_each.ok.0)) in
    record {
      sure = IsWithin-weaker bound (bound + 2 ^ 63) c.args.self.now.sure (omega arith) within.sure;
      each = subst (All (IsWithin (bound + 2 ^ 63))) (sym written)
          (c.add_each.ensures.within bound (subst (All (IsWithin bound)) (sym c.deref_mut.ensures.value) within.each));
    }
