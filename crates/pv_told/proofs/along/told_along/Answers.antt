use Rattle.std.proofs.Common.{◌≡◌, ◌++◌, ◌∷◌, ◌+◌, ◌∙◌, List, [], append-nil, drop, ap, sym, subst, arith}
use Rattle.std.proofs.Math.ListN.{drop_of_length-le}
use Rattle.std.proofs.lemmas.List.{drop_more}
use Rattle.pv_history.specs.Entries.{stamped_of, stamps_of}
use Rattle.pv_history.specs.declared.entry.Entry.{Entry}
use Rattle.pv_told.proofs.ToldLemmas.{along-next}
use Rattle.pv_told.proofs.along.told_along.Goals as goal
use Rattle.pv_told.specs.Along.{told_along}
use Rattle.pv_told.specs.Words.{told_in}

pub loop-entry-preserved : goal.loop-entry-preserved
loop-entry-preserved c =
    let history = c.args.history.now in
    let entry = c.entry-item.result in
    let i = c.loop-entry.entry-index in
    let first : drop i history ≡ entry ∷ drop (i + 1) history =
    drop_more history i entry c.loop-entry-test.true ∙ ap (λ (one : Entry). one ∷ drop (i + 1) history) (sym c.entry-item.is) in
    λ me.
    let whole = told_along me [] (stamps_of history) in
    let told = told_in me c.loop-entry.told.items in
    along-next me told _ c.loop-entry.begun.items _ (stamped_of entry) (stamps_of (drop (i + 1) history)) whole
    (subst (λ (left : List Entry). told ++ told_along me c.loop-entry.begun.items (stamps_of left) ≡ whole) first (c.loop-entry.invariant me))
    (c.in_ok-tell_entry.ensures.told me) c.in_ok-tell_entry.ensures.begun

pub returns : goal.returns
returns c =
    let history = c.args.history.now in
    let none : drop c.loop-entry.entry-index history ≡ [] = drop_of_length-le history (omega (arith, c.loop-entry-test.false)) in
    λ me.
    let whole = told_along me [] (stamps_of history) in
    let told = told_in me c.loop-entry.told.items in
    sym (append-nil told)
    ∙ subst (λ (left : List Entry). told ++ told_along me c.loop-entry.begun.items (stamps_of left) ≡ whole) none (c.loop-entry.invariant me)
