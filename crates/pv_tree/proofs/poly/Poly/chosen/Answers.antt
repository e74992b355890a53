-- The choice is that between both values once the outcome is known, whose names are counted.
use Rattle.std.proofs.Common.{◌≤◌, ◌+◌, true, false, List, refl, sym, ◌∙◌, subst, arith}
use Rattle.std.proofs.lemmas.Bool.{false≢true}
use Rattle.pv_base.specs.Canonical.{IsExact}
use Rattle.pv_base.specs.Polyvalue.{Case, ChoiceNames, IsCanonical, NamesAtMost}
use Rattle.pv_base.specs.declared.limits.TheConstants.{HELD_NAMES}
use Rattle.pv_law_polyvalues.proofs.ExistenceLemmas.{some-choice-names}
use Rattle.pv_cases.proofs.CountLemmas.{known, choice-unsettled, chosen-polyvalue, refused-count, same-choice, settled-unnamed}
use Rattle.pv_tree.specs.Meanings.{cases_at}
use Rattle.pv_tree.specs.Settling.{Settles}
use Rattle.pv_tree.proofs.KeptLemmas.{settles-kept}
use Rattle.pv_tree.proofs.PolyLemmas.{settles-polyvalue}
use Rattle.pv_tree.proofs.poly.Poly.chosen.Goals as goal

pub returns-then-same-clause-given : goal.returns-then-same-clause-given
returns-then-same-clause-given g c =
    let meanings = c.settle-2.new.target in
    let aborted = cases_at meanings c.in_ok-aborted.aborted in
    let front : Settles (known c.args.txn false) c.args.old.now meanings c.in_ok-aborted.aborted =
    subst (λ (cases : List (Case _)). Settles (known c.args.txn false) cases meanings c.in_ok-aborted.aborted) c.old.view_is
    (settles-kept (known c.args.txn false) c.old.inside.tree c.settle.new.target meanings c.in_ok-aborted.aborted c.in_ok-committed.ensures.kept c.in_ok-aborted.ensures.settled) in
    let back : Settles (known c.args.txn true) c.args.new.now meanings c.in_ok-committed.committed =
    subst (λ (cases : List (Case _)). Settles (known c.args.txn true) cases meanings c.in_ok-committed.committed) c.new.view_is c.in_ok-committed.ensures.settled in
    record {
      choice = choice-unsettled front.settled back.settled aborted aborted refl (same-choice c.args.txn (c.same.ensures.equal c.if-same.true));
      polyvalue = settles-polyvalue HELD_NAMES (known c.args.txn false) c.args.old.now meanings c.in_ok-aborted.aborted
          (subst (NamesAtMost HELD_NAMES) c.old.view_is c.old.invariant.few) front;
    }

pub count_of_sides-requires-clause-few_aborted : goal.count_of_sides-requires-clause-few_aborted
count_of_sides-requires-clause-few_aborted g c =
    (settles-polyvalue HELD_NAMES (known c.args.txn false) c.old.inside.tree c.settle-2.new.target c.in_ok-aborted.aborted c.old.invariant.few
    (settles-kept (known c.args.txn false) c.old.inside.tree c.settle.new.target c.settle-2.new.target c.in_ok-aborted.aborted c.in_ok-committed.ensures.kept
    c.in_ok-aborted.ensures.settled)).few

pub count_of_sides-requires-clause-few_committed : goal.count_of_sides-requires-clause-few_committed
count_of_sides-requires-clause-few_committed g c =
    (settles-polyvalue HELD_NAMES (known c.args.txn true) c.new.inside.tree c.settle-2.new.target c.in_ok-committed.committed c.new.invariant.few c.in_ok-committed.ensures.settled).few

pub returns-then-count-gt-HELD_NAMES-clause-refused : goal.returns-then-count-gt-HELD_NAMES-clause-refused
returns-then-count-gt-HELD_NAMES-clause-refused g c =
    let laws : IsExact g.V.PartialEq.eq = record { exact = g.met.V.Exact.exact; itself = g.met.V.Eq.laws.refl } in
    let meanings = c.settle-2.new.target in
    let front : Settles (known c.args.txn false) c.args.old.now meanings c.in_ok-aborted.aborted =
    subst (λ (cases : List (Case _)). Settles (known c.args.txn false) cases meanings c.in_ok-aborted.aborted) c.old.view_is
    (settles-kept (known c.args.txn false) c.old.inside.tree c.settle.new.target meanings c.in_ok-aborted.aborted c.in_ok-committed.ensures.kept c.in_ok-aborted.ensures.settled) in
    let back : Settles (known c.args.txn true) c.args.new.now meanings c.in_ok-committed.committed =
    subst (λ (cases : List (Case _)). Settles (known c.args.txn true) cases meanings c.in_ok-committed.committed) c.new.view_is c.in_ok-committed.ensures.settled in
    let chosen = some-choice-names laws c.args.txn c.args.old.now c.args.new.now (subst IsCanonical c.old.view_is c.old.invariant.canonical) (subst IsCanonical c.new.view_is c.new.invariant.canonical) in
    let counted = refused-count front.settled back.settled front.canonical back.canonical
    (λ same. false≢true (sym c.if-same.false ∙ c.same.ensures.unequal same)) c.in_ok-count.field-0 c.in_ok-count.ensures.count chosen.0 chosen.1 in
    record {
      names = subst (ChoiceNames c.args.txn c.args.old.now c.args.new.now) (sym counted) chosen.1;
      over = c.if-count-gt-HELD_NAMES.true;
    }

pub choose-requires-clause-aborted_unnamed : goal.choose-requires-clause-aborted_unnamed
choose-requires-clause-aborted_unnamed g c =
    settled-unnamed
    (settles-kept (known c.args.txn false) c.old.inside.tree c.settle.new.target c.settle-2.new.target c.in_ok-aborted.aborted c.in_ok-committed.ensures.kept
    c.in_ok-aborted.ensures.settled).settled

pub choose-requires-clause-committed_unnamed : goal.choose-requires-clause-committed_unnamed
choose-requires-clause-committed_unnamed g c = settled-unnamed c.in_ok-committed.ensures.settled.settled

pub returns-clause-given : goal.returns-clause-given
returns-clause-given g c =
    let meanings = c.settle-2.new.target in
    let front : Settles (known c.args.txn false) c.args.old.now meanings c.in_ok-aborted.aborted =
    subst (λ (cases : List (Case _)). Settles (known c.args.txn false) cases meanings c.in_ok-aborted.aborted) c.old.view_is
    (settles-kept (known c.args.txn false) c.old.inside.tree c.settle.new.target meanings c.in_ok-aborted.aborted c.in_ok-committed.ensures.kept c.in_ok-aborted.ensures.settled) in
    let back : Settles (known c.args.txn true) c.args.new.now meanings c.in_ok-committed.committed =
    subst (λ (cases : List (Case _)). Settles (known c.args.txn true) cases meanings c.in_ok-committed.committed) c.new.view_is c.in_ok-committed.ensures.settled in
    let short : c.in_ok-count.field-0 + 1 ≤ HELD_NAMES = omega (arith, c.if-count-gt-HELD_NAMES.false) in
    let chosen = c.in_ok-choose.ensures.chosen in
    let cases = cases_at c.choose.new.self c.in_ok-choose.field-0 in
    record {
      choice = choice-unsettled front.settled back.settled cases cases refl chosen.choice;
      polyvalue = chosen-polyvalue HELD_NAMES front.settled back.settled front.canonical back.canonical
          (λ same. false≢true (sym c.if-same.false ∙ c.same.ensures.unequal same)) c.in_ok-count.field-0 c.in_ok-count.ensures.count
          short chosen.canonical chosen.choice;
    }
