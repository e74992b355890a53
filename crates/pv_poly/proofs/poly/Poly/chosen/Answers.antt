-- The choice is that between both values once the outcome is known, whose names are counted.
use Rattle.std.proofs.Common.{◌+◌, ◌≤◌, sym, ◌∙◌, subst, arith, refl}
use Rattle.std.proofs.lemmas.Bool.{false≢true}
use Rattle.pv_base.specs.Canonical.{IsExact}
use Rattle.pv_base.specs.Polyvalue.{ChoiceNames, IsCanonical}
use Rattle.pv_base.specs.declared.limits.TheConstants.{HELD_NAMES}
use Rattle.pv_law_polyvalues.proofs.ExistenceLemmas.{some-choice-names}
use Rattle.pv_cases.proofs.CountLemmas.{choice-unsettled, chosen-polyvalue, refused-count, same-choice, settled-unnamed}
use Rattle.pv_poly.proofs.poly.Poly.chosen.Goals as goal

pub returns-then-same-clause-given : goal.returns-then-same-clause-given
returns-then-same-clause-given g c = record {
  choice = choice-unsettled c.in_ok-aborted.ensures.settled c.in_ok-committed.ensures.settled c.in_ok-aborted.aborted c.in_ok-aborted.aborted refl
      (same-choice c.args.txn (c.same.ensures.equal c.if-same.true));
  polyvalue = record { canonical = c.in_ok-aborted.ensures.canonical; few = c.in_ok-aborted.ensures.few };
}

pub returns-then-count-gt-HELD_NAMES-clause-refused : goal.returns-then-count-gt-HELD_NAMES-clause-refused
returns-then-count-gt-HELD_NAMES-clause-refused g c =
    let laws : IsExact g.V.PartialEq.eq = record { exact = g.met.V.Exact.exact; itself = g.met.V.Eq.laws.refl } in
    let chosen = some-choice-names laws c.args.txn c.args.old.now c.args.new.now (subst IsCanonical c.old.view_is c.old.invariant.canonical) (subst IsCanonical c.new.view_is c.new.invariant.canonical) in
    let counted = refused-count c.in_ok-aborted.ensures.settled c.in_ok-committed.ensures.settled c.in_ok-aborted.ensures.canonical c.in_ok-committed.ensures.canonical
    (λ same. false≢true (sym c.if-same.false ∙ c.same.ensures.unequal same)) c.in_ok-count.field-0 c.in_ok-count.ensures.count chosen.0 chosen.1 in
    record {
      names = subst (ChoiceNames c.args.txn c.args.old.now c.args.new.now) (sym counted) chosen.1;
      over = c.if-count-gt-HELD_NAMES.true;
    }

pub choose-requires-clause-aborted_unnamed : goal.choose-requires-clause-aborted_unnamed
choose-requires-clause-aborted_unnamed g c = settled-unnamed c.in_ok-aborted.ensures.settled

pub choose-requires-clause-committed_unnamed : goal.choose-requires-clause-committed_unnamed
choose-requires-clause-committed_unnamed g c = settled-unnamed c.in_ok-committed.ensures.settled

pub returns-clause-given : goal.returns-clause-given
returns-clause-given g c =
    let short : c.in_ok-count.field-0 + 1 ≤ HELD_NAMES = omega (arith, c.if-count-gt-HELD_NAMES.false) in
    record {
      choice = choice-unsettled c.in_ok-aborted.ensures.settled c.in_ok-committed.ensures.settled c.in_ok-choose.field-0 c.in_ok-choose.field-0 refl c.in_ok-choose.ensures.choice;
      polyvalue = chosen-polyvalue HELD_NAMES c.in_ok-aborted.ensures.settled c.in_ok-committed.ensures.settled c.in_ok-aborted.ensures.canonical c.in_ok-committed.ensures.canonical
          (λ same. false≢true (sym c.if-same.false ∙ c.same.ensures.unequal same)) c.in_ok-count.field-0 c.in_ok-count.ensures.count
          short c.in_ok-choose.ensures.canonical c.in_ok-choose.ensures.choice;
    }
