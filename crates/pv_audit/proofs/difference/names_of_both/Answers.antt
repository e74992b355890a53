-- What either names is added.
use Rattle.std.proofs.Common.{List, IsTrue, inl, inr, sym, subst}
use Rattle.std.specs.Prelude.{ℤ}
use Rattle.pv_base.specs.Polyvalue.{Case, names}
use Rattle.pv_audit.proofs.difference.names_of_both.Goals as goal

pub returns-clause-first : goal.returns-clause-first
returns-clause-first c = λ txn named.
    (c.ordered.ensures.same txn).1 ((c.in_ok-push_names-2.ensures.names txn).1 (inl ((c.in_ok-push_names.ensures.names txn).1
    (inr (subst (λ (cases : List (Case ℤ)). IsTrue (names cases txn)) (sym c.cases-first.ensures.cases) named)))))

pub returns-clause-second : goal.returns-clause-second
returns-clause-second c = λ txn named.
    (c.ordered.ensures.same txn).1 ((c.in_ok-push_names-2.ensures.names txn).1
    (inr (subst (λ (cases : List (Case ℤ)). IsTrue (names cases txn)) (sym c.cases-second.ensures.cases) named)))
