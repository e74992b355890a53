-- The cases are a polyvalue's, and what is told of the transactions that they name is put in.
use Rattle.std.proofs.Common.{◌≡◌, ◌<◌, List, map, length, sym, subst, ◌∙◌, arith}
use Rattle.std.specs.Prelude.{ℤ}
use Rattle.std.specs.List.{sum}
use Rattle.pv_audit.specs.Differences.{IsShown, known_of}
use Rattle.pv_audit.proofs.FewLemmas.{few-cases, few-literals, if-both}
use Rattle.pv_audit.proofs.OpenLemmas.{shown-is}
use Rattle.pv_base.specs.Assignment.{AreAscending}
use Rattle.pv_base.specs.Polyvalue.{AreNames, AreOutcomes, Case, IsPolyvalue, IsSettled}
use Rattle.pv_base.specs.declared.limits.TheConstants.{HELD_NAMES}
use Rattle.pv_base.specs.declared.literal.Literal.{Literal}
use Rattle.pv_base.specs.declared.txn.TxnId.{TxnId}
use Rattle.pv_audit.proofs.difference.shown.Goals as goal

pub from_cases-requires : goal.from_cases-requires
from_cases-requires c =
    let cases = c.args.cases.now in
    let is : IsPolyvalue HELD_NAMES cases = c.requires in (
      omega arith,
      (
        subst (λ (copy : List (Case ℤ)). length copy < 4294967296) (sym c.in_ok-copy_cases.ensures.equal) (few-cases cases is),
        subst (λ (copy : List (Case ℤ)). sum (map (λ (case : Case ℤ). length case.when) copy) < 4294967296) (sym c.in_ok-copy_cases.ensures.equal) (few-literals cases is),
      ),
    )

pub settle_all-requires : goal.settle_all-requires
settle_all-requires c = (
  omega arith,
  subst AreOutcomes (sym c.deref-2.ensures.value)
      (c.in_ok-literals.ensures.ascending (subst AreAscending (sym c.deref.ensures.value) c.in_ok-names.ensures.names.ascending)),
)

pub returns : goal.returns
returns c = λ told sorted.
    let cases = c.args.cases.now in
    let printed = c.in-Ok.printed in
    let names = c.in_ok-names.names.items in
    let same : printed ≡ cases = c.in-Ok.ensures.answer.given.kept ∙ c.in_ok-copy_cases.ensures.equal in
    let literals : c.deref-2.result.now ≡ known_of told names =
    c.deref-2.ensures.value ∙ subst (λ (txns : List TxnId). c.in_ok-literals.literals.items ≡ known_of told txns) c.deref.ensures.value (c.in_ok-literals.ensures.known told sorted) in
    let named : AreNames cases names = subst (λ (list : List (Case ℤ)). AreNames list names) same c.in_ok-names.ensures.names in
    if-both c.settle_all.result (IsSettled c.deref-2.result.now printed) (IsPolyvalue HELD_NAMES) (IsShown told cases)
    (λ shown settled polyvalue.
    shown-is told cases shown names named
    (subst (λ (ls : List Literal). IsSettled ls cases shown) literals (subst (λ (list : List (Case ℤ)). IsSettled c.deref-2.result.now list shown) same settled)) polyvalue)
    c.settle_all.ensures.settled c.settle_all.ensures.polyvalue
