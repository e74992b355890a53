-- The polyvalue of the table has the values of the cases.
use Rattle.std.proofs.Common.{◌≡◌, ◌≤◌, ◌^◌, List, length, sym, ap, subst, ◌∙◌, rules}
use Rattle.std.proofs.lemmas.Result.{err_from_is_err_and}
use Rattle.pv_base.specs.Canonical.{IsExact}
use Rattle.pv_base.specs.Assignment.{AreAscending}
use Rattle.pv_base.specs.declared.faults.CaseError.TheVariants.{NoMemory}
use Rattle.pv_base.specs.declared.limits.TheConstants.{HELD_NAMES}
use Rattle.pv_base.specs.declared.txn.TxnId.{TxnId}
use Rattle.pv_law_polyvalues.proofs.TableLemmas.{length-values}
use Rattle.pv_cases.proofs.JoinedLemmas.{joined-read}
use Rattle.pv_cases.proofs.CaseAnswers.{refused-joined, given-joined}
use Rattle.pv_tree.proofs.poly.Poly.joined.Goals as goal

-- The polyvalue fits in memory, as a value of its type does wherever it is; and what the table's names and values are is what is asked of them.
pub from_table-requires : goal.from_table-requires
from_table-requires g c =
    let given = c.in_ok-table.ensures.answer.given in
    let few : length c.deref.result.now ≤ HELD_NAMES =
    subst (λ (ts : List TxnId). length ts ≤ HELD_NAMES) (sym c.deref.ensures.value) (given.few c.in_ok-table.table.txns.items given.names) in
    let whole : length c.deref-2.result.now ≡ 2 ^ length c.deref.result.now =
    ap (λ (vs : List _). length vs) c.deref-2.ensures.value
    ∙ length-values c.args.cases.now c.in_ok-table.table.txns.items c.in_ok-table.table.values.items given.values
    ∙ ap (λ (ts : List TxnId). 2 ^ length ts) (sym c.deref.ensures.value) in
    (search rules, (subst AreAscending (sym c.deref.ensures.value) given.names.ascending, (few, whole)))

pub returns-in_err-table : goal.returns-in_err-table
returns-in_err-table g c =
    let laws : IsExact g.V.PartialEq.eq = record { exact = g.met.V.Exact.exact; itself = g.met.V.Eq.laws.refl } in
    let is = err_from_is_err_and c.from_residual.result c.from_residual.ensures.1 in
    record { answer = refused-joined laws c.args.cases.now c.from_residual.result c.in_err-table.field-0.0 (search (rules, is)) c.in_err-table.ensures.answer.refused }

pub returns-in_err-from_table : goal.returns-in_err-from_table
returns-in_err-from_table g c =
    let laws : IsExact g.V.PartialEq.eq = record { exact = g.met.V.Exact.exact; itself = g.met.V.Eq.laws.refl } in
    let is = err_from_is_err_and c.from_residual-in_err-from_table.result c.from_residual-in_err-from_table.ensures.1 in
    record { answer = refused-joined laws c.args.cases.now c.from_residual-in_err-from_table.result NoMemory (search (rules, is)) tt }

pub returns : goal.returns
returns g c =
    let laws : IsExact g.V.PartialEq.eq = record { exact = g.met.V.Exact.exact; itself = g.met.V.Eq.laws.refl } in
    let table = c.in_ok-table.ensures.answer.given in
    record {
      answer = given-joined laws c.args.cases.now c.in_ok-from_table.field-0 (record {
        sound = table.sound;
        few = table.few;
        values = joined-read c.args.cases.now c.in_ok-from_table.field-0 c.in_ok-table.table.txns.items c.deref.result.now c.in_ok-table.table.values.items c.deref-2.result.now
            c.deref.ensures.value c.deref-2.ensures.value table.names table.values c.in_ok-from_table.ensures.values c.in_ok-from_table.ensures.names;
        polyvalue = c.in_ok-from_table.ensures.polyvalue;
      });
    }
