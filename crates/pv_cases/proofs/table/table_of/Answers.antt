-- The cases have a first fault, or a table.
use Rattle.std.proofs.Common.{◌≡◌, ◌<◌, ◌≤◌, ◌^◌, List, Result, Ok, Err, IfSome, length, refl, sym, ap, subst, ◌∙◌, arith, rules}
use Rattle.std.specs.Prelude.{slice_get}
use Rattle.std.proofs.lemmas.Result.{err_from_is_err_and}
use Rattle.pv_base.proofs.AnswerLemmas.{answered}
use Rattle.pv_base.specs.Answer.{Answers}
use Rattle.pv_base.specs.declared.faults.CaseError.{CaseError}
use Rattle.pv_base.specs.declared.faults.CaseError.TheVariants.{NoMemory}
use Rattle.pv_base.specs.declared.limits.TheConstants.{HELD_NAMES}
use Rattle.pv_base.specs.declared.txn.TxnId.{TxnId}
use Rattle.pv_base.specs.Assignment.{assignments}
use Rattle.pv_base.specs.CaseFaults.{fault_of, IsJoinFault, AreDisjoint, AreComplete}
use Rattle.pv_base.specs.Polyvalue.{Case}
use Rattle.pv_cases.specs.JoinedCases.{IsTableOf}
use Rattle.pv_cases.specs.Meetings.{meetings_of}
use Rattle.pv_cases.specs.declared.table.Table.{Table}
use Rattle.pv_law_polyvalues.proofs.NameLemmas.{NamesAtMost-from}
use Rattle.pv_cases.proofs.ValuesMetLemmas.{names-of-literals}
use Rattle.pv_cases.proofs.GapLemmas.{disjoint-complete-sound}
use Rattle.pv_cases.proofs.JoinedLemmas.{count-fault, overlap-fault, disjoint-from, gap-fault, complete-from, place-within, values-from}
use Rattle.pv_cases.proofs.OneAnswerLemmas.{one-table}
use Rattle.pv_cases.proofs.RefusedLemmas.{refused-so as refused-by}
use Rattle.pv_cases.proofs.table.table_of.Goals as goal

-- An error whose fault the cases have is the answer.
refused-so : {V : Type 0} (cases : List (Case V)) (result : Result (Table V) CaseError) (error : CaseError) → result ≡ Err error → IfSome (fault_of error) (IsJoinFault HELD_NAMES cases)
    → Answers (IsTableOf HELD_NAMES cases) (IsJoinFault HELD_NAMES cases) (λ table. (table.txns.items, table.values.items)) fault_of result
refused-so cases =
    refused-by (IsTableOf HELD_NAMES cases) (IsJoinFault HELD_NAMES cases) (one-table HELD_NAMES cases) (λ (table : Table _). (table.txns.items, table.values.items)) fault_of

-- The table of the cases is the answer.
given-so : {V : Type 0} (cases : List (Case V)) (table : Table V) → IsTableOf HELD_NAMES cases (table.txns.items, table.values.items)
    → Answers (IsTableOf HELD_NAMES cases) (IsJoinFault HELD_NAMES cases) (λ t. (t.txns.items, t.values.items)) fault_of (Ok table)
given-so cases table is =
    answered (IsTableOf HELD_NAMES cases) (IsJoinFault HELD_NAMES cases) (one-table HELD_NAMES cases) (λ (t : Table _). (t.txns.items, t.values.items)) fault_of (Ok table) is tt

pub overflow_cast-result : goal.overflow_cast-result
overflow_cast-result g c =
    let few = names-of-literals c.args.cases.now c.in_ok-txns.txns.items c.in_ok-txns.ensures in
    omega (arith, few, c.in_ok-txns.txns.ok.0, c.len-then-len.ensures, c.requires.few_literals)

pub returns-in_err-txns : goal.returns-in_err-txns
returns-in_err-txns g c =
    let is = err_from_is_err_and c.from_residual.result c.from_residual.ensures.1 in
    record { answer = refused-so c.args.cases.now c.from_residual.result NoMemory (search (rules, is)) tt }

pub returns-then-len : goal.returns-then-len
returns-then-len g c =
    record {
      answer = refused-so c.args.cases.now _ _ refl
          (count-fault HELD_NAMES c.args.cases.now c.in_ok-txns.txns.items c.len-then-len.result c.in_ok-txns.ensures
          (omega (arith, c.in_ok-txns.txns.ok.0, c.len-then-len.ensures)) (omega (arith, c.if-len.true, c.len.ensures, c.len-then-len.ensures)));
    }

pub returns-in_err-table : goal.returns-in_err-table
returns-in_err-table g c =
    let is = err_from_is_err_and c.from_residual-in_err-table.result c.from_residual-in_err-table.ensures.1 in
    record { answer = refused-so c.args.cases.now c.from_residual-in_err-table.result NoMemory (search (rules, is)) tt }

pub returns-in_err-gap : goal.returns-in_err-gap
returns-in_err-gap g c =
    let is = err_from_is_err_and c.from_residual-in_err-gap.result c.from_residual-in_err-gap.ensures.1 in
    record { answer = refused-so c.args.cases.now c.from_residual-in_err-gap.result NoMemory (search (rules, is)) tt }

pub returns-in_err-values : goal.returns-in_err-values
returns-in_err-values g c =
    let is = err_from_is_err_and c.from_residual-in_err-values.result c.from_residual-in_err-values.ensures.1 in
    record { answer = refused-so c.args.cases.now c.from_residual-in_err-values.result NoMemory (search (rules, is)) tt }

pub returns-in-Some : goal.returns-in-Some
returns-in-Some g c =
    let few : length c.in_ok-txns.txns.items ≤ HELD_NAMES = omega (arith, c.in_ok-txns.txns.ok.0, c.len.ensures, c.if-len.false) in
    record {
      answer = refused-so c.args.cases.now _ _ refl
          (overlap-fault HELD_NAMES c.args.cases.now c.in_ok-txns.txns.items c.deref-2.result.now c.in-Some.first c.in-Some.second c.in_ok-txns.ensures few
          (c.deref-2.ensures.value ∙ c.in_ok-table.ensures ∙ ap (meetings_of c.args.cases.now) c.deref.ensures.value) c.in-Some.ensures);
    }

pub assignment_at-requires-clause-there : goal.assignment_at-requires-clause-there
assignment_at-requires-clause-there g c =
    subst (λ (ts : List TxnId). c.in-Some-first_gap.place < 2 ^ length ts) (sym c.deref-in-Some-first_gap.ensures.value)
    (place-within c.args.cases.now c.in_ok-txns.txns.items c.deref-3.result.now c.in-Some-first_gap.place
    (c.deref-3.ensures.value ∙ c.in_ok-table.ensures ∙ ap (meetings_of c.args.cases.now) c.deref.ensures.value) (sym c.in-Some-first_gap.ensures))

pub returns-in-Some-first_gap : goal.returns-in-Some-first_gap
returns-in-Some-first_gap g c =
    let few : length c.in_ok-txns.txns.items ≤ HELD_NAMES = omega (arith, c.in_ok-txns.txns.ok.0, c.len.ensures, c.if-len.false) in
    record {
      answer = refused-so c.args.cases.now _ _ refl
          (gap-fault HELD_NAMES c.args.cases.now c.in_ok-txns.txns.items c.deref-3.result.now c.in-Some-first_gap.place c.in_ok-gap.gap.items c.in_ok-txns.ensures few
          (disjoint-from c.args.cases.now c.in_ok-txns.txns.items c.deref-2.result.now c.in_ok-txns.ensures
          (c.deref-2.ensures.value ∙ c.in_ok-table.ensures ∙ ap (meetings_of c.args.cases.now) c.deref.ensures.value) c.in_default.ensures)
          (c.deref-3.ensures.value ∙ c.in_ok-table.ensures ∙ ap (meetings_of c.args.cases.now) c.deref.ensures.value) (sym c.in-Some-first_gap.ensures)
          (ap (λ (ts : List TxnId). slice_get (assignments ts) c.in-Some-first_gap.place) (sym c.deref-in-Some-first_gap.ensures.value) ∙ c.in_ok-gap.ensures));
    }

pub returns : goal.returns
returns g c =
    let few : length c.in_ok-txns.txns.items ≤ HELD_NAMES = omega (arith, c.in_ok-txns.txns.ok.0, c.len.ensures, c.if-len.false) in
    let apart : AreDisjoint c.args.cases.now = disjoint-from c.args.cases.now c.in_ok-txns.txns.items c.deref-2.result.now c.in_ok-txns.ensures
    (c.deref-2.ensures.value ∙ c.in_ok-table.ensures ∙ ap (meetings_of c.args.cases.now) c.deref.ensures.value) c.in_default.ensures in
    let whole : AreComplete c.args.cases.now = complete-from c.args.cases.now c.in_ok-txns.txns.items c.deref-3.result.now c.in_ok-txns.ensures
    (c.deref-3.ensures.value ∙ c.in_ok-table.ensures ∙ ap (meetings_of c.args.cases.now) c.deref.ensures.value) (sym c.in_default-first_gap.ensures) in
    record {
      answer = given-so c.args.cases.now (record { txns = c.in_ok-txns.txns; values = c.in_ok-values.values }) (record {
        sound = disjoint-complete-sound c.args.cases.now apart whole;
        few = NamesAtMost-from HELD_NAMES c.args.cases.now c.in_ok-txns.txns.items c.in_ok-txns.ensures few;
        names = c.in_ok-txns.ensures;
        values = values-from c.args.cases.now c.in_ok-txns.txns.items c.deref-4.result.now c.in_ok-values.values.items whole
            (c.deref-4.ensures.value ∙ c.in_ok-table.ensures ∙ ap (meetings_of c.args.cases.now) c.deref.ensures.value) c.in_ok-values.ensures;
      });
    }
