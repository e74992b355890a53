-- What is settled names no outcome that is known.
use Rattle.std.proofs.Common.{◌≡◌, List, subst}
use Rattle.std.specs.Prelude.{Result, Ok, Err, IfOk}
use Rattle.pv_base.specs.declared.limits.TheConstants.{HELD_NAMES}
use Rattle.pv_base.specs.declared.txn.TxnId.{TxnId}
use Rattle.pv_base.specs.Polyvalue.{Case, IsPolyvalue, names, value_at}
use Rattle.pv_format.specs.Record.{Record}
use Rattle.pv_protocol.specs.Records.{choice, is_undecided}
use Rattle.std.specs.Prelude.{IsTrue}
use Rattle.pv_replay.specs.Values.{records_of}
use Rattle.pv_store.specs.Kept.{Kept}
use Rattle.pv_store.proofs.PromiseLemmas.{settled-undecided}
use Rattle.pv_store.proofs.store.Store.settled.Goals as goal

names-by : {V E : Type 0} (records : List Record) (before : List (Case V)) (result : Result (List (Case V)) E)
    → IfOk result (λ settled. (a : List TxnId) → value_at settled a ≡ value_at before (choice records a)) → IfOk result (IsPolyvalue HELD_NAMES)
    → IfOk result (λ settled. (txn : TxnId) → IsTrue (names settled txn) → IsTrue (is_undecided records txn))
names-by records before (Ok settled) values is = settled-undecided records before settled is.canonical values
names-by records before (Err e) values is = tt

pub returns-clause-value : goal.returns-clause-value
returns-clause-value g c =
    subst (λ (kept : Kept). IfOk c.settled.result (λ settled. (a : List TxnId) → value_at settled a ≡ value_at c.args.value.now (choice kept.records a))) c.self.view_is
    (c.settled.ensures.value (records_of c.self.inside.records.items) c.self.invariant.known)

pub returns-clause-names : goal.returns-clause-names
returns-clause-names g c =
    subst (λ (kept : Kept). IfOk c.settled.result (λ settled. (txn : TxnId) → IsTrue (names settled txn) → IsTrue (is_undecided kept.records txn))) c.self.view_is
    (names-by (records_of c.self.inside.records.items) c.args.value.now c.settled.result (c.settled.ensures.value (records_of c.self.inside.records.items) c.self.invariant.known) c.settled.ensures.polyvalue)
