-- The index has exactly the items whose values name the transaction.
use Rattle.std.proofs.Common.{◌∙◌, ap}
use Rattle.std.specs.Prelude.{◌&&◌}
use Rattle.pv_base.specs.Polyvalue.{names}
use Rattle.pv_protocol.specs.Lock.{is_home}
use Rattle.pv_protocol.specs.Shown.{shown}
use Rattle.pv_replay.specs.Values.{records_of}
use Rattle.pv_store.specs.Kept.{Kept}
use Rattle.pv_store.proofs.TouchedLemmas.{names-shown}
use Rattle.pv_store.proofs.store.Store.touched.Goals as goal

pub returns-clause-items : goal.returns-clause-items
returns-clause-items c = λ item.
    let inside = c.self.inside in
    let records = records_of inside.records.items in
    c.touched.ensures.items item
    ∙ c.self.invariant.touched item c.args.txn
    ∙ names-shown inside.catalog.value inside.site.0 records records inside.values.items c.self.invariant.values item c.args.txn
    ∙ ap (λ (kept : Kept). is_home kept.catalog kept.site item && names (shown kept.catalog kept.records item) c.args.txn) c.self.view_is
