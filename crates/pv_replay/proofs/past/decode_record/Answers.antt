-- A record and nothing after it, or a fault.
use Rattle.std.proofs.Common.{◌≡◌, Option, None, MatchOption, IsSome, sym, subst}
use Rattle.std.proofs.lemmas.Result.{IfOk-weaker}
use Rattle.pv_format.specs.Contents.{IsNoRecord}
use Rattle.pv_format.specs.RecordSpelling.{IsReadAs}
use Rattle.pv_replay.specs.Faults.{fault_of}
use Rattle.pv_replay.specs.Values.{record_of}
use Rattle.pv_replay.specs.declared.record.Record.{Record}
use Rattle.pv_replay.proofs.ReplayLemmas.{record_read, no_record_read}
use Rattle.pv_replay.proofs.past.decode_record.Goals as goal

pub returns-in-Ok : goal.returns-in-Ok
returns-in-Ok c =
    record_read c.args.content.now c.new-take.result c.new-take.ensures c.in-Ok.record c.take_record.new.take c.left.result.now c.left.ensures
    c.in-Ok.ensures.passes c.last_record.result c.last_record.ensures

pub returns-in-Err : goal.returns-in-Err
returns-in-Err c =
    IfOk-weaker c.no_record.result (λ found. (found ≡ None) × IsSome (fault_of c.in-Err.e)) _
    (λ found is.
    subst (λ (none : Option Record). MatchOption none (IsNoRecord c.args.content.now) (λ value. IsReadAs (record_of value) c.args.content.now)) (sym is.0)
    (no_record_read c.args.content.now c.new-take.result c.new-take.ensures c.take_record.new.take c.in-Err.e is.1 c.in-Err.ensures.stops))
    c.no_record.ensures
