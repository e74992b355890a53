-- What is read as a record is in range, and so it has a spelling.
use Rattle.std.proofs.Common.{ℕ, List, Option, Some, IfSome, subst}
use Rattle.pv_format.specs.RecordSpelling.{IsReadAs}
use Rattle.pv_law_format.proofs.RangeLemmas.{read-from, record-spelled}
use Rattle.pv_replay.specs.Values.{record_of}
use Rattle.pv_replay.specs.declared.record.Record.{Record}
use Rattle.pv_replay_tests.proofs.tests.again.Goals as goal

pub encode_record-requires : goal.encode_record-requires
encode_record-requires c =
    let value = record_of c.in-Some.record in
    let read : IsReadAs value c.args.content.now =
    subst (λ (found : Option Record). IfSome found (λ one. IsReadAs (record_of one) c.args.content.now)) c.in-Some.is c.in_ok-record.ensures in
    record-spelled value (read-from value c.args.content.now read)
