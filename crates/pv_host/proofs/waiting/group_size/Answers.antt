use Rattle.std.proofs.Common.{rules, ◌≤◌, ◌+◌, arith}
use Rattle.pv_disk_model.specs.Size.{Contents}
use Rattle.pv_host.specs.Waiting.{AreRecords}
use Rattle.pv_host.proofs.WaitingLemmas.{long-records}
use Rattle.pv_host.proofs.GroupReads.{first-found, goes-on, stopped, ends-here, next-long}
use Rattle.pv_host.proofs.waiting.group_size.Goals as goal

pub record_length-bytes-requires : goal.record_length-bytes-requires
record_length-bytes-requires c = long-records c.requires.are.0 c.args.records.now c.requires.are.1 c.requires.some

pub loop-bytes-init : goal.loop-bytes-init
loop-bytes-init c =
    let found = λ (contents : Contents) (are : AreRecords contents c.args.records.now).
    first-found c.args.records.now c.args.room c.record_length-bytes.result contents are c.requires.some c.record_length-bytes.ensures.length in
    ((found c.requires.are.0 c.requires.are.1).0, omega (arith, c.record_length-bytes.ensures.least), λ contents are. (found contents are).1)

pub record_length-requires : goal.record_length-requires
record_length-requires c =
    next-long c.args.records.now c.split_at.result.1.now c.args.room c.loop-bytes.bytes c.loop-bytes.count c.requires.are.0 c.requires.are.1
    (c.loop-bytes.invariant.2 c.requires.are.0 c.requires.are.1) c.split_at.ensures.back (search rules)

pub returns-then-room-more : goal.returns-then-room-more
returns-then-room-more c = λ contents are.
    let size = stopped c.args.records.now c.split_at.result.1.now c.args.room c.loop-bytes.bytes c.loop-bytes.count contents are
    (c.loop-bytes.invariant.2 contents are) c.split_at.ensures.back (search rules) c.record_length.result c.record_length.ensures.length (search rules) in
    record { bytes = size.0; count = size.1 }

pub loop-bytes-smaller : goal.loop-bytes-smaller
loop-bytes-smaller c =
    let more = goes-on c.args.records.now c.split_at.result.1.now c.args.room c.loop-bytes.bytes c.loop-bytes.count c.requires.are.0 c.requires.are.1
    (c.loop-bytes.invariant.2 c.requires.are.0 c.requires.are.1) c.split_at.ensures.back (search rules) c.record_length.result c.record_length.ensures.length (search rules) in
    omega (arith, more.0, more.1.0)

pub loop-bytes-preserved : goal.loop-bytes-preserved
loop-bytes-preserved c =
    let more = λ (contents : Contents) (are : AreRecords contents c.args.records.now). goes-on c.args.records.now c.split_at.result.1.now c.args.room c.loop-bytes.bytes c.loop-bytes.count
    contents are (c.loop-bytes.invariant.2 contents are) c.split_at.ensures.back (search rules) c.record_length.result c.record_length.ensures.length (search rules) in
    let first = more c.requires.are.0 c.requires.are.1 in
    let fewer : c.loop-bytes.count + 1 ≤ c.loop-bytes.bytes + c.record_length.result = omega (arith, c.loop-bytes.invariant.1, first.0) in
    (first.1.0, fewer, λ contents are. (more contents are).1.1)

pub returns : goal.returns
returns c = λ contents are.
    let size = ends-here c.args.records.now c.args.room c.loop-bytes.bytes c.loop-bytes.count contents are (c.loop-bytes.invariant.2 contents are) (search rules) in
    record { bytes = size.0; count = size.1 }
