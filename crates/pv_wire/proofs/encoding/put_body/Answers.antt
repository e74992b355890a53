-- What each kind has.
use Rattle.std.proofs.Common.{◌≤◌, ◌++◌, List, length, sym, ap, subst, ◌∙◌, arith}
use Rattle.std.proofs.lemmas.Bool.Decides.{nat_tests}
use Rattle.std.proofs.lemmas.Result.{on_ok_weaker}
use Rattle.pv_base.specs.Want.{Want}
use Rattle.pv_format.specs.Message.{lock, granted, denied, prepare}
use Rattle.pv_format.specs.MessageSpelling.{SpellsBody, SpellsWants}
use Rattle.pv_format.specs.RecordSpelling.{SpellsReads}
use Rattle.pv_fields.proofs.PartLemmas.{appended_both}
use Rattle.pv_model.specs.Alternatives.{Read}
use Rattle.pv_wire.specs.Values.{message_of}
use Rattle.pv_wire.specs.declared.message.Message.{Message}
use Rattle.pv_wire.proofs.encoding.put_body.Goals as goal

pub put_wants-requires : goal.put_wants-requires
put_wants-requires c =
    let spelled : SpellsBody (lock c.in-Lock.txn c.in-Lock.wants.items) c.requires.0
    = subst (λ (message : Message). SpellsBody (message_of message) c.requires.0) c.in-Lock.is c.requires.1 in
    let allowed = spelled.first.allowed in
    let few : length c.in-Lock.wants.items ≤ 16 = grind (arith, nat_tests) in
    subst (λ (wants : List Want). length wants ≤ 16) (sym c.deref.ensures.value) few

pub returns-in-Lock : goal.returns-in-Lock
returns-in-Lock c = λ bytes all.
    let spelled : SpellsBody (lock c.in-Lock.txn c.in-Lock.wants.items) bytes
    = subst (λ (message : Message). SpellsBody (message_of message) bytes) c.in-Lock.is all in
    c.put_wants.ensures 1 bytes (subst (λ (wants : List Want). SpellsWants 1 wants bytes) (sym c.deref.ensures.value) spelled)

pub put_reads-requires : goal.put_reads-requires
put_reads-requires c =
    let spelled : SpellsBody (granted c.in-Granted.txn c.in-Granted.grant c.in-Granted.values.items) c.requires.0
    = subst (λ (message : Message). SpellsBody (message_of message) c.requires.0) c.in-Granted.is c.requires.1 in
    (1, spelled.back, subst (λ (reads : List Read). SpellsReads 1 reads spelled.back) (sym c.deref-in-Granted.ensures.value) spelled.second)

pub returns-in_ok-put_grant-in-Granted : goal.returns-in_ok-put_grant-in-Granted
returns-in_ok-put_grant-in-Granted c = λ bytes all.
    let spelled : SpellsBody (granted c.in-Granted.txn c.in-Granted.grant c.in-Granted.values.items) bytes
    = subst (λ (message : Message). SpellsBody (message_of message) bytes) c.in-Granted.is all in
    on_ok_weaker c.put_reads.result
    (appended_both c.args.put.now.bytes c.put_grant.new.put.bytes c.put_reads.new.put.bytes spelled.front spelled.back bytes spelled.whole
    (c.in_ok-put_grant-in-Granted.ensures spelled.front spelled.first))
    (c.put_reads.ensures.written 1 spelled.back (subst (λ (reads : List Read). SpellsReads 1 reads spelled.back) (sym c.deref-in-Granted.ensures.value) spelled.second))

pub put_reads-requires-in-Prepare : goal.put_reads-requires-in-Prepare
put_reads-requires-in-Prepare c =
    let spelled : SpellsBody (prepare c.in-Prepare.txn c.in-Prepare.grant c.in-Prepare.writes.items) c.requires.0
    = subst (λ (message : Message). SpellsBody (message_of message) c.requires.0) c.in-Prepare.is c.requires.1 in
    (0, spelled.back, subst (λ (reads : List Read). SpellsReads 0 reads spelled.back) (sym c.deref-in-Prepare.ensures.value) spelled.second)

pub returns-in_ok-put_grant-in-Prepare : goal.returns-in_ok-put_grant-in-Prepare
returns-in_ok-put_grant-in-Prepare c = λ bytes all.
    let spelled : SpellsBody (prepare c.in-Prepare.txn c.in-Prepare.grant c.in-Prepare.writes.items) bytes
    = subst (λ (message : Message). SpellsBody (message_of message) bytes) c.in-Prepare.is all in
    on_ok_weaker c.put_reads-in-Prepare.result
    (appended_both c.args.put.now.bytes c.put_grant-in-Prepare.new.put.bytes c.put_reads-in-Prepare.new.put.bytes spelled.front spelled.back bytes spelled.whole
    (c.in_ok-put_grant-in-Prepare.ensures spelled.front spelled.first))
    (c.put_reads-in-Prepare.ensures.written 0 spelled.back (subst (λ (reads : List Read). SpellsReads 0 reads spelled.back) (sym c.deref-in-Prepare.ensures.value) spelled.second))

pub returns-in_ok-u32-in-Denied : goal.returns-in_ok-u32-in-Denied
returns-in_ok-u32-in-Denied c = λ bytes all.
    let spelled : SpellsBody (denied c.in-Denied.txn c.in-Denied.item.0 c.in-Denied.holder) bytes
    = subst (λ (message : Message). SpellsBody (message_of message) bytes) c.in-Denied.is all in
    on_ok_weaker c.put_txn.result
    (appended_both c.args.put.now.bytes c.u32.new.self.bytes c.put_txn.new.put.bytes spelled.front spelled.back bytes spelled.whole
    (c.in_ok-u32-in-Denied.ensures.written ∙ ap (λ front. c.args.put.now.bytes ++ front) (sym spelled.first.spelled.spelled)))
    (c.put_txn.ensures.written spelled.back spelled.second)

pub returns-in-Outcome : goal.returns-in-Outcome
returns-in-Outcome c = λ bytes all.
    c.put_truth.ensures.written bytes (subst (λ (message : Message). SpellsBody (message_of message) bytes) c.in-Outcome.is all)
