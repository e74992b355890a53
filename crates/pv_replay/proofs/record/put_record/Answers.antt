-- The kind, and then what the kind has.
use Rattle.std.proofs.Common.{◌++◌, ℕ, List, if◌then◌else◌, sym, ap, subst, ◌∙◌}
use Rattle.std.proofs.lemmas.Result.{on_ok_weaker}
use Rattle.pv_base.specs.BigEndian.{big_endian}
use Rattle.pv_format.specs.Record.{epoch_begun, prepared, outcome_known}
use Rattle.pv_format.specs.RecordSpelling.{SpellsReads, SpellsRecord, are_sure}
use Rattle.pv_fields.proofs.PartLemmas.{appended_both}
use Rattle.pv_model.specs.Alternatives.{Read}
use Rattle.pv_replay.specs.Values.{record_of}
use Rattle.pv_replay.specs.declared.record.Record.{Record}
use Rattle.pv_replay.proofs.record.put_record.Goals as goal

pub put_reads-requires : goal.put_reads-requires
put_reads-requires c =
    let spelled : SpellsRecord (prepared c.in-Prepared.txn c.in-Prepared.writes.items) c.requires.0
    = subst (λ (value : Record). SpellsRecord (record_of value) c.requires.0) c.in-Prepared.is c.requires.1 in
    (0, spelled.second.back, subst (λ (reads : List Read). SpellsReads 0 reads spelled.second.back) (sym c.deref-in-Prepared.ensures.value) spelled.second.second)

pub returns-in_ok-u8-in-Epoch : goal.returns-in_ok-u8-in-Epoch
returns-in_ok-u8-in-Epoch c = λ bytes all.
    let spelled : SpellsRecord (epoch_begun c.in-Epoch.epoch) bytes = subst (λ (value : Record). SpellsRecord (record_of value) bytes) c.in-Epoch.is all in
    on_ok_weaker c.u32.result
    (λ last.
    appended_both c.args.put.now.bytes c.u8.new.self.bytes c.u32.new.self.bytes spelled.front spelled.back bytes spelled.whole
    (c.in_ok-u8-in-Epoch.ensures.written ∙ ap (λ front. c.args.put.now.bytes ++ front) (sym spelled.first.spelled))
    (last ∙ ap (λ back. c.u8.new.self.bytes ++ back) (sym spelled.second.spelled.spelled)))
    c.u32.ensures.written

pub returns-in_ok-put_txn-in-Prepared : goal.returns-in_ok-put_txn-in-Prepared
returns-in_ok-put_txn-in-Prepared c = λ bytes all.
    let spelled : SpellsRecord (prepared c.in-Prepared.txn c.in-Prepared.writes.items) bytes
    = subst (λ (value : Record). SpellsRecord (record_of value) bytes) c.in-Prepared.is all in
    on_ok_weaker c.put_reads.result
    (λ last.
    appended_both c.args.put.now.bytes c.u8-in-Prepared.new.self.bytes c.put_reads.new.put.bytes spelled.front spelled.back bytes spelled.whole
    (c.in_ok-u8-in-Prepared.ensures.written
    ∙ ap (λ (kind : ℕ). c.args.put.now.bytes ++ big_endian 1 kind) (c.promise_kind.ensures ∙ ap (λ (reads : List Read). if are_sure reads then 2 else 4) c.deref.ensures.value)
    ∙ ap (λ front. c.args.put.now.bytes ++ front) (sym spelled.first.spelled))
    (appended_both c.u8-in-Prepared.new.self.bytes c.put_txn.new.put.bytes c.put_reads.new.put.bytes spelled.second.front spelled.second.back spelled.back spelled.second.whole
    (c.in_ok-put_txn-in-Prepared.ensures.written spelled.second.front spelled.second.first) last))
    (c.put_reads.ensures.written 0 spelled.second.back (subst (λ (reads : List Read). SpellsReads 0 reads spelled.second.back) (sym c.deref-in-Prepared.ensures.value) spelled.second.second))

pub returns-in_ok-put_txn-in-Outcome : goal.returns-in_ok-put_txn-in-Outcome
returns-in_ok-put_txn-in-Outcome c = λ bytes all.
    let spelled : SpellsRecord (outcome_known c.in-Outcome.txn c.in-Outcome.commits) bytes
    = subst (λ (value : Record). SpellsRecord (record_of value) bytes) c.in-Outcome.is all in
    on_ok_weaker c.put_truth.result
    (λ last.
    appended_both c.args.put.now.bytes c.u8-in-Outcome.new.self.bytes c.put_truth.new.put.bytes spelled.front spelled.back bytes spelled.whole
    (c.in_ok-u8-in-Outcome.ensures.written ∙ ap (λ front. c.args.put.now.bytes ++ front) (sym spelled.first.spelled))
    (appended_both c.u8-in-Outcome.new.self.bytes c.put_txn-in-Outcome.new.put.bytes c.put_truth.new.put.bytes spelled.second.front spelled.second.back spelled.back spelled.second.whole
    (c.in_ok-put_txn-in-Outcome.ensures.written spelled.second.front spelled.second.first) last))
    (c.put_truth.ensures.written spelled.second.back spelled.second.second)
