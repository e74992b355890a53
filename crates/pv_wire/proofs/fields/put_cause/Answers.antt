-- The number of the cause, and the length if there is one.
use Rattle.std.proofs.Common.{◌++◌, sym, ap, subst, ◌∙◌}
use Rattle.std.proofs.lemmas.Result.{on_ok_weaker}
use Rattle.pv_format.specs.Message.{grant_lost, journal_full}
use Rattle.pv_format.specs.MessageSpelling.{SpellsNoCause}
use Rattle.pv_fields.proofs.PartLemmas.{appended_both}
use Rattle.pv_wire.specs.Values.{cause_of}
use Rattle.pv_wire.specs.declared.message.NoCause.{NoCause}
use Rattle.pv_wire.proofs.fields.put_cause.Goals as goal

pub returns-in-GrantLost : goal.returns-in-GrantLost
returns-in-GrantLost c = λ bytes all.
    let spelled : SpellsNoCause grant_lost bytes = subst (λ (cause : NoCause). SpellsNoCause (cause_of cause) bytes) c.in-GrantLost.is all in
    on_ok_weaker c.u8.result (λ last. last ∙ ap (λ front. c.args.put.now.bytes ++ front) (sym spelled.spelled)) c.u8.ensures.written

pub returns-in_ok-u8-in-JournalFull : goal.returns-in_ok-u8-in-JournalFull
returns-in_ok-u8-in-JournalFull c = λ bytes all.
    let spelled : SpellsNoCause (journal_full c.in-JournalFull.length) bytes = subst (λ (cause : NoCause). SpellsNoCause (cause_of cause) bytes) c.in-JournalFull.is all in
    on_ok_weaker c.u64.result
    (λ last.
    appended_both c.args.put.now.bytes c.u8-in-JournalFull.new.self.bytes c.u64.new.self.bytes spelled.front spelled.back bytes spelled.whole
    (c.in_ok-u8-in-JournalFull.ensures.written ∙ ap (λ front. c.args.put.now.bytes ++ front) (sym spelled.first.spelled))
    (last ∙ ap (λ back. c.u8-in-JournalFull.new.self.bytes ++ back) (sym spelled.second.spelled)))
    c.u64.ensures.written
