use Rattle.std.proofs.Common.{Some, Err, ap}
use Rattle.pv_base.proofs.AnswerLemmas.{answered}
use Rattle.pv_disk.specs.MemDisk.{ArmsState}
use Rattle.pv_disk.specs.declared.disk_error.LookError.TheVariants.{NoMemory}
use Rattle.pv_journal.specs.Opening.{contents_in, place_in}
use Rattle.pv_format.specs.Journal.{IsJournal, IsNotOurs}
use Rattle.pv_host.proofs.HostLemmas.{never_failed}
use Rattle.pv_host.proofs.host_log.journal_in.Goals as goal

pub returns-then-len-gt-MAX_LENGTH-clause-answer : goal.returns-then-len-gt-MAX_LENGTH-clause-answer
returns-then-len-gt-MAX_LENGTH-clause-answer c =
    answered (λ contents. IsJournal contents c.args.bytes.items) (IsNotOurs c.args.bytes.items) (c.one_journal.ensures c.args.bytes.items) contents_in place_in (Err NoMemory) tt tt

pub returns-clause-answer : goal.returns-clause-answer
returns-clause-answer c = c.look.ensures.answer c.args.bytes.items (ap Some c.of-disk.ensures.content)

pub returns-clause-failed : goal.returns-clause-failed
returns-clause-failed c =
    never_failed c.armed_journals.ensures.looks c.of-disk.result c.look.new.disk c.look.result (ap (λ (arms : ArmsState). arms.fail_read) c.of-disk.ensures.arms)
    c.of-disk.ensures.faults c.look.ensures.effect
