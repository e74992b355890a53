use Rattle.pv_base.proofs.AnswerLemmas.{answered}
use Rattle.pv_format.specs.Journal.{IsJournal, IsNotOurs}
use Rattle.pv_law_journal.proofs.OneAnswer.{one_answer}
use Rattle.pv_journal.specs.Opening.{contents_in, place_in}
use Rattle.pv_journal.proofs.GivenLemmas.{answers_of_reads}
use Rattle.pv_journal.proofs.LookLemmas.{place_told, found_at}
use Rattle.pv_journal.proofs.journal.look.Goals as goal

pub returns-clause-answer : goal.returns-clause-answer
returns-clause-answer g c bytes is =
    answered (λ contents. IsJournal contents bytes) (IsNotOurs bytes) (one_answer bytes) contents_in place_in c.read_contents.result
    (found_at (λ all held. IsJournal (contents_in all) held) (g.D.Disk.model.content c.args.disk.now) bytes c.read_contents.result c.read_contents.ensures.found is)
    (place_told (IsNotOurs bytes) c.read_contents.result (λ place known. c.read_contents.ensures.not_ours place known bytes is))

pub returns-clause-reads : goal.returns-clause-reads
returns-clause-reads g c =
    answers_of_reads g.D.Disk.model c.args.disk.now c.read_contents.new.disk c.read_contents.result c.read_contents.ensures.gave c.read_contents.ensures.gave_none
