-- The lemma, as the law of an empty function.
use Rattle.pv_format.specs.RecordSpelling.{IsReadAs}
use Rattle.pv_law_format.proofs.AnswerLemmas as lemmas
use Rattle.pv_law_format.proofs.RecordCode.{read-once}
use Rattle.pv_law_format.proofs.records.no_longer_record.Goals as goal

pub returns : goal.returns
returns c = λ entry other bytes rest s t. lemmas.no-prefix IsReadAs read-once entry other bytes rest s t
