-- The table has the words.
use Rattle.pv_audit.proofs.TableLemmas.{unlisted-words}
use Rattle.pv_audit.proofs.parts.beside.Goals as goal

pub returns-clause-unlisted : goal.returns-clause-unlisted
returns-clause-unlisted g c = λ words covers. unlisted-words c.args.word.now c.args.table.now words c.look_up.result covers c.look_up.ensures.unlisted
