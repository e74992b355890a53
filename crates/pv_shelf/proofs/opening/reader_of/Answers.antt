use Rattle.left_right.specs.Sides.{view}
use Rattle.pv_shelf.proofs.RuleLemmas.{admits, forks, merges}
use Rattle.pv_shelf.proofs.opening.reader_of.Goals as goal

pub reader-requires : goal.reader-requires
reader-requires c = admits

pub tell-requires : goal.tell-requires
tell-requires c = forks c.args.writer.now.writer.desk.place.id (view c.args.writer.now.writer.desk.place)

pub learn-requires-clause-rule : goal.learn-requires-clause-rule
learn-requires-clause-rule c = merges c.in_ok-reader.reader.place.id (view c.in_ok-reader.reader.place) c.tell.result.id (view c.tell.result)
