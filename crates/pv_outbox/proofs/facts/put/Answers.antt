-- It goes last.
use Rattle.std.specs.Prelude.{nat_eq}
use Rattle.pv_outbox.proofs.FactsLemmas.{put-last}
use Rattle.pv_outbox.proofs.facts.put.Goals as goal

pub returns : goal.returns
returns c =
    put-last nat_eq c.args.held.now.entries c.insert.new.self.entries c.args.output c.args.when c.insert.result (c.insert.ensures.succeeds c.requires.room) c.insert.ensures.entries
    c.requires.absent
