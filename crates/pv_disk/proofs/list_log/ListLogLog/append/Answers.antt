use Rattle.std.proofs.Common.{rules}
use Rattle.pv_disk.proofs.ListLemmas.{kept_append}
use Rattle.pv_disk.proofs.list_log.ListLogLog.append.Goals as goal

pub returns-then-fail-clause-effect : goal.returns-then-fail-clause-effect
returns-then-fail-clause-effect c =
    kept_append c.args.self.now c.push-then-fail.new.self c.args.content.now (search rules) (search rules) (search rules) (search rules) (search rules) (search rules)
