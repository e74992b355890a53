use Rattle.std.proofs.Common.{rules, refl}
use Rattle.pv_host.proofs.HostLemmas.{adds, stays_up, where_up}
use Rattle.pv_host.proofs.host_log.HostLogLog.append.Goals as goal

pub returns-clause-effect : goal.returns-clause-effect
returns-clause-effect c =
    (stays_up c.args.self.now c.push.new.self c.args.content.now c.push.ensures.becomes (search rules), adds c.args.self.now c.push.new.self c.args.content.now c.push.ensures.becomes)

pub returns-clause-goes : goal.returns-clause-goes
returns-clause-goes c = where_up _ _ c.args.self.now.is_down (search rules) (c.push.ensures.short, refl, c.push.ensures.becomes)
