-- Room, and then the append.
use Rattle.std.proofs.Common.{◌≡◌, arith, length, subst, true}
use Rattle.pv_disk_model.specs.Calls.{reserve}
use Rattle.pv_quorum.specs.Values.{record_of}
use Rattle.pv_quorum.specs.Writing.{AppendsBytes}
use Rattle.pv_quorum.proofs.LogLemmas.{written-after}
use Rattle.pv_quorum.proofs.writing.write.Goals as goal

pub returns-in-Ok-clause-written : goal.returns-in-Ok-clause-written
returns-in-Ok-clause-written g c =
    written-after g.L.Log.model c.args.log.now c.reserve.new.self c.append.new.log (record_of c.args.entry) c.requires.intact c.in-Ok.ensures.effect.0 c.in-Ok.ensures.effect.1
    c.in_ok-bytes.bytes.items c.in_ok-bytes.ensures (omega (arith, c.in-Ok.ensures.effect.2, c.len.ensures, c.in_ok-bytes.bytes.ok)) (subst (λ n. g.L.Log.model.goes c.args.log.now (reserve n) true c.reserve.new.self)
    (let same : c.len.result ≡ length c.in_ok-bytes.bytes.items = omega (arith, c.len.ensures, c.in_ok-bytes.bytes.ok) in same) c.in-Ok.ensures.goes)
    c.append.result (subst (λ bytes. AppendsBytes g.L.Log.model c.reserve.new.self c.append.new.log bytes c.append.result) c.deref.ensures.value c.append.ensures.appended)
