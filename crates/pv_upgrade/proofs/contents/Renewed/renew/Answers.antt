-- A content is replaced, or it stays.
use Rattle.std.proofs.Common.{◌+◌, ℕ, List, ap, subst, arith}
use Rattle.pv_upgrade.proofs.RenewedLemmas.{found-new, found-not, kept-if, one-replaced}
use Rattle.pv_upgrade.specs.Renewing.{IsNotOld, IsRespelled}
use Rattle.pv_upgrade.proofs.contents.Renewed.renew.Goals as goal

pub overflow_add-self : goal.overflow_add-self
overflow_add-self c = omega (arith, c.requires, c.in_ok-push-in-Some.ensures.count, c.in_ok-push-in-Some.ensures.length, c.in_ok-push-in-Some.ensures.fits)

pub returns-in_ok-push-in-Some : goal.returns-in_ok-push-in-Some
returns-in_ok-push-in-Some c = λ done was.
    let one = subst (λ (l : List ℕ). IsRespelled l c.in-Some.bytes.items) c.deref.ensures.value (found-new c.deref.result.now c.in_ok-bytes.field-0 c.in_ok-bytes.ensures c.in-Some.bytes c.in-Some.is) in
    one-replaced done c.args.self.now _ c.args.content.items c.in-Some.bytes.items was c.in_ok-push-in-Some.ensures.contents c.in_ok-push-in-Some.ensures.length
    (ap (λ (n : ℕ). n + 1) c.in_ok-push-in-Some.ensures.count) one

pub returns-in-None : goal.returns-in-None
returns-in-None c = λ done was.
    kept-if done c.args.self.now c.push-in-None.new.self c.args.content.items c.push-in-None.result was c.push-in-None.ensures.contents c.push-in-None.ensures.length
    c.push-in-None.ensures.count (subst IsNotOld c.deref.ensures.value (found-not c.deref.result.now c.in_ok-bytes.field-0 c.in_ok-bytes.ensures c.in-None.is))
