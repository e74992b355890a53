-- Cases that don't look canonical are no polyvalue.
use Rattle.std.proofs.Common.{◌≡◌, ◌∙◌, true, false, inr, refl, sym, subst, IfErr}
use Rattle.pv_base.specs.Polyvalue.{IsPolyvalue}
use Rattle.pv_base.specs.declared.limits.TheConstants.{HELD_NAMES}
use Rattle.pv_replay.proofs.OrderLemmas.{polyvalue_looks}
use Rattle.pv_replay.proofs.made.poly_of.Goals as goal

pub returns-then-not-look_canonical-clause-refused : goal.returns-then-not-look_canonical-clause-refused
returns-then-not-look_canonical-clause-refused c =
    inr (
      refl,
      λ poly.
          let given = subst (λ read. IfErr read (λ given. given ≡ c.args.cases)) c.in-Err.is c.in_ok-poly.ensures.given_back in
          let same : c.in-Err.cases.items ≡ c.args.cases.items = λ i. (given i).items in
          let order = c.look_canonical.ensures ∙ polyvalue_looks c.deref-2.result.now (subst (IsPolyvalue HELD_NAMES) (sym (c.deref-2.ensures.value ∙ same)) poly) in
          let is : c.look_canonical.result ≡ false = c.if-not-look_canonical.true in
          let both : false ≡ true = sym is ∙ order in
          cc,
    )
