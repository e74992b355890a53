-- What the map finds is the first request, with its plan.
use Rattle.std.proofs.Common.{IfSome, Option, ap, sym, subst, ◌∙◌}
use Rattle.std.specs.Option.{option_map}
use Rattle.pv_audit.specs.Kept.{IsPlanned}
use Rattle.pv_audit.specs.declared.begun.Request.{Request}
use Rattle.pv_audit.proofs.KeptLemmas.{lookup-kept, lookup-planned, with_request}
use Rattle.pv_audit.proofs.begun.Begun.request_of.Goals as goal

pub returns-clause-first : goal.returns-clause-first
returns-clause-first c = λ requests kept.
    ap (λ (o : Option Request). option_map (with_request c.args.txn) o) (c.copied.ensures ∙ c.get.ensures.value)
    ∙ lookup-kept c.args.self.now.requests.entries c.args.txn
    ∙ kept c.args.txn

pub returns-clause-plan : goal.returns-clause-plan
returns-clause-plan c = λ count plans.
    subst (λ (o : Option Request). IfSome o (IsPlanned count)) (sym (c.copied.ensures ∙ c.get.ensures.value))
    (lookup-planned count c.args.self.now.requests.entries c.args.txn plans)
