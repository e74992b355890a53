-- One write after another is put in its place.
use Rattle.std.proofs.Common.{◌≡◌, ◌∙◌, ℤ, [], List, ap, sym}
use Rattle.std.proofs.lemmas.List.{nil_from_length}
use Rattle.pv_audit.specs.Values.{put_all}
use Rattle.pv_base.specs.Polyvalue.{Case}
use Rattle.pv_audit.proofs.values.put_all.Goals as goal

pub loop-write-init : goal.loop-write-init
loop-write-init c = ap (put_all c.args.values.now.items) c.into_iter-write-iterator.ensures.into_iter_gives.0

pub loop-write-preserved : goal.loop-write-preserved
loop-write-preserved c =
    ap (λ (values : List (List (Case ℤ))). put_all values c.next.new.self.rest.items) c.put.ensures
    ∙ ap (put_all c.loop-write.values.items) (sym c.in-Some.ensures.steps.0)
    ∙ c.loop-write.invariant

pub returns : goal.returns
returns c =
    let rest = c.loop-write.write-iterator.rest in
    let none : rest.items ≡ [] = nil_from_length rest.items (sym rest.ok.0 ∙ c.in-None.ensures.steps.0) in
    ap (put_all c.loop-write.values.items) (sym none) ∙ c.loop-write.invariant
