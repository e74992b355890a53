-- The write stands at its place.
use Rattle.std.proofs.Common.{◌≡◌, ◌∙◌, ◌≤◌, Bool, Bor, List, length, map, ap, sym, subst}
use Rattle.std.specs.Prelude.{insert, if◌then◌else◌}
use Rattle.std.specs.Result.{is_ok}
use Rattle.pv_model.specs.Alternatives.{Read}
use Rattle.pv_store.specs.Writes.{with_write}
use Rattle.pv_store.proofs.WriteLemmas.{map-insert}
use Rattle.pv_store.proofs.writes.push_write.Goals as goal

pub returns : goal.returns
returns c =
    let old = c.args.found.now.items in
    let now = λ (write : Bor Read). write.now in
    let put : c.insert.new.self.items ≡ insert old c.in-Some.place c.args.write =
    c.insert.ensures.items ∙ ap (λ (done : Bool). if done then insert old c.in-Some.place c.args.write else old) (ap is_ok c.in_ok-insert.was) in
    ap (map now) put
    ∙ map-insert now old c.in-Some.place c.args.write (subst (λ (reads : List (Bor Read)). c.in-Some.place ≤ length reads) c.deref.ensures.value c.in-Some.ensures.within)
    ∙ sym (subst (λ (reads : List (Bor Read)). with_write c.args.write.now (map now reads) ≡ insert (map now reads) c.in-Some.place c.args.write.now) c.deref.ensures.value
    (c.in-Some.ensures.place c.args.write.now (ap (λ (read : Read). read.item) (sym c.write.view_is))))
