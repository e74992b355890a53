use Rattle.std.proofs.Common.{◌∷◌, ◌++◌, [], Some, ap, sym, subst, ◌∙◌}
use Rattle.atomic_table.specs.Table.{opening}
use Rattle.pv_turn.specs.Rule.{view, rests, IsKept}
use Rattle.pv_turn.proofs.StepLemmas.{opens}
use Rattle.pv_turn.proofs.turn.Turn.new.Goals as goal

pub new-requires : goal.new-requires
new-requires g c =
    let entries = g.V.Entries.entries in
    let words = 0 ∷ c.count-count.result ∷ [] in
    let slots = c.push_reserved.ensures.items ∙ ap (λ slots. slots ++ Some c.args.value ∷ []) c.in-Ok-with_capacity.ensures.items in
    subst (λ slots. IsKept entries c.args.seats (opening words slots (view (entries c.of.result.value) [] rests c.args.seats))) (sym slots)
    (subst (λ value. IsKept entries c.args.seats (opening words (Some c.args.value ∷ []) (view (entries value) [] rests c.args.seats))) (sym c.of.ensures)
    (opens entries c.args.seats c.count-count.result c.args.value c.count-count.ensures))
