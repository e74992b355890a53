-- What is written are the rows of the items that are assigned, with their values.
use Rattle.std.proofs.Common.{List, ap, ◌∙◌}
use Rattle.pv_model.specs.Alternatives.{rows_at}
use Rattle.pv_model.specs.Meaning.{Row, value_in, exec}
use Rattle.pv_split.proofs.LawLemmas.{value-assigned}
use Rattle.pv_split.proofs.laws.writes_what_is_left.Goals as goal

pub returns : goal.returns
returns c = λ program reads writes reply assignment item split does.
    ap (λ (rows : List Row). value_in rows item) (split.written assignment)
    ∙ value-assigned program item (exec program (rows_at reads assignment)).rows does
