-- The lemma, as the law of an empty function.
use Rattle.pv_format.specs.Form.{in_tree}
use Rattle.pv_law_format.proofs.PolyvalueCode.{polyvalue-once}
use Rattle.pv_law_format.proofs.polyvalues.one_polyvalue_spelling.Goals as goal

pub returns : goal.returns
returns c = λ cases bytes others s t. polyvalue-once in_tree cases bytes others s t
