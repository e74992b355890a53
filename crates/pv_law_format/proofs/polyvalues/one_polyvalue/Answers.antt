-- The lemma, as the law of an empty function.
use Rattle.pv_format.specs.Form.{in_tree}
use Rattle.pv_law_format.proofs.PolyvalueCode.{polyvalue-read}
use Rattle.pv_law_format.proofs.polyvalues.one_polyvalue.Goals as goal

pub returns : goal.returns
returns c = λ cases others front other rest more s t same. polyvalue-read in_tree cases others front other rest more s t same
