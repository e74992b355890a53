-- The two lemmas on what canonical cases name and what their value depends on.
use Rattle.pv_law_polyvalues.proofs.PolyvalueLemmas as lemmas
use Rattle.pv_law_polyvalues.proofs.polyvalue.names_what_it_depends_on.Goals as goal

pub returns : goal.returns
returns g c = λ cases set canonical. (lemmas.depends-named cases set canonical, lemmas.named-depends cases set)
