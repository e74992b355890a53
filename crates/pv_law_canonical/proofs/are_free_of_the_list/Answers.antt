-- They are the only ones with their values, whatever the list.
use Rattle.pv_base.specs.Canonical.{canonical_cases}
use Rattle.pv_law_canonical.proofs.CanonicalLemmas as lemmas
use Rattle.pv_law_canonical.proofs.are_free_of_the_list.Goals as goal

pub returns : goal.returns
returns g c = λ same txns others f is up up-too depends depends-too.
    lemmas.only-one same is others f up-too depends-too (canonical_cases same txns f) (lemmas.canonical-is same is txns f up) (lemmas.value-is same is txns f up depends)
