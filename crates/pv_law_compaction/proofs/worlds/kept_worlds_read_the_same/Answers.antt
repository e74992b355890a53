-- The lemmas, as the laws of an empty function.
use Rattle.pv_law_compaction.proofs.WorldLemmas.{committed-same, open-same, fits-was, value-same}
use Rattle.pv_law_compaction.proofs.worlds.kept_worlds_read_the_same.Goals as goal

pub returns : goal.returns
returns c = record {
  committed = λ setup kept all decided given_order stands t given. committed-same all decided given_order setup kept stands t given;
  still_open = λ setup kept all decided given_order stands placed h. open-same all decided given_order setup kept stands placed h;
  fits = λ setup kept all decided given_order stands a fits. fits-was all decided given_order setup kept stands a fits;
  values = λ setup kept all decided given_order stands a fits n item home. value-same all decided given_order setup kept stands a fits n item home;
}
