-- The lines so far, and those of the requests left, are all.
use Rattle.std.proofs.Common.{◌≡◌, ◌++◌}
use Rattle.pv_live.proofs.TellLemmas.{requests_left}
use Rattle.pv_live.proofs.telling.push_client.Given as goal

abbrev pub invariant-loop-one : goal.invariant-loop-one
invariant-loop-one l = record {
  whole : l.initial.text.items ++ requests_left l.catalog l.client l.site.0 l.told 0 ≡ l.text.items ++ requests_left l.catalog l.client l.site.0 l.told l.request;
  count : l.request ≡ l.one-index;
}
