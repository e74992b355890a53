-- Each is told from the records by what it says of one transaction, of one item, or of the epoch.
use Rattle.std.proofs.Common.{◌≡◌, ℤ, pos, true, [], ◌∷◌, refl, ap, arith}
use Rattle.std.specs.Ordering.{int_eq}
use Rattle.std.proofs.lemmas.Bool.{false≢true}
use Rattle.std.proofs.lemmas.Option.{none-some}
use Rattle.pv_base.specs.Canonical.{canonical_cases}
use Rattle.pv_law_compaction.proofs.naive.naive_ways_dont_stand.Goals as goal
use Rattle.pv_law_step.specs.Examples.{txn_at}
use Rattle.pv_protocol.specs.Shown.{shown_within}

pub returns : goal.returns
unfolding canonical_cases shown_within
returns c = record {
  commits = λ stands. none-some true (stands.commits (txn_at 0 0) refl refl refl);
  promises = λ stands. false≢true (stands.promises (txn_at 0 0) refl refl refl);
  values = λ stands.
      let same : pos 50 ≡ pos 60 = stands.values 1 refl (txn_at 0 0 ∷ []) (λ t outcome given is. absurd (none-some outcome is)) in
      false≢true (ap (λ (value : ℤ). int_eq (pos 60) value) same);
  epoch = λ stands. let same : 0 ≡ 1 = stands.epoch in omega (arith, same);
}
