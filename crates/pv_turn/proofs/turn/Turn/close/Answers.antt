use Rattle.std.proofs.Common.{IsSome, refl, sym, subst, ◌∙◌}
use Rattle.std.proofs.lemmas.List.Elements.{All-weaker}
use mathlib.Core.List.{IsPrefix}
use base.Growing.{prefix_trans}
use Rattle.pv_turn.specs.Seats.{BeginsWith, seen}
use Rattle.pv_turn.proofs.StepLemmas.{closes, one_value}
use Rattle.pv_turn.proofs.turn.Turn.close.Goals as goal

pub unwrap-value-requires : goal.unwrap-value-requires
unwrap-value-requires g c =
    let whole = c.gather-whole.ensures in
    let found = closes g.V.Entries.entries _ _ c.gather-whole.result.me.0 _ _ c.take.result whole.rests.0 (whole.whole ∙ c.requires.whole)
    c.close_with-closed.ensures.values.2 c.take.ensures.value in
    subst IsSome (sym found.1) refl

pub returns : goal.returns
returns g c =
    let whole = c.gather-whole.ensures in
    let found = closes g.V.Entries.entries _ _ c.gather-whole.result.me.0 _ _ c.take.result whole.rests.0 (whole.whole ∙ c.requires.whole)
    c.close_with-closed.ensures.values.2 c.take.ensures.value in
    let value = c.unwrap-value.result in
    let same = one_value g.V.Entries.entries found.0 value (sym found.1 ∙ c.unwrap-value.ensures) in
    let begins = subst (λ v. IsPrefix c.gather-whole.result.me.0.seen (g.V.Entries.entries v)) same found.2 in
    All-weaker (BeginsWith c.gather-whole.result.me.0.seen) (BeginsWith (g.V.Entries.entries value))
    (λ seat its. prefix_trans (seen seat) c.gather-whole.result.me.0.seen (g.V.Entries.entries value) its begins) c.args.seats.items whole.seen
