use Rattle.std.proofs.Common.{rules, Some, ◌∷◌, ap, sym, ◌∙◌}
use Rattle.atomic_table.specs.Table.{rest}
use Rattle.pv_turn.proofs.StepLemmas.{takes_turn_at}
use Rattle.pv_turn.proofs.turn.Turn.take.Goals as goal

pub compare_exchange-found-requires : goal.compare_exchange-found-requires
compare_exchange-found-requires g c = (
  c.loop.invariant.0 ∙ c.requires.mine,
  search rules,
  takes_turn_at g.V.Entries.entries _ _ _ c.loop.seat.token.me c.loop.seat.one_part (ap (λ m. m.1) c.loop.invariant.1 ∙ c.requires.rests.1),
)

pub exchange-requires : goal.exchange-requires
exchange-requires g c =
    let found = c.compare_exchange-found.ensures.2.0 c.if-found-eq0.true in
    let hand = ap (λ m. m.1) found.1 in
    (c.compare_exchange-found.ensures.0 ∙ (c.loop.invariant.0 ∙ c.requires.mine), (Some found.0, hand ∙ ap (λ l. (0, Some found.0) ∷ rest l) (sym hand)))
