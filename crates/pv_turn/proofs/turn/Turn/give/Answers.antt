use Rattle.std.proofs.Common.{rules, ◌∷◌, Some, ap, sym, subst, ◌∙◌}
use mathlib.Core.List.{IsPrefix}
use Rattle.atomic_table.specs.Table.{rest}
use Rattle.pv_turn.proofs.StepLemmas.{sets_back_at, releases_turn_at}
use Rattle.pv_turn.proofs.turn.Turn.give.Goals as goal

pub store-requires : goal.store-requires
store-requires g c =
    let same = c.exchange.ensures.3 in
    let seen = ap (λ m. m.0.seen) same in (
      search rules,
      search rules,
      sets_back_at g.V.Entries.entries _ _ _ _ c.exchange.new.seat.me c.args.value
          (ap (λ m. m.0.stage) same ∙ c.requires.holds.0) (ap (λ m. m.0.parts) same ∙ c.args.seat.now.one_part)
          (subst (λ log. IsPrefix log (g.V.Entries.entries c.args.value)) (sym seen) c.requires.entries) c.count-count.ensures
          (ap (λ m. m.1) same ∙ ap (λ hand. (0, Some c.args.value) ∷ rest hand) c.requires.holds.1),
    )

pub store-requires-2 : goal.store-requires-2
store-requires-2 g c =
    let before = c.exchange.ensures.3 in
    let hand = ap (λ m. m.1) before ∙ ap (λ hand. (0, Some c.args.value) ∷ rest hand) c.requires.holds.1 in
    let same = c.store.ensures.2 c.args.value hand in (
      search rules,
      search rules,
      releases_turn_at g.V.Entries.entries _ _ _ c.store.new.seat.me
          (ap (λ m. m.0.stage) same) (ap (λ m. m.0.parts) same ∙ (ap (λ m. m.0.parts) before ∙ c.args.seat.now.one_part)) (ap (λ m. m.1) same),
    )
