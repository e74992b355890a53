use Rattle.std.proofs.Common.{◌≡◌, ◌-◌, All, ap, sym, subst, ◌∙◌, arith}
use Rattle.std.proofs.lemmas.List.Elements.{All-push}
use Rattle.pv_turn.specs.Seats.{IsSeatOf, Rests, seen}
use Rattle.pv_turn.specs.declared.seat.Seat.{Seat}
use Rattle.pv_turn.proofs.StepLemmas.{splits_seat}
use Rattle.pv_turn.proofs.turn.Turn.deal.Goals as goal

pub split_seat-requires : goal.split_seat-requires
split_seat-requires g c =
    let kept = c.loop-left.invariant in
    let sized = c.args.self.now.sized.0 in
    let parts = kept.4 in
    let some_left = kept.5 in
    (kept.0 ∙ c.requires.mine, omega arith, splits_seat g.V.Entries.entries _ _ c.loop-left.first.me.0 kept.2 (omega arith))

pub loop-left-preserved : goal.loop-left-preserved
loop-left-preserved g c =
    let kept = c.loop-left.invariant in
    let left = c.split_seat.ensures.2 in
    let token = c.seat_of.ensures in
    let right = ap (λ t. t.me) token ∙ c.split_seat.ensures.4 in
    let more = c.loop-left-test.true in
    let longer = c.push_reserved.ensures.len in
    let sum = kept.6 in
    let room = kept.7 in
    let same_room = c.push_reserved.ensures.capacity in (
      c.split_seat.ensures.0 ∙ kept.0,
      ap (λ m. m.0.seen) left ∙ kept.1,
      ap (λ m. m.0.stage) left,
      ap (λ m. m.1) left ∙ kept.3,
      ap (λ m. m.0.parts) left ∙ ap (λ n. n - 1) kept.4,
      omega arith,
      omega arith,
      omega arith,
      subst (All (λ seat. IsSeatOf c.args.self.now seat × Rests seat × (seen seat ≡ c.args.first.me.0.seen))) (sym c.push_reserved.ensures.items)
          (All-push (λ (seat : Seat g.row.V.Denot g.row.V-Entry.Denot). IsSeatOf c.args.self.now seat × Rests seat × (seen seat ≡ c.args.first.me.0.seen))
          c.loop-left.dealt.items c.seat_of.result kept.8 (
            ap (λ t. t.table_id) token ∙ (c.split_seat.ensures.3 ∙ (kept.0 ∙ c.requires.mine)),
            (ap (λ m. m.0.stage) right, ap (λ m. m.1) right),
            ap (λ m. m.0.seen) right ∙ kept.1,
          )),
    )

pub returns-clause-seats : goal.returns-clause-seats
returns-clause-seats g c =
    let kept = c.loop-left.invariant in
    let token = c.seat_of-2.ensures in
    subst (All (λ seat. IsSeatOf c.args.self.now seat × Rests seat × (seen seat ≡ c.args.first.me.0.seen))) (sym c.push_reserved-2.ensures.items)
    (All-push (λ (seat : Seat g.row.V.Denot g.row.V-Entry.Denot). IsSeatOf c.args.self.now seat × Rests seat × (seen seat ≡ c.args.first.me.0.seen))
    c.loop-left.dealt.items c.seat_of-2.result kept.8 (
      ap (λ t. t.table_id) token ∙ (kept.0 ∙ c.requires.mine),
      (ap (λ t. t.me.0.stage) token ∙ kept.2, ap (λ t. t.me.1) token ∙ kept.3),
      ap (λ t. t.me.0.seen) token ∙ kept.1,
    ))
