use Rattle.std.proofs.Common.{◌++◌, All, IfSome, option_to_list, length, ap, sym, subst, ◌∙◌, arith}
use Rattle.std.proofs.lemmas.List.Elements.{All-push, All-pop}
use mathlib.Core.List.{IsPrefix}
use base.Growing.{prefix_trans}
use Rattle.pv_turn.specs.Seats.{IsSeatOf, Rests, BeginsWith}
use Rattle.pv_turn.specs.declared.seat.Seat.{Seat}
use Rattle.pv_turn.proofs.StepLemmas.{joins_seat, looks_at}
use Rattle.pv_turn.proofs.turn.Turn.gather.Goals as goal

pub loop-token-init : goal.loop-token-init
loop-token-init g c =
    let Mine = λ (seat : Seat g.row.V.Denot g.row.V-Entry.Denot). IsSeatOf c.args.self.now seat × Rests seat in
    let seat = c.unwrap-whole.result in
    let popped = All-pop Mine c.args.seats.items c.pop.new.self.items c.pop.result c.pop.ensures.items c.requires.mine in
    let mine : Mine seat = subst (λ result. IfSome result Mine) c.unwrap-whole.ensures popped.1 in
    let shorter = c.pop.ensures.len in
    let one = ap (λ result. length (option_to_list result)) c.unwrap-whole.ensures in
    let part = seat.one_part in (
      mine.0,
      mine.1.0,
      mine.1.1,
      omega arith,
      popped.0,
      λ more begins left. subst (All (BeginsWith more)) (sym (c.pop.ensures.items ∙ ap (λ result. c.pop.new.self.items ++ option_to_list result) c.unwrap-whole.ensures))
          (All-push (BeginsWith more) c.pop.new.self.items seat left begins),
    )

pub join_seat-requires : goal.join_seat-requires
join_seat-requires g c =
    let Mine = λ (seat : Seat g.row.V.Denot g.row.V-Entry.Denot). IsSeatOf c.args.self.now seat × Rests seat in
    let kept = c.loop-token.invariant in
    let popped = All-pop Mine c.loop-token.seats.items c.pop-in-loop-token.new.self.items c.pop-in-loop-token.result c.pop-in-loop-token.ensures.items kept.4 in
    let mine : Mine c.in-Some.field-0 = subst (λ result. IfSome result Mine) c.in-Some.is popped.1 in
    let sized = c.args.self.now.sized.0 in
    (kept.0, mine.0, mine.1.1, omega arith, joins_seat g.V.Entries.entries _ _ _ c.loop-token.whole.me.0 c.in-Some.field-0.token.me.0 kept.1 mine.1.0)

pub load-requires : goal.load-requires
load-requires g c =
    let kept = c.loop-token.invariant in
    let joined = c.join_seat.ensures.2 in
    let sized = c.args.self.now.sized.0 in (
      c.join_seat.ensures.0 ∙ kept.0,
      omega arith,
      looks_at g.V.Entries.entries _ _ _ c.join_seat.new.seat.me (ap (λ m. m.0.stage) joined) (ap (λ m. m.1) joined ∙ kept.2),
    )

pub loop-token-preserved : goal.loop-token-preserved
loop-token-preserved g c =
    let Mine = λ (seat : Seat g.row.V.Denot g.row.V-Entry.Denot). IsSeatOf c.args.self.now seat × Rests seat in
    let kept = c.loop-token.invariant in
    let seat = c.in-Some.field-0 in
    let popped = All-pop Mine c.loop-token.seats.items c.pop-in-loop-token.new.self.items c.pop-in-loop-token.result c.pop-in-loop-token.ensures.items kept.4 in
    let joined = c.join_seat.ensures.2 in
    let looked = c.load.ensures.2 in
    let log = looked.0 in
    let whole_grows : IsPrefix c.loop-token.whole.me.0.seen log = subst (λ seen. IsPrefix seen log) (ap (λ m. m.0.seen) joined) looked.2 in
    let seat_grows : IsPrefix seat.token.me.0.seen log = subst (λ seen. IsPrefix seen log) (ap (λ m. m.0.told) joined) looked.3 in
    let parts = ap (λ m. m.0.parts) looked.1 ∙ ap (λ m. m.0.parts) joined in
    let part = seat.one_part in
    let shorter = c.pop-in-loop-token.ensures.len in
    let one = ap (λ result. length (option_to_list result)) c.in-Some.is in
    let sum = kept.3 in (
      c.load.ensures.0 ∙ (c.join_seat.ensures.0 ∙ kept.0),
      ap (λ m. m.0.stage) looked.1,
      ap (λ m. m.1) looked.1,
      omega arith,
      popped.0,
      λ more begins left.
          let begins' : IsPrefix log more = subst (λ seen. IsPrefix seen more) (ap (λ m. m.0.seen) looked.1) begins in
          kept.5 more (prefix_trans c.loop-token.whole.me.0.seen log more whole_grows begins')
          (subst (All (BeginsWith more))
          (sym (c.pop-in-loop-token.ensures.items ∙ ap (λ result. c.pop-in-loop-token.new.self.items ++ option_to_list result) c.in-Some.is))
          (All-push (BeginsWith more) c.pop-in-loop-token.new.self.items seat left (prefix_trans seat.token.me.0.seen log more seat_grows begins'))),
    )
