use Rattle.std.proofs.Common.{[], ◌∷◌, ◌++◌, sym, subst, ◌∙◌}
use Rattle.pv_crew.specs.Dealing.{AreDealt}
use Rattle.pv_crew.proofs.DealingLemmas.{dealt-more}
use Rattle.pv_crew.proofs.dealing.deal.Goals as goal

pub hand_out-requires : goal.hand_out-requires
hand_out-requires g c = sym c.in-Ok.seats.ok.0 ∙ c.in-Ok.ensures.count.1 ∙ sym c.requires.rounds

pub returns : goal.returns
returns g c = λ sites values dealt.
    let entries = g.V.Entries.entries in
    let value = c.args.value in
    let turn = c.in-Ok.turn in
    let seats = c.in-Ok.seats in
    subst (λ l. AreDealt entries sites c.args.workers (values ++ value ∷ []) l c.hand_out.new.rounds.items) (sym c.in_ok-push.ensures.items)
    (dealt-more entries sites c.args.workers values c.args.turns.now.items value turn seats.items c.args.rounds.now.items c.hand_out.new.rounds.items dealt
    c.in-Ok.ensures.count.0 (sym seats.ok.0 ∙ c.in-Ok.ensures.count.1) c.in-Ok.ensures.seats c.in_ok-hand_out.ensures)
