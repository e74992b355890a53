use Rattle.std.proofs.Common.{◌++◌, option_to_list, length, ap, sym, subst, ◌∙◌}
use Rattle.std.proofs.lemmas.List.{length_push}
use Rattle.pv_turn.specs.Seats.{BeginsWith}
use Rattle.pv_crew.specs.Dealing.{AreReady}
use Rattle.pv_crew.proofs.ClosingLemmas.{ready-fewer, ready-seats, ready-some, ready-whole, such-seats}
use Rattle.pv_crew.proofs.closing.close_last.Goals as goal

pub take_back-requires : goal.take_back-requires
take_back-requires g c = ready-some c.args.turns.now.items c.args.rounds.now.items c.requires.ready c.requires.some

pub close-requires-clause-whole : goal.close-requires-clause-whole
close-requires-clause-whole g c =
    let turns = c.pop.new.self.items in
    let turn = c.unwrap-turn.result in
    let seats = c.in_ok-seats.seats in
    let old = c.args.rounds.now.items in
    let new = c.take_back.new.rounds.items in
    let popped = c.pop.ensures.items ∙ ap (λ r. turns ++ option_to_list r) c.unwrap-turn.ensures in
    let ready = subst (λ l. AreReady l old) popped c.requires.ready in
    seats.ok.0 ∙ ready-whole turns turn seats.items old new ready c.in_ok-seats.ensures.count c.in_ok-seats.ensures.seats

pub close-requires-clause-mine : goal.close-requires-clause-mine
close-requires-clause-mine g c =
    let turns = c.pop.new.self.items in
    let turn = c.unwrap-turn.result in
    let seats = c.in_ok-seats.seats in
    let old = c.args.rounds.now.items in
    let new = c.take_back.new.rounds.items in
    let popped = c.pop.ensures.items ∙ ap (λ r. turns ++ option_to_list r) c.unwrap-turn.ensures in
    let ready = subst (λ l. AreReady l old) popped c.requires.ready in
    ready-seats turns turn seats.items old new ready c.in_ok-seats.ensures.count c.in_ok-seats.ensures.seats

pub returns-clause-count : goal.returns-clause-count
returns-clause-count g c =
    let turns = c.pop.new.self.items in
    sym (ap (λ l. length l) (c.pop.ensures.items ∙ ap (λ r. turns ++ option_to_list r) c.unwrap-turn.ensures) ∙ length_push turns c.unwrap-turn.result)

pub returns-clause-ready : goal.returns-clause-ready
returns-clause-ready g c =
    let turns = c.pop.new.self.items in
    let turn = c.unwrap-turn.result in
    let seats = c.in_ok-seats.seats in
    let old = c.args.rounds.now.items in
    let new = c.take_back.new.rounds.items in
    let popped = c.pop.ensures.items ∙ ap (λ r. turns ++ option_to_list r) c.unwrap-turn.ensures in
    let ready = subst (λ l. AreReady l old) popped c.requires.ready in
    ready-fewer turns turn seats.items old new ready c.in_ok-seats.ensures.count c.in_ok-seats.ensures.seats

pub returns-clause-value : goal.returns-clause-value
returns-clause-value g c =
    let turns = c.pop.new.self.items in
    let turn = c.unwrap-turn.result in
    let seats = c.in_ok-seats.seats in
    let old = c.args.rounds.now.items in
    let new = c.take_back.new.rounds.items in
    let popped = c.pop.ensures.items ∙ ap (λ r. turns ++ option_to_list r) c.unwrap-turn.ensures in
    let ready = subst (λ l. AreReady l old) popped c.requires.ready in
    such-seats turns turn seats.items old new ready c.in_ok-seats.ensures.count c.in_ok-seats.ensures.seats
    (BeginsWith (g.V.Entries.entries c.close.result)) c.close.ensures
