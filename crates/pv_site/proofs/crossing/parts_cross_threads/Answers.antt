use Rattle.pv_site.proofs.SendLemmas.{parts_send}
use Rattle.pv_site.proofs.crossing.parts_cross_threads.Goals as goal

pub returns : goal.returns
returns c = parts_send
    (record { owned = c.sends.ensures.owned; leaving = λ k x w. tt })
    (record { owned = c.sends-2.ensures.owned; leaving = λ k x w. tt })
    (record { owned = c.sends-3.ensures.owned; leaving = λ k x w. tt })
    (record { owned = c.sends-4.ensures.owned; leaving = λ k x w. tt })
    (record { owned = c.sends-5.ensures.owned; leaving = λ k x w. tt })
