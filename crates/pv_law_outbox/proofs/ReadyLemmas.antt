-- Where an output is next, not none is ready.
use Rattle.std.proofs.Common.{ℕ, List, [], ◌∷◌, ◌++◌, subst}
use Rattle.std.proofs.lemmas.List.Elements.{All-head, All-tail}
use Rattle.pv_law_outbox.specs.Ready.{IsNext, IsReady, NoneReady}
use Rattle.pv_law_outbox.specs.State.{Held, State}

none-at : (state : State) (earlier later : List Held) (entry : Held) → NoneReady state (earlier ++ entry ∷ later) → IsReady state entry → ⊥
none-at state [] later entry none = All-head (λ (one : Held). IsReady state one → ⊥) entry later none
none-at state (other ∷ earlier) later entry none =
    none-at state earlier later entry (All-tail (λ (one : Held). IsReady state one → ⊥) other (earlier ++ entry ∷ later) none)

pub next-none : (state : State) (output : ℕ) → NoneReady state state.held → IsNext state output → ⊥
next-none state output none next = none-at state next.earlier next.later next.entry (subst (NoneReady state) next.held none) next.ready
