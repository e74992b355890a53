-- Clients whose rings were looked at are the clients that they were.
use Rattle.std.proofs.Common.{◌≡◌, ℕ, ◌<◌, List, length, get_or, set, refl, sym, subst, ◌∙◌}
use Rattle.pv_closing.specs.Ended.{AskOn, AsksOn}
use Rattle.pv_closing.specs.declared.ended.Ended.{Ended}
use Rattle.pv_post.specs.Ends.{SameOut}
use Rattle.pv_post.specs.declared.outlet.Out.{Out}
use Rattle.pv_rings.proofs.EachLemmas.{each-self, each-set, each-weaker, get_or-any}
use Rattle.pv_cluster.specs.Looks.{AllLooked, IsLooked}

module _ {M : Type 0} where
  pub out-self : (out : Out M) → SameOut out out
  out-self out = (((refl, refl, refl, refl), refl), refl)

  pub out-further : (a b c : Out M) → SameOut a b → SameOut b c → SameOut a c
  out-further a b c one other =
      (((other.0.0.0 ∙ one.0.0.0, other.0.0.1 ∙ one.0.0.1, other.0.0.2 ∙ one.0.0.2, other.0.0.3 ∙ one.0.0.3), other.0.1 ∙ one.0.1), other.1 ∙ one.1)

looked-further : (a b c : Ended) → IsLooked a b → IsLooked b c → IsLooked a c
looked-further a b c one other =
    ((other.0.0 ∙ one.0.0, out-further a.asks b.asks c.asks one.0.1 other.0.1), other.1 ∙ one.1, other.2 ∙ one.2)

pub all-unlooked : (clients : List Ended) → AllLooked clients clients
all-unlooked clients = each-self (λ (k : ℕ) (one other : Ended). IsLooked one other) clients (λ k one less. ((refl, out-self one.asks), refl, refl))

-- One of them is looked at.
pub one-looked : (old mid : List Ended) (at : ℕ) (x y : Ended) → AllLooked old mid → at < length mid → x ≡ get_or mid at x → IsLooked x y
    → AllLooked old (set mid at y)
one-looked old mid at x y all within is looked =
    each-set (λ (k : ℕ) (one other : Ended). IsLooked one other) (λ (k : ℕ) (one other : Ended). IsLooked one other) old mid at y all
    (subst (λ (n : ℕ). at < n) (sym all.0) within)
    (λ d e before.
    looked-further (get_or old at d) x y (subst (λ (v : Ended). IsLooked (get_or old at d) v) (get_or-any mid at x e within ∙ sym is) before) looked)
    (λ k one other isnt before. before)

-- They ask on.
pub looked-ask : (old new : List Ended) → AllLooked old new → AskOn old new
looked-ask old new all =
    each-weaker (λ (k : ℕ) (one other : Ended). IsLooked one other) (λ (k : ℕ) (one other : Ended). AsksOn one other) old new (λ k one other less looked. looked.0) all
