-- What is taken of the releases.
use Rattle.std.proofs.Common.{ℕ, ◌≤◌, List, [], ◌∷◌, Result, Ok, Err, All, sym, subst}
use Rattle.std.proofs.lemmas.List.Elements.{All-tail}
use Rattle.pv_embed_outbox.specs.Hosted.{TakesFirst}
use Rattle.pv_embed_outbox.specs.declared.fault.TakeFault.{TakeFault}
use Rattle.pv_embed_outbox.specs.declared.fault.TakeFault.TheVariants.{Nothing, Unwritten}
use Rattle.pv_embed_outbox.specs.declared.release.Release.{Release}

-- What is left was no longer than what there was.
pub no_longer_left : (stored most : ℕ) (old new : List Release) (result : Result ℕ TakeFault) → TakesFirst stored old new result
    → All (λ (release : Release). release.length ≤ most) old → All (λ (release : Release). release.length ≤ most) new
no_longer_left stored most [] new result takes within = subst (All (λ (release : Release). release.length ≤ most)) (sym takes.1) within
no_longer_left stored most (first ∷ later) new (Err Nothing) takes within = absurd takes
no_longer_left stored most (first ∷ later) new (Err Unwritten) takes within = subst (All (λ (release : Release). release.length ≤ most)) (sym takes.1) within
no_longer_left stored most (first ∷ later) new (Ok output) takes within =
    subst (All (λ (release : Release). release.length ≤ most)) (sym takes.2) (All-tail (λ (release : Release). release.length ≤ most) first later within)
