use Rattle.std.proofs.Common.{◌≡◌, ℕ, ◌++◌, ◌∷◌, Option, take, drop, length, sym, ap, ◌∙◌}
use Rattle.std.specs.List.{position_or_len}
use Rattle.std.specs.Option.{unwrap_or}
use Rattle.pv_coord.proofs.TakenLemmas.{is_later, with-place, unwrapped}
use Rattle.pv_coord.proofs.entry.place_of.Goals as goal

pub returns-clause-place : goal.returns-clause-place
returns-clause-place c = λ grant is.
    let taken = c.args.taken.now in
    let place : c.unwrap_or.result ≡ position_or_len (is_later c.args.site.0) taken =
    c.unwrap_or.ensures ∙ ap (λ (o : Option ℕ). unwrap_or o (length taken)) c.later_than.ensures ∙ unwrapped (is_later c.args.site.0) taken in
    with-place grant taken
    ∙ ap (λ (site : ℕ). take (position_or_len (is_later site) taken) taken ++ grant ∷ drop (position_or_len (is_later site) taken) taken) is
    ∙ ap (λ (n : ℕ). take n taken ++ grant ∷ drop n taken) (sym place)
