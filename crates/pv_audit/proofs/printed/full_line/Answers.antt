-- The words behind the first are a site and a length.
use Rattle.std.proofs.Common.{ℕ, List, [], ◌∷◌, refl, sym, ap₂, ◌∙◌, arith}
use Rattle.std.specs.Fmt.{decimal}
use Rattle.pv_audit.proofs.CutLemmas.{same-head}
use Rattle.pv_audit.proofs.PartsLemmas.{behind}
use Rattle.pv_audit.proofs.printed.full_line.Goals as goal

pub returns-in_err-first : goal.returns-in_err-first
returns-in_err-first c = rw c.from_residual.ensures (λ catalog x has. c.in_err-first.ensures.none (decimal x.0) (decimal x.1) has.are)

pub returns-in_err-site : goal.returns-in_err-site
returns-in_err-site c = rw c.from_residual-in_err-site.ensures (λ catalog x has. c.in_err-site.ensures.none x.0 has.within.0 (same-head (sym c.in_ok-first.ensures.some ∙ has.are)))

pub returns-in_err-length : goal.returns-in_err-length
returns-in_err-length c = rw c.from_residual-in_err-length.ensures (λ catalog x has.
    c.in_err-length.ensures.none x.1 (omega (arith, has.within.1)) (same-head (behind (sym c.in_ok-first.ensures.some ∙ has.are))))

pub returns : goal.returns
returns c = λ catalog. (
  (c.in_ok-site.site.0, c.in_ok-length.length),
  record {
    are = c.in_ok-first.ensures.some ∙ ap₂ (λ (first second : List ℕ). first ∷ (second ∷ [])) c.in_ok-site.ensures.site c.in_ok-length.ensures.number;
    items = tt;
    within = (c.in_ok-site.ensures.within, omega (arith, c.in_ok-length.ensures.small));
  },
  refl,
)
