-- Boxes go on, one after another.
use Rattle.std.proofs.Common.{◌≡◌, ℕ, ◌<◌, ◌+◌, List, All, length, get_or, set, refl, sym, subst, ◌∙◌, arith, get_or-set_same, get_or-set_other}
use mathlib.Core.Logic.{dite}
use native.Mathlib.Decide.{ℕ_discrete}
use Rattle.pv_disk_model.specs.LogModel.{LogModel}
use Rattle.pv_rings.proofs.EachLemmas.{get_or-any, each-trans, each-set}
use Rattle.pv_cell.specs.Box.{IsWorn}
use Rattle.pv_cell.specs.Course.{Became}
use Rattle.pv_cell.specs.Visits.{TakesTick, Visits}
use Rattle.pv_cell.specs.declared.site_box.SiteBox.{SiteBox}
use Rattle.pv_cell.specs.declared.visit.Visit.{Visit}
use Rattle.pv_cell.specs.declared.visit.Visit.TheVariants as visit
use Rattle.pv_closing.specs.Closing.{GoOn, GoesOn, IsQuiet, IsWhole}

module _ {W : Type 0} (M : LogModel W) where
  -- A worn box stays worn.
  pub worn-visited : (old new : SiteBox W) (answer : Visit) → Visits M old new answer → IsWorn old → IsWorn new
  worn-visited old new visit.Worn visits worn = subst IsWorn (sym visits.1) worn
  worn-visited old new visit.Idle visits worn = absurd (visits.0 worn)
  worn-visited old new visit.Took visits worn = absurd (visits.0 worn)
  worn-visited old new visit.Lost visits worn = absurd (visits.0 worn)
  worn-visited old new visit.Stray visits worn = absurd (visits.0 worn)

  pub worn-ticked : (old new : SiteBox W) (answer : Visit) → TakesTick M old new answer → IsWorn old → IsWorn new
  worn-ticked old new visit.Worn takes worn = subst IsWorn (sym takes.1) worn
  worn-ticked old new visit.Idle takes worn = absurd takes
  worn-ticked old new visit.Took takes worn = absurd (takes.0 worn)
  worn-ticked old new visit.Lost takes worn = absurd (takes.0 worn)
  worn-ticked old new visit.Stray takes worn = absurd takes

  -- Boxes that have gone on are whole.
  pub still-whole : (old new : List (SiteBox W)) → GoOn M old new → All (IsWhole M) new
  still-whole old new on k any within = (on.1 k any any (subst (λ (n : ℕ). k < n) (sym on.0) within)).0

  pub go-nowhere : ((box : SiteBox W) → Became M box box) → (boxes : List (SiteBox W)) → All (IsWhole M) boxes → GoOn M boxes boxes
  go-nowhere none boxes whole = (
    refl,
    λ k d e within. subst (λ (v : SiteBox W). GoesOn M (get_or boxes k d) v) (sym (get_or-any boxes k d e within)) (whole k d within, none (get_or boxes k d), λ worn. worn),
  )

  module _ (both : (old mid new : SiteBox W) → Became M old mid → Became M mid new → Became M old new) where
    pub go-further : (old mid new : List (SiteBox W)) → GoOn M old mid → GoOn M mid new → GoOn M old new
    go-further old mid new one other =
        each-trans (λ k x y. GoesOn M x y) (λ k x y. GoesOn M x y) (λ k x y. GoesOn M x y) old mid new
        (λ k x y z within first later. (later.0, both x y z first.1 later.1, λ worn. later.2 (first.2 worn))) one other

    -- One of them goes on.
    pub one-goes : (old mid : List (SiteBox W)) (at : ℕ) (x y : SiteBox W) → GoOn M old mid → at < length mid → x ≡ get_or mid at x → GoesOn M x y
        → GoOn M old (set mid at y)
    one-goes old mid at x y on within is goes =
        each-set (λ k one other. GoesOn M one other) (λ k one other. GoesOn M one other) old mid at y on (subst (λ (n : ℕ). at < n) (sym on.0) within)
        (λ d e before.
        let same : get_or mid at e ≡ x = get_or-any mid at x e within ∙ sym is in (
          goes.0,
          both (get_or old at d) x y (subst (λ (v : SiteBox W). Became M (get_or old at d) v) same before.1) goes.1,
          λ worn. goes.2 (subst IsWorn same (before.2 worn)),
        ))
        (λ k one other isnt before. before)

  -- So many of them are quiet.
  abbrev pub AreQuietTo : ℕ → List (SiteBox W) → Type 0
  AreQuietTo count boxes = (k : ℕ) (any : SiteBox W) → k < count → IsQuiet M (get_or boxes k any)

  -- One more is.
  pub quiet-more : (boxes : List (SiteBox W)) (at : ℕ) (y : SiteBox W) → at < length boxes → AreQuietTo at boxes → IsQuiet M y → AreQuietTo (at + 1) (set boxes at y)
  quiet-more boxes at y within before quiet k any less =
      dite (ℕ_discrete k at)
      (λ is. subst (λ (j : ℕ). IsQuiet M (get_or (set boxes at y) j any)) (sym is)
      (subst (IsQuiet M) (sym (get_or-set_same boxes at y any within)) quiet))
      (λ isnt. subst (IsQuiet M) (sym (get_or-set_other boxes at k y any isnt)) (before k any (omega (arith, isnt))))
