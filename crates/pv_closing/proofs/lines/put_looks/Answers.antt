-- One look after another is put.
use Rattle.std.proofs.Common.{◌≡◌, ◌∙◌, ◌||◌, ℕ, Bool, ◌<◌, ◌+◌, [], ◌∷◌, suc, length, take, refl, sym, ap, subst, arith}
use Rattle.pv_opening.specs.Opening.{IsHere}
use Rattle.pv_script.specs.declared.live.Wish.{Wish}
use Rattle.pv_told.specs.declared.line.ClientLine.{ClientLine}
use Rattle.pv_closing.proofs.LookLemmas.{asked-next, looked-more, looked-none}
use Rattle.pv_closing.proofs.lines.put_looks.Goals as goal
use Rattle.pv_closing.specs.Lines.{HaveLooked, IsNoLook, has_request, looked_after}

pub loop-at-init : goal.loop-at-init
loop-at-init g c = record { looked = looked-none c.args.of.now c.args.wishes.now c.args.lines.now.items; asked = refl }

pub put_look-requires-clause-here : goal.put_look-requires-clause-here
put_look-requires-clause-here g c =
    let of = c.args.of.now in
    let wish = c.index-wishes-at.result in
    subst (λ (one : Wish). IsHere of.site.catalog.items of.site.me one) (sym c.index-wishes-at.is)
    (c.requires.here c.loop-at.at wish c.loop-at-test.true)

pub put_look-requires-clause-said : goal.put_look-requires-clause-said
put_look-requires-clause-said g c =
    let line = c.index_mut.result.now in
    let at = c.loop-at.at in
    subst (λ (one : ClientLine). IsNoLook one) (sym (c.index_mut.ensures.value ∙ c.loop-at.invariant.looked.left at line (omega arith)))
    (c.requires.said at line (omega (arith, c.loop-at-test.true, c.requires.count)))

pub loop-at-preserved : goal.loop-at-preserved
loop-at-preserved g c =
    let of = c.args.of.now in
    let wishes = c.args.wishes.now in
    let at = c.loop-at.at in
    let wish = c.index-wishes-at.result in
    let again = c.index-wishes-at-in-loop-at.result in
    let within : at < length wishes = c.loop-at-test.true in
    let more : suc at ≡ at + 1 = omega arith in
    record {
      looked = looked-more of wishes c.args.lines.now.items c.requires.count at c.loop-at.lines.items c.loop-at.invariant.looked within wish
          c.index_mut.result.now c.put_look.new.line c.index-wishes-at.is c.index_mut.ensures.value c.put_look.ensures.told
          (λ peek is. c.put_look.ensures.steps peek is ∙ ap (looked_after of) c.loop-at.invariant.asked);
      asked = c.asks-asked.ensures ∙ ap (λ (b : Bool). b || has_request (again ∷ [])) c.loop-at.invariant.asked
          ∙ sym (asked-next wishes at again c.index-wishes-at-in-loop-at.is within) ∙ ap (λ (n : ℕ). has_request (take n wishes)) more;
    }

pub returns : goal.returns
returns g c =
    let done : c.loop-at.at ≡ length c.args.wishes.now = omega (arith, c.loop-at-test.false, c.loop-at.auto.at-end) in
    subst (λ (n : ℕ). HaveLooked c.args.of.now c.args.wishes.now c.args.lines.now.items n c.loop-at.lines.items) done c.loop-at.invariant.looked
