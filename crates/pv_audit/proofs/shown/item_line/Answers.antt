-- An item is its name and what stands behind it.
use Rattle.std.proofs.Common.{ℕ, List, ◌∷◌, refl, sym, ap₂, ◌∙◌}
use Rattle.pv_audit.specs.FirstWords.{ItemValue}
use Rattle.pv_audit.proofs.CutLemmas.{same-head}
use Rattle.pv_audit.proofs.ItemNameLemmas.{found-item, no-item}
use Rattle.pv_audit.proofs.ShownLemmas.{item-has, item-words, unreadable-rest}
use Rattle.pv_script.specs.LineFaults.{texts}
use Rattle.pv_script.specs.LineView.{line_of}
use Rattle.pv_audit.proofs.shown.item_line.Goals as goal

pub returns-in_default-find : goal.returns-in_default-find
returns-in_default-find c = λ x has.
    no-item c.args.catalog.now c.in-Some.name.now x.0 (sym c.in_default-find.ensures) (item-has c.args.catalog.now x.0 x.1 has.items)
    (same-head (sym c.in-Some.ensures.some ∙ has.are ∙ item-words c.args.catalog.now x.0 x.1))

pub returns-in-Some-unreadable_line : goal.returns-in-Some-unreadable_line
returns-in-Some-unreadable_line c =
    let found = found-item c.args.catalog.now c.in-Some.name.now c.in-Some-find.item.0 (sym c.in-Some-find.ensures) in
    unreadable-rest c.args.catalog.now (texts c.args.words.now) c.in-Some.name.now (texts c.in-Some.value.now) c.in-Some-find.item.0 (line_of c.in-Some-unreadable_line.line)
    c.in-Some.ensures.some found.1 found.0 c.in-Some-unreadable_line.ensures

pub returns : goal.returns
returns c =
    let found = found-item c.args.catalog.now c.in-Some.name.now c.in-Some-find.item.0 (sym c.in-Some-find.ensures) in
    let cases = rw c.in-Some-2.is at c.in_ok-cases.ensures in (
      (c.in-Some-find.item.0, ItemValue.cases c.in-Some-2.cases.items),
      record {
        are = c.in-Some.ensures.some ∙ ap₂ (λ (w : List ℕ) (ws : List (List ℕ)). w ∷ ws) found.1 cases.0;
        items = found.0;
        within = cases.1;
      },
      refl,
    )
