-- What the history of the client's site says of each request, and what the client finds of each item that it looks at.
use Rattle.std.proofs.Common.{ℕ, List, All, length, sym, subst, ◌∙◌}
use Rattle.pv_history.specs.Entries.{stamps_of}
use Rattle.pv_history.specs.declared.entry.Entry.{Entry}
use Rattle.pv_opening.specs.Opening.{IsHere}
use Rattle.pv_script.specs.declared.live.Wish.{Wish}
use Rattle.pv_told.specs.Lines.{AreLinesOf}
use Rattle.pv_closing.proofs.LineLemmas.{all-heard}
use Rattle.pv_closing.proofs.LookLemmas.{no-looks}
use Rattle.pv_closing.specs.Lines.{HaveLooked}
use Rattle.pv_closing.proofs.lines.lines_by.Goals as goal

pub put_looks-requires-clause-here : goal.put_looks-requires-clause-here
put_looks-requires-clause-here g c =
    let of = c.args.of.now in
    let client = c.args.client.now in
    subst (λ (wishes : List Wish). All (IsHere of.site.catalog.items of.site.me) wishes) (sym c.deref.ensures.value)
    (subst (λ (me : ℕ). All (IsHere of.site.catalog.items me) client.requests.items) (sym c.requires.site) c.requires.here)

pub put_looks-requires-clause-said : goal.put_looks-requires-clause-said
put_looks-requires-clause-said g c =
    no-looks c.args.client.now.site.0 c.is_worn.result (stamps_of c.history.result.now) c.args.place _ c.in_ok-lines.lines.items c.in_ok-lines.ensures

pub returns : goal.returns
returns g c =
    let of = c.args.of.now in
    let client = c.args.client.now in
    let place = c.args.place in
    let worn = c.is_worn.result in
    let said = c.in_ok-lines.lines.items in
    let wishes = client.requests.items in
    let count = length wishes in
    all-heard of place worn c.is_worn.ensures.0 c.is_worn.ensures.1 client said _
    (subst (λ (me : ℕ). AreLinesOf me worn (stamps_of of.history.items) place count said) (sym c.requires.site)
    (subst (λ (entries : List Entry). AreLinesOf client.site.0 worn (stamps_of entries) place count said) c.history.ensures
    (subst (λ (n : ℕ). AreLinesOf client.site.0 worn (stamps_of c.history.result.now) place n said) (c.len-wishes.ensures ∙ client.requests.ok.0) c.in_ok-lines.ensures)))
    (subst (λ (ws : List Wish). HaveLooked of ws said (length ws) c.put_looks.new.lines.items) c.deref.ensures.value c.put_looks.ensures)
