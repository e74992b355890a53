-- The line is that of the item of this name.
use Rattle.std.proofs.Common.{◌≡◌, ap, sym, subst, ◌∙◌, ℕ, List, Some, Ok}
use Rattle.std.specs.Option.{option_map}
use Rattle.pv_base.specs.Catalog.{Declared, place_of}
use Rattle.pv_base.specs.declared.catalog.ItemId.{ItemId}
use Rattle.pv_handle.proofs.ReadLemmas.{reads}
use Rattle.pv_handle.proofs.bytes.ByteSite.read.Goals as goal
use Rattle.pv_handle.specs.ByteSite.{ReadsBytes}
use Rattle.pv_handle.specs.ByteState.{ByteState}
use Rattle.pv_handle.specs.Given.{GivesBytes}
use Rattle.pv_handle.specs.Waiting.{waits_before}
use Rattle.pv_protocol.specs.LineText.{line_text}
use Rattle.pv_protocol.specs.Report.{item_line}
use Rattle.pv_world.specs.Readings.{reading_in}

pub returns : goal.returns
returns c =
    let hosted = c.self.inside.site in
    let name = c.args.name.now in
    let item = c.in-Some.item.0 in
    let found = c.in_ok-shown.shown in
    let place : place_of name hosted.site.catalog.items ≡ Some item =
    subst (λ (catalog : Declared). place_of name catalog.items ≡ Some item) c.catalog-catalog.ensures
    (sym c.find.ensures ∙ ap (option_map (λ (of : ItemId). of.0)) c.in-Some.is) in
    let text : c.in_ok-text.text.items ≡ line_text hosted.site.catalog (item_line item (reading_in hosted.site.me found)) =
    subst (λ (catalog : Declared). c.in_ok-text.text.items ≡ line_text catalog (item_line item (reading_in hosted.site.me found))) c.catalog-catalog.ensures
    (c.in_ok-text.ensures hosted.site.me) in
    let gives : GivesBytes c.in_ok-text.text.items 0 c.args.out.now c.give.new.out c.give.result =
    subst (λ (bytes : List ℕ). GivesBytes bytes 0 c.args.out.now c.give.new.out c.give.result) c.deref.ensures.value c.give.ensures in
    subst (λ (of : ByteState). ReadsBytes of.hosted name c.args.out.now c.give.new.out (Ok c.give.result)) c.self.view_is
    (reads hosted name c.args.out.now c.give.new.out (waits_before c.self.inside.waiting hosted.held) found item c.in_ok-text.text.items c.give.result c.in_ok-shown.ensures place text gives)
