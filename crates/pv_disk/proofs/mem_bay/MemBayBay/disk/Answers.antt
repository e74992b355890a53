use Rattle.std.proofs.Common.{◌≡◌, Some, slice_get, slice_set, arith, ap, sym, ◌∙◌}
use Rattle.std.proofs.lemmas.Option.{slice_get_read}
use Rattle.std.specs.Prelude.{option_map}
use Rattle.pv_disk.proofs.BayLemmas.{is_in, handed_out}
use Rattle.pv_disk.specs.MemBay.{MemBerth, MemBayState}
use Rattle.pv_disk.proofs.mem_bay.MemBayBay.disk.Goals as goal

pub hand_out-requires : goal.hand_out-requires
hand_out-requires c =
    let items = c.self.inside.berths.items in
    let here : slice_get c.args.self.now.berths c.args.site.0 ≡ Some c.index_mut.result.now =
    ap (λ (bay : MemBayState). slice_get bay.berths c.args.site.0) (sym c.self.view_is)
    ∙ slice_get_read items _ c.args.site.0 c.index_mut.result.now c.self.inside.berths.ok.0 (omega (arith, c.if-at-len.false, c.len.ensures)) c.index_mut.ensures.value in
    is_in c.args.self.now c.args.site.0 c.index_mut.result.now here c.requires

pub returns-clause-effect : goal.returns-clause-effect
returns-clause-effect c =
    let items = c.self.inside.berths.items in
    let here : slice_get c.args.self.now.berths c.args.site.0 ≡ Some c.index_mut.result.now =
    ap (λ (bay : MemBayState). slice_get bay.berths c.args.site.0) (sym c.self.view_is)
    ∙ slice_get_read items _ c.args.site.0 c.index_mut.result.now c.self.inside.berths.ok.0 (omega (arith, c.if-at-len.false, c.len.ensures)) c.index_mut.ensures.value in
    handed_out c.args.self.now _ c.args.site.0 c.index_mut.result.now c.hand_out.new.self c.hand_out.result here c.hand_out.ensures.out
    (ap (λ (bay : MemBayState). record bay { berths = slice_set bay.berths c.args.site.0 c.hand_out.new.self }) c.self.view_is) c.hand_out.ensures.disk c.hand_out.ensures.unfailed

pub returns-clause-disk : goal.returns-clause-disk
returns-clause-disk c =
    let items = c.self.inside.berths.items in
    let here : slice_get c.args.self.now.berths c.args.site.0 ≡ Some c.index_mut.result.now =
    ap (λ (bay : MemBayState). slice_get bay.berths c.args.site.0) (sym c.self.view_is)
    ∙ slice_get_read items _ c.args.site.0 c.index_mut.result.now c.self.inside.berths.ok.0 (omega (arith, c.if-at-len.false, c.len.ensures)) c.index_mut.ensures.value in
    ap (option_map (λ (berth : MemBerth). berth.last)) here ∙ ap Some (sym c.hand_out.ensures.disk)
