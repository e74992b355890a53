-- A beginning of the lines of a catalog: the parts before the one that found no memory, and what there is of that.
use Rattle.std.proofs.Common.{rules, ◌≡◌, ◌++◌, ap, codes}
use Rattle.std.specs.Prelude.{flat_map}
use Rattle.pv_model.specs.ReplyText.{line_feed}
use Rattle.pv_protocol.specs.LineText.{numbered_text}
use Rattle.pv_transcript.specs.Begins.{Begins}
use Rattle.pv_transcript.specs.ScheduleText.{catalog_text, item_line}
use Rattle.pv_transcript.proofs.HeldLemmas.{begun_first_as, begun_next, begun_next_as, begun_none, on_err}
use Rattle.pv_transcript.proofs.catalog.push_catalog.Goals as goal

pub returns-in_err-push_numbered-clause-begun : goal.returns-in_err-push_numbered-clause-begun
unfolding catalog_text
returns-in_err-push_numbered-clause-begun c =
    let old = c.args.text.now.items in
    let new = c.push_numbered.new.text.items in
    let catalog = c.args.catalog.now in
    let count : c.from.result ≡ catalog.sites = search rules in
    let behind = numbered_text (codes "journal") catalog.journal ++ (line_feed ++ flat_map item_line catalog.items) in
    on_err c.from_residual.result (Begins new (old ++ catalog_text catalog))
    (begun_first_as old (numbered_text (codes "sites") catalog.sites) (numbered_text (codes "sites") c.from.result) (line_feed ++ behind) new
    (ap (numbered_text (codes "sites")) count) c.in_err-push_numbered.ensures.begun)

pub returns-in_err-push_bytes-clause-begun : goal.returns-in_err-push_bytes-clause-begun
unfolding catalog_text
returns-in_err-push_bytes-clause-begun c =
    let old = c.args.text.now.items in
    let first = c.push_numbered.new.text.items in
    let new = c.push_bytes.new.text.items in
    let catalog = c.args.catalog.now in
    let count : c.from.result ≡ catalog.sites = search rules in
    let behind = numbered_text (codes "journal") catalog.journal ++ (line_feed ++ flat_map item_line catalog.items) in
    on_err c.from_residual-in_err-push_bytes.result (Begins new (old ++ catalog_text catalog))
    (begun_next_as old (numbered_text (codes "sites") catalog.sites) (numbered_text (codes "sites") c.from.result) (line_feed ++ behind) first new
    (ap (numbered_text (codes "sites")) count) c.in_ok-push_numbered.ensures.text
    (begun_none first (line_feed ++ behind) new c.in_err-push_bytes.ensures.unchanged))

pub returns-in_err-push_numbered-2-clause-begun : goal.returns-in_err-push_numbered-2-clause-begun
unfolding catalog_text
returns-in_err-push_numbered-2-clause-begun c =
    let old = c.args.text.now.items in
    let first = c.push_numbered.new.text.items in
    let mid = c.push_bytes.new.text.items in
    let new = c.push_numbered-2.new.text.items in
    let catalog = c.args.catalog.now in
    let count : c.from.result ≡ catalog.sites = search rules in
    let journal : c.journal.result ≡ catalog.journal = search rules in
    let items = line_feed ++ flat_map item_line catalog.items in
    let behind = numbered_text (codes "journal") catalog.journal ++ items in
    on_err c.from_residual-in_err-push_numbered-2.result (Begins new (old ++ catalog_text catalog))
    (begun_next_as old (numbered_text (codes "sites") catalog.sites) (numbered_text (codes "sites") c.from.result) (line_feed ++ behind) first new
    (ap (numbered_text (codes "sites")) count) c.in_ok-push_numbered.ensures.text
    (begun_next first line_feed behind mid new c.in_ok-push_bytes.ensures.text
    (begun_first_as mid (numbered_text (codes "journal") catalog.journal) (numbered_text (codes "journal") c.journal.result) items new
    (ap (numbered_text (codes "journal")) journal) c.in_err-push_numbered-2.ensures.begun)))

pub returns-in_err-push_bytes-2-clause-begun : goal.returns-in_err-push_bytes-2-clause-begun
unfolding catalog_text
returns-in_err-push_bytes-2-clause-begun c =
    let old = c.args.text.now.items in
    let first = c.push_numbered.new.text.items in
    let mid = c.push_bytes.new.text.items in
    let last = c.push_numbered-2.new.text.items in
    let new = c.push_bytes-2.new.text.items in
    let catalog = c.args.catalog.now in
    let count : c.from.result ≡ catalog.sites = search rules in
    let journal : c.journal.result ≡ catalog.journal = search rules in
    let items = line_feed ++ flat_map item_line catalog.items in
    let behind = numbered_text (codes "journal") catalog.journal ++ items in
    on_err c.from_residual-in_err-push_bytes-2.result (Begins new (old ++ catalog_text catalog))
    (begun_next_as old (numbered_text (codes "sites") catalog.sites) (numbered_text (codes "sites") c.from.result) (line_feed ++ behind) first new
    (ap (numbered_text (codes "sites")) count) c.in_ok-push_numbered.ensures.text
    (begun_next first line_feed behind mid new c.in_ok-push_bytes.ensures.text
    (begun_next_as mid (numbered_text (codes "journal") catalog.journal) (numbered_text (codes "journal") c.journal.result) items last new
    (ap (numbered_text (codes "journal")) journal) c.in_ok-push_numbered-2.ensures.text
    (begun_none last items new c.in_err-push_bytes-2.ensures.unchanged))))
