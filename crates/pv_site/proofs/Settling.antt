-- The parts of a site with one record more: the replies that are kept stay what the programs reply.
use Rattle.std.proofs.Common.{◌≡◌, List, [], ◌∷◌, ◌++◌, Option, Some, None, sym, ap, subst, ◌∙◌}
use Rattle.std.specs.Prelude.{All}
use Rattle.std.proofs.lemmas.List.Elements.{All-weaker}
use Rattle.pv_base.specs.Catalog.{Declared}
use Rattle.pv_base.specs.Polyvalue.{Case, value_at}
use Rattle.pv_base.specs.declared.reply.Reply.{Reply}
use Rattle.pv_base.specs.declared.txn.TxnId.{TxnId}
use Rattle.pv_coord.specs.Work.{Work}
use Rattle.pv_format.specs.Record.{Record}
use Rattle.pv_law_step.proofs.OutcomeLemmas.{choice-more, with_recorded}
use Rattle.pv_model.specs.Alternatives.{rows_at}
use Rattle.pv_model.specs.Meaning.{exec}
use Rattle.pv_protocol.specs.Coordinate.{reads_of, reply_after}
use Rattle.pv_protocol.specs.State.{Entry}
use Rattle.pv_site.specs.SiteParts.{AreTied, IsReplyOf, IsWorkOf, here_of}
use Rattle.pv_site.specs.declared.parts.SiteParts.{SiteParts}
use Rattle.pv_store.specs.Kept.{Kept}

module _ (records : List Record) (more : Record) where
  -- What a program replies by one record more is what it replies where the record's outcome is assigned.
  pub reply-told : (entry : Entry) (a : List TxnId) → reply_after (records ++ more ∷ []) entry a ≡ reply_after records entry (with_recorded more a)
  reply-told entry a = ap (λ (b : List TxnId). (exec entry.program (rows_at (reads_of entry) b)).reply) (choice-more records more a)

  -- A reply that is kept stays what the program replies.
  pub reply-more : (entry : Entry) (reply : Option (List (Case Reply))) → IsReplyOf records entry reply → IsReplyOf (records ++ more ∷ []) entry reply
  reply-more entry None is = is
  reply-more entry (Some reply) is = (
    is.0,
    λ a. ap (value_at reply) (choice-more records more a) ∙ is.1 (with_recorded more a) ∙ ap Some (sym (reply-told entry a)),
  )

  -- A work stays one of the site.
  pub work-more : (catalog : Declared) (work : Work) → IsWorkOf catalog records work → IsWorkOf catalog (records ++ more ∷ []) work
  work-more catalog work is = record { plan = is.plan; taken = is.taken; stage = is.stage; reply = reply-more work.entry work.reply is.reply }

-- The same parts but for the store, which has one record more.
module _ (parts : SiteParts) (store : Kept) (more : Record) where
  pub tied-more : AreTied parts → store.site ≡ parts.store.site → store.catalog ≡ parts.store.catalog → store.records ≡ parts.store.records ++ more ∷ []
      → AreTied (record parts { store = store })
  tied-more tied site catalog records = record {
    store_site = site ∙ tied.store_site;
    store_catalog = catalog ∙ tied.store_catalog;
    coord_site = tied.coord_site;
    epochs = tied.epochs;
    order = tied.order;
    works = subst (λ (kept : List Record). All (IsWorkOf parts.catalog kept) parts.coord.contents.entries) (sym records)
        (All-weaker (IsWorkOf parts.catalog parts.store.records) (IsWorkOf parts.catalog (parts.store.records ++ more ∷ []))
        (work-more parts.store.records more parts.catalog) parts.coord.contents.entries tied.works);
  }

  pub here-more : store.records ≡ parts.store.records ++ more ∷ [] → here_of (record parts { store = store }) ≡ record (here_of parts) { records = parts.store.records ++ more ∷ [] }
  here-more is = ap (λ (kept : List Record). record (here_of parts) { records = kept }) is
